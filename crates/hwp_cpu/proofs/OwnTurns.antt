-- A turn of a command's own task.
use Rattle.hwp_cpu_command.specs.hwp_cpu_access.declared.Copying.{Copying}
use Rattle.hwp_cpu_command.specs.Runs.{Runs}
use Rattle.hwp_cpu_row.specs.hwp_core_rule.declared.Made.{Made}
use Rattle.hwp_cpu_row.specs.hwp_geom.declared.VSlot.{VSlot}
use Rattle.std.proofs.Common.{zero, ◌++◌, ◌<◌, Some, ◌≡◌, refl, length, ◌≤◌, sym, arith, true≢false, subst, ◌≢◌, ◌==◌, None, inl, ◌&&◌, Option, List, suc, append-nil, ◌⊎◌, inr, true, ℕ, drop, Bool, false, ap, filter_map, ◌∙◌, [], nat_lt}
use Rattle.hwp_cpu_row.specs.hwp_core_rule.Lists.{EachMember}
use Rattle.hwp_cpu.specs.Serving.{left_so_far, noted_by, GoesOn, task, marked_so_far, IsUnderWay, marked_beside, KeepsWatch, OwnGoesOn, HasToldAll}
use Rattle.hwp_cpu.proofs.OwnRests.{copy-holds, copy-known, left-still, pause-holds, answer-known, own-on, HoldsNone, AnswerKnown, pause-known, fits-still}
use Rattle.hwp_cpu.specs.Courses.{going_on, answer, part_of, IsGoingOn, told_since, AfterCollecting, AfterRest, AfterRestBy, FitsOf, FitsOwn, HasRefused, IsGoing, answer_of, has_more, rests, AfterOwnIf, AfterOwnBy, AfterOwn, passed}
use Rattle.hwp_cpu.proofs.ToldSince.{AfterCollectingBy, collecting-by}
use Rattle.hwp_law_served.specs.Handles.{answers_by}
use Rattle.hwp_cpu.specs.Beside.{ArePriorWith, CanCollect, IsOwnServed}
use Rattle.hwp_cpu_row.specs.Locals.{collects}
use Rattle.std.specs.List.{cons_option}
use Rattle.hwp_cpu_row.specs.hwp_core_rule.declared.View.{View}
use Rattle.hwp_cpu_row.specs.hwp_script_words.declared.Command.{Command}
use Rattle.hwp_cpu_row.specs.hwp_core_rule.declared.Turn.{Turn}
use Rattle.hwp_cpu_row.specs.hwp_law.Notes.{is_for_pages}
use Rattle.hwp_cpu_row.specs.Dues.{DueValue, next_due}
use Rattle.hwp_cpu.proofs.GoingOn.{Turned, ends-now, complete-off, go-on, complete-by, IsComplete}
use Rattle.hwp_cpu.proofs.ProcessorKeeps.{way-own}
use Rattle.hwp_cpu_command.specs.hwp_cpu_access.declared.Instruction.{Instruction}
use Rattle.hwp_cpu_row.specs.declared.Row.{Row}
use Rattle.hwp_cpu_command.specs.Jobs.{told_of}
use Rattle.hwp_cpu.specs.declared.course.Course.{Course}
use Rattle.hwp_cpu_row.specs.Acts.{acts, told_notes}
use Rattle.hwp_cpu_command.specs.Done.{HasCounted, marked_beyond}
use Rattle.hwp_cpu_command.specs.declared.job.Job.{Job}
use Rattle.hwp_cpu.proofs.OwnLines.{HasPause, none-told, is_access, own-notes, rests-so, goes-so, own-unnoted}
use Rattle.hwp_law_served.specs.hwp_page.declared.At.{At}
use Rattle.hwp_cpu_row.specs.hwp_geom.declared.Layout.{Layout}
use Rattle.std.proofs.lemmas.List.{nil_from_length, take_all}
use Rattle.hwp_cpu.proofs.Collecting.{IsAccess, collects-plain, plain-copies, collect-left, tells-kind}
use Rattle.hwp_cpu.proofs.Collected.{keeps-same, by-collector, keeps-noted}
use Rattle.hwp_cpu_row.specs.hwp_geom.declared.Who.{Who}
use Rattle.hwp_cpu_command.proofs.JobEnds.{answered-over}
use Rattle.hwp_law_served.specs.Offlinings.{left_beside, watched_at}
use Rattle.hwp_cpu_row.specs.hwp_report_text.declared.Answer.{Answer}
use Rattle.hwp_cpu.proofs.commands.Beside.{give-up-goes, answered-unmarked, gives-up, given-up-unanswered}
use Rattle.hwp_cpu_row.specs.hwp_geom.declared.Frame.{Frame}
use Rattle.hwp_law_served.specs.Rows.{at_number}
use Rattle.hwp_cpu.proofs.commands.CommandRuns.{runs-alike}
use Rattle.hwp_cpu_command.specs.Stays.{Stepped, HasGivenUp}
use Rattle.hwp_cpu.proofs.BesideTurns.{at_rest, way-with}
use Rattle.std.proofs.lemmas.Option.{slice_get_within, none-some}
use Rattle.hwp_cpu_row.specs.declared.Local.{Local}
use Rattle.hwp_cpu_row.specs.hwp_claim.declared.EventOutcome.{EventOutcome}
use Rattle.hwp_cpu_command.specs.hwp_soft.declared.Soft.{Soft}
use Rattle.std.proofs.lemmas.Bool.{eq-eqb, ltb-false, ltb-true}
use Rattle.hwp_cpu_row.specs.hwp_geom.declared.Cpu.{Cpu}
use Rattle.hwp_cpu_row.specs.declared.Watching.{Watching}
use Rattle.hwp_cpu_row.specs.hwp_law.Watched.{Watched}
use Rattle.hwp_law_served.specs.Accounts.{act_marking}
use Rattle.hwp_cpu.specs.Courses as courses
use Rattle.hwp_cpu_command.specs.Jobs as jobs
use Rattle.hwp_cpu_command.specs.declared.job.Job.TheVariants as kinds

abbrev no_lines : List EventOutcome
no_lines = []

-- nothing is noted where nothing was told
dropped-none : (layout : Layout) (n : ℕ) (told : List EventOutcome) → told ≡ [] → told_notes layout (drop n told) ≡ []
dropped-none layout n told none = ap (λ (l : List EventOutcome). told_notes layout (drop n l)) none ∙ ap (told_notes layout) (by n)
  where
    by : (k : ℕ) → drop k no_lines ≡ []
    by zero = refl
    by (suc k) = refl

both-true : (a b : Bool) → a && b ≡ true → (a ≡ true) × (b ≡ true)
both-true true b is = (refl, is)
both-true false b is = absurd (true≢false (sym is))

-- the frames that are due are for pages, where the course that goes on fits
more-pages : (layout : Layout) (new : View) (after : Course) (turn : Turn) (d e : Course) → d ≡ e → IsGoingOn d after turn → courses.Fits layout new after → EachMember (λ (g : Frame). is_for_pages layout g ≡ true) e.due.frames
more-pages layout new after turn d e same follows rule = subst (EachMember (λ (g : Frame). is_for_pages layout g ≡ true)) after-frames rule.for_pages
  where
    which : (o : Option Frame) → (going_on d o).due.frames ≡ d.due.frames
    which None = refl
    which (Some frame) = refl

    after-frames : after.due.frames ≡ e.due.frames
    after-frames = ap (λ (x : Course). x.due.frames) follows.0 ∙ which (next_due d.due) ∙ ap (λ (x : Course). x.due.frames) same

module _ (layout : Layout) (old new : View) (cpu : Cpu) (list : List Command) (rows : List Row) (local : Local) (command : Command) (copies : Option VSlot) (c : Course) (k : Job) (way : IsUnderWay layout old cpu list rows local command copies c) (on : OwnGoesOn layout old command copies c)
    (rule : courses.Fits layout old c) (beside_is : c.beside ≡ None) (made : Stepped layout old new c.own k) (base_is : made.base ≡ on.base) where
  abbrev at : Who
  at = at_number cpu (length rows)

  abbrev watched : Option Watched
  watched = watched_at layout list rows (length rows)

  abbrev next : Course
  next = record c { own = k }

  way-next : IsUnderWay layout new cpu list rows local command copies next
  way-next = way-own layout old new cpu list rows local command copies c k way made beside_is

  fits-next : jobs.FitsFrom on.base layout new k
  fits-next = fits-still layout old new command copies c k on made base_is

  left-next : left_so_far on.base new k ≡ left_beside c.due.offlined
  left-next = left-still layout old new command copies c k on made base_is

  -- its own task goes on
  going : IsGoing layout old c
  going = subst (FitsOwn layout old c) unanswered (subst (FitsOf layout old c) beside_is rule.at)
    where
      unanswered : jobs.answer c.own ≡ None
      unanswered = which (jobs.answer c.own) refl
        where
          which : (o : Option Answer) → jobs.answer c.own ≡ o → jobs.answer c.own ≡ None
          which None is = is
          which (Some a) is = absurd (none-some made.step (sym (answered-over c.own is) ∙ made.planned))

  -- ---- it goes on

  -- the command goes on, or has its answer, and all that it noted so far is told
  module _ (noted : ℕ) (keeps : KeepsWatch layout new at list watched (record next { noted = noted })) (told : HasToldAll c.watching k noted)
      (complete : (a : Answer) → jobs.answer k ≡ Some a → IsComplete layout watched (record next { noted = noted })) where
    abbrev past : Course
    past = record next { noted = noted }

    way-past : IsUnderWay layout new cpu list rows local command copies past
    way-past = way-with c.beside c.watching noted c.due way-next refl way-next.account.counted keeps

    turned-past : Turned layout new cpu list rows local past (answer past)
    turned-past = subst (λ (o : Option Soft). Turned layout new cpu list rows local past (answer_of o k)) (sym beside_is) (by (jobs.answer k) refl)
      where
        by : (o : Option Answer) → jobs.answer k ≡ o → Turned layout new cpu list rows local past o
        by None is = inl (record { command = command; copies = copies; way = way-past; on = subst (GoesOn layout new cpu list rows local command copies past) (sym beside_is) (own-on layout old new command copies c k on made base_is noted told) })
        by (Some a) is = record {
          command = command;
          copies = copies;
          way = way-past;
          known = answer-known layout new cpu list rows local command copies past way-past on.base fits-next on.prior left-next a is;
          none = beside_is;
          all = on.all;
          complete = complete a is;
        }

  keeps-next : KeepsWatch layout new at list watched (record next { noted = c.noted })
  keeps-next = keeps-noted layout new at list watched next c.noted way-next.collected way-next.collected.few refl

  -- of a processor that collects nothing
  turned-off : collects c.watching ≡ false → Turned layout new cpu list rows local (record next { noted = c.noted }) (answer (record next { noted = c.noted }))
  turned-off off = turned-past c.noted keeps-next (none-told layout old new c.watching c.own k c.noted made on.told (inl off)) (λ a is. complete-off layout new at list watched (record next { noted = c.noted }) off keeps-next)

  -- and of one that collects
  turned-on : collects c.watching ≡ true → rests k ≡ false → Turned layout new cpu list rows local (record next { noted = passed k c.noted }) (answer (record next { noted = passed k c.noted }))
  turned-on collecting still = which (goes-so k still)
    where
      which : ((is_access k ≡ true) × (jobs.pauses k ≡ false) × ((noted : ℕ) → passed k noted ≡ length (told_of k))) ⊎ ((is_access k ≡ false) × (jobs.answer k ≡ None) × ((noted : ℕ) → passed k noted ≡ noted)) → Turned layout new cpu list rows local (record next { noted = passed k c.noted }) (answer (record next { noted = passed k c.noted }))
      which (inr (other, none, same)) = subst (λ (n : ℕ). Turned layout new cpu list rows local (record next { noted = n }) (answer (record next { noted = n }))) (sym (same c.noted)) (turned-past c.noted keeps-next (none-told layout old new c.watching c.own k c.noted made on.told (inr other)) (λ a is. absurd (none-some a (sym none ∙ is))))
      which (inl (access, goes, all)) = subst (λ (n : ℕ). Turned layout new cpu list rows local (record next { noted = n }) (answer (record next { noted = n }))) (sym (all c.noted)) (turned-past (length (told_of k)) keeps-all (all-told k access) (λ a is. complete-by layout new at list watched (record next { noted = length (told_of k) }) keeps-all (ap (told_notes layout) (sym (take_all (length (told_of k)) (told_of k) (omega arith))))))
        where
          unnoted : told_notes layout (told_of k) ≡ noted_by layout next
          unnoted = own-unnoted made.base layout old new c.watching c.own k c.noted made.fits made collecting (going.passed collecting) on.told access goes

          keeps-all : KeepsWatch layout new at list watched (record next { noted = length (told_of k) })
          keeps-all = keeps-noted layout new at list watched next (length (told_of k)) way-next.collected (omega arith) (ap (told_notes layout) (take_all (length (told_of k)) (told_of k) (omega arith)) ∙ unnoted)

          all-told : (j : Job) → is_access j ≡ true → HasToldAll c.watching j (length (told_of j))
          all-told (kinds.Instruction i) is = λ on_now. refl
          all-told (kinds.Copying y) is = λ on_now. refl
          all-told (kinds.Evict e) is = absurd (true≢false (sym is))
          all-told (kinds.Fsync f) is = absurd (true≢false (sym is))
          all-told (kinds.Prctl p) is = absurd (true≢false (sym is))
          all-told (kinds.Denied p) is = absurd (true≢false (sym is))
          all-told (kinds.Fork g) is = absurd (true≢false (sym is))
          all-told (kinds.Log l) is = absurd (true≢false (sym is))
          all-told (kinds.Raise r) is = absurd (true≢false (sym is))
          all-told (kinds.Scrub s) is = absurd (true≢false (sym is))
          all-told (kinds.Spoil s) is = absurd (true≢false (sym is))
          all-told (kinds.Nested n) is = absurd (true≢false (sym is))
          all-told (kinds.Inject i) is = absurd (true≢false (sym is))
          all-told (kinds.Soft s) is = absurd (true≢false (sym is))
          all-told (kinds.Unpoison u) is = absurd (true≢false (sym is))

  -- ---- it rests

  module _ (collecting : collects c.watching ≡ true) (resting : rests k ≡ true) where
    notes : told_notes layout (told_of k) ≡ noted_by layout next ++ told_notes layout (told_since next)
    notes = own-notes made.base layout old new c.watching c.own k c.noted made.fits made collecting on.told

    -- what is so of a course with the same task, once all is noted
    module _ (w : Option Watching) (n : ℕ) (f : List Frame) (spare : ℕ) (is_all : n ≡ length (told_of k)) (keeps : KeepsWatch layout new at list watched (record next { watching = w; noted = n; due = record { frames = f; offlined = c.due.offlined; spare = spare } }))
        (pages : EachMember (λ (g : Frame). is_for_pages layout g ≡ true) f) (alone : told_notes layout (told_since next) ≡ [] → f ≡ c.due.frames) where
      abbrev d : Course
      d = record next { watching = w; noted = n; due = record { frames = f; offlined = c.due.offlined; spare = spare } }

      marks : marked_so_far (at_rest d) ≡ marked_so_far next
      marks = ap (λ (o : Option Soft). filter_map act_marking (acts (told_of k) c.due.offlined) ++ (marked_beyond k ++ marked_beside o)) (sym beside_is)

      rest-way : IsUnderWay layout new cpu list rows local command copies (at_rest d)
      rest-way = way-with None w n d.due way-next marks (subst (λ (o : Option Soft). HasCounted (part_of o k) new) beside_is way-next.account.counted) (record {
        few = keeps.few;
        frames_are = keeps.frames_are;
        watching = keeps.watching;
        room = keeps.room;
        due = keeps.due;
        frames = keeps.frames;
        offlined = keeps.offlined;
        behind = keeps.behind;
      })

      holds-rest : HoldsNone new at next → HoldsNone new at (at_rest d)
      holds-rest has = record { on_turn = has.on_turn; hand_is = has.hand_is; paid = has.paid; unowed = has.unowed; beyond = has.beyond; left = has.left }

      known-next : (a : Answer) → jobs.answer k ≡ Some a → AnswerKnown layout new cpu list rows local command copies next a
      known-next a is = answer-known layout new cpu list rows local command copies next way-next on.base fits-next on.prior left-next a is

      known-rest : (a : Answer) → jobs.answer k ≡ Some a → AnswerKnown layout new cpu list rows local command copies (at_rest d) a
      known-rest a is = let has = known-next a is in record {
        answered = has.answered;
        served = has.served;
        does = has.does;
        failed = has.failed;
        on_turn = has.on_turn;
        hand_is = has.hand_is;
        paid = has.paid;
        unowed = has.unowed;
        left = has.left;
        numbers = has.numbers;
        halted = has.halted;
        denied = has.denied;
      }

      rest-due : (a : Answer) → jobs.answer k ≡ Some a → is_access k ≡ false → (frame : Frame) → next_due d.due ≡ Some frame → CanCollect command × (told_of k ≢ [])
      rest-due a is other frame comes = which (tells-kind layout at command copies k way-next.runs)
        where
          nothing-due : told_notes layout (told_since next) ≡ [] → ⊥
          nothing-due none = let within : length c.due.offlined < length f = slice_get_within f (length c.due.offlined) frame comes in
              let few : length f ≡ length c.due.frames = ap length (alone none) in let all : length c.due.offlined ≡ length c.due.frames = on.all in omega (arith, within, few, all)

          unnoted : IsAccess k → told_notes layout (told_since next) ≡ []
          unnoted (inl task) = absurd (true≢false (ap is_access (sym task.1) ∙ other))
          unnoted (inr task) = absurd (true≢false (ap is_access (sym task.1) ∙ other))

          which : CanCollect command ⊎ (IsAccess k ⊎ (told_of k ≡ [])) → CanCollect command × (told_of k ≢ [])
          which (inl can) = (can, λ none. nothing-due (dropped-none layout c.noted (told_of k) none))
          which (inr (inl task)) = absurd (nothing-due (unnoted task))
          which (inr (inr none)) = absurd (nothing-due (dropped-none layout c.noted (told_of k) none))

      -- so the command goes on
      pub goes-on-by : (after : Course) (turn : Turn) → IsGoingOn d after turn → Turned layout new cpu list rows local after (answer after)
      goes-on-by after turn follows = which (rests-so k resting)
        where
          by-frame : (a : Answer) → jobs.answer k ≡ Some a → is_access k ≡ false → (o : Option Frame) → next_due d.due ≡ o → Turned layout new cpu list rows local after (answer after)
          by-frame a is other (Some frame) comes =
              let so = rest-due a is other frame comes in
              let known = known-next a is in
              go-on layout new cpu list rows local command copies d rest-way
              (holds-rest (record {
                on_turn = known.on_turn;
                hand_is = known.hand_is;
                paid = known.paid;
                unowed = known.unowed;
                beyond = answered-unmarked k is so.1;
                left = known.left ∙ ap (λ (o : Option At). cons_option o (left_beside c.due.offlined)) (collect-left command a so.0);
              }))
              (inr (record { answer = a; answered = is; collects = so.0; some = so.1; served = subst (λ (o : Option VSlot). IsOwnServed layout (answers_by list rows) o new at command k a local.banks) (collects-plain layout at command copies k rest-way.runs so.0) known.served; does = known.does })) is_all pages after turn follows
          by-frame a is other None comes = subst (λ (x : Course). Turned layout new cpu list rows local x (answer x)) (sym (follows.0 ∙ ap (going_on d) comes))
              (ends-now layout new cpu list rows local command copies d rest-way a (known-rest a is)
              (complete-by layout new at list watched (at_rest d) rest-way.collected (ap (told_notes layout) (sym (take_all n (told_of k) (omega (arith, is_all)))))) comes)

          base-none : (o : Option VSlot) → ArePriorWith layout command o on.base → Runs layout at command o k → (y : Copying) → k ≡ kinds.Copying y → on.base ≡ []
          base-none (Some from) prior runs y own = prior
          base-none None prior runs y own = absurd (plain-copies layout at command k runs y own)

          which : HasPause k ⊎ ((is_access k ≡ false) × ((a : Answer) × (jobs.answer k ≡ Some a))) → Turned layout new cpu list rows local after (answer after)
          which (inl (inl (i, p, task, paused))) = go-on layout new cpu list rows local command copies d rest-way (holds-rest (pause-holds layout new at command copies next way-next.runs on.base fits-next on.prior left-next i task p paused))
              (inl (inl (pause-known layout new at command copies next way-next.runs on.base fits-next on.prior left-next i task p paused))) is_all pages after turn follows
          which (inl (inr (y, p, task, paused))) =
              let none : on.base ≡ [] = base-none copies on.prior way-next.runs y task in
              let fits : jobs.FitsFrom [] layout new k = subst (λ (b : List Made). jobs.FitsFrom b layout new k) none fits-next in
              let left : left_so_far [] new k ≡ left_beside c.due.offlined = subst (λ (b : List Made). left_so_far b new k ≡ left_beside c.due.offlined) none left-next in
              go-on layout new cpu list rows local command copies d rest-way (holds-rest (copy-holds layout new at command copies next way-next.runs fits left y task p paused)) (inl (inr (copy-known layout new at command copies next way-next.runs fits left y task p paused))) is_all pages after turn follows
          which (inr (other, (a, is))) = by-frame a is other (next_due d.due) refl

    -- the frames so far are for pages
    pages-next : EachMember (λ (g : Frame). is_for_pages layout g ≡ true) c.due.frames
    pages-next = rule.for_pages

    collected-turn : (d after : Course) (turn : Turn) → courses.Fits layout new after → AfterCollecting layout next d → IsGoingOn d after turn → Turned layout new cpu list rows local after (answer after)
    collected-turn d after turn rule_after took follows = which c.watching refl collecting (collecting-by layout next d took)
      where
        which : (o : Option Watching) → c.watching ≡ o → collects o ≡ true → AfterCollectingBy layout next o d → Turned layout new cpu list rows local after (answer after)
        which None is collecting_by none = absurd none
        which (Some w) is collecting_by (counters, value, (more, spare, value_is, room, took_by), d_is) =
            goes-on-by (Some (record w { collector = counters })) (length (told_of k)) (c.due.frames ++ more) spare refl
            (by-collector layout new at list watched next way-next.collected on.all notes w is collecting_by counters more spare took_by)
            (more-pages layout new after turn d _ same follows rule_after)
            (λ none. ap (λ (l : List Frame). c.due.frames ++ l) (nil_from_length more (let few : length more ≤ length (told_notes layout (told_since next)) = took_by.few in let zero_is : length (told_notes layout (told_since next)) ≡ 0 = ap length none in omega (arith, few, zero_is))) ∙ append-nil c.due.frames)
            after turn (subst (λ (x : Course). IsGoingOn x after turn) same follows)
          where
            same : d ≡ record next { watching = Some (record w { collector = counters }); noted = length (told_of k); due = record { frames = c.due.frames ++ more; offlined = c.due.offlined; spare = spare } }
            same = d_is ∙ ap (λ (x : DueValue). record next { watching = Some (record w { collector = counters }); noted = length (told_of k); due = x }) value_is

    pub rest-turn : (after : Course) (turn : Turn) → courses.Fits layout new after → AfterRest layout next after turn → Turned layout new cpu list rows local after (answer after)
    rest-turn after turn rule_after follows = which (has_more layout next) refl follows
      where
        refused : has_more layout next ≡ true → HasRefused next after turn → Turned layout new cpu list rows local after (answer after)
        refused more (after_is, turn_is) = subst (λ (x : Course). Turned layout new cpu list rows local x (answer x)) (sym after_is)
            (subst (λ (o : Option Soft). Turned layout new cpu list rows local (record next { own = jobs.give_up k }) (answer_of o (jobs.give_up k))) (sym beside_is)
            (subst (λ (o : Option Answer). Turned layout new cpu list rows local (record next { own = jobs.give_up k }) o) (sym (given-up-unanswered (jobs.give_up k) up)) (inr (record {
              command = command;
              copies = copies;
              next = way-next.next;
              runs = runs-alike layout at command copies k (jobs.give_up k) (give-up-goes k) way-next.runs;
              up = up;
              none = beside_is;
            }))))
          where
            told-some : told_of k ≢ []
            told-some none = let less : c.noted < length (told_of k) = ltb-true c.noted (length (told_of k)) (both-true (nat_lt c.noted (length (told_of k))) (layout.frames == c.frames) more).0 in let zero_is : length (told_of k) ≡ 0 = ap length none in absurd (omega (arith, less, zero_is))

            up : HasGivenUp (jobs.give_up k)
            up = gives-up k told-some

        which : (b : Bool) → has_more layout next ≡ b → AfterRestBy layout next b after turn → Turned layout new cpu list rows local after (answer after)
        which true more (inl refusal) = refused more refusal
        which true more (inr (d, took, goes)) = collected-turn d after turn rule_after took goes
        which false none goes = goes-on-by c.watching c.noted c.due.frames c.due.spare noted_is (keeps-same layout new at list watched next way-next.collected) pages-next (λ nothing. refl) after turn goes
          where
            noted_is : c.noted ≡ length (told_of k)
            noted_is = let most : length (told_of k) ≤ c.noted = no-more (nat_lt c.noted (length (told_of k))) refl in let few : c.noted ≤ length (told_of k) = way-next.collected.few in omega arith
              where
                no-more : (b : Bool) → nat_lt c.noted (length (told_of k)) ≡ b → length (told_of k) ≤ c.noted
                no-more false is = ltb-false c.noted (length (told_of k)) is
                no-more true is = absurd (true≢false (sym (ap (λ (b : Bool). true && b) (eq-eqb layout.frames c.frames (sym way-next.collected.frames_are))) ∙ ap (λ (b : Bool). b && (layout.frames == c.frames)) (sym is) ∙ none))

  -- a turn of the command's own task
  pub own-turn : (t : Turn) (after : Course) (turn : Turn) → courses.Fits layout new after → AfterOwn layout next t after turn → Turned layout new cpu list rows local after (answer after)
  own-turn t after turn rule_after follows = which (collects c.watching) refl follows
    where
      by-rest : collects c.watching ≡ true → (b : Bool) → rests k ≡ b → AfterOwnBy layout next b t after turn → Turned layout new cpu list rows local after (answer after)
      by-rest collecting false still (after_is, turn_is) = subst (λ (x : Course). Turned layout new cpu list rows local x (answer x)) (sym after_is) (turned-on collecting still)
      by-rest collecting true resting (u, goes, turn_is) = rest-turn collecting resting after u rule_after goes

      which : (b : Bool) → collects c.watching ≡ b → AfterOwnIf layout next b t after turn → Turned layout new cpu list rows local after (answer after)
      which false off (after_is, turn_is) = subst (λ (x : Course). Turned layout new cpu list rows local x (answer x)) (sym after_is) (turned-off off)
      which true collecting goes = by-rest collecting (rests k) refl goes
