-- A processor is a task: where it fits, its step can be made, and what follows fits.
use Rattle.hwp_cpu_row.specs.hwp_geom.declared.VSlot.{VSlot}
use Rattle.hwp_cpu.proofs.CourseLaws.{lawful}
use Rattle.std.proofs.Common.{◌≡◌, ◌≢◌, ℕ, ◌+◌, ◌≤◌, arith, List, [], ◌∷◌, ◌++◌, Option, Some, None, length, option_map, slice_get, vec_capacity, refl, sym, ap, ◌∙◌, subst, inr, false, true, true≢false, ◌⊎◌, ◌<◌, inl, Bool}
use Rattle.std.proofs.lemmas.Option.{none-some, slice_get_within}
use Rattle.std.specs.Arc.{arc_value}
use Rattle.hwp_cpu_row.specs.hwp_geom.declared.Cpu.{Cpu}
use Rattle.hwp_cpu_row.specs.hwp_geom.declared.Layout.{Layout}
use Rattle.hwp_cpu_row.specs.hwp_geom.declared.Who.{Who}
use Rattle.hwp_cpu_row.specs.hwp_geom.Layout.{IsSound}
use Rattle.hwp_cpu_row.specs.hwp_page.History.{BodyValue}
use Rattle.hwp_cpu_row.specs.hwp_script_words.declared.Command.{Command}
use Rattle.hwp_cpu_row.specs.hwp_report_text.declared.Answer.{Answer}
use Rattle.hwp_cpu_row.specs.hwp_core_rule.declared.Step.{Step}
use Rattle.hwp_cpu_row.specs.hwp_core_rule.declared.View.{View}
use Rattle.hwp_cpu_row.specs.hwp_core_rule.declared.Turn.{Turn}
use Rattle.hwp_cpu_row.specs.hwp_core_rule.Calls.{CanMake, Steps, logs}
use Rattle.hwp_cpu_command.specs.declared.job.Job.{Job}
use Rattle.hwp_cpu_command.specs.Jobs as jobs
use Rattle.hwp_cpu_command.specs.FileHandles.{HasChangeWithin}
use Rattle.hwp_cpu_command.specs.Stays.{Stepped, HasGivenUp}
use Rattle.hwp_cpu.proofs.commands.CommandRuns.{runs-who, runs-on, runs-within}
use Rattle.hwp_cpu_row.specs.declared.Row.{Row}
use Rattle.hwp_cpu_row.specs.declared.Local.{Local}
use Rattle.hwp_cpu.specs.declared.processor.Processor.{Processor}
use Rattle.hwp_cpu.specs.Processors.{carried_on, told_local, line_of, row_now, with_guest, AreCommands, BeginsAt, Follows, IsAdmitted, IsAnswered, IsReady, Next, NextOf, Shows, ShowsOf, bare, left_of, plan, plan_of, put, put_of, who, who_of}
use Rattle.hwp_law_served.specs.Rows.{at_number}
use Rattle.hwp_cpu.specs.Serving.{IsActedOn, Fits, FitsAt, IsRunning, GivesUp, KeepsGuests, OwnGoesOn, GoesOn, RunsBeside}
use Rattle.hwp_cpu.proofs.CommandBegins.{settled}
use Rattle.hwp_cpu.proofs.ProcessorKeeps.{later-none}
use Rattle.hwp_cpu.specs.Courses.{local_after, FitsOf, IsGoing, rests, row_of, AfterOwn, AfterOwnIf, FitsOwn, AfterSoft, bare_of, AfterOwnBy, answer_of, part, with_result, part_of, answer, passed}
use Rattle.hwp_cpu.proofs.BesideEnds.{beside-on, rests-on, holds-done, way-done}
use Rattle.hwp_cpu_row.specs.Locals.{collects}
use Rattle.hwp_cpu.proofs.commands.Beside.{given-up-unanswered, given-up-stays}
use Rattle.hwp_cpu.proofs.GoingOn.{IsEnding, go-on, Turned}
use Rattle.hwp_cpu.proofs.OwnLines.{given-up-goes}
use Rattle.hwp_cpu.proofs.OwnTurns.{own-turn}
use Rattle.hwp_cpu.specs.declared.course.Course.{Course}
use Rattle.hwp_cpu_command.specs.hwp_soft.declared.Soft.{Soft}
use Rattle.hwp_cpu_row.specs.hwp_law.Notes.{is_for_pages}
use Rattle.hwp_cpu_command.specs.hwp_soft.declared.SoftAnswer.{SoftAnswer}
use Rattle.hwp_cpu_command.specs.Runs.{Runs}
use Rattle.hwp_cpu_row.specs.hwp_core_rule.Known.{HasMadeNone}
use Rattle.hwp_cpu_row.specs.hwp_geom.declared.Frame.{Frame}
use Rattle.hwp_cpu_command.specs.declared.job.Job.TheVariants as kinds
use Rattle.hwp_cpu.specs.Courses as courses
use Rattle.hwp_cpu_command.specs.hwp_soft.Softs as softs
use Rattle.hwp_cpu_row.specs.GuestLists.{line_in}
use Rattle.hwp_law_served.proofs.CommandKeeps.{made-none-later}
use Rattle.hwp_cpu.proofs.GuestsKept.{admitted-now, guests-answered, guests-turn}
use Rattle.hwp_cpu.proofs.Within.{bare-denial, course-denial}

pub can : (layout : Layout) (view : View) (p : Processor) (step : Step) → Fits layout view p → plan p ≡ Some step → CanMake layout (who p) step (put p) view
can layout view p step fits is = which p.course fits.at is
  where
    which : (x : Option Course) → FitsAt layout view p.cpu p.commands p.rows.items p.local x → plan_of x ≡ Some step → CanMake layout (who_of p.cpu x) step (put_of x) view
    which (Some c) at e = lawful.can layout view c step at.0 e
    which None at e = absurd (none-some step e)

-- the command is one of the processor
pub own-cpu : (layout : Layout) (view : View) (cpu : Cpu) (list : List Command) (rows : List Row) (local : Local) (x : Option Course) → FitsAt layout view cpu list rows local x → (who_of cpu x).cpu ≡ cpu
own-cpu layout view cpu list rows local (Some c) (rule, inl run) = ap (λ (w : Who). w.cpu) (runs-who layout (at_number cpu (length rows)) run.command run.copies c.own run.way.runs)
own-cpu layout view cpu list rows local (Some c) (rule, inr up) = ap (λ (w : Who). w.cpu) (runs-who layout (at_number cpu (length rows)) up.command up.copies c.own up.runs)
own-cpu layout view cpu list rows local None at = refl

-- a processor that can run its commands can run them after an answer
ready-after : (p after : Processor) (c : Course) (a : Answer) → IsReady p → IsAnswered p c a after → IsReady after
ready-after p after c a ready answered = record {
  sound = subst IsSound (sym answered.layout_is) ready.sound;
  commands = subst (λ (l : Layout). AreCommands l after.cpu after.commands) (sym answered.layout_is)
      (subst (λ (n : Cpu). AreCommands (arc_value p.layout) n after.commands) (sym answered.cpu_is) (subst (AreCommands (arc_value p.layout) p.cpu) (sym answered.commands_are) ready.commands));
  room = subst (λ (n : ℕ). length after.commands ≤ n) (sym answered.room) (subst (λ (l : List Command). length l ≤ vec_capacity p.rows) (sym answered.commands_are) ready.room);
}

-- ---- a turn of the command that runs

-- which of the two it is of
bare-own : (layout : Layout) (c : Course) (found : ℕ) (got : Option BodyValue) (d : Course) (turn : Turn) → c.beside ≡ None → courses.Next layout (courses.bare c) found got d turn
    → (k : Job) × (t : Turn) × jobs.Next layout (jobs.bare c.own) found got k t × AfterOwn layout (record c { own = k }) t d turn
bare-own layout c found got d turn none so = (its.0, its.1, its.2, subst (λ (o : Option Soft). AfterOwn layout (record c { own = its.0; beside = o }) its.1 d turn) (sym none) its.3)
  where
    its : (k : Job) × (t : Turn) × jobs.Next layout (jobs.bare c.own) found got k t × AfterOwn layout (record c { own = k; beside = None }) t d turn
    its = subst (λ (o : Option Soft). courses.NextOf layout (bare_of c o) (bare_of c o).beside found got d turn) none so

bare-beside : (layout : Layout) (c : Course) (s : Soft) (found : ℕ) (got : Option BodyValue) (d : Course) (turn : Turn) → c.beside ≡ Some s → courses.Next layout (courses.bare c) found got d turn
    → (k : Soft) × (t : Turn) × softs.Follows layout (softs.bare s) found got k t × AfterSoft (record c { beside = Some k }) k (softs.answer k) t d turn
bare-beside layout c s found got d turn some so = subst (λ (o : Option Soft). courses.NextOf layout (bare_of c o) (bare_of c o).beside found got d turn) some so

-- the numbers of a collector stay as they are
bare-change : (j : Job) → HasChangeWithin j → HasChangeWithin (jobs.bare j)
bare-change (kinds.Log l) has = has
bare-change (kinds.Instruction i) has = tt
bare-change (kinds.Copying y) has = tt
bare-change (kinds.Evict e) has = tt
bare-change (kinds.Raise r) has = tt
bare-change (kinds.Scrub s) has = tt
bare-change (kinds.Inject i) has = tt
bare-change (kinds.Soft s) has = tt
bare-change (kinds.Fsync f) has = tt
bare-change (kinds.Prctl p) has = tt
bare-change (kinds.Denied p) has = tt
bare-change (kinds.Fork g) has = tt
bare-change (kinds.Spoil s) has = tt
bare-change (kinds.Nested n) has = tt
bare-change (kinds.Unpoison u) has = tt

module _ (layout : Layout) (old new : View) (cpu : Cpu) (list : List Command) (rows : List Row) (local : Local) (c : Course) (rule : courses.Fits layout old c) (step : Step) (found : ℕ) (got : Option BodyValue)
    (is : jobs.plan (part c) ≡ Some step) (made : Steps layout (jobs.who c.own) step (logs (jobs.put (part c))) old new found got) where
  -- what it comes to, whatever it is: it goes on, or has its answer, and no later command has made an entry
  abbrev After : Course → Type 0
  After d = Turned layout new cpu list rows local d (answer d) × ((q : ℕ) → length rows < q → HasMadeNone new (at_number cpu q))

  -- of its own task
  own-side : (run : IsRunning layout old cpu list rows local c) (none : c.beside ≡ None) → (k : Job) (t : Turn) → jobs.Next layout (jobs.bare c.own) found got k t → (d : Course) (turn : Turn) → courses.Fits layout new d → AfterOwn layout (record c { own = k }) t d turn → After d
  own-side run none k t next d turn rule_after follows = (
    own-turn layout old new cpu list rows local run.command run.copies c k run.way on rule none stepped refl t d turn rule_after follows,
    later-none layout old new cpu list rows c.own k (runs-who layout (at_number cpu (length rows)) run.command run.copies c.own run.way.runs) stepped,
  )
    where
      on : OwnGoesOn layout old run.command run.copies c
      on = subst (GoesOn layout old cpu list rows local run.command run.copies c) none run.on

      planned : jobs.plan c.own ≡ Some step
      planned = subst (λ (o : Option Soft). jobs.plan (part_of o c.own) ≡ Some step) none is

      own-made : Steps layout (jobs.who c.own) step (logs (jobs.put c.own)) old new found got
      own-made = subst (λ (o : Option Soft). Steps layout (jobs.who c.own) step (logs (jobs.put (part_of o c.own))) old new found got) none made

      stepped : Stepped layout old new c.own k
      stepped = record { step = step; found = found; got = got; turn = t; base = on.base; fits = on.fits; planned = planned; made = own-made; follows = next }

  -- of the frame that is taken out of use beside it
  beside-side : (run : IsRunning layout old cpu list rows local c) (s : Soft) (some : c.beside ≡ Some s) → (k : Soft) (t : Turn) → softs.Follows layout (softs.bare s) found got k t → (d : Course) (turn : Turn) → courses.Fits layout new d → AfterSoft (record c { beside = Some k }) k (softs.answer k) t d turn → After d
  beside-side run s some k t next d turn rule_after follows = (by (softs.answer k) refl follows, later-none layout old new cpu list rows (kinds.Soft s) (kinds.Soft k) on.who_is stepped)
    where
      on : RunsBeside layout old cpu list rows local run.command c s
      on = subst (GoesOn layout old cpu list rows local run.command run.copies c) some run.on

      planned : softs.plan s ≡ Some step
      planned = subst (λ (o : Option Soft). jobs.plan (part_of o c.own) ≡ Some step) some is

      named : jobs.who c.own ≡ s.who
      named = runs-who layout (at_number cpu (length rows)) run.command run.copies c.own run.way.runs ∙ sym on.who_is

      soft-made : Steps layout s.who step (logs (softs.put s)) old new found got
      soft-made = subst (λ (w : Who). Steps layout w step (logs (softs.put s)) old new found got) named (subst (λ (o : Option Soft). Steps layout (jobs.who c.own) step (logs (jobs.put (part_of o c.own))) old new found got) some made)

      stepped : Stepped layout old new (kinds.Soft s) (kinds.Soft k)
      stepped = record { step = step; found = found; got = got; turn = t; base = on.base; fits = on.fits; planned = planned; made = soft-made; follows = (k, refl, next) }

      pages : is_for_pages layout k.frame ≡ true
      pages = rule.for_pages (length c.due.offlined) k.frame (on.next ∙ ap (λ (f : Frame). Some f) (sym (ap (λ (x : Soft). x.frame) next.0)))

      by : (o : Option SoftAnswer) → softs.answer k ≡ o → AfterSoft (record c { beside = Some k }) k o t d turn → Turned layout new cpu list rows local d (answer d)
      by None still (after_is, turn_is) = subst (λ (x : Course). Turned layout new cpu list rows local x (answer x)) (sym after_is) (inl (beside-on layout old new cpu list rows local run.command run.copies c s run.way on some step found got planned soft-made k t next))
      by (Some x) over goes = go-on layout new cpu list rows local run.command run.copies (with_result (record c { beside = Some k }) k.frame x)
          (way-done layout old new cpu list rows local run.command run.copies c s run.way on some step found got planned soft-made k t next x over pages)
          (holds-done layout old new cpu list rows local run.command run.copies c s run.way on some step found got planned soft-made k t next x over pages)
          (rests-on layout old new cpu list rows local run.command run.copies c s run.way on some step found got planned soft-made k t next) on.all rule.for_pages d turn goes

  -- and of one that gives up
  gives-side : (up : GivesUp layout old cpu list rows c) → (k : Job) (t : Turn) → jobs.Next layout (jobs.bare c.own) found got k t → (d : Course) (turn : Turn) → AfterOwn layout (record c { own = k }) t d turn → After d
  gives-side up k t next d turn follows = (which (collects c.watching) follows, later-none layout old new cpu list rows c.own k (runs-who layout (at_number cpu (length rows)) up.command up.copies c.own up.runs) stepped)
    where
      planned : jobs.plan c.own ≡ Some step
      planned = subst (λ (o : Option Soft). jobs.plan (part_of o c.own) ≡ Some step) up.none is

      own-made : Steps layout (jobs.who c.own) step (logs (jobs.put c.own)) old new found got
      own-made = subst (λ (o : Option Soft). Steps layout (jobs.who c.own) step (logs (jobs.put (part_of o c.own))) old new found got) up.none made

      going : IsGoing layout old c
      going = subst (FitsOwn layout old c) (given-up-unanswered c.own up.up) (subst (FitsOf layout old c) up.none rule.at)

      stepped : Stepped layout old new c.own k
      stepped = record { step = step; found = found; got = got; turn = t; base = going.fits.0; fits = going.fits.1; planned = planned; made = own-made; follows = next }

      still-up : HasGivenUp k
      still-up = given-up-stays layout c.own k step found got t planned next up.up

      gives : (n : ℕ) → Turned layout new cpu list rows local (record c { own = k; noted = n }) (answer (record c { own = k; noted = n }))
      gives n = subst (λ (o : Option Soft). Turned layout new cpu list rows local (record c { own = k; noted = n }) (answer_of o k)) (sym up.none)
          (subst (λ (o : Option Answer). Turned layout new cpu list rows local (record c { own = k; noted = n }) o) (sym (given-up-unanswered k still-up)) (inr (record {
            command = up.command;
            copies = up.copies;
            next = up.next;
            runs = runs-on layout (at_number cpu (length rows)) up.command up.copies c.own k found got t up.runs next;
            up = still-up;
            none = up.none;
          })))

      by-rest : (b : Bool) → rests k ≡ b → AfterOwnBy layout (record c { own = k }) b t d turn → Turned layout new cpu list rows local d (answer d)
      by-rest false still (after_is, turn_is) = subst (λ (x : Course). Turned layout new cpu list rows local x (answer x)) (sym after_is) (gives (passed k c.noted))
      by-rest true resting goes = absurd (true≢false (sym resting ∙ given-up-goes k still-up))

      which : (b : Bool) → AfterOwnIf layout (record c { own = k }) b t d turn → Turned layout new cpu list rows local d (answer d)
      which false (after_is, turn_is) = subst (λ (x : Course). Turned layout new cpu list rows local x (answer x)) (sym after_is) (gives c.noted)
      which true goes = by-rest (rests k) refl goes

  -- whatever it is
  pub comes-to : IsRunning layout old cpu list rows local c ⊎ GivesUp layout old cpu list rows c → (d : Course) (turn : Turn) → courses.Next layout (courses.bare c) found got d turn → courses.Fits layout new d → After d
  comes-to run d turn next rule_after = which c.beside refl run
    where
      which : (o : Option Soft) → c.beside ≡ o → IsRunning layout old cpu list rows local c ⊎ GivesUp layout old cpu list rows c → After d
      which None none (inl goes) = let its = bare-own layout c found got d turn none next in own-side goes none its.0 its.1 its.2 d turn rule_after its.3
      which None none (inr up) = let its = bare-own layout c found got d turn none next in gives-side up its.0 its.1 its.2 d turn its.3
      which (Some s) some (inl goes) = let its = bare-beside layout c s found got d turn some next in beside-side goes s some its.0 its.1 its.2 d turn rule_after its.3
      which (Some s) some (inr up) = absurd (none-some s (sym up.none ∙ some))

-- ---- a turn of the processor

module _ (layout : Layout) (old new : View) (p : Processor) (step : Step) (found : ℕ) (got : Option BodyValue) (ready : IsReady p) (same : arc_value p.layout ≡ layout) (c : Course)
    (at : FitsAt layout old p.cpu p.commands p.rows.items p.local (Some c)) (kept : KeepsGuests layout old p.cpu p.commands p.rows.items p.local.guests (Some c)) (is : jobs.plan (part c) ≡ Some step) (made : Steps layout (jobs.who c.own) step (logs (jobs.put (part c))) old new found got) where
  abbrev rows : List Row
  rows = p.rows.items

  of-course : courses.Shows (courses.bare c) found got × ((d : Course) (turn : Turn) → courses.Next layout (courses.bare c) found got d turn → courses.Fits layout new d × ((jobs.who d.own).cpu ≡ (jobs.who c.own).cpu))
  of-course = lawful.stays layout old new c step found got at.0 is made

  -- the command that the processor has come to
  known : (command : Command) × (copies : Option VSlot) × IsActedOn layout p.commands rows command copies × Runs layout (at_number p.cpu (length rows)) command copies c.own
  known = which at.1
    where
      which : IsRunning layout old p.cpu p.commands rows p.local c ⊎ GivesUp layout old p.cpu p.commands rows c → (command : Command) × (copies : Option VSlot) × IsActedOn layout p.commands rows command copies × Runs layout (at_number p.cpu (length rows)) command copies c.own
      which (inl run) = (run.command, run.copies, run.way.next, run.way.runs)
      which (inr up) = (up.command, up.copies, up.next, up.runs)

  -- what it keeps of guests stays so over the turn
  other : (i : ℕ) → i < length rows → at_number p.cpu i ≢ jobs.who c.own
  other i less same_who = let at_end : i ≡ length rows = ap (λ (w : Who). w.seq) (same_who ∙ runs-who layout (at_number p.cpu (length rows)) known.0 known.1 c.own known.3) in absurd (omega (arith, less, at_end))

  still : (d : Course) (t : Turn) → courses.Next layout (courses.bare c) found got d t → KeepsGuests layout new p.cpu p.commands rows p.local.guests (Some d)
  still d t next = guests-turn layout old new p.cpu p.commands rows p.local.guests c d (λ i less none. made-none-later (lawful.can layout old c step at.0 is) made (at_number p.cpu i) (other i less) none)
      (course-denial layout (courses.bare c) found got d t next ∙ bare-denial c) kept

  -- the turn of the command that runs, and what the processor comes to by it
  follows : (d : Course) (t : Turn) → courses.Next layout (courses.bare c) found got d t → (o : Option Answer) → answer d ≡ o → (after : Processor) (turn : Turn) → Follows (bare p) d o t after turn
      → Fits layout new after × ((who after).cpu ≡ (jobs.who c.own).cpu)
  follows d t next o has after turn so = which o has so
    where
      rule_after : courses.Fits layout new d
      rule_after = (of-course.1 d t next).0

      came : Turned layout new p.cpu p.commands rows p.local d (answer d) × ((q : ℕ) → length rows < q → HasMadeNone new (at_number p.cpu q))
      came = comes-to layout old new p.cpu p.commands rows p.local c at.0 step found got is made at.1 d t next rule_after

      which : (x : Option Answer) → answer d ≡ x → Follows (bare p) d x t after turn → Fits layout new after × ((who after).cpu ≡ (jobs.who c.own).cpu)
      which None none (after_is, turn_is) =
          subst (λ (q : Processor). Fits layout new q × ((who q).cpu ≡ (jobs.who c.own).cpu)) (sym after_is) (
            record { ready = record { sound = ready.sound; commands = ready.commands; room = ready.room }; layout_is = same; at = (rule_after, subst (Turned layout new p.cpu p.commands rows p.local d) none came.0); guests = still d t next },
            (of-course.1 d t next).1,
          )
      which (Some a) some (answered, turn_is) = (
        record { ready = ready-after p after d a ready those; layout_is = answered.layout_is ∙ same; at = there; guests = kept-there },
        own-cpu layout new after.cpu after.commands after.rows.items after.local after.course there ∙ answered.cpu_is ∙ sym (own-cpu layout old p.cpu p.commands rows p.local (Some c) at),
      )
        where
          those : IsAnswered p d a after
          those = record {
            layout_is = answered.layout_is;
            cpu_is = answered.cpu_is;
            commands_are = answered.commands_are;
            rows_are = answered.rows_are;
            room = answered.room;
            round = answered.round;
            begins = answered.begins;
            local_is = answered.local_is;
          }

          ends : IsEnding layout new p.cpu p.commands rows p.local d a
          ends = subst (Turned layout new p.cpu p.commands rows p.local d) some came.0

          -- what the processor carries on, by the command that is answered
          carried : carried_on p d a ≡ told_local layout (Some ends.way.next.own) a (local_after d a p.local)
          carried = ap (λ (l : Layout). told_local l (slice_get p.commands (length rows)) a (local_after d a p.local)) same ∙ ap (λ (o : Option Command). told_local layout o a (local_after d a p.local)) ends.way.next.there

          -- its row, with the line of its guest
          row-is : row_now p d a ≡ with_guest (row_of d a) (line_in layout (length rows) ends.way.next.own a)
          row-is = ap (λ (l : Layout). with_guest (row_of d a) (line_of l (length rows) (slice_get p.commands (length rows)) a)) same ∙ ap (λ (o : Option Command). with_guest (row_of d a) (line_of layout (length rows) o a)) ends.way.next.there

          coming : BeginsAt layout (at_number p.cpu (length rows + 1)) (slice_get p.commands (length rows + 1)) (told_local layout (Some ends.way.next.own) a (local_after d a p.local)) after.course
          coming = subst (λ (l : Local). BeginsAt layout (at_number p.cpu (length rows + 1)) (slice_get p.commands (length rows + 1)) l after.course) carried
              (subst (λ (l : Layout). BeginsAt l (at_number p.cpu (length rows + 1)) (slice_get p.commands (length rows + 1)) (carried_on p d a) after.course) same answered.begins)

          here : FitsAt layout new p.cpu p.commands (rows ++ row_now p d a ∷ []) (left_of after.course (carried_on p d a)) after.course
          here = subst (λ (r : Row). FitsAt layout new p.cpu p.commands (rows ++ r ∷ []) (left_of after.course (carried_on p d a)) after.course) (sym row-is)
              (subst (λ (l : Local). FitsAt layout new p.cpu p.commands (rows ++ with_guest (row_of d a) (line_in layout (length rows) ends.way.next.own a) ∷ []) (left_of after.course l) after.course) (sym carried)
              (settled layout new p.cpu p.commands rows p.local d a ends came.1 (subst (λ (l : Layout). AreCommands l p.cpu p.commands) same ready.commands) answered.round after.course coming))

          kept-here : KeepsGuests layout new p.cpu p.commands (rows ++ row_now p d a ∷ []) (left_of after.course (carried_on p d a)).guests after.course
          kept-here = subst (λ (r : Row). KeepsGuests layout new p.cpu p.commands (rows ++ r ∷ []) (left_of after.course (carried_on p d a)).guests after.course) (sym row-is)
              (subst (λ (l : Local). KeepsGuests layout new p.cpu p.commands (rows ++ with_guest (row_of d a) (line_in layout (length rows) ends.way.next.own a) ∷ []) (left_of after.course l).guests after.course) (sym carried)
              (guests-answered layout new p.cpu p.commands rows p.local d a ends (still d t next) after.course coming))

          kept-there : KeepsGuests layout new after.cpu after.commands after.rows.items after.local.guests after.course
          kept-there = subst (λ (n : Cpu). KeepsGuests layout new n after.commands after.rows.items after.local.guests after.course) (sym answered.cpu_is)
              (subst (λ (l : List Command). KeepsGuests layout new p.cpu l after.rows.items after.local.guests after.course) (sym answered.commands_are)
              (subst (λ (l : List Row). KeepsGuests layout new p.cpu p.commands l after.local.guests after.course) (sym answered.rows_are)
              (subst (λ (l : Local). KeepsGuests layout new p.cpu p.commands (rows ++ row_now p d a ∷ []) l.guests after.course) (sym answered.local_is) kept-here)))

          there : FitsAt layout new after.cpu after.commands after.rows.items after.local after.course
          there = subst (λ (n : Cpu). FitsAt layout new n after.commands after.rows.items after.local after.course) (sym answered.cpu_is)
              (subst (λ (l : List Command). FitsAt layout new p.cpu l after.rows.items after.local after.course) (sym answered.commands_are)
              (subst (λ (l : List Row). FitsAt layout new p.cpu p.commands l after.local after.course) (sym answered.rows_are)
              (subst (λ (l : Local). FitsAt layout new p.cpu p.commands (rows ++ row_now p d a ∷ []) l after.course) (sym answered.local_is) here)))

  bare-within : HasChangeWithin c.own → HasChangeWithin (courses.bare c).own
  bare-within has = which c.beside
    where
      which : (o : Option Soft) → HasChangeWithin (bare_of c o).own
      which None = bare-change c.own has
      which (Some s) = has

  admitted : IsAdmitted (arc_value p.layout) (slice_get p.commands (length rows)) p.local.guests (courses.bare c).own
  admitted = subst (λ (l : Layout). IsAdmitted l (slice_get p.commands (length rows)) p.local.guests (courses.bare c).own) (sym same)
      (admitted-now layout old p.cpu p.commands rows p.local.guests c (courses.bare c).own (subst IsSound same ready.sound) (subst (λ (l : Layout). AreCommands l p.cpu p.commands) same ready.commands) (bare-denial c) kept)

  running : ShowsOf (bare p) (Some (courses.bare c)) found got
      × ((after : Processor) (turn : Turn) → NextOf layout (bare p) (Some (courses.bare c)) found got after turn → Fits layout new after × ((who after).cpu ≡ (jobs.who c.own).cpu))
  running = (
    (of-course.0, bare-within (runs-within layout (at_number p.cpu (length rows)) known.0 known.1 c.own known.3), record { sound = ready.sound; commands = ready.commands; room = ready.room }, slice_get_within p.commands (length rows) known.2.own known.2.there, admitted),
    λ after turn next. follows next.0 next.1 next.2 (answer next.0) refl after turn next.3,
  )

pub stays : (layout : Layout) (old new : View) (p : Processor) (step : Step) (found : ℕ) (got : Option BodyValue) → Fits layout old p → plan p ≡ Some step → Steps layout (who p) step (logs (put p)) old new found got
    → Shows (bare p) found got × ((after : Processor) (turn : Turn) → Next layout (bare p) found got after turn → Fits layout new after × ((who after).cpu ≡ (who p).cpu))
stays layout old new p step found got fits is made = which p.course fits.at fits.guests is made
  where
    which : (x : Option Course) → FitsAt layout old p.cpu p.commands p.rows.items p.local x → KeepsGuests layout old p.cpu p.commands p.rows.items p.local.guests x → plan_of x ≡ Some step → Steps layout (who_of p.cpu x) step (logs (put_of x)) old new found got
        → ShowsOf (bare p) (option_map courses.bare x) found got
        × ((after : Processor) (turn : Turn) → NextOf layout (bare p) (option_map courses.bare x) found got after turn → Fits layout new after × ((who after).cpu ≡ (who_of p.cpu x).cpu))
    which (Some c) at kept e m = running layout old new p step found got fits.ready fits.layout_is c at kept e m
    which None at kept e m = absurd (none-some step e)
