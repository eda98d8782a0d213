-- A turn of the frame that is taken out of use beside a command, and what is so when that is done.
use Rattle.hwp_cpu_command.specs.hwp_cpu_access.CopyFits as copying_fits
use Rattle.hwp_cpu_command.proofs.of_hwp_cpu_access.CopyResting as copy-resting
use Rattle.hwp_cpu_row.specs.hwp_geom.declared.VSlot.{VSlot}
use Rattle.hwp_law_served.specs.Causes.{IsBeside}
use Rattle.std.proofs.lemmas.Bool.{and_parts, not-true}
use Rattle.hwp_cpu.proofs.CourseLaws.{abandoned-stays, over-stays}
use Rattle.hwp_cpu.proofs.SoftMade.{HasLeft, soft-left, soft-pays}
use Rattle.hwp_cpu.specs.Courses.{is_abandoned, with_result, offline_result, offlining}
use Rattle.hwp_cpu_command.proofs.of_hwp_cpu_access.Resting.{resting-stays}
use Rattle.hwp_cpu.proofs.causes.OnTheWay.{met-beside}
use Rattle.hwp_cpu.proofs.causes.BesideKeeps.{own-stays, soft-beside}
use Rattle.hwp_cpu.proofs.causes.OfflineServed.{left-offline, no-kernel, offline-served}
use Rattle.hwp_cpu_row.specs.hwp_law.Notes.{is_for_pages}
use Rattle.hwp_cpu_row.specs.hwp_law.Commands.{is_check, is_kernels}
use Rattle.hwp_cpu_row.specs.hwp_report_text.Offlines.{offline_answer}
use Rattle.hwp_cpu_command.proofs.JobLaws as jobbing
use Rattle.hwp_cpu_command.specs.Jobs.{offlined_by, told_of}
use Rattle.hwp_cpu.specs.Serving.{HasCopyPaused, Pauses, RunsBeside, marked_so_far, IsPaused, IsUnderWay, Rests, IsRunning}
use Rattle.hwp_law_served.specs.Offlinings.{left_beside, left_by, watched_at, IsOfflineServed, left_at}
use Rattle.std.proofs.lemmas.List.{length-append, map-append}
use Rattle.std.proofs.lemmas.List.Elements.{filter_map-append, filter-append}
use Rattle.hwp_cpu_command.specs.hwp_soft.declared.SoftAnswer.{SoftAnswer}
use Rattle.hwp_cpu.proofs.Marks.{beside-over}
use Rattle.hwp_cpu_row.specs.hwp_law.Watched.{due, Watched}
use Rattle.hwp_cpu.specs.declared.course.Course.{Course}
use Rattle.hwp_cpu.proofs.commands.Beside.{job-at-pause, answered-unmarked}
use Rattle.std.proofs.lemmas.Option.{none-some, same_Some}
use Rattle.std.proofs.Common.{None, is_some, arith, inl, suc, true, ◌++◌, subst, option_map, ◌∷◌, zero, refl, not, Option, ◌+◌, map, cond, ◌≡◌, false, ap, Bool, true≢false, inr, append-nil, filter, Some, slice_get, sym, ℕ, List, length, ◌∙◌, [], nat_lt, ◌⊎◌}
use Rattle.hwp_cpu_row.proofs.of_hwp_core_rule.Lists.{each-push}
use Rattle.hwp_cpu_row.specs.hwp_geom.declared.Frame.{Frame}
use Rattle.hwp_cpu.proofs.BesideTurns.{at_rest, way-with}
use Rattle.hwp_law_served.specs.Handles.{answers_by}
use Rattle.hwp_cpu_command.specs.declared.job.Job.{Job}
use Rattle.hwp_cpu_row.specs.hwp_core_rule.declared.View.{View}
use Rattle.hwp_cpu.specs.Beside.{AddsBeside}
use Rattle.hwp_cpu.proofs.commands.CommandRuns.{runs-who}
use Rattle.hwp_cpu.proofs.OwnRests.{HoldsNone}
use Rattle.hwp_cpu_row.specs.hwp_claim.declared.EventOutcome.{EventOutcome}
use Rattle.hwp_cpu_row.specs.hwp_core_rule.Calls.{IsOnTurn, logs, Steps}
use Rattle.hwp_cpu_row.specs.hwp_geom.declared.Layout.{Layout}
use Rattle.hwp_law_served.specs.hwp_law.Pairings.{is_soft}
use Rattle.std.specs.Prelude.{take}
use Rattle.hwp_cpu_row.specs.hwp_core_rule.declared.Made.{Made}
use Rattle.hwp_cpu_command.specs.hwp_cpu_access.Fits.{checks_made, checks_in}
use Rattle.hwp_cpu_row.specs.hwp_geom.declared.Cpu.{Cpu}
use Rattle.hwp_law_served.specs.Served.{SawRunning, IsOffliningServed}
use Rattle.hwp_law_served.specs.hwp_page.declared.At.{At}
use Rattle.hwp_cpu_command.proofs.JobEnds.{soft-ended}
use Rattle.hwp_cpu_row.specs.hwp_script_words.declared.Command.{Command}
use Rattle.hwp_cpu_row.specs.hwp_geom.declared.Who.{Who}
use Rattle.hwp_cpu_row.specs.declared.Local.{Local}
use Rattle.hwp_law_served.specs.Rows.{at_number}
use Rattle.hwp_cpu_row.specs.hwp_page.History.{BodyValue}
use Rattle.hwp_cpu_row.specs.declared.Offlining.{Offlining}
use Rattle.hwp_cpu_command.specs.Done.{marked_beyond, owed_now}
use Rattle.hwp_cpu_row.proofs.Acts.{in-time-push}
use Rattle.hwp_cpu.proofs.ProcessorKeeps.{way-beside}
use Rattle.hwp_cpu.proofs.commands.CommandDeeds.{unowed-at-end}
use Rattle.hwp_cpu_command.specs.hwp_soft.declared.Soft.{Soft}
use Rattle.hwp_cpu_row.specs.hwp_core_rule.declared.Step.{Step}
use Rattle.hwp_cpu_command.specs.Stays.{Stepped}
use Rattle.hwp_cpu_row.specs.declared.Row.{Row}
use Rattle.hwp_cpu_row.specs.hwp_core_rule.declared.Turn.{Turn}
use Rattle.hwp_cpu_row.specs.Acts.{told_notes}
use Rattle.hwp_cpu_row.specs.hwp_page.declared.What.{What}
use Rattle.std.specs.List.{cons_option}
use Rattle.hwp_cpu_command.specs.Answers.{soft_answer}
use Rattle.hwp_cpu_row.specs.hwp_core_rule.Known.{deeds}
use Rattle.hwp_cpu_command.specs.Jobs as jobs
use Rattle.hwp_cpu_command.specs.hwp_soft.declared.SoftAnswer.TheVariants as soft_answers
use Rattle.hwp_cpu_command.specs.hwp_soft.Offline as offline
use Rattle.hwp_cpu_command.specs.hwp_soft.Softs as softs
use Rattle.hwp_cpu_row.specs.hwp_page.declared.What.TheVariants as entries
use Rattle.hwp_cpu_command.specs.declared.job.Job.TheVariants as kinds

-- the first of a list with one more
take-more : {A : Type 0} (l : List A) (n : ℕ) (x : A) → slice_get l n ≡ Some x → take (n + 1) l ≡ take n l ++ x ∷ []
take-more l n x is = subst (λ (k : ℕ). take k l ≡ take n l ++ x ∷ []) (let same : suc n ≡ n + 1 = omega arith in same) (by l n is)
  where
    by : (l : List _) (n : ℕ) → slice_get l n ≡ Some x → take (suc n) l ≡ take n l ++ x ∷ []
    by [] n none = absurd (none-some x none)
    by (y ∷ ys) zero some = ap (λ z. z ∷ []) (same_Some y x some)
    by (y ∷ ys) (suc n) some = ap (λ (r : List _). y ∷ r) (by ys n some)

abbrev no_lines : List EventOutcome
no_lines = []

-- the line of what came of a frame says what the answer of `soft` does
said-so : (x : SoftAnswer) → (x ≡ soft_answers.Kernel → ⊥) → offline_answer (offline_result x) ≡ soft_answer x
said-so soft_answers.Stopped foreign = refl
said-so soft_answers.Kernel foreign = absurd (foreign refl)
said-so soft_answers.Already foreign = refl
said-so (soft_answers.HasBad mask) foreign = refl
said-so soft_answers.NoFrame foreign = refl
said-so (soft_answers.TakenFree cycle) foreign = refl
said-so (soft_answers.Moved to at cycle) foreign = refl

-- an entry by which a page left its frame beside the command
soft-so : (what : What) → is_soft what ≡ true → what ≡ entries.Soft
soft-so entries.Soft is = refl
soft-so what is = absurd (true≢false (sym is))

-- where it pauses
pub pauses-so : (layout : Layout) (view : View) (who : Who) (command : Command) (j : Job) → Pauses layout view who command j → jobs.pauses j ≡ true
pauses-so layout view who command j (inl paused) = ap jobs.pauses paused.is ∙ ap is_some paused.paused
pauses-so layout view who command j (inr paused) = ap jobs.pauses paused.is ∙ ap is_some paused.paused

-- a command where it rests: what it has under way, and that it has told of some event where a frame is due
rests-still : (layout : Layout) (view : View) (cpu : Cpu) (list : List Command) (rows : List Row) (local : Local) (command : Command) (j : Job) → Rests layout view cpu list rows local command j → (owed_now j ≡ 0) × (marked_beyond j ≡ [])
rests-still layout view cpu list rows local command j (inl paused) = let still = job-at-pause j (pauses-so layout view (at_number cpu (length rows)) command j paused) in (still.unowed, still.unmarked)
rests-still layout view cpu list rows local command j (inr has) = (unowed-at-end j has.answered, answered-unmarked j has.answered has.some)

pub due-none : (watched : Option Watched) → due watched [] ≡ []
due-none None = refl
due-none (Some v) = refl

module _ (layout : Layout) (old new : View) (cpu : Cpu) (list : List Command) (rows : List Row) (local : Local) (command : Command) (copies : Option VSlot) (c : Course) (s : Soft) (way : IsUnderWay layout old cpu list rows local command copies c) (run : RunsBeside layout old cpu list rows local command c s) (is : c.beside ≡ Some s)
    (step : Step) (found : ℕ) (got : Option BodyValue) (planned : softs.plan s ≡ Some step) (made : Steps layout s.who step (logs (softs.put s)) old new found got) (t : Soft) (turn : Turn) (follows : softs.Follows layout (softs.bare s) found got t turn) where
  abbrev at : Who
  at = at_number cpu (length rows)

  stepped : Stepped layout old new (kinds.Soft s) (kinds.Soft t)
  stepped = record { step = step; found = found; got = got; turn = turn; base = run.base; fits = run.fits; planned = planned; made = made; follows = (t, refl, follows) }

  fits-on : offline.FitsFrom run.base layout new t
  fits-on = ((jobbing.stays run.base layout old new (kinds.Soft s) step found got run.fits planned made).1 (kinds.Soft t) turn (t, refl, follows)).0

  adds : AddsBeside at old new
  adds = subst (λ (w : Who). AddsBeside w old new) run.who_is (soft-beside layout old new s step found got run.fits planned made t turn fits-on follows)

  abbrev later : Course
  later = record c { beside = Some t }

  pub way-later : IsUnderWay layout new cpu list rows local command copies later
  way-later = way-beside layout old new cpu list rows local command copies c s t way run.who_is stepped is adds

  paid : is_abandoned t.at ≡ false → new.owed.losses ≡ []
  paid goes = soft-pays (soft-left s was-on run.fits) (subst (HasLeft run.base new) (ap (λ (x : Soft). x.who) follows.0) (soft-left t goes fits-on)) (jobbing.can run.base layout old (kinds.Soft s) step run.fits planned) made (run.paid was-on)
    where
      was-on : is_abandoned s.at ≡ false
      was-on = abandoned-stays layout s.who s.frame s.at t.at found got turn follows.1 goes

  named : t.who ≡ at
  named = ap (λ (x : Soft). x.who) follows.0 ∙ run.who_is

  frame-is : t.frame ≡ s.frame
  frame-is = ap (λ (x : Soft). x.frame) follows.0

  unchecked : checks_made at new ≡ checks_made at old
  unchecked = which adds.adds
    where
      none : (what : What) → is_soft what ≡ true → is_check what ≡ false
      none (entries.Mce slot line mask) beside = absurd (true≢false (sym beside))
      none what beside = refl

      which : (deeds at new ≡ deeds at old) ⊎ ((m : Made) × (deeds at new ≡ deeds at old ++ m ∷ []) × IsBeside m) → checks_made at new ≡ checks_made at old
      which (inl same) = ap checks_in same
      which (inr (m, more, beside)) = ap checks_in more ∙ ap (length {A = Made}) (filter-append (λ (x : Made). is_check x.entry.what) (deeds at old) (m ∷ []))
          ∙ ap (λ (b : Bool). length (filter (λ (x : Made). is_check x.entry.what) (deeds at old) ++ cond b (m ∷ []) [])) (none m.entry.what beside) ∙ ap length (append-nil (filter (λ (x : Made). is_check x.entry.what) (deeds at old)))

  made-by : (who : Who) → who ≡ at → Steps layout who step (logs (softs.put s)) old new found got
  made-by who same = subst (λ (w : Who). Steps layout w step (logs (softs.put s)) old new found got) (run.who_is ∙ sym same) made

  pub rests-on : Rests layout new cpu list rows local command c.own
  rests-on = elim run.rests [
    | inl pauses ↦ inl (pauses-on pauses)
    | inr has ↦ inr (record {
      answer = has.answer;
      answered = has.answered;
      collects = has.collects;
      some = has.some;
      served = own-stays (made-by at refl) adds (answers_by list rows) command c.own has.answer local.banks has.collects has.some has.served;
      does = has.does;
    })
  ]
    where
      own-request : (paused : IsPaused layout old at command c.own) → paused.instruction.request.who ≡ at
      own-request paused = sym (ap jobs.who paused.is) ∙ runs-who layout at command copies c.own way.runs

      -- of a copy the entry by which the page left is one of its own
      copy-on : (paused : HasCopyPaused layout old c.own) → HasCopyPaused layout new c.own
      copy-on paused = record { copying = paused.copying; is = paused.is; pause = paused.pause; paused = paused.paused; rests = by adds.adds }
        where
          own-copy : paused.copying.store.who ≡ at
          own-copy = sym (ap jobs.who paused.is) ∙ runs-who layout at command copies c.own way.runs

          by : (deeds at new ≡ deeds at old) ⊎ ((m : Made) × (deeds at new ≡ deeds at old ++ m ∷ []) × IsBeside m) → copying_fits.IsResting [] layout new paused.copying paused.pause
          by (inl same) = copy-resting.resting-stays paused.copying paused.pause paused.rests (made-by paused.copying.store.who own-copy) [] (subst (λ (w : Who). deeds w new ≡ deeds w old ++ []) (sym own-copy) (same ∙ sym (append-nil (deeds at old)))) (λ i m there. absurd (none-some m there))
          by (inr (m, more, beside)) = copy-resting.resting-stays paused.copying paused.pause paused.rests (made-by paused.copying.store.who own-copy) (m ∷ []) (subst (λ (w : Who). deeds w new ≡ deeds w old ++ m ∷ []) (sym own-copy) more)
              (each-push (λ (x : Made). x.entry.what ≡ entries.Soft) [] m (soft-so m.entry.what beside) (λ i x there. absurd (none-some x there)))

      pauses-on : Pauses layout old at command c.own → Pauses layout new at command c.own
      pauses-on (inl paused) = inl (record {
        instruction = paused.instruction;
        is = paused.is;
        pause = paused.pause;
        paused = paused.paused;
        rests = resting-stays paused.instruction paused.pause paused.rests (made-by paused.instruction.request.who (own-request paused)) (subst (λ (w : Who). checks_made w new ≡ checks_made w old) (sym (own-request paused)) unchecked);
        met = met-beside layout command adds paused.met;
      })
      pauses-on (inr paused) = inr (copy-on paused)

  -- ---- it goes on

  pub beside-on : IsRunning layout new cpu list rows local later
  beside-on = record {
    command = command;
    copies = copies;
    way = way-later;
    on = record {
      base = run.base;
      fits = fits-on;
      who_is = named;
      left = run.left;
      next = run.next ∙ ap (λ (f : Frame). Some f) (sym frame-is);
      all = run.all;
      paid = paid;
      rests = rests-on;
    };
  }

  -- ---- it is done

  module _ (x : SoftAnswer) (over : softs.answer t ≡ Some x) (pages : is_for_pages layout t.frame ≡ true) where
    abbrev o : Offlining
    o = offlining c.own t.frame x

    abbrev done : Course
    done = with_result later t.frame x

    still : (owed_now c.own ≡ 0) × (marked_beyond c.own ≡ [])
    still = rests-still layout new cpu list rows local command c.own rests-on

    no-kernels : x ≡ soft_answers.Kernel → ⊥
    no-kernels kernel = no-kernel t fits-on (over ∙ ap (λ (y : SoftAnswer). Some y) kernel) (not-true (is_kernels layout t.frame) (and_parts (nat_lt t.frame.0 layout.frames) (not (is_kernels layout t.frame)) pages).1)

    marks : marked_so_far (at_rest done) ≡ marked_so_far later
    marks = beside-over later t x refl over still.1 way-later.collected.behind

    -- the command saw the machine running: else it had told of no event, and no frame was due
    saw : SawRunning new at
    saw = elim way-later.looked [
      | inl ends ↦ absurd (none-some t.frame (ap (λ (l : List Frame). slice_get l (length c.due.offlined)) (sym (none-due ends.1)) ∙ run.next ∙ ap (λ (f : Frame). Some f) (sym frame-is)))
      | inr running ↦ running
    ]
      where
        taken-none : (n : ℕ) → take n no_lines ≡ []
        taken-none zero = refl
        taken-none (suc n) = refl

        none-due : told_of c.own ≡ [] → c.due.frames ≡ []
        none-due none = way.collected.due ∙ ap (λ (l : List EventOutcome). due (watched_at layout list rows (length rows)) (told_notes layout (take c.noted l))) none
            ∙ ap (λ (l : List EventOutcome). due (watched_at layout list rows (length rows)) (told_notes layout l)) (taken-none c.noted) ∙ due-none (watched_at layout list rows (length rows))

    came : IsOffliningServed layout new at o
    came = record {
      came = subst (λ (w : Who). IsOfflineServed layout new w t.frame (offlined_by t.frame x) (offline_result x)) named (offline-served t x (offline_result x) fits-on over (said-so x no-kernels));
      running = inr saw;
    }

    pub way-done : IsUnderWay layout new cpu list rows local command copies (at_rest done)
    way-done = way-with None c.watching c.noted done.due way-later marks (way-later.account.counted ∙ unowed-at-end (kinds.Soft t) (ap (option_map soft_answer) over) ∙ sym still.0) (record {
      few = way-later.collected.few;
      frames_are = way-later.collected.frames_are;
      watching = way-later.collected.watching;
      room = way-later.collected.room;
      due = way-later.collected.due;
      frames = frames;
      offlined = each-push (IsOffliningServed layout new at) c.due.offlined o came way-later.collected.offlined;
      behind = in-time-push 0 (length (told_of c.own)) c.due.offlined o way-later.collected.behind refl;
    })
      where
        frames : map (λ (p : Offlining). p.frame) (c.due.offlined ++ o ∷ []) ≡ take (length (c.due.offlined ++ o ∷ [])) c.due.frames
        frames = map-append (λ (p : Offlining). p.frame) c.due.offlined (o ∷ []) ∙ ap (λ (l : List Frame). l ++ t.frame ∷ []) way-later.collected.frames
            ∙ sym (take-more c.due.frames (length c.due.offlined) t.frame (run.next ∙ ap (λ (f : Frame). Some f) (sym frame-is)))
            ∙ ap (λ (n : ℕ). take n c.due.frames) (sym (length-append c.due.offlined (o ∷ [])))

    pub holds-done : HoldsNone new at (at_rest done)
    holds-done = record {
      on_turn = subst (IsOnTurn new) named fits-on.on_turn;
      hand_is = (soft-ended t fits-on over).0;
      paid = paid (over-stays t x over);
      unowed = still.0;
      beyond = still.1;
      left = subst (λ (w : Who). left_by w new ≡ left_beside (c.due.offlined ++ o ∷ [])) named (
          left-offline t x (offline_result x) fits-on over (said-so x no-kernels)
          ∙ ap (λ (l : List At). l ++ cons_option (left_at (offline_result x)) []) run.left
          ∙ sym (filter_map-append (λ (p : Offlining). left_at p.result) c.due.offlined (o ∷ []))
          );
    }
