-- The command's own task goes on, pauses behind a machine check, or has its answer.
use Rattle.hwp_cpu_command.specs.hwp_cpu_access.declared.Copying.{Copying}
use Rattle.hwp_cpu_command.specs.hwp_fault.declared.Request.{Request}
use Rattle.hwp_cpu_command.proofs.of_hwp_cpu_access.CopyLaws.{own-after}
use Rattle.hwp_cpu.proofs.Collecting.{access-plain, copy-kind, copy-leaves-none, left-denied, left-plain}
use Rattle.hwp_cpu_row.specs.hwp_page.declared.At.{At}
use Rattle.hwp_cpu_row.specs.hwp_geom.declared.VSlot.{VSlot}
use Rattle.hwp_cpu_command.proofs.JobEnds.{ends}
use Rattle.hwp_cpu.proofs.causes.RowServed.{own-does, own-served}
use Rattle.hwp_cpu.proofs.causes.LeftBeside.{left-paused}
use Rattle.hwp_cpu.proofs.causes.OnTheWay.{on-the-way, runs-access}
use Rattle.hwp_cpu_command.proofs.of_hwp_cpu_access.InstructionLaws.{paused}
use Rattle.hwp_cpu_command.proofs.of_hwp_cpu_access.Resting.{rests}
use Rattle.hwp_cpu.specs.Serving.{HasCopyPaused, left_so_far, IsUnderWay, HasToldAll, IsPaused, OwnGoesOn}
use Rattle.hwp_cpu_row.specs.declared.Local.{Local}
use Rattle.std.proofs.Common.{Option, None, inl, inr, refl, ◌<◌, length, is_some, Some, subst, sym, true, ap, ◌≡◌, List, ◌∙◌, [], ℕ, false, map}
use Rattle.hwp_cpu_command.specs.hwp_cpu_access.declared.Instruction.{Instruction}
use Rattle.hwp_cpu_command.specs.FileHandles.{handles_after}
use Rattle.hwp_cpu.specs.Beside.{IsOwnServed, ArePriorWith, DoesSo}
use Rattle.hwp_cpu_command.specs.Stays.{IsHalted, Stepped}
use Rattle.hwp_cpu.proofs.causes.HandleNumbers.{IsNumbered, numbered}
use Rattle.hwp_law_served.specs.Accounts.{failures}
use Rattle.hwp_cpu_row.specs.hwp_report_text.declared.Answer.{Answer}
use Rattle.hwp_cpu_row.specs.hwp_script_words.declared.Command.{Command}
use Rattle.hwp_cpu_row.specs.hwp_core_rule.Calls.{IsOnTurn}
use Rattle.hwp_cpu.proofs.commands.CommandRuns.{runs-who}
use Rattle.hwp_cpu_row.specs.declared.Row.{Row}
use Rattle.hwp_cpu_row.specs.hwp_geom.declared.Layout.{Layout}
use Rattle.hwp_law_served.specs.Rows.{at_number}
use Rattle.hwp_cpu_command.specs.Done.{failed_now, owed_now, marked_beyond}
use Rattle.hwp_cpu_row.specs.hwp_geom.declared.Cpu.{Cpu}
use Rattle.hwp_cpu_row.specs.hwp_geom.declared.FileNo.{FileNo}
use Rattle.hwp_law_served.specs.Handles.{answers_by, number_at}
use Rattle.hwp_cpu.proofs.ProcessorNotes.{no-loss, failed-end}
use Rattle.hwp_cpu.proofs.EachKind.{on-turn}
use Rattle.hwp_cpu_command.specs.declared.job.Job.{Job}
use Rattle.hwp_law_served.specs.Offlinings.{left_beside, left_by, left_itself, place_of}
use Rattle.hwp_cpu_command.specs.hwp_cpu_access.declared.instruction.Pause.{Pause}
use Rattle.hwp_cpu_row.specs.hwp_geom.declared.Who.{Who}
use Rattle.hwp_cpu_row.specs.hwp_core_rule.declared.Made.{Made}
use Rattle.std.specs.List.{cons_option}
use Rattle.hwp_cpu.proofs.LeftCommand.{left-by-denied, left-command}
use Rattle.hwp_cpu_row.specs.hwp_core_rule.declared.View.{View}
use Rattle.hwp_cpu.proofs.commands.CommandStops.{stopped-halts}
use Rattle.hwp_cpu.specs.declared.course.Course.{Course}
use Rattle.hwp_cpu.proofs.commands.Beside.{IsAtPause, job-at-pause, paused-unmarked, paused-unowed}
use Rattle.hwp_cpu_row.specs.hwp_core_rule.Hands.{hand_of, empty}
use Rattle.hwp_cpu.proofs.commands.CommandDeeds.{unowed-at-end}
use Rattle.hwp_cpu_command.specs.Runs.{Runs}
use Rattle.hwp_cpu.proofs.commands.DeniedAnswers.{unmade-denied}
use Rattle.hwp_cpu_row.specs.hwp_core_rule.Known.{HasMadeNone, is_failure}
use Rattle.std.proofs.lemmas.Bool.{both_ways}
use Rattle.hwp_cpu_row.specs.hwp_page.declared.What.{What}
use Rattle.hwp_cpu_command.proofs.of_hwp_cpu_access.CopyLists.{IsApart, copy-lists}
use Rattle.hwp_law_served.specs.hwp_law.Pairings.{is_soft}
use Rattle.hwp_cpu_command.specs.hwp_cpu_access.Copyings as copyings
use Rattle.hwp_cpu_command.specs.hwp_cpu_access.CopyFits as copying_fits
use Rattle.hwp_cpu_command.proofs.of_hwp_cpu_access.CopyResting as copy-resting
use Rattle.hwp_cpu_command.proofs.JobLaws as jobbing
use Rattle.hwp_cpu_command.specs.declared.job.Job.TheVariants as kinds
use Rattle.hwp_cpu_row.specs.hwp_report_text.declared.Answer.TheVariants as answers
use Rattle.hwp_cpu_command.specs.Jobs as jobs
use Rattle.hwp_cpu_command.specs.hwp_cpu_access.Instructions as instructions
use Rattle.hwp_cpu_command.specs.hwp_cpu_access.Fits as instruction_fits
use Rattle.hwp_cpu_row.specs.hwp_page.declared.What.TheVariants as entries

no-failure : (what : What) → is_failure what ≡ true → is_soft what ≡ false
no-failure (entries.Fail situation required seen signals) is = refl
no-failure _ is = absurd (both_ways false refl is)

soft-apart : IsApart is_soft
soft-apart = record {
  skips = record { fault_in = refl; map = λ slot. refl; load = λ slot line met. refl; store = λ slot line met. refl };
  check = λ slot line mask. refl;
  failure = no-failure;
  freed = λ slot. refl;
}

pub copy-leaves : (layout : Layout) (old new : View) (y : Copying) (k : Job) → Stepped layout old new (kinds.Copying y) k → left_by y.store.who new ≡ left_by y.store.who old
copy-leaves layout old new y k made = ap (map place_of) (copy-lists is_soft soft-apart layout old new y made.step made.found made.got made.fits made.planned made.made made.follows.0 made.turn made.follows.2)

-- ---- it goes on

module _ (layout : Layout) (old new : View) (command : Command) (copies : Option VSlot) (c : Course) (k : Job) (on : OwnGoesOn layout old command copies c) (made : Stepped layout old new c.own k) (base_is : made.base ≡ on.base) where
  abbrev next : Course
  next = record c { own = k }

  pub fits-still : jobs.FitsFrom on.base layout new k
  fits-still = subst (λ (b : List Made). jobs.FitsFrom b layout new k) base_is ((jobbing.stays made.base layout old new c.own made.step made.found made.got made.fits made.planned made.made).1 k made.turn made.follows).0

  -- the pages that left frames beside it are the same
  pub left-still : left_so_far on.base new k ≡ left_beside c.due.offlined
  left-still = by c.own refl on.left made.follows
    where
      by : (j : Job) → c.own ≡ j → left_so_far on.base old j ≡ left_beside c.due.offlined → jobs.Next layout (jobs.bare j) made.found made.got k made.turn → left_so_far on.base new k ≡ left_beside c.due.offlined
      by (kinds.Copying y) own left next =
          let came : (z : Copying) × (k ≡ kinds.Copying z) × (z.store ≡ y.store) = (next.0, next.1, own-after layout y made.found made.got next.0 made.turn next.2) in
          ap (left_so_far on.base new) came.1 ∙ ap (λ (r : Request). left_by r.who new) came.2 ∙ copy-leaves layout old new y k (subst (λ (j : Job). Stepped layout old new j k) own made) ∙ left
      by (kinds.Instruction i) own left next = ap (left_so_far on.base new) next.1 ∙ left
      by (kinds.Evict e) own left next = ap (left_so_far on.base new) next.1 ∙ left
      by (kinds.Fsync g) own left next = ap (left_so_far on.base new) next.0 ∙ left
      by (kinds.Prctl p) own left next = ap (left_so_far on.base new) next.0 ∙ left
      by (kinds.Denied p) own left next = ap (left_so_far on.base new) next.0 ∙ left
      by (kinds.Fork g) own left next = ap (left_so_far on.base new) next.0 ∙ left
      by (kinds.Log l) own left next = ap (left_so_far on.base new) next.0 ∙ left
      by (kinds.Raise r) own left next = ap (left_so_far on.base new) next.1 ∙ left
      by (kinds.Scrub s) own left next = ap (left_so_far on.base new) next.1 ∙ left
      by (kinds.Spoil s) own left next = ap (left_so_far on.base new) next.0 ∙ left
      by (kinds.Nested n) own left next = ap (left_so_far on.base new) next.0 ∙ left
      by (kinds.Inject i) own left next = ap (left_so_far on.base new) next.1 ∙ left
      by (kinds.Soft s) own left next = ap (left_so_far on.base new) next.1 ∙ left
      by (kinds.Unpoison u) own left next = ap (left_so_far on.base new) next.0 ∙ left

  pub own-on : (noted : ℕ) → HasToldAll c.watching k noted → OwnGoesOn layout new command copies (record next { noted = noted })
  own-on noted told = record { base = on.base; fits = fits-still; prior = on.prior; left = left-still; all = on.all; told = told }

-- ---- it rests

-- nothing is held, nothing is owed, and the entries by which pages left their frames are those that the course tells
pub record HoldsNone (view : View) (who : Who) (c : Course) : Type 0 where
  pub on_turn : IsOnTurn view who
  pub hand_is : hand_of view ≡ empty
  pub paid : view.owed.losses ≡ []
  pub unowed : owed_now c.own ≡ 0
  pub beyond : marked_beyond c.own ≡ []
  pub left : left_by who view ≡ left_beside c.due.offlined

-- an access pauses
module _ (layout : Layout) (view : View) (who : Who) (command : Command) (copies : Option VSlot) (c : Course) (runs : Runs layout who command copies c.own) (base : List Made) (fits : jobs.FitsFrom base layout view c.own) (prior : ArePriorWith layout command copies base) (left : left_so_far base view c.own ≡ left_beside c.due.offlined)
    (i : Instruction) (is : c.own ≡ kinds.Instruction i) (p : Pause) (paused_is : instructions.pause i ≡ Some p) where
  named : i.request.who ≡ who
  named = sym (ap jobs.who is) ∙ runs-who layout who command copies c.own runs

  own-fits : instruction_fits.FitsFrom base layout view i
  own-fits = subst (jobs.FitsFrom base layout view) is fits

  pauses-now : jobs.pauses c.own ≡ true
  pauses-now = ap jobs.pauses is ∙ ap is_some paused_is

  -- it copies nothing
  plain : copies ≡ None
  plain = access-plain layout who command copies c.own runs i is

  pub pause-known : IsPaused layout view who command c.own
  pause-known = record {
    instruction = i;
    is = is;
    pause = p;
    paused = paused_is;
    rests = rests i p own-fits paused_is;
    met = on-the-way base layout view c.own (runs-access layout who command c.own (subst (λ (o : Option VSlot). Runs layout who command o c.own) plain runs) pauses-now) fits (subst (λ (o : Option VSlot). ArePriorWith layout command o base) plain prior) pauses-now;
  }

  pub pause-holds : HoldsNone view who c
  pause-holds = record {
    on_turn = subst (IsOnTurn view) named own-fits.on_turn;
    hand_is = (paused i p own-fits paused_is).hand_is;
    paid = (paused i p own-fits paused_is).paid;
    unowed = ap owed_now is ∙ paused-unowed i paused_is;
    beyond = ap marked_beyond is ∙ paused-unmarked i paused_is;
    left = subst (λ (w : Who). left_by w view ≡ left_beside c.due.offlined) named (left-paused i p own-fits paused_is ∙ sym (ap (left_so_far base view) is) ∙ left);
  }

-- a copy pauses
module _ (layout : Layout) (view : View) (who : Who) (command : Command) (copies : Option VSlot) (c : Course) (runs : Runs layout who command copies c.own) (fits : jobs.FitsFrom [] layout view c.own) (left : left_so_far [] view c.own ≡ left_beside c.due.offlined)
    (y : Copying) (is : c.own ≡ kinds.Copying y) (p : Pause) (paused_is : copyings.pause y ≡ Some p) where
  copy-fits : copying_fits.FitsFrom [] layout view y
  copy-fits = subst (jobs.FitsFrom [] layout view) is fits

  copy-who : y.store.who ≡ who
  copy-who = sym (ap jobs.who is) ∙ runs-who layout who command copies c.own runs

  resting : copying_fits.IsResting [] layout view y p
  resting = copy-resting.rests y p copy-fits paused_is

  pub copy-known : HasCopyPaused layout view c.own
  copy-known = record { copying = y; is = is; pause = p; paused = paused_is; rests = resting }

  still : IsAtPause c.own
  still = job-at-pause c.own (ap jobs.pauses is ∙ ap is_some paused_is)

  access : copying_fits.IsAccessing [] layout view y copy-fits.runs
  access = subst (copying_fits.FitsAt [] layout view y copy-fits.runs) (copy-resting.at-pause y paused_is).0 copy-fits.at

  pub copy-holds : HoldsNone view who c
  copy-holds = record {
    on_turn = subst (IsOnTurn view) copy-who copy-fits.on_turn;
    hand_is = (paused y.instruction p access.instruction (copy-resting.at-pause y paused_is).1).hand_is;
    paid = (paused y.instruction p access.instruction (copy-resting.at-pause y paused_is).1).paid;
    unowed = still.unowed;
    beyond = still.unmarked;
    left = subst (λ (w : Who). left_by w view ≡ left_beside c.due.offlined) copy-who (sym (ap (left_so_far [] view) is) ∙ left);
  }

-- it has its answer
pub record AnswerKnown (layout : Layout) (view : View) (cpu : Cpu) (list : List Command) (rows : List Row) (local : Local) (command : Command) (copies : Option VSlot) (c : Course) (a : Answer) : Type 0 where
  pub answered : jobs.answer c.own ≡ Some a
  pub served : IsOwnServed layout (answers_by list rows) copies view (at_number cpu (length rows)) command c.own a local.banks
  pub does : DoesSo layout (answers_by list rows) command c.own a
  pub failed : failures (at_number cpu (length rows)) view ≡ failed_now c.own
  pub on_turn : IsOnTurn view (at_number cpu (length rows))
  pub hand_is : hand_of view ≡ empty
  pub paid : view.owed.losses ≡ []
  pub unowed : owed_now c.own ≡ 0
  pub left : left_by (at_number cpu (length rows)) view ≡ cons_option (left_itself command a) (left_beside c.due.offlined)
  pub numbers : (file : FileNo) → file.0 < layout.files → IsNumbered layout view (at_number cpu (length rows)) command a file (number_at file list rows (length rows)) (handles_after c.own local.handles)
  pub halted : a ≡ answers.Stopped → IsHalted view
  pub denied : (due : Answer) → jobs.denial_of c.own ≡ Some due → HasMadeNone view (at_number cpu (length rows))

module _ (layout : Layout) (view : View) (cpu : Cpu) (list : List Command) (rows : List Row) (local : Local) (command : Command) (copies : Option VSlot) (c : Course) (way : IsUnderWay layout view cpu list rows local command copies c) (base : List Made) (fits : jobs.FitsFrom base layout view c.own)
    (prior : ArePriorWith layout command copies base) (left : left_so_far base view c.own ≡ left_beside c.due.offlined) (a : Answer) (has : jobs.answer c.own ≡ Some a) where
  abbrev at : Who
  at = at_number cpu (length rows)

  owner : jobs.who c.own ≡ at
  owner = runs-who layout at command copies c.own way.runs

  pub answer-known : AnswerKnown layout view cpu list rows local command copies c a
  answer-known = record {
    answered = has;
    served = own-served layout (answers_by list rows) copies view at command c.own base local.banks way.runs fits prior has way.policies local.handles way.handle;
    does = own-does layout (answers_by list rows) copies view at command c.own base way.runs fits prior has way.policies;
    failed = failed-end base layout view at command copies c.own a way.runs fits prior has way.account.failed way.account.losses;
    on_turn = subst (IsOnTurn view) owner (on-turn base layout view c.own fits);
    hand_is = (ends base layout view c.own fits has).0;
    paid = no-loss base layout view at command copies c.own a way.runs fits prior has way.account.failed way.account.losses;
    unowed = unowed-at-end c.own has;
    left = left-answered-so copies way.runs prior left;
    numbers = λ file inside. numbered base layout view at c.own fits has local.handles file (number_at file list rows (length rows)) (way.serves.handles_are.each file inside) command copies way.runs way.handle;
    halted = λ stopped. stopped-halts base layout view c.own fits (has ∙ ap (λ (x : Answer). Some x) stopped);
    denied = λ due is. subst (HasMadeNone view) owner (unmade-denied base layout view c.own is fits);
  }
    where
      -- of a copy the view tells it itself
      left-answered-so : (o : Option VSlot) → Runs layout at command o c.own → ArePriorWith layout command o base → left_so_far base view c.own ≡ left_beside c.due.offlined → left_by at view ≡ cons_option (left_itself command a) (left_beside c.due.offlined)
      left-answered-so o (inl denied) prior left = left-by-denied layout view at c.own a base fits has command o denied ∙ ap (cons_option (left_itself command a)) (sym (left-denied layout at command o c.own denied base view) ∙ left)
      left-answered-so None (inr runs) plain left = left-command layout view at c.own a base fits has command runs plain ∙ ap (cons_option (left_itself command a)) (sym (left-plain layout at command c.own runs base view) ∙ left)
      left-answered-so (Some from) (inr runs) none left =
          let copy = copy-kind layout at command from c.own runs in
          let own : copy.0.store.who ≡ at = sym (ap jobs.who copy.1) ∙ runs-who layout at command (Some from) c.own (inr runs) in
          subst (λ (w : Who). left_by w view ≡ left_beside c.due.offlined) own (sym (ap (left_so_far base view) copy.1) ∙ left) ∙ ap (λ (l : Option At). cons_option l (left_beside c.due.offlined)) (sym (copy-leaves-none layout at command from c.own a runs))
