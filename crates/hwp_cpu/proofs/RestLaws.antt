-- What is so of a command's own task where it rests, behind that, and where memory runs out there.
use Rattle.std.proofs.Common.{◌≡◌, ◌≢◌, ◌⊎◌, inl, inr, ℕ, true, List, [], Option, Some, None, is_some, length, refl, sym, ap, ◌∙◌, subst, ◌<◌}
use Rattle.std.proofs.lemmas.Bool.{both_ways}
use Rattle.hwp_cpu_row.specs.hwp_geom.declared.Frame.{Frame}
use Rattle.hwp_cpu_row.specs.hwp_geom.declared.Layout.{Layout}
use Rattle.hwp_cpu_row.specs.hwp_report_text.declared.Answer.{Answer}
use Rattle.hwp_cpu_row.specs.hwp_core_rule.declared.Made.{Made}
use Rattle.hwp_cpu_row.specs.hwp_core_rule.declared.View.{View}
use Rattle.hwp_cpu_row.specs.hwp_core_rule.Calls.{IsOnTurn}
use Rattle.hwp_cpu_row.specs.hwp_core_rule.Hands.{empty, hand_of}
use Rattle.hwp_cpu_row.specs.hwp_core_rule.Known.{deeds}
use Rattle.hwp_cpu_row.specs.Locals.{collects}
use Rattle.hwp_cpu_command.specs.declared.Job.{Job}
use Rattle.hwp_cpu_command.specs.Done.{failed_now}
use Rattle.hwp_cpu_command.proofs.JobEnds.{answered-over, ends, instruction-ended, mapped, paid-at-end, raise-ended, scrub-ended}
use Rattle.hwp_cpu.proofs.commands.Beside.{answered-resumes, at-pause}
use Rattle.hwp_cpu_command.specs.hwp_cpu_access.declared.Instruction.{Instruction}
use Rattle.hwp_cpu_command.specs.hwp_cpu_access.declared.instruction.InstructionAt.{InstructionAt}
use Rattle.hwp_cpu_command.specs.hwp_cpu_access.declared.instruction.Pause.{Pause}
use Rattle.hwp_cpu_command.proofs.of_hwp_cpu_access.Resting.{resumes, rests as pauses-rest}
use Rattle.hwp_cpu_command.specs.hwp_cpu_access.declared.Copying.{Copying}
use Rattle.hwp_cpu_command.specs.hwp_cpu_access.declared.copying.CopyingAt.{CopyingAt}
use Rattle.hwp_cpu_command.proofs.of_hwp_cpu_access.InstructionLaws.{paused}
use Rattle.hwp_cpu_command.specs.hwp_scrub.declared.Scrub.{Scrub}
use Rattle.hwp_cpu_command.specs.hwp_scrub.declared.ScrubAnswer.{ScrubAnswer}
use Rattle.hwp_cpu.specs.declared.course.Course.{Course}
use Rattle.hwp_cpu.specs.Courses.{FitsOwn, HasPassed, RestsNow, gives_up, rests}
use Rattle.hwp_cpu_command.proofs.of_hwp_cpu_access.CopyResting.{at-pause as copy-at-pause}
use Rattle.hwp_cpu.proofs.CopyRests.{copy-behind}
use Rattle.hwp_cpu_row.specs.hwp_geom.declared.Who.{Who}
use Rattle.hwp_cpu_command.specs.declared.job.Job.TheVariants as kinds
use Rattle.hwp_cpu_command.specs.Jobs as jobs
use Rattle.hwp_cpu_command.proofs.JobLaws as jobbing
use Rattle.hwp_cpu_command.specs.hwp_cpu_access.Fits as instruction_fits
use Rattle.hwp_cpu_command.specs.hwp_cpu_access.Instructions as instructions
use Rattle.hwp_cpu_command.specs.hwp_cpu_access.declared.copying.CopyingAt.TheVariants as copying_at
use Rattle.hwp_cpu_command.specs.hwp_cpu_access.Copyings as copyings
use Rattle.hwp_cpu_command.specs.hwp_cpu_access.CopyFits as copying_fits
use Rattle.hwp_cpu_command.proofs.of_hwp_cpu_access.CopyEnds as copy-ends
use Rattle.hwp_cpu_command.proofs.of_hwp_cpu_access.CopyResting as copy-resting
use Rattle.hwp_cpu_command.specs.hwp_scrub.Raises as raises
use Rattle.hwp_cpu_command.specs.hwp_scrub.declared.ScrubAnswer.TheVariants as scrub_answers
use Rattle.hwp_cpu_command.specs.hwp_scrub.Fits as scrub_fits
use Rattle.hwp_cpu_command.specs.hwp_scrub.Scrubs as scrubs
use Rattle.hwp_cpu_command.specs.hwp_soft.Softs as softs

-- a part that fits is that of the turn
pub on-turn : (base : List Made) (layout : Layout) (view : View) (j : Job) → jobs.FitsFrom base layout view j → IsOnTurn view (jobs.who j)
on-turn base layout view (kinds.Instruction i) fits = fits.on_turn
on-turn base layout view (kinds.Copying c) fits = fits.on_turn
on-turn base layout view (kinds.Evict e) fits = fits.on_turn
on-turn base layout view (kinds.Fsync f) fits = fits.1.on_turn
on-turn base layout view (kinds.Prctl p) fits = fits.1.on_turn
on-turn base layout view (kinds.Denied p) fits = fits.1.on_turn
on-turn base layout view (kinds.Fork p) fits = fits.1.on_turn
on-turn base layout view (kinds.Log l) fits = fits.1.read.on_turn
on-turn base layout view (kinds.Raise r) fits = fits.1.on_turn
on-turn base layout view (kinds.Scrub s) fits = fits.1.on_turn
on-turn base layout view (kinds.Spoil s) fits = fits.1.on_turn
on-turn base layout view (kinds.Nested n) fits = fits.1.on_turn
on-turn base layout view (kinds.Inject i) fits = fits.1.on_turn
on-turn base layout view (kinds.Soft s) fits = fits.on_turn
on-turn base layout view (kinds.Unpoison u) fits = fits.1.on_turn

-- a soft offline begins with whatever entries the command has made
pub soft-begins : (layout : Layout) (view : View) (who : Who) (frame : Frame) → IsOnTurn view who → frame.0 < layout.frames → hand_of view ≡ empty → jobs.FitsFrom (deeds who view) layout view (kinds.Soft (softs.begin who frame))
soft-begins layout view who frame on within hand = record { on_turn = on; frame = within; at = (hand, refl) }

-- ---- where it rests

abbrev pub OrPaid : View → Job → Type 0
OrPaid view j = (view.owed.losses ≡ []) ⊎ (failed_now j ≡ [])

scrub-paid : (layout : Layout) (view : View) (s : Scrub) (x : ScrubAnswer) → scrub_fits.IsEnd layout view s x → view.owed.losses ≡ []
scrub-paid layout view s scrub_answers.Scrubbed ended = ended.rest.paid
scrub-paid layout view s scrub_answers.Stopped (inl unbegun) = unbegun.0.rest.paid
scrub-paid layout view s scrub_answers.Stopped (inr halted) = halted.1.rest.paid

-- it is that of the turn, holds nothing, and claims nothing; one that tells of events owes no loss
pub record AtRest (layout : Layout) (view : View) (j : Job) : Type 0 where
  pub on_turn : IsOnTurn view (jobs.who j)
  pub hand_is : hand_of view ≡ empty
  pub now : RestsNow layout view j
  pub paid : OrPaid view j
  pub told_paid : jobs.told_of j ≢ [] → view.owed.losses ≡ []

-- a task that is answered claims nothing
idle-end : (base : List Made) (layout : Layout) (view : View) (j : Job) {a : Answer} → jobs.FitsFrom base layout view j → jobs.answer j ≡ Some a → jobs.claims j ≡ None
idle-end base layout view j fits said = by (jobs.claims j) refl
  where
    by : (o : Option (Frame × ℕ)) → jobs.claims j ≡ o → o ≡ None
    by None is = refl
    by (Some (frame, cycle)) is = absurd ((jobbing.tells.claim layout view j frame cycle (base, fits) is).1 (answered-over j said))

told-end : (base : List Made) (layout : Layout) (view : View) (j : Job) {a : Answer} → jobs.FitsFrom base layout view j → jobs.answer j ≡ Some a → jobs.told_of j ≢ [] → view.owed.losses ≡ []
told-end base layout view (kinds.Instruction i) fits said told = (instruction-ended i fits (mapped _ (instructions.answer i) said).1).paid
told-end base layout view (kinds.Copying c) fits said told = (copy-ends.ends c fits (mapped _ (copyings.answer c) said).1).paid
told-end base layout view (kinds.Raise r) fits said told = (raise-ended r fits.1 (mapped _ (raises.answer r) said).1).0.paid
told-end base layout view (kinds.Scrub s) fits said told = let own = mapped _ (scrubs.answer s) said in scrub-paid layout view s own.0 (scrub-ended s fits.1 own.1)
told-end base layout view _ fits said told = absurd (told refl)

answered-rest : (base : List Made) (layout : Layout) (view : View) (j : Job) (a : Answer) → jobs.FitsFrom base layout view j → jobs.answer j ≡ Some a → AtRest layout view j
answered-rest base layout view j a fits said = record {
  on_turn = on-turn base layout view j fits;
  hand_is = (ends base layout view j fits said).0;
  now = inl (ap is_some said, idle-end base layout view j fits said);
  paid = paid-at-end base layout view j fits said;
  told_paid = told-end base layout view j fits said;
}

paused-rest : (base : List Made) (layout : Layout) (view : View) (i : Instruction) (p : Pause) → instruction_fits.FitsFrom base layout view i → instructions.pause i ≡ Some p → AtRest layout view (kinds.Instruction i)
paused-rest base layout view i p fits is = record { on_turn = fits.on_turn; hand_is = has.hand_is; now = inr ((p, pauses-rest i p fits is), has.paid); paid = inl has.paid; told_paid = λ told. has.paid }
  where
    has : instruction_fits.IsPaused base layout view i fits.checks p
    has = subst (instruction_fits.FitsAt base layout view i fits.checks) (at-pause i.at is) fits.at

copy-rest : (base : List Made) (layout : Layout) (view : View) (c : Copying) (p : Pause) → copying_fits.FitsFrom base layout view c → copyings.pause c ≡ Some p → AtRest layout view (kinds.Copying c)
copy-rest base layout view c p fits is = record { on_turn = fits.on_turn; hand_is = (paused c.instruction p access.instruction own.1).hand_is; now = inr ((p, base, copy-resting.rests c p fits is), paid); paid = inl paid; told_paid = λ told. paid }
  where
    own : (c.at ≡ copying_at.Access) × (instructions.pause c.instruction ≡ Some p)
    own = copy-at-pause c is

    access : copying_fits.IsAccessing base layout view c fits.runs
    access = subst (copying_fits.FitsAt base layout view c fits.runs) own.0 fits.at

    paid : view.owed.losses ≡ []
    paid = (paused c.instruction p access.instruction own.1).paid

pub some-of : {A : Type 0} (o : Option A) → is_some o ≡ true → (x : A) × (o ≡ Some x)
some-of None is = absurd (both_ways true (sym is) refl)
some-of (Some x) is = (x, refl)

other-rest : (base : List Made) (layout : Layout) (view : View) (j : Job) → jobs.FitsFrom base layout view j → is_some (jobs.answer j) ≡ true → AtRest layout view j
other-rest base layout view j fits is = let some = some-of (jobs.answer j) is in answered-rest base layout view j some.0 fits some.1

pub at-rest : (base : List Made) (layout : Layout) (view : View) (j : Job) → jobs.FitsFrom base layout view j → rests j ≡ true → AtRest layout view j
at-rest base layout view (kinds.Instruction i) fits is = let some = some-of (instructions.pause i) is in paused-rest base layout view i some.0 fits some.1
at-rest base layout view (kinds.Copying c) fits is = let some = some-of (copyings.pause c) is in copy-rest base layout view c some.0 fits some.1
at-rest base layout view (kinds.Evict x) fits is = other-rest base layout view (kinds.Evict x) fits is
at-rest base layout view (kinds.Fsync x) fits is = other-rest base layout view (kinds.Fsync x) fits is
at-rest base layout view (kinds.Prctl x) fits is = other-rest base layout view (kinds.Prctl x) fits is
at-rest base layout view (kinds.Denied x) fits is = other-rest base layout view (kinds.Denied x) fits is
at-rest base layout view (kinds.Fork x) fits is = other-rest base layout view (kinds.Fork x) fits is
at-rest base layout view (kinds.Log x) fits is = other-rest base layout view (kinds.Log x) fits is
at-rest base layout view (kinds.Raise x) fits is = other-rest base layout view (kinds.Raise x) fits is
at-rest base layout view (kinds.Scrub x) fits is = other-rest base layout view (kinds.Scrub x) fits is
at-rest base layout view (kinds.Spoil x) fits is = other-rest base layout view (kinds.Spoil x) fits is
at-rest base layout view (kinds.Nested x) fits is = other-rest base layout view (kinds.Nested x) fits is
at-rest base layout view (kinds.Inject x) fits is = other-rest base layout view (kinds.Inject x) fits is
at-rest base layout view (kinds.Soft x) fits is = other-rest base layout view (kinds.Soft x) fits is
at-rest base layout view (kinds.Unpoison x) fits is = other-rest base layout view (kinds.Unpoison x) fits is

-- ---- a course whose own task has just moved

module _ (layout : Layout) (view : View) (c : Course) (none_due : length c.due.frames ≡ length c.due.offlined) where
  -- it goes on, or all is done
  pub own-on : (base : List Made) (j : Job) → jobs.FitsFrom base layout view j → (collects c.watching ≡ true → HasPassed j c.noted) → FitsOwn layout view (record c { own = j }) (jobs.answer j)
  own-on base j fits passed = which (jobs.answer j) refl
    where
      which : (o : Option Answer) → jobs.answer j ≡ o → FitsOwn layout view (record c { own = j }) o
      which None is = record { fits = (base, fits); none_due = none_due; passed = passed }
      which (Some a) is = record { on_turn = on-turn base layout view j fits; hand_is = (ends base layout view j fits is).0; paid = paid-at-end base layout view j fits is; idle = idle-end base layout view j fits is }

  done : (j : Job) (a : Answer) → jobs.answer j ≡ Some a → IsOnTurn view (jobs.who j) → hand_of view ≡ empty → OrPaid view j → jobs.claims j ≡ None → FitsOwn layout view (record c { own = j }) (jobs.answer j)
  done j a said on hand paid idle = subst (FitsOwn layout view (record c { own = j })) (sym said) (record { on_turn = on; hand_is = hand; paid = paid; idle = idle })

  -- behind a rest, whatever its command has made meanwhile
  pub behind : (j : Job) → IsOnTurn view (jobs.who j) → hand_of view ≡ empty → OrPaid view j → c.noted ≡ length (jobs.told_of j) → RestsNow layout view j
      → FitsOwn layout view (record c { own = jobs.resume j }) (jobs.answer (jobs.resume j))
  behind j on hand paid noted (inl (said, idle)) = subst (λ (k : Job). FitsOwn layout view (record c { own = k }) (jobs.answer k)) (sym (answered-resumes j said)) (let some = some-of (jobs.answer j) said in done j some.0 some.1 on hand paid idle)
  behind (kinds.Instruction i) on hand paid noted (inr ((p, rest), none)) =
      subst (λ (k : Instruction). FitsOwn layout view (record c { own = kinds.Instruction k }) (jobs.answer (kinds.Instruction k))) (sym is)
      (own-on (deeds i.request.who view) (kinds.Instruction k) (subst (instruction_fits.FitsFrom (deeds i.request.who view) layout view) is (resumes i p rest on hand none)) (λ on_. (rest.collects, λ goes. noted)))
    where
      k : Instruction
      k = record i { at = instructions.resumed i.request p }

      is : instructions.resume i ≡ k
      is = ap (λ (x : InstructionAt). instructions.resume_by i (instructions.pause_at x)) rest.at_is
  behind (kinds.Copying y) on hand paid noted (inr ((p, base, rest), none)) =
      subst (λ (k : Copying). FitsOwn layout view (record c { own = kinds.Copying k }) (jobs.answer (kinds.Copying k))) (sym is)
      (own-on base (kinds.Copying k) (subst (copying_fits.FitsFrom base layout view) is (copy-resting.resumes y p rest on hand none)) (λ on_. (rest.rests.collects, λ goes. noted)))
    where
      k : Copying
      k = record y { instruction = record y.instruction { at = instructions.resumed y.instruction.request p }; at = copying_at.Access }

      is : copyings.resume y ≡ k
      is = copy-behind y p rest.at_is rest.rests.at_is
  behind _ on hand paid noted (inr none) = absurd none.0

-- ---- memory runs out where it rests

-- it gives up, beside the same entries
pub gives-up-fits : (base : List Made) (layout : Layout) (view : View) (j : Job) → jobs.FitsFrom base layout view j → hand_of view ≡ empty → rests j ≡ true → jobs.told_of j ≢ [] → jobs.FitsFrom base layout view (jobs.give_up j)
gives-up-fits base layout view (kinds.Instruction i) fits hand is told = record {
  on_turn = fits.on_turn;
  sound = fits.sound;
  names = fits.names;
  origin = fits.origin;
  three = fits.three;
  checks = fits.checks;
  checked = fits.checked;
  told_is = fits.told_is;
  banks_are = fits.banks_are ∙ ap (instruction_fits.banks_at i.before.value fits.checks) (at-pause i.at (some-of (instructions.pause i) is).1);
  at = hand;
}
gives-up-fits base layout view (kinds.Copying c) fits hand is told = let some = some-of (copyings.pause c) is in copy-resting.gives-up c some.0 fits some.1
gives-up-fits base layout view (kinds.Raise r) fits hand is told = (fits.0, record { on_turn = fits.1.on_turn; sound = fits.1.sound; raiser = fits.1.raiser; three = fits.1.three; at = hand })
gives-up-fits base layout view (kinds.Scrub s) fits hand is told = (fits.0, record { on_turn = fits.1.on_turn; sound = fits.1.sound; frames = fits.1.frames; banks = fits.1.banks; at = hand })
gives-up-fits base layout view _ fits hand is told = absurd (told refl)

-- and then has no answer
pub given-up-none : (j : Job) → jobs.told_of j ≢ [] → (jobs.answer (jobs.give_up j) ≡ None) × (gives_up (jobs.give_up j) ≡ true) × (jobs.told_of (jobs.give_up j) ≡ jobs.told_of j)
given-up-none (kinds.Instruction i) told = (refl, refl, refl)
given-up-none (kinds.Copying c) told = (refl, refl, refl)
given-up-none (kinds.Raise r) told = (refl, refl, refl)
given-up-none (kinds.Scrub s) told = (refl, refl, refl)
given-up-none _ told = absurd (told refl)
