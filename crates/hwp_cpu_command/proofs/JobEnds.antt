-- A command that is answered makes no more steps, and its processor holds nothing.
use Rattle.std.proofs.Common.{◌≡◌, ◌⊎◌, inl, inr, true, false, [], Option, Some, None, refl, sym, ap, ◌∙◌, subst, List}
use Rattle.std.specs.Option.{option_map}
use Rattle.std.proofs.lemmas.Option.{none-some, same_Some}
use Rattle.hwp_cpu_control.specs.hwp_geom.declared.Layout.{Layout}
use Rattle.hwp_cpu_row.specs.hwp_report_text.declared.Answer.{Answer}
use Rattle.hwp_cpu_control.specs.hwp_core_rule.declared.Made.{Made}
use Rattle.hwp_cpu_control.specs.hwp_core_rule.declared.View.{View}
use Rattle.hwp_cpu_control.specs.hwp_core_rule.Hands.{hand_of, empty}
use Rattle.hwp_cpu_control.specs.declared.nested.NestedAt.{NestedAt}
use Rattle.hwp_cpu_control.specs.declared.nested.NestedAt.TheVariants as nested_at
use Rattle.hwp_cpu_control.specs.declared.denied.DeniedAt.{DeniedAt}
use Rattle.hwp_cpu_control.specs.declared.denied.DeniedAt.TheVariants as denied_at
use Rattle.hwp_cpu_control.specs.declared.Denied.{Denied}
use Rattle.hwp_cpu_control.specs.declared.DeniedAnswer.{DeniedAnswer}
use Rattle.hwp_cpu_control.specs.Denieds as denieds
use Rattle.hwp_cpu_control.specs.declared.prctl.PrctlAt.{PrctlAt}
use Rattle.hwp_cpu_control.specs.declared.prctl.PrctlAt.TheVariants as prctl_at
use Rattle.hwp_cpu_control.specs.declared.fork.ForkAt.{ForkAt}
use Rattle.hwp_cpu_control.specs.declared.fork.ForkAt.TheVariants as fork_at
use Rattle.hwp_cpu_control.specs.declared.Fork.{Fork}
use Rattle.hwp_cpu_control.specs.declared.ForkAnswer.{ForkAnswer}
use Rattle.hwp_cpu_control.specs.Forks as forks
use Rattle.hwp_cpu_control.specs.declared.read_stop.ReadStopAt.{ReadStopAt}
use Rattle.hwp_cpu_control.specs.declared.read_stop.ReadStopAt.TheVariants as read_at
use Rattle.hwp_cpu_control.specs.declared.spoil.SpoilAt.{SpoilAt}
use Rattle.hwp_cpu_control.specs.declared.spoil.SpoilAt.TheVariants as spoil_at
use Rattle.hwp_cpu_control.specs.declared.Nested.{Nested}
use Rattle.hwp_cpu_control.specs.declared.Prctl.{Prctl}
use Rattle.hwp_cpu_control.specs.declared.ReadStop.{ReadStop}
use Rattle.hwp_cpu_control.specs.declared.Spoil.{Spoil}
use Rattle.hwp_cpu_control.specs.declared.NestedAnswer.{NestedAnswer}
use Rattle.hwp_cpu_control.specs.declared.PrctlAnswer.{PrctlAnswer}
use Rattle.hwp_cpu_control.specs.declared.ReadStopAnswer.{ReadStopAnswer}
use Rattle.hwp_cpu_control.specs.declared.SpoilAnswer.{SpoilAnswer}
use Rattle.hwp_cpu_control.specs.Nesteds as nesteds
use Rattle.hwp_cpu_control.specs.Prctls as prctls
use Rattle.hwp_cpu_control.specs.ReadStops as read_stops
use Rattle.hwp_cpu_control.specs.Spoils as spoils
use Rattle.hwp_evict.specs.declared.evict.EvictAt.{EvictAt}
use Rattle.hwp_evict.specs.declared.evict.EvictAt.TheVariants as evict_at
use Rattle.hwp_evict.specs.declared.fsync.FsyncAt.{FsyncAt}
use Rattle.hwp_evict.specs.declared.fsync.FsyncAt.TheVariants as fsync_at
use Rattle.hwp_evict.specs.declared.Evict.{Evict}
use Rattle.hwp_evict.specs.declared.Fsync.{Fsync}
use Rattle.hwp_evict.specs.declared.EvictAnswer.{EvictAnswer}
use Rattle.hwp_evict.specs.declared.FsyncAnswer.{FsyncAnswer}
use Rattle.hwp_evict.specs.Evictions.{IsCaused}
use Rattle.hwp_evict.specs.Evicts as evicts
use Rattle.hwp_evict.specs.Fsyncs as fsyncs
use Rattle.hwp_cpu_row.specs.hwp_claim.declared.fail.FailAt.{FailAt}
use Rattle.hwp_cpu_row.specs.hwp_claim.declared.fail.FailAt.TheVariants as fail_at
use Rattle.hwp_cpu_row.specs.hwp_claim.declared.FailAnswer.{FailAnswer}
use Rattle.hwp_cpu_row.specs.hwp_claim.declared.FailAnswer.TheVariants as fail_answers
use Rattle.hwp_cpu_row.specs.hwp_claim.declared.inject.Inject.{Inject}
use Rattle.hwp_cpu_row.specs.hwp_claim.declared.inject.InjectAt.{InjectAt}
use Rattle.hwp_cpu_row.specs.hwp_claim.declared.inject.InjectAt.TheVariants as inject_at
use Rattle.hwp_cpu_row.specs.hwp_claim.Done as failures
use Rattle.hwp_cpu_row.specs.hwp_claim.Fails as fails
use Rattle.hwp_cpu_row.specs.hwp_claim.Injects as injects
use Rattle.hwp_cpu_access.proofs.of_hwp_claim.InjectEnds as inject_ends
use Rattle.hwp_cpu_row.specs.hwp_claim.Fits.{IsAtRest}
use Rattle.hwp_cpu_access.specs.declared.Instruction.{Instruction}
use Rattle.hwp_cpu_access.specs.declared.InstructionAnswer.{InstructionAnswer}
use Rattle.hwp_cpu_access.specs.declared.instruction.InstructionAt.{InstructionAt}
use Rattle.hwp_cpu_access.specs.declared.instruction.InstructionAt.TheVariants as instruction_at
use Rattle.hwp_cpu_access.specs.Fits as instruction_fits
use Rattle.hwp_cpu_access.specs.Instructions as instructions
use Rattle.hwp_cpu_access.specs.Copyings as copyings
use Rattle.hwp_cpu_access.specs.declared.Copying.{Copying}
use Rattle.hwp_cpu_access.specs.declared.copying.CopyingAt.{CopyingAt}
use Rattle.hwp_cpu_access.specs.declared.copying.CopyingAt.TheVariants as copying_at
use Rattle.hwp_cpu_access.proofs.CopyEnds as copy_ends
use Rattle.hwp_scrub.specs.declared.Raise.{Raise}
use Rattle.hwp_scrub.specs.declared.RaiseAnswer.{RaiseAnswer}
use Rattle.hwp_scrub.specs.declared.raise.RaiseAt.{RaiseAt}
use Rattle.hwp_scrub.specs.declared.raise.RaiseAt.TheVariants as raise_at
use Rattle.hwp_scrub.specs.RaiseFits as raise_fits
use Rattle.hwp_scrub.specs.Logs as logs
use Rattle.hwp_scrub.specs.Raises as raises
use Rattle.hwp_scrub.specs.declared.Scrub.{Scrub}
use Rattle.hwp_scrub.specs.declared.ScrubAnswer.{ScrubAnswer}
use Rattle.hwp_scrub.specs.declared.ScrubAnswer.TheVariants as scrub_answers
use Rattle.hwp_scrub.specs.declared.scrub.ScrubAt.{ScrubAt}
use Rattle.hwp_scrub.specs.declared.scrub.ScrubAt.TheVariants as scrub_at
use Rattle.hwp_scrub.specs.Fits as scrub_fits
use Rattle.hwp_scrub.specs.Scrubs as scrubs
use Rattle.hwp_soft.specs.declared.Soft.{Soft}
use Rattle.hwp_soft.specs.declared.SoftAnswer.{SoftAnswer}
use Rattle.hwp_soft.specs.declared.soft.SoftAt.{SoftAt}
use Rattle.hwp_soft.specs.declared.soft.SoftAt.TheVariants as soft_at
use Rattle.hwp_soft.specs.Offline as offline
use Rattle.hwp_soft.specs.Softs as softs
use Rattle.hwp_soft.specs.declared.Unpoison.{Unpoison}
use Rattle.hwp_soft.specs.declared.UnpoisonAnswer.{UnpoisonAnswer}
use Rattle.hwp_soft.specs.declared.unpoison.UnpoisonAt.{UnpoisonAt}
use Rattle.hwp_soft.specs.declared.unpoison.UnpoisonAt.TheVariants as unpoison_at
use Rattle.hwp_soft.specs.Unpoisons as unpoisons
use Rattle.hwp_soft.proofs.UnpoisonLaws as reviving
use Rattle.hwp_cpu_command.specs.declared.job.Job.{Job}
use Rattle.hwp_cpu_command.specs.declared.job.Job.TheVariants as jobs
use Rattle.hwp_cpu_command.specs.Answers.{fail_answer}
use Rattle.hwp_cpu_command.specs.Done.{failed_now, marked_at, marked_now}
use Rattle.hwp_cpu_command.specs.Jobs.{FitsFrom, answer, plan}

-- the answer of the task itself
pub mapped : {A B : Type 0} (f : A → B) (o : Option A) {b : B} → option_map f o ≡ Some b → (a : A) × (o ≡ Some a) × (f a ≡ b)
mapped f None {b} is = absurd (none-some b is)
mapped f (Some a) {b} is = (a, refl, same_Some (f a) b is)

-- ---- each kind of task is over once it has an answer

pub instruction-over : (i : Instruction) {x : InstructionAnswer} → instructions.answer i ≡ Some x → i.at ≡ instruction_at.Over (Some x)
instruction-over i {x} is = which i.at is
  where
    which : (y : InstructionAt) → instructions.answer_at y ≡ Some x → y ≡ instruction_at.Over (Some x)
    which (instruction_at.Over other) some = ap instruction_at.Over some
    which _ none = absurd (none-some x none)

evict-over : (e : Evict) {x : EvictAnswer} → evicts.answer e ≡ Some x → e.at ≡ evict_at.Over x
evict-over e {x} is = which e.at is
  where
    which : (y : EvictAt) → evicts.answer_at y ≡ Some x → y ≡ evict_at.Over x
    which (evict_at.Over other) some = ap evict_at.Over (same_Some other x some)
    which _ none = absurd (none-some x none)

-- with the number that its handle has then
pub fsync-over : (f : Fsync) {x : FsyncAnswer} → fsyncs.answer f ≡ Some x → f.at ≡ fsync_at.Over x (fsyncs.number f)
fsync-over f {x} is = which f.at is
  where
    which : (y : FsyncAt) → fsyncs.answer_at y ≡ Some x → y ≡ fsync_at.Over x (fsyncs.number_at f.handle y)
    which (fsync_at.Over other number) some = ap (λ (a : FsyncAnswer). fsync_at.Over a number) (same_Some other x some)
    which _ none = absurd (none-some x none)

pub prctl-over : (p : Prctl) {x : PrctlAnswer} → prctls.answer p ≡ Some x → p.at ≡ prctl_at.Over x
prctl-over p {x} is = which p.at is
  where
    which : (y : PrctlAt) → prctls.answer_at y ≡ Some x → y ≡ prctl_at.Over x
    which (prctl_at.Over other) some = ap prctl_at.Over (same_Some other x some)
    which _ none = absurd (none-some x none)

pub denied-over : (d : Denied) {x : DeniedAnswer} → denieds.answer d ≡ Some x → d.at ≡ denied_at.Over x
denied-over d {x} is = which d.at is
  where
    which : (y : DeniedAt) → denieds.answer_at y ≡ Some x → y ≡ denied_at.Over x
    which (denied_at.Over other) some = ap denied_at.Over (same_Some other x some)
    which _ none = absurd (none-some x none)

pub fork-over : (f : Fork) {x : ForkAnswer} → forks.answer f ≡ Some x → f.at ≡ fork_at.Over x
fork-over f {x} is = which f.at is
  where
    which : (y : ForkAt) → forks.answer_at y ≡ Some x → y ≡ fork_at.Over x
    which (fork_at.Over other) some = ap fork_at.Over (same_Some other x some)
    which _ none = absurd (none-some x none)

pub read-over : (r : ReadStop) {x : ReadStopAnswer} → read_stops.answer r ≡ Some x → r.at ≡ read_at.Over x
read-over r {x} is = which r.at is
  where
    which : (y : ReadStopAt) → read_stops.answer_at y ≡ Some x → y ≡ read_at.Over x
    which (read_at.Over other) some = ap read_at.Over (same_Some other x some)
    which _ none = absurd (none-some x none)

pub raise-over : (r : Raise) {x : RaiseAnswer} → raises.answer r ≡ Some x → r.at ≡ raise_at.Over (Some x)
raise-over r {x} is = which r.at is
  where
    which : (y : RaiseAt) → raises.answer_at y ≡ Some x → y ≡ raise_at.Over (Some x)
    which (raise_at.Over other) some = ap raise_at.Over some
    which _ none = absurd (none-some x none)

pub scrub-over : (s : Scrub) {x : ScrubAnswer} → scrubs.answer s ≡ Some x → s.at ≡ scrub_at.Over (Some x)
scrub-over s {x} is = which s.at is
  where
    which : (y : ScrubAt) → scrubs.answer_at y ≡ Some x → y ≡ scrub_at.Over (Some x)
    which (scrub_at.Over other) some = ap scrub_at.Over some
    which _ none = absurd (none-some x none)

pub spoil-over : (s : Spoil) {x : SpoilAnswer} → spoils.answer s ≡ Some x → s.at ≡ spoil_at.Over x
spoil-over s {x} is = which s.at is
  where
    which : (y : SpoilAt) → spoils.answer_at y ≡ Some x → y ≡ spoil_at.Over x
    which (spoil_at.Over other) some = ap spoil_at.Over (same_Some other x some)
    which _ none = absurd (none-some x none)

pub nested-over : (n : Nested) {x : NestedAnswer} → nesteds.answer n ≡ Some x → n.at ≡ nested_at.Over (Some x)
nested-over n {x} is = which n.at is
  where
    which : (y : NestedAt) → nesteds.answer_at y ≡ Some x → y ≡ nested_at.Over (Some x)
    which (nested_at.Over other) some = ap nested_at.Over some
    which _ none = absurd (none-some x none)

pub soft-over : (s : Soft) {x : SoftAnswer} → softs.answer s ≡ Some x → s.at ≡ soft_at.Over x
soft-over s {x} is = which s.at is
  where
    which : (y : SoftAt) → softs.answer_at y ≡ Some x → y ≡ soft_at.Over x
    which (soft_at.Over other) some = ap soft_at.Over (same_Some other x some)
    which _ none = absurd (none-some x none)

pub unpoison-over : (u : Unpoison) {x : UnpoisonAnswer} → unpoisons.answer u ≡ Some x → u.at ≡ unpoison_at.Over x
unpoison-over u {x} is = which u.at is
  where
    which : (y : UnpoisonAt) → unpoisons.answer_at y ≡ Some x → y ≡ unpoison_at.Over x
    which (unpoison_at.Over other) some = ap unpoison_at.Over (same_Some other x some)
    which _ none = absurd (none-some x none)

-- what a memory failure that is over knows: it holds nothing and owes no loss; its answer has its cause, and says what
-- it has marked; and but for `stopped` the machine recovers
pub record InjectEnded (layout : Layout) (view : View) (i : Inject) (x : FailAnswer) : Type 0 where
  pub hand_is : hand_of view ≡ empty
  pub paid : view.owed.losses ≡ []
  pub over : injects.HasEnded layout view i.who i.frame x
  pub marked : marked_now (jobs.Inject i) ≡ failures.marked_over i.frame false x
  pub recovery : (x ≡ fail_answers.Stopped) ⊎ (layout.recovery ≡ true)

pub inject-ended : {layout : Layout} {view : View} (i : Inject) {x : FailAnswer} → injects.Fits layout view i → injects.answer i ≡ Some x → InjectEnded layout view i x
inject-ended {layout} {view} i {x} fits is = which i.at refl fits.at is
  where
    which : (y : InjectAt) → i.at ≡ y → injects.FitsAt layout view i.who i.frame y → injects.answer_at y ≡ Some x → InjectEnded layout view i x
    which inject_at.LoadStop at has e = absurd (none-some x e)
    which inject_at.Stopped at has e = subst (InjectEnded layout view i) (same_Some fail_answers.Stopped x e) (record { hand_is = has.0.hand_is; paid = has.0.paid; over = (has.0.made, has.0.unmarked, has.1); marked = ap (marked_at i.frame) at; recovery = inl refl })
    which (inject_at.Fail f) at has e = by f.at refl has.fail.at e
      where
        recovers : (answer : FailAnswer) → layout.recovery ≡ injects.recovers_at (fail_at.Over answer) → (answer ≡ fail_answers.Stopped) ⊎ (layout.recovery ≡ true)
        recovers fail_answers.Stopped so = inl refl
        recovers fail_answers.Already so = inr so
        recovers (fail_answers.Done found) so = inr so

        by : (y : FailAt) → f.at ≡ y → fails.FitsAt layout view f.who f.frame f.required f.hardware y → fails.answer_at y ≡ Some x → InjectEnded layout view i x
        by (fail_at.Over answer) over known said = subst (InjectEnded layout view i) (same_Some answer x said) (record {
          hand_is = known.0;
          paid = known.1;
          over = subst (injects.HasEnded layout view i.who i.frame) (sym (same_Some answer x said)) (inject_ends.inject-ended layout view i x fits is);
          marked = ap (marked_at i.frame) at ∙ ap (failures.marked_at i.frame false) over;
          recovery = recovers answer (has.recovery ∙ ap injects.recovers_at over);
        })
        by _ over known said = absurd (none-some x said)

-- ---- a command that is answered

-- an instruction that is answered has its end, after its machine checks
pub instruction-ended : {base : List Made} {layout : Layout} {view : View} (i : Instruction) {x : InstructionAnswer} (fits : instruction_fits.FitsFrom base layout view i) → instructions.answer i ≡ Some x → instruction_fits.IsAnswered base layout view i fits.checks x
instruction-ended {base} {layout} {view} i fits is = subst (instruction_fits.FitsAt base layout view i fits.checks) (instruction-over i is) fits.at

-- and so has a machine check that was raised
pub raise-ended : {layout : Layout} {view : View} (r : Raise) {x : RaiseAnswer} → raise_fits.Fits layout view r → raises.answer r ≡ Some x → IsAtRest view × raise_fits.IsEnd layout view r x
raise-ended {layout} {view} r fits is = subst (raise_fits.FitsAt layout view r) (raise-over r is) fits.at

-- and a scrub
pub scrub-ended : {layout : Layout} {view : View} (s : Scrub) {x : ScrubAnswer} → scrub_fits.Fits layout view s → scrubs.answer s ≡ Some x → scrub_fits.IsEnd layout view s x
scrub-ended {layout} {view} s fits is = subst (scrub_fits.FitsAt layout view s) (scrub-over s is) fits.at

scrub-rests : (layout : Layout) (view : View) (s : Scrub) (x : ScrubAnswer) → scrub_fits.IsEnd layout view s x → IsAtRest view
scrub-rests layout view s scrub_answers.Scrubbed ended = ended.rest
scrub-rests layout view s scrub_answers.Stopped (inl unbegun) = unbegun.0.rest
scrub-rests layout view s scrub_answers.Stopped (inr halted) = halted.1.rest

pub evict-caused : {base : List Made} {layout : Layout} {view : View} (e : Evict) {x : EvictAnswer} → evicts.FitsFrom base layout view e → evicts.answer e ≡ Some x → (hand_of view ≡ empty) × IsCaused base layout view e.who e.page e.what x
evict-caused {base} {layout} {view} e fits is = subst (evicts.FitsAt base layout view e.who e.page e.what) (evict-over e is) fits.at

-- a frame that was to be taken out of use
pub soft-ended : {base : List Made} {layout : Layout} {view : View} (s : Soft) {x : SoftAnswer} → offline.FitsFrom base layout view s → softs.answer s ≡ Some x → (hand_of view ≡ empty) × offline.IsCaused base layout view s.who s.frame x
soft-ended {base} {layout} {view} s fits is = subst (offline.FitsAt base layout view s.who s.frame) (soft-over s is) fits.at

-- a frame whose poison was to be taken back
pub unpoison-ended : {layout : Layout} {view : View} (u : Unpoison) {x : UnpoisonAnswer} → unpoisons.Fits layout view u → unpoisons.answer u ≡ Some x → (hand_of view ≡ empty) × unpoisons.IsCaused view u.who u.frame x
unpoison-ended {layout} {view} u {x} fits is = reviving.ended {layout = layout} {view = view} u {x = x} fits is

-- nor does a copy
copying-over : (c : Copying) {x : InstructionAnswer} → copyings.answer c ≡ Some x → copyings.plan c ≡ None
copying-over c {x} is = which c.at is
  where
    which : (y : CopyingAt) → copyings.answer_at c.instruction y ≡ Some x → copyings.plan_at c.instruction y ≡ None
    which copying_at.Access said = ap instructions.plan_at (instruction-over c.instruction said)
    which (copying_at.Free e stored) none = absurd (none-some x none)
    which (copying_at.Over other) said = refl

-- it plans no step
pub answered-over : {a : Answer} (j : Job) → answer j ≡ Some a → plan j ≡ None
answered-over (jobs.Copying c) is = copying-over c (mapped _ (copyings.answer c) is).1
answered-over (jobs.Instruction i) is = ap instructions.plan_at (instruction-over i (mapped _ (instructions.answer i) is).1)
answered-over (jobs.Evict e) is = ap evicts.plan_at (evict-over e (mapped _ (evicts.answer e) is).1)
answered-over (jobs.Fsync f) is = ap (fsyncs.plan_at f.file) (fsync-over f (mapped _ (fsyncs.answer f) is).1)
answered-over (jobs.Prctl p) is = ap (prctls.plan_at p.thread p.process) (prctl-over p (mapped _ (prctls.answer p) is).1)
answered-over (jobs.Denied p) is = ap (denieds.plan_at p.process) (denied-over p (mapped _ (denieds.answer p) is).1)
answered-over (jobs.Fork f) is = ap (forks.plan_at f.thread f.process) (fork-over f (mapped _ (forks.answer f) is).1)
answered-over (jobs.Log l) is = ap read_stops.plan_at (read-over l.read (mapped _ (logs.answer l) is).1)
answered-over (jobs.Raise r) is = ap raises.plan_at (raise-over r (mapped _ (raises.answer r) is).1)
answered-over (jobs.Scrub s) is = ap scrubs.plan_at (scrub-over s (mapped _ (scrubs.answer s) is).1)
answered-over (jobs.Spoil s) is = ap (spoils.plan_at s.frame s.line s.damage) (spoil-over s (mapped _ (spoils.answer s) is).1)
answered-over (jobs.Nested n) is = ap (nesteds.plan_at n.who) (nested-over n (mapped _ (nesteds.answer n) is).1)
answered-over (jobs.Unpoison u) is = ap (unpoisons.plan_at u.frame) (unpoison-over u (mapped _ (unpoisons.answer u) is).1)
answered-over (jobs.Soft s) is = ap (softs.plan_at s.frame) (soft-over s (mapped _ (softs.answer s) is).1)
answered-over {a} (jobs.Inject i) is = which i.at is
  where
    by : (x : FailAt) → option_map fail_answer (fails.answer_at x) ≡ Some a → fails.plan_at x ≡ None
    by (fail_at.Over x) said = refl
    by _ said = absurd (none-some a said)

    which : (x : InjectAt) → option_map fail_answer (injects.answer_at x) ≡ Some a → injects.plan_at x ≡ None
    which inject_at.LoadStop said = absurd (none-some a said)
    which (inject_at.Fail f) said = by f.at said
    which inject_at.Stopped said = refl

-- and its processor holds nothing
empty-handed : (base : List Made) (layout : Layout) (view : View) (j : Job) {a : Answer} → FitsFrom base layout view j → answer j ≡ Some a → hand_of view ≡ empty
empty-handed base layout view (jobs.Instruction i) fits is = (instruction-ended i fits (mapped _ (instructions.answer i) is).1).hand_is
empty-handed base layout view (jobs.Copying c) fits is = (copy_ends.ends c fits (mapped _ (copyings.answer c) is).1).hand_is
empty-handed base layout view (jobs.Evict e) fits is = (evict-caused e fits (mapped _ (evicts.answer e) is).1).0
empty-handed base layout view (jobs.Fsync f) fits is = fits.1.hand_is
empty-handed base layout view (jobs.Prctl p) fits is = fits.1.hand_is
empty-handed base layout view (jobs.Denied p) fits is = fits.1.hand_is
empty-handed base layout view (jobs.Fork f) fits is = fits.1.hand_is
empty-handed base layout view (jobs.Log l) fits is = fits.1.read.hand_is
empty-handed base layout view (jobs.Raise r) fits is = (raise-ended r fits.1 (mapped _ (raises.answer r) is).1).0.hand_is
empty-handed base layout view (jobs.Scrub s) fits is = let own = mapped _ (scrubs.answer s) is in (scrub-rests layout view s own.0 (scrub-ended s fits.1 own.1)).hand_is
empty-handed base layout view (jobs.Spoil s) fits is = fits.1.hand_is
empty-handed base layout view (jobs.Nested n) fits is = fits.1.hand_is
empty-handed base layout view (jobs.Inject i) fits is = (inject-ended i fits.1 (mapped _ (injects.answer i) is).1).hand_is
empty-handed base layout view (jobs.Soft s) fits is = (soft-ended s fits (mapped _ (softs.answer s) is).1).0
empty-handed base layout view (jobs.Unpoison u) fits is = (unpoison-ended u fits.1 (mapped _ (unpoisons.answer u) is).1).0

pub ends : (base : List Made) (layout : Layout) (view : View) (j : Job) {a : Answer} → FitsFrom base layout view j → answer j ≡ Some a → (hand_of view ≡ empty) × (plan j ≡ None)
ends base layout view j fits is = (empty-handed base layout view j fits is, answered-over j is)

-- a command of which memory can fail owes no loss, once it is answered
pub paid-at-end : (base : List Made) (layout : Layout) (view : View) (j : Job) {a : Answer} → FitsFrom base layout view j → answer j ≡ Some a → (view.owed.losses ≡ []) ⊎ (failed_now j ≡ [])
paid-at-end base layout view (jobs.Instruction i) fits is = inl (instruction-ended i fits (mapped _ (instructions.answer i) is).1).paid
paid-at-end base layout view (jobs.Copying c) fits is = inl (copy_ends.ends c fits (mapped _ (copyings.answer c) is).1).paid
paid-at-end base layout view (jobs.Raise r) fits is = inl (raise-ended r fits.1 (mapped _ (raises.answer r) is).1).0.paid
paid-at-end base layout view (jobs.Scrub s) fits is = inl (let own = mapped _ (scrubs.answer s) is in (scrub-rests layout view s own.0 (scrub-ended s fits.1 own.1)).paid)
paid-at-end base layout view (jobs.Inject i) fits is = inl (inject-ended i fits.1 (mapped _ (injects.answer i) is).1).paid
paid-at-end base layout view _ fits is = inr refl
