-- A machine that has stopped stays so, and a command that has yet to look, or that was answered `stopped`, comes to nothing else.
use Rattle.std.proofs.Common.{◌≡◌, ◌≢◌, ◌⊎◌, inl, inr, ℕ, ◌+◌, not, Bool, true, false, cond, List, [], ◌∷◌, ◌++◌, Option, Some, None, length, option_map, refl, sym, ap, ◌∙◌, subst, arith, true≢false}
use Rattle.std.proofs.lemmas.Bool.{eq-eqb, ne_eqb}
use Rattle.std.proofs.lemmas.Option.{none-some, same_Some}
use Rattle.hwp_cpu_command.specs.hwp_geom.declared.Layout.{Layout}
use Rattle.hwp_cpu_command.specs.hwp_geom.declared.Who.{Who}
use Rattle.hwp_cpu_command.specs.hwp_kill.declared.Reply.{Reply}
use Rattle.hwp_cpu_command.specs.hwp_kill.declared.Reply.TheVariants as replies
use Rattle.hwp_cpu_command.specs.hwp_page.declared.At.{At}
use Rattle.hwp_cpu_command.specs.hwp_page.declared.Outcome.{Outcome}
use Rattle.hwp_cpu_command.specs.hwp_page.declared.Outcome.TheVariants as outcomes
use Rattle.hwp_cpu_command.specs.hwp_page.Situations.{outcome_of}
use Rattle.hwp_cpu_command.specs.hwp_page.History.{BodyValue}
use Rattle.hwp_cpu_command.specs.hwp_words.Stops.{is_stopped, stopper_of}
use Rattle.hwp_cpu_command.specs.hwp_core_rule.declared.Made.{Made}
use Rattle.hwp_cpu_command.specs.hwp_core_rule.declared.Log.{Log}
use Rattle.hwp_cpu_command.specs.hwp_core_rule.declared.SharedWord.TheVariants as places
use Rattle.hwp_cpu_command.specs.hwp_core_rule.declared.Sight.{Sight}
use Rattle.hwp_cpu_command.specs.hwp_core_rule.declared.Spoiled.{Spoiled}
use Rattle.hwp_cpu_command.specs.hwp_core_rule.declared.Step.TheVariants as steps
use Rattle.hwp_cpu_command.specs.hwp_core_rule.declared.View.{View}
use Rattle.hwp_cpu_command.specs.hwp_core_rule.Lists.{SomeMember}
use Rattle.hwp_cpu_command.specs.hwp_core_rule.Views.{noted, stamp_of}
use Rattle.hwp_cpu_command.specs.hwp_core_rule.Words.{words_of}
use Rattle.hwp_cpu_command.proofs.of_hwp_core_rule.Lists.{at_map, some-push}
use Rattle.hwp_cpu_command.specs.hwp_core_rule.declared.Turn.{Turn}
use Rattle.hwp_cpu_command.specs.hwp_core_rule.Calls.{Steps, logs as logs_of}
use Rattle.hwp_cpu_command.proofs.of_hwp_core_rule.tasks.StepLeaves.{steps-planned}
use Rattle.hwp_cpu_command.specs.hwp_core_rule.Known.{Saw, SawStop}
use Rattle.hwp_cpu_command.proofs.of_hwp_core_rule.tasks.SightKeeps.{saw-load, saw-stays}
use Rattle.hwp_cpu_command.specs.hwp_script_words.declared.Command.{Command}
use Rattle.hwp_cpu_command.specs.hwp_report_text.declared.Answer.{Answer}
use Rattle.hwp_cpu_command.specs.hwp_report_text.declared.Answer.TheVariants as answers
use Rattle.hwp_cpu_command.specs.hwp_law.Outcomes.{outcome_answer, reply_answer}
use Rattle.hwp_cpu_command.specs.hwp_banks.Banks.{Banks}
use Rattle.hwp_cpu_command.specs.hwp_cpu_control.declared.Nested.{Nested}
use Rattle.hwp_cpu_command.specs.hwp_cpu_control.declared.NestedAnswer.TheVariants as nested_answers
use Rattle.hwp_cpu_command.specs.hwp_cpu_control.declared.Fork.{Fork}
use Rattle.hwp_cpu_command.specs.hwp_cpu_control.declared.ForkAnswer.TheVariants as fork_answers
use Rattle.hwp_cpu_command.specs.hwp_cpu_control.declared.fork.ForkAt.{ForkAt}
use Rattle.hwp_cpu_command.specs.hwp_cpu_control.declared.fork.ForkAt.TheVariants as fork_at
use Rattle.hwp_cpu_command.specs.hwp_cpu_control.Forks as forks
use Rattle.hwp_cpu_command.specs.hwp_geom.declared.VSlot.{VSlot}
use Rattle.hwp_cpu_command.specs.hwp_cpu_access.declared.Copying.{Copying}
use Rattle.hwp_cpu_command.specs.hwp_cpu_access.declared.copying.CopyingAt.{CopyingAt}
use Rattle.hwp_cpu_command.specs.hwp_cpu_access.declared.copying.CopyingAt.TheVariants as copying_at
use Rattle.hwp_cpu_command.specs.hwp_cpu_access.Copyings as copyings
use Rattle.hwp_cpu_command.specs.hwp_cpu_access.CopyFits as copying_fits
use Rattle.hwp_cpu_command.specs.hwp_cpu_access.Runs.{Run, checks_by, made_by}
use Rattle.hwp_cpu_command.specs.hwp_claim.hwp_guest.declared.Admit.{Admit}
use Rattle.hwp_cpu_command.specs.hwp_cpu_control.declared.Denial.{Denial}
use Rattle.hwp_cpu_command.specs.hwp_cpu_control.declared.Denial.TheVariants as denials
use Rattle.hwp_cpu_command.specs.hwp_cpu_control.declared.Denied.{Denied}
use Rattle.hwp_cpu_command.specs.hwp_cpu_control.declared.DeniedAnswer.TheVariants as denied_answers
use Rattle.hwp_cpu_command.specs.hwp_cpu_control.declared.denied.DeniedAt.{DeniedAt}
use Rattle.hwp_cpu_command.specs.hwp_cpu_control.declared.denied.DeniedAt.TheVariants as denied_at
use Rattle.hwp_cpu_command.specs.hwp_cpu_control.Denieds as denieds
use Rattle.hwp_cpu_command.specs.hwp_cpu_control.declared.Prctl.{Prctl}
use Rattle.hwp_cpu_command.specs.hwp_cpu_control.declared.PrctlAnswer.TheVariants as prctl_answers
use Rattle.hwp_cpu_command.specs.hwp_cpu_control.declared.ReadStop.{ReadStop}
use Rattle.hwp_cpu_command.specs.hwp_cpu_control.declared.ReadStopAnswer.{ReadStopAnswer}
use Rattle.hwp_cpu_command.specs.hwp_cpu_control.declared.ReadStopAnswer.TheVariants as read_stop_answers
use Rattle.hwp_cpu_command.specs.hwp_cpu_control.declared.Spoil.{Spoil}
use Rattle.hwp_cpu_command.specs.hwp_cpu_control.declared.SpoilAnswer.TheVariants as spoil_answers
use Rattle.hwp_cpu_command.specs.hwp_cpu_control.declared.nested.NestedAt.{NestedAt}
use Rattle.hwp_cpu_command.specs.hwp_cpu_control.declared.nested.NestedAt.TheVariants as nested_at
use Rattle.hwp_cpu_command.specs.hwp_cpu_control.declared.prctl.PrctlAt.{PrctlAt}
use Rattle.hwp_cpu_command.specs.hwp_cpu_control.declared.prctl.PrctlAt.TheVariants as prctl_at
use Rattle.hwp_cpu_command.specs.hwp_cpu_control.declared.read_stop.ReadStopAt.{ReadStopAt}
use Rattle.hwp_cpu_command.specs.hwp_cpu_control.declared.read_stop.ReadStopAt.TheVariants as read_stop_at
use Rattle.hwp_cpu_command.specs.hwp_cpu_control.declared.spoil.SpoilAt.{SpoilAt}
use Rattle.hwp_cpu_command.specs.hwp_cpu_control.declared.spoil.SpoilAt.TheVariants as spoil_at
use Rattle.hwp_cpu_command.specs.hwp_cpu_control.Nesteds as nesteds
use Rattle.hwp_cpu_command.specs.hwp_cpu_control.Prctls as prctls
use Rattle.hwp_cpu_command.specs.hwp_cpu_control.ReadStops as read_stops
use Rattle.hwp_cpu_command.specs.hwp_cpu_control.Spoils as spoils
use Rattle.hwp_cpu_command.specs.hwp_core.Holds as holds
use Rattle.hwp_cpu_command.specs.hwp_evict.declared.Evict.{Evict}
use Rattle.hwp_cpu_command.specs.hwp_evict.declared.EvictAnswer.TheVariants as evict_answers
use Rattle.hwp_cpu_command.specs.hwp_evict.declared.Fsync.{Fsync}
use Rattle.hwp_cpu_command.specs.hwp_evict.declared.FsyncAnswer.TheVariants as fsync_answers
use Rattle.hwp_cpu_command.specs.hwp_evict.declared.Refusal.{Refusal}
use Rattle.hwp_cpu_command.specs.hwp_evict.declared.Refusal.TheVariants as refusals
use Rattle.hwp_cpu_command.specs.hwp_evict.declared.evict.EvictAt.{EvictAt}
use Rattle.hwp_cpu_command.specs.hwp_evict.declared.evict.EvictAt.TheVariants as evict_at
use Rattle.hwp_cpu_command.specs.hwp_evict.declared.fsync.FsyncAt.{FsyncAt}
use Rattle.hwp_cpu_command.specs.hwp_evict.declared.fsync.FsyncAt.TheVariants as fsync_at
use Rattle.hwp_cpu_command.specs.hwp_evict.Evicts as evicts
use Rattle.hwp_cpu_command.specs.hwp_evict.Fsyncs as fsyncs
use Rattle.hwp_cpu_command.specs.hwp_claim_frame.Claims.{IsStopped}
use Rattle.hwp_cpu_command.specs.hwp_claim.declared.fail.FailAt.{FailAt}
use Rattle.hwp_cpu_command.specs.hwp_claim.declared.FailAnswer.{FailAnswer}
use Rattle.hwp_cpu_command.specs.hwp_claim.declared.FailAnswer.TheVariants as fail_answers
use Rattle.hwp_cpu_command.specs.hwp_claim.declared.inject.Inject.{Inject}
use Rattle.hwp_cpu_command.specs.hwp_claim.declared.inject.InjectAt.{InjectAt}
use Rattle.hwp_cpu_command.specs.hwp_claim.declared.inject.InjectAt.TheVariants as inject_at
use Rattle.hwp_cpu_command.specs.hwp_claim.Fails as fails
use Rattle.hwp_cpu_command.specs.hwp_claim.Injects as injects
use Rattle.hwp_cpu_command.specs.hwp_fault.declared.AccessAnswer.{AccessAnswer}
use Rattle.hwp_cpu_command.specs.hwp_fault.declared.AccessAnswer.TheVariants as access_answers
use Rattle.hwp_cpu_command.specs.hwp_fault.declared.Request.{Request}
use Rattle.hwp_cpu_command.specs.hwp_fault.declared.access.AccessAt.{AccessAt}
use Rattle.hwp_cpu_command.specs.hwp_fault.declared.access.AccessAt.TheVariants as access_at
use Rattle.hwp_cpu_command.specs.hwp_fault.Accesses as accesses
use Rattle.hwp_cpu_command.proofs.of_hwp_claim.of_hwp_claim_frame.Quiet.{leaves}
use Rattle.hwp_cpu_command.specs.hwp_cpu_access.declared.Instruction.{Instruction}
use Rattle.hwp_cpu_command.specs.hwp_cpu_access.declared.InstructionAnswer.{InstructionAnswer}
use Rattle.hwp_cpu_command.specs.hwp_cpu_access.declared.InstructionAnswer.TheVariants as instruction_answers
use Rattle.hwp_cpu_command.specs.hwp_cpu_access.declared.instruction.InstructionAt.{InstructionAt}
use Rattle.hwp_cpu_command.specs.hwp_cpu_access.declared.instruction.InstructionAt.TheVariants as instruction_at
use Rattle.hwp_cpu_command.specs.hwp_cpu_access.Fits as instruction_fits
use Rattle.hwp_cpu_command.specs.hwp_cpu_access.Fits.{IsEnd}
use Rattle.hwp_cpu_command.specs.hwp_cpu_access.Instructions as instructions
use Rattle.hwp_cpu_command.specs.hwp_scrub.declared.Raise.{Raise}
use Rattle.hwp_cpu_command.specs.hwp_scrub.declared.RaiseAnswer.{RaiseAnswer}
use Rattle.hwp_cpu_command.specs.hwp_scrub.declared.RaiseAnswer.TheVariants as raise_answers
use Rattle.hwp_cpu_command.specs.hwp_scrub.declared.raise.RaiseAt.{RaiseAt}
use Rattle.hwp_cpu_command.specs.hwp_scrub.declared.raise.RaiseAt.TheVariants as raise_at
use Rattle.hwp_cpu_command.specs.hwp_scrub.RaiseFits as raise_fits
use Rattle.hwp_cpu_command.specs.hwp_scrub.Logs as logs
use Rattle.hwp_cpu_command.specs.hwp_scrub.Raises as raises
use Rattle.hwp_cpu_command.specs.hwp_scrub.declared.Scrub.{Scrub}
use Rattle.hwp_cpu_command.specs.hwp_scrub.declared.ScrubAnswer.{ScrubAnswer}
use Rattle.hwp_cpu_command.specs.hwp_scrub.declared.ScrubAnswer.TheVariants as scrub_answers
use Rattle.hwp_cpu_command.specs.hwp_scrub.declared.scrub.ScrubAt.{ScrubAt}
use Rattle.hwp_cpu_command.specs.hwp_scrub.declared.scrub.ScrubAt.TheVariants as scrub_at
use Rattle.hwp_cpu_command.specs.hwp_scrub.Fits as scrub_fits
use Rattle.hwp_cpu_command.specs.hwp_scrub.Scrubs as scrubs
use Rattle.hwp_cpu_command.specs.hwp_soft.declared.Soft.{Soft}
use Rattle.hwp_cpu_command.specs.hwp_soft.declared.SoftAnswer.{SoftAnswer}
use Rattle.hwp_cpu_command.specs.hwp_soft.declared.SoftAnswer.TheVariants as soft_answers
use Rattle.hwp_cpu_command.specs.hwp_soft.declared.soft.SoftAt.{SoftAt}
use Rattle.hwp_cpu_command.specs.hwp_soft.declared.soft.SoftAt.TheVariants as soft_at
use Rattle.hwp_cpu_command.specs.hwp_soft.Offline as offline
use Rattle.hwp_cpu_command.specs.hwp_soft.Softs as softs
use Rattle.hwp_cpu_command.specs.hwp_soft.declared.Unpoison.{Unpoison}
use Rattle.hwp_cpu_command.specs.hwp_soft.declared.UnpoisonAnswer.{UnpoisonAnswer}
use Rattle.hwp_cpu_command.specs.hwp_soft.declared.UnpoisonAnswer.TheVariants as unpoison_answers
use Rattle.hwp_cpu_command.specs.hwp_soft.declared.unpoison.UnpoisonAt.{UnpoisonAt}
use Rattle.hwp_cpu_command.specs.hwp_soft.declared.unpoison.UnpoisonAt.TheVariants as unpoison_at
use Rattle.hwp_cpu_command.specs.hwp_soft.Unpoisons as unpoisons
use Rattle.hwp_cpu_command.specs.hwp_soft_move.Seizes as seizes
use Rattle.hwp_cpu_command.specs.declared.job.Job.{Job}
use Rattle.hwp_cpu_command.specs.declared.job.Job.TheVariants as jobs
use Rattle.hwp_cpu_command.specs.Answers.{denial_answer, denied_answer, evict_answer, fail_answer, fork_answer, fsync_answer, instruction_answer, nested_answer, prctl_answer, raise_answer, read_stop_answer, refusal_answer, scrub_answer, soft_answer, spoil_answer, unpoison_answer}
use Rattle.hwp_cpu_command.specs.Begins.{BeginsWith}
use Rattle.hwp_cpu_command.specs.Jobs.{FitsFrom, answer, plan, put, told_of, who}
use Rattle.hwp_cpu_command.specs.Stays.{EndsAtOnce, EndsStopped, HasSpoiled, HasStopped, IsAtStop, IsHalted, IsInstructionAtStop, IsStopping, Stepped, StopsItself}
use Rattle.hwp_cpu_command.proofs.JobEnds.{InjectEnded, answered-over, inject-ended, instruction-ended, instruction-over, mapped, raise-ended, scrub-ended, soft-ended, unpoison-ended}
use Rattle.hwp_cpu.proofs.commands.CommandLeaves.{StopsLeft, copying-left, denied-left, evict-left, fork-left, fsync-left, inject-left, instruction-left, log-left, nested-left, prctl-left, raise-left, scrub-left, soft-left, spoil-left, unpoison-left}
use Rattle.hwp_cpu.proofs.commands.CommandRuns.{has-begun}

-- ---- answers

abbrev says_stopped : Option Answer → Bool
says_stopped (Some answers.Stopped) = true
says_stopped _ = false

other : (a : Option Answer) → says_stopped a ≡ false → a ≡ Some answers.Stopped → ⊥
other a is e = true≢false (sym (ap says_stopped e) ∙ is)

-- a command that has yet to look has no answer
unanswered : (j : Job) → IsAtStop j → answer j ≡ None
unanswered (jobs.Instruction i) is = ap (λ (x : InstructionAt). option_map instruction_answer (instructions.answer_at x)) is.1
unanswered (jobs.Copying c) is = ap (λ (x : CopyingAt). option_map instruction_answer (copyings.answer_at c.instruction x)) is.0 ∙ ap (λ (x : InstructionAt). option_map instruction_answer (instructions.answer_at x)) is.2.1
unanswered (jobs.Evict e) is = ap (λ (x : EvictAt). option_map evict_answer (evicts.answer_at x)) is
unanswered (jobs.Fsync f) is = ap (λ (x : FsyncAt). option_map fsync_answer (fsyncs.answer_at x)) is
unanswered (jobs.Prctl p) is = ap (λ (x : PrctlAt). option_map prctl_answer (prctls.answer_at x)) is
unanswered (jobs.Denied d) is = ap (λ (x : DeniedAt). option_map (denied_answer d.why) (denieds.answer_at x)) is
unanswered (jobs.Fork f) is = ap (λ (x : ForkAt). option_map fork_answer (forks.answer_at x)) is
unanswered (jobs.Log l) is = ap (λ (x : ReadStopAt). option_map read_stop_answer (read_stops.answer_at x)) is
unanswered (jobs.Raise r) is = ap (λ (x : RaiseAt). option_map (raise_answer (length r.lines.told)) (raises.answer_at x)) is.0
unanswered (jobs.Scrub c) is = ap (λ (x : ScrubAt). option_map (scrub_answer (length c.lines.told)) (scrubs.answer_at x)) is.0
unanswered (jobs.Spoil s) is = ap (λ (x : SpoilAt). option_map spoil_answer (spoils.answer_at x)) is
unanswered (jobs.Nested n) is = ap (λ (x : NestedAt). option_map nested_answer (nesteds.answer_at x)) is
unanswered (jobs.Inject i) is = ap (λ (x : InjectAt). option_map fail_answer (injects.answer_at x)) is
unanswered (jobs.Soft s) is = ap (λ (x : SoftAt). option_map soft_answer (softs.answer_at x)) is
unanswered (jobs.Unpoison u) is = ap (λ (x : UnpoisonAt). option_map unpoison_answer (unpoisons.answer_at x)) is

-- a command that has stopped the machine is answered `stopped`
pub has-stopped : (j : Job) → HasStopped j → answer j ≡ Some answers.Stopped
has-stopped (jobs.Instruction i) has = ap (option_map instruction_answer) has.0
has-stopped (jobs.Copying c) has = ap (λ (x : CopyingAt). option_map instruction_answer (copyings.answer_at c.instruction x)) has.0 ∙ ap (option_map instruction_answer) has.1.0
has-stopped (jobs.Raise r) has = ap (option_map (raise_answer (length r.lines.told))) has.0
has-stopped (jobs.Scrub c) has = ap (option_map (scrub_answer (length c.lines.told))) has.0
has-stopped (jobs.Nested n) has = ap (λ (x : NestedAt). option_map nested_answer (nesteds.answer_at x)) has
has-stopped (jobs.Inject i) has = ap (λ (x : InjectAt). option_map fail_answer (injects.answer_at x)) has.1 ∙ ap (λ (x : FailAt). option_map fail_answer (fails.answer_at x)) has.2
has-stopped _ has = absurd has

-- and as a memory failure it is of a machine that doesn't recover
pub unrecovered : (layout : Layout) (view : View) (i : Inject) → injects.Fits layout view i → HasStopped (jobs.Inject i) → layout.recovery ≡ false
unrecovered layout view i fits (f, at, over) = (subst (injects.FitsAt layout view i.who i.frame) at fits.at).recovery ∙ ap injects.recovers_at over

-- where the command can have no other answer, its answer is `stopped`
pub only-stopped : (j : Job) {a : Answer} → EndsStopped j → answer j ≡ Some a → a ≡ answers.Stopped
only-stopped j {a} (inl start) is = absurd (none-some a (sym (unanswered j start) ∙ is))
only-stopped j {a} (inr stopped) is = same_Some a answers.Stopped (sym is ∙ stopped)

abbrev starts : NestedAt → Bool
starts nested_at.LoadStop = true
starts _ = false

abbrev starts_inject : InjectAt → Bool
starts_inject inject_at.LoadStop = true
starts_inject _ = false

abbrev starts_access : InstructionAt → Bool
starts_access (instruction_at.Access a) = true
starts_access _ = false

abbrev starts_raise : RaiseAt → Bool
starts_raise raise_at.LoadStop = true
starts_raise _ = false

abbrev starts_scrub : ScrubAt → Bool
starts_scrub scrub_at.LoadStop = true
starts_scrub _ = false

-- and it stops the machine no more
not-stopping : (j : Job) → EndsStopped j → IsStopping j → ⊥
not-stopping (jobs.Instruction i) (inl (a, start, look, none)) (frame, h, handles, stop) = true≢false (sym (ap starts_access start) ∙ ap starts_access handles)
not-stopping (jobs.Instruction i) (inr stopped) (frame, h, handles, stop) = none-some answers.Stopped (sym (ap (λ (x : InstructionAt). option_map instruction_answer (instructions.answer_at x)) handles) ∙ stopped)
not-stopping (jobs.Copying c) (inl (at, fresh, (a, start, look, none))) (own, (frame, h, handles, stop)) = true≢false (sym (ap starts_access start) ∙ ap starts_access handles)
not-stopping (jobs.Copying c) (inr stopped) (own, (frame, h, handles, stop)) =
    none-some answers.Stopped (sym (ap (λ (x : CopyingAt). option_map instruction_answer (copyings.answer_at c.instruction x)) own ∙ ap (λ (x : InstructionAt). option_map instruction_answer (instructions.answer_at x)) handles) ∙ stopped)
not-stopping (jobs.Raise r) (inl (start, none)) (h, handles, stop) = true≢false (sym (ap starts_raise start) ∙ ap starts_raise handles)
not-stopping (jobs.Raise r) (inr stopped) (h, handles, stop) = none-some answers.Stopped (sym (ap (λ (x : RaiseAt). option_map (raise_answer (length r.lines.told)) (raises.answer_at x)) handles) ∙ stopped)
not-stopping (jobs.Scrub c) (inl (start, none)) (frame, h, handles, stop) = true≢false (sym (ap starts_scrub start) ∙ ap starts_scrub handles)
not-stopping (jobs.Scrub c) (inr stopped) (frame, h, handles, stop) = none-some answers.Stopped (sym (ap (λ (x : ScrubAt). option_map (scrub_answer (length c.lines.told)) (scrubs.answer_at x)) handles) ∙ stopped)
not-stopping (jobs.Nested n) (inl start) stopping = true≢false (sym (ap starts start) ∙ ap starts stopping)
not-stopping (jobs.Nested n) (inr stopped) stopping = none-some answers.Stopped (sym (ap (λ (x : NestedAt). option_map nested_answer (nesteds.answer_at x)) stopping) ∙ stopped)
not-stopping (jobs.Inject i) (inl start) (f, c, at, is, stop) = true≢false (sym (ap starts_inject start) ∙ ap starts_inject at)
not-stopping (jobs.Inject i) (inr stopped) (f, c, at, is, stop) =
    none-some answers.Stopped (sym (ap (λ (x : InjectAt). option_map fail_answer (injects.answer_at x)) at ∙ ap (λ (x : FailAt). option_map fail_answer (fails.answer_at x)) is) ∙ stopped)
not-stopping _ ends stopping = absurd stopping

pub no-own-stop : {j after : Job} {old new : View} → EndsStopped j → StopsItself j after old new → ⊥
no-own-stop {j} ends own = not-stopping j ends own.stopping

-- ---- the stop word

-- where a view says that the machine has stopped, the stop word says so too
stop-word : {layout : Layout} {by : Who} {body : Option Log} {old new : View} {found : ℕ} {got : Option BodyValue} → Steps layout by (steps.Load places.Stop) body old new found got → IsHalted old → is_stopped found ≡ true
stop-word {layout} {by} {body} {old} {new} {found} made halted = ap not (ne_eqb (stopper_of found) 0 (which halted))
  where
    stop : ℕ
    stop = (words_of layout made.told.board.words).stop

    met : stopper_of stop ≡ stopper_of found
    met = sym (ap stopper_of made.told.met)

    which : IsHalted old → stopper_of found ≢ 0
    which (inl shown) none =
        let sight : Sight = shown.1 in
        let some : stopper_of sight.word ≢ 0 = λ zero. true≢false (sym shown.3.1 ∙ ap not (eq-eqb (stopper_of sight.word) 0 zero)) in
        let same : stopper_of stop ≡ stopper_of sight.word =
        made.told.rule.rule.processors.stops.stop_stays made.told.seat old.sights (at_map (λ (v : View). v.sights) made.told.board.views made.told.seat old made.told.me) shown.0 sight shown.2 shown.3.0 some in
        some (sym same ∙ met ∙ none)
    which (inr own) none =
        let is : stopper_of stop ≡ own.1.cpu.0 + 1 =
        made.told.rule.rule.processors.stops.named made.told.seat old.stops (at_map (λ (v : View). v.stops) made.told.board.views made.told.seat old made.told.me) own.0 own.1 own.2 in
        absurd (let zero : stopper_of stop ≡ 0 = met ∙ none in omega arith)

-- ---- over a step

-- a step leaves the stops of the view, or is the stop of a command that stops the machine itself
pub stops-after : {layout : Layout} {old new : View} {j after : Job} → Stepped layout old new j after → StopsLeft j after old new
stops-after {j = jobs.Instruction i} s = (instruction-left s).stops
stops-after {j = jobs.Copying c} s = (copying-left s).stops
stops-after {j = jobs.Evict e} s = (evict-left s).stops
stops-after {j = jobs.Fsync f} s = inl (fsync-left s).1
stops-after {j = jobs.Prctl p} s = inl (prctl-left s).1
stops-after {j = jobs.Denied d} s = inl (denied-left s).1
stops-after {j = jobs.Fork f} s = inl (fork-left s).1
stops-after {j = jobs.Log l} s = (log-left s).stops
stops-after {j = jobs.Raise r} s = (raise-left s).stops
stops-after {j = jobs.Scrub c} s = (scrub-left s).stops
stops-after {j = jobs.Spoil p} s = inl (spoil-left s)
stops-after {j = jobs.Nested n} s = (nested-left s).stops
stops-after {j = jobs.Inject i} s = (inject-left s).stops
stops-after {j = jobs.Soft o} s = (soft-left s).stops
stops-after {j = jobs.Unpoison u} s = (unpoison-left s).stops

-- the damage that a view lists stays, or is made by the command
pub spoils-after : {layout : Layout} {old new : View} {j after : Job} → Stepped layout old new j after → (new.spoiled ≡ old.spoiled) ⊎ ((x : Spoiled) × (new.spoiled ≡ old.spoiled ++ x ∷ []) × HasSpoiled after x)
spoils-after {j = jobs.Instruction i} s = inl (instruction-left s).rest.spoiled
spoils-after {j = jobs.Copying c} s = inl (copying-left s).rest.spoiled
spoils-after {j = jobs.Evict e} s = inl (evict-left s).rest.spoiled
spoils-after {j = jobs.Fsync f} s = inl (fsync-left s).0
spoils-after {j = jobs.Prctl p} s = inl (prctl-left s).0
spoils-after {j = jobs.Denied d} s = inl (denied-left s).0
spoils-after {j = jobs.Fork f} s = inl (fork-left s).0
spoils-after {j = jobs.Log l} s = inl (log-left s).rest.spoiled
spoils-after {j = jobs.Raise r} s = inl (raise-left s).rest.spoiled
spoils-after {j = jobs.Scrub c} s = inl (scrub-left s).rest.spoiled
spoils-after {old = old} {new = new} {j = jobs.Spoil p} {after = after} s = which p.at refl s.planned
  where
    which : (x : SpoilAt) → p.at ≡ x → spoils.plan_at p.frame p.line p.damage x ≡ Some s.step → (new.spoiled ≡ old.spoiled) ⊎ ((y : Spoiled) × (new.spoiled ≡ old.spoiled ++ y ∷ []) × HasSpoiled after y)
    which spoil_at.LoadStop at e = inl (leaves (steps-planned {other = steps.Load places.Stop} e s.made) tt).spoiled
    which spoil_at.Spoil at e = inr (
      record { stamp = stamp_of p.who (noted p.who old); frame = p.frame; line = p.line; damage = p.damage },
      ap (λ (v : View). v.spoiled) (steps-planned {other = steps.Spoil p.frame p.line p.damage} e s.made).told.next,
      subst (λ (k : Job). HasSpoiled k (record { stamp = stamp_of p.who (noted p.who old); frame = p.frame; line = p.line; damage = p.damage })) (sym s.follows.0) (ap (λ (x : SpoilAt). spoils.next_at x s.found) at, refl, refl, refl, refl),
    )
    which (spoil_at.Over answer) at e = absurd (none-some s.step e)
spoils-after {j = jobs.Nested n} s = inl (nested-left s).rest.spoiled
spoils-after {j = jobs.Inject i} s = inl (inject-left s).rest.spoiled
spoils-after {j = jobs.Soft o} s = inl (soft-left s).rest.spoiled
spoils-after {j = jobs.Unpoison u} s = inl (unpoison-left s).rest.spoiled

-- a command that damaged a line is answered so
pub has-spoiled : (j : Job) (x : Spoiled) → HasSpoiled j x → answer j ≡ Some answers.Done
has-spoiled (jobs.Spoil s) x has = ap (λ (y : SpoilAt). option_map spoil_answer (spoils.answer_at y)) has.0
has-spoiled _ x has = absurd has

-- ---- a machine that has stopped

module _ {layout : Layout} {old new : View} {j after : Job} (s : Stepped layout old new j after) where
  more-stops : (P : Who → Type 0) → SomeMember P old.stops → SomeMember P new.stops
  more-stops P some = which (stops-after s)
    where
      which : (new.stops ≡ old.stops) ⊎ StopsItself j after old new → SomeMember P new.stops
      which (inl same) = subst (SomeMember P) (sym same) some
      which (inr own) = subst (SomeMember P) (sym own.stops_are) (some-push P old.stops (who j) some)

  -- what was shown is still shown
  pub still-halted : IsHalted old → IsHalted new
  still-halted (inl shown) =
      let still = saw-stays s.made {by = shown.1.stamp.who} {place = shown.1.place} {word = shown.1.word} (shown.0, shown.1, shown.2, (refl, refl, refl)) in
      inl (still.0, still.1, still.2, (still.3.1 ∙ shown.3.0, ap is_stopped still.3.2 ∙ shown.3.1))
  still-halted (inr own) = inr (more-stops (λ (w : Who). Unit {0}) own)

-- the step of a command that has yet to look is the load of the stop word
pub look-first : (j : Job) → IsAtStop j → plan j ≡ Some (steps.Load places.Stop)
look-first (jobs.Instruction i) (a, start, look, none) = ap instructions.plan_at start ∙ ap (accesses.plan_at a.request) look
look-first (jobs.Copying c) (own, fresh, (a, start, look, none)) = ap (copyings.plan_at c.instruction) own ∙ ap instructions.plan_at start ∙ ap (accesses.plan_at a.request) look
look-first (jobs.Evict e) start = ap evicts.plan_at start
look-first (jobs.Fsync f) start = ap (fsyncs.plan_at f.file) start
look-first (jobs.Prctl p) start = ap (prctls.plan_at p.thread p.process) start
look-first (jobs.Denied d) start = ap (denieds.plan_at d.process) start
look-first (jobs.Fork f) start = ap (forks.plan_at f.thread f.process) start
look-first (jobs.Log l) start = ap read_stops.plan_at start
look-first (jobs.Raise r) (start, none) = ap raises.plan_at start
look-first (jobs.Scrub c) (start, none) = ap scrubs.plan_at start
look-first (jobs.Spoil p) start = ap (spoils.plan_at p.frame p.line p.damage) start
look-first (jobs.Nested n) start = ap (nesteds.plan_at n.who) start
look-first (jobs.Inject i) start = ap injects.plan_at start
look-first (jobs.Soft o) start = ap (softs.plan_at o.frame) start
look-first (jobs.Unpoison u) start = ap (unpoisons.plan_at u.frame) start

look-made : {layout : Layout} {old new : View} {j after : Job} (s : Stepped layout old new j after) → IsAtStop j → Steps layout (who j) (steps.Load places.Stop) (logs_of (put j)) old new s.found s.got
look-made {j = j} s start = steps-planned {other = steps.Load places.Stop} (sym (look-first j start) ∙ s.planned) s.made

-- an access that finds by its first step that the machine has stopped, and has told of no event
record HasLooked (i : Instruction) : Type 0 where
  answered : instructions.answer i ≡ Some instruction_answers.Stopped
  untold : i.lines.told ≡ []

instruction-looks : (layout : Layout) (i k : Instruction) (found : ℕ) (got : Option BodyValue) (turn : Turn) → instructions.Follows layout (instructions.bare i) found got k turn → is_stopped found ≡ true → IsInstructionAtStop i → HasLooked k
instruction-looks layout i k found got turn follows word (a, start, look, none) =
    let stepped = subst (λ (x : InstructionAt). instructions.FollowsAt layout (instructions.bare i) (instructions.bare_at x) found got k turn) start follows in
    let at = subst (λ (x : AccessAt). accesses.NextAt layout a.request (accesses.bare_at x) found got stepped.access.at turn) look stepped.follows.at in
    let over : accesses.answer stepped.access ≡ Some access_answers.Stopped = ap accesses.answer_at at.0 ∙ ap (λ (b : Bool). accesses.answer_at (cond b (access_at.Over access_answers.Stopped) access_at.LoadProcess)) word in
    let next = subst (λ (o : Option AccessAnswer). instructions.AfterAccessBy layout (instructions.bare i) stepped.access o k) over stepped.next_is in
    record { answered = ap instructions.answer next; untold = ap (λ (x : Instruction). x.lines.told) next ∙ none }

-- and a copy by its first access
record HasLookedFirst (c k : Copying) : Type 0 where
  instruction : Instruction
  access : HasLooked instruction
  same : k ≡ record c { instruction = instruction; at = copying_at.Access }

copy-looks : (layout : Layout) (c k : Copying) (found : ℕ) (got : Option BodyValue) (turn : Turn) → copyings.Follows layout (copyings.bare c) found got k turn → is_stopped found ≡ true → IsAtStop (jobs.Copying c) → HasLookedFirst c k
copy-looks layout c k found got turn follows word (own, fresh, start) =
    let stepped : copyings.AccessStepped layout (copyings.bare_at c copying_at.Access) found got k turn = subst (λ (x : CopyingAt). copyings.FollowsAt layout (copyings.bare_at c x) (copyings.bare_at c x).at found got k turn) own follows in
    let looked : HasLooked stepped.instruction = instruction-looks layout c.instruction stepped.instruction found got turn stepped.follows word start in
    record { instruction = stepped.instruction; access = looked; same = stepped.next_is ∙ ap (copyings.after_access (record (copyings.bare_at c copying_at.Access) { instruction = stepped.instruction })) looked.answered }

-- a command that finds by it that the machine has stopped is answered `stopped`
looks : {layout : Layout} {old new : View} (j after : Job) (s : Stepped layout old new j after) → is_stopped s.found ≡ true → IsAtStop j → answer after ≡ Some answers.Stopped
looks {layout} (jobs.Instruction i) after s word start = ap answer s.follows.1 ∙ ap (option_map instruction_answer) (instruction-looks layout i s.follows.0 s.found s.got s.turn s.follows.2 word start).answered
looks {layout} (jobs.Copying c) after s word start = let found = copy-looks layout c s.follows.0 s.found s.got s.turn s.follows.2 word start in ap answer (s.follows.1 ∙ ap jobs.Copying found.same) ∙ ap (option_map instruction_answer) found.access.answered
looks {layout} {old} {new} (jobs.Evict e) after s word start =
    let at = subst (λ (x : EvictAt). evicts.FollowsAt e.who e.page e.what (evicts.bare_at x) s.found s.got s.follows.0.at s.turn) start s.follows.2.1 in
    ap answer s.follows.1 ∙ ap (λ (x : EvictAt). option_map evict_answer (evicts.answer_at x)) at.0
    ∙ ap (λ (b : Bool). option_map evict_answer (evicts.answer_at (cond b (evict_at.Over evict_answers.Stopped) (evict_at.Hold (holds.begin e.who e.page))))) word
looks (jobs.Fsync f) after s word start =
    ap answer s.follows.0 ∙ ap (λ (x : FsyncAt). option_map fsync_answer (fsyncs.answer_at (fsyncs.next_at f.handle f.opens x s.found))) start
    ∙ ap (λ (b : Bool). option_map fsync_answer (fsyncs.answer_at (cond b (fsync_at.Over fsync_answers.Stopped f.handle) fsync_at.Report))) word
looks (jobs.Prctl p) after s word start =
    ap answer s.follows.0 ∙ ap (λ (x : PrctlAt). option_map prctl_answer (prctls.answer_at (prctls.next_at p.arguments x s.found))) start
    ∙ ap (λ (b : Bool). option_map prctl_answer (prctls.answer_at (cond b (prctl_at.Over prctl_answers.Stopped) prctl_at.LoadProcess))) word
looks (jobs.Denied d) after s word start =
    ap answer s.follows.0 ∙ ap (λ (x : DeniedAt). option_map (denied_answer d.why) (denieds.answer_at (denieds.next_at x s.found))) start
    ∙ ap (λ (b : Bool). option_map (denied_answer d.why) (denieds.answer_at (cond b (denied_at.Over denied_answers.Stopped) denied_at.LoadProcess))) word
looks (jobs.Fork f) after s word start =
    ap answer s.follows.0 ∙ ap (λ (x : ForkAt). option_map fork_answer (forks.answer_at (forks.next_at f.targets x s.found))) start
    ∙ ap (λ (b : Bool). option_map fork_answer (forks.answer_at (cond b (fork_at.Over fork_answers.Stopped) fork_at.LoadProcess))) word
looks (jobs.Log l) after s word start =
    ap answer s.follows.0 ∙ ap (λ (o : Option ReadStopAnswer). option_map read_stop_answer (logs.answer (logs.next_by l s.found o))) (ap read_stops.answer_at start)
    ∙ ap (λ (x : ReadStopAt). option_map read_stop_answer (read_stops.answer_at (read_stops.next_at x s.found))) start
    ∙ ap (λ (b : Bool). Some (read_stop_answer (cond b read_stop_answers.Stopped read_stop_answers.Done))) word
looks {layout} (jobs.Raise r) after s word (start, none) =
    let stepped = subst (λ (x : RaiseAt). raises.FollowsAt layout (raises.bare r) (raises.bare_at x) s.found s.got s.follows.0 s.turn) start s.follows.2 in
    let next = subst (λ (b : Bool). raises.AfterStopBy layout (raises.bare r) b r.raiser s.follows.0) word stepped.0 in
    ap answer s.follows.1 ∙ ap (λ (k : Raise). option_map (raise_answer (length k.lines.told)) (raises.answer k)) next
looks {layout} (jobs.Scrub c) after s word (start, none) =
    let stepped = subst (λ (x : ScrubAt). scrubs.FollowsAt layout (scrubs.bare c) (scrubs.bare_at x) s.found s.got s.follows.0 s.turn) start s.follows.2 in
    ap answer s.follows.1 ∙ ap (λ (k : Scrub). option_map (scrub_answer (length k.lines.told)) (scrubs.answer k)) stepped.0
    ∙ ap (λ (b : Bool). option_map (scrub_answer (length c.lines.told)) (scrubs.answer_at (cond b (scrub_at.Over (Some scrub_answers.Stopped)) (scrub_at.LoadBad c.first)))) word
looks (jobs.Spoil p) after s word start =
    ap answer s.follows.0 ∙ ap (λ (x : SpoilAt). option_map spoil_answer (spoils.answer_at (spoils.next_at x s.found))) start
    ∙ ap (λ (b : Bool). option_map spoil_answer (spoils.answer_at (cond b (spoil_at.Over spoil_answers.Stopped) spoil_at.Spoil))) word
looks (jobs.Nested n) after s word start =
    ap answer s.follows.0 ∙ ap (λ (x : NestedAt). option_map nested_answer (nesteds.answer_at (nesteds.next_at x s.found))) start
    ∙ ap (λ (b : Bool). option_map nested_answer (nesteds.answer_at (cond b (nested_at.Over (Some nested_answers.Stopped)) nested_at.Stop))) word
looks {layout} (jobs.Inject i) after s word start =
    let at = subst (λ (x : InjectAt). injects.FollowsAt layout i.alloc i.who i.frame (injects.bare_at x) s.found s.got s.follows.0.at s.turn) start s.follows.2.1 in
    ap answer s.follows.1 ∙ ap (λ (x : InjectAt). option_map fail_answer (injects.answer_at x)) at.0
    ∙ ap (λ (b : Bool). option_map fail_answer (injects.answer_at (cond b inject_at.Stopped (inject_at.Fail (fails.begin i.alloc i.who i.frame None false layout.recovery))))) word
looks {layout} (jobs.Soft o) after s word start =
    let at = subst (λ (x : SoftAt). softs.FollowsAt layout o.who o.frame (softs.bare_at x) s.found s.got s.follows.0.at s.turn) start s.follows.2.1 in
    ap answer s.follows.1 ∙ ap (λ (x : SoftAt). option_map soft_answer (softs.answer_at x)) at.0
    ∙ ap (λ (b : Bool). option_map soft_answer (softs.answer_at (cond b (soft_at.Over soft_answers.Stopped) (soft_at.Seize (seizes.begin o.who o.frame))))) word
looks (jobs.Unpoison u) after s word start =
    ap answer s.follows.0 ∙ ap (λ (x : UnpoisonAt). option_map unpoison_answer (unpoisons.answer_at (unpoisons.next_at x s.found))) start
    ∙ ap (λ (b : Bool). option_map unpoison_answer (unpoisons.answer_at (cond b (unpoison_at.Over unpoison_answers.Stopped) unpoison_at.LoadFrame))) word

-- at its beginning a command has told of no event
pub untold-at-start : (j : Job) → IsAtStop j → told_of j ≡ []
untold-at-start (jobs.Instruction i) start = start.3
untold-at-start (jobs.Copying c) start = start.2.3
untold-at-start (jobs.Raise r) start = start.1
untold-at-start (jobs.Scrub c) start = start.1
untold-at-start _ start = refl

-- nor has one that finds by its first step that the machine has stopped
looks-untold : {layout : Layout} {old new : View} (j after : Job) (s : Stepped layout old new j after) → is_stopped s.found ≡ true → IsAtStop j → told_of after ≡ []
looks-untold {layout} (jobs.Instruction i) after s word start = ap told_of s.follows.1 ∙ (instruction-looks layout i s.follows.0 s.found s.got s.turn s.follows.2 word start).untold
looks-untold {layout} (jobs.Copying c) after s word start = let found = copy-looks layout c s.follows.0 s.found s.got s.turn s.follows.2 word start in ap told_of (s.follows.1 ∙ ap jobs.Copying found.same) ∙ found.access.untold
looks-untold {layout} (jobs.Raise r) after s word (start, none) =
    let stepped = subst (λ (x : RaiseAt). raises.FollowsAt layout (raises.bare r) (raises.bare_at x) s.found s.got s.follows.0 s.turn) start s.follows.2 in
    let next = subst (λ (b : Bool). raises.AfterStopBy layout (raises.bare r) b r.raiser s.follows.0) word stepped.0 in
    ap told_of s.follows.1 ∙ ap (λ (k : Raise). k.lines.told) next ∙ none
looks-untold {layout} (jobs.Scrub c) after s word (start, none) =
    let stepped = subst (λ (x : ScrubAt). scrubs.FollowsAt layout (scrubs.bare c) (scrubs.bare_at x) s.found s.got s.follows.0 s.turn) start s.follows.2 in
    ap told_of s.follows.1 ∙ ap (λ (k : Scrub). k.lines.told) stepped.0 ∙ none
looks-untold (jobs.Evict e) after s word start = ap told_of s.follows.1
looks-untold (jobs.Inject i) after s word start = ap told_of s.follows.1
looks-untold (jobs.Soft o) after s word start = ap told_of s.follows.1
looks-untold (jobs.Fsync f) after s word start = ap told_of s.follows.0
looks-untold (jobs.Prctl p) after s word start = ap told_of s.follows.0
looks-untold (jobs.Denied p) after s word start = ap told_of s.follows.0
looks-untold (jobs.Fork f) after s word start = ap told_of s.follows.0
looks-untold (jobs.Log l) after s word start = ap told_of s.follows.0
looks-untold (jobs.Spoil p) after s word start = ap told_of s.follows.0
looks-untold (jobs.Nested n) after s word start = ap told_of s.follows.0
looks-untold (jobs.Unpoison u) after s word start = ap told_of s.follows.0

-- on a machine that has stopped, a command that comes to `stopped` alone still does after its step
pub halted-stays : {layout : Layout} {old new : View} {j after : Job} → Stepped layout old new j after → IsHalted old → EndsAtOnce j → IsHalted new × EndsAtOnce after
halted-stays {layout} {old} {new} {j} {after} s halted ends = (still-halted s halted, which ends.0)
  where
    which : EndsStopped j → EndsAtOnce after
    which (inl start) = (inr (looks j after s (stop-word (look-made s start) halted) start), looks-untold j after s (stop-word (look-made s start) halted) start)
    which (inr stopped) = absurd (none-some s.step (sym (answered-over j stopped) ∙ s.planned))

-- a command that looks is answered `stopped`, or saw the machine running
pub looks-first : {layout : Layout} {old new : View} {j after : Job} (s : Stepped layout old new j after) → IsAtStop j → EndsAtOnce after ⊎ ((is_stopped s.found ≡ false) × Saw new (who j) places.Stop s.found)
looks-first {new = new} {j = j} {after = after} s start = which (is_stopped s.found) refl
  where
    which : (b : Bool) → is_stopped s.found ≡ b → EndsAtOnce after ⊎ ((is_stopped s.found ≡ false) × Saw new (who j) places.Stop s.found)
    which true stopped = inl (inr (looks j after s stopped start), looks-untold j after s stopped start)
    which false clear = inr (clear, saw-load (look-made s start))

-- ---- the beginning and the end of a command

pub begins-stop : (layout : Layout) (by : Who) (command : Command) (copies : Option VSlot) (admit : Admit) (banks : Banks) (collects : Bool) (j : Job) → BeginsWith layout by command copies admit banks collects j → IsAtStop j
begins-stop layout by command copies admit banks collects j begins = (has-begun layout by command copies admit banks collects j begins).start

-- what a command saw of the stop word
halts : {view : View} {by : Who} → SawStop view by → IsHalted view
halts saw = inl (saw.saw.0, saw.saw.1, saw.saw.2, (saw.saw.3.1, ap is_stopped saw.saw.3.2 ∙ saw.stopped))

stops : {view : View} {by : Who} → IsStopped view by → IsHalted view
stops (inl saw) = halts saw
stops (inr own) = inr (own.0, own.1, own.2, tt)

refused : (refusal : Refusal) (at : At) → says_stopped (Some (refusal_answer refusal at)) ≡ false
refused refusals.NotMapped at = refl
refused refusals.NotResident at = refl
refused refusals.Locked at = refl
refused refusals.Dirty at = refl
refused refusals.Mapped at = refl
refused (refusals.BadLines mask) at = refl

denial-said : (why : Denial) → says_stopped (Some (denial_answer why)) ≡ false
denial-said denials.BadFrame = refl
denial-said denials.Stopped = refl

replied : (reply : Reply) → says_stopped (Some (reply_answer reply)) ≡ false
replied (replies.Set policy) = refl
replied (replies.Is policy) = refl
replied replies.Einval = refl

module _ (layout : Layout) (view : View) where
  instruction-halts : (base : List Made) (a : Request) (told : _) (x : InstructionAnswer) → IsEnd base layout view a told x → instruction_answer x ≡ answers.Stopped → IsHalted view
  instruction-halts base a told instruction_answers.Stopped (inl own) is = halts own.answered.0
  instruction-halts base a told instruction_answers.Stopped (inr halted) is = stops halted.stopped
  instruction-halts base a told (instruction_answers.Value word place) ended is = absurd (other _ refl (ap (λ (y : Answer). Some y) is))
  instruction-halts base a told (instruction_answers.Stored place) ended is = absurd (other _ refl (ap (λ (y : Answer). Some y) is))
  instruction-halts base a told (instruction_answers.Sigbus place) ended is = absurd (other _ refl (ap (λ (y : Answer). Some y) is))
  instruction-halts base a told instruction_answers.NoFrame ended is = absurd (other _ refl (ap (λ (y : Answer). Some y) is))
  instruction-halts base a told (instruction_answers.Gone page) ended is = absurd (other _ refl (ap (λ (y : Answer). Some y) is))

  -- of a copy: its access, or the freeing behind the accesses
  copy-ends : (base : List Made) (c : Copying) (runs : List Run) (x : InstructionAnswer) → copying_fits.IsEnd base view c runs x → instruction_answer x ≡ answers.Stopped → IsHalted view
  copy-ends base c runs instruction_answers.Stopped ended is = halts ended.saw
  copy-ends base c runs (instruction_answers.Stored place) ended is = absurd (other _ refl (ap (λ (y : Answer). Some y) is))
  copy-ends base c runs (instruction_answers.Value word place) ended is = absurd ended
  copy-ends base c runs (instruction_answers.Sigbus place) ended is = absurd ended
  copy-ends base c runs instruction_answers.NoFrame ended is = absurd ended
  copy-ends base c runs (instruction_answers.Gone page) ended is = absurd ended

  copy-halts : (base : List Made) (c : Copying) (runs : List Run) (x : InstructionAnswer) (y : CopyingAt) → copying_fits.FitsAt base layout view c runs y → copyings.answer_at c.instruction y ≡ Some x → instruction_answer x ≡ answers.Stopped → IsHalted view
  copy-halts base c runs x copying_at.Access has e is =
      let behind : List Made = base ++ (made_by runs ++ has.since) in
      let end : instruction_fits.IsAnswered behind layout view c.instruction (checks_by runs ++ has.instruction.checks) x =
      subst (instruction_fits.FitsAt behind layout view c.instruction (checks_by runs ++ has.instruction.checks)) (instruction-over c.instruction e) has.instruction.at in
      instruction-halts behind c.instruction.request c.instruction.lines.told x end.ended is
  copy-halts base c runs x (copying_at.Free f stored) has e is = absurd (none-some x e)
  copy-halts base c runs x (copying_at.Over a) has e is = copy-ends base c runs a has.ended (ap instruction_answer (same_Some a x e) ∙ is)

  raise-halts : (r : Raise) (x : RaiseAnswer) → raise_fits.IsEnd layout view r x → raise_answer (length r.lines.told) x ≡ answers.Stopped → IsHalted view
  raise-halts r raise_answers.Stopped (inl unchecked) is = halts unchecked.1
  raise-halts r raise_answers.Stopped (inr checked) is = stops checked.stops
  raise-halts r raise_answers.Raised ended is = absurd (other _ refl (ap (λ (y : Answer). Some y) is))
  raise-halts r (raise_answers.Gone page) ended is = absurd (other _ refl (ap (λ (y : Answer). Some y) is))

  scrub-halts : (c : Scrub) (x : ScrubAnswer) → scrub_fits.IsEnd layout view c x → scrub_answer (length c.lines.told) x ≡ answers.Stopped → IsHalted view
  scrub-halts c scrub_answers.Stopped (inl unbegun) is = halts unbegun.1
  scrub-halts c scrub_answers.Stopped (inr halted) is = stops halted.1.stops
  scrub-halts c scrub_answers.Scrubbed ended is = absurd (other _ refl (ap (λ (y : Answer). Some y) is))

  spoil-halts : (s : Spoil) (x : SpoilAt) → spoils.FitsAt view s.who s.frame s.line s.damage x → option_map spoil_answer (spoils.answer_at x) ≡ Some answers.Stopped → IsHalted view
  spoil-halts s (spoil_at.Over spoil_answers.Stopped) fits is = halts fits
  spoil-halts s (spoil_at.Over spoil_answers.Done) fits is = absurd (other _ refl is)
  spoil-halts s _ fits is = absurd (none-some _ is)

  evict-halts : (base : List Made) (e : Evict) (x : EvictAt) → evicts.FitsAt base layout view e.who e.page e.what x → option_map evict_answer (evicts.answer_at x) ≡ Some answers.Stopped → IsHalted view
  evict-halts base e (evict_at.Over evict_answers.Stopped) fits is = halts fits.1.1
  evict-halts base e (evict_at.Over (evict_answers.Done at)) fits is = absurd (other _ refl is)
  evict-halts base e (evict_at.Over (evict_answers.Refused refusal at)) fits is = absurd (other _ (refused refusal at) is)
  evict-halts base e _ fits is = absurd (none-some _ is)

  fsync-halts : (f : Fsync) (x : FsyncAt) → fsyncs.FitsAt layout view f.who f.file f.handle x → option_map fsync_answer (fsyncs.answer_at x) ≡ Some answers.Stopped → IsHalted view
  fsync-halts f (fsync_at.Over fsync_answers.Stopped number) fits is = halts fits.0
  fsync-halts f (fsync_at.Over fsync_answers.Done number) fits is = absurd (other _ refl is)
  fsync-halts f (fsync_at.Over (fsync_answers.Eio lost) number) fits is = absurd (other _ refl is)
  fsync-halts f (fsync_at.Over (fsync_answers.Opened lost) number) fits is = absurd (other _ refl is)
  fsync-halts f _ fits is = absurd (none-some _ is)

  prctl-halts : (p : Prctl) (x : PrctlAt) → prctls.FitsAt view p.who p.thread p.process p.arguments x → option_map prctl_answer (prctls.answer_at x) ≡ Some answers.Stopped → IsHalted view
  prctl-halts p (prctl_at.Over prctl_answers.Stopped) fits is = halts fits
  prctl-halts p (prctl_at.Over (prctl_answers.Gone page)) fits is = absurd (other _ refl is)
  prctl-halts p (prctl_at.Over (prctl_answers.Replied reply)) fits is = absurd (other _ (replied reply) is)
  prctl-halts p _ fits is = absurd (none-some _ is)

  denied-halts : (d : Denied) (x : DeniedAt) → denieds.FitsAt view d.who d.process x → option_map (denied_answer d.why) (denieds.answer_at x) ≡ Some answers.Stopped → IsHalted view
  denied-halts d (denied_at.Over denied_answers.Stopped) fits is = halts fits
  denied-halts d (denied_at.Over (denied_answers.Gone page)) fits is = absurd (other _ refl is)
  denied-halts d (denied_at.Over denied_answers.Denied) fits is = absurd (other _ (denial-said d.why) is)
  denied-halts d _ fits is = absurd (none-some _ is)

  fork-halts : (f : Fork) (x : ForkAt) → forks.FitsAt view f.who f.thread f.process f.targets x → option_map fork_answer (forks.answer_at x) ≡ Some answers.Stopped → IsHalted view
  fork-halts f (fork_at.Over fork_answers.Stopped) fits is = halts fits
  fork-halts f (fork_at.Over (fork_answers.Gone page)) fits is = absurd (other _ refl is)
  fork-halts f (fork_at.Over (fork_answers.Done policy)) fits is = absurd (other _ refl is)
  fork-halts f _ fits is = absurd (none-some _ is)

  read-halts : (r : ReadStop) (x : ReadStopAt) → read_stops.FitsAt view r.who x → option_map read_stop_answer (read_stops.answer_at x) ≡ Some answers.Stopped → IsHalted view
  read-halts r (read_stop_at.Over read_stop_answers.Stopped) fits is = halts fits
  read-halts r (read_stop_at.Over read_stop_answers.Done) fits is = absurd (other _ refl is)
  read-halts r read_stop_at.LoadStop fits is = absurd (none-some _ is)

  nested-halts : (n : Nested) (x : NestedAt) → nesteds.FitsAt view n.who x → option_map nested_answer (nesteds.answer_at x) ≡ Some answers.Stopped → IsHalted view
  nested-halts n (nested_at.Over (Some nested_answers.Shutdown)) fits is = inr (fits.0, fits.1, fits.2, tt)
  nested-halts n (nested_at.Over (Some nested_answers.Stopped)) fits is = halts fits
  nested-halts n _ fits is = absurd (none-some _ is)

  came : (o : Outcome) → says_stopped (Some (outcome_answer o)) ≡ false
  came outcomes.Recovered = refl
  came outcomes.Delayed = refl
  came outcomes.Ignored = refl

  inject-halts : (i : Inject) (x : FailAnswer) → InjectEnded layout view i x → fail_answer x ≡ answers.Stopped → IsHalted view
  inject-halts i fail_answers.Stopped ended is = stops ended.over.2
  inject-halts i fail_answers.Already ended is = absurd (other _ refl (ap (λ (a : Answer). Some a) is))
  inject-halts i (fail_answers.Done found) ended is = absurd (other _ (came (outcome_of found.situation)) (ap (λ (a : Answer). Some a) is))

  soft-halts : (base : List Made) (s : Soft) (x : SoftAnswer) → offline.IsCaused base layout view s.who s.frame x → soft_answer x ≡ answers.Stopped → IsHalted view
  soft-halts base s soft_answers.Stopped caused is = halts caused.1
  soft-halts base s soft_answers.Kernel caused is = absurd (other _ refl (ap (λ (y : Answer). Some y) is))
  soft-halts base s soft_answers.Already caused is = absurd (other _ refl (ap (λ (y : Answer). Some y) is))
  soft-halts base s (soft_answers.HasBad mask) caused is = absurd (other _ refl (ap (λ (y : Answer). Some y) is))
  soft-halts base s soft_answers.NoFrame caused is = absurd (other _ refl (ap (λ (y : Answer). Some y) is))
  soft-halts base s (soft_answers.TakenFree cycle) caused is = absurd (other _ refl (ap (λ (y : Answer). Some y) is))
  soft-halts base s (soft_answers.Moved to place cycle) caused is = absurd (other _ refl (ap (λ (y : Answer). Some y) is))

  unpoison-halts : (u : Unpoison) (x : UnpoisonAnswer) → unpoisons.IsCaused view u.who u.frame x → unpoison_answer x ≡ answers.Stopped → IsHalted view
  unpoison-halts u unpoison_answers.Stopped caused is = halts caused.1
  unpoison-halts u (unpoison_answers.Done cycle) caused is = absurd (other _ refl (ap (λ (y : Answer). Some y) is))
  unpoison-halts u unpoison_answers.NotPoisoned caused is = absurd (other _ refl (ap (λ (y : Answer). Some y) is))
  unpoison-halts u unpoison_answers.HardwareSeen caused is = absurd (other _ refl (ap (λ (y : Answer). Some y) is))
  unpoison-halts u (unpoison_answers.HasBad mask) caused is = absurd (other _ refl (ap (λ (y : Answer). Some y) is))
  unpoison-halts u (unpoison_answers.InUse count) caused is = absurd (other _ refl (ap (λ (y : Answer). Some y) is))

-- a command that is answered `stopped` shows that the machine has stopped
pub stopped-halts : (base : List Made) (layout : Layout) (view : View) (j : Job) → FitsFrom base layout view j → answer j ≡ Some answers.Stopped → IsHalted view
stopped-halts base layout view (jobs.Instruction i) fits is = let own = mapped _ (instructions.answer i) is in instruction-halts layout view base i.request i.lines.told own.0 (instruction-ended i fits own.1).ended own.2
stopped-halts base layout view (jobs.Copying c) fits is = let own = mapped _ (copyings.answer c) is in copy-halts layout view base c fits.runs own.0 c.at fits.at own.1 own.2
stopped-halts base layout view (jobs.Evict e) fits is = evict-halts layout view base e e.at fits.at is
stopped-halts base layout view (jobs.Fsync f) fits is = fsync-halts layout view f f.at fits.1.at is
stopped-halts base layout view (jobs.Prctl p) fits is = prctl-halts layout view p p.at fits.1.at is
stopped-halts base layout view (jobs.Denied p) fits is = denied-halts layout view p p.at fits.1.at is
stopped-halts base layout view (jobs.Fork f) fits is = fork-halts layout view f f.at fits.1.at is
stopped-halts base layout view (jobs.Log l) fits is = read-halts layout view l.read l.read.at fits.1.read.at is
stopped-halts base layout view (jobs.Raise r) fits is = let own = mapped _ (raises.answer r) is in raise-halts layout view r own.0 (raise-ended r fits.1 own.1).1 own.2
stopped-halts base layout view (jobs.Scrub c) fits is = let own = mapped _ (scrubs.answer c) is in scrub-halts layout view c own.0 (scrub-ended c fits.1 own.1) own.2
stopped-halts base layout view (jobs.Spoil s) fits is = spoil-halts layout view s s.at fits.1.at is
stopped-halts base layout view (jobs.Nested n) fits is = nested-halts layout view n n.at fits.1.at is
stopped-halts base layout view (jobs.Inject i) fits is = let own = mapped _ (injects.answer i) is in inject-halts layout view i own.0 (inject-ended i fits.1 own.1) own.2
stopped-halts base layout view (jobs.Soft s) fits is = let own = mapped _ (softs.answer s) is in soft-halts layout view base s own.0 (soft-ended s fits own.1).1 own.2
stopped-halts base layout view (jobs.Unpoison u) fits is = let own = mapped _ (unpoisons.answer u) is in unpoison-halts layout view u own.0 (unpoison-ended u fits.1 own.1).1 own.2
