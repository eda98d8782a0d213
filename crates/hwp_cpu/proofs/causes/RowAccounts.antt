-- What a command has done beside its answer is what its row says.
use Rattle.std.proofs.Common.{◌≡◌, ℕ, false, List, [], ◌++◌, Option, Some, None, inl, inr, map, refl, sym, ap, ◌∙◌, subst}
use Rattle.std.specs.Prelude.{filter_map, option_and_then}
use Rattle.std.specs.List.{cons_option}
use Rattle.std.proofs.lemmas.Option.{none-some, same_Some}
use Rattle.hwp_law_served.specs.hwp_geom.declared.Frame.{Frame}
use Rattle.hwp_law_served.specs.hwp_geom.declared.Layout.{Layout}
use Rattle.hwp_law_served.specs.hwp_geom.declared.Mode.{Mode}
use Rattle.hwp_law_served.specs.hwp_geom.declared.Thread.{Thread}
use Rattle.hwp_law_served.specs.hwp_geom.declared.VSlot.{VSlot}
use Rattle.hwp_law_served.specs.hwp_geom.declared.Who.{Who}
use Rattle.hwp_law_served.specs.hwp_kill.declared.Policy.{Policy}
use Rattle.hwp_law_served.specs.hwp_kill.declared.Reply.TheVariants as replies
use Rattle.hwp_law_served.specs.hwp_kill.Prctl.{policy_set}
use Rattle.hwp_law_served.specs.hwp_banks.declared.Origin.{Origin}
use Rattle.hwp_law_served.specs.hwp_severity.declared.McgBits.{McgBits}
use Rattle.hwp_law_served.specs.hwp_core_rule.declared.Made.{Made}
use Rattle.hwp_law_served.specs.hwp_core_rule.declared.View.{View}
use Rattle.hwp_law_served.specs.hwp_script_words.declared.Command.{Command}
use Rattle.hwp_law_served.specs.hwp_script_words.declared.Command.TheVariants as commands
use Rattle.hwp_law_served.specs.hwp_script_words.declared.PrctlArgs.{PrctlArgs}
use Rattle.hwp_law_served.specs.hwp_report_text.declared.Answer.{Answer}
use Rattle.hwp_law_served.specs.hwp_law.Commands.{current_thread}
use Rattle.hwp_law_served.specs.hwp_law.Settings.{arguments, settings}
use Rattle.hwp_cpu_command.specs.hwp_cpu_control.declared.Prctl.{Prctl}
use Rattle.hwp_cpu_command.specs.hwp_cpu_control.declared.PrctlAnswer.{PrctlAnswer}
use Rattle.hwp_cpu_command.specs.hwp_cpu_control.declared.PrctlAnswer.TheVariants as prctl_answers
use Rattle.hwp_cpu_command.specs.hwp_cpu_control.declared.prctl.PrctlAt.{PrctlAt}
use Rattle.hwp_cpu_command.specs.hwp_cpu_control.declared.prctl.PrctlAt.TheVariants as prctl_at
use Rattle.hwp_cpu_command.specs.hwp_cpu_control.Prctls as prctls
use Rattle.hwp_cpu_command.proofs.of_hwp_cpu_control.PrctlReplies.{set-says}
use Rattle.hwp_law_served.specs.hwp_claim.declared.fail.FailAt.{FailAt}
use Rattle.hwp_law_served.specs.hwp_claim.declared.fail.FailAt.TheVariants as fail_at
use Rattle.hwp_law_served.specs.hwp_claim.declared.FailAnswer.{FailAnswer}
use Rattle.hwp_law_served.specs.hwp_claim.declared.FailAnswer.TheVariants as answers
use Rattle.hwp_law_served.specs.hwp_claim.declared.Inject.{Inject}
use Rattle.hwp_law_served.specs.hwp_claim.declared.inject.InjectAt.{InjectAt}
use Rattle.hwp_law_served.specs.hwp_claim.declared.inject.InjectAt.TheVariants as inject_at
use Rattle.hwp_law_served.specs.hwp_claim.Done.{failed_over, marked_over}
use Rattle.hwp_law_served.specs.hwp_claim.Done as fail_done
use Rattle.hwp_law_served.specs.hwp_claim.Fails as fails
use Rattle.hwp_law_served.specs.hwp_claim.Injects as injects
use Rattle.hwp_cpu_command.specs.hwp_fault.declared.AccessKind.{AccessKind}
use Rattle.hwp_cpu_command.specs.hwp_fault.declared.Request.{Request}
use Rattle.hwp_law_served.specs.hwp_claim.declared.EventOutcome.{EventOutcome}
use Rattle.hwp_law_served.specs.hwp_claim.CheckDone.{failed_in, marked_in}
use Rattle.hwp_cpu_command.specs.hwp_cpu_access.declared.instruction.InstructionAt.{InstructionAt}
use Rattle.hwp_cpu_command.specs.hwp_cpu_access.declared.instruction.InstructionAt.TheVariants as instruction_at
use Rattle.hwp_cpu_command.specs.hwp_cpu_access.Done as instruction_done
use Rattle.hwp_cpu_command.specs.hwp_scrub.declared.Raise.{Raise}
use Rattle.hwp_cpu_command.specs.hwp_scrub.declared.Raiser.{Raiser}
use Rattle.hwp_cpu_command.specs.hwp_scrub.declared.raise.RaiseAt.{RaiseAt}
use Rattle.hwp_cpu_command.specs.hwp_scrub.declared.raise.RaiseAt.TheVariants as raise_at
use Rattle.hwp_cpu_command.specs.hwp_scrub.RaiseDone as raise_done
use Rattle.hwp_cpu_command.specs.hwp_scrub.Raises.{thread_of}
use Rattle.hwp_law_served.specs.hwp_scrub.declared.scrub.ScrubAt.{ScrubAt}
use Rattle.hwp_law_served.specs.hwp_scrub.declared.scrub.ScrubAt.TheVariants as scrub_at
use Rattle.hwp_law_served.specs.hwp_scrub.Done as scrub_done
use Rattle.hwp_law_served.specs.hwp_soft.declared.Soft.{Soft}
use Rattle.hwp_law_served.specs.hwp_soft.declared.SoftAnswer.{SoftAnswer}
use Rattle.hwp_law_served.specs.hwp_soft.declared.SoftAnswer.TheVariants as soft_answers
use Rattle.hwp_law_served.specs.hwp_soft.Done.{marked_at, marked_of}
use Rattle.hwp_law_served.specs.hwp_soft.Softs.{cycle_in}
use Rattle.hwp_law_served.specs.hwp_soft.declared.Unpoison.{Unpoison}
use Rattle.hwp_law_served.specs.hwp_soft.declared.UnpoisonAnswer.{UnpoisonAnswer}
use Rattle.hwp_law_served.specs.hwp_soft.declared.UnpoisonAnswer.TheVariants as unpoison_answers
use Rattle.hwp_law_served.specs.hwp_soft.UnpoisonDone as unpoison_done
use Rattle.hwp_law_served.specs.hwp_cpu_row.declared.FrameChange.{FrameChange}
use Rattle.hwp_cpu_command.specs.declared.Job.{Job}
use Rattle.hwp_cpu_command.specs.declared.Job.TheVariants as jobs
use Rattle.hwp_cpu_command.specs.Answers.{fail_answer, prctl_answer, soft_answer, unpoison_answer}
use Rattle.hwp_cpu_command.specs.Done.{failed_at, failed_now, marked_now}
use Rattle.hwp_cpu_command.specs.Jobs.{FitsFrom, answer, offlined_by, own_by, own_of, revived_by, told_of}
use Rattle.hwp_cpu_command.specs.Runs.{Runs, RunsAs, RunsDenied}
use Rattle.hwp_cpu_command.specs.Settings.{AreCounted, policies_now, set_at}
use Rattle.hwp_cpu_command.proofs.JobEnds.{instruction-over, raise-over, scrub-over, soft-over, unpoison-over}
use Rattle.hwp_cpu_command.proofs.OfKind.{of-evict, of-fork, of-fsync, of-log, of-nested, of-prctl, of-spoil}
use Rattle.hwp_cpu.proofs.causes.DeniedCauses.{access-by, runs-kind}
use Rattle.hwp_cpu.proofs.causes.AccessCauses.{KnowsAccess, knows-access}
use Rattle.hwp_cpu.proofs.causes.CallCauses.{KnowsPrctl, knows-prctl}
use Rattle.hwp_cpu.proofs.causes.CopyCauses.{copy-does, knows-copy}
use Rattle.hwp_cpu.proofs.causes.ForkCauses.{fork-set, knows-fork}
use Rattle.hwp_cpu.proofs.causes.InjectCauses.{KnowsFailure, knows-failure}
use Rattle.hwp_cpu.proofs.causes.OfflineCauses.{KnowsSoft, knows-soft}
use Rattle.hwp_cpu.proofs.causes.RaiseCauses.{KnowsRaise, knows-kernel-raise, knows-user-raise}
use Rattle.hwp_cpu.proofs.causes.ScrubCauses.{KnowsScrub, knows-scrub}
use Rattle.hwp_cpu.proofs.causes.UnpoisonCauses.{KnowsUnpoison, knows-unpoison}
use Rattle.hwp_law_served.specs.Accounts.{IsOwn, own_failure, own_marking, set_by, set_for}
use Rattle.hwp_cpu.specs.Beside.{ArePrior, ArePriorWith, DoesSo}
use Rattle.hwp_cpu.proofs.causes.CauseLaws.{from-none}

-- ---- the policy of a thread

called : (layout : Layout) (earlier : List (Command × Answer)) (view : View) (by : Who) (thread : Thread) (p : Prctl) (args : PrctlArgs) → p.arguments ≡ arguments args → (x : PrctlAnswer) → prctls.FitsAt view p.who p.thread p.process p.arguments (prctl_at.Over x)
    → map (λ (policy : Policy). (p.thread, policy)) (set_at (prctl_at.Over x)) ≡ set_by layout earlier (commands.Prctl p.thread args) (prctl_answer x)
called layout earlier view by thread p args same prctl_answers.Stopped fits = refl
called layout earlier view by thread p args same (prctl_answers.Gone page) fits = refl
called layout earlier view by thread p args same (prctl_answers.Replied (replies.Set policy)) fits = sym (ap (set_for p.thread) (ap policy_set (sym same) ∙ set-says _ p.arguments policy fits.1.says))
called layout earlier view by thread p args same (prctl_answers.Replied (replies.Is policy)) fits = refl
called layout earlier view by thread p args same (prctl_answers.Replied replies.Einval) fits = refl

prctl-set : {layout : Layout} (earlier : List (Command × Answer)) {view : View} {who : Who} {thread : Thread} {args : PrctlArgs} {j : Job} {a : Answer} → KnowsPrctl layout view who thread args j a → policies_now j ≡ set_by layout earlier (commands.Prctl thread args) a
prctl-set {layout} earlier {view} {who} {thread} {args} {j} {a} k =
    ap policies_now k.job_is ∙ ap (λ (x : PrctlAt). map (λ (policy : Policy). (k.task.thread, policy)) (set_at x)) k.over
    ∙ called layout earlier view who thread k.task args k.arguments_are k.own (subst (prctls.FitsAt view k.task.who k.task.thread k.task.process k.task.arguments) k.over k.fits.at)
    ∙ ap (λ (t : Thread). set_by layout earlier (commands.Prctl t args) (prctl_answer k.own)) k.thread_is ∙ ap (set_by layout earlier (commands.Prctl thread args)) k.answer_is

-- ---- the frame that fails

-- the failure that its entry tells
inject-failed : (i : Inject) {x : FailAnswer} → injects.answer i ≡ Some x → failed_at i.at ≡ failed_over None x
inject-failed i {x} said = which i.at said
  where
    by : (y : FailAt) → fails.answer_at y ≡ Some x → fail_done.failed_at None y ≡ failed_over None x
    by (fail_at.Over own) is = ap (failed_over None) (same_Some own x is)
    by _ none = absurd (none-some x none)

    which : (y : InjectAt) → injects.answer_at y ≡ Some x → failed_at y ≡ failed_over None x
    which inject_at.LoadStop none = absurd (none-some x none)
    which (inject_at.Fail f) is = by f.at is
    which inject_at.Stopped is = ap (failed_over None) (same_Some answers.Stopped x is)

module _ (frame : Frame) where
  marked-so : (x : FailAnswer) → marked_over frame false x ≡ cons_option (own_marking (own_by frame (Some x))) []
  marked-so answers.Stopped = refl
  marked-so answers.Already = refl
  marked-so (answers.Done found) = refl

  failed-so : (x : FailAnswer) → failed_over None x ≡ cons_option (own_failure (own_by frame (Some x))) []
  failed-so answers.Stopped = refl
  failed-so answers.Already = refl
  failed-so (answers.Done found) = refl

  own-so : (x : FailAnswer) → IsOwn (commands.Inject frame) (fail_answer x) (own_by frame (Some x))
  own-so answers.Stopped = tt
  own-so answers.Already = tt
  own-so (answers.Done found) = (refl, refl)

-- ---- the frame that is taken out of use

module _ (frame : Frame) where
  poisoned-so : (x : SoftAnswer) → marked_of frame (cycle_in x) ≡ cons_option (own_marking (offlined_by frame x)) []
  poisoned-so soft_answers.Stopped = refl
  poisoned-so soft_answers.Kernel = refl
  poisoned-so soft_answers.Already = refl
  poisoned-so (soft_answers.HasBad mask) = refl
  poisoned-so soft_answers.NoFrame = refl
  poisoned-so (soft_answers.TakenFree cycle) = refl
  poisoned-so (soft_answers.Moved to place cycle) = refl

  -- none of its content fails
  unfailed-so : (x : SoftAnswer) → [] ≡ cons_option (own_failure (offlined_by frame x)) []
  unfailed-so soft_answers.Stopped = refl
  unfailed-so soft_answers.Kernel = refl
  unfailed-so soft_answers.Already = refl
  unfailed-so (soft_answers.HasBad mask) = refl
  unfailed-so soft_answers.NoFrame = refl
  unfailed-so (soft_answers.TakenFree cycle) = refl
  unfailed-so (soft_answers.Moved to place cycle) = refl

  offlined-so : (x : SoftAnswer) → IsOwn (commands.Soft frame) (soft_answer x) (offlined_by frame x)
  offlined-so soft_answers.Stopped = tt
  offlined-so soft_answers.Kernel = tt
  offlined-so soft_answers.Already = tt
  offlined-so (soft_answers.HasBad mask) = tt
  offlined-so soft_answers.NoFrame = tt
  offlined-so (soft_answers.TakenFree cycle) = (refl, refl)
  offlined-so (soft_answers.Moved to place cycle) = (refl, refl)

-- ---- the frame whose poison is taken back

module _ (frame : Frame) where
  revived-so : (x : UnpoisonAnswer) → unpoison_done.marked_for frame x ≡ cons_option (own_marking (revived_by frame x)) []
  revived-so (unpoison_answers.Done cycle) = refl
  revived-so unpoison_answers.Stopped = refl
  revived-so unpoison_answers.NotPoisoned = refl
  revived-so unpoison_answers.HardwareSeen = refl
  revived-so (unpoison_answers.HasBad mask) = refl
  revived-so (unpoison_answers.InUse count) = refl

  -- nothing fails
  sound-so : (x : UnpoisonAnswer) → [] ≡ cons_option (own_failure (revived_by frame x)) []
  sound-so (unpoison_answers.Done cycle) = refl
  sound-so unpoison_answers.Stopped = refl
  sound-so unpoison_answers.NotPoisoned = refl
  sound-so unpoison_answers.HardwareSeen = refl
  sound-so (unpoison_answers.HasBad mask) = refl
  sound-so (unpoison_answers.InUse count) = refl

  unpoisoned-so : (x : UnpoisonAnswer) → IsOwn (commands.Unpoison frame) (unpoison_answer x) (revived_by frame x)
  unpoisoned-so (unpoison_answers.Done cycle) = (refl, refl)
  unpoisoned-so unpoison_answers.Stopped = tt
  unpoisoned-so unpoison_answers.NotPoisoned = tt
  unpoisoned-so unpoison_answers.HardwareSeen = tt
  unpoisoned-so (unpoison_answers.HasBad mask) = tt
  unpoisoned-so (unpoison_answers.InUse count) = tt

-- ---- each command

module _ (layout : Layout) (earlier : List (Command × Answer)) where
  inject-does : {view : View} {who : Who} {frame : Frame} {j : Job} {a : Answer} → KnowsFailure layout view who frame j a → DoesSo layout earlier (commands.Inject frame) j a
  inject-does {frame = frame} {j} {a} k = subst (λ (q : Job). DoesSo layout earlier (commands.Inject frame) q a) (sym k.job_is) (subst (DoesSo layout earlier (commands.Inject frame) (jobs.Inject k.inject)) k.answer_is (subst (λ (f : Frame). DoesSo layout earlier (commands.Inject f) (jobs.Inject k.inject) (fail_answer k.own)) k.frame_is (record {
    marked = k.ended.marked ∙ marked-so k.inject.frame k.own ∙ ap (λ (o : Option FailAnswer). cons_option (own_marking (own_by k.inject.frame o)) []) (sym k.said);
    failed = inject-failed k.inject k.said ∙ failed-so k.inject.frame k.own ∙ ap (λ (o : Option FailAnswer). cons_option (own_failure (own_by k.inject.frame o)) []) (sym k.said);
    set = refl;
    own = subst (λ (o : Option FailAnswer). IsOwn (commands.Inject k.inject.frame) (fail_answer k.own) (own_by k.inject.frame o)) (sym k.said) (own-so k.inject.frame k.own);
  })))

  soft-does : {view : View} {who : Who} {frame : Frame} {j : Job} {a : Answer} → KnowsSoft layout view who frame j a → DoesSo layout earlier (commands.Soft frame) j a
  soft-does {frame = frame} {j} {a} k = subst (λ (q : Job). DoesSo layout earlier (commands.Soft frame) q a) (sym k.job_is) (subst (DoesSo layout earlier (commands.Soft frame) (jobs.Soft k.task)) k.answer_is (subst (λ (s : Soft). DoesSo layout earlier (commands.Soft s.frame) (jobs.Soft k.task) (soft_answer k.own)) k.begun (record {
    marked = ap (marked_at k.task.frame) (soft-over k.task k.said) ∙ poisoned-so k.task.frame k.own ∙ ap (λ (o : Option SoftAnswer). cons_option (own_marking (option_and_then (offlined_by k.task.frame) o)) []) (sym k.said);
    failed = unfailed-so k.task.frame k.own ∙ ap (λ (o : Option SoftAnswer). cons_option (own_failure (option_and_then (offlined_by k.task.frame) o)) []) (sym k.said);
    set = refl;
    own = subst (λ (o : Option SoftAnswer). IsOwn (commands.Soft k.task.frame) (soft_answer k.own) (option_and_then (offlined_by k.task.frame) o)) (sym k.said) (offlined-so k.task.frame k.own);
  })))

  unpoison-does : {view : View} {who : Who} {frame : Frame} {j : Job} {a : Answer} → KnowsUnpoison layout view who frame j a → DoesSo layout earlier (commands.Unpoison frame) j a
  unpoison-does {frame = frame} {j} {a} k = subst (λ (q : Job). DoesSo layout earlier (commands.Unpoison frame) q a) (sym k.job_is) (subst (DoesSo layout earlier (commands.Unpoison frame) (jobs.Unpoison k.task)) k.answer_is (subst (λ (u : Unpoison). DoesSo layout earlier (commands.Unpoison u.frame) (jobs.Unpoison k.task) (unpoison_answer k.own)) k.begun (record {
    marked = ap (unpoison_done.marked_at k.task.frame) (unpoison-over k.task k.said) ∙ revived-so k.task.frame k.own ∙ ap (λ (o : Option UnpoisonAnswer). cons_option (own_marking (option_and_then (revived_by k.task.frame) o)) []) (sym k.said);
    failed = sound-so k.task.frame k.own ∙ ap (λ (o : Option UnpoisonAnswer). cons_option (own_failure (option_and_then (revived_by k.task.frame) o)) []) (sym k.said);
    set = refl;
    own = subst (λ (o : Option UnpoisonAnswer). IsOwn (commands.Unpoison k.task.frame) (unpoison_answer k.own) (option_and_then (revived_by k.task.frame) o)) (sym k.said) (unpoisoned-so k.task.frame k.own);
  })))

  -- a command whose machine checks have done it all: its task, once it is over, has done what its lines tell
  access-does : {base : List Made} {view : View} {who : Who} {thread : Thread} {slot : VSlot} {line : ℕ} {kind : AccessKind} {origin : Origin} {mode : Mode} {j : Job} {a : Answer} (command : Command)
      → current_thread command ≡ Some thread → set_by layout earlier command a ≡ [] → IsOwn command a None → KnowsAccess base layout view who thread slot line kind origin mode j a → DoesSo layout earlier command j a
  access-does {thread = thread} {a = a} command of set own k = subst (λ (q : Job). DoesSo layout earlier command q a) (sym k.job_is) (record {
    marked = ap (λ (x : InstructionAt). filter_map marked_in k.task.lines.told ++ instruction_done.marked_at x) over;
    failed = ap (λ (x : InstructionAt). filter_map (failed_in (Some k.task.request.thread)) k.task.lines.told ++ instruction_done.failed_at x) over
        ∙ ap (λ (t : Option Thread). filter_map (failed_in t) k.task.lines.told ++ []) (ap (λ (r : Request). Some r.thread) k.request_is ∙ sym of);
    set = sym set;
    own = own;
  })
    where
      over : k.task.at ≡ instruction_at.Over (Some k.own)
      over = instruction-over k.task k.said

  raise-does : {view : View} {who : Who} {raiser : Option Raiser} {mcg : McgBits} {j : Job} {a : Answer} (command : Command)
      → current_thread command ≡ thread_of raiser → set_by layout earlier command a ≡ [] → IsOwn command a None → KnowsRaise layout view who raiser mcg j a → DoesSo layout earlier command j a
  raise-does {raiser = raiser} {a = a} command of set own k = subst (λ (q : Job). DoesSo layout earlier command q a) (sym k.job_is) (record {
    marked = ap (λ (x : RaiseAt). filter_map marked_in k.task.lines.told ++ raise_done.marked_at x) over;
    failed = ap (λ (x : RaiseAt). filter_map (failed_in (thread_of k.task.raiser)) k.task.lines.told ++ raise_done.failed_at x) over
        ∙ ap (λ (t : Option Thread). filter_map (failed_in t) k.task.lines.told ++ []) (ap (λ (r : Raise). thread_of r.raiser) k.begun ∙ sym of);
    set = sym set;
    own = own;
  })
    where
      over : k.task.at ≡ raise_at.Over (Some k.own)
      over = raise-over k.task k.said

  scrub-does : {view : View} {who : Who} {first last : Frame} {j : Job} {a : Answer} → KnowsScrub layout view who first last j a → DoesSo layout earlier (commands.Scrub first last) j a
  scrub-does {first = first} {last} {a = a} k = subst (λ (q : Job). DoesSo layout earlier (commands.Scrub first last) q a) (sym k.job_is) (record {
    marked = ap (λ (x : ScrubAt). filter_map marked_in k.task.lines.told ++ scrub_done.marked_at x) over;
    failed = ap (λ (x : ScrubAt). filter_map (failed_in None) k.task.lines.told ++ scrub_done.failed_at x) over;
    set = refl;
    own = tt;
  })
    where
      over : k.task.at ≡ scrub_at.Over (Some k.own)
      over = scrub-over k.task k.said

  -- a command of which no memory fails
  by-kind : {command : Command} {j k : Job} {a : Answer} → j ≡ k → (told_of k ≡ []) × (own_of k ≡ None) × (marked_now k ≡ []) × (failed_now k ≡ []) → policies_now j ≡ set_by layout earlier command a → IsOwn command a None → DoesSo layout earlier command j a
  by-kind {command} {j} {k} {a} is none set own = record {
    marked = ap marked_now is ∙ none.2 ∙ sym (ap (λ (q : Job). filter_map marked_in (told_of q) ++ cons_option (own_marking (own_of q)) []) is ∙ ap (λ (told : List EventOutcome). filter_map marked_in told ++ cons_option (own_marking (own_of k)) []) none.0 ∙ ap (λ (o : Option FrameChange). cons_option (own_marking o) []) none.1);
    failed = ap failed_now is ∙ none.3 ∙ sym (ap (λ (q : Job). filter_map (failed_in (current_thread command)) (told_of q) ++ cons_option (own_failure (own_of q)) []) is ∙ ap (λ (told : List EventOutcome). filter_map (failed_in (current_thread command)) told ++ cons_option (own_failure (own_of k)) []) none.0 ∙ ap (λ (o : Option FrameChange). cons_option (own_failure o) []) none.1);
    set = set;
    own = subst (IsOwn command a) (sym (ap own_of is ∙ none.1)) own;
  }

-- of a command that copies nothing
plain-does : (layout : Layout) (earlier : List (Command × Answer)) (view : View) (who : Who) (command : Command) (j : Job) {a : Answer} (base : List Made) → RunsAs layout who command None j → FitsFrom base layout view j → ArePrior layout command base → answer j ≡ Some a
    → AreCounted (λ (t : Thread). settings layout t earlier) view j → DoesSo layout earlier command j a
plain-does layout earlier view who (commands.Load thread slot line) j base runs fits prior is counted = access-does layout earlier (commands.Load thread slot line) refl refl tt (knows-access j runs fits is)
plain-does layout earlier view who (commands.Fetch thread slot line) j base runs fits prior is counted = access-does layout earlier (commands.Fetch thread slot line) refl refl tt (knows-access j runs fits is)
plain-does layout earlier view who (commands.KLoad thread slot line) j base runs fits prior is counted = access-does layout earlier (commands.KLoad thread slot line) refl refl tt (knows-access j runs fits is)
plain-does layout earlier view who (commands.Store thread slot line word) j base runs fits prior is counted = access-does layout earlier (commands.Store thread slot line word) refl refl tt (knows-access j runs fits is)
plain-does layout earlier view who (commands.Free slot) j base runs fits prior is counted = let task = (of-evict j runs.1.job_is).1 in by-kind layout earlier task (refl, refl, refl, refl) (ap policies_now task) tt
plain-does layout earlier view who (commands.Drop page) j base runs fits prior is counted = let task = (of-evict j runs.job_is).1 in by-kind layout earlier task (refl, refl, refl, refl) (ap policies_now task) tt
plain-does layout earlier view who (commands.Sync page) j base runs fits prior is counted = let task = (of-evict j runs.job_is).1 in by-kind layout earlier task (refl, refl, refl, refl) (ap policies_now task) tt
plain-does layout earlier view who (commands.Out page) j base runs fits prior is counted = let task = (of-evict j runs.job_is).1 in by-kind layout earlier task (refl, refl, refl, refl) (ap policies_now task) tt
plain-does layout earlier view who (commands.Fsync file) j base runs fits prior is counted = let task = (of-fsync j runs.2).1 in by-kind layout earlier task (refl, refl, refl, refl) (ap policies_now task) tt
plain-does layout earlier view who (commands.Open file) j base runs fits prior is counted = let task = (of-fsync j runs.2).1 in by-kind layout earlier task (refl, refl, refl, refl) (ap policies_now task) tt
plain-does layout earlier view who (commands.Prctl thread args) j base runs fits prior is counted = let task = (of-prctl j runs.job_is).1 in by-kind layout earlier task (refl, refl, refl, refl) (prctl-set earlier (knows-prctl j runs (from-none layout view j prior fits) is)) tt
plain-does layout earlier view who (commands.Fork thread child) j base runs fits prior is counted = let task = (of-fork j runs.job_is).1 in by-kind layout earlier task (refl, refl, refl, refl) (fork-set earlier (knows-fork j runs (from-none layout view j prior fits) is) counted) tt
plain-does layout earlier view who (commands.Bad frame line) j base runs fits prior is counted = let task = (of-spoil j runs.job_is).1 in by-kind layout earlier task (refl, refl, refl, refl) (ap policies_now task) tt
plain-does layout earlier view who (commands.Weak frame line) j base runs fits prior is counted = let task = (of-spoil j runs.job_is).1 in by-kind layout earlier task (refl, refl, refl, refl) (ap policies_now task) tt
plain-does layout earlier view who (commands.Scrub first last) j base runs fits prior is counted = scrub-does layout earlier (knows-scrub j runs (from-none layout view j prior fits) is)
plain-does layout earlier view who (commands.Log status addr misc) j base runs fits prior is counted = let task = (of-log j runs.job_is).1 in by-kind layout earlier task (refl, refl, refl, refl) (ap policies_now task) tt
plain-does layout earlier view who (commands.Watch threshold window) j base runs fits prior is counted = let task = (of-log j runs.job_is).1 in by-kind layout earlier task (refl, refl, refl, refl) (ap policies_now task) tt
plain-does layout earlier view who (commands.RaiseUser thread ripv eipv) j base runs fits prior is counted = raise-does layout earlier (commands.RaiseUser thread ripv eipv) refl refl tt (knows-user-raise j runs (from-none layout view j prior fits) is).knows
plain-does layout earlier view who (commands.RaiseKernel ripv eipv) j base runs fits prior is counted = raise-does layout earlier (commands.RaiseKernel ripv eipv) refl refl tt (knows-kernel-raise j runs (from-none layout view j prior fits) is)
plain-does layout earlier view who commands.RaiseNested j base runs fits prior is counted = let task = (of-nested j runs).1 in by-kind layout earlier task (refl, refl, refl, refl) (ap policies_now task) tt
plain-does layout earlier view who (commands.Inject frame) j base runs fits prior is counted = inject-does layout earlier (knows-failure j runs (from-none layout view j prior fits) is)
plain-does layout earlier view who (commands.Soft frame) j base runs fits prior is counted = soft-does layout earlier (knows-soft j runs (from-none layout view j prior fits) is)
plain-does layout earlier view who (commands.Unpoison frame) j base runs fits prior is counted = unpoison-does layout earlier (knows-unpoison j runs (from-none layout view j prior fits) is)

-- of a store that copies
copying-does : (layout : Layout) (earlier : List (Command × Answer)) (view : View) (who : Who) (command : Command) (from : VSlot) (j : Job) {a : Answer} → RunsAs layout who command (Some from) j → FitsFrom [] layout view j → answer j ≡ Some a → DoesSo layout earlier command j a
copying-does layout earlier view who (commands.Store thread slot line word) from j runs fits is = copy-does (knows-copy j runs fits is) earlier
copying-does layout earlier view who command from j runs fits is = absurd runs

-- of an access that its guest doesn't admit
denied-does : (layout : Layout) (earlier : List (Command × Answer)) {copied : Option VSlot} {who : Who} (command : Command) (j : Job) (a : Answer) → RunsDenied layout who command copied j → DoesSo layout earlier command j a
denied-does layout earlier command j a denied =
    let task = (runs-kind j denied).1 in
    access-by (λ (c : Command). DoesSo layout earlier c j a) (λ thread slot line. by-kind layout earlier task (refl, refl, refl, refl) (ap policies_now task) tt) (λ thread slot line. by-kind layout earlier task (refl, refl, refl, refl) (ap policies_now task) tt)
    (λ thread slot line. by-kind layout earlier task (refl, refl, refl, refl) (ap policies_now task) tt) (λ thread slot line word. by-kind layout earlier task (refl, refl, refl, refl) (ap policies_now task) tt) command denied.1.access

pub does : (layout : Layout) (earlier : List (Command × Answer)) (copied : Option VSlot) (view : View) (who : Who) (command : Command) (j : Job) {a : Answer} (base : List Made) → Runs layout who command copied j → FitsFrom base layout view j → ArePriorWith layout command copied base → answer j ≡ Some a
    → AreCounted (λ (t : Thread). settings layout t earlier) view j → DoesSo layout earlier command j a
does layout earlier copied view who command j {a} base (inl denied) fits prior is counted = denied-does layout earlier command j a denied
does layout earlier None view who command j base (inr runs) fits prior is counted = plain-does layout earlier view who command j base runs fits prior is counted
does layout earlier (Some from) view who command j base (inr runs) fits prior is counted = copying-does layout earlier view who command from j runs (from-none layout view j prior fits) is
