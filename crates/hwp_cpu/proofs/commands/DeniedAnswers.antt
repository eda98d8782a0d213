-- What a task answers of an access that its guest doesn't admit, and that no other task answers so.
use Rattle.std.proofs.Common.{◌≡◌, ◌≢◌, ℕ, ◌⊎◌, inl, inr, Bool, true, false, List, [], Option, Some, None, length, option_map, true≢false, refl, sym, ap, ◌∙◌, subst}
use Rattle.std.proofs.lemmas.Option.{none-some, same_Some}
use Rattle.hwp_cpu_command.specs.hwp_geom.declared.Layout.{Layout}
use Rattle.hwp_cpu_command.specs.hwp_kill.declared.Reply.{Reply}
use Rattle.hwp_cpu_command.specs.hwp_kill.declared.Reply.TheVariants as replies
use Rattle.hwp_cpu_command.specs.hwp_page.declared.At.{At}
use Rattle.hwp_cpu_command.specs.hwp_page.History.{BodyValue}
use Rattle.hwp_cpu_command.specs.hwp_page.declared.Outcome.{Outcome}
use Rattle.hwp_cpu_command.specs.hwp_page.declared.Outcome.TheVariants as outcomes
use Rattle.hwp_cpu_command.specs.hwp_page.Situations.{outcome_of}
use Rattle.hwp_cpu_command.specs.hwp_core_rule.declared.Made.{Made}
use Rattle.hwp_cpu_command.specs.hwp_core_rule.declared.View.{View}
use Rattle.hwp_cpu_command.specs.hwp_core_rule.Known.{HasMadeNone}
use Rattle.hwp_cpu_command.specs.hwp_core_rule.declared.Turn.{Turn}
use Rattle.hwp_cpu_command.specs.hwp_report_text.declared.Answer.{Answer}
use Rattle.hwp_cpu_command.specs.hwp_report_text.declared.Answer.TheVariants as answers
use Rattle.hwp_cpu_command.specs.hwp_law.Outcomes.{outcome_answer, reply_answer}
use Rattle.hwp_cpu_command.specs.hwp_cpu_control.declared.Denial.{Denial}
use Rattle.hwp_cpu_command.specs.hwp_cpu_control.declared.Denial.TheVariants as denials
use Rattle.hwp_cpu_command.specs.hwp_cpu_control.declared.DeniedAnswer.{DeniedAnswer}
use Rattle.hwp_cpu_command.specs.hwp_cpu_control.declared.DeniedAnswer.TheVariants as denied_answers
use Rattle.hwp_cpu_command.specs.hwp_cpu_control.declared.ForkAnswer.{ForkAnswer}
use Rattle.hwp_cpu_command.specs.hwp_cpu_control.declared.ForkAnswer.TheVariants as fork_answers
use Rattle.hwp_cpu_command.specs.hwp_cpu_control.declared.NestedAnswer.{NestedAnswer}
use Rattle.hwp_cpu_command.specs.hwp_cpu_control.declared.NestedAnswer.TheVariants as nested_answers
use Rattle.hwp_cpu_command.specs.hwp_cpu_control.declared.PrctlAnswer.{PrctlAnswer}
use Rattle.hwp_cpu_command.specs.hwp_cpu_control.declared.PrctlAnswer.TheVariants as prctl_answers
use Rattle.hwp_cpu_command.specs.hwp_cpu_control.declared.ReadStopAnswer.{ReadStopAnswer}
use Rattle.hwp_cpu_command.specs.hwp_cpu_control.declared.ReadStopAnswer.TheVariants as read_stop_answers
use Rattle.hwp_cpu_command.specs.hwp_cpu_control.declared.SpoilAnswer.{SpoilAnswer}
use Rattle.hwp_cpu_command.specs.hwp_cpu_control.declared.SpoilAnswer.TheVariants as spoil_answers
use Rattle.hwp_cpu_command.specs.hwp_evict.declared.EvictAnswer.{EvictAnswer}
use Rattle.hwp_cpu_command.specs.hwp_evict.declared.EvictAnswer.TheVariants as evict_answers
use Rattle.hwp_cpu_command.specs.hwp_evict.declared.FsyncAnswer.{FsyncAnswer}
use Rattle.hwp_cpu_command.specs.hwp_evict.declared.FsyncAnswer.TheVariants as fsync_answers
use Rattle.hwp_cpu_command.specs.hwp_evict.declared.Refusal.{Refusal}
use Rattle.hwp_cpu_command.specs.hwp_evict.declared.Refusal.TheVariants as refusals
use Rattle.hwp_cpu_command.specs.hwp_claim.declared.FailAnswer.{FailAnswer}
use Rattle.hwp_cpu_command.specs.hwp_claim.declared.FailAnswer.TheVariants as fail_answers
use Rattle.hwp_cpu_command.specs.hwp_cpu_access.declared.InstructionAnswer.{InstructionAnswer}
use Rattle.hwp_cpu_command.specs.hwp_cpu_access.declared.InstructionAnswer.TheVariants as instruction_answers
use Rattle.hwp_cpu_command.specs.hwp_scrub.declared.RaiseAnswer.{RaiseAnswer}
use Rattle.hwp_cpu_command.specs.hwp_scrub.declared.RaiseAnswer.TheVariants as raise_answers
use Rattle.hwp_cpu_command.specs.hwp_scrub.declared.ScrubAnswer.{ScrubAnswer}
use Rattle.hwp_cpu_command.specs.hwp_scrub.declared.ScrubAnswer.TheVariants as scrub_answers
use Rattle.hwp_cpu_command.specs.hwp_soft.declared.SoftAnswer.{SoftAnswer}
use Rattle.hwp_cpu_command.specs.hwp_soft.declared.SoftAnswer.TheVariants as soft_answers
use Rattle.hwp_cpu_command.specs.hwp_soft.declared.UnpoisonAnswer.{UnpoisonAnswer}
use Rattle.hwp_cpu_command.specs.hwp_soft.declared.UnpoisonAnswer.TheVariants as unpoison_answers
use Rattle.hwp_cpu_command.specs.hwp_cpu_control.Denieds as denieds
use Rattle.hwp_cpu_command.specs.hwp_cpu_control.Forks as forks
use Rattle.hwp_cpu_command.specs.hwp_cpu_control.Nesteds as nesteds
use Rattle.hwp_cpu_command.specs.hwp_cpu_control.Prctls as prctls
use Rattle.hwp_cpu_command.specs.hwp_cpu_control.Spoils as spoils
use Rattle.hwp_cpu_command.specs.hwp_evict.Evicts as evicts
use Rattle.hwp_cpu_command.specs.hwp_evict.Fsyncs as fsyncs
use Rattle.hwp_cpu_command.specs.hwp_claim.Injects as injects
use Rattle.hwp_cpu_command.specs.hwp_cpu_access.Instructions as instructions
use Rattle.hwp_cpu_command.specs.hwp_cpu_access.Copyings as copyings
use Rattle.hwp_cpu_command.specs.hwp_scrub.Logs as logs
use Rattle.hwp_cpu_command.specs.hwp_scrub.Raises as raises
use Rattle.hwp_cpu_command.specs.hwp_scrub.Scrubs as scrubs
use Rattle.hwp_cpu_command.specs.hwp_soft.Softs as softs
use Rattle.hwp_cpu_command.specs.hwp_soft.Unpoisons as unpoisons
use Rattle.hwp_cpu_command.specs.declared.job.Job.{Job}
use Rattle.hwp_cpu_command.specs.declared.job.Job.TheVariants as jobs
use Rattle.hwp_cpu_command.specs.Answers.{denial_answer, denied_answer, evict_answer, fail_answer, fork_answer, fsync_answer, instruction_answer, nested_answer, prctl_answer, raise_answer, read_stop_answer, refusal_answer, scrub_answer, soft_answer, spoil_answer, unpoison_answer}
use Rattle.hwp_cpu_command.specs.Jobs.{FitsFrom, Next, answer, bare, denial_of, give_up, resume, told_of, who}
use Rattle.hwp_cpu_command.proofs.JobEnds.{mapped}

-- ---- one that a guest doesn't admit

-- the thread's process had ended
abbrev pub IsGone : Answer → Type 0
IsGone (answers.Gone page) = Unit {0}
IsGone answer = ⊥

denied-says : (why : Denial) (x : DeniedAnswer) → (denied_answer why x ≡ denial_answer why) ⊎ ((denied_answer why x ≡ answers.Stopped) ⊎ IsGone (denied_answer why x))
denied-says why denied_answers.Denied = inl refl
denied-says why denied_answers.Stopped = inr (inl refl)
denied-says why (denied_answers.Gone page) = inr (inr tt)

-- it answers what is due, or what the machine says
pub says-denied : (j : Job) {due a : Answer} → denial_of j ≡ Some due → answer j ≡ Some a → (a ≡ due) ⊎ ((a ≡ answers.Stopped) ⊎ IsGone a)
says-denied (jobs.Denied d) {due} {a} denial is =
    let own = mapped (denied_answer d.why) (denieds.answer d) is in
    subst (λ (x : Answer). (x ≡ due) ⊎ ((x ≡ answers.Stopped) ⊎ IsGone x)) own.2
    (subst (λ (x : Answer). (denied_answer d.why own.0 ≡ x) ⊎ ((denied_answer d.why own.0 ≡ answers.Stopped) ⊎ IsGone (denied_answer d.why own.0))) (same_Some (denial_answer d.why) due denial) (denied-says d.why own.0))
says-denied _ denial is = absurd (none-some _ denial)

-- it tells nothing
pub untold-denied : (j : Job) {due : Answer} → denial_of j ≡ Some due → told_of j ≡ []
untold-denied (jobs.Denied d) denial = refl
untold-denied _ denial = absurd (none-some _ denial)

-- and makes no entry
pub unmade-denied : (base : List Made) (layout : Layout) (view : View) (j : Job) {due : Answer} → denial_of j ≡ Some due → FitsFrom base layout view j → HasMadeNone view (who j)
unmade-denied base layout view (jobs.Denied d) denial fits = fits.1.made
unmade-denied base layout view _ denial fits = absurd (none-some _ denial)

-- it isn't answered by SIGBUS
abbrev says_sigbus : Answer → Bool
says_sigbus (answers.Sigbus at) = true
says_sigbus _ = false

quiet : (why : Denial) (x : DeniedAnswer) → says_sigbus (denied_answer why x) ≡ false
quiet denials.BadFrame denied_answers.Denied = refl
quiet denials.Stopped denied_answers.Denied = refl
quiet why (denied_answers.Gone page) = refl
quiet why denied_answers.Stopped = refl

pub unsignalled : (j : Job) {due a : Answer} → denial_of j ≡ Some due → answer j ≡ Some a → (at : At) → a ≢ answers.Sigbus at
unsignalled (jobs.Denied d) denial is at same =
    let own = mapped (denied_answer d.why) (denieds.answer d) is in true≢false (sym (ap says_sigbus (own.2 ∙ same)) ∙ quiet d.why own.0)
unsignalled _ denial is at same = absurd (none-some _ denial)

-- ---- a task stays one of such an access

pub denial-next : (layout : Layout) (j after : Job) (found : ℕ) (got : Option BodyValue) (turn : Turn) → Next layout j found got after turn → denial_of after ≡ denial_of j
denial-next layout (jobs.Instruction i) after found got turn next = ap denial_of next.1
denial-next layout (jobs.Copying c) after found got turn next = ap denial_of next.1
denial-next layout (jobs.Evict e) after found got turn next = ap denial_of next.1
denial-next layout (jobs.Fsync f) after found got turn next = ap denial_of next.0
denial-next layout (jobs.Prctl p) after found got turn next = ap denial_of next.0
denial-next layout (jobs.Fork f) after found got turn next = ap denial_of next.0
denial-next layout (jobs.Log l) after found got turn next = ap denial_of next.0
denial-next layout (jobs.Raise r) after found got turn next = ap denial_of next.1
denial-next layout (jobs.Scrub s) after found got turn next = ap denial_of next.1
denial-next layout (jobs.Spoil s) after found got turn next = ap denial_of next.0
denial-next layout (jobs.Nested n) after found got turn next = ap denial_of next.0
denial-next layout (jobs.Inject i) after found got turn next = ap denial_of next.1
denial-next layout (jobs.Soft s) after found got turn next = ap denial_of next.1
denial-next layout (jobs.Unpoison u) after found got turn next = ap denial_of next.0
denial-next layout (jobs.Denied d) after found got turn next = ap denial_of next.0

pub denial-behind : (j : Job) → denial_of (resume j) ≡ denial_of j
denial-behind (jobs.Instruction i) = refl
denial-behind (jobs.Copying c) = refl
denial-behind _ = refl

pub denial-up : (j : Job) → denial_of (give_up j) ≡ denial_of j
denial-up (jobs.Instruction i) = refl
denial-up (jobs.Copying c) = refl
denial-up (jobs.Raise r) = refl
denial-up (jobs.Scrub s) = refl
denial-up _ = refl

pub denial-bare : (j : Job) → denial_of (bare j) ≡ denial_of j
denial-bare (jobs.Instruction i) = refl
denial-bare (jobs.Copying c) = refl
denial-bare (jobs.Evict e) = refl
denial-bare (jobs.Raise r) = refl
denial-bare (jobs.Scrub s) = refl
denial-bare (jobs.Inject i) = refl
denial-bare (jobs.Soft s) = refl
denial-bare _ = refl

-- ---- no other answers so

abbrev says_guest : Answer → Bool
says_guest answers.GuestBad = true
says_guest answers.GuestStopped = true
says_guest _ = false

instruction-plain : (x : InstructionAnswer) → says_guest (instruction_answer x) ≡ false
instruction-plain (instruction_answers.Value word at) = refl
instruction-plain (instruction_answers.Stored at) = refl
instruction-plain (instruction_answers.Sigbus at) = refl
instruction-plain instruction_answers.NoFrame = refl
instruction-plain (instruction_answers.Gone page) = refl
instruction-plain instruction_answers.Stopped = refl

refusal-plain : (r : Refusal) (at : At) → says_guest (refusal_answer r at) ≡ false
refusal-plain refusals.NotMapped at = refl
refusal-plain refusals.NotResident at = refl
refusal-plain refusals.Locked at = refl
refusal-plain refusals.Dirty at = refl
refusal-plain refusals.Mapped at = refl
refusal-plain (refusals.BadLines mask) at = refl

evict-plain : (x : EvictAnswer) → says_guest (evict_answer x) ≡ false
evict-plain evict_answers.Stopped = refl
evict-plain (evict_answers.Done at) = refl
evict-plain (evict_answers.Refused refusal at) = refusal-plain refusal at

fsync-plain : (x : FsyncAnswer) → says_guest (fsync_answer x) ≡ false
fsync-plain fsync_answers.Stopped = refl
fsync-plain fsync_answers.Done = refl
fsync-plain (fsync_answers.Eio lost) = refl
fsync-plain (fsync_answers.Opened lost) = refl

reply-plain : (r : Reply) → says_guest (reply_answer r) ≡ false
reply-plain (replies.Set policy) = refl
reply-plain (replies.Is policy) = refl
reply-plain replies.Einval = refl

prctl-plain : (x : PrctlAnswer) → says_guest (prctl_answer x) ≡ false
prctl-plain (prctl_answers.Replied reply) = reply-plain reply
prctl-plain (prctl_answers.Gone page) = refl
prctl-plain prctl_answers.Stopped = refl

fork-plain : (x : ForkAnswer) → says_guest (fork_answer x) ≡ false
fork-plain (fork_answers.Done policy) = refl
fork-plain (fork_answers.Gone page) = refl
fork-plain fork_answers.Stopped = refl

read-plain : (x : ReadStopAnswer) → says_guest (read_stop_answer x) ≡ false
read-plain read_stop_answers.Done = refl
read-plain read_stop_answers.Stopped = refl

raise-plain : (lines : ℕ) (x : RaiseAnswer) → says_guest (raise_answer lines x) ≡ false
raise-plain lines raise_answers.Raised = refl
raise-plain lines (raise_answers.Gone page) = refl
raise-plain lines raise_answers.Stopped = refl

scrub-plain : (lines : ℕ) (x : ScrubAnswer) → says_guest (scrub_answer lines x) ≡ false
scrub-plain lines scrub_answers.Scrubbed = refl
scrub-plain lines scrub_answers.Stopped = refl

spoil-plain : (x : SpoilAnswer) → says_guest (spoil_answer x) ≡ false
spoil-plain spoil_answers.Done = refl
spoil-plain spoil_answers.Stopped = refl

nested-plain : (x : NestedAnswer) → says_guest (nested_answer x) ≡ false
nested-plain nested_answers.Shutdown = refl
nested-plain nested_answers.Stopped = refl

outcome-plain : (o : Outcome) → says_guest (outcome_answer o) ≡ false
outcome-plain outcomes.Recovered = refl
outcome-plain outcomes.Delayed = refl
outcome-plain outcomes.Ignored = refl

fail-plain : (x : FailAnswer) → says_guest (fail_answer x) ≡ false
fail-plain fail_answers.Stopped = refl
fail-plain fail_answers.Already = refl
fail-plain (fail_answers.Done found) = outcome-plain (outcome_of found.situation)

soft-plain : (x : SoftAnswer) → says_guest (soft_answer x) ≡ false
soft-plain soft_answers.Stopped = refl
soft-plain soft_answers.Kernel = refl
soft-plain soft_answers.Already = refl
soft-plain (soft_answers.HasBad mask) = refl
soft-plain soft_answers.NoFrame = refl
soft-plain (soft_answers.TakenFree cycle) = refl
soft-plain (soft_answers.Moved frame at cycle) = refl

unpoison-plain : (x : UnpoisonAnswer) → says_guest (unpoison_answer x) ≡ false
unpoison-plain (unpoison_answers.Done cycle) = refl
unpoison-plain unpoison_answers.Stopped = refl
unpoison-plain unpoison_answers.NotPoisoned = refl
unpoison-plain unpoison_answers.HardwareSeen = refl
unpoison-plain (unpoison_answers.HasBad mask) = refl
unpoison-plain (unpoison_answers.InUse count) = refl

-- what holds of what each own answer is told as
by-own : {A : Type 0} (f : A → Answer) (o : Option A) {a : Answer} → ((x : A) → says_guest (f x) ≡ false) → option_map f o ≡ Some a → says_guest a ≡ false
by-own f o plain is = let own = mapped f o is in ap says_guest (sym own.2) ∙ plain own.0

plain-answer : (j : Job) {a : Answer} → denial_of j ≡ None → answer j ≡ Some a → says_guest a ≡ false
plain-answer (jobs.Instruction i) none is = by-own instruction_answer (instructions.answer i) instruction-plain is
plain-answer (jobs.Copying c) none is = by-own instruction_answer (copyings.answer c) instruction-plain is
plain-answer (jobs.Evict e) none is = by-own evict_answer (evicts.answer e) evict-plain is
plain-answer (jobs.Fsync f) none is = by-own fsync_answer (fsyncs.answer f) fsync-plain is
plain-answer (jobs.Prctl p) none is = by-own prctl_answer (prctls.answer p) prctl-plain is
plain-answer (jobs.Fork f) none is = by-own fork_answer (forks.answer f) fork-plain is
plain-answer (jobs.Log l) none is = by-own read_stop_answer (logs.answer l) read-plain is
plain-answer (jobs.Raise r) none is = by-own (raise_answer (length r.lines.told)) (raises.answer r) (raise-plain (length r.lines.told)) is
plain-answer (jobs.Scrub s) none is = by-own (scrub_answer (length s.lines.told)) (scrubs.answer s) (scrub-plain (length s.lines.told)) is
plain-answer (jobs.Spoil s) none is = by-own spoil_answer (spoils.answer s) spoil-plain is
plain-answer (jobs.Nested n) none is = by-own nested_answer (nesteds.answer n) nested-plain is
plain-answer (jobs.Inject i) none is = by-own fail_answer (injects.answer i) fail-plain is
plain-answer (jobs.Soft s) none is = by-own soft_answer (softs.answer s) soft-plain is
plain-answer (jobs.Unpoison u) none is = by-own unpoison_answer (unpoisons.answer u) unpoison-plain is
plain-answer (jobs.Denied d) none is = absurd (none-some _ (sym none))

pub says-plain : (j : Job) {a : Answer} → denial_of j ≡ None → answer j ≡ Some a → (a ≢ answers.GuestBad) × (a ≢ answers.GuestStopped)
says-plain j none is = (λ same. true≢false (sym (ap says_guest same) ∙ plain-answer j none is), λ same. true≢false (sym (ap says_guest same) ∙ plain-answer j none is))
