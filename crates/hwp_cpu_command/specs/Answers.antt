-- What the line of a report says of what a command came to.
use Rattle.std.specs.Prelude.{ℕ}
use Rattle.hwp_cpu_control.specs.hwp_page.declared.At.{At}
use Rattle.hwp_cpu_row.specs.hwp_report_text.declared.Answer.{Answer}
use Rattle.hwp_cpu_row.specs.hwp_report_text.declared.Answer.TheVariants as answers
use Rattle.hwp_cpu_control.specs.hwp_page.Situations.{outcome_of}
use Rattle.hwp_cpu_row.specs.hwp_law.Outcomes.{outcome_answer, reply_answer}
use Rattle.hwp_cpu_control.specs.declared.Denial.{Denial}
use Rattle.hwp_cpu_control.specs.declared.Denial.TheVariants as denials
use Rattle.hwp_cpu_control.specs.declared.DeniedAnswer.{DeniedAnswer}
use Rattle.hwp_cpu_control.specs.declared.DeniedAnswer.TheVariants as denied
use Rattle.hwp_cpu_control.specs.declared.ForkAnswer.{ForkAnswer}
use Rattle.hwp_cpu_control.specs.declared.ForkAnswer.TheVariants as forks
use Rattle.hwp_cpu_control.specs.declared.NestedAnswer.{NestedAnswer}
use Rattle.hwp_cpu_control.specs.declared.NestedAnswer.TheVariants as nested
use Rattle.hwp_cpu_control.specs.declared.PrctlAnswer.{PrctlAnswer}
use Rattle.hwp_cpu_control.specs.declared.PrctlAnswer.TheVariants as prctl
use Rattle.hwp_cpu_control.specs.declared.ReadStopAnswer.{ReadStopAnswer}
use Rattle.hwp_cpu_control.specs.declared.ReadStopAnswer.TheVariants as read_stop
use Rattle.hwp_cpu_control.specs.declared.SpoilAnswer.{SpoilAnswer}
use Rattle.hwp_cpu_control.specs.declared.SpoilAnswer.TheVariants as spoil
use Rattle.hwp_evict.specs.declared.EvictAnswer.{EvictAnswer}
use Rattle.hwp_evict.specs.declared.EvictAnswer.TheVariants as evict
use Rattle.hwp_evict.specs.declared.FsyncAnswer.{FsyncAnswer}
use Rattle.hwp_evict.specs.declared.FsyncAnswer.TheVariants as fsync
use Rattle.hwp_evict.specs.declared.Refusal.{Refusal}
use Rattle.hwp_evict.specs.declared.Refusal.TheVariants as refusals
use Rattle.hwp_cpu_row.specs.hwp_claim.declared.FailAnswer.{FailAnswer}
use Rattle.hwp_cpu_row.specs.hwp_claim.declared.FailAnswer.TheVariants as fail
use Rattle.hwp_cpu_access.specs.declared.InstructionAnswer.{InstructionAnswer}
use Rattle.hwp_cpu_access.specs.declared.InstructionAnswer.TheVariants as instruction
use Rattle.hwp_scrub.specs.declared.RaiseAnswer.{RaiseAnswer}
use Rattle.hwp_scrub.specs.declared.RaiseAnswer.TheVariants as raise
use Rattle.hwp_scrub.specs.declared.ScrubAnswer.{ScrubAnswer}
use Rattle.hwp_scrub.specs.declared.ScrubAnswer.TheVariants as scrub
use Rattle.hwp_soft.specs.declared.SoftAnswer.{SoftAnswer}
use Rattle.hwp_soft.specs.declared.SoftAnswer.TheVariants as soft
use Rattle.hwp_soft.specs.declared.UnpoisonAnswer.{UnpoisonAnswer}
use Rattle.hwp_soft.specs.declared.UnpoisonAnswer.TheVariants as unpoison

abbrev pub instruction_answer : InstructionAnswer → Answer
instruction_answer (instruction.Value word at) = answers.Value word at
instruction_answer (instruction.Stored at) = answers.Stored at
instruction_answer (instruction.Sigbus at) = answers.Sigbus at
instruction_answer instruction.NoFrame = answers.NoFrame
instruction_answer (instruction.Gone page) = answers.Gone page
instruction_answer instruction.Stopped = answers.Stopped

abbrev pub refusal_answer : Refusal → At → Answer
refusal_answer refusals.NotMapped at = answers.NotMapped at
refusal_answer refusals.NotResident at = answers.NotResident at
refusal_answer refusals.Locked at = answers.Locked at
refusal_answer refusals.Dirty at = answers.Dirty at
refusal_answer refusals.Mapped at = answers.Mapped at
refusal_answer (refusals.BadLines mask) at = answers.BadLines mask at

abbrev pub evict_answer : EvictAnswer → Answer
evict_answer evict.Stopped = answers.Stopped
evict_answer (evict.Done at) = answers.DoneAt at
evict_answer (evict.Refused refusal at) = refusal_answer refusal at

abbrev pub fsync_answer : FsyncAnswer → Answer
fsync_answer fsync.Stopped = answers.Stopped
fsync_answer fsync.Done = answers.Done
fsync_answer (fsync.Eio lost) = answers.Eio lost
fsync_answer (fsync.Opened lost) = answers.Opened lost

abbrev pub prctl_answer : PrctlAnswer → Answer
prctl_answer (prctl.Replied reply) = reply_answer reply
prctl_answer (prctl.Gone page) = answers.Gone page
prctl_answer prctl.Stopped = answers.Stopped

abbrev pub fork_answer : ForkAnswer → Answer
fork_answer (forks.Done policy) = answers.Done
fork_answer (forks.Gone page) = answers.Gone page
fork_answer forks.Stopped = answers.Stopped

-- an access that its guest doesn't admit, for this reason
abbrev pub denial_answer : Denial → Answer
denial_answer denials.BadFrame = answers.GuestBad
denial_answer denials.Stopped = answers.GuestStopped

abbrev pub denied_answer : Denial → DeniedAnswer → Answer
denied_answer why denied.Denied = denial_answer why
denied_answer why (denied.Gone page) = answers.Gone page
denied_answer why denied.Stopped = answers.Stopped

abbrev pub read_stop_answer : ReadStopAnswer → Answer
read_stop_answer read_stop.Done = answers.Done
read_stop_answer read_stop.Stopped = answers.Stopped

-- a machine check tells how many event lines it has
abbrev pub raise_answer : ℕ → RaiseAnswer → Answer
raise_answer lines raise.Raised = answers.Raised lines
raise_answer lines (raise.Gone page) = answers.Gone page
raise_answer lines raise.Stopped = answers.Stopped

-- and so does a scrub
abbrev pub scrub_answer : ℕ → ScrubAnswer → Answer
scrub_answer lines scrub.Scrubbed = answers.Scrubbed lines
scrub_answer lines scrub.Stopped = answers.Stopped

abbrev pub spoil_answer : SpoilAnswer → Answer
spoil_answer spoil.Done = answers.Done
spoil_answer spoil.Stopped = answers.Stopped

abbrev pub nested_answer : NestedAnswer → Answer
nested_answer nested.Shutdown = answers.Stopped
nested_answer nested.Stopped = answers.Stopped

abbrev pub fail_answer : FailAnswer → Answer
fail_answer fail.Stopped = answers.Stopped
fail_answer fail.Already = answers.Already
fail_answer (fail.Done found) = outcome_answer (outcome_of found.situation)

abbrev pub soft_answer : SoftAnswer → Answer
soft_answer soft.Stopped = answers.Stopped
soft_answer soft.Kernel = answers.Kernel
soft_answer soft.Already = answers.Already
soft_answer (soft.HasBad mask) = answers.HasBad mask
soft_answer soft.NoFrame = answers.NoFrame
soft_answer (soft.TakenFree cycle) = answers.TakenFree
soft_answer (soft.Moved frame at cycle) = answers.Moved frame at

abbrev pub unpoison_answer : UnpoisonAnswer → Answer
unpoison_answer (unpoison.Done cycle) = answers.Done
unpoison_answer unpoison.Stopped = answers.Stopped
unpoison_answer unpoison.NotPoisoned = answers.NotPoisoned
unpoison_answer unpoison.HardwareSeen = answers.HardwareSeen
unpoison_answer (unpoison.HasBad mask) = answers.HasBad mask
unpoison_answer (unpoison.InUse count) = answers.InUse count
