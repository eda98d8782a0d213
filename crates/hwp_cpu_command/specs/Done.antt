-- What a command has done so far beside what it answers: the frames that it marked, and the failures that its entries tell; and what
-- a step of it has done, also to policies.
use Rattle.std.specs.Prelude.{◌≡◌, ℕ, Bool, true, false, List, [], None}
use Rattle.hwp_cpu_control.specs.hwp_geom.declared.Frame.{Frame}
use Rattle.hwp_cpu_control.specs.hwp_geom.declared.Who.{Who}
use Rattle.hwp_cpu_control.specs.hwp_core_rule.declared.Mark.{Mark}
use Rattle.hwp_cpu_control.specs.hwp_core_rule.declared.Setting.{Setting}
use Rattle.hwp_cpu_control.specs.hwp_core_rule.declared.View.{View}
use Rattle.hwp_cpu_row.specs.hwp_claim_act.declared.Failed.{Failed}
use Rattle.hwp_cpu_row.specs.hwp_claim_frame.Done.{Grows, Marking, counts_owed, marking_of}
use Rattle.hwp_cpu_row.specs.hwp_claim.declared.inject.InjectAt.{InjectAt}
use Rattle.hwp_cpu_row.specs.hwp_claim.declared.inject.InjectAt.TheVariants as inject_at
use Rattle.hwp_cpu_row.specs.hwp_claim.Done as fail_done
use Rattle.hwp_cpu_access.specs.Done as instruction_done
use Rattle.hwp_cpu_access.specs.Done.{FailuresGrow, failures_by}
use Rattle.hwp_cpu_access.specs.CopyDone as copying_done
use Rattle.hwp_scrub.specs.RaiseDone as raise_done
use Rattle.hwp_scrub.specs.Done as scrub_done
use Rattle.hwp_soft.specs.Done as soft_done
use Rattle.hwp_soft.specs.UnpoisonDone as unpoison_done
use Rattle.hwp_cpu_command.specs.declared.job.Job.{Job}
use Rattle.hwp_cpu_command.specs.declared.job.Job.TheVariants as jobs
use Rattle.hwp_cpu_command.specs.Settings.{policies_now}

-- the marks that the command has made, in order
abbrev pub marked_at : Frame → InjectAt → List Marking
marked_at frame (inject_at.Fail f) = fail_done.marked_at frame false f.at
marked_at frame _ = []

abbrev pub marked_now : Job → List Marking
marked_now (jobs.Instruction i) = instruction_done.marked_now i
marked_now (jobs.Copying c) = copying_done.marked_now c
marked_now (jobs.Raise r) = raise_done.marked_now r
marked_now (jobs.Scrub s) = scrub_done.marked_now s
marked_now (jobs.Inject i) = marked_at i.frame i.at
marked_now (jobs.Soft s) = soft_done.marked_at s.frame s.at
marked_now (jobs.Unpoison u) = unpoison_done.marked_at u.frame u.at
marked_now _ = []

-- those beyond the ones that the events tell which it told of
abbrev pub marked_beyond : Job → List Marking
marked_beyond (jobs.Instruction i) = instruction_done.marked_at i.at
marked_beyond (jobs.Copying c) = copying_done.marked_at c.instruction c.at
marked_beyond (jobs.Raise r) = raise_done.marked_at r.at
marked_beyond (jobs.Scrub s) = scrub_done.marked_at s.at
marked_beyond j = marked_now j

-- the failures that its entries tell
abbrev pub failed_at : InjectAt → List Failed
failed_at (inject_at.Fail f) = fail_done.failed_at None f.at
failed_at _ = []

abbrev pub failed_now : Job → List Failed
failed_now (jobs.Instruction i) = instruction_done.failed_now i
failed_now (jobs.Copying c) = copying_done.failed_now c
failed_now (jobs.Raise r) = raise_done.failed_now r
failed_now (jobs.Scrub s) = scrub_done.failed_now s
failed_now (jobs.Inject i) = failed_at i.at
failed_now _ = []

-- the command can have a memory failure
abbrev pub can_fail : Job → Bool
can_fail (jobs.Instruction i) = true
can_fail (jobs.Copying c) = true
can_fail (jobs.Raise r) = true
can_fail (jobs.Scrub s) = true
can_fail (jobs.Inject i) = true
can_fail _ = false

-- the counts that it owes of its marks
abbrev pub owed_at : InjectAt → ℕ
owed_at (inject_at.Fail f) = fail_done.owed_at f.at
owed_at _ = 0

abbrev pub owed_now : Job → ℕ
owed_now (jobs.Instruction i) = instruction_done.owed_now i
owed_now (jobs.Copying c) = copying_done.owed_now c
owed_now (jobs.Raise r) = raise_done.owed_now r
owed_now (jobs.Scrub s) = scrub_done.owed_now s
owed_now (jobs.Inject i) = owed_at i.at
owed_now (jobs.Soft s) = soft_done.owed_at s.at
owed_now (jobs.Unpoison u) = unpoison_done.owed_at u.at
owed_now _ = 0

-- the processor owes a count of the frame that its command has just marked, and no other
abbrev pub HasCounted : Job → View → Type 0
HasCounted j view = counts_owed view ≡ owed_now j

-- what a step of the command has done
pub record HasDone (old new : View) (who : Who) (j after : Job) : Type 0 where
  pub marked : Grows (λ (m : Mark). m.stamp.who) marking_of old.marks new.marks who (marked_now j) (marked_now after)
  pub failed : can_fail after ≡ true → FailuresGrow (failures_by who old) (failures_by who new) (failed_now j) (failed_now after)
  pub set : Grows (λ (s : Setting). s.stamp.who) (λ (s : Setting). (s.thread, s.policy)) old.settings new.settings who (policies_now j) (policies_now after)
  pub counted : HasCounted j old → HasCounted after new
