-- What a copy has done so far by the failures of its machine checks: what its accesses have done.
use Rattle.std.specs.Prelude.{◌≡◌, ℕ, ◌+◌, List, [], ◌++◌, Some}
use Rattle.hwp_fault.specs.hwp_core_rule.declared.Mark.{Mark}
use Rattle.hwp_fault.specs.hwp_core_rule.declared.View.{View}
use Rattle.hwp_claim.specs.hwp_claim_act.declared.Failed.{Failed}
use Rattle.hwp_claim.specs.hwp_claim_frame.Done.{Grows, Marking, counts_owed, marking_of}
use Rattle.hwp_cpu_access.specs.Done as instruction_done
use Rattle.hwp_cpu_access.specs.Done.{FailuresGrow, failures_by}
use Rattle.hwp_cpu_access.specs.declared.instruction.Instruction.{Instruction}
use Rattle.hwp_cpu_access.specs.declared.copying.Copying.{Copying}
use Rattle.hwp_cpu_access.specs.declared.copying.CopyingAt.{CopyingAt}
use Rattle.hwp_cpu_access.specs.declared.copying.CopyingAt.TheVariants as at

-- what the lines tell of the accesses that are over, and what the one that goes on, or was the last, has done beyond
abbrev pub marked_at : Instruction → CopyingAt → List Marking
marked_at i at.Access = instruction_done.marked_at i.at
marked_at i _ = []

abbrev pub marked_now : Copying → List Marking
marked_now c = instruction_done.marked_by c.instruction.lines.told ++ marked_at c.instruction c.at

abbrev pub failed_at : Instruction → CopyingAt → List Failed
failed_at i at.Access = instruction_done.failed_at i.at
failed_at i _ = []

abbrev pub failed_now : Copying → List Failed
failed_now c = instruction_done.failed_by (Some c.store.thread) c.instruction.lines.told ++ failed_at c.instruction c.at

-- the count that is owed
abbrev pub owed_at : Instruction → CopyingAt → ℕ
owed_at i at.Access = instruction_done.owed_at i.at
owed_at i _ = 0

abbrev pub owed_now : Copying → ℕ
owed_now c = owed_at c.instruction c.at

-- what a step adds to what the view lists of the command, and to what the command has done
pub record Adds (old new : View) (before after : Copying) : Type 0 where
  pub marked : Grows (λ (m : Mark). m.stamp.who) marking_of old.marks new.marks before.store.who (marked_now before) (marked_now after)
  pub failed : FailuresGrow (failures_by before.store.who old) (failures_by before.store.who new) (failed_now before) (failed_now after)
  pub counted : counts_owed new + owed_now before ≡ counts_owed old + owed_now after
