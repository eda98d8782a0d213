-- What a command has done so far by the failures of its machine checks: the poisonings that it made, the failures that its entries
-- tell, and the counts that it owes.
use Rattle.std.specs.Prelude.{◌≡◌, ◌⊎◌, ℕ, ◌+◌, List, [], ◌∷◌, ◌++◌, Option, Some, filter_map}
use Rattle.hwp_fault.specs.hwp_geom.declared.Thread.{Thread}
use Rattle.hwp_fault.specs.hwp_geom.declared.Who.{Who}
use Rattle.hwp_fault.specs.hwp_core_rule.declared.Mark.{Mark}
use Rattle.hwp_fault.specs.hwp_core_rule.declared.View.{View}
use Rattle.hwp_fault.specs.hwp_core_rule.Known.{deeds}
use Rattle.hwp_claim.specs.hwp_claim_act.declared.Failed.{Failed}
use Rattle.hwp_claim.specs.hwp_claim_act.Abandoned as abandoned
use Rattle.hwp_claim.specs.hwp_claim_frame.Done.{Grows, Marking, counts_owed, marking_of}
use Rattle.hwp_claim.specs.declared.EventOutcome.{EventOutcome}
use Rattle.hwp_claim.specs.CheckDone as handler_done
use Rattle.hwp_claim.specs.CheckDone.{failed_in, marked_in}
use Rattle.hwp_cpu_access.specs.declared.instruction.Instruction.{Instruction}
use Rattle.hwp_cpu_access.specs.declared.instruction.InstructionAt.{InstructionAt}
use Rattle.hwp_cpu_access.specs.declared.instruction.InstructionAt.TheVariants as at

-- the poisonings of the failures that came to a result, in order, and of those of the machine check under way
abbrev pub marked_by : List EventOutcome → List Marking
marked_by told = filter_map marked_in told

abbrev pub marked_at : InstructionAt → List Marking
marked_at (at.Handle frame h) = handler_done.marked_now h
marked_at _ = []

abbrev pub marked_now : Instruction → List Marking
marked_now i = marked_by i.lines.told ++ marked_at i.at

-- the failures that entries tell
abbrev pub failed_by : Option Thread → List EventOutcome → List Failed
failed_by thread told = filter_map (failed_in thread) told

abbrev pub failed_at : InstructionAt → List Failed
failed_at (at.Handle frame h) = handler_done.failed_now h
failed_at _ = []

abbrev pub failed_now : Instruction → List Failed
failed_now i = failed_by (Some i.request.thread) i.lines.told ++ failed_at i.at

-- the count that is owed
abbrev pub owed_at : InstructionAt → ℕ
owed_at (at.Handle frame h) = handler_done.owed_now h
owed_at _ = 0

abbrev pub owed_now : Instruction → ℕ
owed_now i = owed_at i.at

-- the failures among the entries of a command
abbrev pub failures_by : Who → View → List Failed
failures_by who view = filter_map abandoned.failed_in (deeds who view)

-- they are as they were, or are one more, and what the command has done has grown by that
abbrev pub FailuresGrow : List Failed → List Failed → List Failed → List Failed → Type 0
FailuresGrow old new before after = ((new ≡ old) × (after ≡ before)) ⊎ ((failed : Failed) × (new ≡ old ++ failed ∷ []) × (after ≡ before ++ failed ∷ []))

-- what a step adds to what the view lists of the command, and to what the command has done
pub record Adds (old new : View) (before after : Instruction) : Type 0 where
  pub marked : Grows (λ (m : Mark). m.stamp.who) marking_of old.marks new.marks before.request.who (marked_now before) (marked_now after)
  pub failed : FailuresGrow (failures_by before.request.who old) (failures_by before.request.who new) (failed_now before) (failed_now after)
  pub counted : counts_owed new + owed_now before ≡ counts_owed old + owed_now after
