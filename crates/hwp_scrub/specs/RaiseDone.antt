-- What a command has done so far by the failures of the machine check that it raised: the poisonings that it made, the failures
-- that its entries tell, and the counts that it owes.
use Rattle.std.specs.Prelude.{◌≡◌, ℕ, ◌+◌, List, [], ◌++◌, filter_map}
use Rattle.hwp_cpu_control.specs.hwp_core_rule.declared.Mark.{Mark}
use Rattle.hwp_cpu_control.specs.hwp_core_rule.declared.View.{View}
use Rattle.hwp_claim.specs.hwp_claim_act.declared.Failed.{Failed}
use Rattle.hwp_claim.specs.hwp_claim_act.Abandoned.{AddsFailure}
use Rattle.hwp_claim.specs.hwp_claim_frame.Done.{Grows, Marking, counts_owed, marking_of}
use Rattle.hwp_claim.specs.CheckDone as handler_done
use Rattle.hwp_claim.specs.CheckDone.{failed_in, marked_in}
use Rattle.hwp_scrub.specs.Raises.{thread_of}
use Rattle.hwp_scrub.specs.declared.raise.Raise.{Raise}
use Rattle.hwp_scrub.specs.declared.raise.RaiseAt.{RaiseAt}
use Rattle.hwp_scrub.specs.declared.raise.RaiseAt.TheVariants as at

-- the poisonings of the failures that came to a result, in order
abbrev pub marked_at : RaiseAt → List Marking
marked_at (at.Handle h) = handler_done.marked_now h
marked_at _ = []

abbrev pub marked_now : Raise → List Marking
marked_now r = filter_map marked_in r.lines.told ++ marked_at r.at

-- the failures that entries tell
abbrev pub failed_at : RaiseAt → List Failed
failed_at (at.Handle h) = handler_done.failed_now h
failed_at _ = []

abbrev pub failed_now : Raise → List Failed
failed_now r = filter_map (failed_in (thread_of r.raiser)) r.lines.told ++ failed_at r.at

-- the count that is owed
abbrev pub owed_at : RaiseAt → ℕ
owed_at (at.Handle h) = handler_done.owed_now h
owed_at _ = 0

abbrev pub owed_now : Raise → ℕ
owed_now r = owed_at r.at

-- what a step adds to what the view lists of the command, and to what the command has done
pub record Adds (old new : View) (before after : Raise) : Type 0 where
  pub marked : Grows (λ (m : Mark). m.stamp.who) marking_of old.marks new.marks before.who (marked_now before) (marked_now after)
  pub failed : AddsFailure before.who old new (failed_now before) (failed_now after)
  pub counted : counts_owed new + owed_now before ≡ counts_owed old + owed_now after
