-- What a scrub has done so far by the failures of its machine checks: the poisonings that it made, the failures that its entries tell,
-- and the counts that it owes.
use Rattle.std.specs.Prelude.{◌≡◌, ℕ, ◌+◌, List, [], ◌++◌, None, filter_map}
use Rattle.hwp_claim.specs.hwp_core_rule.declared.Mark.{Mark}
use Rattle.hwp_claim.specs.hwp_core_rule.declared.View.{View}
use Rattle.hwp_claim.specs.hwp_claim_act.declared.Failed.{Failed}
use Rattle.hwp_claim.specs.hwp_claim_act.Abandoned.{AddsFailure}
use Rattle.hwp_claim.specs.hwp_claim_frame.Done.{Grows, Marking, counts_owed, marking_of}
use Rattle.hwp_claim.specs.CheckDone as handler_done
use Rattle.hwp_claim.specs.CheckDone.{failed_in, marked_in}
use Rattle.hwp_scrub.specs.declared.scrub.Scrub.{Scrub}
use Rattle.hwp_scrub.specs.declared.scrub.ScrubAt.{ScrubAt}
use Rattle.hwp_scrub.specs.declared.scrub.ScrubAt.TheVariants as at

-- the poisonings of the failures that came to a result, in order
abbrev pub marked_at : ScrubAt → List Marking
marked_at (at.Handle frame h) = handler_done.marked_now h
marked_at _ = []

abbrev pub marked_now : Scrub → List Marking
marked_now s = filter_map marked_in s.lines.told ++ marked_at s.at

-- the failures that entries tell; none is required
abbrev pub failed_at : ScrubAt → List Failed
failed_at (at.Handle frame h) = handler_done.failed_now h
failed_at _ = []

abbrev pub failed_now : Scrub → List Failed
failed_now s = filter_map (failed_in None) s.lines.told ++ failed_at s.at

-- the count that is owed
abbrev pub owed_at : ScrubAt → ℕ
owed_at (at.Handle frame h) = handler_done.owed_now h
owed_at _ = 0

abbrev pub owed_now : Scrub → ℕ
owed_now s = owed_at s.at

-- what a step adds to what the view lists of the command, and to what the command has done
pub record Adds (old new : View) (before after : Scrub) : Type 0 where
  pub marked : Grows (λ (m : Mark). m.stamp.who) marking_of old.marks new.marks before.who (marked_now before) (marked_now after)
  pub failed : AddsFailure before.who old new (failed_now before) (failed_now after)
  pub counted : counts_owed new + owed_now before ≡ counts_owed old + owed_now after
