-- What a command has done so far in a machine check: the poisonings that it made, the failures that its entries tell, and the
-- counts that it owes.
use Rattle.std.specs.Prelude.{◌≡◌, ℕ, ◌+◌, true, List, [], ◌++◌, Option, Some, None, filter_map, option_map}
use Rattle.hwp_banks.specs.hwp_geom.declared.Thread.{Thread}
use Rattle.hwp_claim_frame.specs.hwp_core_rule.declared.Mark.{Mark}
use Rattle.hwp_claim_frame.specs.hwp_core_rule.declared.View.{View}
use Rattle.hwp_claim_act.specs.declared.Failed.{Failed}
use Rattle.hwp_claim_act.specs.Abandoned.{AddsFailure}
use Rattle.hwp_claim_frame.specs.Done.{Grows, Marking, counts_owed, marking_of, poisoning}
use Rattle.hwp_claim.specs.declared.fail.Found.{Found}
use Rattle.hwp_claim.specs.Done as fail_done
use Rattle.hwp_claim.specs.Done.{entered_by}
use Rattle.hwp_claim.specs.Told.{frame_of, required_by}
use Rattle.hwp_claim.specs.declared.handler.Handler.{Handler}
use Rattle.hwp_claim.specs.declared.handler.HandlerAt.{HandlerAt}
use Rattle.hwp_claim.specs.declared.handler.HandlerAt.TheVariants as at
use Rattle.hwp_claim.specs.declared.told.EventOutcome.{EventOutcome}

-- the poisonings of the failures that came to a result, in order, and of the one that goes on
abbrev pub marked_in : EventOutcome → Option Marking
marked_in t = option_map (λ (found : Found). poisoning (frame_of t.held) true found.cycle) t.found

abbrev pub marked_at : HandlerAt → List Marking
marked_at (at.Fail f) = fail_done.marked_at f.frame true f.at
marked_at _ = []

abbrev pub marked_now : Handler → List Marking
marked_now h = filter_map marked_in h.events.told ++ marked_at h.at

-- the failures that entries tell
abbrev pub failed_by : Option Thread → Option Found → Option Failed
failed_by required None = None
failed_by required (Some found) = entered_by required found found.at

abbrev pub failed_in : Option Thread → EventOutcome → Option Failed
failed_in thread t = failed_by (required_by thread t.held.grade.severity) t.found

abbrev pub failed_at : HandlerAt → List Failed
failed_at (at.Fail f) = fail_done.failed_at f.required f.at
failed_at _ = []

abbrev pub failed_now : Handler → List Failed
failed_now h = filter_map (failed_in h.thread) h.events.told ++ failed_at h.at

-- the count that is owed of the failure that goes on
abbrev pub owed_at : HandlerAt → ℕ
owed_at (at.Fail f) = fail_done.owed_at f.at
owed_at _ = 0

abbrev pub owed_now : Handler → ℕ
owed_now h = owed_at h.at

-- what a step adds to what the view lists of the command, and to what the machine check has done
pub record Adds (old new : View) (before after : Handler) : Type 0 where
  pub marked : Grows (λ (m : Mark). m.stamp.who) marking_of old.marks new.marks before.who (marked_now before) (marked_now after)
  pub failed : AddsFailure before.who old new (failed_now before) (failed_now after)
  pub counted : counts_owed new + owed_now before ≡ counts_owed old + owed_now after
