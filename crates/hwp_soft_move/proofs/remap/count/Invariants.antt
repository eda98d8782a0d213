use Rattle.std.proofs.Common.{◌-◌, ◌+◌}
use Rattle.hwp_claim_frame.specs.hwp_kill.Limits.{slot_limit}
use Rattle.hwp_soft_move.proofs.SetCounts.{Counted}
use Rattle.hwp_soft_move.proofs.remap.count.Given as goal

abbrev pub invariant-loop-slot : goal.invariant-loop-slot
invariant-loop-slot l = Counted l.slots l.count l.at.0

abbrev pub decreases-loop-slot : goal.decreases-loop-slot
decreases-loop-slot l = slot_limit + 1 - l.at.0
