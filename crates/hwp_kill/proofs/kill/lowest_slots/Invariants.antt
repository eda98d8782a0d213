use Rattle.std.proofs.Common.{◌+◌, ◌-◌}
use Rattle.hwp_kill.specs.Limits.{slot_limit}
use Rattle.hwp_kill.proofs.Tables.{Noted}
use Rattle.hwp_kill.proofs.kill.lowest_slots.Given as goal

abbrev pub invariant-loop-slot : goal.invariant-loop-slot
invariant-loop-slot l = Noted l.layout l.maps l.at.0 l.lowest

abbrev pub decreases-loop-slot : goal.decreases-loop-slot
decreases-loop-slot l = slot_limit + 1 - l.at.0
