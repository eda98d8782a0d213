use Rattle.std.proofs.Common.{◌-◌, ◌≤◌}
use Rattle.hwp_kill.specs.Members.{EndAt}
use Rattle.hwp_kill.proofs.slots.end_used.Given as goal

abbrev pub invariant-loop-end : goal.invariant-loop-end
invariant-loop-end l = (l.first ≤ l.end) × EndAt l.words l.end

abbrev pub decreases-loop-end : goal.decreases-loop-end
decreases-loop-end l = l.end - l.first
