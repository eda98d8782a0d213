use Rattle.std.proofs.Common.{◌+◌, ◌-◌}
use Rattle.hwp_kill.specs.Limits.{slot_limit}
use Rattle.hwp_page.proofs.SetUnion.{Gathered}
use Rattle.hwp_page.proofs.sets.put_all.Given as goal

abbrev pub invariant-loop-slot : goal.invariant-loop-slot
invariant-loop-slot l = Gathered l.fn.into l.slots l.into l.at.0

abbrev pub decreases-loop-slot : goal.decreases-loop-slot
decreases-loop-slot l = slot_limit + 1 - l.at.0
