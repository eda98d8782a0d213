use Rattle.hwp_soft_move.proofs.SetCounts.{counted-next, counted-all}
use Rattle.hwp_soft_move.proofs.remap.count.Goals as goal

pub loop-slot-preserved : goal.loop-slot-preserved
loop-slot-preserved c = counted-next c.in-Some.slot c.loop-slot.invariant c.in-Some.ensures.lowest c.in-Some.ensures.below

pub returns-clause-members : goal.returns-clause-members
returns-clause-members c = counted-all c.loop-slot.invariant c.in_default.ensures.lowest
