use Rattle.hwp_page.proofs.SetUnion.{Gathered-next, Gathered-all}
use Rattle.hwp_page.proofs.sets.put_all.Goals as goal

pub loop-slot-preserved : goal.loop-slot-preserved
loop-slot-preserved c =
    rw c.insert.ensures (Gathered-next c.in-Some.slot.0 c.loop-slot.invariant c.in-Some.ensures.lowest c.in-Some.ensures.below)

pub returns : goal.returns
returns c = Gathered-all c.loop-slot.invariant c.in_default.ensures.lowest
