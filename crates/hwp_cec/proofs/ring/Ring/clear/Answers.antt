use Rattle.std.proofs.Common.{arith}
use Rattle.hwp_cec.proofs.RingLaws.{view-cleared, length-view}
use Rattle.hwp_cec.proofs.ring.Ring.clear.Goals as goal

pub returns : goal.returns
returns c =
    rw (← c.self.view_is, length-view c.self.inside.first c.self.inside.window c.self.inside.counts c.self.invariant.0 (omega (arith, c.self.invariant.1, c.self.told)))
    (view-cleared c.self.inside.first c.self.inside.window 64 c.self.invariant.0 c.self.invariant.1)
