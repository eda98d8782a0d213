use Rattle.std.proofs.Common.{refl, arith}
use Rattle.hwp_cec.proofs.RingLaws.{view-added}
use Rattle.hwp_cec.proofs.ring.Ring.add.Goals as goal

pub returns : goal.returns
returns c =
    rw (c.from.ensures, ← c.self.view_is)
    (view-added c.self.inside.first c.self.inside.window _ c.self.inside.counts c.self.invariant.0 (omega (arith, c.self.invariant.1, c.self.told)) refl)
