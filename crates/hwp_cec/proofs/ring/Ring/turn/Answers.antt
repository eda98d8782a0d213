use Rattle.std.proofs.Common.{arith}
use Rattle.hwp_cec.proofs.RingLaws.{view-back, view-round}
use Rattle.hwp_cec.proofs.ring.Ring.turn.Goals as goal
use Rattle.hwp_cec.proofs.ring.Ring.turn.Goals.{then-self-eq0, else-self-eq0}

pub returns : goal.returns
returns c =
    rw (c.from.ensures, ← c.self.view_is)
    (elim c.if-self-eq0.branch [
      | then-self-eq0 w ↦ view-round _ c.self.inside.first _ c.self.inside.counts w.if-self-eq0.true (omega (arith, w.behind-is, c.self.invariant)) (omega (arith, c.self.invariant, c.self.told))
      | else-self-eq0 w ↦ view-back _ c.self.inside.first _ c.self.inside.counts (omega (arith, w.behind-is, w.if-self-eq0.false)) c.self.invariant.0 (omega (arith, c.self.invariant, c.self.told))
    ])
