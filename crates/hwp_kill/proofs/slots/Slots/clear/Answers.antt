use Rattle.std.proofs.Common.{arith}
use Rattle.hwp_kill.proofs.Holding.{ClearedTo-next, ClearedTo-all}
use Rattle.hwp_kill.proofs.Search.{none-member}
use Rattle.hwp_kill.proofs.slots.Slots.clear.Goals as goal

pub loop-at-init : goal.loop-at-init
loop-at-init c = rw c.from-at-end.ensures (record { ends = c.self.invariant; below = λ i low. absurd (omega arith) })

pub loop-at-preserved : goal.loop-at-preserved
loop-at-preserved c = ClearedTo-next c.loop-at.self-inside.words _ _ c.loop-at.invariant c.loop-at-test.true

pub invariant_of-self : goal.invariant_of-self
invariant_of-self c = ClearedTo-all _ _ _ c.loop-at.invariant c.loop-at-test.false

pub returns : goal.returns
returns c = none-member _ (ClearedTo-all _ _ _ c.loop-at.invariant c.loop-at-test.false)
