use Rattle.hwp_kill.proofs.Order.{pairs_in_order}
use Rattle.hwp_kill.proofs.PolicyOwners.{granted}
use Rattle.hwp_kill.proofs.reading.stand_in_order.Goals as goal

pub returns : goal.returns
returns c = granted (pairs_in_order c.loop-next.invariant c.loop-next-test.false)
