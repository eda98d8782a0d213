use Rattle.hwp_kill.proofs.Order.{InOrderTo}
use Rattle.hwp_kill.proofs.reading.stand_in_order.Given as goal

abbrev pub invariant-loop-next : goal.invariant-loop-next
invariant-loop-next l = InOrderTo l.layout l.seen l.next
