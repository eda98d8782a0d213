use Rattle.hwp_kill.proofs.Holding.{ClearedTo}
use Rattle.hwp_kill.proofs.slots.Slots.clear.Given as goal

abbrev pub invariant-loop-at : goal.invariant-loop-at
invariant-loop-at l = ClearedTo l.self-inside.words l.at-end l.at
