use Rattle.hwp_kill.specs.Members.{AreEmptyBelow}
use Rattle.hwp_kill.proofs.slots.first_used.Given as goal

abbrev pub invariant-loop-at : goal.invariant-loop-at
invariant-loop-at l = AreEmptyBelow l.words l.at
