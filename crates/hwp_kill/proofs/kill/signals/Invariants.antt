use Rattle.hwp_kill.proofs.Tables.{DueBelow}
use Rattle.hwp_kill.proofs.kill.signals.Given as goal

abbrev pub invariant-loop-number : goal.invariant-loop-number
invariant-loop-number l = DueBelow l.layout l.maps l.always l.current l.seen l.number l.out
