use Rattle.hwp_kill.specs.Kill.{HasNoEarlyBelow}
use Rattle.hwp_kill.proofs.kill.lowest_early.Given as goal

abbrev pub invariant-loop-number : goal.invariant-loop-number
invariant-loop-number l = HasNoEarlyBelow l.layout l.seen l.process (record { 0 = l.number })
