use Rattle.hwp_check_processes.specs.Judging.{AreRight}
use Rattle.hwp_check_processes.proofs.judging.first_wrong.Given as goal

abbrev pub invariant-loop-number : goal.invariant-loop-number
invariant-loop-number l = AreRight l.fn.layout l.fn.commands l.fn.rows l.fn.admits l.fn.flags l.number
