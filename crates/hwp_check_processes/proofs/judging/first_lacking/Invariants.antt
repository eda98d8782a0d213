use Rattle.hwp_check_processes.specs.Judging.{AreEnough}
use Rattle.hwp_check_processes.proofs.judging.first_lacking.Given as goal

abbrev pub invariant-loop-number : goal.invariant-loop-number
invariant-loop-number l = AreEnough l.fn.layout l.fn.commands l.fn.rows l.number
