use Rattle.hwp_check_processes.specs.Loads.{AreKept}
use Rattle.hwp_check_processes.proofs.loads.first_wrong.Given as goal

abbrev pub invariant-loop-number : goal.invariant-loop-number
invariant-loop-number l = AreKept l.fn.layout l.fn.report l.fn.cpu l.fn.commands l.fn.rows l.fn.pairs l.number
