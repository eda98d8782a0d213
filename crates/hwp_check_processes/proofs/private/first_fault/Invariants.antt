use Rattle.hwp_check_processes.proofs.PrivateLaws.{KeptUnder}
use Rattle.hwp_check_processes.proofs.private.first_fault.Given as goal

abbrev pub invariant-loop-number : goal.invariant-loop-number
invariant-loop-number l = KeptUnder l.fn.script l.fn.report l.number
