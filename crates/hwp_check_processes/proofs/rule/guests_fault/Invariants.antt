use Rattle.hwp_check_processes.proofs.RuleLaws.{NoneUnder}
use Rattle.hwp_check_processes.proofs.rule.guests_fault.Given as goal

abbrev pub invariant-loop-number : goal.invariant-loop-number
invariant-loop-number l = NoneUnder l.fn.script l.fn.report l.number
