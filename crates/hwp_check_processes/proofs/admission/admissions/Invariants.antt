use Rattle.hwp_check_processes.specs.Admission.{AreAdmissions}
use Rattle.hwp_check_processes.proofs.admission.admissions.Given as goal

abbrev pub invariant-loop-number : goal.invariant-loop-number
invariant-loop-number l = AreAdmissions l.fn.layout l.fn.commands l.fn.pairs l.number l.admits.items
