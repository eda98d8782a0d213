use Rattle.std.proofs.Common.{[]}
use Rattle.hwp_check_answers.specs.Judged.{AreSuch, IsTold}
use Rattle.hwp_check_answers.specs.Tallied.{due_in}
use Rattle.hwp_check_answers.proofs.faults.first_of_any.Given as goal

abbrev pub invariant-loop-number : goal.invariant-loop-number
invariant-loop-number l = AreSuch (IsTold (due_in []) l.fn.rows) l.fn.commands l.fn.rows l.number
