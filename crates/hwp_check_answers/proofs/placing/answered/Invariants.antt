use Rattle.hwp_check_answers.proofs.InPlace.{SoFar}
use Rattle.hwp_check_answers.proofs.placing.answered.Given as goal

abbrev pub invariant-loop-row : goal.invariant-loop-row
invariant-loop-row l = SoFar l.fn.commands l.fn.rows l.row-index l.flags.items
