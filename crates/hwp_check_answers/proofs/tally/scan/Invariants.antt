use Rattle.hwp_check_answers.specs.Tallied.{AreTallied}
use Rattle.hwp_check_answers.proofs.tally.scan.Given as goal

abbrev pub invariant-loop-number : goal.invariant-loop-number
invariant-loop-number l = AreTallied l.fn.dues l.fn.rows l.number l.passed.items l.told.items l.wrong
