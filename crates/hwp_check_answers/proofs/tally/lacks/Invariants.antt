use Rattle.std.proofs.Common.{◌≡◌, drop}
use Rattle.hwp_check_answers.specs.Tallied.{lacks_from}
use Rattle.hwp_check_answers.proofs.tally.lacks.Given as goal

abbrev pub invariant-loop-number : goal.invariant-loop-number
invariant-loop-number l = lacks_from l.fn.dues l.fn.told ≡ lacks_from (drop l.number l.fn.dues) (drop l.number l.fn.told)
