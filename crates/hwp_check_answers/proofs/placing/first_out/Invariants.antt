use Rattle.std.proofs.Common.{◌≡◌, ◌≤◌, count_by, take}
use Rattle.hwp_check_rules.specs.Answered.{is_answer}
use Rattle.hwp_check_answers.specs.Placing.{FirstInPlace}
use Rattle.hwp_check_answers.proofs.placing.first_out.Given as goal

abbrev pub invariant-loop-number : goal.invariant-loop-number
invariant-loop-number l = (l.answered ≡ count_by is_answer (take l.number l.fn.rows)) × (l.answered ≤ l.number) × FirstInPlace l.fn.commands l.fn.rows l.number
