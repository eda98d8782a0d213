use Rattle.std.proofs.Common.{◌≡◌, ◌-◌, drop, length}
use Rattle.hwp_law.specs.Lines.{answers_to}
use Rattle.hwp_check_rules.proofs.pairs.answers_to.Given as goal

abbrev pub invariant-loop-back : goal.invariant-loop-back
invariant-loop-back l = l.answers.items ≡ answers_to l.fn.commands (drop (length l.fn.rows - l.back) l.fn.rows)
