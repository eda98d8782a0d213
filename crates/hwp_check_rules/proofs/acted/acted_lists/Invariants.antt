use Rattle.hwp_check_rules.specs.ActedOn.{IsActedOn}
use Rattle.hwp_check_rules.proofs.acted.acted_lists.Given as goal

abbrev pub invariant-loop-number : goal.invariant-loop-number
invariant-loop-number l = IsActedOn l.fn.script l.fn.report l.lists l.copies l.number
