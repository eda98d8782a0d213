use Rattle.hwp_check_rules.specs.ActedOn.{AreActed}
use Rattle.hwp_check_rules.proofs.acted.acting_list.Given as goal

abbrev pub invariant-loop-number : goal.invariant-loop-number
invariant-loop-number l = AreActed l.fn.layout l.fn.pairs l.fn.commands l.number l.list.items
