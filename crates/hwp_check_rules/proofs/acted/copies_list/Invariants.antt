use Rattle.hwp_check_rules.specs.ActedOn.{AreCopied}
use Rattle.hwp_check_rules.proofs.acted.copies_list.Given as goal

abbrev pub invariant-loop-number : goal.invariant-loop-number
invariant-loop-number l = AreCopied l.fn.layout l.fn.pairs l.fn.commands l.number l.list.items
