use Rattle.std.proofs.Common.{◌≡◌, ◌++◌, map}
use Rattle.hwp_core_rule.specs.Opening.{below, opening_free}
use Rattle.hwp_plain.proofs.words.add_frees.Given as goal

abbrev pub invariant-loop-number : goal.invariant-loop-number
invariant-loop-number l = l.words.items ≡ l.fn.words.items ++ map (opening_free l.fn.layout) (below l.number)
