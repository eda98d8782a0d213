use Rattle.std.proofs.Common.{map}
use Rattle.hwp_script_lines.proofs.NumberLaws.{AreNumbersSoFar}
use Rattle.hwp_script_lines.proofs.numbers.read_numbers.Given as goal

abbrev pub invariant-loop-at : goal.invariant-loop-at
invariant-loop-at l = AreNumbersSoFar (map (λ w. w.now) l.fn.words) l.at l.numbers
