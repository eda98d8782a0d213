use Rattle.std.proofs.Common.{map}
use Rattle.hwp_script_lines.proofs.LineLaws.{AreLinesSoFar}
use Rattle.hwp_script_lines.proofs.lines.read_lines.Given as goal

abbrev pub invariant-loop-at : goal.invariant-loop-at
invariant-loop-at l = AreLinesSoFar (map (λ p. p.now) l.piece-items) l.at l.lines.items
