use Rattle.std.proofs.Common.{map}
use Rattle.hwp_script_lines.proofs.TurnLaws.{AreTurnsSoFar}
use Rattle.hwp_script_lines.proofs.turns.read_schedule.Given as goal

abbrev pub invariant-loop-word : goal.invariant-loop-word
invariant-loop-word l = AreTurnsSoFar (map (λ w. w.now) l.fn.words) l.word-index l.turns.items l.is_bad l.is_over
