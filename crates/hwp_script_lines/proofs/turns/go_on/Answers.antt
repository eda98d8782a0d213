use Rattle.std.proofs.Common.{refl, arith}
use Rattle.hwp_script_lines.specs.Grammar.{pieces_of}
use Rattle.hwp_script_lines.proofs.LineUnique.{over_turn}
use Rattle.hwp_script_lines.proofs.TurnLaws.{shape-turn_at}
use Rattle.hwp_script_lines.proofs.turns.go_on.Goals as goal

pub returns-else-cpu-from : goal.returns-else-cpu-from
returns-else-cpu-from c =
    over_turn (pieces_of c.args.cpu c.args.until) c.args.cpu c.args.until (omega arith) refl (omega (arith, c.if-cpu-from.false, c.from.ensures))
    (shape-turn_at (pieces_of c.args.cpu c.args.until) c.args.cpu c.args.until refl)
