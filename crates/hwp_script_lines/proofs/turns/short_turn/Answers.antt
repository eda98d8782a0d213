use Rattle.std.proofs.Common.{arith}
use Rattle.hwp_script_lines.proofs.ShortTurns.{short_turn}
use Rattle.hwp_script_lines.proofs.turns.short_turn.Goals as goal

pub returns : goal.returns
returns c = short_turn c.args.word.now c.in-Some.cpu c.in-Some-until_of.until (omega (arith, c.in-len1-up.len_at_least)) c.in-Some.ensures c.in-Some-until_of.ensures
