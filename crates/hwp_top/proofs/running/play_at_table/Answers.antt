use Rattle.hwp_top.proofs.Tabled.{table-played}
use Rattle.hwp_top.proofs.running.play_at_table.Goals as goal

pub returns-clause-played : goal.returns-clause-played
returns-clause-played g c = table-played g.W.Ways.ways c.args.script.now c.in-Ok.ended c.in_ok-pass.rows c.in_ok-pass.pass.me.0.known c.in_ok-pass.ensures.knows c.in-Ok.ensures.layout c.in-Ok.ensures.known c.reached.ensures
