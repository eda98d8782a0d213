use Rattle.hwp_top_report.proofs.RowLines.{lines-next}
use Rattle.hwp_top_report.proofs.lines.lines_of.Goals as goal

pub loop-number-preserved : goal.loop-number-preserved
loop-number-preserved c = lines-next c.args.rows.now c.loop-number.number c.index-rows-number.result c.loop-number.lines.items c.add_row.new.lines.items c.loop-number-test.true c.index-rows-number.is c.loop-number.invariant c.in_ok-add_row.ensures
