use Rattle.std.proofs.Common.{◌∙◌, ap}
use Rattle.hwp_law_served.specs.Rows.{notes_from}
use Rattle.hwp_top_report.proofs.RowLines.{lists-next}
use Rattle.hwp_top_report.proofs.notes.all_notes.Goals as goal

pub loop-cpu-preserved : goal.loop-cpu-preserved
loop-cpu-preserved c =
    lists-next c.args.rows.now c.loop-cpu.cpu c.index-rows-cpu.result c.loop-cpu.notes.items c.push.new.self.items c.in_ok-notes_from.field-0 c.loop-cpu-test.true c.index-rows-cpu.is c.loop-cpu.invariant
    (c.in_ok-notes_from.ensures ∙ ap (notes_from (record { 0 = c.loop-cpu.cpu }) 0) c.as_slice.ensures) c.in_ok-push.ensures.items
