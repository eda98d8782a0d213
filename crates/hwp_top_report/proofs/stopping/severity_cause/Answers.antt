use Rattle.std.proofs.Common.{◌∙◌, ap, sym}
use Rattle.std.specs.Prelude.{option_map}
use Rattle.hwp_cpu_row.specs.hwp_report_text.Acts.{is_stopping}
use Rattle.hwp_law_served.specs.Runs.{severity_cause}
use Rattle.hwp_top_report.proofs.RowLines.{found-here, found-not}
use Rattle.hwp_top_report.proofs.stopping.severity_cause.Goals as goal

pub returns-then-is_stopping : goal.returns-then-is_stopping
returns-then-is_stopping c = ap (option_map (severity_cause (record { mcg = c.args.mcg; mode = c.args.mode }))) (sym (found-here (λ t. is_stopping t.acted) c.args.told.now c.loop-event.event-index _ c.loop-event-test.true c.loop-event.invariant (sym c.is_stopping.ensures ∙ c.if-is_stopping.true)))

pub loop-event-preserved : goal.loop-event-preserved
loop-event-preserved c = found-not (λ t. is_stopping t.acted) c.args.told.now c.loop-event.event-index _ c.loop-event-test.true c.loop-event.invariant (sym c.is_stopping.ensures ∙ c.if-is_stopping.false)
