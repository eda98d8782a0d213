use Rattle.std.proofs.Common.{Some, ◌∙◌, ap, sym}
use Rattle.std.specs.Prelude.{option_map}
use Rattle.hwp_cpu_row.specs.hwp_report_text.declared.StopCause.TheVariants as causes
use Rattle.hwp_cpu_row.specs.hwp_report_text.Acts.{is_panic}
use Rattle.hwp_law_served.specs.Runs.{panic_cause}
use Rattle.hwp_top_report.specs.Closing.{IsNamed}
use Rattle.hwp_top_report.proofs.RowLines.{each-at, found-here, found-not}
use Rattle.hwp_top_report.proofs.stopping.panic_cause.Goals as goal

pub frame_of-requires : goal.frame_of-requires
frame_of-requires c = record { small = (each-at IsNamed c.args.told.now c.loop-event.event-index _ c.requires.named c.loop-event-test.true).panic (sym c.is_panic.ensures ∙ c.if-is_panic.true) }

pub returns-then-is_panic : goal.returns-then-is_panic
returns-then-is_panic c = ap (λ f. Some (causes.Panic f)) c.frame_of.ensures
    ∙ ap (option_map panic_cause) (sym (found-here (λ t. is_panic t.acted) c.args.told.now c.loop-event.event-index _ c.loop-event-test.true c.loop-event.invariant (sym c.is_panic.ensures ∙ c.if-is_panic.true)))

pub loop-event-preserved : goal.loop-event-preserved
loop-event-preserved c = found-not (λ t. is_panic t.acted) c.args.told.now c.loop-event.event-index _ c.loop-event-test.true c.loop-event.invariant (sym c.is_panic.ensures ∙ c.if-is_panic.false)
