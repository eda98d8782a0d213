use Rattle.std.proofs.Common.{◌∙◌, sym, arith}
use Rattle.hwp_cpu_row.proofs.DueLaws.{all-notes, check-next, stopped-notes}
use Rattle.hwp_cpu_row.proofs.collect.note.Goals as goal

pub returns-then-stops_machine-clause-noted : goal.returns-then-stops_machine-clause-noted
returns-then-stops_machine-clause-noted c = stopped-notes c.args.layout.now c.args.check.now c.args.collector.now c.args.due.now.items (sym c.if-stops_machine.ensures)

pub returns-clause-noted : goal.returns-clause-noted
returns-clause-noted c =
    let (noted, len, capacity) = c.loop-told.invariant in
    all-notes c.args.layout.now c.args.check.now c.loop-told.told-index _ _ _ _ (sym c.if-stops_machine.ensures) (omega (arith, c.loop-told-test.false)) noted

pub loop-told-preserved : goal.loop-told-preserved
loop-told-preserved c =
    let (noted, len, capacity) = c.loop-told.invariant in
    let more = c.note_event.ensures.len in (
      check-next c.args.layout.now c.args.check.now c.loop-told.told-index _ _ _ _ _ _ _ c.loop-told-test.true noted c.note_event.ensures.noted,
      omega (arith, len, more),
      c.note_event.ensures.capacity ∙ capacity,
    )
