use Rattle.std.proofs.Common.{arith, sym}
use Rattle.hwp_cpu_row.specs.Acts.{event_at}
use Rattle.hwp_cpu_row.proofs.DueLaws.{event-counted, noted-within}
use Rattle.hwp_cpu_row.proofs.collect.note_event.Goals as goal

pub returns-in-Counted-clause-noted : goal.returns-in-Counted-clause-noted
returns-in-Counted-clause-noted c =
    let lower = noted-within c.args.layout.now (event_at 0 c.args.told.now) c.in-Some.frame (sym c.in-Some.ensures) in
    let frames = c.requires.frames in
    event-counted c.args.layout.now c.args.told.now c.in-Some.frame c.in-Counted.field-0 c.args.collector.now c.note.new.self c.args.due.now.items (sym c.in-Some.ensures) (omega (arith, lower, frames))
    (record { counts = c.in-Counted.ensures.counts; stands = c.in-Counted.ensures.stands; says = c.in-Counted.ensures.live })
