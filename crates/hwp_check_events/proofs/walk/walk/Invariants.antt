use Rattle.hwp_check_event_line.specs.Reading.{copies_in}
use Rattle.hwp_check_events.specs.Cases.{rows_in}
use Rattle.hwp_check_events.proofs.WalkSteps.{SoFar}
use Rattle.hwp_check_events.proofs.walk.walk.Given as goal

abbrev pub invariant-loop-number : goal.invariant-loop-number
invariant-loop-number l =
    SoFar l.fn.processor.script (copies_in l.fn.processor.copies) l.fn.processor.report l.fn.processor.cpu l.fn.processor.commands (rows_in l.fn.processor.report l.fn.processor.cpu) l.number l.raw l.table.items l.found
