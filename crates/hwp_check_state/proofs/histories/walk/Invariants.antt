use Rattle.hwp_check_state.proofs.WalkLaws.{Walked}
use Rattle.hwp_check_state.proofs.histories.walk.Given as goal
use Rattle.hwp_check_rules.specs.hwp_check_event_line.Reading.{copies_in}

abbrev pub invariant-loop-entry : goal.invariant-loop-entry
invariant-loop-entry l = Walked l.script (copies_in l.fn.copies) l.page l.entries l.heading l.entry-index l.state l.lasts l.line
