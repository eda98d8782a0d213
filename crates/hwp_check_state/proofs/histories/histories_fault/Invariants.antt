use Rattle.hwp_check_state.proofs.HistoryWrongs.{Come}
use Rattle.hwp_check_state.proofs.histories.histories_fault.Given as goal
use Rattle.hwp_check_rules.specs.hwp_check_event_line.Reading.{copies_in}

abbrev pub invariant-loop-number : goal.invariant-loop-number
invariant-loop-number l = Come l.script (copies_in l.fn.copies) l.report l.number l.line
