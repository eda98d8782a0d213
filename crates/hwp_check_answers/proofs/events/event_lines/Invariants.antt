use Rattle.std.proofs.Common.{◌≡◌}
use Rattle.hwp_check_rules.specs.Standing.{cpu_line}
use Rattle.hwp_check_answers.proofs.Reports.{LegalBelow}
use Rattle.hwp_check_answers.proofs.events.event_lines.Given as goal
use Rattle.hwp_check_rules.specs.hwp_check_event_line.Reading.{copies_in}

abbrev pub invariant-loop-cpu : goal.invariant-loop-cpu
invariant-loop-cpu l = (l.line ≡ cpu_line l.fn.report l.cpu) × LegalBelow l.fn.script (copies_in l.fn.copies) l.fn.report l.cpu
