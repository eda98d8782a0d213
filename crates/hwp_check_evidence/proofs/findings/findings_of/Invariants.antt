use Rattle.std.proofs.Common.{◌≡◌}
use Rattle.hwp_check_evidence.specs.Firsts.{is_named}
use Rattle.hwp_check_evidence.proofs.FindingLaws.{IsFoundUpTo}
use Rattle.hwp_check_evidence.proofs.findings.findings_of.Given as goal
use Rattle.hwp_check_event_line.specs.Reading.{copies_in}

abbrev pub invariant-loop-entries : goal.invariant-loop-entries
invariant-loop-entries l = (l.number ≡ l.entries-index) × IsFoundUpTo l.fn.layout (is_named l.fn.names) (copies_in l.fn.copies) l.fn.cpu l.fn.commands l.fn.pages l.entries-index l.found
