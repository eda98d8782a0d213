use Rattle.std.proofs.Common.{◌≡◌, drop, fold}
use Rattle.hwp_check_evidence.specs.Firsts.{is_named}
use Rattle.hwp_check_evidence.specs.Ends.{any_ended, own_page_ends}
use Rattle.hwp_check_evidence.specs.Named.{flagged_page}
use Rattle.hwp_check_evidence.proofs.findings.note_page.Given as goal
use Rattle.hwp_check_event_line.specs.Reading.{copies_in}

abbrev pub invariant-loop-entry : goal.invariant-loop-entry
invariant-loop-entry l =
    (l.number ≡ l.entry-index)
    × (fold (any_ended l.fn.layout l.fn.cpu) l.ends.items (drop l.entry-index l.fn.entries) ≡ fold (any_ended l.fn.layout l.fn.cpu) l.fn.ends.items l.fn.entries)
    × (own_page_ends l.fn.layout l.fn.cpu l.ended.items (drop l.entry-index l.fn.entries) ≡ own_page_ends l.fn.layout l.fn.cpu l.fn.ended.items l.fn.entries)
    × (flagged_page (is_named l.fn.names) (copies_in l.fn.copies) l.fn.cpu l.fn.page l.others.items l.number (drop l.entry-index l.fn.entries) ≡ flagged_page (is_named l.fn.names) (copies_in l.fn.copies) l.fn.cpu l.fn.page l.fn.others.items 0 l.fn.entries)
