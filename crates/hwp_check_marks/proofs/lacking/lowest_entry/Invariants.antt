use Rattle.std.proofs.Common.{◌≡◌, drop}
use Rattle.hwp_check_marks.specs.Lacking.{entry_home, is_lacking, lowest_entry}
use Rattle.hwp_check_marks.proofs.lacking.lowest_entry.Given as goal

abbrev pub invariant-loop-entry : goal.invariant-loop-entry
invariant-loop-entry l =
    lowest_entry (is_lacking l.fn.asked l.fn.had) (entry_home l.fn.script l.fn.report) l.lowest (drop l.entry-index l.fn.entries)
    ≡ lowest_entry (is_lacking l.fn.asked l.fn.had) (entry_home l.fn.script l.fn.report) l.fn.found l.fn.entries
