use Rattle.std.proofs.Common.{◌≡◌, None, drop}
use Rattle.hwp_check_marks.specs.Lacking.{entry_home, is_lacking, lowest_in}
use Rattle.hwp_check_marks.proofs.lacking.lowest_in.Given as goal

abbrev pub invariant-loop-entries : goal.invariant-loop-entries
invariant-loop-entries l =
    lowest_in (is_lacking l.fn.asked l.fn.had) (entry_home l.fn.script l.fn.report) l.lowest (drop l.entries-index l.fn.pages)
    ≡ lowest_in (is_lacking l.fn.asked l.fn.had) (entry_home l.fn.script l.fn.report) None l.fn.pages
