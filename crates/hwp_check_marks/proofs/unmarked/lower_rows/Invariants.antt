use Rattle.std.proofs.Common.{◌≡◌, drop}
use Rattle.hwp_check_marks.specs.Unmarked.{is_unmarked, lowest_row}
use Rattle.hwp_check_marks.proofs.unmarked.lower_rows.Given as goal

abbrev pub invariant-loop-row : goal.invariant-loop-row
invariant-loop-row l =
    lowest_row (is_unmarked l.fn.script l.fn.report l.fn.marks l.fn.cpu) l.lowest (drop l.row-index l.fn.rows)
    ≡ lowest_row (is_unmarked l.fn.script l.fn.report l.fn.marks l.fn.cpu) l.fn.found l.fn.rows
