use Rattle.std.proofs.Common.{◌≡◌, ℕ, take}
use Rattle.hwp_check_marks.specs.Lows.{low_at, rows_low}
use Rattle.hwp_check_marks.proofs.lows.lower_rows.Given as goal

abbrev pub invariant-loop-row : goal.invariant-loop-row
invariant-loop-row l = (q : ℕ × ℕ) → low_at l.lows q ≡ rows_low l.fn.soft l.fn.cpu q (low_at l.fn.lows q) (take l.row-index l.fn.rows)
