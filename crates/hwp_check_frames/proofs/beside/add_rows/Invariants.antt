use Rattle.std.proofs.Common.{◌≡◌, ◌+◌, ℕ, take}
use Rattle.hwp_check_frames.specs.Beside.{rows_beside}
use Rattle.hwp_check_frames.specs.Counts.{at_key}
use Rattle.hwp_check_frames.proofs.beside.add_rows.Given as goal

abbrev pub invariant-loop-row : goal.invariant-loop-row
invariant-loop-row l = (q : (ℕ × ℕ) × ℕ) → at_key l.lines q ≡ at_key l.fn.lines q + rows_beside l.fn.cpu q (take l.row-index l.fn.rows)
