use Rattle.std.proofs.Common.{◌≡◌, ℕ, take}
use Rattle.hwp_check_frames.specs.Given.{given_at, rows_given}
use Rattle.hwp_check_frames.proofs.given.give_rows.Given as goal

abbrev pub invariant-loop-row : goal.invariant-loop-row
invariant-loop-row l = (q : ℕ × ℕ) → given_at l.given q ≡ rows_given l.fn.cpu q (given_at l.fn.given q) (take l.row-index l.fn.rows)
