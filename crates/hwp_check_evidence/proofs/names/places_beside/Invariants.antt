use Rattle.std.proofs.Common.{◌≡◌, ℕ, take}
use Rattle.hwp_check_evidence.specs.Firsts.{noted_at, rows_noted}
use Rattle.hwp_check_evidence.proofs.names.places_beside.Given as goal

abbrev pub invariant-loop-row : goal.invariant-loop-row
invariant-loop-row l = (q : (ℕ × ℕ) × ℕ) → noted_at l.beside q ≡ rows_noted q (take l.row-index l.fn.rows)
