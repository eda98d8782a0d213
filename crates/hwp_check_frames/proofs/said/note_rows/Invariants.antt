use Rattle.std.proofs.Common.{ℕ, ◌+◌, ◌≤◌, ◌++◌, List, take}
use Rattle.hwp_check_frames.specs.Counts.{at_key}
use Rattle.hwp_check_frames.specs.Said.{AreNoted, rows_said}
use Rattle.hwp_check_frames.specs.declared.noted.Noted.{Noted}
use Rattle.hwp_check_frames.proofs.said.note_rows.Given as goal

abbrev pub invariant-loop-row : goal.invariant-loop-row
invariant-loop-row l =
    ((f : (ℕ × ℕ) × ℕ → List Noted) → AreNoted f l.fn.said.many l.fn.said.rows → AreNoted (λ q. f q ++ rows_said l.fn.cpu q (take l.row-index l.fn.rows)) l.said.many l.said.rows)
    × ((q : (ℕ × ℕ) × ℕ) → at_key l.said.many q ≤ at_key l.fn.said.many q + l.row-index)
