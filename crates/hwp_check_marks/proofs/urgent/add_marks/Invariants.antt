use Rattle.std.proofs.Common.{◌≡◌, ◌+◌, ◌≤◌, ℕ, drop}
use Rattle.hwp_check_frames.specs.Counts.{at_key}
use Rattle.hwp_check_marks.specs.Needed.{marks_urgent}
use Rattle.hwp_check_marks.proofs.urgent.add_marks.Given as goal

abbrev pub invariant-loop-mark : goal.invariant-loop-mark
invariant-loop-mark l =
    ((q : (ℕ × ℕ) × ℕ) → at_key l.urgent q + marks_urgent l.fn.rows (at_key l.had) l.fn.frame q (drop l.mark-index l.fn.marks) ≡ at_key l.fn.urgent q + marks_urgent l.fn.rows (λ x. 0) l.fn.frame q l.fn.marks)
    × ((q : (ℕ × ℕ) × ℕ) → at_key l.had q ≤ l.mark-index)
