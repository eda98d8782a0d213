use Rattle.std.proofs.Common.{◌≡◌, ◌+◌, ℕ, take}
use Rattle.hwp_check_frames.specs.Counts.{at_key}
use Rattle.hwp_check_marks.specs.Spots.{marks_told}
use Rattle.hwp_check_marks.proofs.spots.add_marks.Given as goal

abbrev pub invariant-loop-mark : goal.invariant-loop-mark
invariant-loop-mark l = (q : (ℕ × ℕ) × ℕ) → at_key l.marks q ≡ at_key l.fn.marks q + marks_told l.fn.lines l.fn.frame q (take l.mark-index l.fn.list)
