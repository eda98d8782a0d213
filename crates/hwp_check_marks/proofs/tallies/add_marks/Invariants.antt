use Rattle.std.proofs.Common.{◌≡◌, ◌+◌, ℕ, take}
use Rattle.hwp_check_frames.specs.Counts.{at_key}
use Rattle.hwp_check_marks.specs.Tallies.{marks_raise}
use Rattle.hwp_check_marks.proofs.tallies.add_marks.Given as goal

abbrev pub invariant-loop-mark : goal.invariant-loop-mark
invariant-loop-mark l = (q : (ℕ × ℕ) × ℕ) → at_key l.counts q ≡ at_key l.fn.counts q + marks_raise q (take l.mark-index l.fn.marks)
