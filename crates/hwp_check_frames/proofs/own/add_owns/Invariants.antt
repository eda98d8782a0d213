use Rattle.std.proofs.Common.{◌≡◌, ◌+◌, ℕ, take}
use Rattle.hwp_check_frames.specs.Counts.{at_key}
use Rattle.hwp_check_frames.specs.Own.{marks_own}
use Rattle.hwp_check_frames.proofs.own.add_owns.Given as goal

abbrev pub invariant-loop-mark : goal.invariant-loop-mark
invariant-loop-mark l = (q : (ℕ × ℕ) × ℕ) → at_key l.own q ≡ at_key l.fn.own q + marks_own l.fn.frame q (take l.mark-index l.fn.marks)
