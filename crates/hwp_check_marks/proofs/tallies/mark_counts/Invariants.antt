use Rattle.std.proofs.Common.{◌≡◌, ℕ, take}
use Rattle.hwp_check_frames.specs.Counts.{at_key}
use Rattle.hwp_check_marks.specs.Tallies.{frames_raise}
use Rattle.hwp_check_marks.proofs.tallies.mark_counts.Given as goal

abbrev pub invariant-loop-frame : goal.invariant-loop-frame
invariant-loop-frame l = (q : (ℕ × ℕ) × ℕ) → at_key l.counts q ≡ frames_raise q (take l.frame-index l.fn.frames)
