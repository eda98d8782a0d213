use Rattle.std.proofs.Common.{◌≡◌, ◌+◌, ◌≤◌, ℕ, drop, take, sum_by}
use Rattle.hwp_check_rules.specs.Standing.{frame_height}
use Rattle.hwp_check_frames.specs.Counts.{at_key}
use Rattle.hwp_check_marks.specs.Spots.{frames_told}
use Rattle.hwp_check_marks.proofs.spots.spots_of.Given as goal

abbrev pub invariant-loop-frame : goal.invariant-loop-frame
invariant-loop-frame l =
    ((q : (ℕ × ℕ) × ℕ) → at_key l.marks q + frames_told l.fn.lines l.frame q (drop l.frame l.fn.frames) ≡ frames_told l.fn.lines 0 q l.fn.frames)
    × ((q : (ℕ × ℕ) × ℕ) → at_key l.marks q ≤ sum_by frame_height (take l.frame l.fn.frames))
