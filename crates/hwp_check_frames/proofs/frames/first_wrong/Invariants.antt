use Rattle.std.proofs.Common.{◌≡◌, ℕ, take}
use Rattle.hwp_check_frames.specs.Counts.{at_key}
use Rattle.hwp_check_frames.specs.MarkScans.{AreRightMarks}
use Rattle.hwp_check_frames.specs.Own.{marks_own}
use Rattle.hwp_check_frames.specs.Softs.{marks_soft}
use Rattle.hwp_check_frames.proofs.frames.first_wrong.Given as goal

abbrev pub invariant-loop-place : goal.invariant-loop-place
invariant-loop-place l =
    AreRightMarks l.fn.script l.fn.report l.fn.kernel l.fn.frame l.fn.marks l.place × ((q : (ℕ × ℕ) × ℕ) → at_key l.had q ≡ marks_own l.fn.frame.0 q (take l.place l.fn.marks))
    × ((q : (ℕ × ℕ) × ℕ) → at_key l.softs q ≡ marks_soft q (take l.place l.fn.marks))
