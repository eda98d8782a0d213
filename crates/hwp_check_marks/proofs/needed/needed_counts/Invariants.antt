use Rattle.std.proofs.Common.{◌≡◌, ℕ, take}
use Rattle.hwp_check_frames.specs.Counts.{at_key}
use Rattle.hwp_check_marks.specs.Needed.{pages_needed}
use Rattle.hwp_check_marks.proofs.needed.needed_counts.Given as goal

abbrev pub invariant-loop-entries : goal.invariant-loop-entries
invariant-loop-entries l = (q : (ℕ × ℕ) × ℕ) → at_key l.counts q ≡ pages_needed q (take l.entries-index l.fn.pages)
