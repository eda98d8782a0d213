use Rattle.std.proofs.Common.{◌≡◌, ℕ, take}
use Rattle.hwp_check_frames.specs.Counts.{at_key}
use Rattle.hwp_check_marks.specs.Tallies.{pages_raise}
use Rattle.hwp_check_marks.proofs.tallies.entry_counts.Given as goal

abbrev pub invariant-loop-entries : goal.invariant-loop-entries
invariant-loop-entries l = (q : (ℕ × ℕ) × ℕ) → at_key l.counts q ≡ pages_raise q (take l.entries-index l.fn.pages)
