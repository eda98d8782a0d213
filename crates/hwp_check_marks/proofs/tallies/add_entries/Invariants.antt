use Rattle.std.proofs.Common.{◌≡◌, ◌+◌, ℕ, take}
use Rattle.hwp_check_frames.specs.Counts.{at_key}
use Rattle.hwp_check_marks.specs.Tallies.{page_raise}
use Rattle.hwp_check_marks.proofs.tallies.add_entries.Given as goal

abbrev pub invariant-loop-entry : goal.invariant-loop-entry
invariant-loop-entry l = (q : (ℕ × ℕ) × ℕ) → at_key l.counts q ≡ at_key l.fn.counts q + page_raise q (take l.entry-index l.fn.entries)
