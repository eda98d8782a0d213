use Rattle.std.proofs.Common.{◌≡◌, ◌+◌, ℕ, take}
use Rattle.hwp_check_frames.specs.Counts.{at_key}
use Rattle.hwp_check_marks.specs.Needed.{page_needed}
use Rattle.hwp_check_marks.proofs.needed.add_page.Given as goal

abbrev pub invariant-loop-entry : goal.invariant-loop-entry
invariant-loop-entry l = (q : (ℕ × ℕ) × ℕ) → at_key l.counts q ≡ at_key l.fn.counts q + page_needed q (take l.entry-index l.fn.entries)
