use Rattle.std.proofs.Common.{◌≡◌, ℕ, take}
use Rattle.hwp_check_event_line.specs.Results.{has_key, marks_kept}
use Rattle.hwp_check_event_line.proofs.results.add_marks.Given as goal

abbrev pub invariant-loop-mark : goal.invariant-loop-mark
invariant-loop-mark l = (q : (ℕ × ℕ) × ℕ) → has_key l.keys q ≡ marks_kept l.fn.cpu l.fn.frame q (has_key l.fn.keys q) (take l.mark-index l.fn.marks)
