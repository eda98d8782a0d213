use Rattle.std.proofs.Common.{◌≡◌, ℕ}
use Rattle.hwp_check_event_line.specs.Results.{has_key, kept_below}
use Rattle.hwp_check_event_line.proofs.results.results_of.Given as goal

abbrev pub invariant-loop-frame : goal.invariant-loop-frame
invariant-loop-frame l = (q : (ℕ × ℕ) × ℕ) → has_key l.keys q ≡ kept_below l.frame l.fn.cpu l.fn.frames q
