use Rattle.std.proofs.Common.{◌≡◌, ℕ}
use Rattle.hwp_check_frames.specs.Given.{given_at, given_below}
use Rattle.hwp_check_frames.proofs.given.given_of.Given as goal

abbrev pub invariant-loop-cpu : goal.invariant-loop-cpu
invariant-loop-cpu l = (q : ℕ × ℕ) → given_at l.given q ≡ given_below l.cpu l.fn.report q
