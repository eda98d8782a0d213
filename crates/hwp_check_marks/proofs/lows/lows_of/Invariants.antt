use Rattle.std.proofs.Common.{◌≡◌, ℕ}
use Rattle.hwp_check_marks.specs.Lows.{low_at, lows_below}
use Rattle.hwp_check_marks.proofs.lows.lows_of.Given as goal

abbrev pub invariant-loop-cpu : goal.invariant-loop-cpu
invariant-loop-cpu l = (q : ℕ × ℕ) → low_at l.lows q ≡ lows_below l.fn.soft l.cpu l.fn.report q
