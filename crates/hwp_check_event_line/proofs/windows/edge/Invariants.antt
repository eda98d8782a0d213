use Rattle.std.proofs.Common.{◌≡◌, ◌≤◌, ◌<◌, ◌+◌, ◌-◌, ℕ, Some, length, slice_get}
use Rattle.hwp_check_event_line.proofs.windows.edge.Given as goal

abbrev pub invariant-loop-first : goal.invariant-loop-first
invariant-loop-first l =
    (l.first ≤ l.end)
    × (l.end ≤ length l.fn.list)
    × ((last : ℕ) (number : ℕ) → last + 1 ≡ l.first → slice_get l.fn.list last ≡ Some number → number < l.fn.bound)
    × ((number : ℕ) → slice_get l.fn.list l.end ≡ Some number → l.fn.bound ≤ number)

abbrev pub decreases-loop-first : goal.decreases-loop-first
decreases-loop-first l = l.end - l.first
