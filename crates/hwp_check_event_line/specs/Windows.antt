-- Between which marks of a record a command can have run.
use Rattle.std.specs.Prelude.{◌≡◌, ℕ, ◌+◌, ◌-◌, ◌<◌, ◌≤◌, nat_lt, nat_le, ◌&&◌, ◌||◌, not, Bool, true, false, List, Some, drop, length, take, slice_get}
use Rattle.hwp_law.specs.hwp_report_text.declared.MarkLine.{MarkLine}
use Rattle.hwp_law.specs.Records.{ends_poisoned}
use Rattle.hwp_check_event_line.specs.Nears.{run}

-- a place in a rising list: the number before it is below the bound, and the one at it is not
pub record IsEdge (list : List ℕ) (bound : ℕ) (place : ℕ) : Type 0 where
  pub within : place ≤ length list
  pub before : (last : ℕ) (number : ℕ) → last + 1 ≡ place → slice_get list last ≡ Some number → number < bound
  pub behind : (number : ℕ) → slice_get list place ≡ Some number → bound ≤ number

-- the two are the same
abbrev pub same : Bool → Bool → Bool
same true b = b
same false b = not b

-- behind some number of marks from the first to the last one the record ends so
abbrev pub may_end : List MarkLine → ℕ → ℕ → Bool → Bool
may_end list first last poisoned =
    nat_le first last && (same poisoned (ends_poisoned (take first list)) || nat_lt (run (ends_poisoned (take first list)) (drop first list)) (last - first))
