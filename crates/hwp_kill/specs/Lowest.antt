-- The lowest member of a set from a number on.
use Rattle.std.specs.Prelude.{ℕ, ◌<◌, ◌≤◌, IsTrue, IsFalse}
use Rattle.std.specs.Ordering.{nat_cmp}
use Rattle.std.specs.FinSet as set

-- the set has no member from `from` on
abbrev pub HasNoneFrom : set.FinSet nat_cmp → ℕ → Type 0
HasNoneFrom s from = (v : ℕ) → from ≤ v → IsFalse (set.contains s v)

-- `v` is the lowest member from `from` on
pub record IsLowestFrom (s : set.FinSet nat_cmp) (from v : ℕ) : Type 0 where
  pub member : IsTrue (set.contains s v)
  pub not_below : from ≤ v
  pub lowest : (w : ℕ) → from ≤ w → w < v → IsFalse (set.contains s w)
