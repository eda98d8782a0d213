-- The first line of which something is true.
use Rattle.std.specs.Prelude.{ℕ, ◌≤◌, min, Bool, cond, Option, Some, None}

-- it is true of the line, and of none before
pub record IsLeast (P : ℕ → Type 0) (line : ℕ) : Type 0 where
  pub at : P line
  pub first : (other : ℕ) → P other → line ≤ other

-- a rule is broken, first by this line
pub record IsFirstFault (Kept : Type 0) (IsWrong : ℕ → Type 0) (line : ℕ) : Type 0 where
  pub broken : Kept → ⊥
  pub at : IsWrong line
  pub first : (other : ℕ) → IsWrong other → line ≤ other

-- nothing breaks a rule, and it holds
pub record IsClear (Fits : Type 0) (IsFault : ℕ → Type 0) : Type 0 where
  pub fits : Fits
  pub none : (line : ℕ) → IsFault line → ⊥

-- the lower of a line that was found so far, if one was, and one more
abbrev pub sooner : Option ℕ → ℕ → Option ℕ
sooner None line = Some line
sooner (Some found) line = Some (min found line)

-- the lower of two lines, where there are any
abbrev pub soonest : Option ℕ → Option ℕ → Option ℕ
soonest found None = found
soonest found (Some line) = sooner found line

-- the same, with the one more only where it counts
abbrev pub sooner_if : Bool → Option ℕ → ℕ → Option ℕ
sooner_if counts found line = cond counts (sooner found line) found
