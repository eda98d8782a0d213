-- What a copy keeps of the words that were told, and how it goes on with one more. This project's rule.
use Rattle.std.specs.Prelude.{◌≡◌, ℕ, ◌+◌, ◌*◌, ◌<◌, ◌≤◌, nat_lt, List, [], ◌∷◌, length, slice_index, if◌then◌else◌}
use Rattle.hwp_geom.specs.declared.VSlot.{VSlot}
use Rattle.hwp_geom.specs.Limits.{line_limit}
use Rattle.hwp_fork.specs.declared.cow.Cow.{Cow}
use Rattle.hwp_fork.specs.declared.cow.CowAt.{CowAt}
use Rattle.hwp_fork.specs.declared.cow.CowAt.TheVariants as at
use Rattle.hwp_fork.specs.declared.cow.Sub.{Sub}
use Rattle.hwp_fork.specs.declared.cow.Sub.TheVariants as subs
use Rattle.hwp_fork.specs.Subs.{sub_after}

-- the line of a number is copied, or all are
abbrev pub loading : ℕ → CowAt
loading line = if nat_lt line line_limit then at.Load line else at.Last

-- the copy at its beginning
abbrev pub begin : VSlot → VSlot → ℕ → ℕ → Cow
begin v w line x = record { v = v; w = w; line = line; x = x; at = loading 0 }

-- the access that comes
abbrev pub sub_at : Cow → CowAt → Sub
sub_at c (at.Load line) = subs.Load c.v line
sub_at c (at.Store line word) = subs.Store c.w line word
sub_at c at.Last = subs.Store c.w c.line c.x
sub_at c at.Free = subs.Free c.v
sub_at c at.Switched = subs.Switched

abbrev pub sub_of : Cow → Sub
sub_of c = sub_at c c.at

-- the copy after the access that came, of which this word was told
abbrev pub told_at : CowAt → ℕ → CowAt
told_at (at.Load line) value = at.Store line value
told_at (at.Store line word) value = loading (line + 1)
told_at at.Last value = at.Free
told_at at.Free value = at.Switched
told_at at.Switched value = at.Switched

abbrev pub told_by : Cow → ℕ → Cow
told_by c value = record c { at = told_at c.at value }

-- and after some of them
abbrev pub told_all : Cow → List ℕ → Cow
told_all c [] = c
told_all c (value ∷ values) = told_all (told_by c value) values

-- ---- the words that it was told of its accesses so far, in their order

abbrev pub HasToldAt : List ℕ → CowAt → Type 0
HasToldAt told (at.Load line) = (line < line_limit) × (length told ≡ 2 * line)
HasToldAt told (at.Store line word) = (line < line_limit) × (length told ≡ 2 * line + 1) × (slice_index told (2 * line) ≡ word)
HasToldAt told at.Last = length told ≡ 2 * line_limit
HasToldAt told at.Free = length told ≡ 2 * line_limit + 1
HasToldAt told at.Switched = 2 * line_limit + 2 ≤ length told

abbrev pub HasTold : List ℕ → Cow → Type 0
HasTold told c = HasToldAt told c.at

-- the access that is due behind them
abbrev pub due : Cow → List ℕ → Sub
due c told = sub_after c.v c.w c.line c.x told
