-- A list of items in which one that stands again behind itself is held once.
use Rattle.std.specs.Prelude.{ℕ, ◌<◌, List, length, slice_get}
use Rattle.std.specs.List.{All, filter_map}

-- the items at all places
abbrev pub shown : {T : Type 0} → List T → List ℕ → List T
shown held which = filter_map (slice_get held) which

-- each place has one of those that are held
abbrev pub AreHeld : {T : Type 0} → List T → List ℕ → Type 0
AreHeld held which = All (λ (n : ℕ). n < length held) which
