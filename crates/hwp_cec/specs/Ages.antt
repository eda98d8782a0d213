-- The notes of a frame by their ages, and when there are so many that the frame is taken out of use. This project's rule.
use Rattle.std.specs.Prelude.{ℕ, ◌+◌, ◌==◌, nat_lt, List, [], ◌∷◌, ◌++◌, map, count_by, if◌then◌else◌}
use Rattle.hwp_geom.specs.declared.Frame.{Frame}

-- what a collector is told: a frame had a corrected error, or a round has ended
pub data CecEvent : Type 0 where
  Note : Frame → CecEvent
  Round : CecEvent

-- a note's age is the number of rounds that have ended since. How many notes are in the window: the current round and those before it
abbrev pub young : ℕ → List ℕ → ℕ
young window ages = count_by (λ age. nat_lt age window) ages

-- the ages with one more note. If that is the one that brings the notes in the window to the threshold, it is offlining: the frame is
-- taken out of use, and its notes are forgotten
abbrev pub aged : ℕ → ℕ → List ℕ → List ℕ
aged threshold window ages = if young window ages + 1 == threshold then [] else ages ++ 0 ∷ []

-- the ages of a frame's notes since its last offlining one, after these events
abbrev pub ages_after : ℕ → ℕ → ℕ → List ℕ → List CecEvent → List ℕ
ages_after threshold window frame ages [] = ages
ages_after threshold window frame ages (Round ∷ events) = ages_after threshold window frame (map (λ age. age + 1) ages) events
ages_after threshold window frame ages (Note noted ∷ events) =
    ages_after threshold window frame (if noted.0 == frame then aged threshold window ages else ages) events

-- how many notes of the frame are in the window, with the one that comes after these events
abbrev pub live : ℕ → ℕ → List CecEvent → ℕ → ℕ
live threshold window events frame = young window (ages_after threshold window frame [] events) + 1
