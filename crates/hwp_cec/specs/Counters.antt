-- What a collector keeps of the events: a count for each frame and each round of the window. This project's rule.
use Rattle.std.specs.Prelude.{◌≡◌, ℕ, ◌+◌, ◌<◌, ◌≤◌, ◌==◌, List, [], ◌∷◌, All, length, map, sum, take, replicate, count_by, slice_index, slice_index_or, slice_set, if◌then◌else◌}
use Rattle.hwp_cec.specs.declared.collector.Noted.{Noted}
use Rattle.hwp_cec.specs.declared.collector.Noted.TheVariants.{Counted, Offline}
use Rattle.hwp_cec.specs.Limits.{threshold_limit, window_limit}
use Rattle.hwp_cec.specs.Ages.{CecEvent, ages_after}

-- the threshold, the rounds of the window, and of each frame the notes of each round: the current one's first, then those of the round
-- before it, and so on
pub record Counters : Type 0 where
  pub threshold : ℕ
  pub window : ℕ
  pub counts : List (List ℕ)

-- the counts of a frame
abbrev pub row_of : Counters → ℕ → List ℕ
row_of c frame = slice_index_or c.counts frame []

-- the count of a frame's notes in the k-th last round, where the current one is the 0-th last
abbrev pub counter : Counters → ℕ → ℕ → ℕ
counter c frame k = slice_index (row_of c frame) k

-- the counters stand for these events: each has the number of the frame's notes of that age
pub record StandsFor (events : List CecEvent) (c : Counters) : Type 0 where
  pub each : (frame k : ℕ) → frame < length c.counts → k < c.window → counter c frame k ≡ count_by (λ age. age == k) (ages_after c.threshold c.window frame [] events)

-- counters without a note
abbrev pub begun : ℕ → ℕ → ℕ → Counters
begun threshold window frames = record { threshold = threshold; window = window; counts = replicate frames (replicate window 0) }

-- a frame's counts after a note of it
abbrev pub noted_row : ℕ → List ℕ → List ℕ
noted_row threshold cells = if sum cells + 1 == threshold then replicate (length cells) 0 else slice_set cells 0 (slice_index cells 0 + 1)

-- the counters after a note of a frame
abbrev pub noted_in : Counters → ℕ → Counters
noted_in c frame = record c { counts = slice_set c.counts frame (noted_row c.threshold (row_of c frame)) }

-- a frame's counts after a round: none in the new one, and the last is forgotten
abbrev pub next_row : List ℕ → List ℕ
next_row cells = take (length cells) (0 ∷ cells)

-- the counters after a round
abbrev pub rounded : Counters → Counters
rounded c = record c { counts = map next_row c.counts }

-- the answer to a note with which so many are in the window
abbrev pub answer : ℕ → ℕ → Noted
answer threshold count = if count == threshold then Offline else Counted count

-- a frame's counts: one for each round, and together below the threshold
pub record IsRow (threshold window : ℕ) (cells : List ℕ) : Type 0 where
  pub whole : length cells ≡ window
  pub below : sum cells < threshold

-- what is so of the counters at any time
pub record IsCounted (c : Counters) : Type 0 where
  pub low : c.threshold ≤ threshold_limit
  pub some_rounds : 1 ≤ c.window
  pub rounds_within : c.window ≤ window_limit
  pub rows : All (IsRow c.threshold c.window) c.counts
