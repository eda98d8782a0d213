-- The first line of a text.
use Rattle.std.specs.Prelude.{◌≡◌, ◌≢◌, ℕ, ◌<◌, List, ◌∷◌, ◌++◌, length, take, slice_index, All}

-- the byte at this place is the first line feed
pub record IsFirstFeed (text : List ℕ) (at : ℕ) : Type 0 where
  pub within : at < length text
  pub none_before : All (λ b. b ≢ 10) (take at text)
  pub feed : slice_index text at ≡ 10

-- the text is this line, a line feed, and this behind it
pub record IsCut (text first behind : List ℕ) : Type 0 where
  pub no_feed : All (λ b. b ≢ 10) first
  pub same : text ≡ first ++ 10 ∷ behind
