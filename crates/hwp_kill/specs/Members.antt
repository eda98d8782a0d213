-- The numbers that a row of machine words lists: bit k of word i stands for 64 * i + k.
use Rattle.std.specs.Prelude.{ℕ, suc, zero, ◌≡◌, ◌<◌, ◌≤◌, ◌*◌, ◌/◌, ◌%◌, ◌++◌, ◌==◌, Bool, List, [], ◌∷◌, length, slice_index, filter, replicate}
use Rattle.std.specs.Int.{bit_at}

-- the numbers below n, rising
abbrev pub numbers_below : ℕ → List ℕ
numbers_below zero = []
numbers_below (suc n) = numbers_below n ++ n ∷ []

-- the bit that stands for a number
abbrev pub bit_of : List ℕ → ℕ → Bool
bit_of words v = bit_at (slice_index words (v / 64)) (v % 64) == 1

-- the numbers whose bit is set, rising
abbrev pub members : List ℕ → List ℕ
members words = filter (bit_of words) (numbers_below (64 * length words))

-- the words before this place are empty
abbrev pub AreEmptyBelow : List ℕ → ℕ → Type 0
AreEmptyBelow words first = (i : ℕ) → i < first → slice_index words i ≡ 0

-- the place is one of the row or its end, and the words from there on are empty
pub record EndAt (words : List ℕ) (top : ℕ) : Type 0 where
  pub within : top ≤ length words
  pub empty : (i : ℕ) → top ≤ i → slice_index words i ≡ 0

-- these words, with so many empty ones before them
abbrev pub behind : ℕ → List ℕ → List ℕ
behind first words = replicate first 0 ++ words
