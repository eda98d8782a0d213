-- The bits of a word.
use Rattle.std.specs.Prelude.{◌≡◌, ℕ, ◌<◌, ◌≤◌}
use Rattle.std.specs.Int.{bit_at}

-- no bit of the word is set from bit `from` on
abbrev pub HasNoBitFrom : ℕ → ℕ → Type 0
HasNoBitFrom word from = (i : ℕ) → from ≤ i → bit_at word i ≡ 0

-- bit `k` is the lowest of the word that is set, from bit `from` on
pub record IsLowestBit (word from k : ℕ) : Type 0 where
  pub within : k < 64
  pub is_set : bit_at word k ≡ 1
  pub not_below : from ≤ k
  pub lowest : (i : ℕ) → from ≤ i → i < k → bit_at word i ≡ 0
