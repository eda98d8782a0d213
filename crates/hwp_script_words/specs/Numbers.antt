-- Numbers, as they are written.
use Rattle.std.specs.Prelude.{◌≡◌, ℕ, ◌^◌, ◌<◌, List, decimal}

-- a word is a number: decimal digits without leading zeros, below 2 ^ 64
pub record IsNumber (word : List ℕ) (n : ℕ) : Type 0 where
  pub fits : n < 2 ^ 64
  pub digits : word ≡ decimal n

-- a word is a number
abbrev pub IsNumberWord : List ℕ → Type 0
IsNumberWord word = (n : ℕ) × IsNumber word n
