-- Numbers and register words, as they are written.
use Rattle.std.specs.Prelude.{◌≡◌, ℕ, ◌≤◌, ◌++◌, ◌⊎◌, List, length, codes}
use Rattle.std.specs.Str.Parse.{IsNumeral, digits_value}
use Rattle.hwp_script_words.specs.hwp_geom.Words.{hex}

-- a word is `0x` and 1 to 16 hex digits of either case, which write the number
pub record IsHex (word : List ℕ) (n : ℕ) : Type 0 where
  pub digits : List ℕ
  pub same : word ≡ codes "0x" ++ digits
  pub numeral : IsNumeral 16 digits
  pub short : length digits ≤ 16
  pub value : n ≡ digits_value 16 digits

-- a word is a register word: `0`, or hex digits behind `0x`
abbrev pub IsRegister : List ℕ → ℕ → Type 0
IsRegister word n = ((word ≡ codes "0") × (n ≡ 0)) ⊎ IsHex word n

-- a word is a register word
abbrev pub IsRegisterWord : List ℕ → Type 0
IsRegisterWord word = (n : ℕ) × IsRegister word n

-- the register word that is printed: lower-case digits without leading zeros
abbrev pub register : ℕ → List ℕ
register n = codes "0x" ++ hex n
