-- Words in fields: how a 64-bit word of the shared memory holds several values.
use Rattle.std.specs.Prelude.{ℕ, ◌+◌, ◌*◌, ◌/◌, ◌%◌, ◌^◌, List, [], ◌∷◌}

-- a field of a word: its lowest bit, and how many bits it has
pub record Field : Type 0 where
  pub shift : ℕ
  pub width : ℕ

-- the value of a word in a field
abbrev pub field : Field → ℕ → ℕ
field f w = w / 2 ^ f.shift % 2 ^ f.width

-- bit k of a word
abbrev pub bit : ℕ → Field
bit k = record { shift = k; width = 1 }

-- the word that has these values in these fields, and 0 in all other bits
abbrev pub packed : List Field → List ℕ → ℕ
packed [] xs = 0
packed (f ∷ fs) [] = 0
packed (f ∷ fs) (x ∷ xs) = x * 2 ^ f.shift + packed fs xs
