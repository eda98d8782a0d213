-- Lines of words: the shape of scripts and reports alike.
use Rattle.std.specs.Prelude.{ℕ, false, List, [], ◌∷◌, ◌++◌, ◌==◌, ◌≢◌, All}
use Rattle.std.specs.List.{slice_split}
use Rattle.std.specs.Fmt.{digits}

-- a word: at least one byte, and neither a space (32) nor a line feed (10)
pub record IsWord (word : List ℕ) : Type 0 where
  pub some : word ≢ []
  pub no_space : All (λ b. b ≢ 32) word
  pub no_feed : All (λ b. b ≢ 10) word

-- the words of a line: at least one, and each is a word
pub record IsLine (words : List (List ℕ)) : Type 0 where
  pub some : words ≢ []
  pub each : All IsWord words

-- the bytes of a line: its words with one space between two, and a line feed
abbrev pub line : List (List ℕ) → List ℕ
line [] = 10 ∷ []
line (w ∷ []) = w ++ 10 ∷ []
line (w ∷ v ∷ ws) = w ++ 32 ∷ line (v ∷ ws)

-- the bytes cut at each line feed
abbrev pub pieces : List ℕ → List (List ℕ)
pieces bytes = slice_split (λ b. b == 10) bytes

-- a line cut at each space
abbrev pub cut : List ℕ → List (List ℕ)
cut bytes = slice_split (λ b. b == 32) bytes

-- a number in lower-case hex, without leading zeros: what `{:x}` prints
abbrev pub hex : ℕ → List ℕ
hex n = digits 16 false n
