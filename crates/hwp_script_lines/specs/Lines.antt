-- The lines of a text: which are skipped, what numbers and words the others have, and what they are read as.
use Rattle.std.specs.Prelude.{◌≡◌, ℕ, Bool, false, if◌then◌else◌, ◌==◌, ◌||◌, ◌+◌, ◌++◌, List, [], ◌∷◌, length}
use Rattle.hwp_script_words.specs.hwp_geom.Words.{pieces}
use Rattle.hwp_script_words.specs.hwp_geom.Pairs.{Pairs}
use Rattle.hwp_script_words.specs.Words.{words_of}
use Rattle.hwp_script_lines.specs.Grammar.{IsForm, IsUnknown, IsBadNumber, IsOverLimit}
use Rattle.hwp_script_lines.specs.declared.script_line.LineRead.{LineRead}
use Rattle.hwp_script_lines.specs.declared.script_line.Numbered.{Numbered}
use Rattle.hwp_script_lines.specs.declared.script_line.LineRead.TheVariants as reads

-- a line that begins with `#` is a comment
abbrev pub is_comment : List ℕ → Bool
is_comment [] = false
is_comment (b ∷ bs) = b == 35

-- comments and lines without words are skipped
abbrev pub is_skipped : List ℕ → Bool
is_skipped bytes = is_comment bytes || (length (words_of bytes) == 0)

-- the lines that are not skipped, each with its number and its words; the first has this number
abbrev pub numbered_from : ℕ → List (List ℕ) → List (ℕ × List (List ℕ))
numbered_from n [] = []
numbered_from n (bytes ∷ more) = (if is_skipped bytes then [] else (n, words_of bytes) ∷ []) ++ numbered_from (n + 1) more

-- the lines of a text, counted from 1
abbrev pub numbered_lines : List ℕ → List (ℕ × List (List ℕ))
numbered_lines bytes = numbered_from 1 (pieces bytes)

-- the words are read as this
abbrev pub IsRead : List (List ℕ) → LineRead → Type 0
IsRead ws (reads.ScriptLine f) = IsForm ws f
IsRead ws reads.Unknown = IsUnknown ws
IsRead ws (reads.BadNumber newer) = IsBadNumber ws newer
IsRead ws (reads.OverLimit newer) = IsOverLimit ws newer

-- a line has this number and is read as this
pub record IsNumbered (line : ℕ × List (List ℕ)) (numbered : Numbered) : Type 0 where
  pub number : line.0 ≡ numbered.line
  pub read : IsRead line.1 numbered.read

-- the lines of a text that are not skipped, in order
pub record AreLinesOf (bytes : List ℕ) (lines : List Numbered) : Type 0 where
  pub each : Pairs IsNumbered (numbered_lines bytes) lines
