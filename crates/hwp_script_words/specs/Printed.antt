-- The words of a line, as they are printed.
use Rattle.std.specs.Prelude.{List, ℕ, [], ◌∷◌, ◌++◌, codes, decimal}
use Rattle.hwp_geom.specs.Words.{hex}
use Rattle.hwp_script_words.specs.declared.printing.Word.{Word}
use Rattle.hwp_script_words.specs.declared.printing.Word.TheVariants as words

-- the bytes of a word
abbrev pub word_text : Word → List ℕ
word_text (words.Text text) = text.now
word_text (words.Number number) = decimal number
word_text (words.Hex number) = hex number
word_text (words.Row row) = codes "S" ++ decimal row
word_text (words.Register number) = codes "0x" ++ hex number

-- what stands behind the first words of a line: its other words, with a space before each, and a line feed
abbrev pub line_end : List (List ℕ) → List ℕ
line_end [] = 10 ∷ []
line_end (w ∷ ws) = 32 ∷ (w ++ line_end ws)
