-- The words of an answer, as they are printed.
use Rattle.std.specs.Prelude.{List, ℕ, [], ◌∷◌, decimal}
use Rattle.hwp_page.specs.hwp_geom.Words.{hex}
use Rattle.hwp_report_text.specs.declared.printing.answers.Said.{Said}
use Rattle.hwp_report_text.specs.declared.printing.answers.Said.TheVariants as saids
use Rattle.hwp_report_text.specs.ReportText.{placed}

-- a word, with what stands behind it
abbrev pub said_words : Said → List (List ℕ)
said_words (saids.Word word) = word.now ∷ []
said_words (saids.Number word number) = word.now ∷ decimal number ∷ []
said_words (saids.Hex word mask) = word.now ∷ hex mask.0 ∷ []
said_words (saids.Place word at) = placed word.now at
said_words (saids.NumberPlace word number at) = word.now ∷ decimal number ∷ decimal at.page.0 ∷ decimal at.entry ∷ []
said_words (saids.HexPlace word mask at) = word.now ∷ hex mask.0 ∷ decimal at.page.0 ∷ decimal at.entry ∷ []
