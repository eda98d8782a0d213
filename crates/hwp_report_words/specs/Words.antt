-- The words of what stands in several kinds of line.
use Rattle.std.specs.Prelude.{ℕ, ◌^◌, ◌<◌, List, [], ◌∷◌, decimal}
use Rattle.hwp_script_words.specs.hwp_geom.declared.Who.{Who}
use Rattle.hwp_report_text.specs.hwp_page.declared.At.{At}

-- a processor, and the number of its command
abbrev pub who_words : Who → List (List ℕ)
who_words who = decimal who.cpu.0 ∷ decimal who.seq ∷ []

abbrev pub WhoFits : Who → Type 0
WhoFits who = (who.cpu.0 < 2 ^ 8) × (who.seq < 2 ^ 32)

-- a place in a history
abbrev pub at_words : At → List (List ℕ)
at_words at = decimal at.page.0 ∷ decimal at.entry ∷ []

abbrev pub AtFits : At → Type 0
AtFits at = (at.page.0 < 2 ^ 16) × (at.entry < 2 ^ 64)
