-- The words of a processor's line, and of parts of lines.
use Rattle.std.specs.Prelude.{◌≡◌, ℕ, Bool, ◌^◌, ◌<◌, List, [], ◌∷◌, decimal, Option, MatchOption}
use Rattle.hwp_report_text.specs.hwp_geom.Words.{hex}
use Rattle.hwp_report_text.specs.hwp_geom.declared.Mode.{Mode}
use Rattle.hwp_report_text.specs.declared.Acted.{Acted}
use Rattle.hwp_report_text.specs.declared.CpuLine.{CpuLine}
use Rattle.hwp_report_text.specs.Terms.{acted_word, flag_number, guest_word, mode_word}
use Rattle.hwp_report_text.specs.ReportText.{cpu_line_words, row_word}
use Rattle.hwp_report_text.specs.hwp_severity.declared.McgBits.{McgBits}
use Rattle.hwp_report_words.specs.Fits.{CpuLineFits}

-- `RIPV EIPV MODE`
abbrev pub bits_words : McgBits × Mode → List (List ℕ)
bits_words bits = decimal (flag_number bits.0.ripv) ∷ decimal (flag_number bits.0.eipv) ∷ mode_word bits.1 ∷ []

-- `MISC ROW OUTCOME` of an event
abbrev pub end_words : ℕ × ℕ × Acted → List (List ℕ)
end_words end = hex end.0 ∷ row_word end.1 ∷ acted_word end.2 ∷ []

abbrev pub EndFits : ℕ × ℕ × Acted → Type 0
EndFits end = (end.0 < 2 ^ 64) × (end.1 < 2 ^ 8)

-- `MISC ROW OUTCOME` of a guest's machine check
abbrev pub guest_end_words : ℕ × ℕ × Bool → List (List ℕ)
guest_end_words end = hex end.0 ∷ row_word end.1 ∷ guest_word end.2 ∷ []

abbrev pub GuestEndFits : ℕ × ℕ × Bool → Type 0
GuestEndFits end = (end.0 < 2 ^ 64) × (end.1 < 2 ^ 8)

-- the words behind the number of a command are read as the line of that command that they are of
abbrev pub IsLineOf : ℕ → List (List ℕ) → Option CpuLine → Type 0
IsLineOf seq ws read =
    MatchOption read
    ((line : CpuLine) → CpuLineFits line → decimal seq ∷ ws ≡ cpu_line_words line → ⊥)
    (λ line. CpuLineFits line × (decimal seq ∷ ws ≡ cpu_line_words line))
