-- A line is read by its words.
use Rattle.std.proofs.Common.{◌≡◌, ℕ, List, [], ◌∷◌, ◌++◌, Option, Some, None, refl, sym, ap, ◌∙◌}
use Rattle.std.specs.List.{join_with_byte}
use Rattle.std.proofs.lemmas.List.{append_cancel_right}
use Rattle.std.proofs.lemmas.List.Splits.{join_with_byte-slice_split}
use Rattle.hwp_report_text.specs.hwp_geom.Words.{IsLine, line, cut}
use Rattle.hwp_report_text.proofs.of_hwp_geom.Cuts.{joined, line-joined, cut-joined_line}
use Rattle.hwp_report.specs.declared.report_line.ReportLine.{ReportLine}
use Rattle.hwp_report.specs.Forms.{form_words, IsFormRead, IsLineRead}
use Rattle.hwp_report.proofs.WordsPut.{line_of_form}

joined_with_spaces : (ws : List (List ℕ)) → joined ws ≡ join_with_byte 32 ws
joined_with_spaces [] = refl
joined_with_spaces (w ∷ []) = refl
joined_with_spaces (w ∷ v ∷ ws) = ap (λ t. w ++ 32 ∷ t) (joined_with_spaces (v ∷ ws))

-- a line cut at its spaces is the line of the parts
pub line_of_parts : (bytes : List ℕ) → bytes ++ 10 ∷ [] ≡ line (cut bytes)
line_of_parts bytes =
    ap (λ t. t ++ 10 ∷ []) (sym (joined_with_spaces (cut bytes) ∙ join_with_byte-slice_split 32 bytes)) ∙ sym (line-joined (cut bytes))

-- of a line of words, the parts are the words
pub parts_of_line : (bytes : List ℕ) (ws : List (List ℕ)) → IsLine ws → bytes ++ 10 ∷ [] ≡ line ws → cut bytes ≡ ws
parts_of_line bytes ws h e =
    ap cut (append_cancel_right bytes (joined ws) (10 ∷ []) (e ∙ line-joined ws)) ∙ cut-joined_line ws h

-- what the words of a line are read as, the line is read as
pub line_read : (bytes : List ℕ) (ws : List (List ℕ)) (read : Option ReportLine) → ws ≡ cut bytes → IsFormRead ws read → IsLineRead bytes read
line_read bytes ws None e none = λ f fits same. none f fits (e ∙ parts_of_line bytes (form_words f) (line_of_form f fits) same)
line_read bytes ws (Some f) e some = (some.0, line_of_parts bytes ∙ ap line (sym e ∙ some.1))
