-- Bytes are read line by line.
use Rattle.std.proofs.Common.{◌≡◌, ℕ, ◌+◌, List, [], ◌∷◌, ◌++◌, length, sym, ap, ◌∙◌, append_assoc, append-nil, arith}
use Rattle.std.proofs.lemmas.List.{length-append}
use Rattle.std.proofs.lemmas.List.Concat.{flat_map-append}
use Rattle.std.proofs.lemmas.List.Elements.{All-nil, All-cons, All-append}
use Rattle.hwp_report_text.specs.hwp_geom.Words.{line}
use Rattle.hwp_report.specs.declared.report_line.ReportLine.{ReportLine}
use Rattle.hwp_report.specs.declared.partial.Partial.{Partial}
use Rattle.hwp_report.specs.Forms.{FormFits, form_words}
use Rattle.hwp_report.specs.Follows.{IsNext}
use Rattle.hwp_report.proofs.LinesRead.{forms_text, lines_read, IsReadSoFar}
use Rattle.hwp_report.proofs.FollowLaws.{adds}

text-push : (fs : List ReportLine) (f : ReportLine) → forms_text (fs ++ f ∷ []) ≡ forms_text fs ++ line (form_words f)
text-push fs f =
    flat_map-append (λ f. line (form_words f)) fs (f ∷ []) ∙ ap (λ t. forms_text fs ++ t) (append-nil (line (form_words f)))

-- one line more was read
pub more_read : (bytes rest here behind : List ℕ) (p q : Partial) (n : ℕ) → IsReadSoFar bytes p rest n → rest ≡ here ++ 10 ∷ behind → IsNext p here q
    → IsReadSoFar bytes q behind (n + 1)
more_read bytes rest here behind p q n h cut_at next =
    let all : lines_read q ≡ lines_read p ++ next.form ∷ [] = adds p next.form q next.fits next.follows in
    let first : here ++ 10 ∷ behind ≡ line (form_words next.form) ++ behind = sym (append_assoc here (10 ∷ []) behind) ∙ ap (λ t. t ++ behind) next.same in
    record {
      same = h.same
          ∙ ap (λ t. forms_text (lines_read p) ++ t) (cut_at ∙ first)
          ∙ sym (append_assoc (forms_text (lines_read p)) (line (form_words next.form)) behind)
          ∙ ap (λ t. t ++ behind) (sym (text-push (lines_read p) next.form))
          ∙ ap (λ t. forms_text t ++ behind) (sym all);
      fits = rw all (All-append FormFits (lines_read p) (next.form ∷ []) h.fits (All-cons FormFits next.form [] next.fits (All-nil FormFits)));
      number = omega (arith, h.number, ap length all, length-append (lines_read p) (next.form ∷ []));
    }
