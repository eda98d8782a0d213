-- No two frames are in the same place, and no two marks of a frame's record differ, by the same words.
use Rattle.std.proofs.Common.{◌≡◌, ℕ, true, false, List, ◌++◌, drop, refl, ap, arith}
use Rattle.hwp_report_text.specs.declared.How.{How}
use Rattle.hwp_report_text.specs.declared.How.TheVariants as hows
use Rattle.hwp_report_text.specs.declared.MarkLine.{MarkLine}
use Rattle.hwp_report_text.specs.declared.MarkLine.TheVariants as marks
use Rattle.hwp_report_text.specs.declared.Whereabouts.{Whereabouts}
use Rattle.hwp_report_text.specs.declared.Whereabouts.TheVariants as places
use Rattle.hwp_report_text.specs.ReportText.{place_words, how_words, mark_words}
use Rattle.hwp_report_words.proofs.SameWords.{tag_at, word_at, same_u16, same_u32, same_origin, same_situation, same_outcome, same_who}
use Rattle.hwp_report.specs.Fits.{PlaceFits, MarkFits}

-- the place of a frame, and what stands behind it
pub same_place : (a b : Whereabouts) (x y : List (List ℕ)) → PlaceFits a → PlaceFits b → place_words a ++ x ≡ place_words b ++ y → (a ≡ b) × (x ≡ y)
same_place places.Free places.Free x y f g e = (refl, ap (drop 1) e)
same_place places.Free b x y f g e = absurd (omega (arith, ap (tag_at 0) e))
same_place places.Kernel places.Kernel x y f g e = (refl, ap (drop 1) e)
same_place places.Kernel b x y f g e = absurd (omega (arith, ap (tag_at 0) e))
same_place places.Handled places.Handled x y f g e = (refl, ap (drop 1) e)
same_place places.Handled b x y f g e = absurd (omega (arith, ap (tag_at 0) e))
same_place (places.Of page) (places.Of page2) x y f g e = (λ i. places.Of (record { 0 = same_u16 f g (word_at 1 e) i }), ap (drop 2) e)
same_place (places.Of page) b x y f g e = absurd (omega (arith, ap (tag_at 0) e))

same_how : (a b : How) → how_words a ≡ how_words b → a ≡ b
same_how (hows.Failure hardware situation outcome) (hows.Failure hardware2 situation2 outcome2) e =
    λ i. hows.Failure (same_origin hardware hardware2 (word_at 0 e) i) (same_situation situation situation2 (word_at 1 e) i) (same_outcome outcome outcome2 (word_at 2 e) i)
same_how (hows.Failure true situation outcome) b e = absurd (omega (arith, ap (tag_at 0) e))
same_how (hows.Failure false situation outcome) b e = absurd (omega (arith, ap (tag_at 0) e))
same_how hows.Moved hows.Moved e = refl
same_how hows.Moved hows.TakenFree e = absurd (omega (arith, ap (tag_at 1) e))
same_how hows.Moved (hows.Failure true situation outcome) e = absurd (omega (arith, ap (tag_at 0) e))
same_how hows.Moved (hows.Failure false situation outcome) e = absurd (omega (arith, ap (tag_at 0) e))
same_how hows.TakenFree hows.TakenFree e = refl
same_how hows.TakenFree hows.Moved e = absurd (omega (arith, ap (tag_at 1) e))
same_how hows.TakenFree (hows.Failure true situation outcome) e = absurd (omega (arith, ap (tag_at 0) e))
same_how hows.TakenFree (hows.Failure false situation outcome) e = absurd (omega (arith, ap (tag_at 0) e))

pub same_mark : (a b : MarkLine) → MarkFits a → MarkFits b → mark_words a ≡ mark_words b → a ≡ b
same_mark (marks.Poisoned cycle who how) (marks.Poisoned cycle2 who2 how2) f g e =
    λ i. marks.Poisoned (same_u32 f.0 g.0 (word_at 1 e) i) (same_who who who2 f.1 g.1 (word_at 2 e) (word_at 3 e) i) (same_how how how2 (ap (drop 4) e) i)
same_mark (marks.Poisoned cycle who how) b f g e = absurd (omega (arith, ap (tag_at 0) e))
same_mark (marks.Unpoisoned cycle who) (marks.Unpoisoned cycle2 who2) f g e =
    λ i. marks.Unpoisoned (same_u32 f.0 g.0 (word_at 1 e) i) (same_who who who2 f.1 g.1 (word_at 2 e) (word_at 3 e) i)
same_mark (marks.Unpoisoned cycle who) b f g e = absurd (omega (arith, ap (tag_at 0) e))
