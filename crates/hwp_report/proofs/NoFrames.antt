-- Words that don't say where a frame is, by what is missing.
use Rattle.std.proofs.Common.{◌≡◌, ℕ, List, [], ◌∷◌, ◌++◌, get_or, drop, codes, ap, arith}
use Rattle.hwp_report_text.specs.hwp_geom.declared.Mask.{Mask}
use Rattle.hwp_report_text.specs.declared.Whereabouts.{Whereabouts}
use Rattle.hwp_report_text.specs.declared.Whereabouts.TheVariants as places
use Rattle.hwp_report_text.specs.ReportText.{place_words}
use Rattle.hwp_report_words.proofs.SameWords.{tag_at, word_at}
use Rattle.hwp_report.specs.Standing.{IsPageless, MasksFit, StandingFits, masks_words, standing_words}

-- a frame that holds a page
pub no_holding : (ws : List (List ℕ)) → ((masks : Mask × Mask) → MasksFit masks → drop 1 ws ≡ masks_words masks → ⊥)
    → (s : Whereabouts × Mask × Mask) → StandingFits s → codes "page" ∷ ws ≡ standing_words s → ⊥
no_holding ws none s fits e = by s.0 (s.1, s.2) (fits.1, fits.2) e
  where
    by : (place : Whereabouts) (masks : Mask × Mask) → MasksFit masks → codes "page" ∷ ws ≡ place_words place ++ masks_words masks → ⊥
    by (places.Of page) masks b e = none masks b (ap (drop 2) e)
    by places.Free masks b e = absurd (omega (arith, ap (tag_at 0) e))
    by places.Kernel masks b e = absurd (omega (arith, ap (tag_at 0) e))
    by places.Handled masks b e = absurd (omega (arith, ap (tag_at 0) e))

-- a frame that holds none
pub no_state : (first : List ℕ) (ws : List (List ℕ)) → (first ≡ codes "page" → ⊥) → ((place : Whereabouts) → IsPageless place → first ≡ get_or (place_words place) 0 [] → ⊥)
    → (s : Whereabouts × Mask × Mask) → StandingFits s → first ∷ ws ≡ standing_words s → ⊥
no_state first ws other none s fits e = by s.0 (s.1, s.2) e
  where
    by : (place : Whereabouts) (masks : Mask × Mask) → first ∷ ws ≡ place_words place ++ masks_words masks → ⊥
    by (places.Of page) masks e = other (word_at 0 e)
    by places.Free masks e = none places.Free tt (word_at 0 e)
    by places.Kernel masks e = none places.Kernel tt (word_at 0 e)
    by places.Handled masks e = none places.Handled tt (word_at 0 e)

pub no_masks : (first : List ℕ) (ws : List (List ℕ)) → (first ≡ codes "page" → ⊥) → ((masks : Mask × Mask) → MasksFit masks → ws ≡ masks_words masks → ⊥)
    → (s : Whereabouts × Mask × Mask) → StandingFits s → first ∷ ws ≡ standing_words s → ⊥
no_masks first ws other none s fits e = by s.0 (s.1, s.2) (fits.1, fits.2) e
  where
    by : (place : Whereabouts) (masks : Mask × Mask) → MasksFit masks → first ∷ ws ≡ place_words place ++ masks_words masks → ⊥
    by (places.Of page) masks b e = other (word_at 0 e)
    by places.Free masks b e = none masks b (ap (drop 1) e)
    by places.Kernel masks b e = none masks b (ap (drop 1) e)
    by places.Handled masks b e = none masks b (ap (drop 1) e)
