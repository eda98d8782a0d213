-- The words of where a frame is, and of its bad and its weak lines.
use Rattle.std.specs.Prelude.{ℕ, ◌^◌, ◌<◌, List, [], ◌∷◌, ◌++◌, codes}
use Rattle.hwp_report_text.specs.hwp_geom.Words.{hex}
use Rattle.hwp_report_text.specs.hwp_geom.declared.Mask.{Mask}
use Rattle.hwp_report_text.specs.declared.Whereabouts.{Whereabouts}
use Rattle.hwp_report_text.specs.declared.Whereabouts.TheVariants as places
use Rattle.hwp_report_text.specs.ReportText.{place_words}
use Rattle.hwp_report.specs.Fits.{PlaceFits}

-- `STATE bad M weak M`
abbrev pub standing_words : Whereabouts × Mask × Mask → List (List ℕ)
standing_words s = place_words s.0 ++ codes "bad" ∷ hex s.1.0 ∷ codes "weak" ∷ hex s.2.0 ∷ []

abbrev pub StandingFits : Whereabouts × Mask × Mask → Type 0
StandingFits s = PlaceFits s.0 × (s.1.0 < 2 ^ 64) × (s.2.0 < 2 ^ 64)

-- the words of a frame's bad and weak lines
abbrev pub masks_words : Mask × Mask → List (List ℕ)
masks_words masks = codes "bad" ∷ hex masks.0.0 ∷ codes "weak" ∷ hex masks.1.0 ∷ []

abbrev pub MasksFit : Mask × Mask → Type 0
MasksFit masks = (masks.0.0 < 2 ^ 64) × (masks.1.0 < 2 ^ 64)

-- a frame that holds no page
abbrev pub IsPageless : Whereabouts → Type 0
IsPageless (places.Of page) = ⊥
IsPageless place = Unit {0}
