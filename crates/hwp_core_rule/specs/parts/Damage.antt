-- Bad and weak lines.
use Rattle.std.specs.Prelude.{◌≡◌, ℕ, ◌<◌, ◌≤◌, ◌==◌, ◌&&◌, min, Bool, true, false, not, List, Some, slice_get}
use Rattle.std.specs.Int.{from_bool, bit_at}
use Rattle.hwp_page.specs.hwp_geom.declared.Damage.{Damage}
use Rattle.hwp_page.specs.hwp_geom.declared.Damage.TheVariants as damages
use Rattle.hwp_page.specs.hwp_geom.declared.Frame.{Frame}
use Rattle.hwp_page.specs.hwp_geom.Limits.{line_limit}
use Rattle.hwp_core_rule.specs.declared.shared_word.SharedWord.{SharedWord}
use Rattle.hwp_core_rule.specs.declared.shared_word.SharedWord.TheVariants as places
use Rattle.hwp_core_rule.specs.declared.view.Sight.{Sight}
use Rattle.hwp_core_rule.specs.declared.view.Spoiled.{Spoiled}
use Rattle.hwp_core_rule.specs.Lists.{EachListed, sum_all}

abbrev pub is_bad : Damage → Bool
is_bad damages.Bad = true
is_bad damages.Weak = false

-- the line of the frame went bad (true) or weak (false)
abbrev pub is_spoil : ℕ → ℕ → Bool → Spoiled → Bool
is_spoil f line true s = (s.frame.0 == f) && ((s.line == line) && is_bad s.damage)
is_spoil f line false s = (s.frame.0 == f) && ((s.line == line) && not (is_bad s.damage))

-- the word has a bit for each line that a view lists so, and for no other
abbrev pub HasSpoiled : ℕ → ℕ → Bool → List (List Spoiled) → Type 0
HasSpoiled f word bad spoiled =
    (line : ℕ) → line < line_limit → bit_at word line ≡ min (sum_all (λ (s : Spoiled). from_bool (is_spoil f line bad s)) spoiled) 1

-- the bits that a step showed of the place are still in its word
abbrev pub BitsStay : SharedWord → ℕ → List (List Sight) → Type 0
BitsStay place word sights = EachListed (λ (s : Sight). s.place ≡ place → (line : ℕ) → bit_at s.word line ≤ bit_at word line) sights

-- The bad bits of a frame are the bad lines that the views list, and so are the weak bits; bits that a step showed are
-- still there. Broken by: a `spoil` that lists nothing; a bad word written whole.
pub record DamageListed (bads weaks : List ℕ) (spoiled : List (List Spoiled)) (sights : List (List Sight)) : Type 0 where
  pub bad : (f w : ℕ) → slice_get bads f ≡ Some w → HasSpoiled f w true spoiled
  pub weak : (f w : ℕ) → slice_get weaks f ≡ Some w → HasSpoiled f w false spoiled
  pub bad_stays : (frame : Frame) (w : ℕ) → slice_get bads frame.0 ≡ Some w → BitsStay (places.Bad frame) w sights
  pub weak_stays : (frame : Frame) (w : ℕ) → slice_get weaks frame.0 ≡ Some w → BitsStay (places.Weak frame) w sights
