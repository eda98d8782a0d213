-- A translation that a step writes: it is declared, and its word is the one that the step met.
use Rattle.std.proofs.Common.{◌≡◌, ℕ, ◌<◌, Option, Some, None, IsSomeAnd, length, slice_get, slice_index, refl, sym, ap, ◌∙◌, subst}
use Rattle.std.proofs.lemmas.Option.{slice_get-get_or}
use Rattle.hwp_core_rule.specs.hwp_geom.declared.Layout.{Layout}
use Rattle.hwp_core_rule.specs.hwp_geom.declared.VSlot.{VSlot}
use Rattle.hwp_core_rule.specs.declared.SharedWord.TheVariants as places
use Rattle.hwp_core_rule.specs.declared.State.{State}
use Rattle.hwp_core_rule.specs.Rule.{Holds}
use Rattle.hwp_core_rule.specs.Words.{index, words_of}
use Rattle.hwp_core_rule.proofs.MoveKeeps.{shaped}
use Rattle.hwp_core_rule.proofs.WordsByKind.{words-read}

-- the translation is declared
pub declared-of : {A : Type 0} (P : A → Type 0) (o : Option A) → IsSomeAnd o P → (x : A) × (o ≡ Some x) × P x
declared-of P None has = absurd has
declared-of P (Some x) has = (x, refl, has)

-- the word of a translation that a step met
pub trans-word : (layout : Layout) (s : State) (h : Holds layout s) (slot : VSlot) (found : ℕ) → slot.0 < length layout.trans → found ≡ slice_index s.words (index layout (places.Trans slot)) → slice_get (words_of layout s.words).trans slot.0 ≡ Some found
trans-word layout s h slot found inside met =
    slice_get-get_or (words_of layout s.words).trans slot.0 0 (subst (λ (n : ℕ). slot.0 < n) (sym (shaped layout s h).trans) inside) ∙ ap (λ (n : ℕ). Some n) (words-read layout s.words (places.Trans slot) inside ∙ sym met)
