-- The word of a translation, loaded while its page is held.
use Rattle.std.proofs.Common.{◌≡◌, ◌⊎◌, inl, inr, ℕ, ◌+◌, ◌%◌, ◌^◌, ◌<◌, ◌≤◌, ◌==◌, Bool, true, false, not, cond, List, [], ◌∷◌, Option, Some, None, if◌then◌else◌, length, slice_get, slice_index, refl, sym, ap, ◌∙◌, subst, arith}
use Rattle.std.proofs.lemmas.Bool.{both_ways, ne_eqb}
use Rattle.std.proofs.lemmas.Option.{same_Some, slice_get_within, slice_get-get_or}
use Rattle.std.specs.FinSet as sets
use Rattle.std.specs.List.{find}
use Rattle.std.specs.Ordering.{nat_cmp}
use Rattle.hwp_page.specs.hwp_geom.declared.Frame.{Frame}
use Rattle.hwp_page.specs.hwp_geom.declared.Layout.{Layout}
use Rattle.hwp_page.specs.hwp_geom.declared.Page.{Page}
use Rattle.hwp_page.specs.hwp_geom.declared.TransDecl.{TransDecl}
use Rattle.hwp_page.specs.hwp_geom.declared.VSlot.{VSlot}
use Rattle.hwp_page.specs.hwp_geom.Limits.{frame_limit}
use Rattle.hwp_page.specs.declared.PageState.{PageState}
use Rattle.hwp_page.specs.History.{BodyValue, IsReplay}
use Rattle.hwp_page.specs.Step.{IsOf}
use Rattle.hwp_core.specs.hwp_words.declared.Pte.TheVariants as ptes
use Rattle.hwp_core.specs.hwp_words.Fields.{field}
use Rattle.hwp_core.specs.hwp_words.Names.{frame_name, frame_named}
use Rattle.hwp_core.specs.hwp_words.Translations.{pte_word, pte_reading, pte_poison_bit, pte_frame_field, leading}
use Rattle.hwp_core.specs.hwp_core_rule.declared.InHand.{InHand}
use Rattle.hwp_core.specs.hwp_core_rule.declared.SharedWord.TheVariants as places
use Rattle.hwp_core.specs.hwp_core_rule.declared.State.{State}
use Rattle.hwp_core.specs.hwp_core_rule.declared.View.{View}
use Rattle.hwp_core.specs.hwp_core_rule.Logs.{log_of, state_of, fitting, fitting_word}
use Rattle.hwp_core.specs.hwp_core_rule.Rule.{Holds}
use Rattle.hwp_core.specs.hwp_core_rule.Views.{body_of, is_body_of}
use Rattle.hwp_core.specs.hwp_core_rule.Words.{index, words_of}
use Rattle.hwp_core.proofs.of_hwp_core_rule.PageWords.{fitting-at}
use Rattle.hwp_core.proofs.of_hwp_core_rule.Lists.{same-number}
use Rattle.hwp_core.proofs.of_hwp_core_rule.MetWords.{frame-named, lock-knows}
use Rattle.hwp_core.proofs.of_hwp_core_rule.MoveKeeps.{shaped}
use Rattle.hwp_core.proofs.of_hwp_core_rule.WordsByKind.{words-read}
use Rattle.hwp_core.specs.hwp_core_rule.Hands.{Hand, body_in}
use Rattle.hwp_core.specs.Holds as holds
use Rattle.hwp_core.specs.Holds.{HoldsPage, held, page_lock}
use Rattle.hwp_core.proofs.BodyStates.{replay-state, replay-unused}
use Rattle.hwp_fault.specs.Faults.{IsFree}
use Rattle.hwp_fault.proofs.MapInLaws.{declared}

-- the word that leads to a frame says so
pub reads-frame : (f : Frame) → f.0 < 2 ^ 16 → pte_reading (f.0 + 1) ≡ ptes.At f
reads-frame f less = ap (λ (b : Bool). if b then ptes.Poison else leading (frame_named (field pte_frame_field (f.0 + 1)))) unpoisoned ∙ ap (λ (n : ℕ). leading (frame_named n)) low ∙ ap leading (frame-named f less)
  where
    unpoisoned : (field pte_poison_bit (f.0 + 1) == 1) ≡ false
    unpoisoned = ne_eqb (field pte_poison_bit (f.0 + 1)) 1 (λ e. omega (arith, e, less))

    low : field pte_frame_field (f.0 + 1) ≡ (f.0 + 1) % 2 ^ 20
    low = omega arith

-- a poison entry says so
pub reads-poison : pte_reading (pte_word ptes.Poison) ≡ ptes.Poison
reads-poison = refl

-- what the word met says: the translation leads nowhere and is free, or it is barred, or it leads to the frame that the page
-- is in
pub record IsNowhere (slot : VSlot) (state : PageState) (found : ℕ) : Type 0 where
  pub zero : found ≡ 0
  pub free : IsFree slot state

pub record IsBarred (slot : VSlot) (state : PageState) (found : ℕ) : Type 0 where
  pub poison : found ≡ pte_word ptes.Poison
  pub barred : sets.contains state.bar slot.0 ≡ true

pub record LeadsTo (found : ℕ) : Type 0 where
  pub frame : Frame
  pub small : frame.0 < 2 ^ 16
  pub named : found ≡ frame.0 + 1

module _ {layout : Layout} {view : View} {page : Page} {frame : Option Frame} {body : BodyValue} (has : HoldsPage layout view page frame body) where
  pub bodies : view.bodies ≡ body_in frame (log_of body) has.seen ∷ []
  bodies = ap (λ (h : Hand). h.bodies) has.hand_is ∙ which frame
    where
      which : (f : Option Frame) → (held layout page f (log_of body) has.seen has.handled has.poisoned).bodies ≡ body_in f (log_of body) has.seen ∷ []
      which None = refl
      which (Some f) = refl

  pub in-hand : body_of body.page view ≡ Some (body_in frame (log_of body) has.seen)
  in-hand = ap (λ (l : List InHand). find (is_body_of body.page) l) bodies ∙ ap (λ (b : Bool). cond b (Some (body_in frame (log_of body) has.seen)) None) (same-number body.page.0 body.page.0 refl)

  pub pages : slice_get view.pages 0 ≡ Some (page_lock page frame (holds.words_of layout frame (log_of body)))
  pages = ap (λ (h : Hand). slice_get h.pages 0) has.hand_is ∙ which frame
    where
      which : (f : Option Frame) → slice_get (held layout page f (log_of body) has.seen has.handled has.poisoned).pages 0 ≡ Some (page_lock page f (holds.words_of layout f (log_of body)))
      which None = refl
      which (Some f) = refl

  replay : IsReplay layout body.page body.log body.state
  replay = subst (λ (p : Page). IsReplay layout p body.log body.state) (sym has.body_is.page_is) has.body_is.replay

  pub state-is : state_of layout (log_of body) ≡ body.state
  state-is = replay-state replay

  -- the page of a translation in use is in a frame
  used-cached : (slot : VSlot) → sets.contains (state_of layout (log_of body)).maps slot.0 ≡ true → (f : Frame) × (frame ≡ Some f)
  used-cached slot used = which frame refl
    where
      which : (o : Option Frame) → frame ≡ o → (f : Frame) × (frame ≡ Some f)
      which (Some f) is = (f, is)
      which None is = absurd (both_ways (sets.contains (state_of layout (log_of body)).maps slot.0) (ap (λ (s : PageState). sets.contains s.maps slot.0) state-is ∙ ap (λ m. sets.contains m slot.0) (replay-unused replay uncached) ∙ sets.contains-empty nat_cmp slot.0) used)
        where
          uncached : body.state.cached ≡ false
          uncached = ap (λ (s : PageState). s.cached) (sym state-is) ∙ sym has.body_is.cached ∙ ap (λ (o : Option Frame). not (frame_name o == 0)) is

-- the word that a step on it meets
module _ (slot : VSlot) {layout : Layout} {view : View} {page : Page} {frame : Option Frame} {body : BodyValue} (has : HoldsPage layout view page frame body) (of : IsOf layout page slot) where
  decl : (t : TransDecl) × (slice_get layout.trans slot.0 ≡ Some t) × (t.page ≡ page)
  decl = declared layout page slot of

  pub inside : slot.0 < length layout.trans
  inside = slice_get_within layout.trans slot.0 decl.0 decl.1

  module _ (board : State) (rule : Holds layout board) (seat : ℕ) (me : slice_get board.views seat ≡ Some view) where
    -- the word that a step on it meets fits the page's state
    met-fits : (found : ℕ) → found ≡ slice_index board.words (index layout (places.Trans slot)) → found ≡ fitting_word (state_of layout (log_of body)) (frame_name frame) slot.0
    met-fits found met = met ∙ sym (words-read layout board.words (places.Trans slot) inside) ∙ same_Some (slice_index (words_of layout board.words).trans slot.0) (fitting_word (state_of layout (log_of body)) (frame_name frame) slot.0) (sym there ∙ sym known ∙ fits)
      where
        there : slice_get (words_of layout board.words).trans slot.0 ≡ Some (slice_index (words_of layout board.words).trans slot.0)
        there = slice_get-get_or (words_of layout board.words).trans slot.0 0 (subst (λ (n : ℕ). slot.0 < n) (sym (shaped layout board rule).trans) inside)

        known : slice_get (fitting layout body.page (state_of layout (log_of body)) (frame_name frame)) slot.0 ≡ slice_get (words_of layout board.words).trans slot.0
        known = (lock-knows layout board rule seat view me (page_lock page frame (holds.words_of layout frame (log_of body))) (pages has)).words (fitting layout body.page (state_of layout (log_of body)) (frame_name frame)) refl slot.0 decl.0 decl.1 decl.2

        fits : slice_get (fitting layout body.page (state_of layout (log_of body)) (frame_name frame)) slot.0 ≡ Some (fitting_word (state_of layout (log_of body)) (frame_name frame) slot.0)
        fits = fitting-at body.page (state_of layout (log_of body)) (frame_name frame) 0 layout.trans slot.0 decl.0 decl.1 (decl.2 ∙ sym has.body_is.page_is) ∙ ap (λ (n : ℕ). Some (fitting_word (state_of layout (log_of body)) (frame_name frame) n)) (let first : 0 + slot.0 ≡ slot.0 = omega arith in first)

    pub pte-met : (found : ℕ) → found ≡ slice_index board.words (index layout (places.Trans slot)) → IsNowhere slot body.state found ⊎ (IsBarred slot body.state found ⊎ LeadsTo found)
    pte-met found met = which (sets.contains (state_of layout (log_of body)).maps slot.0) refl
      where
        fits-as : (used : Bool) → sets.contains (state_of layout (log_of body)).maps slot.0 ≡ used → found ≡ cond used (frame_name frame) (cond (sets.contains (state_of layout (log_of body)).bar slot.0) (pte_word ptes.Poison) 0)
        fits-as used is = met-fits found met ∙ ap (λ (b : Bool). cond b (frame_name frame) (cond (sets.contains (state_of layout (log_of body)).bar slot.0) (pte_word ptes.Poison) 0)) is

        unused : sets.contains (state_of layout (log_of body)).maps slot.0 ≡ false → (barred : Bool) → sets.contains (state_of layout (log_of body)).bar slot.0 ≡ barred → IsNowhere slot body.state found ⊎ (IsBarred slot body.state found ⊎ LeadsTo found)
        unused is false free = inl (record {
          zero = fits-as false is ∙ ap (λ (b : Bool). cond b (pte_word ptes.Poison) 0) free;
          free = subst (IsFree slot) (state-is has) (is, free);
        })
        unused is true barred = inr (inl (record {
          poison = fits-as false is ∙ ap (λ (b : Bool). cond b (pte_word ptes.Poison) 0) barred;
          barred = subst (λ (s : PageState). sets.contains s.bar slot.0 ≡ true) (state-is has) barred;
        }))

        which : (used : Bool) → sets.contains (state_of layout (log_of body)).maps slot.0 ≡ used → IsNowhere slot body.state found ⊎ (IsBarred slot body.state found ⊎ LeadsTo found)
        which false is = unused is (sets.contains (state_of layout (log_of body)).bar slot.0) refl
        which true is = let cached = used-cached has slot is in inr (inr (record {
          frame = cached.0;
          small = let few : layout.frames ≤ frame_limit = rule.sound.frames in let within : cached.0.0 < layout.frames = has.within cached.0 cached.1 in omega (arith, few, within);
          named = fits-as true is ∙ ap frame_name cached.1;
        }))
