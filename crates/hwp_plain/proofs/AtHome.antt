-- Slots that are at home, and what is in them.
use Rattle.std.proofs.Common.{◌≡◌, ℕ, suc, ◌+◌, ◌<◌, List, [], ◌∷◌, Option, Some, None, map, length, slice_get, refl, ap, ◌∙◌, subst, sym, arith}
use Rattle.std.proofs.lemmas.List.{length-map}
use Rattle.std.proofs.lemmas.Option.{none-some, same_Some}
use Rattle.hwp_core_rule.specs.hwp_geom.declared.Layout.{Layout}
use Rattle.hwp_core_rule.specs.hwp_page.History.{BodyValue}
use Rattle.hwp_core_rule.specs.declared.Log.{Log}
use Rattle.hwp_core_rule.specs.Lists.{EachMember}
use Rattle.hwp_core_rule.specs.declared.State.{State}
use Rattle.hwp_core_rule.specs.Rule.{Holds}
use Rattle.hwp_core_rule.specs.SlotMoves.{IsIn}
use Rattle.hwp_core_rule.specs.parts.Holdings.{HoldsNothing}
use Rattle.hwp_core_rule.proofs.Lists.{each-map}
use Rattle.hwp_core_rule.specs.Calls.{FitsLayout}
use Rattle.hwp_plain.specs.Openings.{home_with}
use Rattle.hwp_plain.proofs.AllHome.{all-home}
use Rattle.hwp_plain.specs.declared.slot.Slot.{Slot}
use Rattle.hwp_plain.specs.declared.slot.Slot.TheVariants.{Home, Out}
use Rattle.hwp_plain.specs.Slots.{home_of, in_slot, body_in, IsSlotOf, AreOfLayout}

-- slots that were made of bodies
homes-in : (bodies : List (Option BodyValue)) → map home_of (map in_slot bodies) ≡ map home_with bodies
homes-in [] = refl
homes-in (b ∷ bs) = ap (λ (l : List (Option (Option Log))). home_with b ∷ l) (homes-in bs)

pub homes-made : (slots : List Slot) (bodies : List (Option BodyValue)) → slots ≡ map in_slot bodies → map home_of slots ≡ map home_with bodies
homes-made slots bodies are = ap (map home_of) are ∙ homes-in bodies

pub layouts-made : (layout : Layout) (slots : List Slot) (bodies : List (Option BodyValue)) → slots ≡ map in_slot bodies → EachMember (FitsLayout layout) bodies → AreOfLayout layout slots
layouts-made layout slots bodies are each = subst (AreOfLayout layout) (sym are) (each-map in_slot (IsSlotOf layout) bodies each)

-- what is in slots that are all at home
bodies-in : (slots : List Slot) → ((k : ℕ) → k < length slots → (content : Option Log) × IsIn (map home_of slots) k content) → map home_of slots ≡ map home_with (map body_in slots)
bodies-in [] home = refl
bodies-in (Home body ∷ slots) home = ap (λ (l : List (Option (Option Log))). home_with body ∷ l) (bodies-in slots (λ k less. home (suc k) (omega (arith, less))))
bodies-in (Out ∷ slots) home = let first = home 0 (omega arith) in absurd (none-some first.0 (same_Some None (Some first.0) first.1))

-- so it is of all slots when nothing is held
pub bodies-taken : (layout : Layout) (s : State) → Holds layout s → EachMember HoldsNothing s.views → (slots : List Slot) (bodies : List (Option BodyValue)) → s.homes ≡ map home_of slots → bodies ≡ map body_in slots
    → s.homes ≡ map home_with bodies
bodies-taken layout s holds nothing slots bodies homes are = homes ∙ bodies-in slots here ∙ ap (map home_with) (sym are)
  where
    here : (k : ℕ) → k < length slots → (content : Option Log) × IsIn (map home_of slots) k content
    here k less =
        let count : length slots ≡ layout.frames + length layout.pages = sym (length-map slots home_of) ∙ ap length (sym homes) ∙ holds.slots in
        let home = all-home layout s holds nothing k (omega (arith, less, count)) in
        (home.0, ap (λ (l : List (Option (Option Log))). slice_get l k) (sym homes) ∙ home.1)

-- and there is one for each frame and each page
pub bodies-count : (layout : Layout) (s : State) → Holds layout s → (bodies : List (Option BodyValue)) → s.homes ≡ map home_with bodies → length bodies ≡ layout.frames + length layout.pages
bodies-count layout s holds bodies are = sym (length-map bodies home_with) ∙ ap length (sym are) ∙ holds.slots
