-- A slot that goes out or comes home.
use Rattle.std.proofs.Common.{◌≡◌, ℕ, ◌<◌, List, Option, Some, None, map, set, length, option_map, slice_get, get_or, refl, sym, ap, ◌∙◌, subst}
use Rattle.std.proofs.lemmas.List.{map-set}
use Rattle.std.proofs.lemmas.Option.{slice_get_read}
use Rattle.hwp_core_rule.specs.hwp_geom.declared.Layout.{Layout}
use Rattle.hwp_core_rule.specs.hwp_page.History.{BodyValue}
use Rattle.hwp_core_rule.specs.Logs.{log_of}
use Rattle.hwp_core_rule.proofs.Lists.{at_map, each-set}
use Rattle.hwp_core_rule.specs.Calls.{FitsLayout}
use Rattle.hwp_plain.specs.declared.slot.Slot.{Slot}
use Rattle.hwp_plain.specs.declared.slot.Slot.TheVariants.{Home, Out}
use Rattle.hwp_plain.specs.Slots.{home_of, IsSlotOf, AreOfLayout}

module _ (slots : List Slot) (n : ℕ) where
  -- the slot that goes out
  pub out-home : (now : Slot) → now ≡ Out → map home_of (set slots n now) ≡ set (map home_of slots) n None
  out-home now is = map-set home_of slots n now ∙ ap (λ (x : Slot). set (map home_of slots) n (home_of x)) is

  home-home : (body : Option BodyValue) → map home_of (set slots n (Home body)) ≡ set (map home_of slots) n (Some (option_map log_of body))
  home-home body = map-set home_of slots n (Home body)

  -- what is read of a slot is there
  slot-read : (x : Slot) → n < length slots → x ≡ get_or slots n x → slice_get slots n ≡ Some x
  slot-read x less at = slice_get_read slots (length slots) n x refl less at

  -- what went out was there
  pub out-met : (x : Slot) (body content : Option BodyValue) → n < length slots → x ≡ get_or slots n x → x ≡ Home body → content ≡ body → slice_get (map home_of slots) n ≡ Some (Some (option_map log_of content))
  out-met x body content less at is same =
      at_map home_of slots n x (slot-read x less at) ∙ ap (λ (y : Slot). Some (home_of y)) is ∙ ap (λ (b : Option BodyValue). Some (Some (option_map log_of b))) (sym same)

  pub home-met : (body content : Option BodyValue) → content ≡ body → map home_of (set slots n (Home body)) ≡ set (map home_of slots) n (Some (option_map log_of content))
  home-met body content same = home-home body ∙ ap (λ (b : Option BodyValue). set (map home_of slots) n (Some (option_map log_of b))) (sym same)

  module _ (layout : Layout) (of : AreOfLayout layout slots) where
    pub out-layouts : (x now : Slot) (body : Option BodyValue) → n < length slots → x ≡ get_or slots n x → x ≡ Home body → now ≡ Out → AreOfLayout layout (set slots n now) × FitsLayout layout body
    out-layouts x now body less at is gone = (
      each-set (IsSlotOf layout) slots n now (subst (IsSlotOf layout) (sym gone) tt) of,
      subst (IsSlotOf layout) is (of n x (slot-read x less at)),
    )

    pub home-layouts : (body : Option BodyValue) → FitsLayout layout body → AreOfLayout layout (set slots n (Home body))
    home-layouts body fits = each-set (IsSlotOf layout) slots n (Home body) fits of
