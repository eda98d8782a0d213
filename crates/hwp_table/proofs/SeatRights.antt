-- All rights go from one seat to another: what each knows of its processor stays, and so does the whole.
use Rattle.std.proofs.Common.{◌≡◌, ℕ, ◌+◌, ◌<◌, ◌==◌, List, ◌++◌, inl, inr, map, set, slice_get, refl, sym, ap, ◌∙◌, subst, arith}
use Rattle.std.specs.Prelude.{Option, Some, None}
use Rattle.std.proofs.lemmas.List.{length-set, map-set}
use Rattle.std.proofs.lemmas.Option.{same_Some}
use Rattle.std.proofs.lemmas.List.Sums.{sum_by-append}
use Rattle.std.specs.Int.{from_bool}
use Rattle.atomic_table.specs.Seated.{TableId}
use Rattle.hwp_core_rule.specs.hwp_geom.declared.Layout.{Layout}
use Rattle.hwp_core_rule.proofs.Lists.{at_set, at_map, set_again, set_here}
use Rattle.hwp_table_words.specs.Known.{Whole, either_whole, times}
use Rattle.hwp_table_words.specs.Seats.{SeatValue, mine}
use Rattle.hwp_table.specs.Seats.{AreSeats, Handed, IsHandedOver, IsHeld, IsSeatOf, with_rights, without_rights, whole_at, whole_in, whole_of}

-- what a seat that is there knows of the whole
pub whole-there : (seats : List SeatValue) (i : ℕ) (s : SeatValue) (w : Whole) → slice_get seats i ≡ Some s → s.known.whole ≡ Some w → whole_at seats i ≡ w
whole-there seats i s w at is = ap whole_of at ∙ ap whole_in is

-- a seat that changes, but for its table and its processor
pub seats-set : (id : TableId) (layout : Layout) (seats : List SeatValue) (i : ℕ) (s : SeatValue) → AreSeats id layout seats → IsSeatOf id layout i s → AreSeats id layout (set seats i s)
seats-set id layout seats i s are is = record {
  count = length-set seats i s ∙ are.count;
  each = λ j t at. elim (at_set seats i j s t at) [
    | inl e ↦ subst (λ (n : ℕ). IsSeatOf id layout n t) (sym e.0) (subst (IsSeatOf id layout i) e.1 is)
    | inr e ↦ are.each j t e.1
  ];
}

-- one that changes but for its view
pub mines-set : (seats : List SeatValue) (i : ℕ) (s t : SeatValue) → slice_get seats i ≡ Some s → mine t ≡ mine s → map mine (set seats i t) ≡ map mine seats
mines-set seats i s t at same = map-set mine seats i t ∙ set_again (map mine seats) i (mine t) (at_map mine seats i s at ∙ ap Some (sym same))

module _ (id : TableId) (layout : Layout) (a b : List SeatValue) (from to : ℕ) (w : Whole) (are : AreSeats id layout a) (held : IsHeld layout a from w) (h : Handed a b from to) where
  abbrev mid : List SeatValue
  mid = set a from (without_rights h.giver)

  giver-is : held.seat ≡ h.giver
  giver-is = same_Some held.seat h.giver (sym held.there ∙ h.from_there)

  are-mid : AreSeats id layout mid
  are-mid = let of = are.each from h.giver h.from_there in seats-set id layout a from (without_rights h.giver) are (record { table = of.table; layout_is = of.layout_is; number_is = of.number_is; one = of.one })

  -- no seat has rights now that knows the whole
  none-mid : (i : ℕ) (s : SeatValue) → slice_get mid i ≡ Some s → s.known.whole ≡ None
  none-mid i s at = elim (at_set a from i (without_rights h.giver) s at) [
    | inl e ↦ ap (λ (t : SeatValue). t.known.whole) (sym e.1)
    | inr e ↦ held.others i s e.0 e.1
  ]

  are-handed : AreSeats id layout b
  are-handed = let of = are-mid.each to h.taker h.to_there in
      subst (AreSeats id layout) (sym h.next) (seats-set id layout mid to (with_rights h.taker h.giver.known) are-mid (record { table = of.table; layout_is = of.layout_is; number_is = of.number_is; one = of.one }))

  whole-now : either_whole h.taker.known.whole h.giver.known.whole ≡ Some w
  whole-now = ap (λ (o : Option Whole). either_whole o h.giver.known.whole) (none-mid to h.taker h.to_there) ∙ ap (λ (s : SeatValue). s.known.whole) (sym giver-is) ∙ held.whole

  all-now : (c : ℕ) → c < layout.cpus → 0 < times c (h.taker.known.rights ++ h.giver.known.rights)
  all-now c less =
      let has : 0 < times c h.giver.known.rights = subst (λ (s : SeatValue). 0 < times c s.known.rights) giver-is (held.all c less) in
      let all : times c (h.taker.known.rights ++ h.giver.known.rights) ≡ times c h.taker.known.rights + times c h.giver.known.rights = sum_by-append (λ (m : ℕ). from_bool (m == c)) h.taker.known.rights h.giver.known.rights in
      omega (arith, has, all)

  held-set : IsHeld layout (set mid to (with_rights h.taker h.giver.known)) to w
  held-set = record {
    seat = with_rights h.taker h.giver.known;
    there = set_here mid to (with_rights h.taker h.giver.known) h.taker h.to_there;
    whole = whole-now;
    all = all-now;
    others = λ i s other at. elim (at_set mid to i (with_rights h.taker h.giver.known) s at) [
      | inl e ↦ absurd (other e.0)
      | inr e ↦ none-mid i s e.1
    ];
  }

  held-handed : IsHeld layout b to w
  held-handed = subst (λ (l : List SeatValue). IsHeld layout l to w) (sym h.next) held-set

  mines-handed : map mine b ≡ map mine a
  mines-handed = ap (map mine) h.next ∙ mines-set mid to h.taker (with_rights h.taker h.giver.known) h.to_there refl ∙ mines-set a from h.giver (without_rights h.giver) h.from_there refl

module _ (id : TableId) (layout : Layout) (a b : List SeatValue) (from to : ℕ) (w : Whole) (are : AreSeats id layout a) (held : IsHeld layout a from w) (has : IsHandedOver a b from to) where
  pub are-now : AreSeats id layout b
  are-now = elim has [
    | inl e ↦ subst (AreSeats id layout) (sym e.1) are
    | inr h ↦ are-handed id layout a b from to w are held h
  ]

  pub held-now : IsHeld layout b to w
  held-now = elim has [
    | inl e ↦ subst (λ (l : List SeatValue). IsHeld layout l to w) (sym e.1) (subst (λ (n : ℕ). IsHeld layout a n w) e.0 held)
    | inr h ↦ held-handed id layout a b from to w are held h
  ]

  pub mines-now : map mine b ≡ map mine a
  mines-now = elim has [
    | inl e ↦ ap (map mine) e.1
    | inr h ↦ mines-handed id layout a b from to w are held h
  ]
