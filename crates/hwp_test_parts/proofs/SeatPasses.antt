-- The passes of two seats that hold nothing are all that a table has.
use Rattle.std.proofs.Common.{◌≡◌, ℕ, zero, suc, ◌<◌, ◌+◌, List, [], ◌∷◌, ◌++◌, length, map, slice_get, refl, sym, ap, ◌∙◌, subst, arith}
use Rattle.std.proofs.lemmas.List.{length-append}
use Rattle.std.proofs.lemmas.Option.{none-some, same_Some}
use Rattle.hwp_core.specs.hwp_geom.declared.Layout.{Layout}
use Rattle.hwp_core.specs.hwp_core_rule.declared.View.{View}
use Rattle.hwp_core.specs.hwp_core_rule.Lists.{EachMember}
use Rattle.hwp_core.specs.hwp_core_rule.Opening.{below, opening, opening_view}
use Rattle.hwp_core.specs.hwp_core_rule.parts.Holdings.{HoldsNothing}
use Rattle.hwp_core.proofs.of_hwp_core_rule.Lists.{each-map}
use Rattle.hwp_table.specs.Seats.{AreSeats}
use Rattle.hwp_table.specs.hwp_table_words.Ends.{HasAll}
use Rattle.hwp_table.specs.hwp_table_words.Known.{joined, views_for}
use Rattle.hwp_table.specs.hwp_table_words.Seats.{SeatValue, mine}

blank : (c : ℕ) → HoldsNothing (opening_view c)
blank c = record { refs = refl; locks = refl; pages = refl; reserved = refl; hands = refl; owed = refl; bodies = refl }

-- the views of two processors at opening
abbrev both : List (ℕ × View)
both = (0, opening_view 0) ∷ (1, opening_view 1) ∷ []

both-there : (c : ℕ) → c < 2 → 0 < views_for c both
both-there zero less = let one : views_for 0 both ≡ 1 = refl in omega (arith, one)
both-there (suc zero) less = let one : views_for 1 both ≡ 1 = refl in omega (arith, one)
both-there (suc (suc c)) less = absurd (omega (arith, less))

both-bare : EachMember (λ (x : ℕ × View). HoldsNothing x.1) both
both-bare zero x e = subst (λ (y : ℕ × View). HoldsNothing y.1) (same_Some (0, opening_view 0) x e) (blank 0)
both-bare (suc zero) x e = subst (λ (y : ℕ × View). HoldsNothing y.1) (same_Some (1, opening_view 1) x e) (blank 1)
both-bare (suc (suc i)) x e = absurd (none-some x e)

-- no seat holds anything at opening
pub nothing-open : (layout : Layout) → EachMember HoldsNothing (opening layout).views
nothing-open layout = each-map opening_view HoldsNothing (below layout.cpus) (λ i c e. blank c)

-- the seats of a machine of two processors, taken off the end of their list
pub two-seats : (id : _) (layout : Layout) (seats all rest front : List SeatValue) (a b : SeatValue) → AreSeats id layout seats → layout.cpus ≡ 2
    → all ≡ seats → all ≡ rest ++ b ∷ [] → rest ≡ front ++ a ∷ [] → seats ≡ a ∷ b ∷ []
two-seats id layout seats all rest [] a b are cpus whole last first = sym whole ∙ last ∙ ap (λ (l : List SeatValue). l ++ b ∷ []) first
two-seats id layout seats all rest (x ∷ xs) a b are cpus whole last first =
    let front : length rest ≡ suc (length xs) + 1 = ap length first ∙ length-append (x ∷ xs) (a ∷ []) in
    let count : length seats ≡ length rest + 1 = sym (ap length whole) ∙ ap length last ∙ length-append rest (b ∷ []) in
    absurd (omega (arith, front, count, are.count, cpus))

module _ (id : _) (layout : Layout) (seats : List SeatValue) (a b : SeatValue) (of-all : AreSeats id layout seats) (two : seats ≡ a ∷ b ∷ []) where
  are : AreSeats id layout (a ∷ b ∷ [])
  are = subst (AreSeats id layout) two of-all

  pub first-table : a.table ≡ id
  first-table = (are.each 0 a refl).table

  pub second-table : b.table ≡ id
  second-table = (are.each 1 b refl).table

  -- at opening their passes are all that the table has
  module _ (views : map mine seats ≡ (opening layout).views) where
    views-are : mine a ∷ mine b ∷ [] ≡ opening_view 0 ∷ opening_view 1 ∷ []
    views-are = ap (map mine) (sym two) ∙ views ∙ ap (λ (n : ℕ). map opening_view (below n)) (sym are.count)

    first-is : mine a ≡ opening_view 0
    first-is = same_Some (mine a) (opening_view 0) (ap (λ (l : List View). slice_get l 0) views-are)

    second-is : mine b ≡ opening_view 1
    second-is = same_Some (mine b) (opening_view 1) (ap (λ (l : List View). slice_get l 1) views-are)

    mines-are : (joined a.known b.known).mines ≡ both
    mines-are =
        let first = are.each 0 a refl in
        let second = are.each 1 b refl in
        let front : a.known.mines ≡ (0, opening_view 0) ∷ [] = first.one ∙ (λ i. (first.number_is i, first-is i) ∷ []) in
        let back : b.known.mines ≡ (1, opening_view 1) ∷ [] = second.one ∙ (λ i. (second.number_is i, second-is i) ∷ []) in
        λ i. front i ++ back i

    pub all-joined : HasAll layout (joined a.known b.known)
    all-joined = record {
      all = λ c less. subst (λ (l : List (ℕ × View)). 0 < views_for c l) (sym mines-are) (both-there c (omega (arith, less, are.count)));
      nothing = subst (EachMember (λ (x : ℕ × View). HoldsNothing x.1)) (sym mines-are) both-bare;
    }
