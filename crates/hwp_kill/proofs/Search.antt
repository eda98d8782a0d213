-- How the lowest member of a set is found, word by word.
use Rattle.std.proofs.Common.{◌↔◌, Option, Some, None, MatchOption, not, true≢false, ◌≡◌, ℕ, ◌+◌, ◌-◌, ◌*◌, ◌/◌, ◌%◌, ◌<◌, ◌≤◌, Bool, true, false, ◌&&◌, List, length, get_or, slice_index, nat_eq, nat_lt, refl, sym, subst, ap, ◌∙◌, inl, inr, arith}
use Rattle.std.specs.Prelude.{IsTrue, is_some}
use Rattle.std.specs.Cmp.{nat_cmp_total}
use Rattle.std.specs.FinSet.{nat_cmp-IsAntisymmetric}
use Rattle.std.specs.Ordering.{nat_cmp}
use Rattle.std.specs.FinSet as set
use Rattle.std.specs.Int.{bit_at}
use Rattle.std.proofs.lemmas.Bool.{both_ways, cases_lt, and_from, lt-ltb}
use Rattle.std.proofs.lemmas.Grind.{get_or_default_zero}
use Rattle.std.proofs.lemmas.Nat.Bits.{bit_at-zero}
use Rattle.hwp_geom.specs.Bits.{HasNoBitFrom, IsLowestBit}
use Rattle.hwp_geom.specs.declared.VSlot.{VSlot}
use Rattle.hwp_kill.specs.Lowest.{HasNoneFrom, IsLowestFrom}
use Rattle.hwp_kill.specs.Members.{members, behind, EndAt}
use Rattle.hwp_kill.proofs.Holding.{behind-before, behind-from, length-behind, EndAt-all}
use Rattle.hwp_kill.proofs.Membership.{contains-members, and_false}

-- a number whose bit is not set is no member
unset : (words : List ℕ) (v : ℕ) → bit_at (slice_index words (v / 64)) (v % 64) ≡ 0 → set.contains (set.from_list {R = nat_cmp} (members words)) v ≡ false
unset words v none = contains-members words v ∙ ap (λ b. nat_lt v (64 * length words) && nat_eq b 1) none ∙ and_false _

-- nor is one whose word is empty
unset-empty : (words : List ℕ) (v : ℕ) → slice_index words (v / 64) ≡ 0 → set.contains (set.from_list {R = nat_cmp} (members words)) v ≡ false
unset-empty words v empty = unset words v (ap (λ w. bit_at w (v % 64)) empty ∙ bit_at-zero (v % 64))

-- a row of empty words has no member
pub none-member : (words : List ℕ) → EndAt words 0 → set.from_list {R = nat_cmp} (members words) ≡ set.empty
none-member words ends =
    set.same_set nat_cmp_total nat_cmp-IsAntisymmetric _ set.empty (λ v.
    unset-empty words v (ends.empty (v / 64) (omega arith)) ∙ sym (set.contains-empty nat_cmp v))

-- the set has no member from `from` up to `at`
pub record SearchedTo (words : List ℕ) (from at : ℕ) : Type 0 where
  pub not_below : from ≤ at
  pub none : (v : ℕ) → from ≤ v → v < at → set.contains (set.from_list {R = nat_cmp} (members words)) v ≡ false

pub SearchedTo-next : {words : List ℕ} {from at : ℕ} → SearchedTo words from at → HasNoBitFrom (slice_index words (at / 64)) (at % 64)
    → SearchedTo words from ((at / 64 + 1) * 64)
SearchedTo-next {words = words} {from = from} {at = at} before nothing = record {
  not_below = let b = before.not_below in omega arith;
  none = λ v above below. elim (cases_lt v at) [
    | inl earlier ↦ before.none v above earlier
    | inr here ↦ unset words v (ap (λ n. bit_at (slice_index words n) (v % 64)) (omega arith) ∙ nothing (v % 64) (omega arith))
  ];
}

-- a bit that was found is the lowest member
pub found : {words : List ℕ} {from at bit : ℕ} → SearchedTo words from at → at < 64 * length words
    → IsLowestBit (slice_index words (at / 64)) (at % 64) bit → (v : ℕ) → v ≡ at / 64 * 64 + bit → IsLowestFrom (set.from_list (members words)) from v
found {words = words} {from = from} {at = at} {bit = bit} before inside low v sum =
    let b = before.not_below in
    let w = low.within in
    let n = low.not_below in
    let is_set : bit_at (slice_index words (v / 64)) (v % 64) ≡ 1 = ap (λ i. bit_at (slice_index words i) (v % 64)) (omega arith) ∙ ap (λ i. bit_at (slice_index words (at / 64)) i) (omega arith) ∙ low.is_set in
    record {
      member = contains-members words v ∙ and_from _ _ (lt-ltb v (64 * length words) (omega arith)) (ap (λ i. nat_eq i 1) is_set);
      not_below = omega arith;
      lowest = λ u above below. elim (cases_lt u at) [
        | inl earlier ↦ before.none u above earlier
        | inr here ↦ unset words u (ap (λ i. bit_at (slice_index words i) (u % 64)) (omega arith) ∙ low.lowest (u % 64) (omega arith) (omega arith))
      ];
    }

pub none_found : {words : List ℕ} {from at top : ℕ} → SearchedTo words from at → EndAt words top → top * 64 ≤ at → HasNoneFrom (set.from_list (members words)) from
none_found {words = words} {at = at} {top = top} before ends done = λ v above. elim (cases_lt v at) [
  | inl earlier ↦ before.none v above earlier
  | inr past ↦ unset-empty words v (ends.empty (v / 64) (omega arith))
]

-- a search may begin behind the empty words
pub SearchedTo-first : (first : ℕ) (words : List ℕ) (from at : ℕ) → from ≤ at → (first * 64 < at → at ≤ from) → SearchedTo (behind first words) from at
SearchedTo-first first words from at above begun = record {
  not_below = above;
  none = λ v high low. elim (cases_lt v (first * 64)) [
    | inl before ↦ unset-empty (behind first words) v (behind-before first words (v / 64) (omega arith))
    | inr past ↦ absurd (omega (arith, begun (omega arith)))
  ];
}

-- a word of a row that stands behind empty ones, as it is read
read-behind : (first : ℕ) (words : List ℕ) (at w : ℕ) → first * 64 ≤ at → at < (first + length words) * 64
    → w ≡ get_or words (at / 64 - first) w → slice_index (behind first words) (at / 64) ≡ w
read-behind first words at w high low is =
    behind-from first words (at / 64) (omega arith) ∙ sym (get_or_default_zero words (at / 64 - first) w (omega arith)) ∙ sym is

pub SearchedTo-behind : (first : ℕ) (words : List ℕ) (from at w : ℕ) → SearchedTo (behind first words) from at
    → first * 64 ≤ at → at < (first + length words) * 64 → w ≡ get_or words (at / 64 - first) w → HasNoBitFrom w (at % 64)
    → SearchedTo (behind first words) from ((at / 64 + 1) * 64)
SearchedTo-behind first words from at w before high low is nothing =
    SearchedTo-next before (subst (λ x. HasNoBitFrom x (at % 64)) (sym (read-behind first words at w high low is)) nothing)

pub found-behind : (first : ℕ) (words : List ℕ) (from at w bit : ℕ) → SearchedTo (behind first words) from at
    → first * 64 ≤ at → at < (first + length words) * 64 → w ≡ get_or words (at / 64 - first) w → IsLowestBit w (at % 64) bit
    → (v : ℕ) → v ≡ at / 64 * 64 + bit → IsLowestFrom (set.from_list (members (behind first words))) from v
found-behind first words from at w bit before high low is lowest v sum =
    found before (let long = length-behind first words in omega arith)
    (subst (λ x. IsLowestBit x (at % 64) bit) (sym (read-behind first words at w high low is)) lowest) v sum

pub none_found-behind : (first : ℕ) (words : List ℕ) (from at : ℕ) → SearchedTo (behind first words) from at
    → (first + length words) * 64 ≤ at → HasNoneFrom (set.from_list (members (behind first words))) from
none_found-behind first words from at before done =
    none_found before (EndAt-all (behind first words)) (let long = length-behind first words in omega arith)

-- a search from 0 on tells whether the set is empty
pub tells-empty : (slots : set.FinSet nat_cmp) (found : Option VSlot) (r : Bool)
    → MatchOption found (HasNoneFrom slots 0) (λ (v : VSlot). IsLowestFrom slots 0 v.0) → is_some found ≡ not r → IsTrue r ↔ (slots ≡ set.empty)
tells-empty slots None true none tells = (λ yes. set.same_set nat_cmp_total nat_cmp-IsAntisymmetric slots set.empty (λ v. none v (omega arith) ∙ sym (set.contains-empty nat_cmp v)), λ same. refl)
tells-empty slots None false none tells = absurd (both_ways true (sym tells) refl)
tells-empty slots (Some v) true low tells = absurd (both_ways true tells refl)
tells-empty slots (Some v) false low tells = (
  λ no. absurd (both_ways true (sym no) refl),
  λ same. absurd (true≢false (sym low.member ∙ ap (λ s. set.contains s v.0) same ∙ set.contains-empty nat_cmp v.0)),
)
