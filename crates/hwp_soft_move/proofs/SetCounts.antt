-- The members of a set, counted one after the other.
use Rattle.std.proofs.Common.{◌≡◌, ◌⊎◌, inl, inr, ℕ, zero, suc, ◌+◌, ◌-◌, ◌<◌, ◌≤◌, true, Option, Some, None, refl, ap, subst, arith}
use Rattle.std.proofs.lemmas.Bool.{both_ways, cases_lt}
use Rattle.std.specs.FinSet as set
use Rattle.std.specs.Ordering.{nat_cmp}
use Rattle.hwp_claim_frame.specs.hwp_geom.declared.VSlot.{VSlot}
use Rattle.hwp_claim_frame.specs.hwp_kill.Lowest.{HasNoneFrom, IsLowestFrom}
use Rattle.hwp_claim_frame.specs.hwp_kill.Limits.{slot_limit}
use Rattle.hwp_claim_frame.specs.hwp_core.Clears.{IsNextFrom}
use Rattle.hwp_soft_move.specs.Remaps.{CountsOn, IsCount}

-- so many members below `at` were counted: whatever number follows, all are the sum
pub record Counted (slots : set.FinSet nat_cmp) (count at : ℕ) : Type 0 where
  pub within : at ≤ slot_limit
  pub few : count ≤ at
  pub goes : (next : Option VSlot) (n : ℕ) → IsNextFrom slots at next → CountsOn slots next n → IsCount slots (count + n)

pub counted-next : {slots : set.FinSet nat_cmp} {count at : ℕ} (found : VSlot) → Counted slots count at → IsLowestFrom slots at found.0 → found.0 < slot_limit → Counted slots (count + 1) (found.0 + 1)
counted-next {slots} {count} {at} found so_far low inside = record {
  within = omega (arith, inside);
  few = let above : at ≤ found.0 = low.not_below in omega (arith, so_far.few, above);
  goes = λ next n next-low counts. subst (IsCount slots) (let same : count + suc n ≡ count + 1 + n = omega arith in same) (so_far.goes (Some found) (suc n) (inside, low) (next, next-low, counts));
}

pub counted-all : {slots : set.FinSet nat_cmp} {count at : ℕ} → Counted slots count at → HasNoneFrom slots at → IsCount slots count
counted-all {slots} {count} so_far none = subst (IsCount slots) (let same : count + 0 ≡ count = omega arith in same) (so_far.goes None 0 none refl)

-- ---- one is the next

same-slot : (x y : VSlot) → x.0 ≡ y.0 → x ≡ y
same-slot x y same i = record { 0 = same i }

pub one-next : (slots : set.FinSet nat_cmp) (from : ℕ) (x y : Option VSlot) → IsNextFrom slots from x → IsNextFrom slots from y → x ≡ y
one-next slots from None None none other = refl
one-next slots from None (Some y) none low = absurd (both_ways (set.contains slots y.0) (none y.0 low.1.not_below) low.1.member)
one-next slots from (Some x) None low none = absurd (both_ways (set.contains slots x.0) (none x.0 low.1.not_below) low.1.member)
one-next slots from (Some x) (Some y) low other = ap (λ (v : VSlot). Some v) (same-slot x y (which (cases_lt x.0 y.0)))
  where
    which : (x.0 < y.0) ⊎ (y.0 ≤ x.0) → x.0 ≡ y.0
    which (inl less) = absurd (both_ways (set.contains slots x.0) (other.1.lowest x.0 low.1.not_below less) low.1.member)
    which (inr not) = by (cases_lt y.0 x.0)
      where
        by : (y.0 < x.0) ⊎ (x.0 ≤ y.0) → x.0 ≡ y.0
        by (inl less) = absurd (both_ways (set.contains slots y.0) (low.1.lowest y.0 other.1.not_below less) other.1.member)
        by (inr neither) = omega (arith, not, neither)

-- behind a member one fewer is left
pub one-fewer : (slots : set.FinSet nat_cmp) (slot : VSlot) (next : Option VSlot) (n : ℕ) → CountsOn slots (Some slot) n → IsNextFrom slots (slot.0 + 1) next → (k : ℕ) × (n ≡ k + 1) × CountsOn slots next k
one-fewer slots slot next zero counts low = absurd counts
one-fewer slots slot next (suc n) counts low = (n, (let same : suc n ≡ n + 1 = omega arith in same), subst (λ (x : Option VSlot). CountsOn slots x n) (one-next slots (slot.0 + 1) counts.0 next counts.1 low) counts.2)

-- there are no more members than numbers below which all are
pub few-on : (slots : set.FinSet nat_cmp) (limit : ℕ) → ((v : ℕ) → set.contains slots v ≡ true → v < limit) → (next : Option VSlot) (from n : ℕ) → IsNextFrom slots from next → CountsOn slots next n → n ≤ limit - from
few-on slots limit all None from n low counts = omega (arith, counts)
few-on slots limit all (Some slot) from zero low counts = absurd counts
few-on slots limit all (Some slot) from (suc n) low counts =
    let less : n ≤ limit - (slot.0 + 1) = few-on slots limit all counts.0 (slot.0 + 1) n counts.1 counts.2 in
    let inside : slot.0 < limit = all slot.0 low.1.member in
    let above : from ≤ slot.0 = low.1.not_below in
    omega (arith, less, inside, above)
