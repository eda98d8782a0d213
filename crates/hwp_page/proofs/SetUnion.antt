-- How one set of translations is put into another, member by member.
use Rattle.std.proofs.Common.{◌↔◌, Option, Some, None, MatchOption, not, true≢false, ◌≡◌, ℕ, ◌+◌, ◌<◌, ◌≤◌, Bool, true, false, ◌&&◌, ◌||◌, nat_eq, nat_lt, refl, sym, ap, ◌∙◌, inl, inr, arith}
use Rattle.std.specs.Prelude.{IsTrue, is_some}
use Rattle.std.specs.Ordering.{nat_cmp}
use Rattle.std.specs.Cmp.{nat_cmp_total, unsigned_tied}
use Rattle.std.specs.FinSet as set
use Rattle.std.specs.FinSet.{nat_cmp-IsAntisymmetric}
use Rattle.std.proofs.lemmas.Bool.{cases_lt}
use Rattle.std.proofs.lemmas.Bool.Decides.{nat_tests}
use Rattle.hwp_kill.specs.hwp_geom.declared.VSlot.{VSlot}
use Rattle.hwp_kill.specs.Lowest.{HasNoneFrom, IsLowestFrom}
use Rattle.hwp_kill.specs.Limits.{slot_limit}

-- the members of `slots` below `at` were put into what was `start`
pub record Gathered (start slots into : set.FinSet nat_cmp) (at : ℕ) : Type 0 where
  pub within : at ≤ slot_limit
  pub each : (v : ℕ) → set.contains into v ≡ (set.contains start v || (set.contains slots v && nat_lt v at))

at_found : (v found at : ℕ) (s : Bool) → v ≡ found → (nat_eq v found || (s || (true && nat_lt v at))) ≡ (s || (true && nat_lt v (found + 1)))
at_found v found at true same = grind (arith, nat_tests)
at_found v found at false same = grind (arith, nat_tests)

before : (v found at : ℕ) (s t : Bool) → v < at → at ≤ found → (nat_eq v found || (s || (t && nat_lt v at))) ≡ (s || (t && nat_lt v (found + 1)))
before v found at true t low high = grind (arith, nat_tests)
before v found at false true low high = grind (arith, nat_tests)
before v found at false false low high = grind (arith, nat_tests)

between : (v found at : ℕ) (s : Bool) → v < found → (nat_eq v found || (s || (false && nat_lt v at))) ≡ (s || (false && nat_lt v (found + 1)))
between v found at true high = grind (arith, nat_tests)
between v found at false high = grind (arith, nat_tests)

past : (v found at : ℕ) (s t : Bool) → found < v → at ≤ found → (nat_eq v found || (s || (t && nat_lt v at))) ≡ (s || (t && nat_lt v (found + 1)))
past v found at true t high low = grind (arith, nat_tests)
past v found at false true high low = grind (arith, nat_tests)
past v found at false false high low = grind (arith, nat_tests)

one_more : (start slots : set.FinSet nat_cmp) (at found v : ℕ) → IsLowestFrom slots at found
    → (nat_eq v found || (set.contains start v || (set.contains slots v && nat_lt v at)))
    ≡ (set.contains start v || (set.contains slots v && nat_lt v (found + 1)))
one_more start slots at found v low =
    let above = low.not_below in
    elim (cases_lt v at) [
      | inl early ↦ before v found at (set.contains start v) (set.contains slots v) early above
      | inr late ↦ elim (cases_lt v found) [
        | inl below ↦ rw (low.lowest v late below) (between v found at (set.contains start v) below)
        | inr not_below ↦ elim (cases_lt found v) [
          | inl further ↦ past v found at (set.contains start v) (set.contains slots v) further above
          | inr here ↦
              let same : v ≡ found = omega arith in
              let member : set.contains slots v ≡ true = ap (set.contains slots) same ∙ low.member in
              rw member (at_found v found at (set.contains start v) same)
        ]
      ]
    ]

pub Gathered-next : {start slots into : set.FinSet nat_cmp} {at : ℕ} (found : ℕ) → Gathered start slots into at → IsLowestFrom slots at found → found < slot_limit
    → Gathered start slots (set.insert into found) (found + 1)
Gathered-next {start = start} {slots = slots} {into = into} {at = at} found so_far low inside = record {
  within = omega arith;
  each = λ v.
      set.contains-insert nat_cmp_total into found v
      ∙ ap (λ b. b || set.contains into v) (unsigned_tied v found)
      ∙ ap (λ b. nat_eq v found || b) (so_far.each v)
      ∙ one_more start slots at found v low;
}

below_all : (v at : ℕ) (s t : Bool) → v < at → (s || (t && nat_lt v at)) ≡ (s || t)
below_all v at true t low = refl
below_all v at false true low = grind (arith, nat_tests)
below_all v at false false low = refl

all_below : (start slots : set.FinSet nat_cmp) (at v : ℕ) → HasNoneFrom slots at
    → (set.contains start v || (set.contains slots v && nat_lt v at)) ≡ (set.contains start v || set.contains slots v)
all_below start slots at v none = elim (cases_lt v at) [
  | inl low ↦ below_all v at (set.contains start v) (set.contains slots v) low
  | inr high ↦ rw (none v high) refl
]

pub Gathered-all : {start slots into : set.FinSet nat_cmp} {at : ℕ} → Gathered start slots into at → HasNoneFrom slots at → into ≡ set.union start slots
Gathered-all {start = start} {slots = slots} {into = into} {at = at} so_far none =
    set.same_set nat_cmp_total nat_cmp-IsAntisymmetric into (set.union start slots) (λ v.
    so_far.each v ∙ all_below start slots at v none ∙ sym (set.contains-union nat_cmp_total start slots v))

-- a set that has no member from 0 on is empty
pub none_is_empty : (slots : set.FinSet nat_cmp) → HasNoneFrom slots 0 → slots ≡ set.empty
none_is_empty slots none =
    set.same_set nat_cmp_total nat_cmp-IsAntisymmetric slots set.empty (λ v. none v (omega arith) ∙ sym (set.contains-empty nat_cmp v))

pub is_empty_is : (slots : set.FinSet nat_cmp) (found : Option VSlot) (r : Bool)
    → MatchOption found (HasNoneFrom slots 0) (λ (v : VSlot). IsLowestFrom slots 0 v.0) → is_some found ≡ not r → IsTrue r ↔ (slots ≡ set.empty)
is_empty_is slots None true none tells = (λ yes. none_is_empty slots none, λ same. refl)
is_empty_is slots None false none tells = absurd (cc)
is_empty_is slots (Some v) true low tells = absurd (cc)
is_empty_is slots (Some v) false low tells = (
  λ no. absurd (cc),
  λ same. absurd (true≢false (sym low.member ∙ ap (λ s. set.contains s v.0) same ∙ set.contains-empty nat_cmp v.0)),
)
