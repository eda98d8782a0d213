-- The first line of which something is true, of what is found one after the other.
use Rattle.std.proofs.Common.{◌≡◌, ◌⊎◌, inl, inr, ℕ, ◌<◌, ◌≤◌, min, Bool, true, false, cond, Option, Some, None, refl, subst, arith}
use Rattle.std.proofs.lemmas.Bool.{cases_lt}
use Rattle.hwp_check_rules.specs.Firsts.{IsLeast, sooner_if, soonest}
use Rattle.hwp_check_state.specs.Handles.{IsFirst}

-- it is true of the same lines
pub first-same : (P Q : ℕ → Type 0) → ((l : ℕ) → P l → Q l) → ((l : ℕ) → Q l → P l) → (found : Option ℕ) → IsFirst P found → IsFirst Q found
first-same P Q to from None none = λ l q. none l (from l q)
first-same P Q to from (Some m) least = record { at = to m least.at; first = λ l q. least.first l (from l q) }

-- it is true where one of two is
module _ (P Q R : ℕ → Type 0) (one : (l : ℕ) → P l → R l) (other : (l : ℕ) → Q l → R l) (which : (l : ℕ) → R l → P l ⊎ Q l) where
  pub first-both : (a b : Option ℕ) → IsFirst P a → IsFirst Q b → IsFirst R (soonest a b)
  first-both None None none nor = λ l r. elim (which l r) [
    | inl p ↦ none l p
    | inr q ↦ nor l q
  ]
  first-both (Some m) None least nor = record {
    at = one m least.at;
    first = λ l r. elim (which l r) [
      | inl p ↦ least.first l p
      | inr q ↦ absurd (nor l q)
    ];
  }
  first-both None (Some n) none least = record {
    at = other n least.at;
    first = λ l r. elim (which l r) [
      | inl p ↦ absurd (none l p)
      | inr q ↦ least.first l q
    ];
  }
  first-both (Some m) (Some n) least low = lower (cases_lt m n)
    where
      lowest : (l : ℕ) → (m ≤ l) ⊎ (n ≤ l) → min m n ≤ l
      lowest l (inl less) = omega (arith, less)
      lowest l (inr less) = omega (arith, less)

      after : (l : ℕ) → R l → (m ≤ l) ⊎ (n ≤ l)
      after l r = elim (which l r) [
        | inl p ↦ inl (least.first l p)
        | inr q ↦ inr (low.first l q)
      ]

      lower : (m < n) ⊎ (n ≤ m) → IsLeast R (min m n)
      lower (inl less) = record { at = let is : m ≡ min m n = omega (arith, less) in subst R is (one m least.at); first = λ l r. lowest l (after l r) }
      lower (inr less) = record { at = let is : n ≡ min m n = omega (arith, less) in subst R is (other n low.at); first = λ l r. lowest l (after l r) }

-- a line that was found only where it counts
pub soon-if : (counts : Bool) (found : Option ℕ) (line : ℕ) → soonest found (cond counts (Some line) None) ≡ sooner_if counts found line
soon-if true found line = refl
soon-if false found line = refl
