-- Counting below a number: sums of terms, and how often the members of lists fall on each number.
use Rattle.std.proofs.Common.{◌≡◌, ◌≢◌, ℕ, suc, zero, ◌+◌, ◌*◌, ◌<◌, ◌≤◌, ◌==◌, ◌&&◌, eq-eqb, ne_eqb, Bool, true, false, List, [], ◌∷◌, Some, length, slice_get, inl, inr, refl, sym, ap, ◌∙◌, arith}
use Rattle.std.specs.Int.{from_bool}
use Rattle.std.specs.List.{sum_by}
use Rattle.std.proofs.lemmas.List.Sums.{sum_by-cons}
use Rattle.hwp_core_rule.specs.Lists.{EachMember, EachListed, SomeMember, sum_all}
use Rattle.hwp_core_rule.specs.Words.{sum_below}
use Rattle.hwp_core_rule.proofs.Lists.{same-or, term-le}

pub below-le : (f g : ℕ → ℕ) (n : ℕ) → ((i : ℕ) → i < n → f i ≤ g i) → sum_below f n ≤ sum_below g n
below-le f g zero less = omega arith
below-le f g (suc n) less =
    let last : f n ≤ g n = less n (omega arith) in
    let rest : sum_below f n ≤ sum_below g n = below-le f g n (λ i before. less i (omega arith)) in
    omega arith

pub below-add : (f g : ℕ → ℕ) (n : ℕ) → sum_below (λ i. f i + g i) n ≡ sum_below f n + sum_below g n
below-add f g zero = refl
below-add f g (suc n) = let rest : sum_below (λ i. f i + g i) n ≡ sum_below f n + sum_below g n = below-add f g n in omega arith

pub below-zero : (f : ℕ → ℕ) (n : ℕ) → ((i : ℕ) → i < n → f i ≡ 0) → sum_below f n ≡ 0
below-zero f zero none = refl
below-zero f (suc n) none =
    let last : f n ≡ 0 = none n (omega arith) in
    let rest : sum_below f n ≡ 0 = below-zero f n (λ i before. none i (omega arith)) in
    omega arith

pub never : (a b : Bool) → from_bool (a && (b && false)) ≡ 0
never true true = refl
never true false = refl
never false b = refl

-- each term is at most the sum, and the sum at most so many times what no term passes
pub below-term : (f : ℕ → ℕ) (n i : ℕ) → i < n → f i ≤ sum_below f n
below-term f zero i less = absurd (omega arith)
below-term f (suc n) i less = elim (same-or i n) [
  | inl same ↦ let last : f i ≡ f n = ap f same in omega arith
  | inr other ↦ let rest : f i ≤ sum_below f n = below-term f n i (omega (arith, less, other)) in omega arith
]

pub below-most : (f : ℕ → ℕ) (n k : ℕ) → ((i : ℕ) → i < n → f i ≤ k) → sum_below f n ≤ n * k
below-most f zero k most = omega arith
below-most f (suc n) k most =
    let last : f n ≤ k = most n (omega arith) in
    let rest : sum_below f n ≤ n * k = below-most f n k (λ i before. most i (omega arith)) in
    let product : suc n * k ≡ k + n * k = omega arith in
    omega arith

-- a sum over a list of sums below a number
pub below-swap : {A : Type 0} (g : ℕ → A → ℕ) (l : List A) (n : ℕ) → sum_below (λ i. sum_by (g i) l) n ≡ sum_by (λ (x : A). sum_below (λ i. g i x) n) l
below-swap {A} g [] n = below-zero (λ i. sum_by (g i) []) n (λ i before. refl)
below-swap {A} g (x ∷ xs) n =
    let parts : sum_below (λ i. sum_by (g i) (x ∷ xs)) n ≡ sum_below (λ i. g i x + sum_by (g i) xs) n = ap (λ (f : ℕ → ℕ). sum_below f n) (λ k i. sum_by-cons (g i) x xs k) in
    let apart : sum_below (λ i. g i x + sum_by (g i) xs) n ≡ sum_below (λ i. g i x) n + sum_below (λ i. sum_by (g i) xs) n = below-add (λ i. g i x) (λ i. sum_by (g i) xs) n in
    let rest : sum_below (λ i. sum_by (g i) xs) n ≡ sum_by (λ (y : A). sum_below (λ i. g i y) n) xs = below-swap g xs n in
    let all : sum_by (λ (y : A). sum_below (λ i. g i y) n) (x ∷ xs) ≡ sum_below (λ i. g i x) n + sum_by (λ (y : A). sum_below (λ i. g i y) n) xs = sum_by-cons (λ (y : A). sum_below (λ i. g i y) n) x xs in
    omega arith

-- a number falls on one of the numbers below n at most, and on one where it is below n
pub hit-one : (a : ℕ) (at : ℕ → ℕ) (n : ℕ) → ((i j : ℕ) → i < j → at i ≢ at j) → sum_below (λ i. from_bool (a == at i)) n ≤ 1
hit-one a at zero apart = omega arith
hit-one a at (suc n) apart = elim (same-or a (at n)) [
  | inl same ↦
      let last : from_bool (a == at n) ≡ 1 = ap from_bool (eq-eqb a (at n) same) in
      let rest : sum_below (λ i. from_bool (a == at i)) n ≡ 0 = below-zero (λ i. from_bool (a == at i)) n (λ i before. ap from_bool (ne_eqb a (at i) (λ e. apart i n before (sym e ∙ same)))) in
      omega arith
  | inr other ↦
      let last : from_bool (a == at n) ≡ 0 = ap from_bool (ne_eqb a (at n) other) in
      let rest : sum_below (λ i. from_bool (a == at i)) n ≤ 1 = hit-one a at n apart in
      omega arith
]

module _ {A : Type 0} where
  -- sums of members that are each no more than those of another
  pub sum-le : (f g : A → ℕ) (l : List A) → EachMember (λ (x : A). f x ≤ g x) l → sum_by f l ≤ sum_by g l
  sum-le f g [] each = omega arith
  sum-le f g (x ∷ xs) each =
      let first : f x ≤ g x = each 0 x refl in
      let rest : sum_by f xs ≤ sum_by g xs = sum-le f g xs (λ i y e. each (suc i) y e) in
      let left : sum_by f (x ∷ xs) ≡ f x + sum_by f xs = sum_by-cons f x xs in
      let right : sum_by g (x ∷ xs) ≡ g x + sum_by g xs = sum_by-cons g x xs in
      omega arith

  pub sum-ones : (l : List A) → sum_by (λ (x : A). 1) l ≡ length l
  sum-ones [] = refl
  sum-ones (x ∷ xs) =
      let rest : sum_by (λ (x : A). 1) xs ≡ length xs = sum-ones xs in
      let all : sum_by (λ (x : A). 1) (x ∷ xs) ≡ 1 + sum_by (λ (x : A). 1) xs = sum_by-cons (λ (x : A). 1) x xs in
      omega arith

  pub sum-add : (f g : A → ℕ) (l : List A) → sum_by (λ (x : A). f x + g x) l ≡ sum_by f l + sum_by g l
  sum-add f g [] = refl
  sum-add f g (x ∷ xs) =
      let rest : sum_by (λ (x : A). f x + g x) xs ≡ sum_by f xs + sum_by g xs = sum-add f g xs in
      let both : sum_by (λ (x : A). f x + g x) (x ∷ xs) ≡ f x + g x + sum_by (λ (x : A). f x + g x) xs = sum_by-cons (λ (x : A). f x + g x) x xs in
      let left : sum_by f (x ∷ xs) ≡ f x + sum_by f xs = sum_by-cons f x xs in
      let right : sum_by g (x ∷ xs) ≡ g x + sum_by g xs = sum_by-cons g x xs in
      omega arith

  -- a sum above 0 has a term above 0
  pub some-term : (f : A → ℕ) (l : List A) → 0 < sum_by f l → SomeMember (λ (x : A). 0 < f x) l
  some-term f [] above = absurd (omega arith)
  some-term f (x ∷ xs) above = elim (same-or (f x) 0) [
    | inl none ↦
        let all : sum_by f (x ∷ xs) ≡ f x + sum_by f xs = sum_by-cons f x xs in
        let rest : SomeMember (λ (x : A). 0 < f x) xs = some-term f xs (omega arith) in
        (suc rest.0, rest.1, rest.2, rest.3)
    | inr some ↦ (0, x, refl, omega arith)
  ]

module _ {A : Type 0} where
  -- the members of a list fall on the numbers below n, each on one at most
  pub hits-le : (at : A → ℕ) (l : List A) (n : ℕ) → sum_below (λ i. sum_by (λ (x : A). from_bool (at x == i)) l) n ≤ length l
  hits-le at l n =
      let swapped : sum_below (λ i. sum_by (λ (x : A). from_bool (at x == i)) l) n ≡ sum_by (λ (x : A). sum_below (λ i. from_bool (at x == i)) n) l = below-swap (λ i (x : A). from_bool (at x == i)) l n in
      let few : sum_by (λ (x : A). sum_below (λ i. from_bool (at x == i)) n) l ≤ sum_by (λ (x : A). 1) l =
      sum-le (λ (x : A). sum_below (λ i. from_bool (at x == i)) n) (λ (x : A). 1) l (λ j x e. hit-one (at x) (λ i. i) n (λ i k less e. let e : i ≡ k = e in omega arith)) in
      let ones : sum_by (λ (x : A). 1) l ≡ length l = sum-ones l in
      omega arith

module _ {A : Type 0} where
  -- the same of all lists of a list
  pub hits-all-le : (at : A → ℕ) (ls : List (List A)) (n : ℕ) → sum_below (λ i. sum_all (λ (x : A). from_bool (at x == i)) ls) n ≤ sum_by (λ (l : List A). length l) ls
  hits-all-le at ls n =
      let swapped : sum_below (λ i. sum_all (λ (x : A). from_bool (at x == i)) ls) n ≡ sum_by (λ (l : List A). sum_below (λ i. sum_by (λ (x : A). from_bool (at x == i)) l) n) ls =
      below-swap (λ i (l : List A). sum_by (λ (x : A). from_bool (at x == i)) l) ls n in
      let few : sum_by (λ (l : List A). sum_below (λ i. sum_by (λ (x : A). from_bool (at x == i)) l) n) ls ≤ sum_by (λ (l : List A). length l) ls =
      sum-le (λ (l : List A). sum_below (λ i. sum_by (λ (x : A). from_bool (at x == i)) l) n) (λ (l : List A). length l) ls (λ j l e. hits-le at l n) in
      omega arith

module _ {A : Type 0} where
  -- sums over all lists of a list
  pub all-le : (f g : A → ℕ) (ls : List (List A)) → EachListed (λ (x : A). f x ≤ g x) ls → sum_all f ls ≤ sum_all g ls
  all-le f g ls each = sum-le (sum_by f) (sum_by g) ls (λ i l e. sum-le f g l (each i l e))

  pub all-swap : (g : ℕ → A → ℕ) (ls : List (List A)) (n : ℕ) → sum_below (λ i. sum_all (g i) ls) n ≡ sum_all (λ (x : A). sum_below (λ i. g i x) n) ls
  all-swap g ls n = below-swap (λ i (l : List A). sum_by (g i) l) ls n ∙ ap (λ (s : List A → ℕ). sum_by s ls) (λ k l. below-swap g l n k)

  pub all-term : (f : A → ℕ) (ls : List (List A)) (i j : ℕ) (l : List A) (x : A) → slice_get ls i ≡ Some l → slice_get l j ≡ Some x → f x ≤ sum_all f ls
  all-term f ls i j l x at listed =
      let mine : f x ≤ sum_by f l = term-le f l j x listed in
      let all : sum_by f l ≤ sum_all f ls = term-le (sum_by f) ls i l at in
      omega arith
