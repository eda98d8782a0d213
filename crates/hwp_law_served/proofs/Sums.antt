-- Sums over lists: of one member alone, and split by a number that each member has.
use Rattle.std.proofs.Common.{◌≡◌, ◌≢◌, ℕ, zero, suc, ◌+◌, ◌<◌, ◌==◌, eq-eqb, ne_eqb, Bool, cond, List, [], ◌∷◌, ◌++◌, Some, flat_map, length, slice_get, inl, inr, refl, sym, ap, ◌∙◌, arith}
use Rattle.std.specs.List.{sum_by}
use Rattle.std.proofs.lemmas.List.Sums.{sum_by-append, sum_by-cons}
use Rattle.std.proofs.lemmas.Option.{none-some, same_Some}
use Rattle.hwp_plain.specs.hwp_core_rule.Lists.{EachMember}
use Rattle.hwp_plain.specs.hwp_core_rule.Words.{sum_below}
use Rattle.hwp_plain.proofs.of_hwp_core_rule.CountsBelow.{below-swap, below-zero}
use Rattle.hwp_plain.proofs.of_hwp_core_rule.Lists.{same-or, sum-zero}

-- the sum of equal terms
pub sum-same : {A : Type 0} (f g : A → ℕ) (l : List A) → EachMember (λ (x : A). f x ≡ g x) l → sum_by f l ≡ sum_by g l
sum-same f g [] each = refl
sum-same {A} f g (x ∷ xs) each =
    let first : f x ≡ g x = each 0 x refl in
    let rest : sum_by f xs ≡ sum_by g xs = sum-same f g xs (λ i y there. each (suc i) y there) in
    let one : sum_by f (x ∷ xs) ≡ f x + sum_by f xs = sum_by-cons f x xs in
    let other : sum_by g (x ∷ xs) ≡ g x + sum_by g xs = sum_by-cons g x xs in
    omega arith

-- a sum in which one member alone counts
pub sum-one : {A : Type 0} (f : A → ℕ) (l : List A) (i : ℕ) (x : A) → slice_get l i ≡ Some x → ((j : ℕ) (y : A) → j ≢ i → slice_get l j ≡ Some y → f y ≡ 0) → sum_by f l ≡ f x
sum-one f [] i x there none = absurd (none-some x there)
sum-one {A} f (y ∷ ys) zero x there none =
    let first : f y ≡ f x = ap f (same_Some y x there) in
    let rest : sum_by f ys ≡ 0 = sum-zero f ys (λ j z at. none (suc j) z (λ same. let no_ : suc j ≡ 0 = same in omega arith) at) in
    let both : sum_by f (y ∷ ys) ≡ f y + sum_by f ys = sum_by-cons f y ys in
    omega arith
sum-one {A} f (y ∷ ys) (suc i) x there none =
    let first : f y ≡ 0 = none 0 y (λ same. let no_ : 0 ≡ suc i = same in omega arith) refl in
    let rest : sum_by f ys ≡ f x = sum-one f ys i x there (λ j z differs at. none (suc j) z (λ same. differs (let is : suc j ≡ suc i = same in let less : j ≡ i = omega arith in less)) at) in
    let both : sum_by f (y ∷ ys) ≡ f y + sum_by f ys = sum_by-cons f y ys in
    omega arith

-- a sum over the members of lists
pub flat-sum : {A B : Type 0} (g : B → ℕ) (f : A → List B) (l : List A) → sum_by g (flat_map f l) ≡ sum_by (λ (x : A). sum_by g (f x)) l
flat-sum g f [] = refl
flat-sum {A} {B} g f (x ∷ xs) =
    let rest : sum_by g (flat_map f xs) ≡ sum_by (λ (y : A). sum_by g (f y)) xs = flat-sum g f xs in
    let both : sum_by g (f x ++ flat_map f xs) ≡ sum_by g (f x) + sum_by g (flat_map f xs) = sum_by-append g (f x) (flat_map f xs) in
    let all : sum_by (λ (y : A). sum_by g (f y)) (x ∷ xs) ≡ sum_by g (f x) + sum_by (λ (y : A). sum_by g (f y)) xs = sum_by-cons (λ (y : A). sum_by g (f y)) x xs in
    omega (arith, rest, both, all)

-- ---- sums below a number

pub below-same : (f g : ℕ → ℕ) (n : ℕ) → ((i : ℕ) → i < n → f i ≡ g i) → sum_below f n ≡ sum_below g n
below-same f g zero same = refl
below-same f g (suc n) same =
    let last : f n ≡ g n = same n (omega arith) in
    let rest : sum_below f n ≡ sum_below g n = below-same f g n (λ i before. same i (omega arith)) in
    omega arith

-- what one number alone has
pub below-one : (a k n : ℕ) → a < n → sum_below (λ i. cond (a == i) k 0) n ≡ k
below-one a k zero less = absurd (omega arith)
below-one a k (suc n) less = elim (same-or a n) [
  | inl same ↦
      let last : cond (a == n) k 0 ≡ k = ap (λ (b : Bool). cond b k 0) (eq-eqb a n same) in
      let rest : sum_below (λ i. cond (a == i) k 0) n ≡ 0 = below-zero (λ i. cond (a == i) k 0) n (λ i before. ap (λ (b : Bool). cond b k 0) (ne_eqb a i (λ is. let no_ : a ≡ i = is in omega (arith, same, before, no_)))) in
      omega arith
  | inr other ↦
      let last : cond (a == n) k 0 ≡ 0 = ap (λ (b : Bool). cond b k 0) (ne_eqb a n other) in
      let rest : sum_below (λ i. cond (a == i) k 0) n ≡ k = below-one a k n (omega (arith, less, other)) in
      omega arith
]

-- the first term apart
pub below-front : (g : ℕ → ℕ) (n : ℕ) → sum_below g (suc n) ≡ g 0 + sum_below (λ i. g (suc i)) n
below-front g zero = omega arith
below-front g (suc n) =
    let rest : sum_below g (suc n) ≡ g 0 + sum_below (λ i. g (suc i)) n = below-front g n in
    omega arith

-- a sum over a list is one over its places
pub list-below : {A : Type 0} (f : A → ℕ) (g : ℕ → ℕ) (l : List A) → ((i : ℕ) (x : A) → slice_get l i ≡ Some x → f x ≡ g i) → sum_by f l ≡ sum_below g (length l)
list-below f g [] each = refl
list-below {A} f g (x ∷ xs) each =
    let first : f x ≡ g 0 = each 0 x refl in
    let rest : sum_by f xs ≡ sum_below (λ i. g (suc i)) (length xs) = list-below f (λ i. g (suc i)) xs (λ i y there. each (suc i) y there) in
    let both : sum_by f (x ∷ xs) ≡ f x + sum_by f xs = sum_by-cons f x xs in
    let all : sum_below g (suc (length xs)) ≡ g 0 + sum_below (λ i. g (suc i)) (length xs) = below-front g (length xs) in
    omega arith

-- a sum over a list, split by a number below n that each member has
pub sum-split : {A : Type 0} (f : A → ℕ) (key : A → ℕ) (l : List A) (n : ℕ) → EachMember (λ (x : A). key x < n) l → sum_by f l ≡ sum_below (λ i. sum_by (λ (x : A). cond (key x == i) (f x) 0) l) n
sum-split {A} f key l n each =
    sum-same f (λ (x : A). sum_below (λ i. cond (key x == i) (f x) 0) n) l (λ j x there. sym (below-one (key x) (f x) n (each j x there)))
    ∙ sym (below-swap (λ (i : ℕ) (x : A). cond (key x == i) (f x) 0) l n)
