-- Lists under the change of one member: reading, sums, and what each or some member is.
use Rattle.std.proofs.Common.{◌≡◌, ◌≢◌, ℕ, suc, zero, ◌+◌, ◌<◌, ◌≤◌, ◌==◌, eq-eqb, Bool, true, false, cond, List, [], ◌∷◌, ◌++◌, Some, map, length, slice_get, set, get_or, option_map, ◌⊎◌, inl, inr, refl, sym, ap, ◌∙◌, subst, arith}
use Rattle.std.proofs.Math.Decide.{ℕ_discrete}
use Rattle.std.specs.List.{sum_by}
use Rattle.std.proofs.lemmas.List.{map-set, length-map}
use Rattle.std.proofs.lemmas.List.Sums.{sum_by-cons, sum_by-set, get_or-le-sum_by}
use Rattle.std.proofs.lemmas.Option.{none-some, same_Some, slice_get-map, slice_get_within, get_or_from_slice_get}
use Rattle.hwp_core_rule.specs.Lists.{EachMember, SomeMember}
use Rattle.hwp_core_rule.specs.Views.{changed}
use Rattle.std.specs.Int.{from_bool}
use Rattle.std.proofs.lemmas.Bool.{eqb-true}

-- two numbers are the same or not
pub same-or : (n m : ℕ) → (n ≡ m) ⊎ (n ≢ m)
same-or n m = which (ℕ_discrete n m)
  where
    which : Dec (n ≡ m) → (n ≡ m) ⊎ (n ≢ m)
    which (yes p) = inl p
    which (no q) = inr q

pub set_again : {A : Type 0} (l : List A) (i : ℕ) (a : A) → slice_get l i ≡ Some a → set l i a ≡ l
set_again [] i a e = refl
set_again {A} (x ∷ xs) zero a e = ap (λ (y : A). y ∷ xs) (sym (same_Some x a e))
set_again {A} (x ∷ xs) (suc i) a e = ap (λ (ys : List A). x ∷ ys) (set_again xs i a e)

-- equal numbers pass the test
pub same-number : (n m : ℕ) → n ≡ m → (n == m) ≡ true
same-number n m e = eq-eqb n m e

-- a member of a mapped list
pub map-was : {A B : Type 0} (g : A → B) (l : List A) (i : ℕ) (y : B) → slice_get (map g l) i ≡ Some y → (x : A) × (slice_get l i ≡ Some x) × (g x ≡ y)
map-was g [] i y e = absurd (none-some y e)
map-was g (x ∷ xs) zero y e = (x, refl, same_Some (g x) y e)
map-was g (x ∷ xs) (suc i) y e = map-was g xs i y e

module _ {A : Type 0} where
  -- reading a list in which one member was set
  pub at_set : (l : List A) (i j : ℕ) (a b : A) → slice_get (set l i a) j ≡ Some b → ((j ≡ i) × (a ≡ b)) ⊎ ((j ≢ i) × (slice_get l j ≡ Some b))
  at_set [] i j a b e = absurd (none-some b e)
  at_set (x ∷ xs) zero zero a b e = inl (refl, same_Some a b e)
  at_set (x ∷ xs) zero (suc j) a b e = inr ((λ h. omega arith), e)
  at_set (x ∷ xs) (suc i) zero a b e = inr ((λ h. omega arith), e)
  at_set (x ∷ xs) (suc i) (suc j) a b e = elim (at_set xs i j a b e) [
    | inl t ↦ inl (ap suc t.0, t.1)
    | inr t ↦ let other : j ≢ i = t.0 in inr ((λ h. other (omega arith)), t.1)
  ]

  pub set_here : (l : List A) (i : ℕ) (a b : A) → slice_get l i ≡ Some b → slice_get (set l i a) i ≡ Some a
  set_here [] i a b e = absurd (none-some b e)
  set_here (x ∷ xs) zero a b e = refl
  set_here (x ∷ xs) (suc i) a b e = set_here xs i a b e

  -- a member of the changed list is the new one or was there
  pub at_changed : (P : ℕ → A → Type 0) (l : List A) (i : ℕ) (a : A) → P i a → ((j : ℕ) (b : A) → j ≢ i → slice_get l j ≡ Some b → P j b) → (j : ℕ) (b : A) → slice_get (set l i a) j ≡ Some b → P j b
  at_changed P l i a here else j b e = elim (at_set l i j a b e) [
    | inl t ↦ subst (λ (n : ℕ). P n b) (sym t.0) (subst (P i) t.1 here)
    | inr t ↦ else j b t.0 t.1
  ]

  pub set_else : (l : List A) (i j : ℕ) (a : A) → j ≢ i → slice_get (set l i a) j ≡ slice_get l j
  set_else [] i j a n = refl
  set_else (x ∷ xs) zero zero a n = absurd (n refl)
  set_else (x ∷ xs) zero (suc j) a n = refl
  set_else (x ∷ xs) (suc i) zero a n = refl
  set_else (x ∷ xs) (suc i) (suc j) a n = set_else xs i j a (λ e. n (ap suc e))

  pub at_push : (l : List A) (a b : A) (j : ℕ) → slice_get (l ++ a ∷ []) j ≡ Some b → (slice_get l j ≡ Some b) ⊎ (a ≡ b)
  at_push [] a b zero e = inr (same_Some a b e)
  at_push [] a b (suc j) e = absurd (none-some b e)
  at_push (x ∷ xs) a b zero e = inl e
  at_push (x ∷ xs) a b (suc j) e = at_push xs a b j e

  pub at_longer : (l m : List A) (i : ℕ) (a : A) → slice_get l i ≡ Some a → slice_get (l ++ m) i ≡ Some a
  at_longer [] m i a e = absurd (none-some a e)
  at_longer (x ∷ xs) m zero a e = e
  at_longer (x ∷ xs) m (suc i) a e = at_longer xs m i a e

  pub at_last : (l : List A) (a : A) → slice_get (l ++ a ∷ []) (length l) ≡ Some a
  at_last [] a = refl
  at_last (x ∷ xs) a = at_last xs a

  -- the part of the other views that a step leaves as it was: the projection g of the changed member is the same
  pub keep : {B : Type 0} (g : A → B) (P : List B → Type 0) (l : List A) (j : ℕ) (v w : A) → slice_get l j ≡ Some v → g w ≡ g v → P (map g l) → P (map g (set l j w))
  keep g P l j v w there same p = subst P (sym (map-set g l j w ∙ ap (set (map g l) j) same ∙ set_again (map g l) j (g v) (slice_get-map g l j ∙ ap (λ o. option_map g o) there))) p

  -- and one that it changes: P of the projections with the changed one
  pub change : {B : Type 0} (g : A → B) (P : List B → Type 0) (l : List A) (j : ℕ) (w : A) → P (set (map g l) j (g w)) → P (map g (set l j w))
  change g P l j w p = subst P (sym (map-set g l j w)) p

  pub at_map : {B : Type 0} (g : A → B) (l : List A) (i : ℕ) (a : A) → slice_get l i ≡ Some a → slice_get (map g l) i ≡ Some (g a)
  at_map g l i a e = slice_get-map g l i ∙ ap (λ o. option_map g o) e

  -- sums under the change of one member
  pub sum-set : (f : A → ℕ) (l : List A) (i : ℕ) (x y : A) → slice_get l i ≡ Some x → sum_by f (set l i y) + f x ≡ sum_by f l + f y
  sum-set f l i x y there =
      let within : i < length l = slice_get_within l i x there in
      let is : get_or l i x ≡ x = get_or_from_slice_get l i x x there in
      subst (λ (z : A). sum_by f (set l i y) + f z ≡ sum_by f l + f y) is (sum_by-set f l i y x within)

  pub term-le : (f : A → ℕ) (l : List A) (i : ℕ) (x : A) → slice_get l i ≡ Some x → f x ≤ sum_by f l
  term-le f l i x there = subst (λ (z : A). f z ≤ sum_by f l) (get_or_from_slice_get l i x x there) (get_or-le-sum_by f l i x (slice_get_within l i x there))

  -- two members are no more than the sum
  pub terms-le : (f : A → ℕ) (l : List A) (i j : ℕ) (x y : A) → i ≢ j → slice_get l i ≡ Some x → slice_get l j ≡ Some y → f x + f y ≤ sum_by f l
  terms-le f [] i j x y n e g = absurd (none-some x e)
  terms-le f (z ∷ zs) zero zero x y n e g = absurd (n refl)
  terms-le f (z ∷ zs) zero (suc j) x y n e g =
      let first : f z ≡ f x = ap f (same_Some z x e) in
      let rest : f y ≤ sum_by f zs = term-le f zs j y g in
      let all : sum_by f (z ∷ zs) ≡ f z + sum_by f zs = sum_by-cons f z zs in
      omega arith
  terms-le f (z ∷ zs) (suc i) zero x y n e g =
      let first : f z ≡ f y = ap f (same_Some z y g) in
      let rest : f x ≤ sum_by f zs = term-le f zs i x e in
      let all : sum_by f (z ∷ zs) ≡ f z + sum_by f zs = sum_by-cons f z zs in
      omega arith
  terms-le f (z ∷ zs) (suc i) (suc j) x y n e g =
      let rest : f x + f y ≤ sum_by f zs = terms-le f zs i j x y (λ h. n (ap suc h)) e g in
      let all : sum_by f (z ∷ zs) ≡ f z + sum_by f zs = sum_by-cons f z zs in
      omega arith

  -- a sum over a mapped list
  pub sum-map : {B : Type 0} (f : B → ℕ) (g : A → B) (l : List A) → sum_by f (map g l) ≡ sum_by (λ (x : A). f (g x)) l
  sum-map f g [] = refl
  sum-map f g (x ∷ xs) =
      let left : sum_by f (map g (x ∷ xs)) ≡ f (g x) + sum_by f (map g xs) = sum_by-cons f (g x) (map g xs) in
      let right : sum_by (λ (y : A). f (g y)) (x ∷ xs) ≡ f (g x) + sum_by (λ (y : A). f (g y)) xs = sum_by-cons (λ (y : A). f (g y)) x xs in
      let rest : sum_by f (map g xs) ≡ sum_by (λ (y : A). f (g y)) xs = sum-map f g xs in
      omega arith

  -- a sum of zeros
  pub sum-zero : (f : A → ℕ) (l : List A) → EachMember (λ (x : A). f x ≡ 0) l → sum_by f l ≡ 0
  sum-zero f [] each = refl
  sum-zero f (x ∷ xs) each =
      let first : f x ≡ 0 = each zero x refl in
      let rest : sum_by f xs ≡ 0 = sum-zero f xs (λ i y e. each (suc i) y e) in
      let all : sum_by f (x ∷ xs) ≡ f x + sum_by f xs = sum_by-cons f x xs in
      omega arith

  -- each member, under a change of one
  pub each-set : (P : A → Type 0) (l : List A) (i : ℕ) (a : A) → P a → EachMember P l → EachMember P (set l i a)
  each-set P l i a here each j x e = elim (at_set l i j a x e) [
    | inl t ↦ subst P t.1 here
    | inr t ↦ each j x t.1
  ]

  pub each-push : (P : A → Type 0) (l : List A) (a : A) → P a → EachMember P l → EachMember P (l ++ a ∷ [])
  each-push P l a here each j x e = elim (at_push l a x j e) [
    | inl was ↦ each j x was
    | inr is ↦ subst P is here
  ]

  pub each-map : {B : Type 0} (g : B → A) (P : A → Type 0) (l : List B) → EachMember (λ (b : B). P (g b)) l → EachMember P (map g l)
  each-map g P [] each i x e = absurd (none-some x e)
  each-map g P (y ∷ ys) each zero x e = subst P (same_Some (g y) x e) (each zero y refl)
  each-map g P (y ∷ ys) each (suc i) x e = each-map g P ys (λ j z h. each (suc j) z h) i x e

  pub each-weaken : (P Q : A → Type 0) (l : List A) → ((x : A) → P x → Q x) → EachMember P l → EachMember Q l
  each-weaken P Q l more each i x e = more x (each i x e)

  -- some member, under a change of one
  pub some-set : (P : A → Type 0) (l : List A) (i : ℕ) (was a : A) → slice_get l i ≡ Some was → (P was → P a) → SomeMember P l → SomeMember P (set l i a)
  some-set P l i was a there stays some =
      elim (same-or some.0 i) [
        | inl same ↦ let is : some.1 ≡ was = same_Some some.1 was (sym some.2 ∙ ap (slice_get l) same ∙ there) in (i, a, set_here l i a was there, stays (subst P is some.3))
        | inr other ↦ (some.0, some.1, set_else l i some.0 a other ∙ some.2, some.3)
      ]

  pub some-push : (P : A → Type 0) (l : List A) (a : A) → SomeMember P l → SomeMember P (l ++ a ∷ [])
  some-push P l a some = (some.0, some.1, at_longer l (a ∷ []) some.0 some.1 some.2, some.3)

  pub some-last : (P : A → Type 0) (l : List A) (a : A) → P a → SomeMember P (l ++ a ∷ [])
  some-last P l a here = (length l, a, at_last l a, here)

  -- a list with some members changed
  pub sum-changed : (f : A → ℕ) (test : A → Bool) (to : A → A) (l : List A) → ((x : A) → f (to x) ≡ f x) → sum_by f (changed test to l) ≡ sum_by f l
  sum-changed f test to [] same = refl
  sum-changed f test to (x ∷ xs) same =
      let first : f (cond (test x) (to x) x) ≡ f x = which (test x) in
      let rest : sum_by f (changed test to xs) ≡ sum_by f xs = sum-changed f test to xs same in
      let left : sum_by f (changed test to (x ∷ xs)) ≡ f (cond (test x) (to x) x) + sum_by f (changed test to xs) = sum_by-cons f (cond (test x) (to x) x) (changed test to xs) in
      let right : sum_by f (x ∷ xs) ≡ f x + sum_by f xs = sum_by-cons f x xs in
      omega arith
    where
      which : (b : Bool) → f (cond b (to x) x) ≡ f x
      which true = same x
      which false = refl

  pub each-changed : (P : A → Type 0) (test : A → Bool) (to : A → A) (l : List A) → ((x : A) → test x ≡ true → P x → P (to x)) → EachMember P l → EachMember P (changed test to l)
  each-changed P test to [] stays each i x e = absurd (none-some x e)
  each-changed P test to (y ∷ ys) stays each zero x e = subst P (same_Some (cond (test y) (to y) y) x e) (which (test y) refl)
    where
      which : (b : Bool) → test y ≡ b → P (cond b (to y) y)
      which true is = stays y is (each zero y refl)
      which false is = each zero y refl
  each-changed P test to (y ∷ ys) stays each (suc i) x e = each-changed P test to ys stays (λ j z h. each (suc j) z h) i x e

  pub some-changed : (P : A → Type 0) (test : A → Bool) (to : A → A) (l : List A) → ((x : A) → test x ≡ true → P x → P (to x)) → SomeMember P l → SomeMember P (changed test to l)
  some-changed P test to l stays some = (some.0, cond (test some.1) (to some.1) some.1, at_map (λ (x : A). cond (test x) (to x) x) l some.0 some.1 some.2, which (test some.1) refl)
    where
      which : (b : Bool) → test some.1 ≡ b → P (cond b (to some.1) some.1)
      which true is = stays some.1 is some.3
      which false is = some.3

  pub length-changed : (test : A → Bool) (to : A → A) (l : List A) → length (changed test to l) ≡ length l
  length-changed test to l = length-map l (λ (x : A). cond (test x) (to x) x)

  pub set-set : (l : List A) (i : ℕ) (a b : A) → set (set l i a) i b ≡ set l i b
  set-set [] i a b = refl
  set-set (x ∷ xs) zero a b = refl
  set-set (x ∷ xs) (suc i) a b = ap (λ (ys : List A). x ∷ ys) (set-set xs i a b)

-- a test that two numbers are the same, by what they are
pub from_bool-same : (n m : ℕ) → n ≡ m → from_bool (n == m) ≡ 1
from_bool-same n m e = ap from_bool (same-number n m e)

pub from_bool-other : (n m : ℕ) → n ≢ m → from_bool (n == m) ≡ 0
from_bool-other n m other = which (n == m) refl
  where
    which : (b : Bool) → (n == m) ≡ b → from_bool b ≡ 0
    which true is = absurd (other (eqb-true n m is))
    which false is = refl

-- a Boolean is not both
pub not-both : (b : Bool) → b ≡ true → b ≡ false → ⊥
not-both b is isnt = let bad : 1 ≡ from_bool false = sym (ap from_bool is) ∙ ap from_bool isnt in absurd (omega arith)
