-- Lists without their first member that a test finds, and lists in which it finds just one.
use Rattle.std.proofs.Common.{◌≡◌, ℕ, zero, suc, ◌+◌, Bool, true, false, cond, List, [], ◌∷◌, Some, None, slice_get, refl, sym, ap, ◌∙◌, subst, arith, length}
use Rattle.std.proofs.lemmas.List.Sums.{sum_by-cons}
use Rattle.std.proofs.lemmas.Option.{none-some, same_Some}
use Rattle.std.specs.Int.{from_bool}
use Rattle.std.specs.List.{sum_by, find}
use Rattle.hwp_core_rule.specs.Lists.{EachMember, SomeMember}
use Rattle.hwp_core_rule.specs.Views.{without, changed}
use Rattle.hwp_core_rule.proofs.Lists.{not-both, at_map}

module _ {A : Type 0} where
  -- members that the test finds are the same in what is summed
  pub sum-without : (f : A → ℕ) (test : A → Bool) (n : ℕ) (l : List A) (i : ℕ) (x : A) → slice_get l i ≡ Some x → test x ≡ true
      → ((y : A) → test y ≡ true → f y ≡ n) → sum_by f (without test l) + n ≡ sum_by f l
  sum-without f test n [] i x there is each = absurd (none-some x there)
  sum-without f test n (y ∷ ys) i x there is each = which (test y) refl i there (λ j at. sum-without f test n ys j x at is each)
    where
      all : sum_by f (y ∷ ys) ≡ f y + sum_by f ys
      all = sum_by-cons f y ys

      which : (b : Bool) → test y ≡ b → (j : ℕ) → slice_get (y ∷ ys) j ≡ Some x
          → ((k : ℕ) → slice_get ys k ≡ Some x → sum_by f (without test ys) + n ≡ sum_by f ys)
          → sum_by f (cond b ys (y ∷ without test ys)) + n ≡ sum_by f (y ∷ ys)
      which true found j at more = let same : f y ≡ n = each y found in omega (arith, all)
      which false found zero at more = absurd (not-both (test y) (ap test (same_Some y x at) ∙ is) found)
      which false found (suc j) at more =
          let rest : sum_by f (without test ys) + n ≡ sum_by f ys = more j at in
          let kept : sum_by f (cond false ys (y ∷ without test ys)) ≡ f y + sum_by f (without test ys) = sum_by-cons f y (without test ys) in
          omega (arith, all)

  pub length-without : (test : A → Bool) (l : List A) (i : ℕ) (x : A) → slice_get l i ≡ Some x → test x ≡ true → length (without test l) + 1 ≡ length l
  length-without test [] i x there is = absurd (none-some x there)
  length-without test (y ∷ ys) i x there is = which (test y) refl i there (λ j at. length-without test ys j x at is)
    where
      which : (b : Bool) → test y ≡ b → (j : ℕ) → slice_get (y ∷ ys) j ≡ Some x
          → ((k : ℕ) → slice_get ys k ≡ Some x → length (without test ys) + 1 ≡ length ys)
          → length (cond b ys (y ∷ without test ys)) + 1 ≡ length (y ∷ ys)
      which true found j at more = omega arith
      which false found zero at more = absurd (not-both (test y) (ap test (same_Some y x at) ∙ is) found)
      which false found (suc j) at more = let rest : length (without test ys) + 1 ≡ length ys = more j at in omega arith

  pub each-without : (P : A → Type 0) (test : A → Bool) (l : List A) → EachMember P l → EachMember P (without test l)
  each-without P test [] each = each
  each-without P test (y ∷ ys) each = which (test y) (each-without P test ys (λ j z h. each (suc j) z h))
    where
      which : (b : Bool) → EachMember P (without test ys) → EachMember P (cond b ys (y ∷ without test ys))
      which true more i x e = each (suc i) x e
      which false more zero x e = each zero x e
      which false more (suc i) x e = more i x e

each-cons : {A : Type 0} (P : A → Type 0) (y : A) (ys : List A) → P y → EachMember P ys → EachMember P (y ∷ ys)
each-cons P y ys here each zero x e = subst P (same_Some y x e) here
each-cons P y ys here each (suc i) x e = each i x e

module _ {A : Type 0} (test : A → Bool) where
  abbrev found : A → ℕ
  found x = from_bool (test x)

  -- a member that the test doesn't find stays
  pub some-without : (P : A → Type 0) (l : List A) → ((x : A) → P x → test x ≡ true → ⊥) → SomeMember P l → SomeMember P (without test l)
  some-without P [] other some = absurd (none-some some.1 some.2)
  some-without P (y ∷ ys) other some = which (test y) refl some.0 some.2 (λ j at. some-without P ys other (j, some.1, at, some.3))
    where
      which : (b : Bool) → test y ≡ b → (j : ℕ) → slice_get (y ∷ ys) j ≡ Some some.1 → ((k : ℕ) → slice_get ys k ≡ Some some.1 → SomeMember P (without test ys)) → SomeMember P (cond b ys (y ∷ without test ys))
      which true e zero at more = absurd (other y (subst P (sym (same_Some y some.1 at)) some.3) e)
      which true e (suc j) at more = (j, some.1, at, some.3)
      which false e zero at more = (0, y, refl, subst P (sym (same_Some y some.1 at)) some.3)
      which false e (suc j) at more = let rest : SomeMember P (without test ys) = more j at in (suc rest.0, rest.1, rest.2, rest.3)

  -- a test that finds none finds no member
  pub found-none : (l : List A) → sum_by found l ≡ 0 → EachMember (λ (x : A). test x ≡ false) l
  found-none [] none = λ i x e. absurd (none-some x e)
  found-none (y ∷ ys) none = each-cons (λ (x : A). test x ≡ false) y ys (here (test y) refl) (found-none ys (omega (arith, none, sum_by-cons found y ys)))
    where
      all : sum_by found (y ∷ ys) ≡ from_bool (test y) + sum_by found ys
      all = sum_by-cons found y ys

      here : (b : Bool) → test y ≡ b → test y ≡ false
      here true e = absurd (omega (arith, none, all, ap from_bool e))
      here false e = e

  -- where it finds one, the others aren't found
  pub others-unfound : (l : List A) → sum_by found l ≡ 1 → EachMember (λ (x : A). test x ≡ false) (without test l)
  others-unfound [] one = absurd (omega (arith, one))
  others-unfound (y ∷ ys) one = which (test y) refl (λ e. others-unfound ys e)
    where
      all : sum_by found (y ∷ ys) ≡ from_bool (test y) + sum_by found ys
      all = sum_by-cons found y ys

      which : (b : Bool) → test y ≡ b → (sum_by found ys ≡ 1 → EachMember (λ (x : A). test x ≡ false) (without test ys)) → EachMember (λ (x : A). test x ≡ false) (cond b ys (y ∷ without test ys))
      which true e more = found-none ys (omega (arith, one, all, ap from_bool e))
      which false e more = each-cons (λ (x : A). test x ≡ false) y (without test ys) e (more (omega (arith, one, all, ap from_bool e)))

  -- what `find` finds is there, and passes the test
  pub find-is : (l : List A) (x : A) → find test l ≡ Some x → (i : ℕ) × (slice_get l i ≡ Some x) × (test x ≡ true)
  find-is [] x e = absurd (none-some x e)
  find-is (y ∷ ys) x e = which (test y) refl (λ h. find-is ys x h)
    where
      which : (b : Bool) → test y ≡ b → (find test ys ≡ Some x → (i : ℕ) × (slice_get ys i ≡ Some x) × (test x ≡ true)) → (i : ℕ) × (slice_get (y ∷ ys) i ≡ Some x) × (test x ≡ true)
      which true is more =
          let same : y ≡ x = same_Some y x (sym (ap (λ (b : Bool). cond b (Some y) (find test ys)) is) ∙ e) in
          (0, ap Some same, subst (λ (z : A). test z ≡ true) same is)
      which false is more =
          let rest : (i : ℕ) × (slice_get ys i ≡ Some x) × (test x ≡ true) = more (sym (ap (λ (b : Bool). cond b (Some y) (find test ys)) is) ∙ e) in
          (suc rest.0, rest.1, rest.2)

  -- where `find` finds none, no member passes the test
  pub find-none : (l : List A) → find test l ≡ None → EachMember (λ (x : A). test x ≡ false) l
  find-none [] none = λ i x e. absurd (none-some x e)
  find-none (y ∷ ys) none = which (test y) refl (λ h. find-none ys h)
    where
      which : (b : Bool) → test y ≡ b → (find test ys ≡ None → EachMember (λ (x : A). test x ≡ false) ys) → EachMember (λ (x : A). test x ≡ false) (y ∷ ys)
      which true is more = absurd (none-some y (sym none ∙ ap (λ (b : Bool). cond b (Some y) (find test ys)) is))
      which false isnt more = each-cons (λ (x : A). test x ≡ false) y ys isnt (more (sym (ap (λ (b : Bool). cond b (Some y) (find test ys)) isnt) ∙ none))

  -- a list in which none is found isn't changed
  changed-none : (to : A → A) (l : List A) → sum_by found l ≡ 0 → changed test to l ≡ l
  changed-none to [] none = refl
  changed-none to (y ∷ ys) none =
      let all : sum_by found (y ∷ ys) ≡ from_bool (test y) + sum_by found ys = sum_by-cons found y ys in
      let here : test y ≡ false = found-none (y ∷ ys) none 0 y refl in
      λ i. cond (here i) (to y) y ∷ changed-none to ys (omega (arith, none, all)) i

  -- the one that is found is changed
  pub sum-changed-one : (f : A → ℕ) (to : A → A) (l : List A) (i : ℕ) (x : A) → sum_by found l ≡ 1 → slice_get l i ≡ Some x → test x ≡ true → sum_by f (changed test to l) + f x ≡ sum_by f l + f (to x)
  sum-changed-one f to [] i x one at is = absurd (none-some x at)
  sum-changed-one f to (y ∷ ys) i x one at is = which (test y) refl i at (λ k a e. sum-changed-one f to ys k x e a is)
    where
      all : sum_by found (y ∷ ys) ≡ from_bool (test y) + sum_by found ys
      all = sum_by-cons found y ys

      left : sum_by f (changed test to (y ∷ ys)) ≡ f (cond (test y) (to y) y) + sum_by f (changed test to ys)
      left = sum_by-cons f (cond (test y) (to y) y) (changed test to ys)

      right : sum_by f (y ∷ ys) ≡ f y + sum_by f ys
      right = sum_by-cons f y ys

      which : (b : Bool) → test y ≡ b → (j : ℕ) → slice_get (y ∷ ys) j ≡ Some x → ((k : ℕ) → slice_get ys k ≡ Some x → sum_by found ys ≡ 1 → sum_by f (changed test to ys) + f x ≡ sum_by f ys + f (to x))
          → sum_by f (changed test to (y ∷ ys)) + f x ≡ sum_by f (y ∷ ys) + f (to x)
      which true e zero a more =
          let same : y ≡ x = same_Some y x a in
          let none : sum_by found ys ≡ 0 = omega (arith, one, all, ap from_bool e) in
          let rest : sum_by f (changed test to ys) ≡ sum_by f ys = ap (sum_by f) (changed-none to ys none) in
          let head : f (cond (test y) (to y) y) ≡ f (to x) = ap (λ (b : Bool). f (cond b (to y) y)) e ∙ ap (λ (z : A). f (to z)) same in
          let was : f y ≡ f x = ap f same in
          omega (arith, left, right)
      which true e (suc k) a more = absurd (not-both (test x) is (found-none ys (omega (arith, one, all, ap from_bool e)) k x a))
      which false e zero a more = absurd (not-both (test y) (ap test (same_Some y x a) ∙ is) e)
      which false e (suc k) a more =
          let rest : sum_by f (changed test to ys) + f x ≡ sum_by f ys + f (to x) = more k a (omega (arith, one, all, ap from_bool e)) in
          let head : f (cond (test y) (to y) y) ≡ f y = ap (λ (b : Bool). f (cond b (to y) y)) e in
          omega (arith, left, right)

  -- the one that is found goes
  pub sum-without-one : (f : A → ℕ) (l : List A) (i : ℕ) (x : A) → sum_by found l ≡ 1 → slice_get l i ≡ Some x → test x ≡ true → sum_by f (without test l) + f x ≡ sum_by f l
  sum-without-one f [] i x one at is = absurd (none-some x at)
  sum-without-one f (y ∷ ys) i x one at is = which (test y) refl i at (λ k a e. sum-without-one f ys k x e a is)
    where
      all : sum_by found (y ∷ ys) ≡ from_bool (test y) + sum_by found ys
      all = sum_by-cons found y ys

      right : sum_by f (y ∷ ys) ≡ f y + sum_by f ys
      right = sum_by-cons f y ys

      which : (b : Bool) → test y ≡ b → (j : ℕ) → slice_get (y ∷ ys) j ≡ Some x → ((k : ℕ) → slice_get ys k ≡ Some x → sum_by found ys ≡ 1 → sum_by f (without test ys) + f x ≡ sum_by f ys)
          → sum_by f (cond b ys (y ∷ without test ys)) + f x ≡ sum_by f (y ∷ ys)
      which true e zero a more = let was : f y ≡ f x = ap f (same_Some y x a) in omega (arith, right)
      which true e (suc k) a more = absurd (not-both (test x) is (found-none ys (omega (arith, one, all, ap from_bool e)) k x a))
      which false e zero a more = absurd (not-both (test y) (ap test (same_Some y x a) ∙ is) e)
      which false e (suc k) a more =
          let rest : sum_by f (without test ys) + f x ≡ sum_by f ys = more k a (omega (arith, one, all, ap from_bool e)) in
          let left : sum_by f (y ∷ without test ys) ≡ f y + sum_by f (without test ys) = sum_by-cons f y (without test ys) in
          omega (arith, right)

  -- each is so, where the one that is found is so when it is changed
  pub each-changed-one : (P : A → Type 0) (to : A → A) (l : List A) (i : ℕ) (x : A) → sum_by found l ≡ 1 → slice_get l i ≡ Some x → test x ≡ true → P (to x) → EachMember P l → EachMember P (changed test to l)
  each-changed-one P to [] i x one at is here each = absurd (none-some x at)
  each-changed-one P to (y ∷ ys) i x one at is here each =
      each-cons P (cond (test y) (to y) y) (changed test to ys) (first (test y) refl i at) (others (test y) refl i at (λ k a e. each-changed-one P to ys k x e a is here (λ j z b. each (suc j) z b)))
    where
      all : sum_by found (y ∷ ys) ≡ from_bool (test y) + sum_by found ys
      all = sum_by-cons found y ys

      none-after : test y ≡ true → sum_by found ys ≡ 0
      none-after e = omega (arith, one, all, ap from_bool e)

      one-after : test y ≡ false → sum_by found ys ≡ 1
      one-after e = omega (arith, one, all, ap from_bool e)

      first : (b : Bool) → test y ≡ b → (j : ℕ) → slice_get (y ∷ ys) j ≡ Some x → P (cond b (to y) y)
      first true e zero a = subst (λ (z : A). P (to z)) (sym (same_Some y x a)) here
      first true e (suc k) a = absurd (not-both (test x) is (found-none ys (none-after e) k x a))
      first false e j a = each 0 y refl

      others : (b : Bool) → test y ≡ b → (j : ℕ) → slice_get (y ∷ ys) j ≡ Some x → ((k : ℕ) → slice_get ys k ≡ Some x → sum_by found ys ≡ 1 → EachMember P (changed test to ys)) → EachMember P (changed test to ys)
      others true e j a more = subst (EachMember P) (sym (changed-none to ys (none-after e))) (λ k z b. each (suc k) z b)
      others false e zero a more = absurd (not-both (test y) (ap test (same_Some y x a) ∙ is) e)
      others false e (suc k) a more = more k a (one-after e)

  -- a member of a changed list
  pub changed-at : (to : A → A) (l : List A) (i : ℕ) (x : A) → slice_get l i ≡ Some x → test x ≡ true → slice_get (changed test to l) i ≡ Some (to x)
  changed-at to l i x at is = at_map (λ (y : A). cond (test y) (to y) y) l i x at ∙ ap (λ (b : Bool). Some (cond b (to x) x)) is
