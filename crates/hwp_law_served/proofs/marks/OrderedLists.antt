-- Lists whose members rise by a number of theirs.
use Rattle.std.proofs.Common.{◌≡◌, ◌≢◌, ◌⊎◌, ℕ, zero, suc, ◌+◌, ◌<◌, ◌≤◌, Bool, List, [], ◌∷◌, ◌++◌, Some, filter, get_or, length, map, slice_get, slice_index_or, inl, inr, refl, sym, ap, ◌∙◌, subst, arith}
use Rattle.std.specs.Prelude.{AllPairs, Contains}
use Rattle.std.specs.List.Sorted.{IsPermutation}
use Rattle.std.proofs.lemmas.List.Kept.{AllPairs-filter}
use Rattle.std.proofs.lemmas.List.Quantifiers.{all_pairs_push}
use Rattle.std.proofs.lemmas.List.Sorted.{Contains-permutation}
use Rattle.std.proofs.lemmas.Option.{get_or_from_slice_get, none-some, same_Some, slice_get-get_or, slice_get_within}
use Rattle.hwp_plain.specs.hwp_core_rule.Lists.{EachMember, SomeMember}
use Rattle.hwp_plain.proofs.of_hwp_core_rule.Lists.{map-was, same-or}
use Rattle.hwp_law_served.proofs.Homes.{there-is}

-- each member has the relation to all later ones
abbrev pub IsOrdered : {A : Type 0} → (A → A → Type 0) → List A → Type 0
IsOrdered {A} R l = (i j : ℕ) (x y : A) → i < j → slice_get l i ≡ Some x → slice_get l j ≡ Some y → R x y

pub ordered-from : {A : Type 0} (R : A → A → Type 0) (l : List A) → AllPairs R l → IsOrdered R l
ordered-from R l pairs i j x y before here there =
    subst (λ a. R a y) (get_or_from_slice_get l i x x here) (subst (R (slice_index_or l i x)) (get_or_from_slice_get l j y x there) (pairs i j x before (slice_get_within l j y there)))

pub ordered-pairs : {A : Type 0} (R : A → A → Type 0) (l : List A) → IsOrdered R l → AllPairs R l
ordered-pairs R l ordered i j d before within =
    let x = there-is l i (omega (arith, before, within)) in
    let y = there-is l j within in
    subst (λ a. R a (slice_index_or l j d)) (sym (get_or_from_slice_get l i x.0 d x.1)) (subst (R x.0) (sym (get_or_from_slice_get l j y.0 d y.1)) (ordered i j x.0 y.0 before x.1 y.1))

pub ordered-filter : {A : Type 0} (R : A → A → Type 0) (test : A → Bool) (l : List A) → IsOrdered R l → IsOrdered R (filter test l)
ordered-filter R test l ordered = ordered-from R (filter test l) (AllPairs-filter R test l (ordered-pairs R l ordered))

pub ordered-map : {A B : Type 0} (R : B → B → Type 0) (f : A → B) (l : List A) → IsOrdered (λ (x y : A). R (f x) (f y)) l → IsOrdered R (map f l)
ordered-map R f l ordered i j x y before here there =
    let a = map-was f l i x here in
    let b = map-was f l j y there in
    subst (λ z. R z y) a.2 (subst (R (f a.0)) b.2 (ordered i j a.0 b.0 before a.1 b.1))

pub ordered-push : {A : Type 0} (R : A → A → Type 0) (l : List A) (y : A) → IsOrdered R l → EachMember (λ (x : A). R x y) l → IsOrdered R (l ++ y ∷ [])
ordered-push {A} R l y ordered each = ordered-from R (l ++ y ∷ []) (all_pairs_push R l y (ordered-pairs R l ordered) at)
  where
    at : (k : ℕ) (d : A) → k < length l → R (slice_index_or l k d) y
    at k d within = let x = there-is l k within in subst (λ a. R a y) (sym (get_or_from_slice_get l k x.0 d x.1)) (each k x.0 x.1)

-- the members rise by a number of theirs
abbrev pub IsRising : {A : Type 0} → (A → ℕ) → List A → Type 0
IsRising {A} key l = IsOrdered (λ (x y : A). key x < key y) l

rising-tail : {A : Type 0} (key : A → ℕ) (x : A) (xs : List A) → IsRising key (x ∷ xs) → IsRising key xs
rising-tail key x xs rising i j y z before here there = rising (suc i) (suc j) y z (omega (arith, before)) here there

-- Rising members that are all the numbers from a base to a bound stand in the order of these numbers.
pub record AreAllFrom {A : Type 0} (key : A → ℕ) (l : List A) (base bound : ℕ) : Type 0 where
  pub rising : IsRising key l
  pub within : EachMember (λ (x : A). (base ≤ key x) × (key x < bound)) l
  pub all : (p : ℕ) → base ≤ p → p < bound → SomeMember (λ (x : A). key x ≡ p) l
  pub low : base ≤ bound

pub record AreInOrder {A : Type 0} (key : A → ℕ) (l : List A) (base bound : ℕ) : Type 0 where
  pub count : base + length l ≡ bound
  pub each : (k : ℕ) (x : A) → slice_get l k ≡ Some x → key x ≡ base + k

front-is : {A : Type 0} (key : A → ℕ) (x : A) (xs : List A) (base bound : ℕ) → AreAllFrom key (x ∷ xs) base bound → key x ≡ base
front-is {A} key x xs base bound are =
    let own = are.within 0 x refl in
    let some = are.all base (omega arith) (omega (arith, own.0, own.1)) in
    at own.0 some.0 some.1 some.2 some.3
  where
    at : base ≤ key x → (j : ℕ) (y : A) → slice_get (x ∷ xs) j ≡ Some y → key y ≡ base → key x ≡ base
    at low zero y there is = ap key (same_Some x y there) ∙ is
    at low (suc j) y there is = let less : key x < key y = are.rising 0 (suc j) x y (omega arith) refl there in absurd (omega (arith, low, less, is))

rest-are : {A : Type 0} (key : A → ℕ) (x : A) (xs : List A) (base bound : ℕ) → AreAllFrom key (x ∷ xs) base bound → AreAllFrom key xs (base + 1) bound
rest-are {A} key x xs base bound are = record {
  rising = rising-tail key x xs are.rising;
  within = λ i y there. (let less : key x < key y = are.rising 0 (suc i) x y (omega arith) refl there in (omega (arith, less, front), (are.within (suc i) y there).1));
  all = λ p past before. (let some = are.all p (omega (arith, past)) before in later p past some.0 some.1 some.2 some.3);
  low = (let own = are.within 0 x refl in omega (arith, own.0, own.1));
}
  where
    front : key x ≡ base
    front = front-is key x xs base bound are

    later : (p : ℕ) → base + 1 ≤ p → (j : ℕ) (y : A) → slice_get (x ∷ xs) j ≡ Some y → key y ≡ p → SomeMember (λ (z : A). key z ≡ p) xs
    later p past zero y there is = let same : key x ≡ key y = ap key (same_Some x y there) in absurd (omega (arith, past, same, is, front))
    later p past (suc j) y there is = (j, y, there, is)

pub in-order : {A : Type 0} (key : A → ℕ) (l : List A) (base bound : ℕ) → AreAllFrom key l base bound → AreInOrder key l base bound
in-order {A} key [] base bound are = record { count = counted (same-or base bound); each = λ k x there. absurd (none-some x there) }
  where
    counted : (base ≡ bound) ⊎ (base ≢ bound) → base + 0 ≡ bound
    counted (inl same) = omega (arith, same)
    counted (inr other) =
        let low : base ≤ bound = are.low in
        let some = are.all base (omega arith) (omega (arith, other, low)) in
        absurd (none-some some.1 some.2)
in-order {A} key (x ∷ xs) base bound are =
    let rest = in-order key xs (base + 1) bound (rest-are key x xs base bound are) in
    let counted : base + 1 + length xs ≡ bound = rest.count in
    record { count = omega (arith, counted); each = each rest }
  where
    front : key x ≡ base
    front = front-is key x xs base bound are

    each : AreInOrder key xs (base + 1) bound → (k : ℕ) (y : A) → slice_get (x ∷ xs) k ≡ Some y → key y ≡ base + k
    each rest zero y there = let same : key x ≡ key y = ap key (same_Some x y there) in omega (arith, same, front)
    each rest (suc k) y there = let is : key y ≡ base + 1 + k = rest.each k y there in omega (arith, is)

-- Two rising lists that have the same members are one.
pub rising-one : {A : Type 0} (key : A → ℕ) (xs ys : List A) → IsRising key xs → IsRising key ys → EachMember (λ (x : A). SomeMember (λ (y : A). y ≡ x) ys) xs → EachMember (λ (y : A). SomeMember (λ (x : A). x ≡ y) xs) ys → xs ≡ ys
rising-one key [] [] one two into back = refl
rising-one key [] (y ∷ ys) one two into back = let some = back 0 y refl in absurd (none-some some.1 some.2)
rising-one key (x ∷ xs) [] one two into back = let some = into 0 x refl in absurd (none-some some.1 some.2)
rising-one {A} key (x ∷ xs) (y ∷ ys) one two into back = ap (λ (z : A). z ∷ xs) front ∙ ap (λ (l : List A). y ∷ l) (rising-one key xs ys (rising-tail key x xs one) (rising-tail key y ys two) into-rest back-rest)
  where
    front : x ≡ y
    front = let a = into 0 x refl in let b = back 0 y refl in which a.0 a.1 a.2 a.3 b.0 b.1 b.2 b.3
      where
        which : (j : ℕ) (z : A) → slice_get (y ∷ ys) j ≡ Some z → z ≡ x → (i : ℕ) (w : A) → slice_get (x ∷ xs) i ≡ Some w → w ≡ y → x ≡ y
        which zero z there is i w here same = sym (same_Some y z there ∙ is)
        which (suc j) z there is zero w here same = same_Some x w here ∙ same
        which (suc j) z there is (suc i) w here same =
            let a : key y < key z = two 0 (suc j) y z (omega arith) refl there in
            let b : key x < key w = one 0 (suc i) x w (omega arith) refl here in
            let c : key z ≡ key x = ap key is in
            let d : key w ≡ key y = ap key same in
            absurd (omega (arith, a, b, c, d))

    into-rest : EachMember (λ (z : A). SomeMember (λ (w : A). w ≡ z) ys) xs
    into-rest k z there = let some = into (suc k) z there in which some.0 some.1 some.2 some.3
      where
        which : (j : ℕ) (w : A) → slice_get (y ∷ ys) j ≡ Some w → w ≡ z → SomeMember (λ (v : A). v ≡ z) ys
        which zero w here is =
            let less : key x < key z = one 0 (suc k) x z (omega arith) refl there in
            let same : key x ≡ key z = ap key (front ∙ same_Some y w here ∙ is) in
            absurd (omega (arith, less, same))
        which (suc j) w here is = (j, w, here, is)

    back-rest : EachMember (λ (z : A). SomeMember (λ (w : A). w ≡ z) xs) ys
    back-rest k z there = let some = back (suc k) z there in which some.0 some.1 some.2 some.3
      where
        which : (j : ℕ) (w : A) → slice_get (x ∷ xs) j ≡ Some w → w ≡ z → SomeMember (λ (v : A). v ≡ z) xs
        which zero w here is =
            let less : key y < key z = two 0 (suc k) y z (omega arith) refl there in
            let same : key y ≡ key z = ap key (sym front ∙ same_Some x w here ∙ is) in
            absurd (omega (arith, less, same))
        which (suc j) w here is = (j, w, here, is)

-- ---- a list in another order

pub some-contains : {A : Type 0} (l : List A) (k : ℕ) (x : A) → slice_get l k ≡ Some x → Contains l x
some-contains l k x there = (k, slice_get_within l k x there, get_or_from_slice_get l k x x there)

pub contains-some : {A : Type 0} (l : List A) (x : A) → Contains l x → SomeMember (λ (y : A). y ≡ x) l
contains-some l x has = (has.0, get_or l has.0 x, slice_get-get_or l has.0 x has.1, has.2)

-- it has the same members
pub moved-has : {A : Type 0} (l m : List A) → IsPermutation l m → EachMember (λ (x : A). SomeMember (λ (y : A). y ≡ x) m) l
moved-has l m moved k x there = contains-some m x (Contains-permutation l m x moved (some-contains l k x there))
