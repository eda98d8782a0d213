-- Reading a list at a number.
use Rattle.std.proofs.Common.{◌≡◌, ◌⊎◌, inl, inr, ℕ, zero, suc, ◌+◌, ◌<◌, ◌≤◌, List, [], ◌∷◌, ◌++◌, Some, None, length, drop, take, slice_get, refl, sym, ap, ◌∙◌, subst, arith}
use Rattle.std.proofs.lemmas.Option.{none-some, same_Some}

-- there is an item within the length
pub item_at : {X : Type 0} (xs : List X) (i : ℕ) → i < length xs → (x : X) × (slice_get xs i ≡ Some x)
item_at [] i low = absurd (omega (arith, low))
item_at (x ∷ xs) zero low = (x, refl)
item_at (x ∷ xs) (suc i) low = item_at xs i (omega (arith, low))

-- an item of a list with one more at its end stood in the list, or is that one
pub item_of_push : {X : Type 0} (xs : List X) (y : X) (i : ℕ) (x : X) → slice_get (xs ++ y ∷ []) i ≡ Some x → (slice_get xs i ≡ Some x) ⊎ ((i ≡ length xs) × (y ≡ x))
item_of_push [] y zero x is = inr (refl, same_Some _ _ is)
item_of_push [] y (suc i) x is = absurd (none-some _ is)
item_of_push (z ∷ xs) y zero x is = inl is
item_of_push (z ∷ xs) y (suc i) x is = elim (item_of_push xs y i x is) [
  | inl old ↦ inl old
  | inr last ↦ inr (ap suc last.0, last.1)
]

-- an item of a part
pub item_of_drop : {X : Type 0} (xs : List X) (n i : ℕ) → slice_get (drop n xs) i ≡ slice_get xs (n + i)
item_of_drop [] zero i = refl
item_of_drop [] (suc n) i = refl
item_of_drop (x ∷ xs) zero i = ap (slice_get (x ∷ xs)) (let z : i ≡ 0 + i = omega arith in z)
item_of_drop (x ∷ xs) (suc n) i = item_of_drop xs n i ∙ ap (slice_get (x ∷ xs)) (let e : suc (n + i) ≡ suc n + i = omega arith in e)

pub item_of_take : {X : Type 0} (xs : List X) (n i : ℕ) → i < n → slice_get (take n xs) i ≡ slice_get xs i
item_of_take [] zero i low = refl
item_of_take [] (suc n) i low = refl
item_of_take (x ∷ xs) zero i low = absurd (omega (arith, low))
item_of_take (x ∷ xs) (suc n) zero low = refl
item_of_take (x ∷ xs) (suc n) (suc i) low = item_of_take xs n i (omega (arith, low))

pub none_of_take : {X : Type 0} (xs : List X) (n i : ℕ) → n ≤ i → slice_get (take n xs) i ≡ None
none_of_take [] zero i low = refl
none_of_take [] (suc n) i low = refl
none_of_take (x ∷ xs) zero i low = refl
none_of_take (x ∷ xs) (suc n) zero low = absurd (omega (arith, low))
none_of_take (x ∷ xs) (suc n) (suc i) low = none_of_take xs n i (omega (arith, low))

-- what is true of each item by its number, also of one more
pub each-push : {X : Type 0} (P : ℕ → X → Type 0) (xs : List X) (y : X) → ((i : ℕ) (x : X) → slice_get xs i ≡ Some x → P i x) → P (length xs) y
    → (i : ℕ) (x : X) → slice_get (xs ++ y ∷ []) i ≡ Some x → P i x
each-push P xs y each last i x is = elim (item_of_push xs y i x is) [
  | inl old ↦ each i x old
  | inr new ↦ subst (λ (n : ℕ). P n x) (sym new.0) (subst (P (length xs)) new.1 last)
]
