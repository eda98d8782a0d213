-- The members of what `filter_map` gives.
use Rattle.std.proofs.Common.{◌≡◌, ℕ, zero, suc, List, [], ◌∷◌, Option, Some, None, filter_map, slice_get, refl, ap, ◌∙◌}
use Rattle.std.specs.List.{cons_option}
use Rattle.std.proofs.lemmas.Option.{none-some, same_Some}

module _ {A B : Type 0} (f : A → Option B) where
  -- each is given by a member
  pub picked-is : (l : List A) (k : ℕ) (y : B) → slice_get (filter_map f l) k ≡ Some y → (j : ℕ) × (x : A) × (slice_get l j ≡ Some x) × (f x ≡ Some y)
  picked-is [] k y there = absurd (none-some y there)
  picked-is (x ∷ xs) k y there = which (f x) refl k there (picked-is xs)
    where
      which : (o : Option B) → f x ≡ o → (k : ℕ) → slice_get (cons_option o (filter_map f xs)) k ≡ Some y → ((n : ℕ) (y : B) → slice_get (filter_map f xs) n ≡ Some y → (j : ℕ) × (z : A) × (slice_get xs j ≡ Some z) × (f z ≡ Some y))
          → (j : ℕ) × (z : A) × (slice_get (x ∷ xs) j ≡ Some z) × (f z ≡ Some y)
      which (Some b) is zero there rest = (0, x, refl, is ∙ there)
      which (Some b) is (suc n) there rest = let later = rest n y there in (suc later.0, later.1, later.2, later.3)
      which None is n there rest = let later = rest n y there in (suc later.0, later.1, later.2, later.3)

  -- and what a member gives is one
  pub picked-has : (l : List A) (j : ℕ) (x : A) (y : B) → slice_get l j ≡ Some x → f x ≡ Some y → (k : ℕ) × (slice_get (filter_map f l) k ≡ Some y)
  picked-has [] j x y there gives = absurd (none-some x there)
  picked-has (z ∷ zs) zero x y there gives = (0, ap (λ (o : Option B). slice_get (cons_option o (filter_map f zs)) 0) (ap f (same_Some z x there) ∙ gives))
  picked-has (z ∷ zs) (suc j) x y there gives = which (f z) (picked-has zs j x y there gives)
    where
      which : (o : Option B) → (k : ℕ) × (slice_get (filter_map f zs) k ≡ Some y) → (k : ℕ) × (slice_get (cons_option o (filter_map f zs)) k ≡ Some y)
      which (Some b) rest = (suc rest.0, rest.1)
      which None rest = rest
