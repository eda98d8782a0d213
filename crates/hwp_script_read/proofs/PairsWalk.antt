-- Whether one of a list, or one of the pairs of two lists, is as looked for, by a walk along it.
use Rattle.std.proofs.Common.{ℕ, ◌≡◌, ◌<◌, ◌≤◌, ◌+◌, ◌||◌, Bool, true, false, List, [], ◌∷◌, length, min, get_or, take, zero, suc, refl, sym, ap, ◌∙◌, arith}
use Rattle.std.specs.Prelude.{zip}
use Rattle.std.specs.List.{list_any}
use Rattle.std.proofs.lemmas.List.{take_all}
use Rattle.std.proofs.lemmas.List.Folds.{list_any_more}
use Rattle.std.proofs.lemmas.Slice.Zip.{length-zip, get_or-zip}

or-last : (b r : Bool) → true ≡ r → true ≡ (b || r)
or-last true r e = refl
or-last false r e = e

any-at : {X : Type 0} (f : X → Bool) (xs : List X) (i : ℕ) (d : X) → i < length xs → true ≡ f (get_or xs i d) → true ≡ list_any f xs
any-at f [] i d l e = absurd (omega arith)
any-at f (x ∷ xs) zero d l e = ap (λ b. b || list_any f xs) e
any-at f (x ∷ xs) (suc i) d l e = or-last (f x) (list_any f xs) (any-at f xs i d (omega arith) e)

-- none of the first i
pub record IsNoOne {X : Type 0} (f : X → Bool) (xs : List X) (i : ℕ) : Type 0 where
  pub none : list_any f (take i xs) ≡ false

pub one-first : {X : Type 0} (f : X → Bool) (xs : List X) → IsNoOne f xs 0
one-first f xs = record { none = refl }

-- of a slice of the list
module _ {X : Type 0} (f : X → Bool) (xs ts : List X) (t : ts ≡ xs) (i : ℕ) where
  pub one-more : (d : X) → i < length ts → IsNoOne f xs i → false ≡ f (get_or ts i d) → IsNoOne f xs (i + 1)
  one-more d l h e = record {
    none = list_any_more f xs i d (rw t at l) ∙ ap (λ b. b || f (get_or xs i d)) h.none ∙ sym (rw t at e);
  }

  pub one-found : (d : X) → i < length ts → true ≡ f (get_or ts i d) → true ≡ list_any f xs
  one-found d l e = any-at f xs i d (rw t at l) (rw t at e)

  pub no-one : length ts ≤ i → IsNoOne f xs i → false ≡ list_any f xs
  no-one l h = let past : length xs ≤ i = rw t at l in sym h.none ∙ ap (list_any f) (take_all i xs past)

-- none of the first i pairs
pub record IsNoPair {A B : Type 0} (f : A × B → Bool) (ks : List A) (vs : List B) (i : ℕ) : Type 0 where
  pub none : list_any f (take i (zip ks vs)) ≡ false

module _ {A B : Type 0} (f : A × B → Bool) (ks : List A) (vs : List B) where
  pub pair-first : IsNoPair f ks vs 0
  pair-first = record { none = refl }

  more : (i : ℕ) (k : A) (v : B) → i < min (length ks) (length vs) → IsNoPair f ks vs i → false ≡ f (get_or ks i k, get_or vs i v) → IsNoPair f ks vs (i + 1)
  more i k v l h e = record {
    none =
        list_any_more f (zip ks vs) i (k, v) (omega (arith, l, length-zip ks vs)) ∙ ap (λ b. b || f (get_or (zip ks vs) i (k, v))) h.none
        ∙ ap f (get_or-zip ks vs i (k, v) (omega (arith, l)) (omega (arith, l))) ∙ sym e;
  }

  found : (i : ℕ) (k : A) (v : B) → i < min (length ks) (length vs) → true ≡ f (get_or ks i k, get_or vs i v) → true ≡ list_any f (zip ks vs)
  found i k v l e =
      any-at f (zip ks vs) i (k, v) (omega (arith, l, length-zip ks vs)) (e ∙ sym (ap f (get_or-zip ks vs i (k, v) (omega (arith, l)) (omega (arith, l)))))

  none-of : (i : ℕ) → min (length ks) (length vs) ≤ i → IsNoPair f ks vs i → false ≡ list_any f (zip ks vs)
  none-of i l h = sym h.none ∙ ap (list_any f) (take_all i (zip ks vs) (omega (arith, l, length-zip ks vs)))

  -- of slices of both
  module _ (ts : List A) (us : List B) (t : ts ≡ ks) (u : us ≡ vs) (i : ℕ) where
    pub pair-more : (k : A) (v : B) → i < min (length ts) (length us) → IsNoPair f ks vs i → false ≡ f (get_or ts i k, get_or us i v) → IsNoPair f ks vs (i + 1)
    pair-more k v l h e = more i k v (rw (t, u) at l) h (rw (t, u) at e)

    pub pair-found : (k : A) (v : B) → i < min (length ts) (length us) → true ≡ f (get_or ts i k, get_or us i v) → true ≡ list_any f (zip ks vs)
    pair-found k v l e = found i k v (rw (t, u) at l) (rw (t, u) at e)

    pub no-pair : min (length ts) (length us) ≤ i → IsNoPair f ks vs i → false ≡ list_any f (zip ks vs)
    no-pair l h = none-of i (rw (t, u) at l) h
