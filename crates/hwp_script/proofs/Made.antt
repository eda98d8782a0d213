-- What lists that are made one thing after the other have.
use Rattle.std.proofs.Common.{◌≡◌, ℕ, zero, suc, ◌+◌, ◌<◌, ◌≤◌, ◌⊎◌, inl, inr, List, [], ◌∷◌, ◌++◌, Some, All, length, slice_get, refl, sym, ap, ◌∙◌, arith}
use Rattle.std.proofs.lemmas.List.{length-append}
use Rattle.std.proofs.lemmas.List.Elements.{All-append, All-cons, All-nil}
use Rattle.std.proofs.lemmas.Option.{none-some}
use Rattle.std.proofs.Math.Nat.{eq-or-lt_of_le}
use Rattle.rand_pcg.specs.Lcg.{Lcg}
use Rattle.hwp_script.specs.Generated.{many}
use Rattle.hwp_script.specs.Machine.{first}

longer : {A : Type 0} (list : List A) (x : A) (n : ℕ) → length list ≡ n → length (list ++ x ∷ []) ≡ suc n
longer list x n is = let more : length (list ++ x ∷ []) ≡ length list + 1 = length-append list (x ∷ []) in omega arith

pub first-length : {A : Type 0} (make : ℕ → A) (n : ℕ) → length (first make n) ≡ n
unfolding first
first-length make zero = refl
first-length make (suc n) = longer (first make n) (make n) n (first-length make n)

pub first-all : {A : Type 0} (P : A → Type 0) (make : ℕ → A) (n : ℕ) → ((i : ℕ) → i < n → P (make i)) → All P (first make n)
unfolding first
first-all P make zero each = All-nil P
first-all P make (suc n) each =
    All-append P (first make n) (make n ∷ []) (first-all P make n (λ i less. each i (omega arith))) (All-cons P (make n) [] (each n (omega arith)) (All-nil P))

pub many-length : {A : Type 0} (draw : Lcg → A × Lcg) (n : ℕ) (g : Lcg) → length (many draw n g).0 ≡ n
unfolding many
many-length draw zero g = refl
many-length draw (suc n) g = longer (many draw n g).0 (draw (many draw n g).1).0 n (many-length draw n g)

pub many-all : {A : Type 0} (P : A → Type 0) (draw : Lcg → A × Lcg) → ((g : Lcg) → P (draw g).0) → (n : ℕ) (g : Lcg) → All P (many draw n g).0
unfolding many
many-all P draw each zero g = All-nil P
many-all P draw each (suc n) g =
    All-append P (many draw n g).0 ((draw (many draw n g).1).0 ∷ []) (many-all P draw each n g) (All-cons P (draw (many draw n g).1).0 [] (each (many draw n g).1) (All-nil P))

-- a member of a list, and what it is
get-append : {A : Type 0} (list : List A) (x y : A) (i : ℕ) → slice_get list i ≡ Some y → slice_get (list ++ x ∷ []) i ≡ Some y
get-append [] x y i there = absurd (none-some y there)
get-append (z ∷ zs) x y zero there = there
get-append (z ∷ zs) x y (suc i) there = get-append zs x y i there

get-last : {A : Type 0} (list : List A) (x : A) → slice_get (list ++ x ∷ []) (length list) ≡ Some x
get-last [] x = refl
get-last (z ∷ zs) x = get-last zs x

pub first-get : {A : Type 0} (make : ℕ → A) (n i : ℕ) → i < n → slice_get (first make n) i ≡ Some (make i)
unfolding first
first-get make zero i less = absurd (omega arith)
first-get {A} make (suc n) i less = which (first-get make n i) (eq-or-lt_of_le (let most : i ≤ n = omega arith in most))
  where
    which : (i < n → slice_get (first make n) i ≡ Some (make i)) → (i ≡ n) ⊎ (i < n) → slice_get (first make n ++ make n ∷ []) i ≡ Some (make i)
    which before (inr below) = get-append (first make n) (make n) (make i) i (before below)
    which before (inl last) =
        ap (slice_get (first make n ++ make n ∷ [])) (last ∙ sym (first-length make n)) ∙ get-last (first make n) (make n) ∙ ap (λ (m : ℕ). Some (make m)) (sym last)
