-- Lists whose members are found one by one, and the lists of several put together.
use Rattle.std.proofs.Common.{◌≡◌, ◌≢◌, ◌⊎◌, inl, inr, ℕ, zero, suc, ◌+◌, ◌<◌, ◌==◌, Bool, true, false, cond, List, [], ◌∷◌, ◌++◌, Some, filter, length, map, slice_get, refl, sym, ap, ◌∙◌, subst, arith, ne_eqb}
use Rattle.std.specs.List.{flat_map}
use Rattle.std.proofs.lemmas.List.Concat.{flat_map-cons}
use Rattle.std.proofs.lemmas.Option.{none-some, same_Some}
use Rattle.hwp_threads.specs.hwp_core_rule.declared.Rec.{Rec}
use Rattle.hwp_threads.proofs.of_hwp_core_rule.Lists.{same-number}
use Rattle.hwp_threads.specs.hwp_table_words.Known.{moves_by}

-- what there is for each number below n, as a list
pub record Chosen {A : Type 0} (P : ℕ → A → Type 0) (n : ℕ) : Type 0 where
  pub all : List A
  pub count : length all ≡ n
  pub each : (i : ℕ) (x : A) → slice_get all i ≡ Some x → P i x

pub choose : {A : Type 0} (P : ℕ → A → Type 0) (n : ℕ) → ((i : ℕ) → i < n → (x : A) × P i x) → Chosen P n
choose P zero some = record { all = []; count = refl; each = λ i x e. absurd (none-some x e) }
choose {A} P (suc n) some =
    let rest = choose (λ (i : ℕ) (x : A). P (suc i) x) n (λ i less. some (suc i) (omega (arith, less))) in
    let first = some zero (omega arith) in
    record { all = first.0 ∷ rest.all; count = ap (λ (k : ℕ). suc k) rest.count; each = each first.0 first.1 rest.all rest.each }
  where
    each : (y : A) → P zero y → (ys : List A) → ((i : ℕ) (x : A) → slice_get ys i ≡ Some x → P (suc i) x) → (i : ℕ) (x : A) → slice_get (y ∷ ys) i ≡ Some x → P i x
    each y p ys rest zero x e = subst (P zero) (same_Some y x e) p
    each y p ys rest (suc i) x e = rest i x e

-- the moves of processor c
abbrev pub moves_of : ℕ → List Rec → List (ℕ × Rec)
moves_of c rs = map (λ (r : Rec). (c, r)) rs

filter-append : {A : Type 0} (test : A → Bool) (xs ys : List A) → filter test (xs ++ ys) ≡ filter test xs ++ filter test ys
filter-append test [] ys = refl
filter-append {A} test (x ∷ xs) ys = ap (λ (l : List A). cond (test x) (x ∷ l) l) (filter-append test xs ys) ∙ which (test x)
  where
    which : (b : Bool) → cond b (x ∷ (filter test xs ++ filter test ys)) (filter test xs ++ filter test ys) ≡ cond b (x ∷ filter test xs) (filter test xs) ++ filter test ys
    which true = refl
    which false = refl

all-own : (c : ℕ) (rs : List Rec) → moves_by c (moves_of c rs) ≡ moves_of c rs
all-own c [] = refl
all-own c (r ∷ rs) = ap (λ (b : Bool). cond b ((c, r) ∷ moves_by c (moves_of c rs)) (moves_by c (moves_of c rs))) (same-number c c refl) ∙ ap (λ (l : List (ℕ × Rec)). (c, r) ∷ l) (all-own c rs)

none-own : (c d : ℕ) (rs : List Rec) → d ≢ c → moves_by c (moves_of d rs) ≡ []
none-own c d [] other = refl
none-own c d (r ∷ rs) other = ap (λ (b : Bool). cond b ((d, r) ∷ moves_by c (moves_of d rs)) (moves_by c (moves_of d rs))) (ne_eqb d c other) ∙ none-own c d rs other

module _ {W : Type 0} (own : W → List (ℕ × Rec)) where
  -- each one's moves are those of the processor of its number, from n on
  abbrev pub AreOwn : ℕ → List W → Type 0
  AreOwn n ws = (i : ℕ) (w : W) → slice_get ws i ≡ Some w → (rs : List Rec) × (own w ≡ moves_of (n + i) rs)

  next-own : (n : ℕ) (w : W) (ws : List W) → AreOwn n (w ∷ ws) → AreOwn (suc n) ws
  next-own n w ws are i v e = let a = are (suc i) v e in (a.0, a.1 ∙ ap (λ (k : ℕ). moves_of k a.0) (omega arith))

  before : (c n : ℕ) (ws : List W) → c < n → AreOwn n ws → moves_by c (flat_map own ws) ≡ []
  before c n [] less are = refl
  before c n (w ∷ ws) less are =
      let a = are 0 w refl in
      ap (moves_by c) (flat_map-cons own w ws) ∙ filter-append (λ (x : ℕ × Rec). x.0 == c) (own w) (flat_map own ws)
      ∙ ap (λ (l : List (ℕ × Rec)). l ++ moves_by c (flat_map own ws)) (ap (moves_by c) a.1 ∙ none-own c (n + 0) a.0 (λ e. omega (arith, e, less)))
      ∙ before c (suc n) ws (omega (arith, less)) (next-own n w ws are)

  -- all moves of one are its own
  pub own-of-all : (n i : ℕ) (ws : List W) (w : W) → slice_get ws i ≡ Some w → AreOwn n ws → moves_by (n + i) (flat_map own ws) ≡ own w
  own-of-all n i [] w e are = absurd (none-some w e)
  own-of-all n zero (v ∷ ws) w e are =
      let a = are 0 v refl in
      let same : v ≡ w = same_Some v w e in
      ap (moves_by (n + 0)) (flat_map-cons own v ws) ∙ filter-append (λ (x : ℕ × Rec). x.0 == n + 0) (own v) (flat_map own ws)
      ∙ ap (λ (l : List (ℕ × Rec)). l ++ moves_by (n + 0) (flat_map own ws)) (ap (moves_by (n + 0)) a.1 ∙ all-own (n + 0) a.0 ∙ sym a.1)
      ∙ ap (λ (l : List (ℕ × Rec)). own v ++ l) (before (n + 0) (suc n) ws (omega arith) (next-own n v ws are))
      ∙ no-more (own v) ∙ ap own same
    where
      no-more : (l : List (ℕ × Rec)) → l ++ [] ≡ l
      no-more [] = refl
      no-more (x ∷ xs) = ap (λ (ys : List (ℕ × Rec)). x ∷ ys) (no-more xs)
  own-of-all n (suc i) (v ∷ ws) w e are =
      let a = are 0 v refl in
      let number : suc n + i ≡ n + suc i = omega arith in
      ap (moves_by (n + suc i)) (flat_map-cons own v ws) ∙ filter-append (λ (x : ℕ × Rec). x.0 == n + suc i) (own v) (flat_map own ws)
      ∙ ap (λ (l : List (ℕ × Rec)). l ++ moves_by (n + suc i) (flat_map own ws)) (ap (moves_by (n + suc i)) a.1 ∙ none-own (n + suc i) (n + 0) a.0 (λ h. omega (arith, h)))
      ∙ ap (λ (k : ℕ). moves_by k (flat_map own ws)) (sym number) ∙ own-of-all (suc n) i ws w e (next-own n v ws are)

module _ {A : Type 0} where
  -- a member of two lists put together
  pub at-split : (xs ys : List A) (i : ℕ) (x : A) → slice_get (xs ++ ys) i ≡ Some x → (slice_get xs i ≡ Some x) ⊎ ((j : ℕ) × (slice_get ys j ≡ Some x))
  at-split [] ys i x e = inr (i, e)
  at-split (z ∷ zs) ys zero x e = inl e
  at-split (z ∷ zs) ys (suc i) x e = at-split zs ys i x e

  pub at-past : (xs ys : List A) (j : ℕ) (x : A) → slice_get ys j ≡ Some x → slice_get (xs ++ ys) (length xs + j) ≡ Some x
  at-past [] ys j x e = let none : 0 + j ≡ j = omega arith in ap (slice_get ys) none ∙ e
  at-past (z ∷ zs) ys j x e = let next : suc (length zs) + j ≡ suc (length zs + j) = omega arith in ap (slice_get (z ∷ (zs ++ ys))) next ∙ at-past zs ys j x e
