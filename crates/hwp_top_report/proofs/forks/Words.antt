-- Lists of words: which is last, what of a list gives none, and how a list's first members give what all give.
use Rattle.std.proofs.Common.{◌≡◌, ℕ, zero, suc, ◌<◌, ◌≤◌, List, [], ◌∷◌, ◌++◌, Option, None, Some, filter_map, option_map, slice_get, take, unwrap_or, refl, sym, ap, ◌∙◌, arith}
use Rattle.std.specs.List.{cons_option}
use Rattle.std.proofs.lemmas.Option.{none-some}
use Rattle.hwp_law_served.specs.hwp_law.Private.{last_word}

pub last-append : (a : ℕ) (xs ys : List ℕ) → last_word a (xs ++ ys) ≡ last_word (last_word a xs) ys
last-append a [] ys = refl
last-append a (x ∷ xs) ys = last-append x xs ys

pub last-cons : (a : ℕ) (o : Option ℕ) (xs : List ℕ) → last_word a (cons_option o xs) ≡ last_word (unwrap_or o a) xs
last-cons a None xs = refl
last-cons a (Some x) xs = refl

-- ---- what a list gives

pub none-mapped : {X : Type 0} (h : X → Option ℕ) (xs : List X) → ((i : ℕ) (x : X) → slice_get xs i ≡ Some x → h x ≡ None) → filter_map h xs ≡ []
none-mapped h [] none = refl
none-mapped {X} h (x ∷ xs) none = ap (λ (o : Option ℕ). cons_option o (filter_map h xs)) (none zero x refl) ∙ none-mapped h xs (λ (i : ℕ) (y : X) is. none (suc i) y is)

-- the first i give by one rule what all give by another, which gives nothing of those behind
pub first-mapped : {X : Type 0} (h g : X → Option ℕ) (i : ℕ) (xs : List X) → ((j : ℕ) (x : X) → slice_get xs j ≡ Some x → j < i → h x ≡ g x) → ((j : ℕ) (x : X) → slice_get xs j ≡ Some x → i ≤ j → g x ≡ None)
    → filter_map h (take i xs) ≡ filter_map g xs
first-mapped {X} h g zero xs same none = sym (none-mapped g xs (λ (j : ℕ) (x : X) is. none j x is (omega arith)))
first-mapped h g (suc i) [] same none = refl
first-mapped {X} h g (suc i) (x ∷ xs) same none =
    ap (λ (o : Option ℕ). cons_option o (filter_map h (take i xs))) (same zero x refl (omega arith))
    ∙ ap (cons_option (g x)) (first-mapped h g i xs (λ (j : ℕ) (y : X) is less. same (suc j) y is (omega (arith, less))) (λ (j : ℕ) (y : X) is past. none (suc j) y is (omega (arith, past))))

-- ---- the last one, where all are the same

only-next : {X : Type 0} (h : X → Option ℕ) (word a : ℕ) (x : X) (rest : List ℕ) → a ≡ word → ((y : ℕ) → h x ≡ Some y → y ≡ word) → ((b : ℕ) → b ≡ word → last_word b rest ≡ word) → last_word a (cons_option (h x) rest) ≡ word
only-next h word a x rest is here goes = which (h x) refl
  where
    which : (o : Option ℕ) → h x ≡ o → last_word a (cons_option o rest) ≡ word
    which None e = goes a is
    which (Some y) e = goes y (here y e)

only-mapped : {X : Type 0} (h : X → Option ℕ) (word a : ℕ) (xs : List X) → a ≡ word → ((i : ℕ) (x : X) (y : ℕ) → slice_get xs i ≡ Some x → h x ≡ Some y → y ≡ word) → last_word a (filter_map h xs) ≡ word
only-mapped h word a [] is all = is
only-mapped {X} h word a (x ∷ xs) is all =
    only-next h word a x (filter_map h xs) is (λ (y : ℕ) e. all zero x y refl e) (λ (b : ℕ) same. only-mapped h word b xs same (λ (i : ℕ) (z : X) (y : ℕ) there e. all (suc i) z y there e))

-- all that a list gives is this word, and it gives one
pub last-mapped : {X : Type 0} (h : X → Option ℕ) (word a : ℕ) (xs : List X) → ((i : ℕ) (x : X) (y : ℕ) → slice_get xs i ≡ Some x → h x ≡ Some y → y ≡ word) → (i : ℕ) (x : X) (y : ℕ) → slice_get xs i ≡ Some x → h x ≡ Some y
    → last_word a (filter_map h xs) ≡ word
last-mapped h word a [] all i x y there e = absurd (none-some x there)
last-mapped {X} h word a (z ∷ zs) all zero x y there e =
    let here : h z ≡ Some y = ap (λ (o : Option X). unwrap_or (option_map h o) None) there ∙ e in
    ap (λ (o : Option ℕ). last_word a (cons_option o (filter_map h zs))) here ∙ only-mapped h word y zs (all zero z y refl here) (λ (k : ℕ) (w : X) (v : ℕ) at is. all (suc k) w v at is)
last-mapped {X} h word a (z ∷ zs) all (suc i) x y there e =
    last-cons a (h z) (filter_map h zs) ∙ last-mapped h word (unwrap_or (h z) a) zs (λ (k : ℕ) (w : X) (v : ℕ) at is. all (suc k) w v at is) i x y there e
