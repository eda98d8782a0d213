-- How often a number is in a list.
use Rattle.std.proofs.Common.{◌≡◌, ℕ, ◌+◌, ◌<◌, ◌==◌, Bool, true, false, not, cond, List, [], ◌∷◌, ◌++◌, filter, refl, ap, arith}
use Rattle.std.proofs.lemmas.Bool.{eqb-true}
use Rattle.std.proofs.lemmas.List.Sums.{sum_by-cons, sum_by-append}
use Rattle.std.specs.List.{sum_by}
use Rattle.std.specs.Int.{from_bool}
use Rattle.hwp_table_words.specs.Known.{times, less}

pub times-append : (c : ℕ) (xs ys : List ℕ) → times c (xs ++ ys) ≡ times c xs + times c ys
times-append c xs ys = sum_by-append (λ (m : ℕ). from_bool (m == c)) xs ys

pub times-cons : (c x : ℕ) (xs : List ℕ) → times c (x ∷ xs) ≡ from_bool (x == c) + times c xs
times-cons c x xs = sum_by-cons (λ (m : ℕ). from_bool (m == c)) x xs

-- a right that goes is counted where it comes to
pub times-less : (c d : ℕ) (xs : List ℕ) → 0 < times c xs → times d (less c xs) + times d (c ∷ []) ≡ times d xs
times-less c d [] some = absurd (omega arith)
times-less c d (x ∷ xs) some = which (x == c) refl (times-less c d xs)
  where
    one : times d (c ∷ []) ≡ from_bool (c == d) + 0
    one = times-cons d c []

    which : (b : Bool) → (x == c) ≡ b → (0 < times c xs → times d (less c xs) + times d (c ∷ []) ≡ times d xs) → times d (cond b xs (x ∷ less c xs)) + times d (c ∷ []) ≡ times d (x ∷ xs)
    which true is again =
        let first : from_bool (x == d) ≡ from_bool (c == d) = ap (λ (n : ℕ). from_bool (n == d)) (eqb-true x c is) in
        let all : times d (x ∷ xs) ≡ from_bool (x == d) + times d xs = times-cons d x xs in
        let one' : times d (c ∷ []) ≡ from_bool (c == d) + 0 = one in
        omega arith
    which false isnt again =
        let first : from_bool (x == c) ≡ 0 = ap from_bool isnt in
        let count : times c (x ∷ xs) ≡ from_bool (x == c) + times c xs = times-cons c x xs in
        let rest : times d (less c xs) + times d (c ∷ []) ≡ times d xs = again (omega (arith, some)) in
        let left : times d (x ∷ less c xs) ≡ from_bool (x == d) + times d (less c xs) = times-cons d x (less c xs) in
        let all : times d (x ∷ xs) ≡ from_bool (x == d) + times d xs = times-cons d x xs in
        omega arith

-- what a test cuts a list into is counted as the list was
pub sum-parts : {A : Type 0} (f : A → ℕ) (test : A → Bool) (xs : List A) → sum_by f (filter (λ (x : A). not (test x)) xs) + sum_by f (filter test xs) ≡ sum_by f xs
sum-parts f test [] = refl
sum-parts {A} f test (x ∷ xs) = which (filter (λ (y : A). not (test y)) xs) (filter test xs) (test x) (sum-parts f test xs)
  where
    which : (others those : List A) (b : Bool) → sum_by f others + sum_by f those ≡ sum_by f xs → sum_by f (cond (not b) (x ∷ others) others) + sum_by f (cond b (x ∷ those) those) ≡ sum_by f (x ∷ xs)
    which others those true rest = let all = sum_by-cons f x xs in let one = sum_by-cons f x those in omega (arith, all, one, rest)
    which others those false rest = let all = sum_by-cons f x xs in let one = sum_by-cons f x others in omega (arith, all, one, rest)
