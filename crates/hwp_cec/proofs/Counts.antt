-- How many members of a list pass a test.
use Rattle.std.proofs.Common.{◌≡◌, ℕ, ◌+◌, Bool, false, cond, List, [], ◌∷◌, ◌++◌, map, count_by, refl, sym, ap, ◌∙◌, arith}
use Rattle.std.proofs.lemmas.List.Sums.{sum_by-cons, sum_by-append}

-- 1 where a test is passed
abbrev pub one : Bool → ℕ
one b = cond b 1 0

pub count-cons : (p : ℕ → Bool) (x : ℕ) (xs : List ℕ) → count_by p (x ∷ xs) ≡ one (p x) + count_by p xs
count-cons p x xs = sum_by-cons (λ y. one (p y)) x xs

pub count-append : (p : ℕ → Bool) (xs ys : List ℕ) → count_by p (xs ++ ys) ≡ count_by p xs + count_by p ys
count-append p xs ys = sum_by-append (λ y. one (p y)) xs ys

pub count-push : (p : ℕ → Bool) (xs : List ℕ) (x : ℕ) → count_by p (xs ++ x ∷ []) ≡ count_by p xs + one (p x)
count-push p xs x = count-append p xs (x ∷ []) ∙ ap (λ (n : ℕ). count_by p xs + n) (count-cons p x [] ∙ omega arith)

pub count-map : (p : ℕ → Bool) (f : ℕ → ℕ) (xs : List ℕ) → count_by p (map f xs) ≡ count_by (λ x. p (f x)) xs
count-map p f [] = refl
count-map p f (x ∷ xs) =
    count-cons p (f x) (map f xs)
    ∙ (ap (λ (n : ℕ). one (p (f x)) + n) (count-map p f xs) ∙ sym (count-cons (λ y. p (f y)) x xs))

-- tests that agree count the same
pub count-same : (p q : ℕ → Bool) (xs : List ℕ) → ((x : ℕ) → p x ≡ q x) → count_by p xs ≡ count_by q xs
count-same p q [] same = refl
count-same p q (x ∷ xs) same =
    let more : count_by p xs ≡ count_by q xs = count-same p q xs same in
    let here : one (p x) ≡ one (q x) = ap one (same x) in
    let left : count_by p (x ∷ xs) ≡ one (p x) + count_by p xs = count-cons p x xs in
    let right : count_by q (x ∷ xs) ≡ one (q x) + count_by q xs = count-cons q x xs in
    omega (arith, more, here, left, right)

pub count-none : (p : ℕ → Bool) (xs : List ℕ) → ((x : ℕ) → p x ≡ false) → count_by p xs ≡ 0
count-none p [] none = refl
count-none p (x ∷ xs) none =
    let more : count_by p xs ≡ 0 = count-none p xs none in
    let here : one (p x) ≡ 0 = ap one (none x) in
    let left : count_by p (x ∷ xs) ≡ one (p x) + count_by p xs = count-cons p x xs in
    omega (arith, more, here, left)

-- what passes one of two tests that nothing passes both of
pub count-either : (p q r : ℕ → Bool) (xs : List ℕ) → ((x : ℕ) → one (r x) ≡ one (p x) + one (q x)) → count_by r xs ≡ count_by p xs + count_by q xs
count-either p q r [] parted = refl
count-either p q r (x ∷ xs) parted =
    let more : count_by r xs ≡ count_by p xs + count_by q xs = count-either p q r xs parted in
    let here : one (r x) ≡ one (p x) + one (q x) = parted x in
    let whole : count_by r (x ∷ xs) ≡ one (r x) + count_by r xs = count-cons r x xs in
    let left : count_by p (x ∷ xs) ≡ one (p x) + count_by p xs = count-cons p x xs in
    let right : count_by q (x ∷ xs) ≡ one (q x) + count_by q xs = count-cons q x xs in
    omega (arith, more, here, whole, left, right)
