-- Commands with their answers, pair by pair.
use Rattle.std.proofs.Common.{◌≡◌, ℕ, ◌+◌, ◌<◌, ◌≤◌, min, List, [], ◌∷◌, ◌++◌, get_or, length, sym, ap, ◌∙◌, take, arith}
use Rattle.std.specs.List.{zip}
use Rattle.std.proofs.lemmas.List.{take_all, take_more}
use Rattle.std.proofs.lemmas.Slice.Zip.{get_or-zip}

zip-length : {A B : Type 0} (xs : List A) (ys : List B) → length (zip xs ys) ≡ min (length xs) (length ys)
zip-length [] ys = omega arith
zip-length (x ∷ xs) [] = omega arith
zip-length (x ∷ xs) (y ∷ ys) = let rest : length (zip xs ys) ≡ min (length xs) (length ys) = zip-length xs ys in omega (arith, rest)

pub next-pair : {A B : Type 0} (xs : List A) (ys : List B) (n : ℕ) (x d : A) (y e : B) (pairs : List (A × B)) → n < length xs → n < length ys → pairs ≡ take n (zip xs ys) → x ≡ get_or xs n d → y ≡ get_or ys n e
    → pairs ++ (x, y) ∷ [] ≡ take (n + 1) (zip xs ys)
next-pair xs ys n x d y e pairs one other are x_is y_is =
    ap (λ (l : List _). l ++ (x, y) ∷ []) are ∙ ap (λ (v : _). take n (zip xs ys) ++ (v, y) ∷ []) x_is ∙ ap (λ (v : _). take n (zip xs ys) ++ (get_or xs n d, v) ∷ []) y_is
    ∙ ap (λ (p : _). take n (zip xs ys) ++ p ∷ []) (sym (get_or-zip xs ys n (d, e) one other))
    ∙ sym (take_more (zip xs ys) n (d, e) (let l : length (zip xs ys) ≡ min (length xs) (length ys) = zip-length xs ys in omega (arith, l, one, other)))

pub all-pairs : {A B : Type 0} (xs : List A) (ys : List B) (n : ℕ) → min (length xs) (length ys) ≤ n → take n (zip xs ys) ≡ zip xs ys
all-pairs xs ys n past = take_all n (zip xs ys) (let l : length (zip xs ys) ≡ min (length xs) (length ys) = zip-length xs ys in omega (arith, l, past))
