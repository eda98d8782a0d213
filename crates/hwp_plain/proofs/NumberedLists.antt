-- Printing a numbered list item by item.
use Rattle.std.proofs.Common.{◌≡◌, ℕ, ◌+◌, ◌<◌, List, [], ◌∷◌, ◌++◌, length, get_or, take, sym, ap, ◌∙◌, append_assoc, append-nil, arith}
use Rattle.std.specs.List.{enumerate_from, flat_map}
use Rattle.std.proofs.lemmas.List.{take_more, length-take-le}
use Rattle.std.proofs.lemmas.List.Concat.{flat_map-append}

numbered-push : {A : Type 0} (n : ℕ) (xs : List A) (x : A) → enumerate_from n (xs ++ x ∷ []) ≡ enumerate_from n xs ++ (n + length xs, x) ∷ []
numbered-push n [] x = ap (λ k. (k, x) ∷ []) (omega arith)
numbered-push n (y ∷ ys) x = ap (λ t. (n, y) ∷ t) (numbered-push (n + 1) ys x ∙ ap (λ k. enumerate_from (n + 1) ys ++ (k, x) ∷ []) (omega arith))

-- after the text of the items below i, the text of item i
pub put-numbered : {A : Type 0} (text : ℕ × A → List ℕ) (front before after : List ℕ) (xs : List A) (i : ℕ) (d : A)
    → i < length xs → before ≡ front ++ flat_map text (enumerate_from 0 (take i xs)) → after ≡ before ++ text (i, get_or xs i d)
    → after ≡ front ++ flat_map text (enumerate_from 0 (take (i + 1) xs))
put-numbered {A} text front before after xs i d inside was is =
    is
    ∙ ap (λ t. t ++ text (i, get_or xs i d)) was
    ∙ append_assoc front (flat_map text (enumerate_from 0 (take i xs))) (text (i, get_or xs i d))
    ∙ ap (λ t. front ++ t) (sym (
    ap (λ (ys : List A). flat_map text (enumerate_from 0 ys)) (take_more xs i d inside)
    ∙ ap (flat_map text) (numbered-push 0 (take i xs) (get_or xs i d) ∙ ap (λ (k : ℕ). enumerate_from 0 (take i xs) ++ (k, get_or xs i d) ∷ []) (omega (arith, length-take-le i xs)))
    ∙ flat_map-append text (enumerate_from 0 (take i xs)) ((i, get_or xs i d) ∷ [])
    ∙ ap (λ t. flat_map text (enumerate_from 0 (take i xs)) ++ t) (append-nil (text (i, get_or xs i d)))
    ))
