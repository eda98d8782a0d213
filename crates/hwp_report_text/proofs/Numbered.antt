-- Printing a list item by item.
use Rattle.std.proofs.Common.{◌≡◌, ℕ, ◌+◌, ◌<◌, List, [], ◌∷◌, ◌++◌, length, get_or, take, sym, ap, ◌∙◌, add-zero, append_assoc, append-nil, arith}
use Rattle.std.specs.List.{flat_map}
use Rattle.std.proofs.lemmas.List.{take_more, length-take-le}
use Rattle.std.proofs.lemmas.List.Concat.{flat_map-append}
use Rattle.hwp_page.specs.hwp_geom.Words.{line}
use Rattle.hwp_report_text.specs.ReportText.{numbered}

-- the lines of one item more
pub numbered-push : {A : Type 0} (lines_of : ℕ → A → List (List (List ℕ))) (n : ℕ) (xs : List A) (x : A)
    → numbered lines_of n (xs ++ x ∷ []) ≡ numbered lines_of n xs ++ lines_of (n + length xs) x
numbered-push lines_of n [] x = append-nil (lines_of n x) ∙ ap (λ k. lines_of k x) (sym (add-zero n))
numbered-push lines_of n (y ∷ ys) x =
    ap (λ t. lines_of n y ++ t) (numbered-push lines_of (n + 1) ys x)
    ∙ sym (append_assoc (lines_of n y) (numbered lines_of (n + 1) ys) (lines_of (n + 1 + length ys) x))
    ∙ ap (λ k. (lines_of n y ++ numbered lines_of (n + 1) ys) ++ lines_of k x) (omega arith)

pub numbered-more : {A : Type 0} (lines_of : ℕ → A → List (List (List ℕ))) (xs : List A) (i : ℕ) (d : A) → i < length xs
    → numbered lines_of 0 (take (i + 1) xs) ≡ numbered lines_of 0 (take i xs) ++ lines_of i (get_or xs i d)
numbered-more lines_of xs i d h =
    ap (numbered lines_of 0) (take_more xs i d h)
    ∙ numbered-push lines_of 0 (take i xs) (get_or xs i d)
    ∙ ap (λ k. numbered lines_of 0 (take i xs) ++ lines_of k (get_or xs i d)) (omega (arith, length-take-le i xs))

-- after the text of the items below i, the text of item i
pub put_numbered : {A : Type 0} (lines_of : ℕ → A → List (List (List ℕ))) (front before after : List ℕ) (xs : List A) (i : ℕ) (d x : A)
    → i < length xs → before ≡ front ++ flat_map line (numbered lines_of 0 (take i xs)) → after ≡ before ++ flat_map line (lines_of i x) → x ≡ get_or xs i d
    → after ≡ front ++ flat_map line (numbered lines_of 0 (take (i + 1) xs))
put_numbered lines_of front before after xs i d x h b a e =
    a
    ∙ ap (λ y. before ++ flat_map line (lines_of i y)) e
    ∙ ap (λ t. t ++ flat_map line (lines_of i (get_or xs i d))) b
    ∙ append_assoc front (flat_map line (numbered lines_of 0 (take i xs))) (flat_map line (lines_of i (get_or xs i d)))
    ∙ ap (λ t. front ++ t) (sym (flat_map-append line (numbered lines_of 0 (take i xs)) (lines_of i (get_or xs i d))))
    ∙ ap (λ t. front ++ flat_map line t) (sym (numbered-more lines_of xs i d h))
