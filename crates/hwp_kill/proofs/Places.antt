-- What `get` finds in a list, in the words of clauses, and a list that takes over another one by one.
use Rattle.std.proofs.Common.{◌≡◌, ℕ, ◌+◌, ◌<◌, List, [], ◌∷◌, ◌++◌, Option, Some, None, true, false, ltb, length, get_or, take, slice_get, ap, sym, ◌∙◌, ltb-true, ltb-false}
use Rattle.std.proofs.lemmas.List.{take_more}
use Rattle.std.proofs.lemmas.Option.{slice_get-get_or, slice_get_past}

same-place : {X : Type 0} {xs ys : List X} {i j : ℕ} → xs ≡ ys → i ≡ j → slice_get ys j ≡ slice_get xs i
same-place {xs = xs} {j = j} same here = ap (λ zs. slice_get zs j) (sym same) ∙ ap (slice_get xs) (sym here)

-- `get` found the item
pub got : {X : Type 0} {xs ys : List X} {i j : ℕ} {x : X} → xs ≡ ys → i ≡ j → true ≡ ltb i (length xs) → x ≡ get_or xs i x → slice_get ys j ≡ Some x
got {xs = xs} {i = i} {x = x} same here within at =
    same-place same here ∙ slice_get-get_or xs i x (ltb-true i (length xs) (sym within)) ∙ ap Some (sym at)

-- `get` found nothing
pub missed : {X : Type 0} {xs ys : List X} {i j : ℕ} → xs ≡ ys → i ≡ j → false ≡ ltb i (length xs) → slice_get ys j ≡ None
missed {xs = xs} {i = i} same here past = same-place same here ∙ slice_get_past xs i (ltb-false i (length xs) (sym past))

-- one item more has been taken over
pub more : {X : Type 0} {xs ys held new : List X} {i : ℕ} (d : X) → xs ≡ ys → i < length xs → held ≡ take i ys → new ≡ held ++ get_or xs i d ∷ [] → new ≡ take (i + 1) ys
more {X = X} {xs = xs} {i = i} d same within before next =
    rw (← same) (next ∙ ap (λ (l : List X). l ++ get_or xs i d ∷ []) (rw (← same) at before) ∙ sym (take_more xs i d within))
