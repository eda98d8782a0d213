-- What stands at a place of a list, as `get` finds it.
use Rattle.std.proofs.Common.{◌≡◌, ℕ, true, false, ltb, List, Some, None, length, get_or, slice_get, sym, ap, ◌∙◌, ltb-true, ltb-false}
use Rattle.std.proofs.lemmas.Option.{slice_get-get_or, slice_get_past}

module _ {X : Type 0} (xs ys : List X) (i j : ℕ) where
  same : xs ≡ ys → i ≡ j → slice_get ys j ≡ slice_get xs i
  same list place = ap (λ (l : List X). slice_get l j) (sym list) ∙ ap (λ (k : ℕ). slice_get xs k) (sym place)

  pub found-there : (x : X) → xs ≡ ys → i ≡ j → true ≡ ltb i (length xs) → x ≡ get_or xs i x → slice_get ys j ≡ Some x
  found-there x list place within is = same list place ∙ slice_get-get_or xs i x (ltb-true i (length xs) (sym within)) ∙ ap Some (sym is)

  pub none-there : xs ≡ ys → i ≡ j → false ≡ ltb i (length xs) → slice_get ys j ≡ None
  none-there list place past = same list place ∙ slice_get_past xs i (ltb-false i (length xs) (sym past))
