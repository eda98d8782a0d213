-- What a fold makes of a list, one member after another.
use Rattle.std.proofs.Common.{◌≡◌, ℕ, ◌+◌, ◌<◌, ◌≤◌, List, drop, fold, get_or, length, sym, ap, ◌∙◌}
use Rattle.std.proofs.lemmas.List.{drop_all, drop_more}

module _ {X Y : Type 0} (f : Y → X → Y) (xs : List X) where
  pub folded-next : (i : ℕ) (d : X) (old new whole : Y) → i < length xs → new ≡ f old (get_or xs i d) → fold f old (drop i xs) ≡ whole → fold f new (drop (i + 1) xs) ≡ whole
  folded-next i d old new whole within is was = ap (λ (y : Y). fold f y (drop (i + 1) xs)) is ∙ ap (λ (l : List X). fold f old l) (sym (drop_more xs i d within)) ∙ was

  pub folded-all : (i : ℕ) (old whole : Y) → length xs ≤ i → fold f old (drop i xs) ≡ whole → old ≡ whole
  folded-all i old whole past was = ap (λ (l : List X). fold f old l) (sym (drop_all i xs past)) ∙ was
