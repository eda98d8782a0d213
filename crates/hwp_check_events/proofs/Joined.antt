-- A list put together of what each member of another gives, one member after another.
use Rattle.std.proofs.Common.{◌≡◌, ℕ, ◌+◌, ◌<◌, ◌≤◌, List, [], ◌∷◌, ◌++◌, drop, get_or, length, sym, ap, ◌∙◌}
use Rattle.std.proofs.lemmas.List.{append-nil, append_assoc, drop_all, drop_more}

module _ {X Y : Type 0} (all_of : List X → List Y) (of : X → List Y) (split : (x : X) (xs : List X) → all_of (x ∷ xs) ≡ of x ++ all_of xs) (none : all_of [] ≡ []) (xs : List X) where
  pub joined-next : (i : ℕ) (d : X) (old new whole : List Y) → i < length xs → new ≡ old ++ of (get_or xs i d) → old ++ all_of (drop i xs) ≡ whole → new ++ all_of (drop (i + 1) xs) ≡ whole
  joined-next i d old new whole within is was =
      ap (λ (l : List Y). l ++ all_of (drop (i + 1) xs)) is ∙ append_assoc old (of (get_or xs i d)) (all_of (drop (i + 1) xs)) ∙ ap (λ (l : List Y). old ++ l) (sym (split (get_or xs i d) (drop (i + 1) xs)))
      ∙ ap (λ (l : List X). old ++ all_of l) (sym (drop_more xs i d within)) ∙ was

  pub joined-all : (i : ℕ) (old whole : List Y) → length xs ≤ i → old ++ all_of (drop i xs) ≡ whole → old ≡ whole
  joined-all i old whole past was = sym (append-nil old) ∙ ap (λ (l : List Y). old ++ l) (sym none) ∙ sym (ap (λ (l : List X). old ++ all_of l) (drop_all i xs past)) ∙ was
