-- What is not found among the items of a list.
use Rattle.std.proofs.Common.{ℕ, ◌<◌, ◌≤◌, ◌+◌, List, length, get_or, take, subst}
use Rattle.std.specs.Prelude.{All}
use Rattle.std.proofs.lemmas.List.{take_all}
use Rattle.std.proofs.lemmas.List.Elements.{All-more, All-get_or}

-- none of the first i items is as looked for
pub record IsNoneOf {A : Type 0} (P : A → Type 0) (xs : List A) (i : ℕ) : Type 0 where
  pub each : All (λ x. P x → ⊥) (take i xs)

pub none-more : {A : Type 0} (P : A → Type 0) (xs : List A) (i : ℕ) (d : A) → i < length xs → IsNoneOf P xs i → (P (get_or xs i d) → ⊥)
    → IsNoneOf P xs (i + 1)
none-more P xs i d l h none = record { each = All-more (λ x. P x → ⊥) xs i d l h.each none }

-- where none of the items is as looked for, that at place j isn't
pub none-at : {A : Type 0} (P : A → Type 0) (xs : List A) (i j : ℕ) (d : A) → length xs ≤ i → IsNoneOf P xs i → j < length xs → P (get_or xs j d) → ⊥
none-at P xs i j d all h l = All-get_or (λ x. P x → ⊥) xs j d l (subst (All (λ x. P x → ⊥)) (take_all i xs all) h.each)
