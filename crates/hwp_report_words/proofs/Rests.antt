-- The first words of a line, and those behind them.
use Rattle.std.proofs.Common.{◌≡◌, ℕ, ◌≤◌, ◌-◌, List, [], ◌∷◌, length, get_or, map, take, drop, sym, ap, ◌∙◌, arith}
use Rattle.std.proofs.lemmas.List.{drop-map, take_rest}

-- the words behind the first k
pub rest_of : {X : Type 0} (f : X → List ℕ) (ws : List X) (k : ℕ) → drop k (map f ws) ≡ map f (take (length ws - k) (drop k ws))
rest_of f ws k = drop-map f k ws ∙ ap (map f) (sym (take_rest ws k))

-- the first word and the words behind it
pub first_of : {X : Type 0} (f : X → List ℕ) (ws : List X) (d : X) → 1 ≤ length ws → map f ws ≡ f (get_or ws 0 d) ∷ map f (take (length ws - 1) (drop 1 ws))
first_of f [] d some = absurd (omega arith)
first_of f (w ∷ ws) d some = ap (λ t. f w ∷ t) (rest_of f (w ∷ ws) 1)
