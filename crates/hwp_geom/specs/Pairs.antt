-- Two lists, member by member.
use Rattle.std.specs.Prelude.{List, [], ◌∷◌}

-- the lists have the same length, and members at the same place stand in the relation
abbrev pub Pairs : {A B : Type 0} → (A → B → Type 0) → List A → List B → Type 0
Pairs R [] [] = Unit {0}
Pairs R [] (y ∷ ys) = ⊥
Pairs R (x ∷ xs) [] = ⊥
Pairs R (x ∷ xs) (y ∷ ys) = R x y × Pairs R xs ys
