-- Lists that are read element by element.
use Rattle.std.proofs.Common.{◌≡◌, ℕ, zero, suc, ◌+◌, ◌-◌, ◌<◌, List, [], ◌∷◌, ◌++◌, take, drop, sym, ap, ◌∙◌, arith}
use mathlib.Core.Option.{some, some-injective, some-ne-none}
use lib.ListN.{get_elem?}

pub take-one : {A : Type 0} (xs : List A) (i : ℕ) (x : A) → get_elem? xs i ≡ some x → take i xs ++ x ∷ [] ≡ take (i + 1) xs
take-one [] i x e = absurd (some-ne-none x (sym e))
take-one (y ∷ ys) zero x e = λ i. sym (some-injective y x e) i ∷ []
take-one {A} (y ∷ ys) (suc n) x e = let next : suc n + 1 ≡ suc (n + 1) = omega arith in ap (λ (l : List A). y ∷ l) (take-one ys n x e) ∙ ap (λ (m : ℕ). take m (y ∷ ys)) (sym next)

-- the same past the first
pub rest-one : (ws : List ℕ) (next x : ℕ) → 0 < next → get_elem? ws next ≡ some x → take (next - 1) (drop 1 ws) ++ x ∷ [] ≡ take (next + 1 - 1) (drop 1 ws)
rest-one [] next x less e = absurd (some-ne-none x (sym e))
rest-one (w ∷ ws) zero x less e = absurd (omega (arith, less))
rest-one (w ∷ ws) (suc n) x less e =
    let before : suc n - 1 ≡ n = omega arith in
    let after : suc n + 1 - 1 ≡ n + 1 = omega arith in
    ap (λ (m : ℕ). take m ws ++ x ∷ []) before ∙ take-one ws n x e ∙ ap (λ (m : ℕ). take m ws) (sym after)
