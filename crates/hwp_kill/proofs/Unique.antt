-- The kill table gives one list of signals: any two that it gives are equal.
use Rattle.std.proofs.Common.{◌≡◌, ℕ, zero, suc, ◌<◌, Bool, true, false, List, [], ◌∷◌, Option, ◌⊎◌, inl, inr, refl, sym, ap, ◌∙◌, arith}
use Rattle.std.specs.Prelude.{Contains, AllPairs}
use Rattle.std.specs.Ordering.{nat_cmp}
use Rattle.std.specs.FinSet as set
use Rattle.hwp_geom.specs.declared.Layout.{Layout}
use Rattle.hwp_geom.specs.declared.Thread.{Thread}
use Rattle.hwp_kill.specs.declared.types.Seen.{Seen}
use Rattle.hwp_kill.specs.declared.types.Signal.{Signal}
use Rattle.hwp_kill.specs.Kill.{Killed}

-- a list whose members rise by a number of theirs
pub record Rises {X : Type 0} (f : X → ℕ) (xs : List X) : Type 0 where
  pub pairs : AllPairs (λ a b. f a < f b) xs

Rises-tail : {X : Type 0} (f : X → ℕ) (x : X) (xs : List X) → Rises f (x ∷ xs) → Rises f xs
Rises-tail f x xs h = record { pairs = λ i j d below within. h.pairs (suc i) (suc j) d (omega arith) (omega arith) }

above_head : {X : Type 0} (f : X → ℕ) (x : X) (xs : List X) (z : X) → Rises f (x ∷ xs) → Contains xs z → f x < f z
above_head f x xs z h has = rw has.2 at (h.pairs zero (suc has.0) z (omega arith) (let w = has.1 in omega arith))

head_or_later : {X : Type 0} (x : X) (xs : List X) (z : X) → Contains (x ∷ xs) z → (x ≡ z) ⊎ Contains xs z
head_or_later x xs z (zero, within, is) = inl is
head_or_later x xs z (suc k, within, is) = inr (k, omega arith, is)

at_head : {X : Type 0} (x : X) (xs : List X) → Contains (x ∷ xs) x
at_head x xs = (zero, omega arith, refl)

later : {X : Type 0} (x : X) (xs : List X) (z : X) → Contains xs z → Contains (x ∷ xs) z
later x xs z (k, within, is) = (suc k, omega arith, is)

none_in_nil : {X : Type 0} (z : X) → Contains [] z → ⊥
none_in_nil z (k, within, is) = omega arith

same_head : {X : Type 0} (f : X → ℕ) (x y : X) (xs ys : List X) → Rises f (x ∷ xs) → Rises f (y ∷ ys)
    → Contains (y ∷ ys) x → Contains (x ∷ xs) y → x ≡ y
same_head f x y xs ys rise rise' has has' = elim (head_or_later y ys x has) [
  | inl same ↦ sym same
  | inr further ↦ elim (head_or_later x xs y has') [
    | inl same ↦ same
    | inr back ↦ let up = above_head f y ys x rise' further in let down = above_head f x xs y rise back in absurd (omega arith)
  ]
]

in_tail : {X : Type 0} (f : X → ℕ) (x y : X) (xs ys : List X) (z : X) → x ≡ y → Rises f (x ∷ xs) → Contains xs z → Contains (y ∷ ys) z → Contains ys z
in_tail f x y xs ys z same rise has has' = elim (head_or_later y ys z has') [
  | inl here ↦ let up = above_head f x xs z rise has in let e : f x ≡ f z = ap f (same ∙ here) in absurd (omega arith)
  | inr there ↦ there
]

-- two such lists with the same members are equal
pub same_rising : {X : Type 0} (f : X → ℕ) (xs ys : List X) → Rises f xs → Rises f ys
    → ((z : X) → Contains xs z → Contains ys z) → ((z : X) → Contains ys z → Contains xs z) → xs ≡ ys
same_rising f [] [] rise rise' to from = refl
same_rising f [] (y ∷ ys) rise rise' to from = absurd (none_in_nil y (from y (at_head y ys)))
same_rising f (x ∷ xs) [] rise rise' to from = absurd (none_in_nil x (to x (at_head x xs)))
same_rising f (x ∷ xs) (y ∷ ys) rise rise' to from =
    let head : x ≡ y = same_head f x y xs ys rise rise' (to x (at_head x xs)) (from y (at_head y ys)) in
    let tail : xs ≡ ys = same_rising f xs ys (Rises-tail f x xs rise) (Rises-tail f y ys rise')
    (λ z has. in_tail f x y xs ys z head rise has (to z (later x xs z has)))
    (λ z has. in_tail f y x ys xs z (sym head) rise' has (from z (later y ys z has))) in
    cc

-- the kill table gives one list of signals
pub Killed-same : (layout : Layout) (maps : set.FinSet nat_cmp) (signals_at_all always : Bool) (current : Option Thread) (seen : List Seen) (xs ys : List Signal)
    → Killed layout maps signals_at_all always current seen xs → Killed layout maps signals_at_all always current seen ys → xs ≡ ys
Killed-same layout maps false always current seen xs ys a b = a ∙ sym b
Killed-same layout maps true always current seen xs ys a b =
    same_rising (λ (s : Signal). s.process.0) xs ys (record { pairs = a.rising }) (record { pairs = b.rising })
    (λ z has. (b.each z).1 ((a.each z).0 has))
    (λ z has. (a.each z).1 ((b.each z).0 has))
