-- The order in which policies are read: neighbours in order are enough.
use Rattle.std.proofs.Common.{◌≡◌, ℕ, zero, suc, ◌+◌, ◌<◌, Bool, List, Option, Some, None, ◌⊎◌, ◌↔◌, inl, inr, length, ap, ◌∙◌, arith, get_or, subst, add-zero, ◌-◌, ◌≤◌}
use Rattle.std.specs.Prelude.{IsSomeAnd, IsTrue, AllPairs, slice_get}
use Rattle.hwp_geom.specs.declared.Layout.{Layout}
use Rattle.hwp_geom.specs.declared.Proc.{Proc}
use Rattle.hwp_geom.specs.declared.ThreadDecl.{ThreadDecl}
use Rattle.hwp_kill.specs.declared.types.Seen.{Seen}
use Rattle.hwp_kill.specs.Kill.{StandsBefore}

abbrev pub Before : ThreadDecl → ThreadDecl → ℕ → ℕ → Type 0
Before s t a b = (s.process.0 < t.process.0) ⊎ ((s.process ≡ t.process) × (a < b))

abbrev number : Proc → ℕ
number p = p.0

then : (s t u : ThreadDecl) (a b c : ℕ) → Before s t a b → Before t u b c → Before s u a c
then s t u a b c (inl below) (inl further) = inl (omega arith)
then s t u a b c (inl below) (inr same) = inl (let e = ap number same.0 in omega arith)
then s t u a b c (inr same) (inl further) = inl (let e = ap number same.0 in omega arith)
then s t u a b c (inr same) (inr same') = inr (same.0 ∙ same'.0, let k = same.1 in let l = same'.1 in omega arith)

abbrev Declared : Option ThreadDecl → Option ThreadDecl → ℕ → ℕ → Type 0
Declared o p a b = IsSomeAnd o (λ s. IsSomeAnd p (λ t. Before s t a b))

then_declared : (o p q : Option ThreadDecl) (a b c : ℕ) → Declared o p a b → Declared p q b c → Declared o q a c
then_declared None p q a b c h k = absurd h
then_declared (Some s) None q a b c h k = absurd h
then_declared (Some s) (Some t) None a b c h k = absurd k
then_declared (Some s) (Some t) (Some u) a b c h k = then s t u a b c h k

-- an entry stands before one that stands behind a later one
StandsBefore-then : (layout : Layout) (x y z : Seen) → StandsBefore layout x y → StandsBefore layout y z → StandsBefore layout x z
StandsBefore-then layout x y z h k =
    then_declared (slice_get layout.threads x.thread.0) (slice_get layout.threads y.thread.0) (slice_get layout.threads z.thread.0) x.thread.0 y.thread.0 z.thread.0 h k

-- what says whether one entry stands before the other, where both threads are declared
pub stands-if : (layout : Layout) (one other : Seen) {s t : ThreadDecl} {r : Bool} → slice_get layout.threads one.thread.0 ≡ Some s → slice_get layout.threads other.thread.0 ≡ Some t
    → IsTrue r ↔ Before s t one.thread.0 other.thread.0 → IsTrue r ↔ StandsBefore layout one other
stands-if layout one other first second tells = rw (first, second) tells

-- each entry below the place `next` stands before the entry after it
pub record InOrderTo (layout : Layout) (xs : List Seen) (next : ℕ) : Type 0 where
  pub each : (k : ℕ) (d : Seen) → k + 1 < next → StandsBefore layout (get_or xs k d) (get_or xs (k + 1) d)

far : (layout : Layout) (xs : List Seen) (i gap : ℕ) (d : Seen) → InOrderTo layout xs (length xs) → i + gap + 1 < length xs
    → StandsBefore layout (get_or xs i d) (get_or xs (i + gap + 1) d)
far layout xs i zero d near within = rw add-zero (near.each i d (omega arith))
far layout xs i (suc gap) d near within =
    let step : StandsBefore layout (get_or xs (i + gap + 1) d) (get_or xs (i + gap + 1 + 1) d) = near.each (i + gap + 1) d (omega arith) in
    let rest = far layout xs i gap d near (omega arith) in
    let both = StandsBefore-then layout (get_or xs i d) (get_or xs (i + gap + 1) d) (get_or xs (i + gap + 1 + 1) d) rest step in
    let P : ℕ → Type 0 = λ j. StandsBefore layout (get_or xs i d) (get_or xs j d) in
    subst P (omega arith) both

pub pairs_in_order : {layout : Layout} {xs : List Seen} {next : ℕ} → InOrderTo layout xs next → length xs ≤ next → AllPairs (StandsBefore layout) xs
pairs_in_order {layout = layout} {xs = xs} near all i j d below within =
    let whole : InOrderTo layout xs (length xs) = record { each = λ k e h. near.each k e (omega arith) } in
    let P : ℕ → Type 0 = λ m. StandsBefore layout (get_or xs i d) (get_or xs m d) in
    subst P (omega arith) (far layout xs i (j - i - 1) d whole (omega arith))
