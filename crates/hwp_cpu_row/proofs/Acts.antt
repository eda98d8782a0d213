-- What a command did beside its answer, with one event more, and with one frame more.
use Rattle.std.proofs.Common.{◌≡◌, ◌≢◌, ◌⊎◌, inl, inr, ℕ, suc, ◌+◌, ◌==◌, ◌≤◌, ◌<◌, Bool, true, false, List, [], ◌∷◌, ◌++◌, map, length, if◌then◌else◌, refl, sym, ap, ◌∙◌, append-nil, subst, arith, true≢false}
use Rattle.std.proofs.lemmas.Bool.{cases_lt, eq-eqb, eqb-true, ne_eqb}
use Rattle.std.proofs.lemmas.List.{map-append}
use Rattle.hwp_claim.specs.declared.told.EventOutcome.{EventOutcome}
use Rattle.hwp_cpu_row.specs.declared.row.Offlining.{Offlining}
use Rattle.hwp_cpu_row.specs.Acts.{Act, AreInTime, Offlined, Told, acts, acts_from}

-- the first is behind no more than the last
pub in-time-room : (low high : ℕ) (os : List Offlining) → AreInTime low high os → low ≤ high
in-time-room low high [] within = within
in-time-room low high (o ∷ os) within = let first : low ≤ o.told = within.0 in let rest : o.told ≤ high = in-time-room o.told high os within.1 in omega (arith, first, rest)

-- there is room for more
pub in-time-more : (low high more : ℕ) (os : List Offlining) → high ≤ more → AreInTime low high os → AreInTime low more os
in-time-more low high more [] wider within = let few : low ≤ high = within in omega (arith, few, wider)
in-time-more low high more (o ∷ os) wider within = (within.0, in-time-more o.told high more os wider within.1)

-- and for one at the end
pub in-time-push : (low high : ℕ) (os : List Offlining) (o : Offlining) → AreInTime low high os → o.told ≡ high → AreInTime low high (os ++ o ∷ [])
in-time-push low high [] o within is = (let few : low ≤ high = within in omega (arith, few, is), omega (arith, is))
in-time-push low high (p ∷ os) o within is = (within.0, in-time-push p.told high os o within.1 is)

above-of : (n k : ℕ) → n ≤ k → k ≢ n → n + 1 ≤ k
above-of n k low other = which (cases_lt n k)
  where
    which : (n < k) ⊎ (k ≤ n) → n + 1 ≤ k
    which (inl less) = omega (arith, less)
    which (inr most) = absurd (other (omega (arith, low, most)))

-- ---- events more

step-told : (n : ℕ) (t : EventOutcome) (ts : List EventOutcome) (o : Offlining) (os : List Offlining) (b : Bool) → (o.told == n) ≡ b
    → acts_from n (t ∷ ts) (o ∷ os) ≡ (if b then Offlined o ∷ acts_from n (t ∷ ts) os else Told t ∷ acts_from (n + 1) ts (o ∷ os))
step-told n t ts o os b is = ap (λ (c : Bool). if c then Offlined o ∷ acts_from n (t ∷ ts) os else Told t ∷ acts_from (n + 1) ts (o ∷ os)) is

acts-none : (n : ℕ) (more : List EventOutcome) (os : List Offlining) → AreInTime n n os → acts_from n more os ≡ acts_from n [] os ++ map Told more
acts-none n more [] within = refl
acts-none n [] (o ∷ os) within = sym (append-nil (acts_from n [] (o ∷ os)))
acts-none n (m ∷ ms) (o ∷ os) within =
    let low : n ≤ o.told = within.0 in
    let high : o.told ≤ n = in-time-room o.told n os within.1 in
    let same : o.told ≡ n = omega (arith, low, high) in
    step-told n m ms o os true (eq-eqb o.told n same) ∙ ap (λ (l : List Act). Offlined o ∷ l) (acts-none n (m ∷ ms) os (at-low o.told n os same within.1))
  where
    at-low : (k n : ℕ) (os : List Offlining) → k ≡ n → AreInTime k n os → AreInTime n n os
    at-low k n os same has = subst (λ (i : ℕ). AreInTime i n os) same has

told-behind : (n : ℕ) (t : EventOutcome) (ts more : List EventOutcome) (o : Offlining) (os : List Offlining)
    → (AreInTime n (n + length (t ∷ ts)) os → acts_from n (t ∷ (ts ++ more)) os ≡ acts_from n (t ∷ ts) os ++ map Told more)
    → (AreInTime (n + 1) (n + 1 + length ts) (o ∷ os) → acts_from (n + 1) (ts ++ more) (o ∷ os) ≡ acts_from (n + 1) ts (o ∷ os) ++ map Told more)
    → AreInTime n (n + length (t ∷ ts)) (o ∷ os) → acts_from n (t ∷ (ts ++ more)) (o ∷ os) ≡ acts_from n (t ∷ ts) (o ∷ os) ++ map Told more
told-behind n t ts more o os here later within = which (o.told == n) refl
  where
    which : (b : Bool) → (o.told == n) ≡ b → acts_from n (t ∷ (ts ++ more)) (o ∷ os) ≡ acts_from n (t ∷ ts) (o ∷ os) ++ map Told more
    which true is =
        step-told n t (ts ++ more) o os true is ∙ ap (λ (l : List Act). Offlined o ∷ l) (here (subst (λ (i : ℕ). AreInTime i (n + length (t ∷ ts)) os) (eqb-true o.told n is) within.1))
        ∙ ap (λ (l : List Act). l ++ map Told more) (sym (step-told n t ts o os true is))
    which false is =
        step-told n t (ts ++ more) o os false is
        ∙ ap (λ (l : List Act). Told t ∷ l) (later (above-of n o.told within.0 (λ same. true≢false (sym (eq-eqb o.told n same) ∙ is)), subst (λ (i : ℕ). AreInTime o.told i os) (let same : n + suc (length ts) ≡ n + 1 + length ts = omega arith in same) within.1))
        ∙ ap (λ (l : List Act). l ++ map Told more) (sym (step-told n t ts o os false is))

acts-told-from : (n : ℕ) (told more : List EventOutcome) (os : List Offlining) → AreInTime n (n + length told) os → acts_from n (told ++ more) os ≡ acts_from n told os ++ map Told more
acts-told-from n told more [] within = map-append Told told more
acts-told-from n [] more (o ∷ os) within = acts-none n more (o ∷ os) (subst (λ (i : ℕ). AreInTime n i (o ∷ os)) (let none : n + 0 ≡ n = omega arith in none) within)
acts-told-from n (t ∷ ts) more (o ∷ os) within = told-behind n t ts more o os (λ rest. acts-told-from n (t ∷ ts) more os rest) (λ rest. acts-told-from (n + 1) ts more (o ∷ os) rest) within

from-first : (told : List EventOutcome) (os : List Offlining) → AreInTime 0 (length told) os → AreInTime 0 (0 + length told) os
from-first told os within = subst (λ (i : ℕ). AreInTime 0 i os) (let same : length told ≡ 0 + length told = omega arith in same) within

-- what the command told of later stands last
pub acts-told : (told more : List EventOutcome) (os : List Offlining) → AreInTime 0 (length told) os → acts (told ++ more) os ≡ acts told os ++ map Told more
acts-told told more os within = acts-told-from 0 told more os (from-first told os within)

-- ---- a frame more

offlined-behind : (n : ℕ) (t : EventOutcome) (ts : List EventOutcome) (p : Offlining) (os : List Offlining) (o : Offlining)
    → (AreInTime n (n + length (t ∷ ts)) os → acts_from n (t ∷ ts) (os ++ o ∷ []) ≡ acts_from n (t ∷ ts) os ++ Offlined o ∷ [])
    → (AreInTime (n + 1) (n + 1 + length ts) (p ∷ os) → acts_from (n + 1) ts (p ∷ (os ++ o ∷ [])) ≡ acts_from (n + 1) ts (p ∷ os) ++ Offlined o ∷ [])
    → AreInTime n (n + length (t ∷ ts)) (p ∷ os) → acts_from n (t ∷ ts) (p ∷ (os ++ o ∷ [])) ≡ acts_from n (t ∷ ts) (p ∷ os) ++ Offlined o ∷ []
offlined-behind n t ts p os o here later within = which (p.told == n) refl
  where
    which : (b : Bool) → (p.told == n) ≡ b → acts_from n (t ∷ ts) (p ∷ (os ++ o ∷ [])) ≡ acts_from n (t ∷ ts) (p ∷ os) ++ Offlined o ∷ []
    which true same =
        step-told n t ts p (os ++ o ∷ []) true same ∙ ap (λ (l : List Act). Offlined p ∷ l) (here (subst (λ (i : ℕ). AreInTime i (n + length (t ∷ ts)) os) (eqb-true p.told n same) within.1))
        ∙ ap (λ (l : List Act). l ++ Offlined o ∷ []) (sym (step-told n t ts p os true same))
    which false apart =
        step-told n t ts p (os ++ o ∷ []) false apart
        ∙ ap (λ (l : List Act). Told t ∷ l) (later (above-of n p.told within.0 (λ same. true≢false (sym (eq-eqb p.told n same) ∙ apart)), subst (λ (i : ℕ). AreInTime p.told i os) (let same : n + suc (length ts) ≡ n + 1 + length ts = omega arith in same) within.1))
        ∙ ap (λ (l : List Act). l ++ Offlined o ∷ []) (sym (step-told n t ts p os false apart))

acts-offlined-from : (n : ℕ) (told : List EventOutcome) (os : List Offlining) (o : Offlining) → AreInTime n (n + length told) os → o.told ≡ n + length told → acts_from n told (os ++ o ∷ []) ≡ acts_from n told os ++ Offlined o ∷ []
acts-offlined-from n [] [] o within is = refl
acts-offlined-from n [] (p ∷ os) o within is =
    let low : n ≤ p.told = within.0 in
    let high : p.told ≤ n + 0 = in-time-room p.told (n + 0) os within.1 in
    ap (λ (l : List Act). Offlined p ∷ l) (acts-offlined-from n [] os o (subst (λ (i : ℕ). AreInTime i (n + 0) os) (let same : p.told ≡ n = omega (arith, low, high) in same) within.1) is)
acts-offlined-from n (t ∷ ts) [] o within is =
    step-told n t ts o [] false (ne_eqb o.told n (λ same. absurd (omega (arith, same, is))))
    ∙ ap (λ (l : List Act). Told t ∷ l) (acts-offlined-from (n + 1) ts [] o (omega arith) (is ∙ (let same : n + suc (length ts) ≡ n + 1 + length ts = omega arith in same)))
acts-offlined-from n (t ∷ ts) (p ∷ os) o within is = offlined-behind n t ts p os o (λ rest. acts-offlined-from n (t ∷ ts) os o rest is)
    (λ rest. acts-offlined-from (n + 1) ts (p ∷ os) o rest (is ∙ (let same : n + suc (length ts) ≡ n + 1 + length ts = omega arith in same))) within

-- a frame that was taken out of use behind all events stands last
pub acts-offlined : (told : List EventOutcome) (os : List Offlining) (o : Offlining) → AreInTime 0 (length told) os → o.told ≡ length told → acts told (os ++ o ∷ []) ≡ acts told os ++ Offlined o ∷ []
acts-offlined told os o within is = acts-offlined-from 0 told os o (from-first told os within) (is ∙ (let same : length told ≡ 0 + length told = omega arith in same))
