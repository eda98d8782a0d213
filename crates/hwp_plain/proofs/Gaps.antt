-- The sum of gaps, and how the numbers of a rank fall.
use Rattle.std.proofs.Common.{◌≡◌, ◌≢◌, ℕ, zero, suc, ◌+◌, ◌<◌, ◌≤◌, ◌==◌, ◌⊎◌, inl, inr, Bool, true, false, cond, List, [], ◌∷◌, length, get_or, set, refl, ap, ◌∙◌, arith}
use Rattle.std.proofs.lemmas.Bool.{eqb-true, eq-eqb}
use Rattle.std.proofs.lemmas.List.{get_or-set_same, length-set}
use Rattle.hwp_core_rule.specs.Ranks.{cpu_room}
use Rattle.hwp_plain.specs.Order.{IsChosen}
use Rattle.hwp_plain.specs.Rank.{gap, gaps, phi, has_one, stage, ceiling, number_of}

pub gaps-set : (from : ℕ) (ls : List ℕ) (i y : ℕ) → i < length ls → gaps from (set ls i y) + gap (from + i) (get_or ls i 5) ≡ gaps from ls + gap (from + i) y
gaps-set from [] i y h = absurd (omega arith)
gaps-set from (l ∷ ls) zero y h = omega arith
gaps-set from (l ∷ ls) (suc i) y h = omega (arith, gaps-set (from + 1) ls i y (omega arith))

-- another level of the chosen one leaves the gaps of the others
pub phi-stays : (ls : List ℕ) (p y : ℕ) → p < length ls → phi (set ls p y) p ≡ phi ls p
phi-stays ls p y h = omega (arith, gaps-set 0 ls p y h, gaps-set 0 ls p 5 h, gaps-set 0 (set ls p y) p 5 (rw length-set h), get_or-set_same ls p y 5 h)

-- where another is chosen after the turn, the gaps of all but the chosen one fall
pub phi-falls : (ls : List ℕ) (p y q : ℕ) → p < length ls → length ls ≤ cpu_room → q ≢ p → IsChosen (set ls p y) q → phi (set ls p y) q < phi ls p
phi-falls ls p y q h few ne next = from-least (next.least p (rw length-set h))
  where
    same : length (set ls p y) ≡ length ls
    same = length-set ls p y

    within : q < length ls
    within = omega (arith, same, next.within)

    at_p : get_or (set ls p y) p 5 ≡ y
    at_p = get_or-set_same ls p y 5 h

    one : gaps 0 (set ls p y) + gap (0 + p) (get_or ls p 5) ≡ gaps 0 ls + gap (0 + p) y
    one = gaps-set 0 ls p y h

    two : gaps 0 (set ls p 5) + gap (0 + p) (get_or ls p 5) ≡ gaps 0 ls + gap (0 + p) 5
    two = gaps-set 0 ls p 5 h

    three : gaps 0 (set (set ls p y) q 5) + gap (0 + q) (get_or (set ls p y) q 5) ≡ gaps 0 (set ls p y) + gap (0 + q) 5
    three = gaps-set 0 (set ls p y) q 5 next.within

    going : get_or (set ls p y) q 5 < 5
    going = next.going

    from-least : (get_or (set ls p y) q 5 < get_or (set ls p y) p 5) ⊎ ((get_or (set ls p y) q 5 ≡ get_or (set ls p y) p 5) × (q ≤ p)) → phi (set ls p y) q < phi ls p
    from-least (inl less) = omega (arith, one, two, three, at_p, within, going, ne)
    from-least (inr equal) = omega (arith, one, two, three, at_p, within, going, ne, equal.0, equal.1)

pub has_one-at : (ls : List ℕ) (i : ℕ) → i < length ls → get_or ls i 5 ≡ 1 → has_one ls ≡ true
has_one-at [] i h is = absurd (omega arith)
has_one-at (l ∷ ls) zero h is = ap (λ (b : Bool). cond b true (has_one ls)) (eq-eqb l 1 is)
has_one-at (l ∷ ls) (suc i) h is = ap (λ (b : Bool). cond (l == 1) true b) (has_one-at ls i (omega arith) is) ∙ both (l == 1)
  where
    both : (b : Bool) → cond b true true ≡ true
    both true = refl
    both false = refl

pub has_one-where : (ls : List ℕ) → has_one ls ≡ true → (i : ℕ) × (i < length ls) × (get_or ls i 5 ≡ 1)
has_one-where [] is = absurd (cc)
has_one-where (l ∷ ls) is = by (l == 1) refl is (has_one-where ls)
  where
    by : (b : Bool) → (l == 1) ≡ b → cond b true (has_one ls) ≡ true → (has_one ls ≡ true → (i : ℕ) × (i < length ls) × (get_or ls i 5 ≡ 1)) → (i : ℕ) × (i < length (l ∷ ls)) × (get_or (l ∷ ls) i 5 ≡ 1)
    by true e h rest = (0, omega arith, eqb-true l 1 e)
    by false e h rest = let r = rest h in (suc r.0, omega (arith, r.1), r.2)

-- the stages are 1 to 3
pub stage-most : (over aborts : Bool) (ls : List ℕ) (p : ℕ) → (1 ≤ stage over aborts ls p) × (stage over aborts ls p ≤ 3)
stage-most true aborts ls p = (omega arith, omega arith)
stage-most false false ls p = (omega arith, omega arith)
stage-most false true ls p = by (has_one (set ls p 5))
  where
    by : (b : Bool) → (1 ≤ cond {A = ℕ} b 2 3) × (cond {A = ℕ} b 2 3 ≤ 3)
    by true = (omega arith, omega arith)
    by false = (omega arith, omega arith)

-- that of a task that is over
pub stage-over : (over aborts : Bool) (ls : List ℕ) (p : ℕ) → over ≡ true → stage over aborts ls p ≡ 1
stage-over over aborts ls p is = ap (λ (b : Bool). cond {A = ℕ} b 1 (cond aborts (cond (has_one (set ls p 5)) 2 3) 3)) is

-- of one that isn't
pub stage-going : (over aborts : Bool) (ls : List ℕ) (p : ℕ) → over ≡ false → 2 ≤ stage over aborts ls p
stage-going true aborts ls p is = absurd (cc)
stage-going false false ls p is = omega arith
stage-going false true ls p is = by (has_one (set ls p 5))
  where
    by : (b : Bool) → 2 ≤ cond {A = ℕ} b 2 3
    by true = omega arith
    by false = omega arith

-- of one that has nobody to leave its class to
pub stage-stays : (over aborts : Bool) (ls : List ℕ) (p : ℕ) → over ≡ false → (aborts ≡ true → has_one (set ls p 5) ≡ true → ⊥) → stage over aborts ls p ≡ 3
stage-stays true aborts ls p is none = absurd (cc)
stage-stays false false ls p is none = refl
stage-stays false true ls p is none = by (has_one (set ls p 5)) (none refl)
  where
    by : (b : Bool) → (b ≡ true → ⊥) → cond {A = ℕ} b 2 3 ≡ 3
    by true no_one = absurd (no_one refl)
    by false no_one = refl

-- and of one that is about to leave it
pub stage-leaves : (over aborts : Bool) (ls : List ℕ) (p : ℕ) → aborts ≡ true → has_one (set ls p 5) ≡ true → stage over aborts ls p ≤ 2
stage-leaves true aborts ls p a h = omega arith
stage-leaves false false ls p a h = absurd (cc)
stage-leaves false true ls p a h = by (has_one (set ls p 5)) h
  where
    by : (b : Bool) → b ≡ true → cond {A = ℕ} b 2 3 ≤ 2
    by true is = omega arith
    by false is = absurd (cc)

-- the three ways in which the number falls
pub number-by-phi : (f f2 y y2 c c2 : ℕ) → f2 < f → 1 ≤ y → y2 ≤ 3 → c2 < ceiling → number_of f2 y2 c2 < number_of f y c
number-by-phi f f2 y y2 c c2 h some hy hc = omega arith

pub number-by-stage : (f f2 y y2 c c2 : ℕ) → f2 ≡ f → y2 < y → c2 < ceiling → number_of f2 y2 c2 < number_of f y c
number-by-stage f f2 y y2 c c2 h hy hc = omega arith

pub number-by-cost : (f f2 y y2 c c2 : ℕ) → f2 ≡ f → y2 ≤ y → c2 < c → number_of f2 y2 c2 < number_of f y c
number-by-cost f f2 y y2 c c2 h hy hc = omega arith
