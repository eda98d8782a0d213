-- The table's words, read and written in the order of the rule.
use Rattle.std.proofs.Common.{◌≡◌, ◌≢◌, ℕ, zero, suc, ◌+◌, ◌<◌, Bool, cond, List, [], ◌∷◌, ◌++◌, inl, inr, length, get_or, set, refl, sym, ap, ◌∙◌, arith, ne_eqb}
use Rattle.std.proofs.lemmas.List.{length-append}
use Rattle.hwp_core_rule.specs.hwp_geom.declared.Layout.{Layout}
use Rattle.hwp_core_rule.specs.declared.SharedWord.{SharedWord}
use Rattle.hwp_core_rule.specs.declared.SharedWord.TheVariants as places
use Rattle.hwp_core_rule.specs.Words.{IsPlace, index, size}
use Rattle.hwp_core_rule.proofs.Lists.{same-or, same-number}
use Rattle.hwp_table_words.specs.Order.{in_rule, in_table}

last-read : (xs : List ℕ) (x : ℕ) → get_or (xs ++ x ∷ []) (length xs) 0 ≡ x
last-read [] x = refl
last-read (y ∷ ys) x = last-read ys x

front-read : (xs : List ℕ) (x n : ℕ) → n < length xs → get_or (xs ++ x ∷ []) n 0 ≡ get_or xs n 0
front-read [] x n less = absurd (omega arith)
front-read (y ∷ ys) x zero less = refl
front-read (y ∷ ys) x (suc n) less = front-read ys x n (omega arith)

last-set : (xs : List ℕ) (x z : ℕ) → set (xs ++ x ∷ []) (length xs) z ≡ xs ++ z ∷ []
last-set [] x z = refl
last-set (y ∷ ys) x z = ap (λ (l : List ℕ). y ∷ l) (last-set ys x z)

front-set : (xs : List ℕ) (x n z : ℕ) → n < length xs → set (xs ++ x ∷ []) n z ≡ set xs n z ++ x ∷ []
front-set [] x n z less = absurd (omega arith)
front-set (y ∷ ys) x zero z less = refl
front-set (y ∷ ys) x (suc n) z less = ap (λ (l : List ℕ). y ∷ l) (front-set ys x n z (omega arith))

pub length-in_rule : (ws : List ℕ) → length (in_rule ws) ≡ length ws
length-in_rule [] = refl
length-in_rule (x ∷ xs) = let all : length (xs ++ x ∷ []) ≡ length xs + 1 = length-append xs (x ∷ []) in omega arith

-- the number is that of the last word, which the table has first, or of one before
at-last : (count n : ℕ) → suc n ≡ count → in_table count n ≡ 0
at-last count n is = ap (λ (b : Bool). cond b 0 (suc n)) (same-number (suc n) count is)

at-front : (count n : ℕ) → suc n ≢ count → in_table count n ≡ suc n
at-front count n other = ap (λ (b : Bool). cond b 0 (suc n)) (ne_eqb (suc n) count other)

-- each word but the stop word is before the last one
pub before_stop : (layout : Layout) (place : SharedWord) → IsPlace layout place → place ≢ places.Stop → in_table (size layout) (index layout place) ≡ suc (index layout place)
before_stop layout (places.Frame frame) inside other = at-front (size layout) (index layout (places.Frame frame)) (λ e. omega (arith, inside, e))
before_stop layout (places.Trans slot) inside other = at-front (size layout) (index layout (places.Trans slot)) (λ e. omega (arith, inside, e))
before_stop layout (places.Cache page) inside other = at-front (size layout) (index layout (places.Cache page)) (λ e. omega (arith, inside, e))
before_stop layout (places.Page page) inside other = at-front (size layout) (index layout (places.Page page)) (λ e. omega (arith, inside, e))
before_stop layout (places.Free number) inside other = at-front (size layout) (index layout (places.Free number)) (λ e. omega (arith, inside, e))
before_stop layout places.Available inside other = at-front (size layout) (index layout places.Available) (λ e. omega (arith, inside, e))
before_stop layout (places.Bad frame) inside other = at-front (size layout) (index layout (places.Bad frame)) (λ e. omega (arith, inside, e))
before_stop layout (places.Weak frame) inside other = at-front (size layout) (index layout (places.Weak frame)) (λ e. omega (arith, inside, e))
before_stop layout places.Counter inside other = at-front (size layout) (index layout places.Counter) (λ e. omega (arith, inside, e))
before_stop layout (places.Process process) inside other = at-front (size layout) (index layout (places.Process process)) (λ e. omega (arith, inside, e))
before_stop layout (places.Policy thread) inside other = at-front (size layout) (index layout (places.Policy thread)) (λ e. omega (arith, inside, e))
before_stop layout (places.Loss file) inside other = at-front (size layout) (index layout (places.Loss file)) (λ e. omega (arith, inside, e))
before_stop layout places.Stop inside other = absurd (other refl)

pub in_rule-read : (ws : List ℕ) (n : ℕ) → n < length ws → get_or (in_rule ws) n 0 ≡ get_or ws (in_table (length ws) n) 0
in_rule-read [] n less = absurd (omega arith)
in_rule-read (x ∷ xs) n less = elim (same-or n (length xs)) [
  | inl last ↦
      let is : suc n ≡ suc (length xs) = ap suc last in
      ap (λ (m : ℕ). get_or (xs ++ x ∷ []) m 0) last ∙ last-read xs x ∙ sym (ap (λ (m : ℕ). get_or (x ∷ xs) m 0) (at-last (suc (length xs)) n is))
  | inr front ↦
      let other : suc n ≢ suc (length xs) = λ e. front (omega (arith, e)) in
      front-read xs x n (omega (arith, less, front)) ∙ sym (ap (λ (m : ℕ). get_or (x ∷ xs) m 0) (at-front (suc (length xs)) n other))
]

pub in_rule-set : (ws : List ℕ) (n z : ℕ) → n < length ws → in_rule (set ws (in_table (length ws) n) z) ≡ set (in_rule ws) n z
in_rule-set [] n z less = absurd (omega arith)
in_rule-set (x ∷ xs) n z less = elim (same-or n (length xs)) [
  | inl last ↦
      let is : suc n ≡ suc (length xs) = ap suc last in
      ap (λ (m : ℕ). in_rule (set (x ∷ xs) m z)) (at-last (suc (length xs)) n is) ∙ sym (ap (λ (m : ℕ). set (xs ++ x ∷ []) m z) last ∙ last-set xs x z)
  | inr front ↦
      let other : suc n ≢ suc (length xs) = λ e. front (omega (arith, e)) in
      ap (λ (m : ℕ). in_rule (set (x ∷ xs) m z)) (at-front (suc (length xs)) n other) ∙ sym (front-set xs x n z (omega (arith, less, front)))
]
