-- Free bits under a step that sets or clears one of them.
use Rattle.std.proofs.Common.{◌≡◌, ◌≢◌, ℕ, zero, suc, ◌+◌, ◌*◌, ◌/◌, ◌%◌, ◌^◌, ◌<◌, ◌≤◌, List, length, set, get_or, bit_and, bit_or, w64, inl, inr, refl, sym, ap, ◌∙◌, arith}
use Rattle.std.specs.Int.{bit_not, bit_at}
use Rattle.std.proofs.lemmas.List.{get_or-set_same, get_or-set_other, set-get_or}
use Rattle.std.proofs.lemmas.Nat.Bits.{same_from_bits_below}
use Rattle.std.proofs.lemmas.Nat.{and_le_l}
use Rattle.hwp_words.proofs.OtherSteps.{field-set_same, field-set_other, field-clear_same, field-clear_other}
use Rattle.hwp_core_rule.specs.Words.{free_bit, sum_below}
use Rattle.hwp_core_rule.proofs.Lists.{same-or}

-- ---- sums below a number

pub sum-below-same : (f g : ℕ → ℕ) (n : ℕ) → ((i : ℕ) → i < n → f i ≡ g i) → sum_below f n ≡ sum_below g n
sum-below-same f g zero same = refl
sum-below-same f g (suc n) same =
    let rest : sum_below f n ≡ sum_below g n = sum-below-same f g n (λ i less. same i (omega arith)) in
    let last : f n ≡ g n = same n (omega arith) in
    omega arith

-- sums of what differs at one place alone
pub sum-below-change : (f g : ℕ → ℕ) (k n : ℕ) → k < n → ((i : ℕ) → i ≢ k → f i ≡ g i) → sum_below f n + g k ≡ sum_below g n + f k
sum-below-change f g k zero less same = absurd (omega arith)
sum-below-change f g k (suc n) less same =
    elim (same-or n k) [
      | inl last ↦
          let rest : sum_below f n ≡ sum_below g n = sum-below-same f g n (λ i below. same i (λ e. absurd (omega arith))) in
          let here : f n ≡ f k = ap f last in
          let there : g n ≡ g k = ap g last in
          omega arith
      | inr before ↦
          let rest : sum_below f n + g k ≡ sum_below g n + f k = sum-below-change f g k n (omega arith) same in
          let last : f n ≡ g n = same n before in
          omega arith
    ]

-- ---- the free bits after another free word

module _ (frees : List ℕ) (frame word : ℕ) (within : frame / 64 < length frees) where
  abbrev after : List ℕ
  after = set frees (frame / 64) word

  -- frames of the same free word read the new one
  pub free_bit-here : (f : ℕ) → f / 64 ≡ frame / 64 → free_bit after f ≡ word / 2 ^ (f % 64) % 2
  free_bit-here f same =
      ap (λ (i : ℕ). get_or after i 0 / 2 ^ (f % 64) % 2) same ∙ ap (λ (n : ℕ). n / 2 ^ (f % 64) % 2) (get_or-set_same frees (frame / 64) word 0 within)

  -- and others their own
  pub free_bit-else : (f : ℕ) → f / 64 ≢ frame / 64 → free_bit after f ≡ free_bit frees f
  free_bit-else f other = ap (λ (n : ℕ). n / 2 ^ (f % 64) % 2) (get_or-set_other frees (frame / 64) (f / 64) word 0 other)

-- a free word in which all bits but that of the frame are as they were
pub free_bit-other : (frees : List ℕ) (frame word f : ℕ) → frame / 64 < length frees
    → ((i : ℕ) → i < 64 → i ≢ frame % 64 → word / 2 ^ i % 2 ≡ get_or frees (frame / 64) 0 / 2 ^ i % 2)
    → f ≢ frame → free_bit (set frees (frame / 64) word) f ≡ free_bit frees f
free_bit-other frees frame word f within same other =
    elim (same-or (f / 64) (frame / 64)) [
      | inl here ↦
          free_bit-here frees frame word within f here ∙ same (f % 64) (omega arith) (λ e. other (omega arith))
          ∙ sym (ap (λ (i : ℕ). get_or frees i 0 / 2 ^ (f % 64) % 2) here)
      | inr else ↦ free_bit-else frees frame word within f else
    ]

module _ (frees : List ℕ) (frame : ℕ) (within : frame / 64 < length frees) where
  abbrev found : ℕ
  found = get_or frees (frame / 64) 0

  abbrev mask : ℕ
  mask = 1 * 2 ^ (frame % 64) % 2 ^ 64

  -- the free words with the bit of the frame cleared, and set
  abbrev cleared : List ℕ
  cleared = set frees (frame / 64) (bit_and found (bit_not w64 mask))

  abbrev raised : List ℕ
  raised = set frees (frame / 64) (bit_or found mask)

  pub free_bit-cleared : free_bit cleared frame ≡ 0
  free_bit-cleared = free_bit-here frees frame (bit_and found (bit_not w64 mask)) within frame refl ∙ field-clear_same found (frame % 64) (omega arith)

  pub free_bit-cleared_other : (f : ℕ) → f ≢ frame → free_bit cleared f ≡ free_bit frees f
  free_bit-cleared_other f other =
      free_bit-other frees frame (bit_and found (bit_not w64 mask)) f within (λ i less n. field-clear_other found (frame % 64) (omega arith) i less n) other

  pub free_bit-raised : free_bit raised frame ≡ 1
  free_bit-raised = free_bit-here frees frame (bit_or found mask) within frame refl ∙ field-set_same found (frame % 64) (omega arith)

  pub free_bit-raised_other : (f : ℕ) → f ≢ frame → free_bit raised f ≡ free_bit frees f
  free_bit-raised_other f other =
      free_bit-other frees frame (bit_or found mask) f within (λ i less n. field-set_other found (frame % 64) (omega arith) i n) other

  -- a bit that is not set is not cleared
  pub cleared-none : found < 2 ^ 64 → free_bit frees frame ≡ 0 → cleared ≡ frees
  cleared-none fits none =
      let below : bit_and found (bit_not w64 mask) ≤ found = and_le_l found (bit_not w64 mask) in
      ap (set frees (frame / 64)) (same_from_bits_below 64 (bit_and found (bit_not w64 mask)) found (omega arith) fits bits) ∙ set-get_or frees (frame / 64) 0
    where
      bits : (i : ℕ) → i < 64 → bit_at (bit_and found (bit_not w64 mask)) i ≡ bit_at found i
      bits i less = elim (same-or i (frame % 64)) [
        | inl here ↦ ap (bit_at (bit_and found (bit_not w64 mask))) here ∙ field-clear_same found (frame % 64) (omega arith) ∙ sym none ∙ ap (bit_at found) (sym here)
        | inr else ↦ field-clear_other found (frame % 64) (omega arith) i less else
      ]
