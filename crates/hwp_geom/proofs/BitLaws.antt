-- How the lowest bit of a word is found.
use Rattle.std.proofs.Common.{◌≡◌, ◌≢◌, ℕ, ◌+◌, ◌-◌, ◌/◌, ◌%◌, ◌^◌, ◌<◌, ◌≤◌, refl, sym, ap, ◌∙◌, inl, inr, arith}
use Rattle.std.specs.Int.{bit_at, w64, trailing_zeros}
use Rattle.std.proofs.Math.Nat.{div-le_self}
use Rattle.std.proofs.lemmas.Bool.{cases_lt}
use Rattle.std.proofs.lemmas.Nat.{shr-shr}
use Rattle.std.proofs.lemmas.Nat.Bits.{bit_at-zero, bit_at_above, bit_at-trailing_zeros}
use Rattle.hwp_geom.specs.Bits.{HasNoBitFrom, IsLowestBit}

bit_at-shift : (word from i j : ℕ) → i ≡ from + j → bit_at word i ≡ bit_at (word / 2 ^ from) j
bit_at-shift word from i j sum = ap (λ n. bit_at word n) sum ∙ sym (ap (λ n. n % 2) (shr-shr word from j))

-- a word that is 0 once shifted has no bit from there on
pub no_bit : (word from : ℕ) → word / 2 ^ from ≡ 0 → HasNoBitFrom word from
no_bit word from nothing i above = bit_at-shift word from i (i - from) (omega arith) ∙ ap (λ n. bit_at n (i - from)) nothing ∙ bit_at-zero (i - from)

within_word : (word i : ℕ) → word < 2 ^ 64 → bit_at word i ≡ 1 → i < 64
within_word word i fits one = elim (cases_lt i 64) [
  | inl below ↦ below
  | inr above ↦ let none : bit_at word i ≡ 0 = bit_at_above word 64 i fits above in absurd (omega arith)
]

-- else the shifted word's lowest bit is the lowest from there on
pub lowest_bit_at : (word from : ℕ) → word < 2 ^ 64 → word / 2 ^ from ≢ 0 → IsLowestBit word from (from + trailing_zeros w64 (word / 2 ^ from))
lowest_bit_at word from fits some =
    let small : word / 2 ^ from ≤ word = div-le_self word (2 ^ from) in
    let zeros = bit_at-trailing_zeros w64 (word / 2 ^ from) (omega arith) (omega arith) in
    let is_set : bit_at word (from + trailing_zeros w64 (word / 2 ^ from)) ≡ 1 = bit_at-shift word from _ (trailing_zeros w64 (word / 2 ^ from)) refl ∙ zeros.1 in
    record {
      within = within_word word _ fits is_set;
      is_set = is_set;
      not_below = omega arith;
      lowest = λ i above below. bit_at-shift word from i (i - from) (omega arith) ∙ zeros.2 (i - from) (omega arith);
    }
