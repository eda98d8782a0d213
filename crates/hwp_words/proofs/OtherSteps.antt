-- How atomic steps on the other words read: the counter word, the stop word, and single bits.
use Rattle.std.proofs.Common.{◌≡◌, ◌≢◌, ℕ, ◌+◌, ◌-◌, ◌*◌, ◌%◌, ◌^◌, ◌<◌, ◌≤◌, bit_and, bit_or, w64, arith, refl, ◌∙◌}
use Rattle.std.specs.Int.{bit_not}
use Rattle.std.proofs.lemmas.Nat.Bits.{bit_at_set_same, bit_at_set_other, bit_at_clear_same, bit_at_clear_other}
use Rattle.hwp_words.specs.Fields.{field, bit}
use Rattle.hwp_words.specs.Counters.{hardware_of, biased_poisoned_of}
use Rattle.hwp_words.specs.Stops.{stopper_of, stop_cpu_field, no_memory_bit}
use Rattle.hwp_words.proofs.FieldLaws.{field-or, field-or_other, or_one}

-- ---- the counter word

-- the two counts of a counter word; the second is biased by 2 ^ 31
pub record CountsAre (w hardware' poisoned' : ℕ) : Type 0 where
  pub hardware : hardware_of w ≡ hardware'
  pub poisoned : biased_poisoned_of w ≡ poisoned'

-- a poisoned frame is counted
pub counts-count_poison : (w : ℕ) → w < 2 ^ 64 → biased_poisoned_of w + 1 < 2 ^ 32
    → CountsAre ((w + 1) % 2 ^ 64) (hardware_of w) (biased_poisoned_of w + 1)
counts-count_poison w fits room = record { hardware = omega arith; poisoned = omega arith }

-- a poisoned frame that a bank reported is counted
pub counts-count_hardware : (w : ℕ) → w < 2 ^ 64 → hardware_of w + 1 < 2 ^ 32 → biased_poisoned_of w + 1 < 2 ^ 32
    → CountsAre ((w + (2 ^ 32 + 1)) % 2 ^ 64) (hardware_of w + 1) (biased_poisoned_of w + 1)
counts-count_hardware w fits more room = record { hardware = omega arith; poisoned = omega arith }

-- a frame whose poison was cleared is no more counted
pub counts-uncount : (w : ℕ) → w < 2 ^ 64 → 1 ≤ biased_poisoned_of w
    → CountsAre ((w + (2 ^ 64 - 1)) % 2 ^ 64) (hardware_of w) (biased_poisoned_of w - 1)
counts-uncount w fits some = record { hardware = omega arith; poisoned = omega arith }

-- ---- the stop word

-- a processor stops the machine, whose word was 0
pub stopper_of-stop : (c : ℕ) → c < 255 → (stopper_of (c + 1) ≡ c + 1) × (field no_memory_bit (c + 1) ≡ 0)
stopper_of-stop c fits = (omega arith, omega arith)

-- a processor gives up
pub stopper_of-give_up : (w : ℕ) → (stopper_of (bit_or w (2 ^ 63)) ≡ stopper_of w) × (field no_memory_bit (bit_or w (2 ^ 63)) ≡ 1)
stopper_of-give_up w =
    (field-or_other stop_cpu_field w (2 ^ 63) refl, field-or no_memory_bit w (2 ^ 63) ∙ or_one (field no_memory_bit w) (omega arith))

-- ---- single bits, of the free words and of the words of damaged lines: `w | 1 << k` and `w & !(1 << k)`

module _ (w k : ℕ) (within : k < 64) where
  pub field-set_same : field (bit k) (bit_or w (1 * 2 ^ k % 2 ^ 64)) ≡ 1
  field-set_same = bit_at_set_same w64 w k within

  pub field-set_other : (i : ℕ) → i ≢ k → field (bit i) (bit_or w (1 * 2 ^ k % 2 ^ 64)) ≡ field (bit i) w
  field-set_other = bit_at_set_other w64 w k within

  pub field-clear_same : field (bit k) (bit_and w (bit_not w64 (1 * 2 ^ k % 2 ^ 64))) ≡ 0
  field-clear_same = bit_at_clear_same w64 w k within

  pub field-clear_other : (i : ℕ) → i < 64 → i ≢ k → field (bit i) (bit_and w (bit_not w64 (1 * 2 ^ k % 2 ^ 64))) ≡ field (bit i) w
  field-clear_other = bit_at_clear_other w64 w k within
