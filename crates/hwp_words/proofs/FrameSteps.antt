-- How each atomic step on a frame word reads in the word's fields.
use Rattle.std.proofs.Common.{◌≡◌, ℕ, ◌+◌, ◌-◌, ◌*◌, ◌%◌, ◌^◌, ◌<◌, ◌≤◌, bit_and, bit_or, bit_xor, arith, refl, ap, subst, ◌∙◌, sym}
use Rattle.std.specs.Int.Bits.{and_zero_r, xor_assoc, xor_self}
use Rattle.std.proofs.lemmas.Nat.{xor_lt}
use Rattle.hwp_words.specs.Fields.{field}
use Rattle.hwp_words.specs.Frames.{lock_bit, poison_bit, handled_bit, kernel_bit, count_field, owner_field, cycle_field}
use Rattle.hwp_words.specs.Frames.{lock_of, poison_of, handled_of, kernel_of, count_of, owner_of, cycle_of}
use Rattle.hwp_words.proofs.FieldLaws.{field-and, field-or, field-xor, field-and_other, field-or_other, field-xor_other, or_one}

-- the values of a frame word in its fields
pub record FieldsAre (w lock' poison' handled' kernel' count' owner' cycle' : ℕ) : Type 0 where
  pub lock : lock_of w ≡ lock'
  pub poison : poison_of w ≡ poison'
  pub handled : handled_of w ≡ handled'
  pub kernel : kernel_of w ≡ kernel'
  pub count : count_of w ≡ count'
  pub owner : owner_of w ≡ owner'
  pub cycle : cycle_of w ≡ cycle'

-- one more reference, and the lock
pub fields-adopt : (w : ℕ) → w < 2 ^ 64 → lock_of w ≡ 0 → count_of w + 1 < 2 ^ 20
    → FieldsAre ((w + 17) % 2 ^ 64) 1 (poison_of w) (handled_of w) (kernel_of w) (count_of w + 1) (owner_of w) (cycle_of w)
fields-adopt w fits free room = record {
  lock = omega arith;
  poison = omega arith;
  handled = omega arith;
  kernel = omega arith;
  count = omega arith;
  owner = omega arith;
  cycle = omega arith;
}

-- n more references
pub fields-get_ref : (w k n : ℕ) → k ≡ n * 16 → w < 2 ^ 64 → count_of w + n < 2 ^ 20
    → FieldsAre ((w + k) % 2 ^ 64) (lock_of w) (poison_of w) (handled_of w) (kernel_of w) (count_of w + n) (owner_of w) (cycle_of w)
fields-get_ref w k n e fits room = record {
  lock = omega arith;
  poison = omega arith;
  handled = omega arith;
  kernel = omega arith;
  count = omega arith;
  owner = omega arith;
  cycle = omega arith;
}

-- n references fewer
pub fields-put_ref : (w k n : ℕ) → k ≡ n * 16 → w < 2 ^ 64 → n ≤ count_of w
    → FieldsAre ((w + (2 ^ 64 - k)) % 2 ^ 64) (lock_of w) (poison_of w) (handled_of w) (kernel_of w) (count_of w - n) (owner_of w) (cycle_of w)
fields-put_ref w k n e fits held = record {
  lock = omega arith;
  poison = omega arith;
  handled = omega arith;
  kernel = omega arith;
  count = omega arith;
  owner = omega arith;
  cycle = omega arith;
}

-- the lock is taken
pub fields-lock : (w : ℕ) → FieldsAre (bit_or w 1) 1 (poison_of w) (handled_of w) (kernel_of w) (count_of w) (owner_of w) (cycle_of w)
fields-lock w = record {
  lock = field-or lock_bit w 1 ∙ or_one (lock_of w) (omega arith);
  poison = field-or_other poison_bit w 1 refl;
  handled = field-or_other handled_bit w 1 refl;
  kernel = field-or_other kernel_bit w 1 refl;
  count = field-or_other count_field w 1 refl;
  owner = field-or_other owner_field w 1 refl;
  cycle = field-or_other cycle_field w 1 refl;
}

-- the lock is given back
pub fields-unlock : (w : ℕ) → FieldsAre (bit_and w 18446744073709551614) 0 (poison_of w) (handled_of w) (kernel_of w) (count_of w) (owner_of w) (cycle_of w)
fields-unlock w = record {
  lock = field-and lock_bit w 18446744073709551614 ∙ and_zero_r (lock_of w);
  poison = field-and_other poison_bit w 18446744073709551614 refl;
  handled = field-and_other handled_bit w 18446744073709551614 refl;
  kernel = field-and_other kernel_bit w 18446744073709551614 refl;
  count = field-and_other count_field w 18446744073709551614 refl;
  owner = field-and_other owner_field w 18446744073709551614 refl;
  cycle = field-and_other cycle_field w 18446744073709551614 refl;
}

-- the frame is poisoned
pub fields-poison : (w : ℕ) → FieldsAre (bit_or w 2) (lock_of w) 1 (handled_of w) (kernel_of w) (count_of w) (owner_of w) (cycle_of w)
fields-poison w = record {
  lock = field-or_other lock_bit w 2 refl;
  poison = field-or poison_bit w 2 ∙ or_one (poison_of w) (omega arith);
  handled = field-or_other handled_bit w 2 refl;
  kernel = field-or_other kernel_bit w 2 refl;
  count = field-or_other count_field w 2 refl;
  owner = field-or_other owner_field w 2 refl;
  cycle = field-or_other cycle_field w 2 refl;
}

-- the lock is given back and the frame is handled, in one step
pub fields-retire : (w : ℕ) → lock_of w ≡ 1 → handled_of w ≡ 0 → FieldsAre (bit_xor w 5) 0 (poison_of w) 1 (kernel_of w) (count_of w) (owner_of w) (cycle_of w)
fields-retire w locked open_still = record {
  lock = field-xor lock_bit w 5 ∙ ap (λ b. bit_xor b 1) locked;
  poison = field-xor_other poison_bit w 5 refl;
  handled = field-xor handled_bit w 5 ∙ ap (λ b. bit_xor b 1) open_still;
  kernel = field-xor_other kernel_bit w 5 refl;
  count = field-xor_other count_field w 5 refl;
  owner = field-xor_other owner_field w 5 refl;
  cycle = field-xor_other cycle_field w 5 refl;
}

-- the owner a becomes b
pub fields-set_owner : (w k a b : ℕ) → k ≡ bit_xor a b * 2 ^ 24 → owner_of w ≡ a → b < 2 ^ 20
    → FieldsAre (bit_xor w k) (lock_of w) (poison_of w) (handled_of w) (kernel_of w) (count_of w) b (cycle_of w)
fields-set_owner w k a b e owned fits =
    let small : bit_xor a b < 2 ^ 20 = xor_lt 20 a b (omega arith) fits in
    let turned : bit_xor (owner_of w) (bit_xor a b) ≡ b =
    ap (λ x. bit_xor x (bit_xor a b)) owned ∙ sym (xor_assoc a a b) ∙ ap (λ x. bit_xor x b) (xor_self a) in
    let operand : field owner_field k ≡ bit_xor a b = omega arith in
    record {
      lock = field-xor_other lock_bit w k (omega arith);
      poison = field-xor_other poison_bit w k (omega arith);
      handled = field-xor_other handled_bit w k (omega arith);
      kernel = field-xor_other kernel_bit w k (omega arith);
      count = field-xor_other count_field w k (omega arith);
      owner = field-xor owner_field w k ∙ ap (bit_xor (owner_of w)) operand ∙ turned;
      cycle = field-xor_other cycle_field w k (omega arith);
    }

-- poison, handled and the last reference go, and the cycle rises
pub fields-revive : (w : ℕ) → poison_of w ≡ 1 → handled_of w ≡ 1 → count_of w ≡ 1 → cycle_of w + 1 < 2 ^ 20
    → FieldsAre (w + (2 ^ 44 - 22)) (lock_of w) 0 0 (kernel_of w) 0 (owner_of w) (cycle_of w + 1)
fields-revive w poisoned handled single room = record {
  lock = omega arith;
  poison = omega arith;
  handled = omega arith;
  kernel = omega arith;
  count = omega arith;
  owner = omega arith;
  cycle = omega arith;
}

-- the same where the sum is cut to 64 bits
pub fields-revived : (w : ℕ) → w < 2 ^ 64 → poison_of w ≡ 1 → handled_of w ≡ 1 → count_of w ≡ 1 → cycle_of w + 1 < 2 ^ 20
    → FieldsAre ((w + (2 ^ 44 - 22)) % 2 ^ 64) (lock_of w) 0 0 (kernel_of w) 0 (owner_of w) (cycle_of w + 1)
fields-revived w fits poisoned handled single room =
    let whole : (w + (2 ^ 44 - 22)) % 2 ^ 64 ≡ w + (2 ^ 44 - 22) = omega arith in
    subst (λ v. FieldsAre v (lock_of w) 0 0 (kernel_of w) 0 (owner_of w) (cycle_of w + 1)) (sym whole) (fields-revive w poisoned handled single room)
