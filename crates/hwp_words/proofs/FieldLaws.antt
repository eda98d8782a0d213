-- Laws of fields: what is done bit by bit is done in each field, and what is done to one field changes no other.
use Rattle.std.proofs.Common.{◌≡◌, ℕ, zero, suc, ◌-◌, ◌/◌, ◌%◌, ◌^◌, ◌<◌, bit_and, bit_or, bit_xor, arith, refl, ap, ◌∙◌}
use Rattle.std.proofs.lemmas.Nat.{pow_pos, and_mask, mod_below, and_shr, and_mod, or_shr, or_mod, xor_shr, xor_mod}
use Rattle.std.specs.Int.Bits.{or_zero_r, xor_zero_r}
use Rattle.std.proofs.Math.Nat.{mod-eq_of_lt}
use Rattle.hwp_words.specs.Fields.{Field, field}

pub field-and : (f : Field) (a b : ℕ) → field f (bit_and a b) ≡ bit_and (field f a) (field f b)
field-and f a b = ap (λ n. n % 2 ^ f.width) (and_shr a b f.shift) ∙ and_mod (a / 2 ^ f.shift) (b / 2 ^ f.shift) f.width

pub field-or : (f : Field) (a b : ℕ) → field f (bit_or a b) ≡ bit_or (field f a) (field f b)
field-or f a b = ap (λ n. n % 2 ^ f.width) (or_shr a b f.shift) ∙ or_mod (a / 2 ^ f.shift) (b / 2 ^ f.shift) f.width

pub field-xor : (f : Field) (a b : ℕ) → field f (bit_xor a b) ≡ bit_xor (field f a) (field f b)
field-xor f a b = ap (λ n. n % 2 ^ f.width) (xor_shr a b f.shift) ∙ xor_mod (a / 2 ^ f.shift) (b / 2 ^ f.shift) f.width

-- bits that a step does not touch: 0 where it sets or turns bits, all ones where it keeps them
pub field-or_other : (f : Field) (w k : ℕ) → field f k ≡ 0 → field f (bit_or w k) ≡ field f w
field-or_other f w k e = field-or f w k ∙ ap (bit_or (field f w)) e ∙ or_zero_r (field f w)

pub field-xor_other : (f : Field) (w k : ℕ) → field f k ≡ 0 → field f (bit_xor w k) ≡ field f w
field-xor_other f w k e = field-xor f w k ∙ ap (bit_xor (field f w)) e ∙ xor_zero_r (field f w)

pub field-and_other : (f : Field) (w k : ℕ) → field f k ≡ 2 ^ f.width - 1 → field f (bit_and w k) ≡ field f w
field-and_other f w k e =
    field-and f w k ∙ ap (bit_and (field f w)) e ∙ and_mask (field f w) f.width ∙ mod-eq_of_lt (mod_below (w / 2 ^ f.shift) (2 ^ f.width) (pow_pos f.width))

-- a bit that is set
pub or_one : (b : ℕ) → b < 2 → bit_or b 1 ≡ 1
or_one zero h = refl
or_one (suc zero) h = refl
or_one (suc (suc b)) h = absurd (omega arith)
