-- A line of a frame among some, and the frame of its address.
use Rattle.std.proofs.Common.{◌≡◌, ◌↔◌, ℕ, ◌+◌, ◌*◌, ◌<◌, ◌/◌, ◌^◌, IsTrue, bit_and, sym, ◌∙◌, arith}
use Rattle.std.specs.Int.{IsBitSet, bit_at}
use Rattle.std.proofs.lemmas.Bool.{eq-eqb, eqb-true}
use Rattle.std.proofs.lemmas.Nat.{bit_set_by_shift}
use Rattle.std.proofs.lemmas.Nat.Bits.{bit_at-zero, shr_and_one}
use Rattle.hwp_banks.specs.hwp_geom.declared.Frame.{Frame}
use Rattle.hwp_banks.specs.Addresses.{frame_at, line_address}
use Rattle.hwp_check_event_line.specs.Lines.{has_line}

pub has_line_is : (mask line : ℕ) → IsTrue (has_line mask line) ↔ IsBitSet mask line
has_line_is mask line = (λ is. (bit_set_by_shift mask line).0 (eqb-true (bit_and (mask / 2 ^ line) 1) 1 is), λ set. eq-eqb (bit_and (mask / 2 ^ line) 1) 1 ((bit_set_by_shift mask line).1 set))

pub no-line : (line : ℕ) → IsBitSet 0 line → ⊥
no-line line set =
    let one : bit_at 0 line ≡ 1 = sym (shr_and_one 0 line) ∙ (bit_set_by_shift 0 line).1 set in let none : bit_at 0 line ≡ 0 = bit_at-zero line in omega (arith, one, none)

-- the frame of a line's address
pub frame-of-line : (f : Frame) (at addr : ℕ) → at < 64 → addr ≡ line_address f at → frame_at addr ≡ f.0
frame-of-line f at addr small is = let sum : addr ≡ f.0 * 4096 + at * 64 = is in omega (arith, sum, small)
