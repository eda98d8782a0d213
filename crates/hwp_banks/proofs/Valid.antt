-- The event that a bank holds has VAL set: `logged` keeps it so.
use Rattle.std.proofs.Common.{◌≡◌, ◌∙◌, ap, refl, lit≤, lit<, ℕ, ◌-◌, ◌+◌, ◌^◌, ◌==◌, Option, Some, None, IfSome, IsTrue, bit_and}
use Rattle.std.specs.Int.Bits.{and_zero_r}
use Rattle.std.proofs.lemmas.Nat.{and_assoc, and_or_apart}
use Rattle.std.proofs.lemmas.Grind.{and_not_bit}
use Rattle.hwp_banks.specs.declared.event.Event.{Event}
use Rattle.hwp_banks.specs.Status.{is_valid}
use Rattle.hwp_banks.specs.Logged.{Class, stored, overwritten, merged, with_over, without_over, class_of}
use Rattle.hwp_banks.specs.Logged.{Corrected, Uncorrected, Fatal}

-- an event with VAL set
abbrev pub IsValidEvent : Event → Type 0
IsValidEvent e = IsTrue (is_valid e.status)

-- the bits that a mask without bit n leaves have no bit n
masked : (b m n : ℕ) → bit_and m n ≡ 0 → bit_and (bit_and b m) n ≡ 0
masked b m n e = and_assoc n b m ∙ ap (bit_and b) e ∙ and_zero_r b

is_valid-with_over : (e : Event) → is_valid (with_over e).status ≡ is_valid e.status
is_valid-with_over e = ap (λ x. x == 2 ^ 63) (and_or_apart (2 ^ 63) e.status.0 (2 ^ 62) refl)

is_valid-without_over : (e : Event) → is_valid (without_over e).status ≡ is_valid e.status
is_valid-without_over e = ap (λ x. x == 2 ^ 63) (and_not_bit e.status.0 (2 ^ 64 - 1) (2 ^ 62) 63 refl (lit≤ tt) (lit< tt) refl)

is_valid-merged : (first second : Event) → is_valid (merged first second).status ≡ is_valid first.status
is_valid-merged first second =
    ap (λ x. x == 2 ^ 63)
    (and_or_apart (2 ^ 63) first.status.0 (bit_and second.status.0 (2 ^ 56 + 2 ^ 55)) (masked second.status.0 (2 ^ 56 + 2 ^ 55) (2 ^ 63) refl))

valid-overwritten : (c d : Class) (first second : Event) → IsValidEvent first → IsValidEvent second → IsValidEvent (overwritten c d first second)
valid-overwritten Corrected Corrected first second p q = is_valid-with_over first ∙ p
valid-overwritten Corrected Uncorrected first second p q = is_valid-with_over second ∙ q
valid-overwritten Corrected Fatal first second p q = is_valid-with_over second ∙ q
valid-overwritten Uncorrected Corrected first second p q = is_valid-with_over first ∙ p
valid-overwritten Uncorrected Uncorrected first second p q = is_valid-with_over (merged first second) ∙ is_valid-merged first second ∙ p
valid-overwritten Uncorrected Fatal first second p q = is_valid-with_over second ∙ q
valid-overwritten Fatal Corrected first second p q = is_valid-with_over first ∙ p
valid-overwritten Fatal Uncorrected first second p q = is_valid-with_over first ∙ p
valid-overwritten Fatal Fatal first second p q = is_valid-with_over first ∙ p

-- what a valid event leaves is valid
pub valid-stored : (held : Option Event) (e : Event) → IfSome held IsValidEvent → IsValidEvent e → IsValidEvent (stored held e)
valid-stored None e p q = is_valid-without_over e ∙ q
valid-stored (Some first) e p q = valid-overwritten (class_of first.status) (class_of e.status) first e p q
