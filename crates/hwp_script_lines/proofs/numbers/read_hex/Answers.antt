use Rattle.std.proofs.Common.{arith}
use Rattle.std.proofs.lemmas.Int.Digits.{digits_more, digits_value_more}
use Rattle.hwp_script_lines.proofs.HexLaws.{hex_room, AllDigits-at}
use Rattle.hwp_script_lines.proofs.numbers.read_hex.Goals as goal

pub returns-in_default : goal.returns-in_default
returns-in_default c = λ h.
    c.in_default.ensures.value (rw c.from.ensures (AllDigits-at c.args.digits.now c.loop-byte.byte-index (omega arith) h))

pub overflow_mul-number : goal.overflow_mul-number
overflow_mul-number c =
    let room = hex_room c.args.digits.now c.loop-byte.byte-index (omega arith) c.requires c.loop-byte.invariant.0 in omega (arith, c.loop-byte.invariant.1)

pub overflow_add-number : goal.overflow_add-number
overflow_add-number c =
    let room = hex_room c.args.digits.now c.loop-byte.byte-index (omega arith) c.requires c.loop-byte.invariant.0 in
    let some = c.in-Some.ensures.value in omega (arith, c.loop-byte.invariant.1, some.0, some.1, c.from-in-loop-byte.ensures)

pub loop-byte-preserved : goal.loop-byte-preserved
loop-byte-preserved c =
    let some = c.in-Some.ensures.value in
    let more = digits_value_more 16 c.args.digits.now c.loop-byte.byte-index (omega arith) in (
      digits_more 16 c.args.digits.now c.loop-byte.byte-index (omega arith) c.loop-byte.invariant.0 (rw (← c.from.ensures) some.0),
      cc (more, some.1, c.loop-byte.invariant.1, c.from-in-loop-byte.ensures, c.from.ensures),
    )
