use Rattle.std.proofs.Common.{arith}
use Rattle.hwp_report_words.proofs.HexLaws.{no_hex, hex_room, more_hex, all_hex, no_glyph}
use Rattle.hwp_report_words.proofs.numbers.read_hex_digits.Goals as goal

pub loop-byte-init : goal.loop-byte-init
loop-byte-init c = no_hex c.args.digits.now

pub returns-in_default : goal.returns-in_default
returns-in_default c = λ n small e. no_glyph c.args.digits.now c.loop-byte.byte-index (omega arith) c.in_default.ensures n e

pub overflow_mul-number : goal.overflow_mul-number
overflow_mul-number c =
    let room = hex_room c.args.digits.now c.loop-byte.byte-index c.loop-byte.number (omega (arith, c.requires.short)) c.loop-byte.invariant in omega (arith, room)

pub overflow_add-number : goal.overflow_add-number
overflow_add-number c =
    let room = hex_room c.args.digits.now c.loop-byte.byte-index c.loop-byte.number (omega (arith, c.requires.short)) c.loop-byte.invariant in
    omega (arith, room, c.in-Some.ensures.0, c.from.ensures)

pub loop-byte-preserved : goal.loop-byte-preserved
loop-byte-preserved c =
    let more = more_hex c.args.digits.now c.loop-byte.byte-index c.loop-byte.number c.in-Some.digit (omega arith) (omega (arith, c.requires.short))
    c.requires.first c.in-Some.ensures.0 c.in-Some.ensures.1 c.loop-byte.invariant in
    rw c.from.ensures more

pub returns : goal.returns
returns c = all_hex c.args.digits.now c.loop-byte.byte-index c.loop-byte.number c.requires.some c.requires.short (omega arith) (omega arith) c.loop-byte.invariant
