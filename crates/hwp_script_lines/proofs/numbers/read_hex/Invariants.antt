use Rattle.std.proofs.Common.{◌≡◌, take}
use Rattle.std.specs.Str.Parse.{AllDigits, digits_value}
use Rattle.hwp_script_lines.proofs.numbers.read_hex.Given as goal

abbrev pub invariant-loop-byte : goal.invariant-loop-byte
invariant-loop-byte l = AllDigits 16 (take l.byte-index l.fn.digits) × (l.number ≡ digits_value 16 (take l.byte-index l.fn.digits))
