use Rattle.hwp_report_words.proofs.HexLaws.{AreHexSoFar}
use Rattle.hwp_report_words.proofs.numbers.read_hex_digits.Given as goal

abbrev pub invariant-loop-byte : goal.invariant-loop-byte
invariant-loop-byte l = AreHexSoFar l.fn.digits l.byte-index l.number
