use Rattle.std.proofs.Common.{◌≢◌, codes, arith, rules}
use Rattle.hwp_report_words.proofs.HexLaws.{hex_word, zero_word}
use Rattle.hwp_report_words.proofs.numbers.read_hex.Goals as goal

pub returns-then-is_text : goal.returns-then-is_text
returns-then-is_text c = zero_word c.args.word.now (search rules)

pub returns-then-word-gt16 : goal.returns-then-word-gt16
returns-then-word-gt16 c = λ x small e. omega (arith, (hex_word c.args.word.now x small e).short, c.if-word-gt16.true)

pub returns-in_default : goal.returns-in_default
returns-in_default c = λ x small e. omega (arith, (hex_word c.args.word.now x small e).some, c.in_default.len_below)

pub returns-then-first-eq48 : goal.returns-then-first-eq48
returns-then-first-eq48 c = λ x small e.
    let other : c.args.word.now ≢ codes "0" = search rules in absurd ((hex_word c.args.word.now x small e).first other c.if-first-eq48.true)
