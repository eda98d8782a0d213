use Rattle.std.proofs.Common.{arith}
use Rattle.hwp_report.proofs.NoLines.{no_words_of, words_read}
use Rattle.hwp_report.proofs.lines.read_words.Goals as goal

pub returns-in_default-read_cpu_line : goal.returns-in_default-read_cpu_line
returns-in_default-read_cpu_line c = no_words_of (λ w. w.now) c.args.words.now _ (omega (arith, c.in-len1-up.len_at_least)) c.in-None.ensures c.in_default-read_cpu_line.ensures

pub returns-in-Some : goal.returns-in-Some
returns-in-Some c = words_read (λ w. w.now) c.args.words.now _ c.in-Some.head _ (omega (arith, c.in-len1-up.len_at_least)) c.in-Some.ensures c.read_rest.ensures
