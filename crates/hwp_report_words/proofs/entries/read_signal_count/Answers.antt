use Rattle.std.proofs.Common.{sym, ◌∙◌, arith}
use Rattle.std.proofs.lemmas.Fmt.{decimal_injective}
use Rattle.hwp_report_words.proofs.entries.read_signal_count.Goals as goal

pub returns-else-count : goal.returns-else-count
returns-else-count c = λ x small e.
    let same = decimal_injective c.in-Some.count x (omega (arith, c.in-Some.ensures.0)) (omega (arith, small)) (sym c.in-Some.ensures.1 ∙ e) in omega (arith, c.if-count.false, same, small)
