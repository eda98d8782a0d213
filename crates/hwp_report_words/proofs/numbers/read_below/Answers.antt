use Rattle.std.proofs.Common.{arith, sym, ◌∙◌}
use Rattle.std.proofs.lemmas.Fmt.{decimal_injective}
use Rattle.hwp_report_words.proofs.numbers.read_below.Goals as goal

pub returns-in_default : goal.returns-in_default
returns-in_default c = λ n small e. c.in_default.ensures n (omega (arith, small)) e

pub returns-else-number-bound : goal.returns-else-number-bound
returns-else-number-bound c = λ n small e.
    let same = decimal_injective c.in-Some.number n (omega (arith, c.in-Some.ensures.0)) (omega (arith, small)) (sym c.in-Some.ensures.1 ∙ e) in omega (arith, small, same)
