use Rattle.std.proofs.Common.{ℕ, [], ap, length, ◌∙◌}
use Rattle.hwp_check_evidence.specs.Windows.{floors_of}
use Rattle.hwp_check_answers.specs.Values.{ProcessorValue}
use Rattle.hwp_check_answers.proofs.SoFarLaws.{begins}
use Rattle.hwp_check_answers.proofs.so_far.begin.Goals as goal

pub returns : goal.returns
returns c =
    begins c.args.processor.now.script c.args.processor.now.report c.args.processor.now.cpu (record { floors = c.in_ok-floors.floors; gone = c.in_ok-gone.gone })
    (c.in_ok-floors.ensures ∙ ap (λ (n : ℕ). floors_of n []) (c.len.ensures ∙ ap (λ (v : ProcessorValue). length v.report.pages) c.processor.view_is)) c.in_ok-gone.ensures
