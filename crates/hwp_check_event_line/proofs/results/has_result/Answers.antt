use Rattle.std.proofs.Common.{◌∙◌, ℕ, ap}
use Rattle.hwp_law.specs.Lines.{marks_of}
use Rattle.hwp_check_event_line.specs.Results.{has_number}
use Rattle.hwp_check_event_line.proofs.ResultLaws.{number_result}
use Rattle.hwp_check_event_line.proofs.results.has_result.Goals as goal

pub returns : goal.returns
returns c =
    c.has_number.ensures ∙ ap (λ (n : ℕ). has_number c.args.who n (marks_of c.args.report.now c.args.frame)) c.acted_number.ensures
    ∙ number_result c.args.who c.args.acted (marks_of c.args.report.now c.args.frame)
