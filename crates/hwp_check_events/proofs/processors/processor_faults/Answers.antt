use Rattle.std.proofs.Common.{IfOk, subst}
use Rattle.std.proofs.lemmas.Result.{IfOk-from_err}
use Rattle.hwp_law.specs.hwp_report_text.declared.Report.{Report}
use Rattle.hwp_check_event_line.specs.Reading.{copies_in}
use Rattle.hwp_check_events.specs.Walked.{IsProcessorJudged}
use Rattle.hwp_check_events.proofs.processors.processor_faults.Goals as goal

pub returns : goal.returns
returns c =
    subst (λ (told : Report). IfOk c.kept_faults.result (λ found. IsProcessorJudged c.args.script.now (copies_in c.args.copies.now) told c.args.cpu c.args.commands.now found)) c.new-traced.ensures c.kept_faults.ensures

pub returns-in_err-past : goal.returns-in_err-past
returns-in_err-past c = IfOk-from_err c.from_residual.result _ c.from_residual.ensures.0

pub returns-in_err-results : goal.returns-in_err-results
returns-in_err-results c = IfOk-from_err c.from_residual-in_err-results.result _ c.from_residual-in_err-results.ensures.0
