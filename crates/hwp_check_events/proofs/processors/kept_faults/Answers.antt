use Rattle.std.proofs.Common.{All, ◌<◌, ◌^◌, length, subst}
use Rattle.std.proofs.lemmas.Result.{IfOk-from_err}
use Rattle.hwp_law.specs.hwp_report_text.declared.FrameLine.{FrameLine}
use Rattle.hwp_law.specs.hwp_report_text.declared.Report.{Report}
use Rattle.hwp_check_event_line.specs.Reading.{copies_in}
use Rattle.hwp_check_events.specs.Cases.{ProcessorValue, rows_in}
use Rattle.hwp_check_events.specs.Walked.{IsWalked}
use Rattle.hwp_check_events.proofs.Verdicts.{processor-judged}
use Rattle.hwp_check_events.proofs.processors.kept_faults.Goals as goal

pub returns : goal.returns
returns c =
    processor-judged c.args.script.now (copies_in c.args.copies.now) c.args.report.now c.args.cpu c.args.commands.now c.requires.valid
    (subst (λ (r : Report). All (λ (l : FrameLine). (l.bad.0 < 2 ^ 64) × (l.weak.0 < 2 ^ 64)) r.frames) c.get.ensures c.small_masks.ensures) c.requires.of_script c.walk.result
    (subst (λ (p : ProcessorValue). IsWalked p.script (copies_in p.copies) p.report p.cpu p.commands (rows_in p.report p.cpu) (length p.commands) c.walk.result) c.in_ok-processor.ensures c.walk.ensures)

pub returns-in_err-processor : goal.returns-in_err-processor
returns-in_err-processor c = IfOk-from_err c.from_residual.result _ c.from_residual.ensures.0

pub returns-in_err-table : goal.returns-in_err-table
returns-in_err-table c = IfOk-from_err c.from_residual-in_err-table.result _ c.from_residual-in_err-table.ensures.0
