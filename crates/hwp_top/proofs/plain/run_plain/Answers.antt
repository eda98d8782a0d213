use Rattle.std.proofs.lemmas.Result.{IfOk-weaker}
use Rattle.hwp_top_report.specs.hwp_law.Law.{IsLawful}
use Rattle.hwp_top_report.specs.hwp_law.Runs.{IsOfRun}
use Rattle.hwp_top.specs.Runs.{IsCoreRun, IsReportOf}
use Rattle.hwp_top.proofs.plain.run_plain.Goals as goal

pub returns-clause-of_run : goal.returns-clause-of_run
returns-clause-of_run c = IfOk-weaker c.report_of.result (IsReportOf c.args.script.now c.play.new.board.log) (IsOfRun c.args.script.now) (λ r is. is.run) c.report_of.ensures

pub returns-clause-lawful : goal.returns-clause-lawful
returns-clause-lawful c = IfOk-weaker c.report_of.result (IsReportOf c.args.script.now c.play.new.board.log) (IsLawful c.args.script.now) (λ r is. is.lawful) c.report_of.ensures

pub returns-clause-core : goal.returns-clause-core
returns-clause-core c = IfOk-weaker c.report_of.result (IsReportOf c.args.script.now c.play.new.board.log) (IsCoreRun c.args.script.now) (λ r is. is.core) c.report_of.ensures
