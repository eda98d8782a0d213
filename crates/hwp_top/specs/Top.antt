-- What the top call promises of the report of a run.
use Rattle.std.specs.Prelude.{ℕ, List, Option}
use Rattle.hwp_top_words.specs.hwp_script_read.declared.Script.{Script}
use Rattle.hwp_top_report.specs.hwp_report_text.declared.Report.{Report}
use Rattle.hwp_top_report.specs.hwp_law.Law.{IsLawful}
use Rattle.hwp_top_report.specs.hwp_law.Runs.{IsOfRun}
use Rattle.hwp_top_report.specs.hwp_table_words.Ends.{EndValue}
use Rattle.hwp_top_words.specs.Inputs.{Takes}
use Rattle.hwp_top.specs.Runs.{IsCoreRun, IsTableRun}

-- the report is one of the script, and of a run of its processors on the written schedule; and the table at which they made that
-- run was closed with this
pub record IsReportOfRun (script : Script) (report : Report) (ended : EndValue) : Type 0 where
  pub run : IsOfRun script report
  pub lawful : IsLawful script report
  pub core : IsCoreRun script report
  pub table : IsTableRun script report ended

-- the report is one of the script that a source gave
pub record Reports (left left' : Option (List ℕ)) (report : Report) (ended : EndValue) : Type 0 where
  pub script : Script
  pub takes : Takes left left' script
  pub report_of : IsReportOfRun script report ended
