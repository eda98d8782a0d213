-- The lines of a script's run, and its report.
use Rattle.std.specs.Prelude.{List}
use Rattle.hwp_top_report.specs.hwp_geom.Pairs.{Pairs}
use Rattle.hwp_top_words.specs.hwp_script_read.declared.Script.{Script}
use Rattle.hwp_top_report.specs.hwp_report_text.declared.Report.{Report}
use Rattle.hwp_top_report.specs.hwp_law.Law.{IsLawful}
use Rattle.hwp_top_report.specs.hwp_law.Runs.{IsOfRun}
use Rattle.hwp_top.specs.Runs.{IsCoreRun}
use Rattle.hwp_top_report.specs.hwp_plain.declared.TraceLine.{TraceLine}
use Rattle.hwp_top_report.specs.hwp_plain.Traced.{Tells}

-- The script's processors made turns in the order of its schedule, from their beginning to the end of their run. The report is of
-- this run, and lawful; and the lines tell its turns: one for each and no others, in their order.
pub record IsTrace (script : Script) (report : Report) (lines : List TraceLine) : Type 0 where
  pub run : IsOfRun script report
  pub lawful : IsLawful script report
  pub core : IsCoreRun script report
  pub told : Pairs Tells core.run.turns lines
