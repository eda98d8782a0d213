-- What each call writes, as the report shows it: the script of a seed, a verdict, and reports that are lawful, whatever run made them.
use Rattle.std.specs.Prelude.{◌≡◌, ◌≤◌, ℕ, List, Option, None, IsSomeAnd, length}
use Rattle.hwp_script.specs.hwp_script_read.hwp_script_words.Limits.{script_limit}
use Rattle.hwp_script.specs.hwp_script_read.declared.Script.{Script}
use Rattle.hwp_script.specs.Round.{IsTextOf}
use Rattle.hwp_script.specs.Text.{script_text}
use Rattle.hwp_script.specs.Generated.{generated}
use Rattle.hwp_report.specs.hwp_report_text.declared.Report.{Report}
use Rattle.hwp_report.specs.hwp_report_text.ReportText.{report_text}
use Rattle.hwp_report.specs.Counts.{summary_of}
use Rattle.hwp_report.specs.SummaryText.{summary_text}
use Rattle.hwp_top_words.specs.declared.served.Call.{Call}
use Rattle.hwp_top_words.specs.declared.served.Call.TheVariants as calls
use Rattle.hwp_top_words.specs.Calls.{IsCall}
use Rattle.hwp_top_words.specs.Checked.{IsChecked}
use Rattle.hwp_top_words.specs.Inputs.{Takes}
use Rattle.hwp_top_words.specs.Statuses.{done_status}
use Rattle.hwp_check.specs.hwp_law.Law.{IsLawful}
use Rattle.hwp_check.specs.hwp_law.Runs.{IsOfRun}

-- the report is one of the script, and keeps the law of reports
pub record IsReportOf (script : Script) (report : Report) : Type 0 where
  pub run : IsOfRun script report
  pub lawful : IsLawful script report

-- the text is that of the seed's script; where it is no longer than a script may be, it is read as this script, and as no other
pub record IsGenerated (seed : ℕ) (text : List ℕ) : Type 0 where
  pub text_is : text ≡ script_text (generated seed)
  pub read : length text ≤ script_limit → IsTextOf text (generated seed)

-- the report level: a lawful report of the script that a source gave, its text, and its status
pub record IsStepReport (left left' : Option (List ℕ)) (status : ℕ) (text : List ℕ) (report : Report) : Type 0 where
  pub script : Script
  pub takes : Takes left left' script
  pub report_of : IsReportOf script report
  pub status_is : status ≡ done_status report
  pub text_is : text ≡ report_text report

-- the report level: a lawful report of the seed's script, and the text of its summary
pub record IsSumReport (seed status : ℕ) (text : List ℕ) (report : Report) : Type 0 where
  pub report_of : IsReportOf (generated seed) report
  pub status_is : status ≡ 0
  pub text_is : text ≡ summary_text seed (summary_of report)

-- the report level: what a call gives, whatever run made its report
abbrev pub IsReportedOf : Call → Option (List ℕ) → Option (List ℕ) → ℕ → List ℕ → Option Report → Type 0
IsReportedOf calls.Step left left' status text report = IsSomeAnd report (IsStepReport left left' status text)
IsReportedOf calls.StepTlb left left' status text report = IsSomeAnd report (IsStepReport left left' status text)
IsReportedOf calls.Check left left' status text report = IsChecked left left' status text × (report ≡ None)
IsReportedOf (calls.Gen seed) left left' status text report = IsGenerated seed text × (status ≡ 0) × (report ≡ None)
IsReportedOf (calls.Sum seed) left left' status text report = IsSomeAnd report (IsSumReport seed status text)

-- the words ask for a call, and this is what it gives, whatever run made its report
pub record IsReported (words : List (List ℕ)) (left left' : Option (List ℕ)) (status : ℕ) (text : List ℕ) (report : Option Report) : Type 0 where
  pub call : Call
  pub asked : IsCall words call
  pub output : IsReportedOf call left left' status text report
