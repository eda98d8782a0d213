-- What is said of a text on a script.
use Rattle.std.specs.Prelude.{◌≡◌, ℕ, ◌⊎◌, List, Result, Ok, Err}
use Rattle.hwp_script_read.specs.declared.Refused.{Refused}
use Rattle.hwp_check_rules.specs.hwp_script_words.declared.Script.{Script}
use Rattle.hwp_script_read.specs.Reads.{IsRefused, Reads}
use Rattle.hwp_report.specs.hwp_report_text.declared.Report.{Report}
use Rattle.hwp_report.specs.declared.reading.BadReport.{BadReport}
use Rattle.hwp_report.specs.declared.reading.BadReport.TheVariants as faults
use Rattle.hwp_report.specs.Texts.{IsFaultAt, IsReportOf, IsTextOf}
use Rattle.hwp_check_rules.specs.hwp_law.Law.{IsLawful}
use Rattle.hwp_check_rules.specs.declared.Rule.TheVariants.{Shape}
use Rattle.hwp_check_rules.specs.declared.verdicts.Verdict.{Verdict}
use Rattle.hwp_check_rules.specs.declared.verdicts.Verdict.TheVariants as verdicts
use Rattle.hwp_check_rules.specs.Verdicts.{IsVerdict}
use Rattle.hwp_check.specs.Parting.{IsParted}

-- the bytes are the text of a report that keeps the law
pub record IsLegal (script : Script) (bytes : List ℕ) : Type 0 where
  pub report : Report
  pub text : IsTextOf bytes report
  pub lawful : IsLawful script report

-- the bytes are the text of one report, and this is the verdict on it
pub record IsOnReport (script : Script) (bytes : List ℕ) (verdict : Verdict) : Type 0 where
  pub report : Report
  pub text : IsReportOf bytes report
  pub told : IsVerdict script report verdict

-- the bytes are no text of a report, first by this line, which is the first rule
abbrev pub IsNoReport : List ℕ → Verdict → Type 0
IsNoReport bytes verdicts.Legal = ⊥
IsNoReport bytes (verdicts.Not line rule) = (rule ≡ Shape) × IsFaultAt bytes line

-- the verdict on what was read of a text: the report, or the line at fault, which breaks the first rule
abbrev pub IsSaid : Script → Result Report BadReport → Verdict → Type 0
IsSaid script (Ok report) verdict = IsVerdict script report verdict
IsSaid script (Err (faults.Line line)) verdict = verdict ≡ verdicts.Not line Shape
IsSaid script (Err faults.OutOfMemory) verdict = ⊥

-- the verdict on the bytes; it is `Legal` exactly where they are the text of a report that keeps the law
pub record IsJudged (script : Script) (bytes : List ℕ) (verdict : Verdict) : Type 0 where
  pub said : IsOnReport script bytes verdict ⊎ IsNoReport bytes verdict
  pub legal : IsLegal script bytes → verdict ≡ verdicts.Legal
  pub lawful : verdict ≡ verdicts.Legal → IsLegal script bytes

-- the input is a script, and this is the verdict on the text behind it
pub record IsJudgedInput (input : List ℕ) (verdict : Verdict) : Type 0 where
  pub first : List ℕ
  pub behind : List ℕ
  pub parted : IsParted input first behind
  pub script : Script
  pub reads : Reads first script
  pub judged : IsJudged script behind verdict

-- what stands first in the input is refused as a script
pub record IsRefusedInput (input : List ℕ) (refused : Refused) : Type 0 where
  pub first : List ℕ
  pub behind : List ℕ
  pub parted : IsParted input first behind
  pub refusal : IsRefused first refused
