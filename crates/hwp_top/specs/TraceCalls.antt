-- What the program writes.
use Rattle.std.specs.Prelude.{◌≡◌, ℕ, ◌++◌, ◌==◌, if◌then◌else◌, List, [], ◌∷◌, Option, Some, IsSomeAnd, codes}
use Rattle.hwp_top_words.specs.hwp_script_read.declared.Script.{Script}
use Rattle.hwp_top_report.specs.hwp_report_text.declared.Report.{Report}
use Rattle.hwp_top_words.specs.Inputs.{Takes}
use Rattle.hwp_top_words.specs.Statuses.{done_status}
use Rattle.hwp_top_words.specs.Statuses as statuses
use Rattle.hwp_top_report.specs.hwp_plain.declared.TraceLine.{TraceLine}
use Rattle.hwp_top_report.specs.hwp_plain.TraceText.{trace_text}
use Rattle.hwp_top.specs.Traces.{IsTrace}

-- the text tells the turns of a run of the script that a source gave, and the report is of that run
pub record IsTraceOf (left left' : Option (List ℕ)) (status : ℕ) (text : List ℕ) (report : Report) : Type 0 where
  pub script : Script
  pub takes : Takes left left' script
  pub lines : List TraceLine
  pub trace : IsTrace script report lines
  pub status_is : status ≡ done_status report
  pub text_is : text ≡ trace_text lines

-- the report is there, and the text is the trace of its run
abbrev pub IsShown : Option (List ℕ) → Option (List ℕ) → ℕ → List ℕ → Option Report → Type 0
IsShown left left' status text report = IsSomeAnd report (IsTraceOf left left' status text)

-- the text where there are words
abbrev pub usage_text : List ℕ
usage_text = codes "usage: hwp-trace < SCRIPT" ++ 10 ∷ []

-- the text that a status tells on the error sink: but for the usage, that of `hwp`
abbrev pub told_text : ℕ → Option (List ℕ)
told_text status = if status == 2 then Some usage_text else statuses.told_text status
