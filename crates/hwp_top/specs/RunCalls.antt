-- What `run` and `run tlb` write.
use Rattle.std.specs.Prelude.{◌≡◌, ℕ, Bool, true, false, List, Option, None}
use Rattle.hwp_top_words.specs.hwp_script_read.declared.Script.{Script}
use Rattle.hwp_top_report.specs.hwp_report_text.declared.Report.{Report}
use Rattle.hwp_top_report.specs.hwp_report_text.ReportText.{report_text}
use Rattle.hwp_top_report.specs.hwp_law.Law.{IsLawful}
use Rattle.hwp_top_report.specs.hwp_law.Runs.{IsOfRun}
use Rattle.hwp_top_report.specs.hwp_table_words.Ends.{EndValue}
use Rattle.hwp_top_report.specs.Caches.{IsCachedEnd}
use Rattle.hwp_top.specs.ThreadRuns.{IsThreadRun}
use Rattle.hwp_top.specs.Outputs.{HasRun, tlb_entries}
use Rattle.hwp_top_words.specs.Calls.{IsRun}
use Rattle.hwp_top_words.specs.Inputs.{Takes}
use Rattle.hwp_top_words.specs.Statuses.{done_status}

-- the report is one of the script, and of a run of its processors, each on a thread of its own; and the table at which they made
-- that run was closed with this
pub record IsReportOfThreads (script : Script) (report : Report) (ended : EndValue) : Type 0 where
  pub run : IsOfRun script report
  pub lawful : IsLawful script report
  pub threads : IsThreadRun script report ended

-- the report is one of the script that a source gave
pub record Reports (left left' : Option (List ℕ)) (report : Report) (ended : EndValue) : Type 0 where
  pub script : Script
  pub takes : Takes left left' script
  pub report_of : IsReportOfThreads script report ended

-- the report of a script that a source gave, its text, and its status
pub record IsThreaded (left left' : Option (List ℕ)) (status : ℕ) (text : List ℕ) (report : Report) (ended : EndValue) : Type 0 where
  pub reports : Reports left left' report ended
  pub status_is : status ≡ done_status report
  pub text_is : text ≡ report_text report

-- the same of a run with translation caches: at its end no entry of a cache names a handled frame
pub record IsThreadedTlb (left left' : Option (List ℕ)) (status : ℕ) (text : List ℕ) (report : Report) (ended : EndValue) : Type 0 where
  pub threaded : IsThreaded left left' status text report ended
  pub cached : IsCachedEnd tlb_entries ended

-- the output of a run on threads: its status, its text, its report, and what its table was closed with: `tlb` where the table has
-- translation caches, else `ended`
abbrev pub IsThreadedOf : Bool → Option (List ℕ) → Option (List ℕ) → ℕ → List ℕ → Option Report → Option EndValue → Option EndValue → Type 0
IsThreadedOf false left left' status text report ended tlb = HasRun report ended (IsThreaded left left' status text) × (tlb ≡ None)
IsThreadedOf true left left' status text report ended tlb = HasRun report tlb (IsThreadedTlb left left' status text) × (ended ≡ None)

-- the words ask for a run on threads, and this is its output
pub record IsThreadedCall (words : List (List ℕ)) (left left' : Option (List ℕ)) (status : ℕ) (text : List ℕ) (report : Option Report) (ended tlb : Option EndValue) : Type 0 where
  pub caches : Bool
  pub asked : IsRun words caches
  pub output : IsThreadedOf caches left left' status text report ended tlb
