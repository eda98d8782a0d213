-- What `step` and `step tlb` come to where nothing fails.
use Rattle.std.specs.Prelude.{◌≡◌, ℕ, Bool, true, false, not, List, Option, Some, None, IsTrue}
use Rattle.std.specs.Io.KnownBytes.{Appends}
use Rattle.hwp_top_words.specs.hwp_script_read.declared.Script.{Script}
use Rattle.hwp_top_report.specs.hwp_report_text.declared.Report.{Report}
use Rattle.hwp_top_report.specs.hwp_report_text.ReportText.{report_text}
use Rattle.hwp_top_report.specs.hwp_table_words.Ends.{EndValue}
use Rattle.hwp_top_report.specs.Caches.{IsCachedEnd}
use Rattle.hwp_top.specs.Outputs.{tlb_entries}
use Rattle.hwp_top_words.specs.Statuses.{done_status}
use Rattle.hwp_top.specs.Top.{IsReportOfRun}

-- what the run's table was closed with: the one without translation caches, or the one with them
abbrev pub end_at : Bool → Option EndValue → Option EndValue → Option EndValue
end_at false ended tlb = ended
end_at true ended tlb = tlb

-- The report of a run of the script is there, and what the run's table was closed with, and no other table; at the end of a run with
-- caches none has an entry that names a handled frame. All of the report was written, and the status says whether the machine stopped.
pub record HasReported (caches : Bool) (script : Script) (taken taken' : Option (List ℕ)) (status : ℕ) (given : Option Report) (ended tlb : Option EndValue) : Type 0 where
  pub report : Report
  pub given_is : given ≡ Some report
  pub end : EndValue
  pub closed_is : end_at caches ended tlb ≡ Some end
  pub other_is : end_at (not caches) ended tlb ≡ None
  pub report_of : IsReportOfRun script report end
  pub cached : IsTrue caches → IsCachedEnd tlb_entries end
  pub status_is : status ≡ done_status report
  pub written : Appends taken taken' (report_text report)
