-- The statuses of the top call for runs on threads are those of its list.
use Rattle.std.specs.Prelude.{◌≡◌, ℕ, Bool, true, false, List, ◌⊎◌, Option, Some, None}
use Rattle.std.proofs.Common.{lit<, refl, subst, sym, ◌∙◌, inl, inr}
use Rattle.hwp_top_report.specs.hwp_report_text.declared.Report.{Report}
use Rattle.hwp_top_report.specs.hwp_table_words.Ends.{EndValue}
use Rattle.hwp_top_words.specs.Statuses.{IsDone, done_status}
use Rattle.hwp_top_words.proofs.Statuses.{RunStatus, report_is_done, report_is_run_status}
use Rattle.hwp_top.specs.RunCalls.{IsThreadedOf}

module _ (left left' : Option (List ℕ)) (status : ℕ) (text : List ℕ) where
  -- the report of a run on threads: its status is that of a report that is written
  has-status : (caches : Bool) (report : Option Report) (ended tlb : Option EndValue) → IsThreadedOf caches left left' status text report ended tlb → (r : Report) × (status ≡ done_status r)
  has-status false (Some report) (Some ended) tlb o = (report, o.0.status_is)
  has-status false (Some report) None tlb o = absurd o.0
  has-status false None ended tlb o = absurd o.0
  has-status true (Some report) ended (Some tlb) o = (report, o.0.threaded.status_is)
  has-status true (Some report) ended None o = absurd o.0
  has-status true None ended tlb o = absurd o.0

  -- the output of `run`, or of `run tlb`, is of a call that is done
  pub output-done : (caches : Bool) (report : Option Report) (ended tlb : Option EndValue) → IsThreadedOf caches left left' status text report ended tlb → IsDone status
  output-done caches report ended tlb o = let so = has-status caches report ended tlb o in subst IsDone (sym so.1) (report_is_done so.0)

  -- and where it is written, whole or in part, the call ends with a status of the list
  pub output-listed : (caches : Bool) (report : Option Report) (ended tlb : Option EndValue) (n : ℕ) → IsThreadedOf caches left left' status text report ended tlb → (n ≡ status) ⊎ (n ≡ 5) → RunStatus n
  output-listed caches report ended tlb n o (inl whole) = let so = has-status caches report ended tlb o in subst RunStatus (sym (whole ∙ so.1)) (report_is_run_status so.0)
  output-listed caches report ended tlb n o (inr cut) = subst RunStatus (sym cut) (4, lit< tt, refl)
