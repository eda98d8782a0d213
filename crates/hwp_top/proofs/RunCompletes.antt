-- Every script is served: where a source gives the text of one, and no read and no write fails, `run` and `run tlb` end with the whole
-- report, or are out of memory, if they end. That follows from the clauses of the top call for runs on threads.
use Rattle.std.proofs.Common.{◌≡◌, ◌⊎◌, inl, inr, ℕ, zero, suc, ◌<◌, List, [], ◌∷◌, Option, Some, None, slice_index_or, refl, sym, true≢false, subst, arith}
use Rattle.std.specs.Prelude.{Bool, true, false, not, Contains, IsTrue}
use Rattle.std.specs.Io.KnownBytes.{Appends}
use Rattle.hwp_top_words.specs.hwp_script_read.Reads.{Reads}
use Rattle.hwp_top_words.specs.hwp_script_read.declared.Refused.{Refused}
use Rattle.hwp_top_words.specs.hwp_script_read.declared.Script.{Script}
use Rattle.hwp_top_words.proofs.of_hwp_script_read.OneScript.{one_script}
use Rattle.hwp_top_report.specs.hwp_report_text.declared.Report.{Report}
use Rattle.hwp_top_report.specs.hwp_table_words.Ends.{EndValue}
use Rattle.hwp_top_report.specs.Caches.{IsCachedEnd}
use Rattle.hwp_top.specs.Outputs.{tlb_entries}
use Rattle.hwp_top.specs.Serving.{end_at}
use Rattle.hwp_top_words.specs.Statuses.{IsDone}
use Rattle.hwp_top_words.specs.Inputs.{Refuses}
use Rattle.hwp_top_words.proofs.GivenBytes.{all-given, unrefused}
use Rattle.hwp_top_words.proofs.Asked.{one-run}
use Rattle.hwp_top.specs.RunServing.{HasReported}
use Rattle.hwp_top_words.specs.Calls.{IsNoRun, IsRun}
use Rattle.hwp_top.specs.RunCalls.{IsReportOfThreads, IsThreaded, IsThreadedCall, IsThreadedOf}

-- the parts of an output of `run`, or of `run tlb`
record IsRunOutput (caches : Bool) (left left' : Option (List ℕ)) (status : ℕ) (text : List ℕ) (report : Option Report) (ended tlb : Option EndValue) : Type 0 where
  it : Report
  given_is : report ≡ Some it
  end : EndValue
  closed_is : end_at caches ended tlb ≡ Some end
  other_is : end_at (not caches) ended tlb ≡ None
  threaded : IsThreaded left left' status text it end
  cached : IsTrue caches → IsCachedEnd tlb_entries end

run-output : (caches : Bool) (left left' : Option (List ℕ)) (status : ℕ) (text : List ℕ) (report : Option Report) (ended tlb : Option EndValue) → IsThreadedOf caches left left' status text report ended tlb → IsRunOutput caches left left' status text report ended tlb
run-output false left left' status text (Some it) (Some end) tlb o = record { it = it; given_is = refl; end = end; closed_is = refl; other_is = o.1; threaded = o.0; cached = λ (is : IsTrue false). absurd (true≢false (sym is)) }
run-output false left left' status text (Some it) None tlb o = absurd o.0
run-output false left left' status text None ended tlb o = absurd o.0
run-output true left left' status text (Some it) ended (Some end) o = record { it = it; given_is = refl; end = end; closed_is = refl; other_is = o.1; threaded = o.0.threaded; cached = λ is. o.0.cached }
run-output true left left' status text (Some it) ended None o = absurd o.0
run-output true left left' status text None ended tlb o = absurd o.0

module _ (caches : Bool) (words : List (List ℕ)) (had : List ℕ) (left taken taken' : Option (List ℕ)) (reads reads' writes writes' status : ℕ) (report : Option Report) (ended tlb : Option EndValue)
    (statuses : Contains (0 ∷ 2 ∷ 3 ∷ 4 ∷ 5 ∷ 6 ∷ 8 ∷ []) status)
    (done : IsDone status → (text : List ℕ) × IsThreadedCall words (Some had) left status text report ended tlb × Appends taken taken' text)
    (usage : status ≡ 2 → IsNoRun words) (refused : status ≡ 3 → (r : Refused) × Refuses (Some had) left r)
    (read_fault : status ≡ 4 → reads < reads') (write_fault : status ≡ 5 → writes < writes')
    (script : Script) (run : IsRun words caches) (is-text : Reads had script) where
  -- an output that is written
  threaded : (text : List ℕ) → IsRunOutput caches (Some had) left status text report ended tlb → Appends taken taken' text → HasReported caches script taken taken' status report ended tlb
  threaded text output written =
      let reports = output.threaded.reports in
      let takes = reports.takes in
      let same : had ≡ takes.bytes = all-given had left takes.bytes takes.consumed takes.at_end in
      let one : reports.script ≡ script = one_script had script reports.script is-text (subst (λ (l : List ℕ). Reads l reports.script) (sym same) takes.reads) in
      record {
        report = output.it;
        given_is = output.given_is;
        end = output.end;
        closed_is = output.closed_is;
        other_is = output.other_is;
        report_of = subst (λ (s : Script). IsReportOfThreads s output.it output.end) one reports.report_of;
        cached = output.cached;
        status_is = output.threaded.status_is;
        written = subst (Appends taken taken') output.threaded.text_is written;
      }

  served : IsDone status → HasReported caches script taken taken' status report ended tlb
  served is =
      let so = done is in
      let output = subst (λ (c : Bool). IsThreadedOf c (Some had) left status so.0 report ended tlb) (one-run words so.1.caches caches so.1.asked run) so.1.output in
      threaded so.0 (run-output caches (Some had) left status so.0 report ended tlb output) so.2

  pub completes : (reads < reads' → ⊥) → (writes < writes' → ⊥) → HasReported caches script taken taken' status report ended tlb ⊎ (status ≡ 6)
  completes unread unwritten = by statuses.0 statuses.1 statuses.2
    where
      by : (k : ℕ) → k < 7 → slice_index_or (0 ∷ 2 ∷ 3 ∷ 4 ∷ 5 ∷ 6 ∷ 8 ∷ []) k status ≡ status → HasReported caches script taken taken' status report ended tlb ⊎ (status ≡ 6)
      by zero inside is = inl (served (inl (sym is)))
      by (suc zero) inside is = absurd (usage (sym is) caches run)
      by (suc (suc zero)) inside is = let so = refused (sym is) in absurd (unrefused had script left so.0 is-text so.1)
      by (suc (suc (suc zero))) inside is = absurd (unread (read_fault (sym is)))
      by (suc (suc (suc (suc zero)))) inside is = absurd (unwritten (write_fault (sym is)))
      by (suc (suc (suc (suc (suc zero))))) inside is = inr (sym is)
      by (suc (suc (suc (suc (suc (suc zero)))))) inside is = inl (served (inr (inr (sym is))))
      by (suc (suc (suc (suc (suc (suc (suc k))))))) inside is = absurd (omega (arith, inside))
