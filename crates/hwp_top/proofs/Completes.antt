-- Every script is served: where a source gives the text of one, and no read and no write fails, `step` and `step tlb` end with the
-- whole report, or are out of memory. That follows from the clauses of the top call.
use Rattle.std.proofs.Common.{◌≡◌, ◌⊎◌, inl, inr, ℕ, zero, suc, ◌<◌, List, [], ◌∷◌, Option, Some, None, slice_index_or, refl, sym, true≢false, subst, arith}
use Rattle.std.specs.Prelude.{Bool, true, false, not, Contains, IsTrue}
use Rattle.std.specs.Io.KnownBytes.{Appends}
use Rattle.hwp_top_words.specs.hwp_script_read.Reads.{Reads}
use Rattle.hwp_top_words.specs.hwp_script_read.declared.Refused.{Refused}
use Rattle.hwp_top_words.specs.hwp_script_read.declared.Script.{Script}
use Rattle.hwp_top_words.proofs.of_hwp_script_read.OneScript.{one_script}
use Rattle.hwp_top_report.specs.hwp_report_text.declared.Report.{Report}
use Rattle.hwp_top_report.specs.hwp_table_words.Ends.{EndValue}
use Rattle.hwp_top_report.specs.Caches.{IsCachedEnd}
use Rattle.hwp_top_words.specs.declared.served.Call.{Call}
use Rattle.hwp_top_words.proofs.Asked.{step-alone, step-asked, step-call}
use Rattle.hwp_top_words.proofs.GivenBytes.{all-given, unrefused}
use Rattle.hwp_top_words.specs.Calls.{IsNoCall, IsStep}
use Rattle.hwp_top.specs.Outputs.{IsOutput, IsOutputOf, IsRefusedCall, IsRefusedFor as IsRefusedAt, IsStepped, tlb_entries}
use Rattle.hwp_top.specs.Serving.{HasReported, end_at}
use Rattle.hwp_top_words.specs.Statuses.{IsDone}
use Rattle.hwp_top_words.specs.Inputs.{Refuses}
use Rattle.hwp_top.specs.Top.{IsReportOfRun}

not-refused-at : (caches : Bool) (left left' : Option (List ℕ)) (r : Refused) → IsRefusedAt (step-call caches) left left' r → Refuses left left' r
not-refused-at false left left' r refused = refused
not-refused-at true left left' r refused = refused

-- the parts of an output of `step`, or of `step tlb`
record IsRunOutput (caches : Bool) (left left' : Option (List ℕ)) (status : ℕ) (text : List ℕ) (report : Option Report) (ended tlb : Option EndValue) : Type 0 where
  it : Report
  given_is : report ≡ Some it
  end : EndValue
  closed_is : end_at caches ended tlb ≡ Some end
  other_is : end_at (not caches) ended tlb ≡ None
  stepped : IsStepped left left' status text it end
  cached : IsTrue caches → IsCachedEnd tlb_entries end

run-output : (caches : Bool) (left left' : Option (List ℕ)) (status : ℕ) (text : List ℕ) (report : Option Report) (ended tlb : Option EndValue) → IsOutputOf (step-call caches) left left' status text report ended tlb → IsRunOutput caches left left' status text report ended tlb
run-output false left left' status text (Some it) (Some end) tlb o = record { it = it; given_is = refl; end = end; closed_is = refl; other_is = o.1; stepped = o.0; cached = λ (is : IsTrue false). absurd (true≢false (sym is)) }
run-output false left left' status text (Some it) None tlb o = absurd o.0
run-output false left left' status text None ended tlb o = absurd o.0
run-output true left left' status text (Some it) ended (Some end) o = record { it = it; given_is = refl; end = end; closed_is = refl; other_is = o.1; stepped = o.0.stepped; cached = λ is. o.0.cached }
run-output true left left' status text (Some it) ended None o = absurd o.0
run-output true left left' status text None ended tlb o = absurd o.0

module _ (caches : Bool) (words : List (List ℕ)) (had : List ℕ) (left taken taken' : Option (List ℕ)) (reads reads' writes writes' status : ℕ) (report : Option Report) (ended tlb : Option EndValue)
    (statuses : Contains (0 ∷ 1 ∷ 2 ∷ 3 ∷ 4 ∷ 5 ∷ 6 ∷ 8 ∷ []) status)
    (done : IsDone status → (text : List ℕ) × IsOutput words (Some had) left status text report ended tlb × Appends taken taken' text)
    (usage : status ≡ 2 → IsNoCall words) (refused : status ≡ 3 → (r : Refused) × IsRefusedCall words (Some had) left r)
    (read_fault : status ≡ 4 → reads < reads') (write_fault : status ≡ 5 → writes < writes')
    (script : Script) (step : IsStep words caches) (is-text : Reads had script) where
  -- an output that is written
  stepped : (text : List ℕ) → IsRunOutput caches (Some had) left status text report ended tlb → Appends taken taken' text → HasReported caches script taken taken' status report ended tlb
  stepped text output written =
      let reports = output.stepped.reports in
      let takes = reports.takes in
      let same : had ≡ takes.bytes = all-given had left takes.bytes takes.consumed takes.at_end in
      let one : reports.script ≡ script = one_script had script reports.script is-text (subst (λ (l : List ℕ). Reads l reports.script) (sym same) takes.reads) in
      record {
        report = output.it;
        given_is = output.given_is;
        end = output.end;
        closed_is = output.closed_is;
        other_is = output.other_is;
        report_of = subst (λ (s : Script). IsReportOfRun s output.it output.end) one reports.report_of;
        cached = output.cached;
        status_is = output.stepped.status_is;
        written = subst (Appends taken taken') output.stepped.text_is written;
      }

  served : IsDone status → HasReported caches script taken taken' status report ended tlb
  served is =
      let so = done is in
      let output = subst (λ (call : Call). IsOutputOf call (Some had) left status so.0 report ended tlb) (step-alone caches words so.1.call step so.1.asked) so.1.output in
      stepped so.0 (run-output caches (Some had) left status so.0 report ended tlb output) so.2

  not-refused : status ≡ 3 → ⊥
  not-refused is =
      let so = refused is in
      let at = subst (λ (call : Call). IsRefusedAt call (Some had) left so.0) (step-alone caches words so.1.call step so.1.asked) so.1.refuses in
      unrefused had script left so.0 is-text (not-refused-at caches (Some had) left so.0 at)

  pub completes : (reads < reads' → ⊥) → (writes < writes' → ⊥) → HasReported caches script taken taken' status report ended tlb ⊎ (status ≡ 6)
  completes unread unwritten = by statuses.0 statuses.1 statuses.2
    where
      by : (k : ℕ) → k < 8 → slice_index_or (0 ∷ 1 ∷ 2 ∷ 3 ∷ 4 ∷ 5 ∷ 6 ∷ 8 ∷ []) k status ≡ status → HasReported caches script taken taken' status report ended tlb ⊎ (status ≡ 6)
      by zero inside is = inl (served (inl (sym is)))
      by (suc zero) inside is = inl (served (inr (inl (sym is))))
      by (suc (suc zero)) inside is = absurd (usage (sym is) (step-call caches) (step-asked caches words step))
      by (suc (suc (suc zero))) inside is = absurd (not-refused (sym is))
      by (suc (suc (suc (suc zero)))) inside is = absurd (unread (read_fault (sym is)))
      by (suc (suc (suc (suc (suc zero))))) inside is = absurd (unwritten (write_fault (sym is)))
      by (suc (suc (suc (suc (suc (suc zero)))))) inside is = inr (sym is)
      by (suc (suc (suc (suc (suc (suc (suc zero))))))) inside is = inl (served (inr (inr (sym is))))
      by (suc (suc (suc (suc (suc (suc (suc (suc k)))))))) inside is = absurd (omega (arith, inside))
