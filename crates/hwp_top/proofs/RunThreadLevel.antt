-- An output of `run` or `run tlb` that was delivered is one of the run level.
use Rattle.std.proofs.Common.{◌≡◌, ℕ, List, sym, subst}
use Rattle.std.specs.Prelude.{Bool, Option}
use Rattle.std.specs.Io.KnownBytes.{Appends}
use Rattle.hwp_top_words.specs.hwp_io.Causes.{AppendsStrictFront}
use Rattle.hwp_top_report.specs.hwp_report_text.declared.Report.{Report}
use Rattle.hwp_top_report.specs.hwp_table_words.Ends.{EndValue}
use Rattle.hwp_top_words.specs.Statuses.{IsDone}
use Rattle.hwp_top_words.specs.Calls.{IsRun}
use Rattle.hwp_top.specs.RunCalls.{IsThreadedCall, IsThreadedOf}

-- an output of a run on threads, and what was given of it
module _ (words : List (List ℕ)) (caches : Bool) (left left' : Option (List ℕ)) (status : ℕ) (text : List ℕ) (report given : Option Report) (ended closed tlb cached : Option EndValue)
    (asked : IsRun words caches) (output : IsThreadedOf caches left left' status text report ended tlb) (same : (given ≡ report) × (closed ≡ ended) × (cached ≡ tlb)) where
  handed : IsThreadedCall words left left' status text given closed cached
  handed = record {
    caches = caches;
    asked = asked;
    output =
        subst (λ (r : Option Report). IsThreadedOf caches left left' status text r closed cached) (sym same.0)
        (subst (λ (e : Option EndValue). IsThreadedOf caches left left' status text report e cached) (sym same.1)
        (subst (λ (e : Option EndValue). IsThreadedOf caches left left' status text report ended e) (sym same.2) output));
  }

  -- it was written whole
  pub handed-whole : (taken taken' : Option (List ℕ)) (end : ℕ) → (IsDone end → (end ≡ status) × Appends taken taken' text)
      → IsDone end → (text : List ℕ) × IsThreadedCall words left left' end text given closed cached × Appends taken taken' text
  handed-whole taken taken' end done is =
      let so = done is in
      (text, subst (λ (n : ℕ). IsThreadedCall words left left' n text given closed cached) (sym so.0) handed, so.1)

  -- a part of it was written
  pub handed-cut : (taken taken' : Option (List ℕ)) → AppendsStrictFront taken taken' text
      → (status : ℕ) × (text : List ℕ) × IsThreadedCall words left left' status text given closed cached × AppendsStrictFront taken taken' text
  handed-cut taken taken' cut = (status, text, handed, cut)
