-- The statuses of the top call are those of its list.
use Rattle.std.specs.Prelude.{◌≡◌, ℕ, List, ◌⊎◌, Option, Some, None}
use Rattle.std.proofs.Common.{lit<, refl, subst, sym, inl, inr}
use Rattle.hwp_top_report.specs.hwp_report_text.declared.Report.{Report}
use Rattle.hwp_top_report.specs.hwp_table_words.Ends.{EndValue}
use Rattle.hwp_top_words.specs.declared.served.Call.{Call}
use Rattle.hwp_top_words.specs.declared.served.Call.TheVariants as calls
use Rattle.hwp_top.specs.Outputs.{IsOutputOf}
use Rattle.hwp_top_words.proofs.Statuses.{Listed, done_is_listed, report_is_done, verdict_is_done}
use Rattle.hwp_top_words.specs.Statuses.{IsDone}

-- an output has the status of a call that is done
pub output_is_done : (call : Call) (left left' : Option (List ℕ)) (status : ℕ) (text : List ℕ) (report : Option Report) (ended tlb : Option EndValue) → IsOutputOf call left left' status text report ended tlb → IsDone status
output_is_done calls.Step left left' status text (Some report) (Some ended) tlb o = subst IsDone (sym o.0.status_is) (report_is_done report)
output_is_done calls.Step left left' status text (Some report) None tlb o = absurd o.0
output_is_done calls.Step left left' status text None ended tlb o = absurd o.0
output_is_done calls.StepTlb left left' status text (Some report) ended (Some tlb) o = subst IsDone (sym o.0.stepped.status_is) (report_is_done report)
output_is_done calls.StepTlb left left' status text (Some report) ended None o = absurd o.0
output_is_done calls.StepTlb left left' status text None ended tlb o = absurd o.0
output_is_done calls.Check left left' status text report ended tlb o = subst IsDone (sym o.0.status_is) (verdict_is_done o.0.verdict)
output_is_done (calls.Gen seed) left left' status text report ended tlb o = inl o.1
output_is_done (calls.Sum seed) left left' status text (Some report) (Some ended) tlb o = inl o.0.status_is
output_is_done (calls.Sum seed) left left' status text (Some report) None tlb o = absurd o.0
output_is_done (calls.Sum seed) left left' status text None ended tlb o = absurd o.0

-- an output that is written, whole or in part, ends with a status of the list
pub output_is_listed : (call : Call) (left left' : Option (List ℕ)) (status n : ℕ) (text : List ℕ) (report : Option Report) (ended tlb : Option EndValue) → IsOutputOf call left left' status text report ended tlb → (n ≡ status) ⊎ (n ≡ 5) → Listed n
output_is_listed call left left' status n text report ended tlb o (inl whole) = subst Listed (sym whole) (done_is_listed status (output_is_done call left left' status text report ended tlb o))
output_is_listed call left left' status n text report ended tlb o (inr cut) = subst Listed (sym cut) (5, lit< tt, refl)
