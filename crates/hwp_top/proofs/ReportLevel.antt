-- The report level of an output follows from the output.
use Rattle.std.specs.Prelude.{◌≡◌, ℕ, List, Option, Some, None}
use Rattle.std.proofs.Common.{subst, sym}
use Rattle.std.specs.Io.KnownBytes.{Appends}
use Rattle.hwp_top_report.specs.hwp_report_text.declared.Report.{Report}
use Rattle.hwp_top_report.specs.hwp_table_words.Ends.{EndValue}
use Rattle.hwp_top_words.specs.declared.served.Call.{Call}
use Rattle.hwp_top_words.specs.declared.served.Call.TheVariants as calls
use Rattle.hwp_top_words.specs.Calls.{IsCall}
use Rattle.hwp_top_words.specs.Reported.{IsReported, IsReportedOf, IsStepReport}
use Rattle.hwp_top.specs.Outputs.{IsOutputOf, IsStepped}
use Rattle.hwp_top_words.specs.Statuses.{IsDone}

step-report : (left left' : Option (List ℕ)) (status : ℕ) (text : List ℕ) (report : Report) (ended : EndValue) → IsStepped left left' status text report ended → IsStepReport left left' status text report
step-report left left' status text report ended o =
    let of = o.reports in
    record {
      script = of.script;
      takes = of.takes;
      report_of = record { run = of.report_of.run; lawful = of.report_of.lawful };
      status_is = o.status_is;
      text_is = o.text_is;
    }

reported-of : (call : Call) (left left' : Option (List ℕ)) (status : ℕ) (text : List ℕ) (report : Option Report) (ended tlb : Option EndValue) → IsOutputOf call left left' status text report ended tlb → IsReportedOf call left left' status text report
reported-of calls.Step left left' status text (Some report) (Some ended) tlb o = step-report left left' status text report ended o.0
reported-of calls.Step left left' status text (Some report) None tlb o = absurd o.0
reported-of calls.Step left left' status text None ended tlb o = absurd o.0
reported-of calls.StepTlb left left' status text (Some report) ended (Some tlb) o = step-report left left' status text report tlb o.0.stepped
reported-of calls.StepTlb left left' status text (Some report) ended None o = absurd o.0
reported-of calls.StepTlb left left' status text None ended tlb o = absurd o.0
reported-of calls.Check left left' status text report ended tlb o = (o.0, o.1)
reported-of (calls.Gen seed) left left' status text report ended tlb o = (o.0, o.1, o.2)
reported-of (calls.Sum seed) left left' status text (Some report) (Some ended) tlb o =
    let of = o.0 in
    record {
      report_of = record { run = of.report_of.run; lawful = of.report_of.lawful };
      status_is = of.status_is;
      text_is = of.text_is;
    }
reported-of (calls.Sum seed) left left' status text (Some report) None tlb o = absurd o.0
reported-of (calls.Sum seed) left left' status text None ended tlb o = absurd o.0

-- an output that was written whole is one of the report level
pub delivered : (words : List (List ℕ)) (call : Call) (left left' taken taken' : Option (List ℕ)) (status end : ℕ) (text : List ℕ) (report given : Option Report) (ended tlb : Option EndValue)
    → IsCall words call → IsOutputOf call left left' status text report ended tlb → given ≡ report
    → (IsDone end → (end ≡ status) × Appends taken taken' text)
    → IsDone end → (text : List ℕ) × IsReported words left left' end text given × Appends taken taken' text
delivered words call left left' taken taken' status end text report given ended tlb asked output same done is =
    let so = done is in
    let at-end : IsReportedOf call left left' end text report = subst (λ (n : ℕ). IsReportedOf call left left' n text report) (sym so.0) (reported-of call left left' status text report ended tlb output) in
    (text, record { call = call; asked = asked; output = subst (λ (r : Option Report). IsReportedOf call left left' end text r) (sym same) at-end }, so.1)
