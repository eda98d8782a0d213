-- The report level of what `run` and `run tlb` write follows from their output.
use Rattle.std.specs.Prelude.{ℕ, Bool, true, false, List, Option, Some, None, IsSomeAnd}
use Rattle.hwp_top_report.specs.hwp_report_text.declared.Report.{Report}
use Rattle.hwp_top_report.specs.hwp_table_words.Ends.{EndValue}
use Rattle.hwp_top_words.specs.Reported.{IsStepReport}
use Rattle.hwp_top.specs.RunCalls.{IsThreaded, IsThreadedOf}

module _ (left left' : Option (List ℕ)) (status : ℕ) (text : List ℕ) where
  report-level : (report : Report) (ended : EndValue) → IsThreaded left left' status text report ended → IsStepReport left left' status text report
  report-level report ended o =
      let of = o.reports in
      record {
        script = of.script;
        takes = of.takes;
        report_of = record { run = of.report_of.run; lawful = of.report_of.lawful };
        status_is = o.status_is;
        text_is = o.text_is;
      }

  pub threaded-report : (caches : Bool) (report : Option Report) (ended tlb : Option EndValue) → IsThreadedOf caches left left' status text report ended tlb → IsSomeAnd report (IsStepReport left left' status text)
  threaded-report false (Some report) (Some ended) tlb o = report-level report ended o.0
  threaded-report false (Some report) None tlb o = absurd o.0
  threaded-report false None ended tlb o = absurd o.0
  threaded-report true (Some report) ended (Some tlb) o = report-level report tlb o.0.threaded
  threaded-report true (Some report) ended None o = absurd o.0
  threaded-report true None ended tlb o = absurd o.0
