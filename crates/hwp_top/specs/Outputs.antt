-- What each call writes, and why it writes nothing.
use Rattle.std.specs.Prelude.{◌≡◌, ℕ, List, Option, None, IsSomeAnd}
use Rattle.hwp_top_words.specs.hwp_script_read.declared.Refused.{Refused}
use Rattle.hwp_top_words.specs.hwp_script.Generated.{generated}
use Rattle.hwp_top_report.specs.hwp_report_text.declared.Report.{Report}
use Rattle.hwp_top_report.specs.hwp_report_text.ReportText.{report_text}
use Rattle.hwp_top_words.specs.hwp_report.Counts.{summary_of}
use Rattle.hwp_top_words.specs.hwp_report.SummaryText.{summary_text}
use Rattle.hwp_top_report.specs.hwp_table_words.Ends.{EndValue}
use Rattle.hwp_top_report.specs.Caches.{IsCachedEnd}
use Rattle.hwp_top_words.specs.declared.served.Call.{Call}
use Rattle.hwp_top_words.specs.declared.served.Call.TheVariants as calls
use Rattle.hwp_top_words.specs.Calls.{IsCall}
use Rattle.hwp_top_words.specs.Checked.{IsChecked, RefusesChecked}
use Rattle.hwp_top_words.specs.Reported.{IsGenerated}
use Rattle.hwp_top_words.specs.Inputs.{Refuses}
use Rattle.hwp_top_words.specs.Statuses.{done_status}
use Rattle.hwp_top.specs.Top.{IsReportOfRun, Reports}

-- the report of a script that a source gave, its text, and its status
pub record IsStepped (left left' : Option (List ℕ)) (status : ℕ) (text : List ℕ) (report : Report) (ended : EndValue) : Type 0 where
  pub reports : Reports left left' report ended
  pub status_is : status ≡ done_status report
  pub text_is : text ≡ report_text report

-- how many entries the translation cache of a processor has
abbrev pub tlb_entries : ℕ
tlb_entries = 16

-- the same of a run with translation caches: at its end no entry of a cache names a handled frame
pub record IsSteppedTlb (left left' : Option (List ℕ)) (status : ℕ) (text : List ℕ) (report : Report) (ended : EndValue) : Type 0 where
  pub stepped : IsStepped left left' status text report ended
  pub cached : IsCachedEnd tlb_entries ended

-- a report of the seed's script, as `step` gives it, and the text of its summary
pub record IsSummed (seed status : ℕ) (text : List ℕ) (report : Report) (ended : EndValue) : Type 0 where
  pub report_of : IsReportOfRun (generated seed) report ended
  pub status_is : status ≡ 0
  pub text_is : text ≡ summary_text seed (summary_of report)

-- the report is there, and what its run's table was closed with
abbrev pub HasRun : Option Report → Option EndValue → (Report → EndValue → Type 0) → Type 0
HasRun report ended Such = IsSomeAnd report (λ (r : Report). IsSomeAnd ended (Such r))

-- the output of a call: its status, its text, and, where a run was made, its report and what its table was closed with: `tlb` where
-- the table has translation caches, else `ended`
abbrev pub IsOutputOf : Call → Option (List ℕ) → Option (List ℕ) → ℕ → List ℕ → Option Report → Option EndValue → Option EndValue → Type 0
IsOutputOf calls.Step left left' status text report ended tlb = HasRun report ended (IsStepped left left' status text) × (tlb ≡ None)
IsOutputOf calls.StepTlb left left' status text report ended tlb = HasRun report tlb (IsSteppedTlb left left' status text) × (ended ≡ None)
IsOutputOf calls.Check left left' status text report ended tlb = IsChecked left left' status text × (report ≡ None) × (ended ≡ None) × (tlb ≡ None)
IsOutputOf (calls.Gen seed) left left' status text report ended tlb = IsGenerated seed text × (status ≡ 0) × (report ≡ None) × (ended ≡ None) × (tlb ≡ None)
IsOutputOf (calls.Sum seed) left left' status text report ended tlb = HasRun report ended (IsSummed seed status text) × (tlb ≡ None)

-- a call is refused: what the source gave is
abbrev pub IsRefusedFor : Call → Option (List ℕ) → Option (List ℕ) → Refused → Type 0
IsRefusedFor calls.Step left left' refused = Refuses left left' refused
IsRefusedFor calls.StepTlb left left' refused = Refuses left left' refused
IsRefusedFor calls.Check left left' refused = RefusesChecked left left' refused
IsRefusedFor (calls.Gen seed) left left' refused = ⊥
IsRefusedFor (calls.Sum seed) left left' refused = ⊥

-- the words ask for a call, and this is its output
pub record IsOutput (words : List (List ℕ)) (left left' : Option (List ℕ)) (status : ℕ) (text : List ℕ) (report : Option Report) (ended tlb : Option EndValue) : Type 0 where
  pub call : Call
  pub asked : IsCall words call
  pub output : IsOutputOf call left left' status text report ended tlb

-- the words ask for a call, and it is refused
pub record IsRefusedCall (words : List (List ℕ)) (left left' : Option (List ℕ)) (refused : Refused) : Type 0 where
  pub call : Call
  pub asked : IsCall words call
  pub refuses : IsRefusedFor call left left' refused
