-- A report of `step`, or of `run`, that was written whole is one of the report level.
use Rattle.std.specs.Prelude.{◌≡◌, ℕ, List, Option, IsSomeAnd}
use Rattle.std.proofs.Common.{subst, sym}
use Rattle.std.specs.Io.KnownBytes.{Appends}
use Rattle.hwp_report.specs.hwp_report_text.declared.Report.{Report}
use Rattle.hwp_top_words.specs.Reported.{IsStepReport}
use Rattle.hwp_top_words.specs.Statuses.{IsDone}

-- the report of `step`, or of `run`, that was written whole
pub delivered-report : (left left' taken taken' : Option (List ℕ)) (status end : ℕ) (text : List ℕ) (report given : Option Report)
    → IsSomeAnd report (IsStepReport left left' status text) → given ≡ report
    → (IsDone end → (end ≡ status) × Appends taken taken' text)
    → IsDone end → (text : List ℕ) × IsSomeAnd given (IsStepReport left left' end text) × Appends taken taken' text
delivered-report left left' taken taken' status end text report given output same done is =
    let so = done is in
    let at-end : IsSomeAnd report (IsStepReport left left' end text) = subst (λ (n : ℕ). IsSomeAnd report (IsStepReport left left' n text)) (sym so.0) output in
    (text, subst (λ (r : Option Report). IsSomeAnd r (IsStepReport left left' end text)) (sym same) at-end, so.1)
