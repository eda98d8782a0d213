-- What a verdict on a text says of the law.
use Rattle.std.proofs.Common.{◌≡◌, ℕ, ◌<◌, ◌≤◌, ◌^◌, List, Result, Ok, Err, IfOk, IfErr, length, inl, inr, refl, sym, subst, arith}
use Rattle.hwp_check_rules.specs.hwp_script_words.declared.Script.{Script}
use Rattle.hwp_script_read.specs.Reads.{Reads}
use Rattle.hwp_check_rules.specs.hwp_script_words.Valid.{IsValid}
use Rattle.hwp_report.specs.hwp_report_text.declared.Report.{Report}
use Rattle.hwp_report.specs.declared.reading.BadReport.{BadReport}
use Rattle.hwp_report.specs.declared.reading.BadReport.TheVariants as faults
use Rattle.hwp_report.specs.Texts.{IsFaultAt, IsFaultOf, IsReportOf}
use Rattle.hwp_check_rules.specs.hwp_law.Law.{IsLawful}
use Rattle.hwp_check_rules.specs.declared.Rule.TheVariants.{Shape}
use Rattle.hwp_check_rules.specs.declared.verdicts.Verdict.{Verdict}
use Rattle.hwp_check_rules.specs.declared.verdicts.Verdict.TheVariants as verdicts
use Rattle.hwp_check_rules.specs.Standing.{last_line}
use Rattle.hwp_check_rules.specs.Verdicts.{IsVerdict}
use Rattle.hwp_check_rules.proofs.Lawful.{lawful-holds}
use Rattle.hwp_check.specs.Judging.{IsJudged, IsJudgedInput, IsSaid}
use Rattle.hwp_check.specs.Parting.{IsParted}
use Rattle.hwp_check.proofs.LineCounts.{last-within}

-- a verdict that isn't `Legal`
abbrev IsNot : Verdict → Type 0
IsNot verdicts.Legal = ⊥
IsNot (verdicts.Not line rule) = Unit {0}

-- a text that is no report
pub no-report : (script : Script) (bytes : List ℕ) (line : ℕ) → IsFaultAt bytes line → IsJudged script bytes (verdicts.Not line Shape)
no-report script bytes line fault = record {
  said = inr (refl, fault);
  legal = λ legal. absurd (fault.none legal.report legal.text);
  lawful = λ is. absurd (subst IsNot is tt);
}

-- the verdict on the one report that a text is of
pub on-report : (script : Script) (bytes : List ℕ) (report : Report) (verdict : Verdict) → IsValid script → IsReportOf bytes report → IsVerdict script report verdict → IsJudged script bytes verdict
on-report script bytes report verdicts.Legal valid text law = record {
  said = inl (record { report = report; text = text; told = law });
  legal = λ legal. refl;
  lawful = λ is. record { report = report; text = text.text; lawful = law };
}
on-report script bytes report (verdicts.Not line rule) valid text broken = record {
  said = inl (record { report = report; text = text; told = broken });
  legal = λ legal. absurd (broken.1.broken (lawful-holds script report valid.one_each (subst (λ (r : Report). IsLawful script r) (text.only legal.report legal.text) legal.lawful) rule));
  lawful = λ is. absurd (subst IsNot is tt);
}

-- the verdict on what was read of a text is that on the text
pub said-judged : (script : Script) (bytes : List ℕ) (text : Result Report BadReport) (verdict : Verdict) → IsValid script → IfOk text (IsReportOf bytes) → IfErr text (IsFaultOf bytes)
    → IsSaid script text verdict → IsJudged script bytes verdict
said-judged script bytes (Ok report) verdict valid is fault told = on-report script bytes report verdict valid is told
said-judged script bytes (Err (faults.Line line)) verdict valid is fault told = subst (λ (v : Verdict). IsJudged script bytes v) (sym told) (no-report script bytes line fault)
said-judged script bytes (Err faults.OutOfMemory) verdict valid is fault told = absurd told

-- a report that was read has few lines
pub read-fits : (bytes : List ℕ) (text : Result Report BadReport) → length bytes < 2 ^ 64 → IfOk text (IsReportOf bytes) → IfOk text (λ (r : Report). last_line r < 2 ^ 64)
read-fits bytes (Ok report) few is =
    let within : last_line report ≤ length bytes = last-within bytes report is.text in
    omega (arith, few, within)
read-fits bytes (Err fault) few is = tt

-- the verdict on an input, by what was read of it
pub judged-input : {E F : Type 0} (input first behind : List ℕ) (script : Script) (text : Result Report BadReport) (judged : Result Verdict E) (told : Result Verdict F) → IsParted input first behind → Reads first script
    → IsValid script → IfOk text (IsReportOf behind) → IfErr text (IsFaultOf behind) → IfOk judged (IsSaid script text) → IfOk told (λ (v : Verdict). judged ≡ Ok v) → IfOk told (IsJudgedInput input)
judged-input {E = E} input first behind script text judged (Ok verdict) parted reads valid is fault said same = record {
  first = first;
  behind = behind;
  parted = parted;
  script = script;
  reads = reads;
  judged = said-judged script behind text verdict valid is fault (subst (λ (j : Result Verdict E). IfOk j (IsSaid script text)) same said);
}
judged-input input first behind script text judged (Err fault_told) parted reads valid is fault said same = tt
