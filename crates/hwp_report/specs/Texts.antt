-- Which bytes are the text of a report, and which line of other bytes is the first at fault.
use Rattle.std.specs.Prelude.{◌≡◌, ℕ, ◌-◌, ◌≤◌, ◌<◌, List, ◌++◌, length, take}
use Rattle.std.specs.List.{flat_map}
use Rattle.hwp_report_text.specs.hwp_geom.Words.{line}
use Rattle.hwp_report_text.specs.declared.Report.{Report}
use Rattle.hwp_report_text.specs.ReportText.{report_lines, report_text}
use Rattle.hwp_report.specs.declared.reading.BadReport.{BadReport}
use Rattle.hwp_report.specs.declared.reading.BadReport.TheVariants as faults
use Rattle.hwp_report.specs.Fits.{ReportFits}

-- the bytes are the text of this report
pub record IsTextOf (bytes : List ℕ) (report : Report) : Type 0 where
  pub fits : ReportFits report
  pub same : bytes ≡ report_text report

-- the bytes are the text of this report, and of no other
pub record IsReportOf (bytes : List ℕ) (report : Report) : Type 0 where
  pub text : IsTextOf bytes report
  pub only : (other : Report) → IsTextOf bytes other → other ≡ report

-- the first n lines of the bytes, line feeds included, begin the text of a report
pub record Begin (bytes : List ℕ) (n : ℕ) : Type 0 where
  pub report : Report
  pub fits : ReportFits report
  pub many : n ≤ length (report_lines report)
  pub rest : List ℕ
  pub same : bytes ≡ flat_map line (take n (report_lines report)) ++ rest

-- the bytes are no text of a report, and line n is the first that doesn't follow those before it
pub record IsFaultAt (bytes : List ℕ) (n : ℕ) : Type 0 where
  pub none : (report : Report) → IsTextOf bytes report → ⊥
  pub some : 1 ≤ n
  pub before : Begin bytes (n - 1)
  pub greatest : (k : ℕ) → Begin bytes k → k < n

-- the fault that is told of the bytes; where memory ran out nothing is said
abbrev pub IsFaultOf : List ℕ → BadReport → Type 0
IsFaultOf bytes (faults.Line n) = IsFaultAt bytes n
IsFaultOf bytes faults.OutOfMemory = Unit {0}
