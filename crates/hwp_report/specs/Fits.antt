-- Which values a report may have: each number within its type, and each list no longer than a number says.
use Rattle.std.specs.Prelude.{ℕ, ◌^◌, ◌-◌, ◌<◌, ◌≤◌, List, length, All, IfSome}
use Rattle.hwp_report_text.specs.declared.Report.{Report}
use Rattle.hwp_report_text.specs.declared.FrameLine.{FrameLine}
use Rattle.hwp_report_text.specs.declared.Whereabouts.{Whereabouts}
use Rattle.hwp_report_text.specs.declared.Whereabouts.TheVariants as places
use Rattle.hwp_report_text.specs.declared.MarkLine.{MarkLine}
use Rattle.hwp_report_text.specs.declared.MarkLine.TheVariants as marks
use Rattle.hwp_report_words.specs.Words.{WhoFits}
use Rattle.hwp_report_words.specs.pages.Fits.{EntryFits}
use Rattle.hwp_report_words.specs.Fits.{StopFits, CpuLineFits}

-- where a frame is
abbrev pub PlaceFits : Whereabouts → Type 0
PlaceFits (places.Of page) = page.0 < 2 ^ 16
PlaceFits place = Unit {0}

-- a mark of a frame's record
abbrev pub MarkFits : MarkLine → Type 0
MarkFits (marks.Poisoned cycle who how) = (cycle < 2 ^ 32) × WhoFits who
MarkFits (marks.Unpoisoned cycle who) = (cycle < 2 ^ 32) × WhoFits who

-- a frame
pub record FrameFits (frame : FrameLine) : Type 0 where
  pub place : PlaceFits frame.place
  pub bad : frame.bad.0 < 2 ^ 64
  pub weak : frame.weak.0 < 2 ^ 64
  pub marks : All MarkFits frame.marks

-- the items of a list fit, and there are not too many
pub record ListFits {A : Type 0} (Fits : A → Type 0) (most : ℕ) (items : List A) : Type 0 where
  pub each : All Fits items
  pub few : length items ≤ most

-- as many items as are still numbered from 0, and as many as a heading may tell
abbrev pub most_numbered : ℕ
most_numbered = 2 ^ 64

abbrev pub most_told : ℕ
most_told = 2 ^ 64 - 1

-- a report
pub record ReportFits (report : Report) : Type 0 where
  pub stop : IfSome report.stop StopFits
  pub count : report.count < 2 ^ 64
  pub files : ListFits (λ lost. lost < 2 ^ 64) most_numbered report.files
  pub frames : ListFits FrameFits most_numbered report.frames
  pub pages : ListFits (ListFits EntryFits most_told) most_numbered report.pages
  pub cpus : ListFits (ListFits CpuLineFits most_told) most_numbered report.cpus
