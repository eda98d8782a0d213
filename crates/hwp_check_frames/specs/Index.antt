-- What is looked up of a report while its records are judged.
use Rattle.std.specs.Prelude.{◌≡◌, ℕ, ◌<◌, Bool, true, false, Option, Some, None, length, slice_index_or}
use Rattle.hwp_check_rules.specs.hwp_report_text.declared.Acted.{Acted}
use Rattle.hwp_check_rules.specs.hwp_report_text.declared.Report.{Report}
use Rattle.hwp_check_rules.specs.hwp_law.Lines.{marks_of}
use Rattle.hwp_check_frames.specs.Beside.{AreBeside}
use Rattle.hwp_check_frames.specs.Given.{AreGiven}
use Rattle.hwp_check_frames.specs.MarkScans.{NoneBeyond, SomeBeyond}
use Rattle.hwp_check_frames.specs.Said.{AreNoted, said_below}
use Rattle.hwp_check_frames.specs.declared.index.Index.{Index}
use Rattle.hwp_check_frames.specs.declared.noted.Noted.{Noted}

abbrev pub acted_in : Option Noted → Option Acted
acted_in None = None
acted_in (Some noted) = Some noted.acted

pub record IsIndex (report : Report) (index : Index) : Type 0 where
  pub given : AreGiven report index.given
  pub beside : AreBeside report index.beside
  pub noted : AreNoted (said_below (length report.cpus) report) index.said.many index.said.rows
  pub long : length index.beyond.items ≡ length report.frames
  pub some : (frame : ℕ) (d : Bool) → frame < length report.frames → slice_index_or index.beyond.items frame d ≡ true → SomeBeyond report (marks_of report frame) frame
  pub none : (frame : ℕ) (d : Bool) → frame < length report.frames → slice_index_or index.beyond.items frame d ≡ false → NoneBeyond report (marks_of report frame) frame (length report.cpus)
