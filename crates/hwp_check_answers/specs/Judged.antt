-- What is said of a processor's lines of frames taken out of use.
use Rattle.std.specs.Prelude.{◌≡◌, ℕ, ◌<◌, ◌≤◌, List, Some, MatchBool, MatchOption, length, slice_get}
use Rattle.hwp_check_rules.specs.hwp_geom.declared.Cpu.{Cpu}
use Rattle.hwp_check_rules.specs.hwp_geom.declared.Frame.{Frame}
use Rattle.hwp_check_rules.specs.hwp_script_words.declared.Command.{Command}
use Rattle.hwp_check_rules.specs.hwp_script_words.declared.Script.{Script}
use Rattle.hwp_check_rules.specs.hwp_report_text.declared.CpuLine.{CpuLine}
use Rattle.hwp_check_rules.specs.hwp_report_text.declared.CpuLine.TheVariants as lines
use Rattle.hwp_check_rules.specs.hwp_report_text.declared.OfflinedLine.{OfflinedLine}
use Rattle.hwp_check_rules.specs.hwp_report_text.declared.Report.{Report}
use Rattle.hwp_check_rules.specs.hwp_law.Lines.{offlined_among}
use Rattle.hwp_check_rules.specs.hwp_law.Offlined.{due_of}
use Rattle.hwp_check_events.specs.declared.Misfits.{Misfits}
use Rattle.hwp_check_frames.specs.Dues.{who_at}
use Rattle.hwp_check_rules.specs.Answered.{IsBehindEvents, offlined_before}

-- the lines before a row, of so many commands, are such
abbrev pub AreSuch : (ℕ → OfflinedLine → Type 0) → ℕ → List CpuLine → ℕ → Type 0
AreSuch Such count rows n = (row : ℕ) (line : OfflinedLine) → row < n → slice_get rows row ≡ Some (lines.Offlined line) → line.seq < count → Such row line

-- this is the first that isn't
pub record IsFirstOther (Such : ℕ → OfflinedLine → Type 0) (count : ℕ) (rows : List CpuLine) (row : ℕ) : Type 0 where
  pub line : OfflinedLine
  pub there : slice_get rows row ≡ Some (lines.Offlined line)
  pub within : line.seq < count
  pub other : Such row line → ⊥
  pub before : AreSuch Such count rows row

-- the line tells the frame that is due there, by the lists of these, behind its command's event lines
pub record IsTold (dues : ℕ → List Frame) (rows : List CpuLine) (row : ℕ) (line : OfflinedLine) : Type 0 where
  pub frame : slice_get (dues line.seq) (offlined_before rows row line.seq) ≡ Some line.frame
  pub past : IsBehindEvents rows row line.seq

-- some command has fewer lines than frames that are due; or none has
pub record LacksOne (dues : ℕ → List Frame) (count : ℕ) (rows : List CpuLine) : Type 0 where
  pub seq : ℕ
  pub within : seq < count
  pub lacks : length (offlined_among rows seq) < length (dues seq)

abbrev pub LacksNone : (ℕ → List Frame) → ℕ → List CpuLine → Type 0
LacksNone dues count rows = (seq : ℕ) → seq < count → length (dues seq) ≤ length (offlined_among rows seq)

-- whether some lack, and the first that isn't as it should be, by the frames that are due of each of so many commands
pub record IsScanned (dues : ℕ → List Frame) (count : ℕ) (rows : List CpuLine) (found : Misfits) : Type 0 where
  pub lacks : MatchBool found.lacks (LacksOne dues count rows) (LacksNone dues count rows)
  pub wrong : MatchOption found.wrong (AreSuch (IsTold dues rows) count rows (length rows)) (IsFirstOther (IsTold dues rows) count rows)

-- the same by what the law says is due
abbrev pub IsJudged : Script → Report → Cpu → List Command → List CpuLine → Misfits → Type 0
IsJudged script report cpu list rows found = IsScanned (λ seq. due_of script report (who_at cpu seq)) (length list) rows found
