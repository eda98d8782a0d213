-- The first wrong answer of a report, as far as its lines are in place.
use Rattle.std.specs.Prelude.{◌≡◌, ◌⊎◌, ℕ, ◌+◌, ◌≤◌, List, Some, length, slice_get, take, Option}
use Rattle.hwp_check_evidence.specs.hwp_geom.declared.Cpu.{Cpu}
use Rattle.hwp_check_evidence.specs.hwp_script_words.declared.Command.{Command}
use Rattle.hwp_check_evidence.specs.hwp_script_words.declared.Script.{Script}
use Rattle.hwp_check_evidence.specs.hwp_report_text.declared.CpuLine.{CpuLine}
use Rattle.hwp_check_evidence.specs.hwp_report_text.declared.Report.{Report}
use Rattle.hwp_check_rules.specs.Standing.{row_line}
use Rattle.hwp_check_answers.specs.Disorders.{AreAllOrderly, IsDisorder}
use Rattle.hwp_check_rules.specs.hwp_law.Lines.{seq_of}
use Rattle.hwp_check_answers.specs.Facts.{AreGoodRows, IsBadOf, IsFirstBad}
use Rattle.hwp_check_answers.specs.Placing.{FirstInPlace, IsFirstOut}
use Rattle.hwp_check_evidence.specs.hwp_geom.declared.VSlot.{VSlot}
use Rattle.hwp_check_evidence.specs.hwp_geom.declared.Who.{Who}

-- so many lines of a processor are in place, and the next isn't, if there is one
pub record IsCut (commands : List Command) (rows : List CpuLine) (end : ℕ) : Type 0 where
  pub within : end ≤ length rows
  pub places : FirstInPlace commands rows end
  pub whole : (end ≡ length rows) ⊎ IsFirstOut commands rows end

-- nothing is wrong about what they say; or this is the line of the first that has something wrong about it, where the
-- processor's heading stands at `heading`
pub record AreSound (script : Script) (copies : Who → Option VSlot) (report : Report) (cpu : Cpu) (commands : List Command) (rows : List CpuLine) : Type 0 where
  pub end : ℕ
  pub cut : IsCut commands rows end
  pub good : AreGoodRows script copies report cpu commands rows end

pub record IsUnsound (script : Script) (copies : Who → Option VSlot) (report : Report) (cpu : Cpu) (commands : List Command) (rows : List CpuLine) (heading line : ℕ) : Type 0 where
  pub end : ℕ
  pub row : ℕ
  pub cut : IsCut commands rows end
  pub bad : IsFirstBad script copies report cpu commands rows end row
  pub line_is : line ≡ heading + 1 + row

-- so it is with each processor
abbrev pub AreAllSound : Script → (Who → Option VSlot) → Report → Type 0
AreAllSound script copies report = (cpu : Cpu) (commands : List Command) (rows : List CpuLine) → slice_get script.lists cpu.0 ≡ Some commands → slice_get report.cpus cpu.0 ≡ Some rows → AreSound script copies report cpu commands rows

-- a line of a command that has something wrong about it: an answer, or what came of a frame that was taken out of use
pub record IsWrongLine (script : Script) (copies : Who → Option VSlot) (report : Report) (line : ℕ) : Type 0 where
  pub cpu : Cpu
  pub commands : List Command
  pub rows : List CpuLine
  pub row : ℕ
  pub shown : CpuLine
  pub command : Command
  pub of_script : slice_get script.lists cpu.0 ≡ Some commands
  pub of_report : slice_get report.cpus cpu.0 ≡ Some rows
  pub there : slice_get rows row ≡ Some shown
  pub made : slice_get commands (seq_of shown) ≡ Some command
  pub line_is : line ≡ row_line report cpu.0 row
  pub wrong : IsBadOf script copies report cpu (take row rows) command shown

-- a line that is out of place stands before
pub record IsBehind (script : Script) (report : Report) (line : ℕ) : Type 0 where
  pub other : ℕ
  pub disorder : IsDisorder script report other
  pub before : other ≤ line

-- the line is that of a wrong line, and of none before, but for those behind a line that is out of place
pub record IsFirstAnswer (script : Script) (copies : Who → Option VSlot) (report : Report) (line : ℕ) : Type 0 where
  pub at : IsWrongLine script copies report line
  pub first : (other : ℕ) → IsWrongLine script copies report other → (line ≤ other) ⊎ IsBehind script report other

-- each line is in its place, each command has an answer, and nothing is wrong about any
pub record AreAllRight (script : Script) (copies : Who → Option VSlot) (report : Report) : Type 0 where
  pub orderly : AreAllOrderly script report
  pub good : (cpu : Cpu) (commands : List Command) (rows : List CpuLine) → slice_get script.lists cpu.0 ≡ Some commands → slice_get report.cpus cpu.0 ≡ Some rows → AreGoodRows script copies report cpu commands rows (length rows)

-- a line that is out of place, the heading of a processor where a command has no answer, or a wrong line
abbrev pub IsAnswerLine : Script → (Who → Option VSlot) → Report → ℕ → Type 0
IsAnswerLine script copies report line = IsDisorder script report line ⊎ IsWrongLine script copies report line
