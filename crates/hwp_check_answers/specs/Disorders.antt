-- The first line of a report where a processor's lines are not in place, or a command has no answer.
use Rattle.std.specs.Prelude.{◌≡◌, ◌⊎◌, ℕ, ◌+◌, List, Some, slice_get}
use Rattle.hwp_check_evidence.specs.hwp_script_words.declared.Command.{Command}
use Rattle.hwp_check_evidence.specs.hwp_script_words.declared.Script.{Script}
use Rattle.hwp_check_evidence.specs.hwp_report_text.declared.CpuLine.{CpuLine}
use Rattle.hwp_check_evidence.specs.hwp_report_text.declared.Report.{Report}
use Rattle.hwp_check_rules.specs.Answered.{IsInPlace}
use Rattle.hwp_check_rules.specs.AnswerFaults.{IsUnanswered}
use Rattle.hwp_check_answers.specs.Placing.{AreInPlace, HasNone, HaveAnswers, IsFirstOut}
use Rattle.hwp_check_rules.specs.Standing.{row_line}

-- a processor's lines are in place, and each of its commands has an answer
pub record AreOrderly (commands : List Command) (rows : List CpuLine) : Type 0 where
  pub in_place : AreInPlace commands rows
  pub each : HaveAnswers commands rows

-- so it is with each processor
abbrev pub AreAllOrderly : Script → Report → Type 0
AreAllOrderly script report =
    (cpu : ℕ) (commands : List Command) (rows : List CpuLine) → slice_get script.lists cpu ≡ Some commands → slice_get report.cpus cpu ≡ Some rows → AreOrderly commands rows

-- a line is not in its place
pub record IsMisplaced (script : Script) (report : Report) (line : ℕ) : Type 0 where
  pub cpu : ℕ
  pub commands : List Command
  pub rows : List CpuLine
  pub row : ℕ
  pub shown : CpuLine
  pub of_script : slice_get script.lists cpu ≡ Some commands
  pub of_report : slice_get report.cpus cpu ≡ Some rows
  pub there : slice_get rows row ≡ Some shown
  pub line_is : line ≡ row_line report cpu row
  pub out : IsInPlace commands rows row shown → ⊥

-- the lines of such faults
abbrev pub IsDisorder : Script → Report → ℕ → Type 0
IsDisorder script report line = IsUnanswered script report line ⊎ IsMisplaced script report line

-- the first one of a processor whose heading stands at `heading`
abbrev pub IsFirstDisorder : List Command → List CpuLine → ℕ → ℕ → Type 0
IsFirstDisorder commands rows heading line =
    ((seq : ℕ) × HasNone commands rows seq × (line ≡ heading)) ⊎ (HaveAnswers commands rows × (row : ℕ) × IsFirstOut commands rows row × (line ≡ heading + 1 + row))
