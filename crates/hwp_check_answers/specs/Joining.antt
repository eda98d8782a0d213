-- The lines that break the rule of answers: those of answers and those of events.
use Rattle.std.specs.Prelude.{◌≡◌, ◌⊎◌, ℕ, true, List, Some, slice_get, Option}
use Rattle.hwp_check_evidence.specs.hwp_geom.declared.Cpu.{Cpu}
use Rattle.hwp_check_evidence.specs.hwp_script_words.declared.Command.{Command}
use Rattle.hwp_check_evidence.specs.hwp_script_words.declared.Script.{Script}
use Rattle.hwp_check_evidence.specs.hwp_report_text.declared.CpuLine.{CpuLine}
use Rattle.hwp_check_evidence.specs.hwp_report_text.declared.Report.{Report}
use Rattle.hwp_check_evidence.specs.hwp_law.Events.{AreEvents}
use Rattle.hwp_check_rules.specs.AnswerFaults.{IsEventWrong, LacksEvents}
use Rattle.hwp_check_rules.specs.Answered.{is_event}
use Rattle.hwp_check_rules.specs.hwp_law.Lines.{seq_of}
use Rattle.hwp_check_rules.specs.Standing.{row_line}
use Rattle.hwp_check_answers.specs.Facts.{at_number}
use Rattle.hwp_check_evidence.specs.hwp_geom.declared.VSlot.{VSlot}
use Rattle.hwp_check_evidence.specs.hwp_geom.declared.Who.{Who}

-- an event line that is not the one that its command's machine checks ask at its place
pub record IsWrongEvent (script : Script) (copies : Who → Option VSlot) (report : Report) (line : ℕ) : Type 0 where
  pub cpu : Cpu
  pub commands : List Command
  pub rows : List CpuLine
  pub row : ℕ
  pub shown : CpuLine
  pub command : Command
  pub of_script : slice_get script.lists cpu.0 ≡ Some commands
  pub of_report : slice_get report.cpus cpu.0 ≡ Some rows
  pub there : slice_get rows row ≡ Some shown
  pub event : is_event shown ≡ true
  pub made : slice_get commands (seq_of shown) ≡ Some command
  pub line_is : line ≡ row_line report cpu.0 row
  pub wrong : IsEventWrong script copies report rows row (at_number cpu (seq_of shown)) command

-- such a line, or the heading of a processor where a command has fewer event lines than its machine checks ask
abbrev pub IsEventLine : Script → (Who → Option VSlot) → Report → ℕ → Type 0
IsEventLine script copies report line = LacksEvents script copies report line ⊎ IsWrongEvent script copies report line

-- such a line breaks the rule
abbrev pub BreakEvents : Script → (Who → Option VSlot) → Report → Type 0
BreakEvents script copies report = AreEvents script copies report → (line : ℕ) → IsEventLine script copies report line → ⊥
