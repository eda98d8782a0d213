-- When the stop record of a report fits its answers.
use Rattle.std.specs.Prelude.{◌≡◌, ℕ, ◌<◌, List, Option, Some, slice_get, IsSomeAnd}
use Rattle.hwp_script_words.specs.hwp_geom.declared.Cpu.{Cpu}
use Rattle.hwp_script_words.specs.declared.Command.{Command}
use Rattle.hwp_script_words.specs.declared.Command.TheVariants as commands
use Rattle.hwp_script_words.specs.declared.Script.{Script}
use Rattle.hwp_report_text.specs.declared.Answer.{Answer}
use Rattle.hwp_report_text.specs.declared.Answer.TheVariants as answers
use Rattle.hwp_report_text.specs.declared.CpuLine.{CpuLine}
use Rattle.hwp_report_text.specs.declared.CpuLine.TheVariants as lines
use Rattle.hwp_report_text.specs.declared.Stop.{Stop}
use Rattle.hwp_report_text.specs.declared.StopCause.{StopCause}
use Rattle.hwp_report_text.specs.declared.StopCause.TheVariants as causes
use Rattle.hwp_law.specs.Commands.{command_at}

-- the command can stop the machine for this cause
abbrev pub IsCause : Command → StopCause → Type 0
IsCause commands.RaiseNested causes.Shutdown = Unit {0}
IsCause _ _ = ⊥

-- the record's command can stop the machine for its cause, and answers `stopped`
pub record IsStop (script : Script) (cpus : List (List CpuLine)) (stop : Stop) : Type 0 where
  pub cause : IsSomeAnd (command_at script stop.who) (λ (command : Command). IsCause command stop.cause)
  pub rows : List CpuLine
  pub row : ℕ
  pub of_cpu : slice_get cpus stop.who.cpu.0 ≡ Some rows
  pub answered : slice_get rows row ≡ Some (lines.Answer stop.who.seq answers.Stopped)

-- after its first `stopped` a processor has no other answer
abbrev pub StaysStopped : List CpuLine → Type 0
StaysStopped rows =
    (i j m n : ℕ) (answer : Answer) → i < j → slice_get rows i ≡ Some (lines.Answer m answers.Stopped) → slice_get rows j ≡ Some (lines.Answer n answer) → answer ≡ answers.Stopped

-- the stop record is that of a command that stopped the machine; that it is there where an answer is `stopped` is part of
-- that answer's cause
pub record StopFits (script : Script) (cpus : List (List CpuLine)) (stop : Option Stop) : Type 0 where
  pub caused : (s : Stop) → stop ≡ Some s → IsStop script cpus s
  pub stays : (cpu : Cpu) (rows : List CpuLine) → slice_get cpus cpu.0 ≡ Some rows → StaysStopped rows
