-- When the stop record of a report fits its lines and answers.
use Rattle.std.specs.Prelude.{◌≡◌, ℕ, ◌==◌, ◌&&◌, nat_lt, Bool, true, false, List, Some, IsSomeAnd, slice_get, take}
use Rattle.std.specs.List.{list_any}
use Rattle.hwp_script_words.specs.hwp_geom.declared.Cpu.{Cpu}
use Rattle.hwp_script_words.specs.hwp_geom.declared.Frame.{Frame}
use Rattle.hwp_script_words.specs.hwp_geom.declared.Who.{Who}
use Rattle.hwp_report_text.specs.hwp_banks.Addresses.{frame_at}
use Rattle.hwp_script_words.specs.declared.Command.{Command}
use Rattle.hwp_script_words.specs.declared.Command.TheVariants as commands
use Rattle.hwp_script_words.specs.declared.Script.{Script}
use Rattle.hwp_report_text.specs.declared.Answer.TheVariants as answers
use Rattle.hwp_report_text.specs.declared.CpuLine.{CpuLine}
use Rattle.hwp_report_text.specs.declared.EventLine.{EventLine}
use Rattle.hwp_report_text.specs.declared.Report.{Report}
use Rattle.hwp_report_text.specs.declared.Stop.{Stop}
use Rattle.hwp_report_text.specs.declared.StopCause.{StopCause}
use Rattle.hwp_report_text.specs.declared.StopCause.TheVariants as causes
use Rattle.hwp_report_text.specs.Acts.{is_panic, is_stopping}
use Rattle.hwp_law.specs.Commands.{arrival_of, command_at}
use Rattle.hwp_law.specs.Lines.{answer_of, events_of}
use Rattle.hwp_law.specs.Stops.{IsCause, StaysStopped}

-- One of the lines stopped the machine, by this bank, status and row, and none before it did so by a lower bank: the lines of a
-- machine check are in the order of the banks, and a later machine check of the same command has one line.
pub record IsStoppedBy (row bank status : ℕ) (lines : List EventLine) : Type 0 where
  pub place : ℕ
  pub line : EventLine
  pub there : slice_get lines place ≡ Some line
  pub stops : is_stopping line.acted ≡ true
  pub bank_is : line.bank ≡ bank
  pub status_is : line.status ≡ status
  pub row_is : line.row ≡ row
  pub lowest : list_any (λ (l : EventLine). is_stopping l.acted && nat_lt l.bank bank) (take place lines) ≡ false

-- the failure of the frame was a panic
abbrev pub is_panic_of : Frame → EventLine → Bool
is_panic_of frame line = is_panic line.acted && (frame_at line.addr == frame.0)

-- the command meets a panic of the frame: by its own failure, or by that of a bank
abbrev pub Panics : Report → Who → Frame → Command → Type 0
Panics report who frame (commands.Inject other) = other ≡ frame
Panics report who frame command = list_any (is_panic_of frame) (events_of report who) ≡ true

-- The command can stop the machine for this cause. An event: a line of the command says so of the lowest bank, and the machine
-- check arrived so. A panic: the machine doesn't recover, and the command met the failure.
abbrev pub CanStop : Script → Report → Who → Command → StopCause → Type 0
CanStop script report who command (causes.Severity row bank status mcg mode) =
    IsStoppedBy row bank status (events_of report who) × (arrival_of command ≡ record { mcg = mcg; mode = mode })
CanStop script report who command (causes.Panic frame) = (script.layout.recovery ≡ false) × Panics report who frame command
CanStop script report who command causes.Shutdown = IsCause command causes.Shutdown

-- the record's command can stop the machine for its cause, and answers `stopped`
pub record IsStopOf (script : Script) (report : Report) (stop : Stop) : Type 0 where
  pub cause : IsSomeAnd (command_at script stop.who) (λ (command : Command). CanStop script report stop.who command stop.cause)
  pub answered : answer_of report stop.who ≡ Some answers.Stopped

-- the stop record is that of a command that stopped the machine, and after its first `stopped` a processor has no other
-- answer; that the record is there where an answer is `stopped` is part of that answer's cause
pub record StopAgrees (script : Script) (report : Report) : Type 0 where
  pub caused : (stop : Stop) → report.stop ≡ Some stop → IsStopOf script report stop
  pub stays : (cpu : Cpu) (rows : List CpuLine) → slice_get report.cpus cpu.0 ≡ Some rows → StaysStopped rows
