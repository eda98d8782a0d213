-- What the report of a run shows beside the report law. The law judges a report by itself; these hold of every run.
use Rattle.std.specs.Prelude.{◌≡◌, ℕ, ◌≤◌, List, Option, Some, None, slice_get, option_and_then, option_map}
use Rattle.std.specs.Option.{option_map_or}
use Rattle.hwp_script_words.specs.hwp_geom.declared.Cpu.{Cpu}
use Rattle.hwp_script_words.specs.hwp_geom.declared.VSlot.{VSlot}
use Rattle.hwp_script_words.specs.hwp_geom.declared.Who.{Who}
use Rattle.hwp_report_text.specs.hwp_page.declared.At.{At}
use Rattle.hwp_report_text.specs.hwp_page.declared.Entry.{Entry}
use Rattle.hwp_report_text.specs.hwp_page.Refusals.{IsAway}
use Rattle.hwp_report_text.specs.hwp_page.Step.{IsOf}
use Rattle.hwp_script_words.specs.declared.Command.{Command}
use Rattle.hwp_script_words.specs.declared.Command.TheVariants as commands
use Rattle.hwp_script_words.specs.declared.Script.{Script}
use Rattle.hwp_report_text.specs.declared.Answer.TheVariants as answers
use Rattle.hwp_report_text.specs.declared.CpuLine.{CpuLine}
use Rattle.hwp_report_text.specs.declared.CpuLine.TheVariants as lines
use Rattle.hwp_report_text.specs.declared.Report.{Report}
use Rattle.hwp_report_text.specs.declared.Stop.{Stop}
use Rattle.hwp_law.specs.Commands.{command_at}
use Rattle.hwp_law.specs.Acting.{acting_script, copied_at}
use Rattle.hwp_law.specs.Copies.{ended_through}
use Rattle.hwp_law.specs.States.{HadState, IsInWindow}

-- the stop's command is the first of its processor that answers `stopped`
abbrev pub StopsFirst : List (List CpuLine) → Option Stop → Type 0
StopsFirst cpus stop =
    (s : Stop) (rows : List CpuLine) (i m : ℕ) → stop ≡ Some s → slice_get cpus s.who.cpu.0 ≡ Some rows → slice_get rows i ≡ Some (lines.Answer m answers.Stopped) → s.who.seq ≤ m

-- the translation of an access
abbrev pub slot_of : Command → Option VSlot
slot_of (commands.Load thread slot line) = Some slot
slot_of (commands.Fetch thread slot line) = Some slot
slot_of (commands.KLoad thread slot line) = Some slot
slot_of (commands.Store thread slot line word) = Some slot
slot_of _ = None

-- after some number of entries within the command's window, the translation's page was in no frame
pub record WasOut (script : Script) (pages : List (List Entry)) (rows : List CpuLine) (who : Who) (slot : VSlot) : Type 0 where
  pub at : At
  pub of_slot : IsOf script.layout at.page slot
  pub out : HadState script.layout pages at IsAway
  pub window : IsInWindow pages rows who at

-- the translation of an access, or where it copies a page first, of the load or the store that ended it
abbrev pub slot_ended : Script → (Who → Option VSlot) → Report → Who → Option VSlot
slot_ended script copies report who =
    option_map (λ (slot : VSlot). option_map_or (λ (from : VSlot). ended_through script.layout report who from slot) (copies who) slot) (option_and_then slot_of (command_at script who))

-- an access answers `noframe` only where its page was in no frame
abbrev pub WereOut : Script → (Who → Option VSlot) → Report → Type 0
WereOut script copies report =
    (cpu : Cpu) (rows : List CpuLine) (i seq : ℕ) (slot : VSlot) → slice_get report.cpus cpu.0 ≡ Some rows → slice_get rows i ≡ Some (lines.Answer seq answers.NoFrame)
    → slot_ended script copies report (record { cpu = cpu; seq = seq }) ≡ Some slot → WasOut script report.pages rows (record { cpu = cpu; seq = seq }) slot

-- the report is of a run of the script, as far as it shows
pub record IsOfRun (script : Script) (report : Report) : Type 0 where
  pub stops_first : StopsFirst report.cpus report.stop
  pub were_out : WereOut (acting_script script report) (copied_at script report) report
