-- The event lines of one machine check.
use Rattle.std.specs.Prelude.{◌≡◌, ◌⊎◌, ℕ, nat_le, Bool, true, not, ◌||◌, List, [], ◌∷◌, None, MatchBool, Contains}
use Rattle.hwp_script_words.specs.hwp_geom.declared.Who.{Who}
use Rattle.hwp_report_text.specs.hwp_banks.declared.Event.{Event}
use Rattle.hwp_report_text.specs.hwp_banks.Addresses.{frame_at}
use Rattle.hwp_report_text.specs.hwp_severity.declared.Severity.{Severity}
use Rattle.hwp_report_text.specs.hwp_severity.declared.Severity.TheVariants as severities
use Rattle.hwp_report_text.specs.hwp_severity.Graded.{graded}
use Rattle.hwp_script_words.specs.declared.Script.{Script}
use Rattle.hwp_report_text.specs.declared.Acted.{Acted}
use Rattle.hwp_report_text.specs.declared.Acted.TheVariants as acts
use Rattle.hwp_report_text.specs.declared.EventLine.{EventLine}
use Rattle.hwp_report_text.specs.declared.MarkLine.{MarkLine}
use Rattle.hwp_report_text.specs.declared.Report.{Report}
use Rattle.hwp_report_text.specs.hwp_banks.Banks.{Banks, held_from}
use Rattle.hwp_report_text.specs.Acts.{is_panic}
use Rattle.hwp_report_text.specs.hwp_severity.declared.Arrival.{Arrival}
use Rattle.hwp_report_text.specs.hwp_severity.Handling.{has_stop, severity_of}
use Rattle.hwp_law.specs.Lines.{marks_of}
use Rattle.hwp_law.specs.Records.{WasPoisoned, hardware_marks, mark_results}

-- the event of a bank was a failure, and it came to a result: that of a mark that the command made on the frame
abbrev pub IsResult : List MarkLine → Who → Acted → Type 0
IsResult list who acted = Contains (mark_results (hardware_marks who list)) acted

-- what is done about an event that is a memory failure: the first of these that applies. It is held back behind a stop or a
-- panic of the same machine check, it is outside the machine, it is a panic where the machine doesn't recover; else the frame
-- was poisoned already, or the failure came to its result.
abbrev pub IsFailureAct : Script → Report → Who → Bool → ℕ → Acted → Type 0
IsFailureAct script report who held frame acted =
    MatchBool held (acted ≡ acts.Held)
    (MatchBool (nat_le script.layout.frames frame) (acted ≡ acts.Outside)
    (MatchBool (not script.layout.recovery) (acted ≡ acts.Panic)
    (((acted ≡ acts.Already) × WasPoisoned (marks_of report frame) who true) ⊎ IsResult (marks_of report frame) who acted)))

-- what is done about an event of this severity
abbrev pub IsAct : Script → Report → Who → Bool → ℕ → Severity → Acted → Type 0
IsAct script report who held frame severities.Stop acted = acted ≡ acts.Stop
IsAct script report who held frame severities.None acted = acted ≡ acts.None
IsAct script report who held frame severities.Keep acted = acted ≡ acts.Keep
IsAct script report who held frame severities.Deferred acted = acted ≡ acts.Deferred
IsAct script report who held frame severities.Logged acted = acted ≡ acts.Logged
IsAct script report who held frame severities.Optional acted = IsFailureAct script report who held frame acted
IsAct script report who held frame severities.Required acted = IsFailureAct script report who held frame acted

-- the line tells what the bank held, the row that graded it and what was done about it
pub record IsLineOf (script : Script) (report : Report) (who : Who) (how : Arrival) (held : Bool) (bank : ℕ) (event : Event) (line : EventLine) : Type 0 where
  pub bank_is : line.bank ≡ bank
  pub status : line.status ≡ event.status.0
  pub addr : line.addr ≡ event.addr
  pub misc : line.misc ≡ event.misc
  pub row : line.row ≡ (graded event.status how.mcg how.mode).row
  pub act : IsAct script report who held (frame_at event.addr) (severity_of how event) line.acted

-- a line for each bank that holds something, in the order of the banks; `held` says that failures are held back
abbrev pub AreLinesOf : Script → Report → Who → Arrival → Bool → List (ℕ × Event) → List EventLine → Type 0
AreLinesOf script report who how held [] [] = Unit {0}
AreLinesOf script report who how held (b ∷ bs) (l ∷ ls) = IsLineOf script report who how held b.0 b.1 l × AreLinesOf script report who how (held || is_panic l.acted) bs ls
AreLinesOf script report who how held _ _ = ⊥

-- these are the lines of one machine check that finds the banks so
abbrev pub IsCheck : Script → Report → Who → Arrival → Banks → List EventLine → Type 0
IsCheck script report who how banks lines = AreLinesOf script report who how (has_stop how banks) (held_from 0 banks) lines
