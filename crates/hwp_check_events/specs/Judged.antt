-- What is said of the event lines of a command.
use Rattle.std.specs.Prelude.{◌≡◌, ℕ, ◌<◌, ◌==◌, cond, List, Option, None, MatchBool, is_some, length, slice_index_or}
use Rattle.std.specs.Int.{from_bool}
use Rattle.hwp_banks.specs.hwp_geom.Limits.{line_limit}
use Rattle.hwp_banks.specs.hwp_geom.declared.Frame.{Frame}
use Rattle.hwp_banks.specs.hwp_geom.declared.Who.{Who}
use Rattle.hwp_banks.specs.declared.Event.{Event}
use Rattle.hwp_banks.specs.declared.Origin.{Origin}
use Rattle.hwp_law.specs.hwp_script_words.declared.Command.{Command}
use Rattle.hwp_law.specs.hwp_script_words.declared.Script.{Script}
use Rattle.hwp_law.specs.hwp_report_text.declared.Report.{Report}
use Rattle.hwp_law.specs.hwp_severity.declared.Arrival.{Arrival}
use Rattle.hwp_law.specs.hwp_report_text.declared.EventLine.{EventLine}
use Rattle.hwp_law.specs.Events.{is_raised}
use Rattle.hwp_law.specs.Lines.{answer_of}
use Rattle.hwp_check_event_line.specs.Accesses.{IsAccessLine, IsRaisedLine, asked_by_access, access_of}
use Rattle.hwp_check_event_line.specs.Firsts.{IsScanned}
use Rattle.hwp_check_event_line.specs.Misfits.{IsRightLine, Lacks, commands_before, course_of, leaves}
use Rattle.hwp_check_event_line.specs.Scrubs.{after_all, lacking, lowest, reach_from}
use Rattle.hwp_check_event_line.specs.Scrubbing.{IsRightIn}
use Rattle.hwp_check_event_line.specs.declared.Reach.{Reach}
use Rattle.hwp_check_event_line.specs.declared.Faults.{Faults}
use Rattle.hwp_banks.specs.hwp_geom.declared.VSlot.{VSlot}

-- where a command found `raw` in bank 1, and leaves `left` there: the first of its lines that is wrong, and whether it lacks some
pub record IsJudged (script : Script) (copies : Who → Option VSlot) (report : Report) (who : Who) (command : Command) (raw left : Option Event) (lines : List EventLine) (faults : Faults) : Type 0 where
  pub scanned : IsScanned (IsRightLine script copies report who command raw lines) lines faults.wrong
  pub lacks : MatchBool faults.lacks (Lacks script copies report who command raw lines) (Lacks script copies report who command raw lines → ⊥)
  pub left_is : left ≡ leaves script copies report who command raw lines

-- the same of an access whose machine checks arrive so, and of a scrub
pub record IsAccessJudged (script : Script) (report : Report) (who : Who) (how : Arrival) (origin : Origin) (at : List ℕ) (raw left : Option Event) (lines : List EventLine) (faults : Faults) : Type 0 where
  pub scanned : IsScanned (IsAccessLine script report who how (access_of origin at raw) lines) lines faults.wrong
  pub lacks : MatchBool faults.lacks (length lines < asked_by_access (access_of origin at raw)) (length lines < asked_by_access (access_of origin at raw) → ⊥)
  pub left_is : left ≡ cond (length at == 0) raw None

-- how far a scrub comes
abbrev pub end_of : Script → Report → Who → Frame → Frame → Option Event → List EventLine → Reach
end_of script report who first last raw lines = after_all report (course_of script report who first last) (reach_from first raw) lines

pub record IsScrubJudged (script : Script) (report : Report) (who : Who) (how : Arrival) (first last : Frame) (raw left : Option Event) (lines : List EventLine) (faults : Faults) : Type 0 where
  pub scanned : IsScanned (IsRightIn script report who how (course_of script report who first last) (reach_from first raw) lines) lines faults.wrong
  pub lacks :
      MatchBool faults.lacks ((end_of script report who first last raw lines).strays < lacking (course_of script report who first last) (end_of script report who first last raw lines))
      ((end_of script report who first last raw lines).strays < lacking (course_of script report who first last) (end_of script report who first last raw lines) → ⊥)
  pub left_is : left ≡ (end_of script report who first last raw lines).raw

-- the same of a raise, by its answer
pub record IsRaiseJudged (script : Script) (report : Report) (who : Who) (how : Arrival) (raw left : Option Event) (lines : List EventLine) (faults : Faults) : Type 0 where
  pub scanned : IsScanned (λ (number : ℕ) (line : EventLine). MatchBool (is_raised (answer_of report who) lines) (IsRaisedLine script report who how raw number line) ⊥) lines faults.wrong
  pub lacks :
      MatchBool faults.lacks (length lines < cond (is_raised (answer_of report who) lines) (from_bool (is_some raw)) 0)
      (length lines < cond (is_raised (answer_of report who) lines) (from_bool (is_some raw)) 0 → ⊥)
  pub left_is : left ≡ cond (is_raised (answer_of report who) lines) None raw

-- the table has the lowest lines that earlier commands of the processor marked
abbrev pub IsTable : Script → Who → List ℕ → Type 0
IsTable script who table = (place : ℕ) → slice_index_or table place line_limit ≡ lowest (commands_before script who) place
