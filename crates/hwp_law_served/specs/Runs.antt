-- What is shown of a run, from which the law of its report follows.
use Rattle.std.specs.Prelude.{◌≡◌, ℕ, ◌+◌, ◌*◌, ◌<◌, ◌==◌, ◌&&◌, not, Bool, List, [], ◌∷◌, Option, Some, length, find, option_map, option_and_then, slice_get, count_by, AllPairs}
use Rattle.std.specs.Int.{from_bool}
use Rattle.std.specs.List.Sorted.{IsNonDecreasingBy, IsPermutation}
use Rattle.std.specs.Option.{option_or}
use Rattle.hwp_law.specs.hwp_geom.declared.Cpu.{Cpu}
use Rattle.hwp_law.specs.hwp_geom.declared.Frame.{Frame}
use Rattle.hwp_law.specs.hwp_geom.declared.Page.{Page}
use Rattle.hwp_law.specs.hwp_geom.declared.Thread.{Thread}
use Rattle.hwp_law.specs.hwp_geom.declared.VSlot.{VSlot}
use Rattle.hwp_law.specs.hwp_geom.declared.Who.{Who}
use Rattle.hwp_law.specs.hwp_page.Step.{IsOf}
use Rattle.hwp_plain.specs.hwp_core_rule.declared.State.{State}
use Rattle.hwp_plain.specs.hwp_core_rule.Opening.{opening}
use Rattle.hwp_plain.specs.hwp_core_rule.Rule.{Holds}
use Rattle.hwp_plain.specs.hwp_core_rule.Boards.{AreSeated, Played, view_of}
use Rattle.hwp_plain.specs.hwp_core_rule.Ranks.{Pending, words_at}
use Rattle.hwp_law.specs.hwp_script_words.declared.Command.{Command}
use Rattle.hwp_law.specs.hwp_script_words.declared.Command.TheVariants as commands
use Rattle.hwp_law.specs.hwp_script_words.declared.Script.{Script}
use Rattle.hwp_law.specs.hwp_report_text.declared.CpuLine.{CpuLine}
use Rattle.hwp_law.specs.hwp_report_text.declared.FrameLine.{FrameLine}
use Rattle.hwp_law.specs.hwp_report_text.declared.MarkLine.{MarkLine}
use Rattle.hwp_law.specs.hwp_report_text.declared.Report.{Report}
use Rattle.hwp_law.specs.hwp_report_text.declared.Stop.{Stop}
use Rattle.hwp_law.specs.hwp_report_text.declared.StopCause.{StopCause}
use Rattle.hwp_law.specs.hwp_report_text.declared.StopCause.TheVariants as causes
use Rattle.hwp_law.specs.hwp_report_text.Acts.{is_panic, is_stopping}
use Rattle.hwp_law.specs.Commands.{arrival_of, command_at}
use Rattle.hwp_law.specs.hwp_severity.declared.Arrival.{Arrival}
use Rattle.hwp_law.specs.Records.{cycle_in, is_poisoning}
use Rattle.hwp_law_served.specs.Ends.{EndsWith}
use Rattle.hwp_law_served.specs.Turns.{Leads}
use Rattle.hwp_cpu_row.specs.declared.Row.{Row}
use Rattle.hwp_cpu_row.specs.hwp_claim.declared.EventOutcome.{EventOutcome}
use Rattle.hwp_cpu_row.specs.hwp_claim.Told.{frame_of}
use Rattle.hwp_law_served.specs.Rows.{Note, lines_from, notes_from, record_of}
use Rattle.hwp_law_served.specs.Served.{HasServed, IsServed}

-- the processors have served their commands: the rows of each are those of its list, by what its seat knows, and its lines in the
-- report are those of its rows
abbrev pub AreServed : Script → (Who → Option VSlot) → (Cpu → ℕ) → State → List (List Row) → List (List CpuLine) → Type 0
AreServed script copies seat last rows cpus =
    (cpu : Cpu) (list : List Command) (own : List Row) → slice_get script.lists cpu.0 ≡ Some list → slice_get rows cpu.0 ≡ Some own
    → IsServed script.layout copies (view_of last (seat cpu)) cpu list own × (slice_get cpus cpu.0 ≡ Some (lines_from 0 own))

-- the same of the lists of a script, of each command as its processor acted on it
abbrev pub HaveServed : Script → (Cpu → ℕ) → State → List (List Row) → List (List CpuLine) → Type 0
HaveServed script seat last rows cpus =
    (cpu : Cpu) (list : List Command) (own : List Row) → slice_get script.lists cpu.0 ≡ Some list → slice_get rows cpu.0 ≡ Some own
    → HasServed script.layout (view_of last (seat cpu)) cpu list own × (slice_get cpus cpu.0 ≡ Some (lines_from 0 own))

-- what the processors noted, from number n on
abbrev pub notes_of : ℕ → List (List Row) → List (List Note)
notes_of n [] = []
notes_of n (own ∷ rows) = notes_from (record { 0 = n }) 0 own ∷ notes_of (n + 1) rows

-- a report is of its script's version, and both have as many members as the layout says
pub record HasLengths (script : Script) (report : Report) (rows : List (List Row)) : Type 0 where
  pub version : report.version ≡ script.layout.version
  pub lists : length script.lists ≡ script.layout.cpus
  pub cpus : length report.cpus ≡ script.layout.cpus
  pub rows_fit : length rows ≡ script.layout.cpus
  pub frames : length report.frames ≡ script.layout.frames
  pub pages : length report.pages ≡ length script.layout.pages

-- the notes of a frame that pass a test
abbrev pub notes_on : Frame → (MarkLine → Bool) → List Note → ℕ
notes_on frame test own = count_by (λ (n : Note). (n.0.0 == frame.0) && test n.1) own

-- the place of a mark among those of its frame: each cycle begins with a poisoning
abbrev pub place_in : MarkLine → ℕ
place_in m = 2 * cycle_in m + from_bool (not (is_poisoning m))

-- the same lines, by their places
pub record AreSorted (lines list : List MarkLine) : Type 0 where
  pub moved : IsPermutation lines list
  pub rising : IsNonDecreasingBy place_in list

-- the record of a frame is what processors noted of it, by rising place
pub record IsRecord (notes : List (List Note)) (frame : Frame) (list : List MarkLine) : Type 0 where
  pub noted : IsPermutation (record_of frame notes) list
  pub rising : AllPairs (λ (a b : MarkLine). place_in a < place_in b) list

abbrev pub AreRecords : List (List Note) → Report → Type 0
AreRecords notes report = (frame : Frame) (line : FrameLine) → slice_get report.frames frame.0 ≡ Some line → IsRecord notes frame line.marks

-- the cause of a stop by an event of a machine check that arrived so: the first event that is graded as stopping the machine, and
-- else the first whose failure is a panic
abbrev pub severity_cause : Arrival → EventOutcome → StopCause
severity_cause how t = causes.Severity t.held.grade.row t.held.bank t.held.event.status.0 how.mcg how.mode

abbrev pub panic_cause : EventOutcome → StopCause
panic_cause t = causes.Panic (frame_of t.held)

abbrev pub told_cause : Arrival → List EventOutcome → Option StopCause
told_cause how told =
    option_or (option_map (severity_cause how) (find (λ (t : EventOutcome). is_stopping t.acted) told)) (option_map panic_cause (find (λ (t : EventOutcome). is_panic t.acted) told))

-- a nested machine check shuts the machine down, and a failure that a command brings about itself stops it by a panic
abbrev pub IsCauseOf : Command → List EventOutcome → StopCause → Type 0
IsCauseOf commands.RaiseNested told cause = cause ≡ causes.Shutdown
IsCauseOf (commands.Inject frame) told cause = cause ≡ causes.Panic frame
IsCauseOf command told cause = told_cause (arrival_of command) told ≡ Some cause

-- the row of a command
abbrev pub row_at : List (List Row) → Who → Option Row
row_at rows who = option_and_then (λ (own : List Row). slice_get own who.seq) (slice_get rows who.cpu.0)

pub record HasStopCause (script : Script) (rows : List (List Row)) (stop : Stop) : Type 0 where
  pub command : Command
  pub row : Row
  pub command_is : command_at script stop.who ≡ Some command
  pub row_is : row_at rows stop.who ≡ Some row
  pub cause : IsCauseOf command row.told stop.cause

-- no store copies a page to itself
abbrev pub AreApart : Script → (Who → Option VSlot) → Type 0
AreApart script copies =
    (who : Who) (from to : VSlot) (thread : Thread) (line word : ℕ) (page : Page) → copies who ≡ Some from → command_at script who ≡ Some (commands.Store thread to line word)
    → IsOf script.layout page from → IsOf script.layout page to → ⊥

-- The turns start from the board at opening, each is a move that keeps the frame rule. On the last board each processor's seat
-- has served its commands and each failure of a frame is ended, and the report is of that board, of the processors' rows and of what
-- they noted. Its commands are those that the processors acted on, some of which copy first.
pub record IsRunOf (script : Script) (copies : Who → Option VSlot) (seat : Cpu → ℕ) (turns : List Played) (last : State) (report : Report) : Type 0 where
  pub rule : Holds script.layout (opening script.layout)
  pub moves : Leads script.layout (opening script.layout) turns last
  pub seated : AreSeated script.layout last seat
  pub settled : (frame : Frame) (cycle : ℕ) → Pending (words_at script.layout last) frame cycle → ⊥
  pub rows : List (List Row)
  pub served : AreServed script copies seat last rows report.cpus
  pub apart : AreApart script copies
  pub records : AreRecords (notes_of 0 rows) report
  pub ends : EndsWith script.layout last report
  pub lengths : HasLengths script report rows
  pub cause : (stop : Stop) → report.stop ≡ Some stop → HasStopCause script rows stop
