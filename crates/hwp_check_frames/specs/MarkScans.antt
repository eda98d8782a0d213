-- How the records of frames are judged, mark by mark, and the lines of processors beside them.
use Rattle.std.specs.Prelude.{◌≡◌, ◌⊎◌, ℕ, ◌+◌, ◌<◌, ◌≤◌, ◌==◌, ◌&&◌, ◌||◌, nat_lt, Bool, true, false, cond, List, [], ◌∷◌, Option, Some, None, count_by, filter_map, is_some, length, slice_get, take}
use Rattle.hwp_check_rules.specs.hwp_geom.declared.Frame.{Frame}
use Rattle.hwp_check_rules.specs.hwp_geom.declared.Who.{Who}
use Rattle.hwp_check_rules.specs.hwp_banks.Addresses.{frame_at}
use Rattle.hwp_check_rules.specs.hwp_page.declared.Outcome.{Outcome}
use Rattle.hwp_check_rules.specs.hwp_script_words.declared.Command.{Command}
use Rattle.hwp_check_rules.specs.hwp_script_words.declared.Command.TheVariants as commands
use Rattle.hwp_check_rules.specs.hwp_script_words.declared.Script.{Script}
use Rattle.hwp_check_rules.specs.hwp_report_text.declared.Acted.{Acted}
use Rattle.hwp_check_rules.specs.hwp_report_text.declared.Answer.TheVariants as answers
use Rattle.hwp_check_rules.specs.hwp_report_text.declared.CpuLine.{CpuLine}
use Rattle.hwp_check_rules.specs.hwp_report_text.declared.CpuLine.TheVariants as lines
use Rattle.hwp_check_rules.specs.hwp_report_text.declared.FrameLine.{FrameLine}
use Rattle.hwp_check_rules.specs.hwp_report_text.declared.How.{How}
use Rattle.hwp_check_rules.specs.hwp_report_text.declared.How.TheVariants as hows
use Rattle.hwp_check_rules.specs.hwp_report_text.declared.MarkLine.{MarkLine}
use Rattle.hwp_check_rules.specs.hwp_report_text.declared.MarkLine.TheVariants as marks
use Rattle.hwp_check_rules.specs.hwp_report_text.declared.Report.{Report}
use Rattle.hwp_check_rules.specs.hwp_law.Lines.{answer_of, marks_of, rows_of}
use Rattle.hwp_check_rules.specs.hwp_law.Pairings.{is_soft_mark, soft_lines}
use Rattle.hwp_check_rules.specs.hwp_law.Commands.{command_at}
use Rattle.hwp_check_rules.specs.hwp_law.Records.{IsAnswered, IsFound, IsFrameRecord, IsMarkAt, hardware_marks, result_of}
use Rattle.hwp_check_rules.specs.hwp_law.Outcomes.{outcome_act, outcome_answer}
use Rattle.hwp_check_rules.specs.MarkFaults.{HasNoEvent, IsEventBeyond, IsMisfound, IsUnsaid}
use Rattle.hwp_check_rules.specs.Standing.{mark_line}

-- no command has more marks of soft offlines with a result in the frame than lines that say so
abbrev pub AreSaid : Script → Report → Frame → Type 0
AreSaid script report frame = (who : Who) (moved : Bool) → count_by (is_soft_mark who moved) (marks_of report frame.0) ≤ soft_lines script report who frame moved

-- each frame's record is right: the first half of the rule
pub record RecordFits (script : Script) (report : Report) (kernel : Bool) (frame : Frame) : Type 0 where
  pub kept : IsFrameRecord script report kernel frame
  pub said : AreSaid script report frame

abbrev pub RecordsFit : Script → Report → Type 0
RecordsFit script report = (frame : Frame) (kernel : Bool) (line : FrameLine) → slice_get script.layout.kernel frame.0 ≡ Some kernel → slice_get report.frames frame.0 ≡ Some line → RecordFits script report kernel frame

-- a mark that is wrong in its record, or by the lines beside it
pub record IsRecordWrong (script : Script) (report : Report) (line : ℕ) : Type 0 where
  pub frame : Frame
  pub kernel : Bool
  pub place : ℕ
  pub mark : MarkLine
  pub declared : slice_get script.layout.kernel frame.0 ≡ Some kernel
  pub there : slice_get (marks_of report frame.0) place ≡ Some mark
  pub line_is : line ≡ mark_line report frame.0 place
  pub wrong : (IsMarkAt place mark → ⊥) ⊎ IsMisfound kernel mark ⊎ (IsAnswered script report frame mark → ⊥) ⊎ IsUnsaid script report frame place mark ⊎ HasNoEvent report frame place mark

-- which lines break the first half of the rule
abbrev pub IsRecordFault : Script → Report → ℕ → Type 0
IsRecordFault script report line = IsRecordWrong script report line ⊎ IsEventBeyond report line

-- the mark finds what can be in such a frame
abbrev pub FindsRight : Bool → MarkLine → Type 0
FindsRight kernel (marks.Poisoned cycle who how) = IsFound kernel how
FindsRight kernel (marks.Unpoisoned cycle who) = Unit {0}

-- the command injected into the frame, and was answered by what came of it
abbrev pub WasInjected : Script → Report → Who → Frame → Outcome → Type 0
WasInjected script report who frame outcome = (command_at script who ≡ Some (commands.Inject frame)) × (answer_of report who ≡ Some (outcome_answer outcome))

-- it made the frame no longer poisoned
abbrev pub WasUnpoisoned : Script → Report → Who → Frame → Type 0
WasUnpoisoned script report who frame = (command_at script who ≡ Some (commands.Unpoison frame)) × (answer_of report who ≡ Some answers.Done)

abbrev pub IsInject : Frame → Option Command → Type 0
IsInject frame command = command ≡ Some (commands.Inject frame)

abbrev pub IsUnpoison : Frame → Option Command → Type 0
IsUnpoison frame command = command ≡ Some (commands.Unpoison frame)

-- the result for the frame that a line of the command with this number says
abbrev pub result_in : ℕ → ℕ → CpuLine → Option Acted
result_in seq frame (lines.Event event) = cond ((seq == event.seq) && (frame == frame_at event.addr)) (result_of event.acted) None
result_in seq frame (lines.Answer s answer) = None
result_in seq frame (lines.Offlined offlined) = None
result_in seq frame (lines.Guest guest) = None

-- all that its lines say
abbrev pub results_in : ℕ → ℕ → List CpuLine → List Acted
results_in seq frame rows = filter_map (result_in seq frame) rows

-- behind these marks the next of the command's results for the frame is this one
pub record IsNextResult (report : Report) (frame : Frame) (before : List MarkLine) (who : Who) (outcome : Outcome) : Type 0 where
  pub is : slice_get (results_in who.seq frame.0 (rows_of report who)) (length (hardware_marks who before)) ≡ Some (outcome_act outcome)

-- a mark that an event caused has the next of its command's results for the frame
abbrev pub HasEvent : Report → Frame → List MarkLine → MarkLine → Type 0
HasEvent report frame before (marks.Poisoned cycle who (hows.Failure true situation outcome)) = IsNextResult report frame before who outcome
HasEvent report frame before (marks.Poisoned cycle who (hows.Failure false situation outcome)) = Unit {0}
HasEvent report frame before (marks.Poisoned cycle who hows.Moved) = Unit {0}
HasEvent report frame before (marks.Poisoned cycle who hows.TakenFree) = Unit {0}
HasEvent report frame before (marks.Unpoisoned cycle who) = Unit {0}

-- behind these marks the command has a line more that says so of a soft offline
abbrev pub IsSaidMore : Script → Report → Frame → List MarkLine → Who → Bool → Type 0
IsSaidMore script report frame before who moved = count_by (is_soft_mark who moved) before < soft_lines script report who frame moved

abbrev pub IsSaidHow : Script → Report → Frame → List MarkLine → Who → How → Type 0
IsSaidHow script report frame before who (hows.Failure hardware situation outcome) = Unit {0}
IsSaidHow script report frame before who hows.Moved = IsSaidMore script report frame before who true
IsSaidHow script report frame before who hows.TakenFree = IsSaidMore script report frame before who false

-- a mark of a soft offline has such a line
abbrev pub IsSaid : Script → Report → Frame → List MarkLine → MarkLine → Type 0
IsSaid script report frame before (marks.Poisoned cycle who how) = IsSaidHow script report frame before who how
IsSaid script report frame before (marks.Unpoisoned cycle who) = Unit {0}

-- the mark is right
pub record IsRightMark (script : Script) (report : Report) (kernel : Bool) (frame : Frame) (list : List MarkLine) (place : ℕ) (mark : MarkLine) : Type 0 where
  pub in_place : IsMarkAt place mark
  pub found : FindsRight kernel mark
  pub answered : IsAnswered script report frame mark
  pub said : IsSaid script report frame (take place list) mark
  pub event : HasEvent report frame (take place list) mark

abbrev pub IsWrongMark : Script → Report → Bool → Frame → List MarkLine → ℕ → MarkLine → Type 0
IsWrongMark script report kernel frame list place mark =
    (IsMarkAt place mark → ⊥) ⊎ (FindsRight kernel mark → ⊥) ⊎ (IsAnswered script report frame mark → ⊥) ⊎ (IsSaid script report frame (take place list) mark → ⊥) ⊎ (HasEvent report frame (take place list) mark → ⊥)

-- so many first marks of a record are right
abbrev pub AreRightMarks : Script → Report → Bool → Frame → List MarkLine → ℕ → Type 0
AreRightMarks script report kernel frame list n = (place : ℕ) (mark : MarkLine) → place < n → slice_get list place ≡ Some mark → IsRightMark script report kernel frame list place mark

-- this is the first that isn't
pub record IsFirstWrongMark (script : Script) (report : Report) (kernel : Bool) (frame : Frame) (list : List MarkLine) (place : ℕ) : Type 0 where
  pub mark : MarkLine
  pub there : slice_get list place ≡ Some mark
  pub before : AreRightMarks script report kernel frame list place
  pub wrong : IsWrongMark script report kernel frame list place mark

-- the command with this number has more results for the frame than marks
abbrev pub is_beyond : List MarkLine → List CpuLine → ℕ → ℕ → ℕ → Bool
is_beyond list rows frame cpu seq = nat_lt (length (hardware_marks (record { cpu = record { 0 = cpu }; seq = seq }) list)) (length (results_in seq frame rows))

-- a line is of such a command; some of these lines is
abbrev pub row_beyond : List MarkLine → List CpuLine → ℕ → ℕ → CpuLine → Bool
row_beyond list rows frame cpu (lines.Event event) =
    is_some (result_in event.seq frame (lines.Event event)) && is_beyond list rows frame cpu event.seq
row_beyond list rows frame cpu (lines.Answer s answer) = false
row_beyond list rows frame cpu (lines.Offlined offlined) = false
row_beyond list rows frame cpu (lines.Guest guest) = false

abbrev pub rows_beyond : List MarkLine → List CpuLine → ℕ → ℕ → List CpuLine → Bool
rows_beyond list rows frame cpu [] = false
rows_beyond list rows frame cpu (r ∷ rs) = row_beyond list rows frame cpu r || rows_beyond list rows frame cpu rs

-- so many processors have no such line; and this one has
abbrev pub NoneBeyond : Report → List MarkLine → ℕ → ℕ → Type 0
NoneBeyond report list frame n = (cpu : ℕ) (rows : List CpuLine) → cpu < n → slice_get report.cpus cpu ≡ Some rows → rows_beyond list rows frame cpu rows ≡ false

abbrev pub SomeBeyond : Report → List MarkLine → ℕ → Type 0
SomeBeyond report list frame = (cpu : ℕ) × (rows : List CpuLine) × (slice_get report.cpus cpu ≡ Some rows) × (rows_beyond list rows frame cpu rows ≡ true)

-- the frame's record is right, or this is its first line that is wrong, where its heading stands at `heading`
abbrev pub FrameFits : Script → Report → Bool → Frame → List MarkLine → Type 0
FrameFits script report kernel frame list = NoneBeyond report list frame.0 (length report.cpus) × AreRightMarks script report kernel frame list (length list)

abbrev pub IsFrameFaultAt : Script → Report → Bool → Frame → List MarkLine → ℕ → ℕ → Type 0
IsFrameFaultAt script report kernel frame list heading line =
    (SomeBeyond report list frame.0 × (line ≡ heading))
    ⊎ (NoneBeyond report list frame.0 (length report.cpus) × ((place : ℕ) × IsFirstWrongMark script report kernel frame list place × (line ≡ heading + 1 + place)))
