-- Which lines of a report break the rule of the records of frames.
use Rattle.std.specs.Prelude.{◌≡◌, ◌≢◌, ◌⊎◌, ℕ, ◌+◌, ◌<◌, ◌≤◌, ◌==◌, ◌&&◌, Bool, true, false, List, [], ◌∷◌, if◌then◌else◌, min, Option, Some, None, count_by, is_some, length, option_and_then, slice_get, sum_by, take, unwrap_or}
use Rattle.std.specs.Option.{option_or}
use Rattle.hwp_law.specs.hwp_geom.declared.Frame.{Frame}
use Rattle.hwp_law.specs.hwp_geom.declared.Who.{Who}
use Rattle.hwp_law.specs.hwp_banks.Addresses.{frame_at}
use Rattle.hwp_law.specs.hwp_page.declared.At.{At}
use Rattle.hwp_law.specs.hwp_page.declared.Entry.{Entry}
use Rattle.hwp_law.specs.hwp_page.declared.Situation.{Situation}
use Rattle.hwp_law.specs.hwp_script_words.declared.Command.{Command}
use Rattle.hwp_law.specs.hwp_script_words.declared.Command.TheVariants as commands
use Rattle.hwp_law.specs.hwp_script_words.declared.Script.{Script}
use Rattle.hwp_law.specs.hwp_report_text.declared.FrameLine.{FrameLine}
use Rattle.hwp_law.specs.hwp_report_text.declared.How.{How}
use Rattle.hwp_law.specs.hwp_report_text.declared.MarkLine.{MarkLine}
use Rattle.hwp_law.specs.hwp_report_text.declared.OfflinedLine.{OfflinedLine}
use Rattle.hwp_law.specs.hwp_report_text.Offlines.{offline_answer}
use Rattle.hwp_law.specs.hwp_report_text.declared.Report.{Report}
use Rattle.hwp_law.specs.hwp_report_text.declared.EventLine.{EventLine}
use Rattle.hwp_law.specs.Lines.{events_of, marks_of, offlined_of}
use Rattle.hwp_law.specs.Pairings.{entries_of, has_page, is_commands, is_failure, is_failure_mark, is_move_mark, is_required, is_soft, is_soft_mark, marks_in, says_soft, soft_lines, urgent_from}
use Rattle.hwp_law.specs.Places.{entry_at}
use Rattle.hwp_law.specs.Commands.{command_at}
use Rattle.hwp_law.specs.Records.{IsAnswered, IsFound, IsMarkAt, hardware_act, hardware_marks, how_in, is_by_hardware, is_moved, line_results, result_lines, result_of, who_in}
use Rattle.hwp_check_rules.specs.Standing.{entry_line, frame_line, mark_line}

-- how many such marks stand before a mark, in the order of the report
abbrev pub marks_before : Report → ℕ → ℕ → (MarkLine → Bool) → ℕ
marks_before report frame place test = sum_by (λ (l : FrameLine). count_by test l.marks) (take frame report.frames) + count_by test (take place (marks_of report frame))

-- the mark finds what can't be in such a frame, or its result is not that of what it finds
pub record IsMisfound (kernel : Bool) (mark : MarkLine) : Type 0 where
  pub how : How
  pub how_is : how_in mark ≡ Some how
  pub wrong : IsFound kernel how → ⊥

-- the mark has not the result of its event line, or has none: as many marks of the command's events stand before it in the
-- record as event lines before its own
pub record HasNoEvent (report : Report) (frame : Frame) (place : ℕ) (mark : MarkLine) : Type 0 where
  pub by_hardware : is_by_hardware mark ≡ true
  pub wrong : slice_get (line_results (result_lines report (who_in mark) frame.0)) (length (hardware_marks (who_in mark) (take place (marks_of report frame.0)))) ≢ hardware_act mark

-- the mark is one too many of its command and situation: as many as there are entries stand before it
pub record IsUnpaired (report : Report) (frame : Frame) (place : ℕ) (mark : MarkLine) : Type 0 where
  pub situation : Situation
  pub of_page : has_page situation ≡ true
  pub finds_it : is_failure_mark (who_in mark) situation mark ≡ true
  pub beyond : entries_of report (who_in mark) (is_failure situation) ≤ marks_before report frame.0 place (is_failure_mark (who_in mark) situation)

-- the same of a mark whose content moved
pub record IsMovedOnly (report : Report) (frame : Frame) (place : ℕ) (mark : MarkLine) : Type 0 where
  pub moved : is_move_mark (who_in mark) mark ≡ true
  pub beyond : entries_of report (who_in mark) is_soft ≤ marks_before report frame.0 place (is_move_mark (who_in mark))

-- the mark is the second that its command made as an `inject` or an `unpoison`
pub record IsSecond (report : Report) (frame : Frame) (place : ℕ) (mark : MarkLine) : Type 0 where
  pub commanded : is_commands (who_in mark) mark ≡ true
  pub beyond : 1 ≤ marks_before report frame.0 place (is_commands (who_in mark))

-- the mark of a soft offline is one too many of its command, its frame and its result: as many as lines of the command say so stand
-- before it in the record
pub record IsUnsaid (script : Script) (report : Report) (frame : Frame) (place : ℕ) (mark : MarkLine) : Type 0 where
  pub moved : Bool
  pub soft : is_soft_mark (who_in mark) moved mark ≡ true
  pub beyond : soft_lines script report (who_in mark) frame moved ≤ count_by (is_soft_mark (who_in mark) moved) (take place (marks_of report frame.0))

-- a mark that is wrong
pub record IsMarkWrong (script : Script) (report : Report) (line : ℕ) : Type 0 where
  pub frame : Frame
  pub kernel : Bool
  pub place : ℕ
  pub mark : MarkLine
  pub declared : slice_get script.layout.kernel frame.0 ≡ Some kernel
  pub there : slice_get (marks_of report frame.0) place ≡ Some mark
  pub line_is : line ≡ mark_line report frame.0 place
  pub wrong :
      (IsMarkAt place mark → ⊥) ⊎ IsMisfound kernel mark ⊎ (IsAnswered script report frame mark → ⊥) ⊎ IsUnsaid script report frame place mark
      ⊎ HasNoEvent report frame place mark ⊎ IsUnpaired report frame place mark ⊎ IsMovedOnly report frame place mark ⊎ IsSecond report frame place mark

-- a command has more event lines with a result for the frame than marks in its record
pub record IsEventBeyond (report : Report) (line : ℕ) : Type 0 where
  pub frame : Frame
  pub who : Who
  pub within : frame.0 < length report.frames
  pub line_is : line ≡ frame_line report frame.0
  pub beyond : length (hardware_marks who (marks_of report frame.0)) < length (result_lines report who frame.0)

-- how many lines of the command, beside its answer, say so of a soft offline of the frame
abbrev pub lines_beside : Report → Who → ℕ → Bool → ℕ
lines_beside report who frame moved = count_by (λ (l : OfflinedLine). (l.frame.0 == frame) && says_soft moved (Some (offline_answer l.result))) (offlined_of report who)

-- a command has more lines that say so of a soft offline of the frame than marks in its record, and one of them stands beside its answer
-- (an answer that is the only such line has its mark by the rule of answers)
pub record IsSoftBeyond (script : Script) (report : Report) (line : ℕ) : Type 0 where
  pub frame : Frame
  pub who : Who
  pub moved : Bool
  pub beside : 0 < lines_beside report who frame.0 moved
  pub line_is : line ≡ frame_line report frame.0
  pub beyond : count_by (is_soft_mark who moved) (marks_of report frame.0) < soft_lines script report who frame moved

-- the lowest frame that an event line names with a result
abbrev pub lower : ℕ → Option ℕ → ℕ
lower n None = n
lower n (Some m) = min n m

abbrev pub lowest_of : List EventLine → Option ℕ
lowest_of [] = None
lowest_of (l ∷ ls) = if is_some (result_of l.acted) then Some (lower (frame_at l.addr) (lowest_of ls)) else lowest_of ls

-- the lowest frame of which a line beside an answer says that its content moved
abbrev pub lowest_moved : List OfflinedLine → Option ℕ
lowest_moved [] = None
lowest_moved (l ∷ ls) = if is_moved (Some (offline_answer l.result)) then Some (lower l.frame.0 (lowest_moved ls)) else lowest_moved ls

-- the lowest frame that a command's lines name, for its failures or for its soft offlines
abbrev pub lowest_said : Bool → Report → Who → Option ℕ
lowest_said false report who = lowest_of (events_of report who)
lowest_said true report who = lowest_moved (offlined_of report who)

abbrev pub frame_hit : Command → Option ℕ
frame_hit (commands.Inject frame) = Some frame.0
frame_hit (commands.Soft frame) = Some frame.0
frame_hit _ = None

-- the frame that a command's failures, or its soft offlines, are of: the one that it names, else the lowest that its lines name, else frame 0
abbrev pub home_of : Script → Report → Who → Bool → ℕ
home_of script report who soft = unwrap_or (option_or (option_and_then frame_hit (command_at script who)) (lowest_said soft report who)) 0

-- a command has more entries of a failure in a situation, or of a soft offline, than marks
abbrev pub LacksMarks : Report → Who → Bool → Type 0
LacksMarks report who false =
    (situation : Situation) × (has_page situation ≡ true) × (marks_in report (is_failure_mark who situation) < entries_of report who (is_failure situation))
LacksMarks report who true = marks_in report (is_move_mark who) < entries_of report who is_soft

pub record IsMarkLacking (script : Script) (report : Report) (line : ℕ) : Type 0 where
  pub who : Who
  pub soft : Bool
  pub lacks : LacksMarks report who soft
  pub line_is : line ≡ frame_line report (home_of script report who soft)

-- a failure's entry, where the command has not as many that a thread needed as its event lines ask
pub record IsMisrequired (report : Report) (line : ℕ) : Type 0 where
  pub at : At
  pub entry : Entry
  pub situation : Situation
  pub there : entry_at report.pages at ≡ Some entry
  pub line_is : line ≡ entry_line report at
  pub of_page : has_page situation ≡ true
  pub fails : is_failure situation entry.what ≡ true
  pub wrong : entries_of report entry.who (is_required situation) ≢ urgent_from report entry.who situation 0 report.frames

abbrev pub IsMarkFault : Script → Report → ℕ → Type 0
IsMarkFault script report line =
    IsMarkWrong script report line ⊎ IsEventBeyond report line ⊎ IsSoftBeyond script report line ⊎ IsMarkLacking script report line ⊎ IsMisrequired report line
