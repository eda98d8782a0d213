-- What the marks of a command have beside them: its entries in the histories, and its answer.
use Rattle.std.specs.Prelude.{◌≡◌, ℕ, ◌+◌, ◌≤◌, ◌==◌, ◌&&◌, Bool, true, false, cond, List, [], ◌∷◌, Option, Some, is_some, count_by, sum_by}
use Rattle.std.specs.List.{zip}
use Rattle.hwp_script_words.specs.hwp_geom.declared.Frame.{Frame}
use Rattle.hwp_script_words.specs.hwp_geom.declared.Who.{Who}
use Rattle.hwp_report_text.specs.hwp_page.declared.Entry.{Entry}
use Rattle.hwp_report_text.specs.hwp_page.declared.Situation.{Situation}
use Rattle.hwp_report_text.specs.hwp_page.declared.Situation.TheVariants as situations
use Rattle.hwp_report_text.specs.hwp_page.declared.What.{What}
use Rattle.hwp_report_text.specs.hwp_page.declared.What.TheVariants as entries
use Rattle.hwp_script_words.specs.declared.Command.{Command}
use Rattle.hwp_script_words.specs.declared.Command.TheVariants as commands
use Rattle.hwp_script_words.specs.declared.Script.{Script}
use Rattle.hwp_report_text.specs.declared.Answer.{Answer}
use Rattle.hwp_report_text.specs.declared.FrameLine.{FrameLine}
use Rattle.hwp_report_text.specs.declared.How.{How}
use Rattle.hwp_report_text.specs.declared.How.TheVariants as hows
use Rattle.hwp_report_text.specs.declared.MarkLine.{MarkLine}
use Rattle.hwp_report_text.specs.declared.OfflinedLine.{OfflinedLine}
use Rattle.hwp_report_text.specs.declared.Report.{Report}
use Rattle.hwp_report_text.specs.Offlines.{offline_answer}
use Rattle.hwp_report_text.specs.declared.EventLine.{EventLine}
use Rattle.hwp_law.specs.Lines.{answer_of, is_same_command, marks_of, offlined_of}
use Rattle.hwp_law.specs.Commands.{command_at}
use Rattle.hwp_law.specs.Records.{hardware_marks, how_in, is_commanded, is_moved, is_taken, result_lines, who_in}

-- the mark is one that this command made as an `inject` or an `unpoison`
abbrev pub is_commands : Who → MarkLine → Bool
is_commands who m = is_same_command who (who_in m) && is_commanded m

-- situations by numbers, so that they can be compared
abbrev pub situation_number : Situation → ℕ
situation_number situations.Free = 0
situation_number situations.Kernel = 1
situation_number situations.FileClean = 2
situation_number situations.FileDirty = 3
situation_number situations.AnonOnly = 4
situation_number situations.SwapClean = 5
situation_number situations.SwapDirty = 6
situation_number situations.LockedClean = 7
situation_number situations.LockedFile = 8
situation_number situations.LockedAnon = 9

-- a page is in the frame
abbrev pub has_page : Situation → Bool
has_page situations.Free = false
has_page situations.Kernel = false
has_page _ = true

-- the mark is of a failure of this command in this situation
abbrev pub finds : Situation → Option How → Bool
finds situation (Some (hows.Failure hardware other outcome)) = situation_number other == situation_number situation
finds situation _ = false

abbrev pub is_failure_mark : Who → Situation → MarkLine → Bool
is_failure_mark who situation m = is_same_command who (who_in m) && finds situation (how_in m)

-- the mark is of a soft offline by this command that moved the content
abbrev pub is_move : Option How → Bool
is_move (Some hows.Moved) = true
is_move _ = false

abbrev pub is_move_mark : Who → MarkLine → Bool
is_move_mark who m = is_same_command who (who_in m) && is_move (how_in m)

-- the mark is of a soft offline that took a free frame
abbrev pub is_take : Option How → Bool
is_take (Some hows.TakenFree) = true
is_take _ = false

-- the mark is of a soft offline by this command, that moved the content or took a free frame
abbrev pub is_soft_mark : Who → Bool → MarkLine → Bool
is_soft_mark who moved m = is_same_command who (who_in m) && cond moved (is_move (how_in m)) (is_take (how_in m))

-- the command takes this frame out of use
abbrev pub is_soft_of : Frame → Option Command → Bool
is_soft_of frame (Some (commands.Soft other)) = other.0 == frame.0
is_soft_of frame _ = false

-- the answer says that a soft offline moved the content, or that it took a free frame
abbrev pub says_soft : Bool → Option Answer → Bool
says_soft moved answer = cond moved (is_moved answer) (is_taken answer)

-- how many lines of the command say so of the frame: its answer, where the command is for the frame, and its lines of frames taken out
-- of use beside the answer
abbrev pub soft_lines : Script → Report → Who → Frame → Bool → ℕ
soft_lines script report who frame moved =
    cond (is_soft_of frame (command_at script who) && says_soft moved (answer_of report who)) 1 0
    + count_by (λ (l : OfflinedLine). (l.frame.0 == frame.0) && says_soft moved (Some (offline_answer l.result))) (offlined_of report who)

-- the entry is a failure in this situation; one that a thread needed the page for; a soft offline
abbrev pub is_failure : Situation → What → Bool
is_failure situation (entries.Fail other required seen signals) = situation_number other == situation_number situation
is_failure situation _ = false

abbrev pub is_required : Situation → What → Bool
is_required situation (entries.Fail other required seen signals) = (situation_number other == situation_number situation) && is_some required
is_required situation _ = false

abbrev pub is_soft : What → Bool
is_soft entries.Soft = true
is_soft _ = false

-- how many entries of a command, in all histories, are such, and how many marks in all records
abbrev pub entries_of : Report → Who → (What → Bool) → ℕ
entries_of report who test = sum_by (λ (list : List Entry). count_by (λ (e : Entry). is_same_command who e.who && test e.what) list) report.pages

abbrev pub marks_in : Report → (MarkLine → Bool) → ℕ
marks_in report test = sum_by (λ (l : FrameLine). count_by test l.marks) report.frames

-- the mark is of this situation, and the event line beside it has the row of an access that needs the page, S9
abbrev pub is_urgent : Situation → MarkLine × EventLine → Bool
is_urgent situation pair = finds situation (how_in pair.0) && (pair.1.row == 9)

-- how many marks of a command in this situation have such an event line beside them, in the frames from number n on
abbrev pub urgent_from : Report → Who → Situation → ℕ → List FrameLine → ℕ
urgent_from report who situation n [] = 0
urgent_from report who situation n (l ∷ ls) = count_by (is_urgent situation) (zip (hardware_marks who l.marks) (result_lines report who n)) + urgent_from report who situation (n + 1) ls

-- what the marks of a command have in the histories, and in its lines: for each frame as many lines say that a soft offline moved its
-- content, or took it free, as marks do, and its answer is beside one mark of an `inject` or an `unpoison` at most
pub record AreRecorded (script : Script) (report : Report) (who : Who) : Type 0 where
  pub failures : (situation : Situation) → has_page situation ≡ true → entries_of report who (is_failure situation) ≡ marks_in report (is_failure_mark who situation)
  pub required : (situation : Situation) → has_page situation ≡ true → entries_of report who (is_required situation) ≡ urgent_from report who situation 0 report.frames
  pub moves : entries_of report who is_soft ≡ marks_in report (is_move_mark who)
  pub softs : (frame : Frame) (moved : Bool) → count_by (is_soft_mark who moved) (marks_of report frame.0) ≡ soft_lines script report who frame moved
  pub one : marks_in report (is_commands who) ≤ 1
