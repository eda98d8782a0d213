-- The report of a run, from what the board on which it ends came to and from the rows of its processors.
use Rattle.std.specs.Prelude.{◌≡◌, ◌≢◌, ℕ, ◌+◌, ◌^◌, ◌<◌, ◌≤◌, ◌==◌, ◌||◌, Bool, true, false, List, Option, Some, None, length, map, option_and_then, slice_get, slice_index, unwrap_or, IfSome}
use Rattle.hwp_plain.specs.hwp_geom.declared.Frame.{Frame}
use Rattle.hwp_plain.specs.hwp_geom.declared.Layout.{Layout}
use Rattle.hwp_plain.specs.hwp_geom.declared.Who.{Who}
use Rattle.hwp_plain.specs.hwp_geom.Layout.{IsSound}
use Rattle.hwp_plain.specs.hwp_geom.Limits.{command_limit, cpu_limit}
use Rattle.hwp_plain.specs.hwp_page.declared.Entry.{Entry}
use Rattle.hwp_plain.specs.hwp_words.Stops.{stopper_of}
use Rattle.hwp_plain.specs.hwp_core_rule.declared.State.{State}
use Rattle.hwp_plain.specs.hwp_core_rule.declared.View.{View}
use Rattle.hwp_plain.specs.hwp_core_rule.Lists.{EachMember}
use Rattle.hwp_plain.specs.hwp_core_rule.Rule.{Holds}
use Rattle.hwp_plain.specs.hwp_core_rule.Words.{Words, size}
use Rattle.hwp_plain.specs.hwp_core_rule.parts.Holdings.{HoldsNothing}
use Rattle.hwp_plain.specs.Ends.{AreHistories}
use Rattle.hwp_cpu_row.specs.hwp_script_words.declared.Command.{Command}
use Rattle.hwp_cpu_row.specs.hwp_script_words.declared.Command.TheVariants as commands
use Rattle.hwp_cpu_row.specs.hwp_report_text.declared.CpuLine.{CpuLine}
use Rattle.hwp_cpu_row.specs.hwp_report_text.declared.FrameLine.{FrameLine}
use Rattle.hwp_cpu_row.specs.hwp_report_text.declared.MarkLine.{MarkLine}
use Rattle.hwp_cpu_row.specs.hwp_report_text.declared.Report.{Report}
use Rattle.hwp_cpu_row.specs.hwp_report_text.declared.Stop.{Stop}
use Rattle.hwp_cpu_row.specs.hwp_report_text.declared.StopCause.{StopCause}
use Rattle.hwp_cpu_row.specs.hwp_report_text.declared.StopCause.TheVariants as causes
use Rattle.hwp_cpu_row.specs.hwp_report_text.Acts.{is_panic}
use Rattle.hwp_cpu_row.specs.hwp_law.Commands.{arrival_of}
use Rattle.hwp_law_served.specs.Ends.{AreMarks, EndsWith, place_in}
use Rattle.hwp_cpu_row.specs.hwp_claim.declared.Found.{Found}
use Rattle.hwp_cpu_row.specs.declared.Offlining.{Offlining}
use Rattle.hwp_cpu_row.specs.declared.Row.{Row}
use Rattle.hwp_cpu_row.specs.hwp_claim.declared.EventOutcome.{EventOutcome}
use Rattle.hwp_cpu_row.specs.hwp_claim.Told.{frame_of}
use Rattle.hwp_law_served.specs.Rows.{Note, lines_from, record_of}
use Rattle.hwp_law_served.specs.Runs.{AreSorted, IsCauseOf, notes_of, row_at, told_cause}
use Rattle.hwp_law_served.specs.Served.{CanStop, IsFirstStopped}

-- ---- the lines of processors

abbrev pub lines_of_all : List (List Row) → List (List CpuLine)
lines_of_all rows = map (lines_from 0) rows

-- the frame of an event by which one was poisoned, or which was a panic, has a number of a frame
pub record IsNamed (t : EventOutcome) : Type 0 where
  pub found : IfSome t.found (λ (f : Found). (frame_of t.held).0 < 2 ^ 16)
  pub panic : is_panic t.acted ≡ true → (frame_of t.held).0 < 2 ^ 16

-- the rows of a processor can be told: they are no more than a script has commands, and name frames
pub record IsTellable (own : List Row) : Type 0 where
  pub few : length own ≤ command_limit
  pub named : EachMember (λ (row : Row). EachMember IsNamed row.told) own

abbrev pub AreTellable : List (List Row) → Type 0
AreTellable rows = EachMember IsTellable rows

-- ---- what a command did beside its answer

-- behind so many of all its events and some of its frames the next frame, if there is one, stands before the next event
abbrev pub is_frame_by : ℕ → ℕ → Option Offlining → Bool
is_frame_by all events None = false
is_frame_by all events (Some o) = (events == all) || (o.told == events)

abbrev pub is_frame_next : ℕ → List Offlining → ℕ → ℕ → Bool
is_frame_next all offlined events frames = is_frame_by all events (slice_get offlined frames)

-- ---- the words

-- the layout is sound, and has as many words
pub record AreWordsOf (layout : Layout) (words : List ℕ) : Type 0 where
  pub sound : IsSound layout
  pub count : length words ≡ size layout

-- ---- frames

-- the line of a frame as its words say it, with this record
abbrev pub line_with : Words → ℕ → List MarkLine → FrameLine
line_with words f marks = record {
  place = place_in (slice_index words.frames f);
  bad = record { 0 = slice_index words.bads f };
  weak = record { 0 = slice_index words.weaks f };
  marks = marks;
}

-- the line of a frame, with what processors noted of it, by its places
pub record IsLineBy (words : Words) (notes : List (List Note)) (frame : Frame) (line : FrameLine) : Type 0 where
  pub line_is : line ≡ line_with words frame.0 line.marks
  pub marks : AreSorted (record_of frame notes) line.marks

-- the lines of the first frames
pub record AreLinesBy (words : Words) (notes : List (List Note)) (n : ℕ) (lines : List FrameLine) : Type 0 where
  pub count : length lines ≡ n
  pub each : (frame : Frame) (line : FrameLine) → slice_get lines frame.0 ≡ Some line → IsLineBy words notes frame line

-- ---- the stop

-- the command of a processor with a number
abbrev pub command_in : List (List Command) → Who → Option Command
command_in lists who = option_and_then (λ (list : List Command). slice_get list who.seq) (slice_get lists who.cpu.0)

-- why a command stops the machine itself
abbrev pub own_cause : Command → Option StopCause
own_cause commands.RaiseNested = Some causes.Shutdown
own_cause (commands.Inject frame) = Some (causes.Panic frame)
own_cause command = None

-- and any other by an event of its machine checks
abbrev pub cause_of : Command → List EventOutcome → StopCause
cause_of command told = unwrap_or (own_cause command) (unwrap_or (told_cause (arrival_of command) told) causes.Shutdown)

abbrev pub cause_in : Option Command → List EventOutcome → StopCause
cause_in None told = causes.Shutdown
cause_in (Some command) told = cause_of command told

-- the record tells why the command stopped the machine that it names
pub record IsStopCause (lists : List (List Command)) (rows : List (List Row)) (stop : Stop) : Type 0 where
  pub command : Command
  pub row : Row
  pub command_is : command_in lists stop.who ≡ Some command
  pub row_is : row_at rows stop.who ≡ Some row
  pub cause : IsCauseOf command row.told stop.cause

-- the command of this number was answered `stopped`, and none before it
abbrev pub IsFirstStop : List Row → ℕ → Type 0
IsFirstStop own seq = (row : Row) × IsFirstStopped own seq row

-- the command is the first of its processor that was answered `stopped`
pub record IsStopper (rows : List (List Row)) (who : Who) : Type 0 where
  pub own : List Row
  pub of_cpu : slice_get rows who.cpu.0 ≡ Some own
  pub row : Row
  pub first : IsFirstStopped own who.seq row

-- where the stop word names a processor, a command of it was answered `stopped`
abbrev pub HasStopper : ℕ → List (List Row) → Type 0
HasStopper word rows = stopper_of word ≢ 0 → (who : Who) × (stopper_of word ≡ who.cpu.0 + 1) × IsStopper rows who

-- the stop record is that of the processor that the stop word names, by its command's cause
abbrev pub IsStopBy : ℕ → List (List Command) → List (List Row) → Option Stop → Type 0
IsStopBy word lists rows None = stopper_of word ≡ 0
IsStopBy word lists rows (Some stop) = (stopper_of word ≡ stop.who.cpu.0 + 1) × ((stopper : IsStopper rows stop.who) × (stop.cause ≡ cause_in (command_in lists stop.who) stopper.row.told))

-- the command can stop the machine, and is the first of its processor that was answered `stopped`
pub record IsHalter (layout : Layout) (lists : List (List Command)) (rows : List (List Row)) (who : Who) : Type 0 where
  pub stopper : IsStopper rows who
  pub command : Command
  pub there : command_in lists who ≡ Some command
  pub can : CanStop layout command stopper.row.told

-- ---- the end of a run

-- no view holds anything, the marks of a frame are those that processors noted, a command that stopped the machine was answered
-- so, and all rows can be told
pub record IsEnded (layout : Layout) (lists : List (List Command)) (views : List View) (rows : List (List Row)) : Type 0 where
  pub nothing : EachMember HoldsNothing views
  pub marked : (frame : Frame) → AreMarks views frame (record_of frame (notes_of 0 rows))
  pub stops : EachMember (λ (v : View). EachMember (IsHalter layout lists rows) v.stops) views
  pub cpus : length rows ≤ cpu_limit
  pub tellable : AreTellable rows

-- Such a run came to this state: the frame rule holds of it, it has these words, and the histories are those of its bodies, one
-- for each page.
pub record IsOutcome (layout : Layout) (words : List ℕ) (pages : List (List Entry)) (lists : List (List Command)) (rows : List (List Row)) (s : State) : Type 0 where
  pub holds : Holds layout s
  pub words_are : s.words ≡ words
  pub histories : AreHistories s.homes pages
  pub one_each : length pages ≡ length layout.pages
  pub ended : IsEnded layout lists s.views rows

-- the report is of the layout's version, it is that of this board and of these rows, with all frames and pages, and any stop has its
-- command's cause
pub record IsClosing (layout : Layout) (state : State) (lists : List (List Command)) (rows : List (List Row)) (report : Report) : Type 0 where
  pub version : report.version ≡ layout.version
  pub ends : EndsWith layout state report
  pub frames : length report.frames ≡ layout.frames
  pub pages : length report.pages ≡ length layout.pages
  pub lines : report.cpus ≡ lines_of_all rows
  pub marks : (frame : Frame) (line : FrameLine) → slice_get report.frames frame.0 ≡ Some line → AreSorted (record_of frame (notes_of 0 rows)) line.marks
  pub cause : (stop : Stop) → report.stop ≡ Some stop → IsStopCause lists rows stop
