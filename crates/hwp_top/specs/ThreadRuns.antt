-- What a run on threads is.
use Rattle.std.specs.Prelude.{◌≡◌, ◌⊎◌, ℕ, false, List, [], Some, length, map, slice_get}
use Rattle.hwp_threads.specs.hwp_geom.declared.Frame.{Frame}
use Rattle.hwp_threads.specs.hwp_core_rule.declared.Rec.{Rec}
use Rattle.hwp_threads.specs.hwp_core_rule.declared.State.{State}
use Rattle.hwp_threads.specs.hwp_core_rule.declared.View.{View}
use Rattle.hwp_threads.specs.hwp_core_rule.Lists.{EachMember, SomeMember}
use Rattle.hwp_threads.specs.hwp_core_rule.Moves.{Run}
use Rattle.hwp_threads.specs.hwp_core_rule.Opening.{opening, opening_view}
use Rattle.hwp_threads.specs.hwp_core_rule.Rule.{Holds}
use Rattle.hwp_threads.specs.hwp_core_rule.parts.Holdings.{HoldsNothing}
use Rattle.hwp_threads.specs.hwp_core_rule.Boards.{Played}
use Rattle.hwp_threads.specs.hwp_core_rule.Ranks.{Pending, is_refused, words_at}
use Rattle.hwp_threads.specs.Own.{IsOwnRun, Turned, made_of}
use Rattle.hwp_threads.specs.Parts.{AreParts, Own}
use Rattle.hwp_top_words.specs.hwp_script_read.declared.Script.{Script}
use Rattle.hwp_top_report.specs.hwp_plain.Order.{logged}
use Rattle.hwp_top_report.specs.hwp_report_text.declared.Report.{Report}
use Rattle.hwp_top_report.specs.hwp_law_served.Ends.{EndsWith}
use Rattle.hwp_top_report.specs.hwp_law_served.Scrubs.{ScrubsShown}
use Rattle.hwp_top_report.specs.hwp_law.Acting.{acting_script, copied_at}
use Rattle.hwp_top_report.specs.hwp_law_served.Shown.{IsShown}
use Rattle.hwp_top_report.specs.hwp_law_served.Turns.{Leads}
use Rattle.hwp_top_report.specs.hwp_cpu_row.declared.Row.{Row}
use Rattle.hwp_top_report.specs.hwp_law_served.Runs.{AreRecords, HaveServed, notes_of}
use Rattle.hwp_cpu.specs.declared.Processor.{Processor}
use Rattle.hwp_cpu.specs.Serving.{Fits}
use Rattle.hwp_threads.specs.hwp_table_words.Ends.{EndValue, HasAll, board_of}
use Rattle.hwp_threads.specs.hwp_table_words.Known.{Known, moves_by}
use Rattle.hwp_cpu.specs.Processors.{AreFinished}
use Rattle.hwp_top_report.specs.Finishes.{own_seat}
use Rattle.hwp_top.specs.Runs.{AreAtBeginning, processors}

-- a processor's run began at the opening, with the task of the processor, and the task that it led to fits
pub record IsBegun (script : Script) (tasks : List Processor) (cpu : ℕ) (o : Own Processor) : Type 0 where
  pub view_is : o.from.view ≡ opening_view cpu
  pub task_is : slice_get tasks cpu ≡ Some o.from.task
  pub fits : Fits script.layout o.to.view o.to.task

abbrev pub tasks_then : List (Own Processor) → List Processor
tasks_then owns = map (λ (o : Own Processor). o.to.task) owns

-- Moves led from the opening to this board, in whatever order the processors made them. Each processor's part of them is its own
-- run, from the beginning of its commands to where all are answered by these rows.
pub record AreDone (script : Script) (last : State) (rows : List (List Row)) : Type 0 where
  pub moves : List (ℕ × Rec)
  pub run : Run script.layout (opening script.layout) moves last
  pub tasks : List Processor
  pub begin : AreAtBeginning script tasks
  pub owns : List (Own Processor)
  pub parts : AreParts processors script.layout (opening script.layout) moves owns
  pub begun : (cpu : ℕ) (o : Own Processor) → slice_get owns cpu ≡ Some o → IsBegun script tasks cpu o
  pub finished : AreFinished (tasks_then owns) rows

-- what a processor did, and what the one seat that took in its worker's knows of it
pub record HasRun (script : Script) (tasks : List Processor) (v : Known) (cpu : ℕ) (o : Own Processor) : Type 0 where
  pub begun : IsBegun script tasks cpu o
  pub run : IsOwnRun processors script.layout o.from o.turns o.to
  pub going : EachMember (λ (t : Turned Processor). is_refused t.turn ≡ false) o.turns
  pub view : SomeMember (λ (x : ℕ × View). x ≡ (cpu, o.to.view)) v.mines
  pub moves : moves_by cpu v.own ≡ map (λ (t : Turned Processor). (cpu, made_of processors script.layout t)) o.turns

-- the workers of all processors have ended with these tasks, and one seat knows what they did
pub record HaveRun (script : Script) (v : Known) (now : List Processor) : Type 0 where
  pub tasks : List Processor
  pub begin : AreAtBeginning script tasks
  pub owns : List (Own Processor)
  pub count : length owns ≡ length tasks
  pub each : (cpu : ℕ) (o : Own Processor) → slice_get owns cpu ≡ Some o → HasRun script tasks v cpu o
  pub now_are : now ≡ tasks_then owns
  pub others : EachMember (λ (x : ℕ × View). HoldsNothing x.1 ⊎ ((o : Own Processor) × (slice_get owns x.0 ≡ Some o) × (x.1 ≡ o.to.view))) v.mines

-- one seat knows what processors did whose commands are answered by these rows
pub record KnowsOwnRuns (script : Script) (v : Known) (rows : List (List Row)) : Type 0 where
  pub now : List Processor
  pub ran : HaveRun script v now
  pub finished : AreFinished now rows

-- the table was closed with what they led to, by a seat that had the view of each processor: the views and the parts of the moves are
-- those that it knew
pub record IsThreadPlayed (script : Script) (ended : EndValue) (rows : List (List Row)) : Type 0 where
  pub layout_is : ended.layout ≡ script.layout
  pub views : List View
  pub done : AreDone script (board_of ended.words ended.slots views) rows
  pub all : HasAll script.layout ended.known
  pub views_are : EachMember (λ (x : ℕ × View). slice_get views x.0 ≡ Some x.1) ended.known.mines
  pub moves_are : EachMember (λ (x : ℕ × View). moves_by x.0 ended.known.own ≡ moves_by x.0 done.moves) ended.known.mines

-- the moves of turns that are given in their order, the newest first
abbrev pub moves_in : List Played → List (ℕ × Rec)
moves_in turns = map (λ (t : Played). (t.seat, t.made)) (logged turns [])

-- the board whose words and bodies a table was closed with
abbrev pub last_of : {script : Script} {rows : List (List Row)} (ended : EndValue) → IsThreadPlayed script ended rows → State
last_of ended played = board_of ended.words ended.slots played.views

-- A run on threads: the table was closed with the words and the bodies of a board to which the processors' own runs led, and these
-- are their turns, in an order in which they can be made one after the other; the frame rule holds before and after each. On that
-- board all commands are served by the rows of which the report's lines are, nothing is held, and no failure is open. The report
-- says what that board has, each frame's record has the lines that the rows note of that frame, and each answer and each event of a
-- scrub rests on what its own command was shown, the one that its processor acted on.
pub record IsThreadRun (script : Script) (report : Report) (ended : EndValue) : Type 0 where
  pub rows : List (List Row)
  pub played : IsThreadPlayed script ended rows
  pub turns : List Played
  pub made : moves_in turns ≡ played.done.moves
  pub rule : Holds script.layout (opening script.layout)
  pub leads : Leads script.layout (opening script.layout) turns (last_of ended played)
  pub served : HaveServed script own_seat (last_of ended played) rows report.cpus
  pub records : AreRecords (notes_of 0 rows) report
  pub nothing : EachMember HoldsNothing (last_of ended played).views
  pub settled : (frame : Frame) (cycle : ℕ) → Pending (words_at script.layout (last_of ended played)) frame cycle → ⊥
  pub ends : EndsWith script.layout (last_of ended played) report
  pub shown : IsShown (acting_script script report) (copied_at script report) report turns
  pub scrubs : ScrubsShown (acting_script script report) report turns
