-- The run of a script: the processors' tasks as they begin, how they end, and the law of the report.
use Rattle.std.specs.Prelude.{◌≡◌, ℕ, List, [], Some, length, map, slice_get}
use Rattle.hwp_top_report.specs.hwp_geom.declared.Cpu.{Cpu}
use Rattle.hwp_top_report.specs.hwp_geom.declared.Layout.{Layout}
use Rattle.hwp_top_report.specs.hwp_core_rule.declared.State.{State}
use Rattle.hwp_top_report.specs.hwp_core_rule.Opening.{opening}
use Rattle.hwp_top_report.specs.hwp_core_rule.Boards.{AreSeated, Played}
use Rattle.hwp_top_report.specs.hwp_core_rule.Turns.{Member}
use Rattle.hwp_top_report.specs.hwp_plain.Openings.{home_with}
use Rattle.hwp_top_report.specs.hwp_table_words.Ends.{EndValue, HasAll}
use Rattle.hwp_top_report.specs.hwp_table_words.Known.{Known}
use Rattle.hwp_table.specs.Boards.{whole_then}
use Rattle.hwp_top_words.specs.hwp_script_read.declared.Command.{Command}
use Rattle.hwp_top_words.specs.hwp_script_read.declared.Script.{Script}
use Rattle.hwp_top_report.specs.hwp_plain.Order.{InOrder, Running, logged, running}
use Rattle.hwp_top_report.specs.hwp_report_text.declared.Report.{Report}
use Rattle.hwp_top_report.specs.hwp_law.Law.{IsLawful}
use Rattle.hwp_top_report.specs.hwp_law.Runs.{IsOfRun}
use Rattle.hwp_top_report.specs.hwp_law_served.Run.{CoreRun}
use Rattle.hwp_top_report.specs.hwp_cpu_row.declared.Row.{Row}
use Rattle.hwp_top_report.specs.hwp_law_served.Runs.{AreRecords, HaveServed, notes_of}
use Rattle.hwp_cpu.specs.declared.Processor.{Processor}
use Rattle.hwp_cpu.specs.Processors.{AreFinished, AtBeginning}
use Rattle.hwp_cpu.specs.Serving as serving
use Rattle.hwp_top_report.specs.Finishes.{HasEnded, own_seat}

-- a processor as a task
abbrev pub processors : Member Processor
processors = serving.task

-- each task is at the beginning of its processor's list
pub record AreAtBeginning (script : Script) (tasks : List Processor) : Type 0 where
  pub one_each : length tasks ≡ length script.lists
  pub each : (cpu : Cpu) (list : List Command) (p : Processor) → slice_get script.lists cpu.0 ≡ Some list → slice_get tasks cpu.0 ≡ Some p → AtBeginning script.layout cpu list p

-- a board of the script at opening, on which no turn was made
pub record IsOpened (script : Script) (layout : Layout) (seat : Cpu → ℕ) (state : State) (log : List Played) : Type 0 where
  pub layout_is : layout ≡ script.layout
  pub seat_is : seat ≡ own_seat
  pub state_is : state ≡ opening script.layout
  pub log_is : log ≡ []

-- the tasks made the turns of this log in the script's order, from their beginning to this board, on which the run has ended and these
-- are the tasks' rows
pub record IsPlayed (script : Script) (log : List Played) (state : State) (rows : List (List Row)) : Type 0 where
  pub tasks : List Processor
  pub begin : AreAtBeginning script tasks
  pub seated : AreSeated script.layout (opening script.layout) own_seat
  pub turns : List Played
  pub log_is : log ≡ logged turns []
  pub last : Running Processor
  pub order : InOrder processors script.go (running script.layout own_seat tasks (opening script.layout)) turns last
  pub state_is : last.state ≡ state
  pub ended : HasEnded script turns state rows
  pub finished : AreFinished last.tasks rows

-- The report is of a run that the tasks of the script's processors make from their beginning to where all their commands are answered,
-- by these rows. On its last board each processor has served its commands by its rows. The report's lines of processors are those
-- of the rows, and each frame's record has the lines that the rows note of that frame.
pub record IsCoreRun (script : Script) (report : Report) : Type 0 where
  pub tasks : List Processor
  pub begin : AreAtBeginning script tasks
  pub run : CoreRun processors tasks own_seat script report
  pub rows : List (List Row)
  pub finished : AreFinished run.last.tasks rows
  pub served : HaveServed script own_seat run.last.state rows report.cpus
  pub records : AreRecords (notes_of 0 rows) report

-- the report is of the run whose turns are those of this log, and lawful
pub record IsReportOf (script : Script) (log : List Played) (report : Report) : Type 0 where
  pub run : IsOfRun script report
  pub lawful : IsLawful script report
  pub core : IsCoreRun script report
  pub log_is : log ≡ logged core.run.turns []

-- ---- at a table

-- One seat has the views of all processors, none of which holds anything, and knows the board to which the processors' turns
-- led, and their moves.
pub record KnowsRun (script : Script) (v : Known) (rows : List (List Row)) : Type 0 where
  pub log : List Played
  pub state : State
  pub played : IsPlayed script log state rows
  pub all : HasAll script.layout v
  pub whole : v.whole ≡ Some (whole_then state log)

-- the table was closed with the words and the bodies of this board, by a seat that knew that these turns led to it
pub record HasClosed (script : Script) (log : List Played) (state : State) (ended : EndValue) : Type 0 where
  pub layout_is : ended.layout ≡ script.layout
  pub words_are : ended.words ≡ state.words
  pub bodies_are : map home_with ended.slots ≡ state.homes
  pub moves_are : ended.known.whole ≡ Some (whole_then state log)

-- the processors made their turns at a table, which was closed with what they led to
pub record IsTablePlayed (script : Script) (ended : EndValue) (rows : List (List Row)) : Type 0 where
  pub log : List Played
  pub state : State
  pub played : IsPlayed script log state rows
  pub closed : HasClosed script log state ended

-- The run of the report was made at a table: the table was closed with the words and the bodies of the run's last board, by a
-- seat that knew the run's moves.
pub record IsTableRun (script : Script) (report : Report) (ended : EndValue) : Type 0 where
  pub of_run : IsCoreRun script report
  pub closed : HasClosed script (logged of_run.run.turns []) of_run.run.last.state ended
