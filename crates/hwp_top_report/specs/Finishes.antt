-- A run that has ended, in whatever order its turns came, and the report of it.
use Rattle.std.specs.Prelude.{◌≡◌, ℕ, List, length, map}
use Rattle.hwp_table_words.specs.hwp_geom.declared.Cpu.{Cpu}
use Rattle.hwp_table_words.specs.hwp_geom.declared.Frame.{Frame}
use Rattle.hwp_table_words.specs.hwp_core_rule.declared.State.{State}
use Rattle.hwp_table_words.specs.hwp_core_rule.Opening.{opening}
use Rattle.hwp_table_words.specs.hwp_core_rule.Rule.{Holds}
use Rattle.hwp_table_words.specs.hwp_core_rule.Boards.{AreSeated, Played}
use Rattle.hwp_table_words.specs.hwp_core_rule.Ranks.{Pending, words_at}
use Rattle.hwp_table_words.specs.hwp_plain.Openings.{home_with}
use Rattle.hwp_table_words.specs.Ends.{EndValue}
use Rattle.hwp_cpu_row.specs.hwp_script_words.declared.Script.{Script}
use Rattle.hwp_cpu_row.specs.hwp_report_text.declared.Report.{Report}
use Rattle.hwp_law_served.specs.Turns.{Leads}
use Rattle.hwp_cpu_row.specs.declared.Row.{Row}
use Rattle.hwp_law_served.specs.Runs.{HaveServed}
use Rattle.hwp_top_report.specs.Closing.{IsClosing, lines_of_all}

-- a processor's seat has its number
abbrev pub own_seat : Cpu → ℕ
own_seat cpu = cpu.0

-- The turns lead from the opening to this board, on which all commands are served by these rows, and each failure of a frame is
-- ended. It says nothing of the order of the turns.
pub record HasEnded (script : Script) (turns : List Played) (state : State) (rows : List (List Row)) : Type 0 where
  pub rule : Holds script.layout (opening script.layout)
  pub moves : Leads script.layout (opening script.layout) turns state
  pub seated : AreSeated script.layout state own_seat
  pub settled : (frame : Frame) (cycle : ℕ) → Pending (words_at script.layout state) frame cycle → ⊥
  pub served : HaveServed script own_seat state rows (lines_of_all rows)
  pub count : length rows ≡ script.layout.cpus

-- ---- at a table

-- The table was closed with the words and the bodies of a board on which a run has ended. It says nothing of the order of its turns.
pub record HasEndedAt (script : Script) (ended : EndValue) (rows : List (List Row)) : Type 0 where
  pub turns : List Played
  pub state : State
  pub run : HasEnded script turns state rows
  pub layout_is : ended.layout ≡ script.layout
  pub words_are : ended.words ≡ state.words
  pub bodies_are : map home_with ended.slots ≡ state.homes

-- the report is that of each such board with which the table was closed, and what it was closed with is handed on
pub record IsFinished (script : Script) (closed : EndValue) (rows : List (List Row)) (report : Report) (ended : EndValue) : Type 0 where
  pub closing : (at : HasEndedAt script closed rows) → IsClosing script.layout at.state script.lists rows report
  pub same : ended ≡ closed
