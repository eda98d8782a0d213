-- The law of a run: the report of a script is that of some list of atomic steps.
use Rattle.std.specs.Prelude.{ℕ, List}
use Rattle.hwp_law.specs.hwp_geom.declared.Cpu.{Cpu}
use Rattle.hwp_plain.specs.hwp_core_rule.Opening.{opening}
use Rattle.hwp_plain.specs.hwp_core_rule.Rule.{Holds}
use Rattle.hwp_plain.specs.hwp_core_rule.Boards.{AreSeated, Played}
use Rattle.hwp_plain.specs.hwp_core_rule.Turns.{Member}
use Rattle.hwp_plain.specs.Order.{InOrder, Running, running}
use Rattle.hwp_law.specs.hwp_script_words.declared.Script.{Script}
use Rattle.hwp_law.specs.hwp_report_text.declared.Report.{Report}
use Rattle.hwp_law.specs.Acting.{acting_script, copied_at}
use Rattle.hwp_law_served.specs.Ends.{EndsWith}
use Rattle.hwp_law_served.specs.Scrubs.{ScrubsShown}
use Rattle.hwp_law_served.specs.Shown.{IsShown}
use Rattle.hwp_law_served.specs.Turns.{Leads}

-- There is a list of turns, each one atomic step. It starts from the board at opening, each step is a move, and the frame rule
-- holds before and after each. The turns follow the script's schedule and then the finishing order, by what the tasks of the
-- processors do. The report says what the last board has, and each answer and each event of a scrub rests on what its own
-- command was shown: the command that its processor acted on.
pub record CoreRun {S : Type 0} (m : Member S) (tasks : List S) (seat : Cpu → ℕ) (script : Script) (report : Report) : Type 0 where
  pub turns : List Played
  pub last : Running S
  pub rule : Holds script.layout (opening script.layout)
  pub seated : AreSeated script.layout (opening script.layout) seat
  pub moves : Leads script.layout (opening script.layout) turns last.state
  pub order : InOrder m script.go (running script.layout seat tasks (opening script.layout)) turns last
  pub ends : EndsWith script.layout last.state report
  pub shown : IsShown (acting_script script report) (copied_at script report) report turns
  pub scrubs : ScrubsShown (acting_script script report) report turns
