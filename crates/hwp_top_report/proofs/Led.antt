-- The turns of a run lead to its last board, on which the run has ended.
use Rattle.std.proofs.Common.{◌≡◌, List, sym, subst}
use Rattle.hwp_table_words.specs.hwp_core_rule.declared.State.{State}
use Rattle.hwp_table_words.specs.hwp_core_rule.Opening.{opening}
use Rattle.hwp_table_words.specs.hwp_core_rule.Rule.{Holds}
use Rattle.hwp_table_words.specs.hwp_core_rule.Boards.{Played}
use Rattle.hwp_cpu_row.specs.hwp_script_words.declared.Command.{Command}
use Rattle.hwp_cpu_row.specs.hwp_script_words.declared.Script.{Script}
use Rattle.hwp_law_served.proofs.turns.TurnLeads.{leads-hold}
use Rattle.hwp_cpu_row.specs.hwp_script_words.Valid.{IsValid}
use Rattle.hwp_cpu_row.specs.declared.Row.{Row}
use Rattle.hwp_law_served.specs.Runs.{notes_of}
use Rattle.hwp_law_served.proofs.lines.FrameRecords.{AreNoted}
use Rattle.hwp_top_report.specs.Closing.{IsEnded}
use Rattle.hwp_top_report.specs.Finishes.{HasEnded, own_seat}
use Rattle.hwp_top_report.proofs.Closable.{are-noted, ended-of}

module _ (script : Script) (turns : List Played) (state : State) (rows : List (List Row)) (valid : IsValid script) (ended : HasEnded script turns state rows) where
  pub last-holds : Holds script.layout state
  last-holds = leads-hold script.layout (opening script.layout) state turns ended.rule ended.moves

  -- what the processors noted is of their marks
  pub last-noted : AreNoted script.layout own_seat state (notes_of 0 rows)
  last-noted = are-noted script own_seat state rows last-holds ended.seated valid ended.count ended.served

  -- so the run has ended, for the commands and the rows as the report is given them
  pub last-ended : (given : List (List Command)) (told : List (List Row)) → given ≡ script.lists → told ≡ rows → IsEnded script.layout given state.views told
  last-ended given told given_are told_are =
      subst (λ (x : List (List Command)). IsEnded script.layout x state.views told) (sym given_are)
      (subst (IsEnded script.layout script.lists state.views) (sym told_are)
      (ended-of script own_seat state rows last-holds ended.seated valid ended.count ended.served))
