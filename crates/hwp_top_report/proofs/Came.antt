-- What the board of a run came to, as the report reads it.
use Rattle.std.proofs.Common.{◌≡◌, ℕ, List, length, map, refl, sym, ◌∙◌, subst}
use Rattle.hwp_table_words.specs.hwp_geom.declared.Layout.{Layout}
use Rattle.hwp_table_words.specs.hwp_page.declared.Entry.{Entry}
use Rattle.hwp_table_words.specs.hwp_core_rule.declared.State.{State}
use Rattle.hwp_table_words.specs.hwp_core_rule.Lists.{EachMember, Homes}
use Rattle.hwp_table_words.specs.hwp_core_rule.parts.Holdings.{HoldsNothing}
use Rattle.hwp_table_words.specs.hwp_core_rule.Boards.{Played}
use Rattle.hwp_table_words.specs.hwp_plain.Openings.{home_with}
use Rattle.hwp_table_words.specs.hwp_plain.Ends.{AreHistories}
use Rattle.hwp_cpu_row.specs.hwp_script_words.declared.Command.{Command}
use Rattle.hwp_cpu_row.specs.hwp_script_words.declared.Script.{Script}
use Rattle.hwp_cpu_row.specs.hwp_script_words.Valid.{IsValid}
use Rattle.hwp_cpu_row.specs.hwp_report_text.declared.Report.{Report}
use Rattle.hwp_cpu_row.specs.declared.Row.{Row}
use Rattle.hwp_table_words.specs.Ends.{EndValue}
use Rattle.hwp_top_report.specs.Closing.{IsClosing, IsOutcome}
use Rattle.hwp_top_report.specs.Finishes.{HasEnded, HasEndedAt}
use Rattle.hwp_top_report.proofs.Led.{last-ended, last-holds}

-- the report is that of each state that came to these words and histories
abbrev pub Closes : Layout → List ℕ → List (List Entry) → List (List Command) → List (List Row) → Report → Type 0
Closes layout words pages lists rows report = (s : State) → IsOutcome layout words pages lists rows s → IsClosing layout s lists rows report

-- of a run that has ended
module _ (script : Script) (turns : List Played) (state : State) (rows : List (List Row)) (valid : IsValid script) (ended : HasEnded script turns state rows) where
  -- no view of it holds anything
  pub last-bare : EachMember HoldsNothing state.views
  last-bare = (last-ended script turns state rows valid ended script.lists rows refl refl).nothing

  module _ (words : List ℕ) (pages : List (List Entry)) (given : List (List Command)) (told : List (List Row))
      (words_are : words ≡ state.words) (histories : AreHistories state.homes pages) (one_each : length pages ≡ length script.layout.pages) (given_are : given ≡ script.lists) (told_are : told ≡ rows) where
    pub last-came : IsOutcome script.layout words pages given told state
    last-came = record {
      holds = last-holds script turns state rows valid ended;
      words_are = sym words_are;
      histories = histories;
      one_each = one_each;
      ended = last-ended script turns state rows valid ended given told given_are told_are;
    }

    -- and the report that is told of these is that of its board
    pub last-told : (report : Report) → Closes script.layout words pages given told report → IsClosing script.layout state script.lists rows report
    last-told report closes = subst (λ (r : List (List Row)). IsClosing script.layout state script.lists r report) told_are
        (subst (λ (c : List (List Command)). IsClosing script.layout state c told report) given_are (closes state last-came))

-- of a table that was closed when a run had ended
module _ (script : Script) (ended : EndValue) (rows : List (List Row)) (valid : IsValid script) (words : List ℕ) (pages : List (List Entry)) (given : List (List Command)) (told : List (List Row))
    (words_are : words ≡ ended.words) (histories : AreHistories (map home_with ended.slots) pages) (one_each : length pages ≡ length script.layout.pages) (given_are : given ≡ script.lists) (told_are : told ≡ rows) where
  pub end-came : (at : HasEndedAt script ended rows) → IsOutcome script.layout words pages given told at.state
  end-came at = last-came script at.turns at.state rows valid at.run words pages given told (words_are ∙ at.words_are) (subst (λ (h : Homes). AreHistories h pages) at.bodies_are histories) one_each given_are told_are

  pub end-told : (report : Report) → Closes script.layout words pages given told report → (at : HasEndedAt script ended rows) → IsClosing script.layout at.state script.lists rows report
  end-told report closes at =
      last-told script at.turns at.state rows valid at.run words pages given told (words_are ∙ at.words_are) (subst (λ (h : Homes). AreHistories h pages) at.bodies_are histories) one_each given_are told_are report closes
