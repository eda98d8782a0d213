-- The report of a run is lawful, and the law of the run holds of it.
use Rattle.std.proofs.Common.{List, [], sym, subst}
use Rattle.hwp_top_words.specs.hwp_script_read.declared.Script.{Script}
use Rattle.hwp_top_words.specs.hwp_script_read.hwp_script_words.Valid.{IsValid}
use Rattle.hwp_top_report.specs.hwp_report_text.declared.Report.{Report}
use Rattle.hwp_top_report.specs.hwp_law.Acting.{acting_script, copied_at}
use Rattle.hwp_top_report.specs.hwp_core_rule.declared.State.{State}
use Rattle.hwp_top_report.specs.hwp_core_rule.Opening.{opening}
use Rattle.hwp_top_report.specs.hwp_core_rule.Boards.{Played}
use Rattle.hwp_top_report.specs.hwp_plain.Order.{logged}
use Rattle.hwp_top_report.specs.hwp_law_served.Ends.{EndsWith}
use Rattle.hwp_top_report.specs.hwp_law_served.Turns.{Leads}
use Rattle.hwp_top_report.specs.hwp_cpu_row.declared.Row.{Row}
use Rattle.hwp_top_report.specs.hwp_law_served.Runs.{HaveServed, IsRunOf}
use Rattle.hwp_top_report.proofs.AnswerSights.{report-shown, scrubs-shown}
use Rattle.hwp_top_report.specs.hwp_table_words.Ends.{EndValue}
use Rattle.hwp_top_report.specs.Closing.{IsClosing}
use Rattle.hwp_top_report.specs.Finishes.{HasEndedAt, IsFinished, own_seat}
use Rattle.hwp_top.specs.Runs.{HasClosed, IsCoreRun, IsPlayed, IsReportOf, IsTablePlayed, IsTableRun}
use Rattle.hwp_top_report.proofs.RunLaws.{lines-served, records-noted, run-lawful, run-of, run-of-run}

-- of a run whose tasks made their turns in the script's order
module _ (script : Script) (log : List Played) (state : State) (rows : List (List Row)) (valid : IsValid script) (played : IsPlayed script log state rows)
    (report : Report) (closing : IsClosing script.layout state script.lists rows report) where
  of-run : IsRunOf (acting_script script report) (copied_at script report) own_seat played.turns state report
  of-run = run-of script played.turns state rows valid played.ended report closing

  run-core : IsCoreRun script report
  run-core = record {
    tasks = played.tasks;
    begin = played.begin;
    run = record {
      turns = played.turns;
      last = played.last;
      rule = played.ended.rule;
      seated = played.seated;
      moves = subst (λ (s : State). Leads script.layout (opening script.layout) played.turns s) (sym played.state_is) played.ended.moves;
      order = played.order;
      ends = subst (λ (s : State). EndsWith script.layout s report) (sym played.state_is) of-run.ends;
      shown = report-shown (acting_script script report) (copied_at script report) own_seat played.turns state report of-run;
      scrubs = scrubs-shown (acting_script script report) (copied_at script report) own_seat played.turns state report of-run;
    };
    rows = rows;
    finished = played.finished;
    served = subst (λ (s : State). HaveServed script own_seat s rows report.cpus) (sym played.state_is) (lines-served script played.turns state rows valid played.ended report closing);
    records = records-noted script played.turns state rows valid played.ended report closing;
  }

  -- the report is of the run whose turns the log has
  pub reported : IsReportOf script log report
  unfolding run-core
  reported = record {
    run = run-of-run script played.turns state rows valid played.ended report closing;
    lawful = run-lawful script played.turns state rows valid played.ended report closing;
    core = run-core;
    log_is = played.log_is;
  }

  -- and the table was closed with that run's last board
  run-at-table : (ended : EndValue) → HasClosed script log state ended → IsTableRun script report ended
  unfolding run-core
  run-at-table ended is = record {
    of_run = run-core;
    closed = subst (λ (s : State). HasClosed script (logged played.turns []) s ended) (sym played.state_is) (subst (λ (l : List Played). HasClosed script l state ended) played.log_is is);
  }

-- of a run that was made at a table
module _ (script : Script) (closed : EndValue) (rows : List (List Row)) (valid : IsValid script) (played : IsTablePlayed script closed rows) where
  abbrev at : HasEndedAt script closed rows
  at = record {
    turns = played.played.turns;
    state = played.state;
    run = played.played.ended;
    layout_is = played.closed.layout_is;
    words_are = played.closed.words_are;
    bodies_are = played.closed.bodies_are;
  }

  pub table-ended : HasEndedAt script closed rows
  table-ended = at

  module _ (report : Report) (ended : EndValue) (is : IsFinished script closed rows report ended) where
    pub table-core : IsCoreRun script report
    table-core = run-core script played.log played.state rows valid played.played report (is.closing at)

    pub table-run : IsTableRun script report ended
    table-run = subst (IsTableRun script report) (sym is.same) (run-at-table script played.log played.state rows valid played.played report (is.closing at) closed played.closed)
