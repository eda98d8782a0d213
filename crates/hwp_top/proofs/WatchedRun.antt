-- The lines of a board that was watched are the trace of its run.
use Rattle.std.proofs.Common.{◌≡◌, List, [], sym, ap, ◌∙◌, subst}
use Rattle.hwp_top_report.specs.hwp_core_rule.Boards.{Played}
use Rattle.hwp_top_report.specs.hwp_plain.Boards.{Board}
use Rattle.hwp_top_report.specs.hwp_plain.Order.{logged}
use Rattle.hwp_top_report.specs.hwp_plain.Traced.{AreTold}
use Rattle.hwp_top_report.specs.hwp_plain.declared.TraceLine.{TraceLine}
use Rattle.hwp_top_words.specs.hwp_script_read.declared.Script.{Script}
use Rattle.hwp_top_report.proofs.of_hwp_plain.ToldTurns.{all-told}
use Rattle.hwp_top_report.specs.hwp_report_text.declared.Report.{Report}
use Rattle.hwp_top.specs.Runs.{IsReportOf}
use Rattle.hwp_top.specs.Traces.{IsTrace}

pub traced : (script : Script) (was now : Board) (report : Report) (lines : List TraceLine) → now ≡ was → AreTold was.log lines → IsReportOf script now.log report → IsTrace script report lines
traced script was now report lines same told of =
    let log-is : was.log ≡ logged of.core.run.turns [] = ap (λ (b : Board). b.log) (sym same) ∙ of.log_is in
    record {
      run = of.run;
      lawful = of.lawful;
      core = of.core;
      told = all-told of.core.run.turns lines (subst (λ (log : List Played). AreTold log lines) log-is told);
    }
