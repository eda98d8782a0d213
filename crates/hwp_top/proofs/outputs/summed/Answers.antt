use Rattle.std.proofs.Common.{◌≡◌, ◌∙◌, ap, refl, subst}
use Rattle.hwp_top_words.specs.hwp_script_read.declared.Script.{Script}
use Rattle.hwp_top_words.specs.hwp_script.Generated.{generated}
use Rattle.hwp_top_words.specs.hwp_report.SummaryText.{summary_text}
use Rattle.hwp_top.specs.Top.{IsReportOfRun}
use Rattle.hwp_top.proofs.outputs.summed.Goals as goal

pub returns-clause-output : goal.returns-clause-output
returns-clause-output c =
    let same : c.in-Ok.script ≡ generated c.args.seed = c.in-Ok.ensures.script in (
      record {
        report_of = subst (λ (s : Script). IsReportOfRun s c.in-Ok-run_in_turns.run'.report c.in-Ok-run_in_turns.run'.ended) same
            (record { run = c.in-Ok-run_in_turns.ensures.of_run; lawful = c.in-Ok-run_in_turns.ensures.lawful; core = c.in-Ok-run_in_turns.ensures.core; table = c.in-Ok-run_in_turns.ensures.ended });
        status_is = refl;
        text_is = c.in-Ok-print_summary.ensures ∙ ap (summary_text c.args.seed) c.summary.ensures;
      },
      refl,
    )
