use Rattle.std.proofs.Common.{IsSome, refl, sym, subst, true≢false}
use Rattle.hwp_check_evidence.specs.hwp_report_text.declared.Answer.{Answer}
use Rattle.hwp_check_evidence.specs.hwp_report_text.declared.Report.{Report}
use Rattle.hwp_check_evidence.specs.hwp_law.Causes.{IsCaused}
use Rattle.hwp_check_causes.proofs.right.is_right.Goals as goal

pub returns-then-not-is_heeded : goal.returns-then-not-is_heeded
returns-then-not-is_heeded c = (λ t. absurd (true≢false (sym t)), λ right. c.if-not-is_heeded.ensures.1 right.heeded)

pub returns-then-is_stopped : goal.returns-then-is_stopped
returns-then-is_stopped c =
    let stopped = c.if-is_stopped.ensures.0 refl in (
      λ t. record {
        shown = subst (λ (a : Answer). IsCaused c.args.case.now.script c.args.case.now.report c.args.case.now.who c.args.case.now.command a) (sym stopped)
            (subst (λ (r : Report). IsSome r.stop) c.report.ensures (c.tells_stop.ensures.0 t));
        heeded = c.if-not-is_heeded.ensures.0 refl;
      },
      λ right. c.tells_stop.ensures.1 (subst (λ (r : Report). IsSome r.stop) (sym c.report.ensures)
          (subst (λ (a : Answer). IsCaused c.args.case.now.script c.args.case.now.report c.args.case.now.who c.args.case.now.command a) stopped right.shown)),
    )

pub returns : goal.returns
returns c = (λ t. record { shown = c.is_caused.ensures.0 t; heeded = c.if-not-is_heeded.ensures.0 refl }, λ right. c.is_caused.ensures.1 right.shown)
