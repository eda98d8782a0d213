use Rattle.std.proofs.Common.{◌↔◌, IsTrue, not, sym, subst}
use Rattle.hwp_check_evidence.specs.hwp_report_text.declared.Answer.{Answer}
use Rattle.hwp_check_evidence.specs.hwp_law.Answers.{is_ample}
use Rattle.hwp_check_evidence.specs.hwp_law.Causes.{IsOfflineAnswer}
use Rattle.hwp_check_causes.specs.Cases.{CaseValue}
use Rattle.hwp_check_causes.proofs.PlainLaws.{not-so}
use Rattle.hwp_check_causes.proofs.causes.is_offline.Goals as goal

pub returns-in-TakenFree : goal.returns-in-TakenFree
returns-in-TakenFree c =
    subst (λ (v : CaseValue). IsTrue c.was_taken_free.result ↔ IsOfflineAnswer v.script v.report v.who c.args.frame c.args.answer.now) c.case.view_is
    (subst (λ (a : Answer). IsTrue c.was_taken_free.result ↔ IsOfflineAnswer c.case.inside.script.now c.case.inside.report.now c.case.inside.who c.args.frame a) (sym c.in-TakenFree.is) c.was_taken_free.ensures)

pub returns-in-NoFrame : goal.returns-in-NoFrame
returns-in-NoFrame c =
    subst (λ (v : CaseValue). IsTrue (not c.case.inside.known.now.ample) ↔ IsOfflineAnswer v.script v.report v.who c.args.frame c.args.answer.now) c.case.view_is
    (subst (λ (a : Answer). IsTrue (not c.case.inside.known.now.ample) ↔ IsOfflineAnswer c.case.inside.script.now c.case.inside.report.now c.case.inside.who c.args.frame a) (sym c.in-NoFrame.is)
    (not-so c.case.inside.known.now.ample (is_ample c.case.inside.script.now) c.case.invariant.known.ample))
