use Rattle.std.proofs.Common.{◌↔◌, IsTrue, sym, subst}
use Rattle.hwp_check_evidence.specs.hwp_report_text.declared.Answer.{Answer}
use Rattle.hwp_check_evidence.specs.hwp_law.Causes.{IsUnpoisonAnswer}
use Rattle.hwp_check_causes.specs.Cases.{CaseValue}
use Rattle.hwp_check_causes.proofs.causes.is_unpoison.Goals as goal

pub returns-in-Done : goal.returns-in-Done
returns-in-Done c =
    subst (λ (v : CaseValue). IsTrue c.was_taken_back.result ↔ IsUnpoisonAnswer v.report v.who c.args.frame c.args.answer.now) c.case.view_is
    (subst (λ (a : Answer). IsTrue c.was_taken_back.result ↔ IsUnpoisonAnswer c.case.inside.report.now c.case.inside.who c.args.frame a) (sym c.in-Done.is) c.was_taken_back.ensures)

pub returns-in-HardwareSeen : goal.returns-in-HardwareSeen
returns-in-HardwareSeen c =
    subst (λ (v : CaseValue). IsTrue c.was_hardware_seen.result ↔ IsUnpoisonAnswer v.report v.who c.args.frame c.args.answer.now) c.case.view_is
    (subst (λ (a : Answer). IsTrue c.was_hardware_seen.result ↔ IsUnpoisonAnswer c.case.inside.report.now c.case.inside.who c.args.frame a) (sym c.in-HardwareSeen.is) c.was_hardware_seen.ensures)
