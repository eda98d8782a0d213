use Rattle.std.proofs.Common.{◌≡◌, ◌↔◌, IsTrue, false, not, subst}
use Rattle.hwp_check_evidence.specs.hwp_law.Answers.{is_ample}
use Rattle.hwp_check_causes.specs.Cases.{CaseValue}
use Rattle.hwp_check_causes.proofs.PlainLaws.{not-so}
use Rattle.hwp_check_causes.proofs.plain.can_lack.Goals as goal

pub returns : goal.returns
returns c =
    subst (λ (v : CaseValue). IsTrue (not c.case.inside.known.now.ample) ↔ (is_ample v.script ≡ false)) c.case.view_is
    (not-so c.case.inside.known.now.ample (is_ample c.case.inside.script.now) c.case.invariant.known.ample)
