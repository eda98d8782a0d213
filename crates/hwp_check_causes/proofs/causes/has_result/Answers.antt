use Rattle.std.proofs.Common.{◌↔◌, IsTrue, subst}
use Rattle.hwp_check_evidence.specs.hwp_law.Causes.{ComesTo, HasMark}
use Rattle.hwp_check_causes.specs.Cases.{CaseValue}
use Rattle.hwp_check_causes.proofs.causes.has_result.Goals as goal

pub returns : goal.returns
returns c = subst (λ (v : CaseValue). IsTrue c.came_to.result ↔ HasMark v.report v.who c.args.frame (ComesTo c.args.outcome)) c.case.view_is c.came_to.ensures
