use Rattle.std.proofs.Common.{◌↔◌, IsTrue, subst}
use Rattle.hwp_check_evidence.specs.hwp_law.Offlined.{IsOffline}
use Rattle.hwp_check_causes.specs.Cases.{CaseValue}
use Rattle.hwp_check_answers.proofs.walk.is_caused.Goals as goal

pub returns : goal.returns
returns c =
    subst (λ (v : CaseValue). IsTrue c.is_offlined.result ↔ IsOffline v.script v.report v.who c.args.line.now.frame c.args.line.now.result) c.case.ensures c.is_offlined.ensures
