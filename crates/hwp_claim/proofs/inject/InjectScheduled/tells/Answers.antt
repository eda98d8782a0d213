use Rattle.hwp_claim.proofs.inject.InjectScheduled.tells.Goals as goal
use Rattle.hwp_claim_frame.proofs.of_hwp_core_rule.tasks.Revivals.{lasting-pays}
use Rattle.hwp_claim.proofs.InjectRank.{inject-lasting, inject-tells}
use Rattle.hwp_claim.specs.Injects.{task as inject-task}

pub returns-clause-class : goal.returns-clause-class
returns-clause-class c = inject-tells

pub returns-clause-pays : goal.returns-clause-pays
returns-clause-pays c = lasting-pays inject-task inject-lasting
