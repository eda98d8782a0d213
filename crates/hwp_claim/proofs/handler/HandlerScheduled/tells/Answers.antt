use Rattle.hwp_claim.proofs.handler.HandlerScheduled.tells.Goals as goal
use Rattle.hwp_claim_frame.proofs.of_hwp_core_rule.tasks.Revivals.{lasting-pays}
use Rattle.hwp_claim.proofs.HandlerRank.{handler-lasting, handler-tells}
use Rattle.hwp_claim.specs.Fits.{task as handler-task}

pub returns-clause-class : goal.returns-clause-class
returns-clause-class c = handler-tells

pub returns-clause-pays : goal.returns-clause-pays
returns-clause-pays c = lasting-pays handler-task handler-lasting
