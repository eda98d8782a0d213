use Rattle.hwp_claim.proofs.fail.FailScheduled.tells.Goals as goal
use Rattle.hwp_claim_frame.proofs.of_hwp_core_rule.tasks.Revivals.{lasting-pays}
use Rattle.hwp_claim.proofs.FailRank.{fail-lasting}
use Rattle.hwp_claim.proofs.FailTells.{fail-tells-class}
use Rattle.hwp_claim.specs.Fails.{task as fail-task}

pub returns-clause-class : goal.returns-clause-class
returns-clause-class c = fail-tells-class

pub returns-clause-pays : goal.returns-clause-pays
returns-clause-pays c = lasting-pays fail-task fail-lasting
