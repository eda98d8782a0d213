use Rattle.hwp_soft.proofs.soft.SoftScheduled.tells.Goals as goal
use Rattle.hwp_claim_frame.proofs.of_hwp_core_rule.tasks.Revivals.{lasting-pays}
use Rattle.hwp_soft.proofs.SoftTells.{soft-lasting, soft-tells-class}
use Rattle.hwp_soft.specs.Offline.{task as soft-task}

pub returns-clause-class : goal.returns-clause-class
returns-clause-class c = soft-tells-class

pub returns-clause-pays : goal.returns-clause-pays
returns-clause-pays c = lasting-pays soft-task soft-lasting
