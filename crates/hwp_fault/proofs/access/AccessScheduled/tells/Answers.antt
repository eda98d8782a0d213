use Rattle.hwp_fault.proofs.access.AccessScheduled.tells.Goals as goal
use Rattle.hwp_core.proofs.of_hwp_core_rule.tasks.Revivals.{mild-pays}
use Rattle.hwp_fault.proofs.AccessCosts.{access-mild, access-tells}
use Rattle.hwp_fault.specs.Accesses.{task as access-task}

pub returns-clause-class : goal.returns-clause-class
returns-clause-class c = access-tells

pub returns-clause-pays : goal.returns-clause-pays
returns-clause-pays c = mild-pays access-task access-mild
