use Rattle.hwp_scrub.proofs.raise.RaiseScheduled.tells.Goals as goal
use Rattle.hwp_cpu_control.proofs.of_hwp_core_rule.tasks.Revivals.{lasting-pays}
use Rattle.hwp_scrub.proofs.RaiseRank.{raise-lasting, raise-tells}
use Rattle.hwp_scrub.specs.RaiseFits.{task as raise-task}

pub returns-clause-class : goal.returns-clause-class
returns-clause-class c = raise-tells

pub returns-clause-pays : goal.returns-clause-pays
returns-clause-pays c = lasting-pays raise-task raise-lasting
