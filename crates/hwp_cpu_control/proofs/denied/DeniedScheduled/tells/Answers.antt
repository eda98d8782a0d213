use Rattle.hwp_cpu_control.proofs.denied.DeniedScheduled.tells.Goals as goal
use Rattle.hwp_core_rule.proofs.tasks.Revivals.{mild-pays}
use Rattle.hwp_cpu_control.proofs.DeniedLaws.{mild, tells}
use Rattle.hwp_cpu_control.specs.Denieds.{task}

pub returns-clause-class : goal.returns-clause-class
returns-clause-class c = tells

pub returns-clause-pays : goal.returns-clause-pays
returns-clause-pays c = mild-pays task mild
