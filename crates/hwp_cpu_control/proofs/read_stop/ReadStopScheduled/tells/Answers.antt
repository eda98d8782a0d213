use Rattle.hwp_cpu_control.proofs.read_stop.ReadStopScheduled.tells.Goals as goal
use Rattle.hwp_core_rule.proofs.tasks.Revivals.{mild-pays}
use Rattle.hwp_cpu_control.proofs.ReadStopLaws.{mild, tells}
use Rattle.hwp_cpu_control.specs.ReadStops.{task}

pub returns-clause-class : goal.returns-clause-class
returns-clause-class c = tells

pub returns-clause-pays : goal.returns-clause-pays
returns-clause-pays c = mild-pays task mild
