use Rattle.hwp_scrub.proofs.log.LogScheduled.tells.Goals as goal
use Rattle.hwp_cpu_control.proofs.of_hwp_core_rule.tasks.Revivals.{mild-pays}
use Rattle.hwp_scrub.proofs.LogLaws.{mild, tells}
use Rattle.hwp_scrub.specs.Logs.{task}

pub returns-clause-class : goal.returns-clause-class
returns-clause-class c = tells

pub returns-clause-pays : goal.returns-clause-pays
returns-clause-pays c = mild-pays task mild
