use Rattle.hwp_cpu_command.proofs.job.JobScheduled.tells.Goals as goal
use Rattle.hwp_cpu_command.proofs.JobLaws.{pays, tells}

pub returns-clause-class : goal.returns-clause-class
returns-clause-class c = tells

pub returns-clause-pays : goal.returns-clause-pays
returns-clause-pays c = pays
