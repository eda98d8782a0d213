use Rattle.hwp_cpu_control.proofs.read_stop.ReadStopTask.who.Goals as goal
use Rattle.hwp_cpu_control.proofs.ReadStopLaws.{can, stays}

pub returns-clause-law : goal.returns-clause-law
returns-clause-law c = record { can = can; stays = stays }
