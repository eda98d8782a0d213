use Rattle.hwp_cpu_control.proofs.fork.ForkTask.who.Goals as goal
use Rattle.hwp_cpu_control.proofs.ForkLaws.{can, stays}

pub returns-clause-law : goal.returns-clause-law
returns-clause-law c = record { can = can; stays = stays }
