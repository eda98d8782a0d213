use Rattle.hwp_cpu_control.proofs.spoil.SpoilTask.who.Goals as goal
use Rattle.hwp_cpu_control.proofs.SpoilLaws.{can, stays}

pub returns-clause-law : goal.returns-clause-law
returns-clause-law c = record { can = can; stays = stays }
