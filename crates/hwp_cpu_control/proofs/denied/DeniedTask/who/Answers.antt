use Rattle.hwp_cpu_control.proofs.denied.DeniedTask.who.Goals as goal
use Rattle.hwp_cpu_control.proofs.DeniedLaws.{can, stays}

pub returns-clause-law : goal.returns-clause-law
returns-clause-law c = record { can = can; stays = stays }
