use Rattle.hwp_core.proofs.vacate.VacateTask.who.Goals as goal
use Rattle.hwp_core.proofs.VacateLaws.{can, stays}

pub returns-clause-law : goal.returns-clause-law
returns-clause-law c = record { can = can; stays = stays }
