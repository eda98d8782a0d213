use Rattle.hwp_core.proofs.unhold.UnholdTask.who.Goals as goal
use Rattle.hwp_core.proofs.UnholdLaws.{can, stays}

pub returns-clause-law : goal.returns-clause-law
returns-clause-law c = record { can = can; stays = stays }
