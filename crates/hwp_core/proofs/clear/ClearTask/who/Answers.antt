use Rattle.hwp_core.proofs.clear.ClearTask.who.Goals as goal
use Rattle.hwp_core.proofs.ClearLaws.{can, stays}

pub returns-clause-law : goal.returns-clause-law
returns-clause-law c = record { can = can; stays = stays }
