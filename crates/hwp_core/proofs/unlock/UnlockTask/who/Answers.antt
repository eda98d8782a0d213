use Rattle.hwp_core.proofs.unlock.UnlockTask.who.Goals as goal
use Rattle.hwp_core.proofs.UnlockLaws.{can, stays}

pub returns-clause-law : goal.returns-clause-law
returns-clause-law c = record { can = can; stays = stays }
