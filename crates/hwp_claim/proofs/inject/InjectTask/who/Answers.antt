use Rattle.hwp_claim.proofs.inject.InjectTask.who.Goals as goal
use Rattle.hwp_claim.proofs.InjectLaws.{can, stays}

pub returns-clause-law : goal.returns-clause-law
returns-clause-law c = record { can = can; stays = stays }
