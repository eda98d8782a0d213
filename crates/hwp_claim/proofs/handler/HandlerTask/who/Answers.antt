use Rattle.hwp_claim.proofs.handler.HandlerTask.who.Goals as goal
use Rattle.hwp_claim.proofs.HandlerLaws.{can, stays}

pub returns-clause-law : goal.returns-clause-law
returns-clause-law c = record { can = can; stays = stays }
