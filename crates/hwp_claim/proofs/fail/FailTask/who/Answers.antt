use Rattle.hwp_claim.proofs.fail.FailTask.who.Goals as goal
use Rattle.hwp_claim.proofs.FailLaws.{can, stays}

pub returns-clause-law : goal.returns-clause-law
returns-clause-law c = record { can = can; stays = stays }
