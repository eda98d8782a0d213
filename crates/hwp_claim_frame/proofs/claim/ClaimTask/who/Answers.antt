use Rattle.hwp_claim_frame.proofs.claim.ClaimTask.who.Goals as goal
use Rattle.hwp_claim_frame.proofs.ClaimLaws.{can, stays}

pub returns-clause-law : goal.returns-clause-law
returns-clause-law c = record { can = can; stays = stays }
