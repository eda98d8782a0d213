use Rattle.hwp_claim_frame.proofs.grab.GrabTask.who.Goals as goal
use Rattle.hwp_claim_frame.proofs.GrabLaws.{can, stays}

pub returns-clause-law : goal.returns-clause-law
returns-clause-law c = record { can = can; stays = stays }
