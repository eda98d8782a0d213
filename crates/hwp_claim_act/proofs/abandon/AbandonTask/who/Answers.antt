use Rattle.hwp_claim_act.proofs.abandon.AbandonTask.who.Goals as goal
use Rattle.hwp_claim_act.proofs.AbandonAsks.{can}
use Rattle.hwp_claim_act.proofs.AbandonLaws.{stays}

pub returns-clause-law : goal.returns-clause-law
returns-clause-law c = record { can = can; stays = stays }
