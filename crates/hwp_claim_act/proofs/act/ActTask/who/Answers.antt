use Rattle.hwp_claim_act.proofs.act.ActTask.who.Goals as goal
use Rattle.hwp_claim_act.proofs.ActLaws.{can, stays}

pub returns-clause-law : goal.returns-clause-law
returns-clause-law c = record { can = can; stays = stays }
