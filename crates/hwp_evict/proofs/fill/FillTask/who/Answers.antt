use Rattle.hwp_evict.proofs.fill.FillTask.who.Goals as goal
use Rattle.hwp_evict.proofs.FillLaws.{can, stays}

pub returns-clause-law : goal.returns-clause-law
returns-clause-law c = record { can = can; stays = stays }
