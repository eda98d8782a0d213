use Rattle.hwp_core.proofs.refer.ReferTask.who.Goals as goal
use Rattle.hwp_core.proofs.ReferLaws.{can, stays}

pub returns-clause-law : goal.returns-clause-law
returns-clause-law c = record { can = can; stays = stays }
