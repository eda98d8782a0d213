use Rattle.hwp_soft.proofs.unpoison.UnpoisonTask.who.Goals as goal
use Rattle.hwp_soft.proofs.UnpoisonLaws.{can, stays}

pub returns-clause-law : goal.returns-clause-law
returns-clause-law c = record { can = can; stays = stays }
