use Rattle.hwp_core.proofs.give_up.GiveUpTask.who.Goals as goal
use Rattle.hwp_core.proofs.GiveUpLaws.{can, stays}

pub returns-clause-law : goal.returns-clause-law
returns-clause-law c = record { can = can; stays = stays }
