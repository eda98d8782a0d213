use Rattle.hwp_scrub.proofs.log.LogTask.who.Goals as goal
use Rattle.hwp_scrub.proofs.LogLaws.{can, stays}

pub returns-clause-law : goal.returns-clause-law
returns-clause-law c = record { can = can; stays = stays }
