use Rattle.hwp_scrub.proofs.scrub.ScrubTask.who.Goals as goal
use Rattle.hwp_scrub.proofs.ScrubLaws.{can, stays}

pub returns-clause-law : goal.returns-clause-law
returns-clause-law c = record { can = can; stays = stays }
