use Rattle.hwp_scrub.proofs.raise.RaiseTask.who.Goals as goal
use Rattle.hwp_scrub.proofs.RaiseLaws.{can, stays}

pub returns-clause-law : goal.returns-clause-law
returns-clause-law c = record { can = can; stays = stays }
