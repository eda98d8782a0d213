use Rattle.hwp_core.proofs.release.ReleaseTask.who.Goals as goal
use Rattle.hwp_core.proofs.ReleaseLaws.{can, stays}

pub returns-clause-law : goal.returns-clause-law
returns-clause-law c = record { can = can; stays = stays }
