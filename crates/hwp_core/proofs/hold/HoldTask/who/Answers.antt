use Rattle.hwp_core.proofs.hold.HoldTask.who.Goals as goal
use Rattle.hwp_core.proofs.HoldLaws.{can, stays}

pub returns-clause-law : goal.returns-clause-law
returns-clause-law c = record { can = can; stays = stays }
