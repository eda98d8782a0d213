use Rattle.hwp_core.proofs.pin.PinTask.who.Goals as goal
use Rattle.hwp_core.proofs.PinLaws.{can, stays}

pub returns-clause-law : goal.returns-clause-law
returns-clause-law c = record { can = can; stays = stays }
