use Rattle.hwp_fault.proofs.map_in.MapInTask.who.Goals as goal
use Rattle.hwp_fault.proofs.MapInLaws.{can, stays}

pub returns-clause-law : goal.returns-clause-law
returns-clause-law c = record { can = can; stays = stays }
