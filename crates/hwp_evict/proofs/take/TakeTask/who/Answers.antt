use Rattle.hwp_evict.proofs.take.TakeTask.who.Goals as goal
use Rattle.hwp_evict.proofs.TakeLaws.{can, stays}

pub returns-clause-law : goal.returns-clause-law
returns-clause-law c = record { can = can; stays = stays }
