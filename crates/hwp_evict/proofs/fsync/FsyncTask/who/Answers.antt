use Rattle.hwp_evict.proofs.fsync.FsyncTask.who.Goals as goal
use Rattle.hwp_evict.proofs.FsyncLaws.{can, stays}

pub returns-clause-law : goal.returns-clause-law
returns-clause-law c = record { can = can; stays = stays }
