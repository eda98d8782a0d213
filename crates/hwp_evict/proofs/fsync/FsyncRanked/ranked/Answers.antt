use Rattle.hwp_evict.proofs.fsync.FsyncRanked.ranked.Goals as goal
use Rattle.hwp_evict.proofs.FsyncLaws.{fsync-ranked}

pub returns : goal.returns
returns c = fsync-ranked
