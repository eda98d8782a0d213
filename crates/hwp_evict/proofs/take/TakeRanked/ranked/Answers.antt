use Rattle.hwp_evict.proofs.take.TakeRanked.ranked.Goals as goal
use Rattle.hwp_evict.proofs.TakeCosts.{ranked}

pub returns : goal.returns
returns c = ranked
