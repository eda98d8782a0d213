use Rattle.hwp_evict.proofs.evict.EvictRanked.ranked.Goals as goal
use Rattle.hwp_evict.proofs.EvictCosts.{evict-ranked}

pub returns : goal.returns
returns c = evict-ranked
