use Rattle.hwp_evict.proofs.fill.FillRanked.ranked.Goals as goal
use Rattle.hwp_evict.proofs.FillCosts.{fill-ranked}

pub returns : goal.returns
returns c = fill-ranked
