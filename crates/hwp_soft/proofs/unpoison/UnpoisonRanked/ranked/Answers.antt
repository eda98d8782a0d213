use Rattle.hwp_soft.proofs.unpoison.UnpoisonRanked.ranked.Goals as goal
use Rattle.hwp_soft.proofs.UnpoisonCosts.{ranked}

pub returns : goal.returns
returns c = ranked
