use Rattle.hwp_claim.proofs.handler.HandlerRanked.ranked.Goals as goal
use Rattle.hwp_claim.proofs.HandlerRank.{handler-ranked}

pub returns : goal.returns
returns c = handler-ranked
