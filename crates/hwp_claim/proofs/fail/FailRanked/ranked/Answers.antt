use Rattle.hwp_claim.proofs.fail.FailRanked.ranked.Goals as goal
use Rattle.hwp_claim.proofs.FailRank.{fail-ranked}

pub returns : goal.returns
returns c = fail-ranked
