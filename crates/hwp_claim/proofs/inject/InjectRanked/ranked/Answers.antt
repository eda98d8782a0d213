use Rattle.hwp_claim.proofs.inject.InjectRanked.ranked.Goals as goal
use Rattle.hwp_claim.proofs.InjectRank.{inject-ranked}

pub returns : goal.returns
returns c = inject-ranked
