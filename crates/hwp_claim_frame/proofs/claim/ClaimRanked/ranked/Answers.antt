use Rattle.hwp_claim_frame.proofs.claim.ClaimRanked.ranked.Goals as goal
use Rattle.hwp_claim_frame.proofs.ClaimOwns.{claim-ranked}

pub returns : goal.returns
returns c = claim-ranked
