use Rattle.hwp_claim_frame.proofs.grab.GrabRanked.ranked.Goals as goal
use Rattle.hwp_claim_frame.proofs.GrabCosts.{ranked}

pub returns : goal.returns
returns c = ranked
