use Rattle.hwp_claim_frame.proofs.meet.MeetRanked.ranked.Goals as goal
use Rattle.hwp_claim_frame.proofs.MeetCosts.{meet-ranked}

pub returns : goal.returns
returns c = meet-ranked
