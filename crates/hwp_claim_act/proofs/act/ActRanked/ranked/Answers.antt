use Rattle.hwp_claim_act.proofs.act.ActRanked.ranked.Goals as goal
use Rattle.hwp_claim_act.proofs.ActCosts.{act-ranked}

pub returns : goal.returns
returns c = act-ranked
