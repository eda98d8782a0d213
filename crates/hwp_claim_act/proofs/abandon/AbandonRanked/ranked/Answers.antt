use Rattle.hwp_claim_act.proofs.abandon.AbandonRanked.ranked.Goals as goal
use Rattle.hwp_claim_act.proofs.AbandonLaws.{abandon-ranked}

pub returns : goal.returns
returns c = abandon-ranked
