use Rattle.hwp_claim_act.proofs.read_policies.ReadPoliciesRanked.ranked.Goals as goal
use Rattle.hwp_claim_act.proofs.ReadLaws.{reads-ranked}

pub returns : goal.returns
returns c = reads-ranked
