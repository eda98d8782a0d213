use Rattle.hwp_claim_act.proofs.read_policies.ReadPoliciesTask.who.Goals as goal
use Rattle.hwp_claim_act.proofs.ReadLaws.{can, stays}

pub returns-clause-law : goal.returns-clause-law
returns-clause-law c = record { can = can; stays = stays }
