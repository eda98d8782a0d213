use Rattle.hwp_core.proofs.unhold.UnholdRanked.ranked.Goals as goal
use Rattle.hwp_core.proofs.TaskCosts.{unhold-ranked}

pub returns : goal.returns
returns c = unhold-ranked
