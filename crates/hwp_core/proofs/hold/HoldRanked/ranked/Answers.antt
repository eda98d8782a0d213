use Rattle.hwp_core.proofs.hold.HoldRanked.ranked.Goals as goal
use Rattle.hwp_core.proofs.TaskCosts.{hold-ranked}

pub returns : goal.returns
returns c = hold-ranked
