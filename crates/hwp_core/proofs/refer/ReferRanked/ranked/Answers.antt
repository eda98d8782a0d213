use Rattle.hwp_core.proofs.refer.ReferRanked.ranked.Goals as goal
use Rattle.hwp_core.proofs.ReferCosts.{refer-ranked}

pub returns : goal.returns
returns c = refer-ranked
