use Rattle.hwp_fault.proofs.access.AccessRanked.ranked.Goals as goal
use Rattle.hwp_fault.proofs.AccessCosts.{access-ranked}

pub returns : goal.returns
returns c = access-ranked
