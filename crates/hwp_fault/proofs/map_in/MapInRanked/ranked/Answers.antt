use Rattle.hwp_fault.proofs.map_in.MapInRanked.ranked.Goals as goal
use Rattle.hwp_fault.proofs.MapInCosts.{map-in-ranked}

pub returns : goal.returns
returns c = map-in-ranked
