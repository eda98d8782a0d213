use Rattle.hwp_fault.proofs.fault.FaultRanked.ranked.Goals as goal
use Rattle.hwp_fault.proofs.FaultCosts.{fault-ranked}

pub returns : goal.returns
returns c = fault-ranked
