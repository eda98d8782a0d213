use Rattle.hwp_core.proofs.vacate.VacateRanked.ranked.Goals as goal
use Rattle.hwp_core.proofs.VacateCosts.{vacate-ranked}

pub returns : goal.returns
returns c = vacate-ranked
