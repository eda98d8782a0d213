use Rattle.hwp_core.proofs.clear.ClearRanked.ranked.Goals as goal
use Rattle.hwp_core.proofs.ClearLaws.{clear-ranked}

pub returns : goal.returns
returns c = clear-ranked
