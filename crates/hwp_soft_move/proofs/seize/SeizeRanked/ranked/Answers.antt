use Rattle.hwp_soft_move.proofs.SeizeCosts.{seize-ranked}
use Rattle.hwp_soft_move.proofs.seize.SeizeRanked.ranked.Goals as goal

pub returns : goal.returns
returns c = seize-ranked
