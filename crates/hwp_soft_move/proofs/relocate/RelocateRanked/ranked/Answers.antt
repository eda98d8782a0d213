use Rattle.hwp_soft_move.proofs.RelocateCosts.{relocate-ranked}
use Rattle.hwp_soft_move.proofs.relocate.RelocateRanked.ranked.Goals as goal

pub returns : goal.returns
returns c = relocate-ranked
