use Rattle.hwp_soft_move.proofs.DiscardLaws.{discard-ranked}
use Rattle.hwp_soft_move.proofs.discard.DiscardRanked.ranked.Goals as goal

pub returns : goal.returns
returns c = discard-ranked
