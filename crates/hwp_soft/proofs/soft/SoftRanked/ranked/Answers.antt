use Rattle.hwp_soft.proofs.SoftRank.{soft-ranked}
use Rattle.hwp_soft.proofs.soft.SoftRanked.ranked.Goals as goal

pub returns : goal.returns
returns c = soft-ranked
