use Rattle.hwp_cpu_access.proofs.copying.CopyingRanked.ranked.Goals as goal
use Rattle.hwp_cpu_access.proofs.CopyRank.{copy-ranked}

pub returns : goal.returns
returns c = copy-ranked
