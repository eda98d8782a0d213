use Rattle.hwp_core.proofs.release.ReleaseRanked.ranked.Goals as goal
use Rattle.hwp_core.proofs.TaskCosts.{release-ranked}

pub returns : goal.returns
returns c = release-ranked
