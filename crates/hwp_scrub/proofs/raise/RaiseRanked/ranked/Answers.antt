use Rattle.hwp_scrub.proofs.raise.RaiseRanked.ranked.Goals as goal
use Rattle.hwp_scrub.proofs.RaiseRank.{raise-ranked}

pub returns : goal.returns
returns c = raise-ranked
