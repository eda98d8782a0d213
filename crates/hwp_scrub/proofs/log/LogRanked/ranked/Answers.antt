use Rattle.hwp_scrub.proofs.log.LogRanked.ranked.Goals as goal
use Rattle.hwp_scrub.proofs.LogLaws.{ranked}

pub returns : goal.returns
returns c = ranked
