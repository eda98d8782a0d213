use Rattle.hwp_scrub.proofs.scrub.ScrubRanked.ranked.Goals as goal
use Rattle.hwp_scrub.proofs.ScrubRank.{scrub-ranked}

pub returns : goal.returns
returns c = scrub-ranked
