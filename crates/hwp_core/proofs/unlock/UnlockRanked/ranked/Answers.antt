use Rattle.hwp_core.proofs.unlock.UnlockRanked.ranked.Goals as goal
use Rattle.hwp_core.proofs.UnlockLaws.{unlock-ranked}

pub returns : goal.returns
returns c = unlock-ranked
