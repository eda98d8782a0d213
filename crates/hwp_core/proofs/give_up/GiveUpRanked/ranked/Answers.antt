use Rattle.hwp_core.proofs.give_up.GiveUpRanked.ranked.Goals as goal
use Rattle.hwp_core.proofs.GiveUpCosts.{give-up-ranked}

pub returns : goal.returns
returns c = give-up-ranked
