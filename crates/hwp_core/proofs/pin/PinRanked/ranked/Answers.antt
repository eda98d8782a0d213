use Rattle.hwp_core.proofs.pin.PinRanked.ranked.Goals as goal
use Rattle.hwp_core.proofs.TaskCosts.{pin-ranked}

pub returns : goal.returns
returns c = pin-ranked
