use Rattle.hwp_cpu_control.proofs.spoil.SpoilRanked.ranked.Goals as goal
use Rattle.hwp_cpu_control.proofs.SpoilLaws.{ranked}

pub returns : goal.returns
returns c = ranked
