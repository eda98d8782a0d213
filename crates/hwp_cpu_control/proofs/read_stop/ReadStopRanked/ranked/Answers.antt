use Rattle.hwp_cpu_control.proofs.read_stop.ReadStopRanked.ranked.Goals as goal
use Rattle.hwp_cpu_control.proofs.ReadStopLaws.{ranked}

pub returns : goal.returns
returns c = ranked
