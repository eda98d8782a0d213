use Rattle.hwp_cpu_control.proofs.prctl.PrctlRanked.ranked.Goals as goal
use Rattle.hwp_cpu_control.proofs.PrctlLaws.{ranked}

pub returns : goal.returns
returns c = ranked
