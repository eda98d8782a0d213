use Rattle.hwp_cpu_control.proofs.denied.DeniedRanked.ranked.Goals as goal
use Rattle.hwp_cpu_control.proofs.DeniedLaws.{ranked}

pub returns : goal.returns
returns c = ranked
