use Rattle.hwp_cpu_control.proofs.fork.ForkRanked.ranked.Goals as goal
use Rattle.hwp_cpu_control.proofs.ForkLaws.{ranked}

pub returns : goal.returns
returns c = ranked
