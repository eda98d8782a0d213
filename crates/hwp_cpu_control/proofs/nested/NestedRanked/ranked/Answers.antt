use Rattle.hwp_cpu_control.proofs.nested.NestedRanked.ranked.Goals as goal
use Rattle.hwp_cpu_control.proofs.NestedLaws.{ranked}

pub returns : goal.returns
returns c = ranked
