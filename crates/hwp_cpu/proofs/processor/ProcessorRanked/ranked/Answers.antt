use Rattle.hwp_cpu.proofs.processor.ProcessorRanked.ranked.Goals as goal
use Rattle.hwp_cpu.proofs.ProcessorCosts.{ranked}

pub returns : goal.returns
returns c = ranked
