use Rattle.hwp_cpu_access.proofs.instruction.InstructionRanked.ranked.Goals as goal
use Rattle.hwp_cpu_access.proofs.InstructionRank.{instruction-ranked}

pub returns : goal.returns
returns c = instruction-ranked
