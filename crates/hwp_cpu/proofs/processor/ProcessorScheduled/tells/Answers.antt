use Rattle.hwp_cpu.proofs.processor.ProcessorScheduled.tells.Goals as goal
use Rattle.hwp_cpu.proofs.ProcessorCosts.{pays}
use Rattle.hwp_cpu.proofs.ProcessorTells.{tells}

pub returns-clause-class : goal.returns-clause-class
returns-clause-class c = tells

pub returns-clause-pays : goal.returns-clause-pays
returns-clause-pays c = pays
