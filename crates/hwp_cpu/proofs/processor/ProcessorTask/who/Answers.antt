use Rattle.hwp_cpu.proofs.processor.ProcessorTask.who.Goals as goal
use Rattle.hwp_cpu.proofs.ProcessorLaws.{can, stays}

pub returns-in-Some-clause-law : goal.returns-in-Some-clause-law
returns-in-Some-clause-law c = record { can = can; stays = stays }

pub returns-in-None-clause-law : goal.returns-in-None-clause-law
returns-in-None-clause-law c = record { can = can; stays = stays }
