use Rattle.hwp_cpu_access.proofs.instruction.InstructionTask.who.Goals as goal
use Rattle.hwp_cpu_access.proofs.InstructionLaws.{law}

pub returns-clause-law : goal.returns-clause-law
returns-clause-law c = law
