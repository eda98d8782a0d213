use Rattle.hwp_cpu_access.proofs.instruction.InstructionScheduled.tells.Goals as goal
use Rattle.hwp_fault.proofs.of_hwp_core_rule.tasks.Revivals.{lasting-pays}
use Rattle.hwp_cpu_access.proofs.InstructionRank.{instruction-lasting, instruction-tells}
use Rattle.hwp_cpu_access.specs.Fits.{task as instruction-task}

pub returns-clause-class : goal.returns-clause-class
returns-clause-class c = instruction-tells

pub returns-clause-pays : goal.returns-clause-pays
returns-clause-pays c = lasting-pays instruction-task instruction-lasting
