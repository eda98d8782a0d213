use Rattle.hwp_cpu_access.proofs.copying.CopyingTask.who.Goals as goal
use Rattle.hwp_cpu_access.proofs.CopyLaws.{law}

pub returns-clause-law : goal.returns-clause-law
returns-clause-law c = law
