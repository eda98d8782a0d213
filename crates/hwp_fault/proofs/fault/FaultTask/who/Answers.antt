use Rattle.hwp_fault.proofs.fault.FaultTask.who.Goals as goal
use Rattle.hwp_fault.proofs.FaultLaws.{law}

pub returns-clause-law : goal.returns-clause-law
returns-clause-law c = law
