use Rattle.hwp_fault.proofs.access.AccessTask.who.Goals as goal
use Rattle.hwp_fault.proofs.AccessLaws.{law}

pub returns-clause-law : goal.returns-clause-law
returns-clause-law c = law
