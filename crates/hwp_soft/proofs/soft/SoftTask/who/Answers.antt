use Rattle.hwp_soft.proofs.SoftFits.{lawful}
use Rattle.hwp_soft.proofs.soft.SoftTask.who.Goals as goal

pub returns-clause-law : goal.returns-clause-law
returns-clause-law c = lawful
