use Rattle.hwp_soft_move.proofs.RelocateLaws.{lawful}
use Rattle.hwp_soft_move.proofs.relocate.RelocateTask.who.Goals as goal

pub returns-clause-law : goal.returns-clause-law
returns-clause-law c = lawful
