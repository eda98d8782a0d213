use Rattle.hwp_soft_move.proofs.SeizeLaws.{can, stays}
use Rattle.hwp_soft_move.proofs.seize.SeizeTask.who.Goals as goal

pub returns-clause-law : goal.returns-clause-law
returns-clause-law c = record { can = can; stays = stays }
