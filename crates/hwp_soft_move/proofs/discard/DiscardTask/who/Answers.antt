use Rattle.hwp_soft_move.proofs.DiscardLaws.{can, stays}
use Rattle.hwp_soft_move.proofs.discard.DiscardTask.who.Goals as goal

pub returns-clause-law : goal.returns-clause-law
returns-clause-law c = record { can = can; stays = stays }
