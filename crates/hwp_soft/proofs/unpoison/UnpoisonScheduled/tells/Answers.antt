use Rattle.hwp_soft.proofs.unpoison.UnpoisonScheduled.tells.Goals as goal
use Rattle.hwp_soft.proofs.UnpoisonCosts.{pays, tells}

pub returns-clause-class : goal.returns-clause-class
returns-clause-class c = tells

pub returns-clause-pays : goal.returns-clause-pays
returns-clause-pays c = pays
