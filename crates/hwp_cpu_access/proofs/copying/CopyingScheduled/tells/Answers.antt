use Rattle.hwp_cpu_access.proofs.copying.CopyingScheduled.tells.Goals as goal
use Rattle.hwp_cpu_access.proofs.CopyRank.{copy-pays, copy-tells}

pub returns-clause-class : goal.returns-clause-class
returns-clause-class c = copy-tells

pub returns-clause-pays : goal.returns-clause-pays
returns-clause-pays c = copy-pays
