use Rattle.hwp_evict.proofs.evict.EvictScheduled.tells.Goals as goal
use Rattle.hwp_core.proofs.of_hwp_core_rule.tasks.Revivals.{mild-pays}
use Rattle.hwp_evict.proofs.EvictCosts.{evict-mild, evict-tells}
use Rattle.hwp_evict.specs.Evicts.{task as evict-task}

pub returns-clause-class : goal.returns-clause-class
returns-clause-class c = evict-tells

pub returns-clause-pays : goal.returns-clause-pays
returns-clause-pays c = mild-pays evict-task evict-mild
