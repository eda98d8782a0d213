use Rattle.hwp_evict.proofs.evict.EvictTask.who.Goals as goal
use Rattle.hwp_evict.proofs.EvictLaws.{lawful}

pub returns-clause-law : goal.returns-clause-law
returns-clause-law c = lawful
