use Rattle.hwp_evict.proofs.fsync.FsyncScheduled.tells.Goals as goal
use Rattle.hwp_core.proofs.of_hwp_core_rule.tasks.Revivals.{mild-pays}
use Rattle.hwp_evict.proofs.FsyncLaws.{fsync-mild, fsync-tells}
use Rattle.hwp_evict.specs.Fsyncs.{task as fsync-task}

pub returns-clause-class : goal.returns-clause-class
returns-clause-class c = fsync-tells

pub returns-clause-pays : goal.returns-clause-pays
returns-clause-pays c = mild-pays fsync-task fsync-mild
