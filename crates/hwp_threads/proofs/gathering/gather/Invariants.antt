use Rattle.std.proofs.Common.{length}
use Rattle.hwp_threads.proofs.SeatJoins.{SoFar}
use Rattle.hwp_threads.proofs.gathering.gather.Given as goal

abbrev pub invariant-loop-workers : goal.invariant-loop-workers
invariant-loop-workers g l = SoFar l.fn.sheet.table_id l.fn.pass.me.0.known l.fn.workers.items l.workers.items l.pass.table_id l.pass.me l.tasks.items

abbrev pub decreases-loop-workers : goal.decreases-loop-workers
decreases-loop-workers g l = length l.workers.items
