use Rattle.hwp_check_event_line.specs.Scrubbing.{low_of}
use Rattle.hwp_check_event_line.specs.Scrubs.{bound_from}
use Rattle.hwp_check_event_line.proofs.Bounds.{bound-next}
use Rattle.hwp_check_event_line.proofs.judging.bound_of.Goals as goal

pub loop-number-preserved : goal.loop-number-preserved
loop-number-preserved c =
    bound-next c.args.report.now (low_of c.args.table.now c.args.whole) c.args.first c.args.more c.loop-number.number c.loop-number.bound c.bound_by-bound.result (bound_from c.args.report.now (low_of c.args.table.now c.args.whole) 0 c.args.first c.args.more)
    c.loop-number-test.true c.bound_by-bound.ensures c.loop-number.invariant
