use Rattle.std.proofs.Common.{◌≡◌, ◌+◌, ◌-◌}
use Rattle.hwp_check_event_line.specs.Scrubbing.{low_of}
use Rattle.hwp_check_event_line.specs.Scrubs.{bound_from}
use Rattle.hwp_check_event_line.proofs.judging.bound_of.Given as goal

abbrev pub invariant-loop-number : goal.invariant-loop-number
invariant-loop-number l =
    bound_from l.fn.report (low_of l.fn.table l.fn.whole) l.bound (l.fn.first + l.number) (l.fn.more - l.number) ≡ bound_from l.fn.report (low_of l.fn.table l.fn.whole) 0 l.fn.first l.fn.more
