use Rattle.std.proofs.Common.{◌≡◌, ◌+◌, ◌-◌, ◌≤◌}
use Rattle.hwp_check_event_line.specs.Scrubbing.{low_of}
use Rattle.hwp_check_event_line.specs.Scrubs.{marked_from}
use Rattle.hwp_check_event_line.proofs.scrubs.marked_from.Given as goal

abbrev pub invariant-loop-number : goal.invariant-loop-number
invariant-loop-number l =
    (l.count + marked_from (low_of l.fn.table l.fn.whole) (l.fn.place + l.number) (l.fn.more - l.number) ≡ marked_from (low_of l.fn.table l.fn.whole) l.fn.place l.fn.more) × (l.count ≤ l.number)
