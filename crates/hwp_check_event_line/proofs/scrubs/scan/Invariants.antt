use Rattle.std.proofs.Common.{◌≡◌}
use Rattle.hwp_check_event_line.specs.Firsts.{IsScannedTo, shown_lines}
use Rattle.hwp_check_event_line.specs.Scrubbing.{IsRightIn, IsSound, course_of, reach_at}
use Rattle.hwp_check_event_line.proofs.scrubs.scan.Given as goal

abbrev pub invariant-loop-number : goal.invariant-loop-number
invariant-loop-number l =
    IsScannedTo (IsRightIn l.fn.script l.fn.report l.fn.who l.fn.how (course_of l.fn.table l.fn.range) l.fn.start (shown_lines l.fn.lines)) (shown_lines l.fn.lines) l.number l.wrong
    × (l.reach ≡ reach_at l.fn.report (course_of l.fn.table l.fn.range) l.fn.start (shown_lines l.fn.lines) l.number)
    × IsSound l.fn.range l.reach l.number
