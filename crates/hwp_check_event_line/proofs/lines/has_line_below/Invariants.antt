use Rattle.std.proofs.Common.{◌≡◌}
use Rattle.hwp_check_event_line.specs.Scrubs.{has_line_below}
use Rattle.hwp_check_event_line.proofs.lines.has_line_below.Given as goal

abbrev pub invariant-loop-line : goal.invariant-loop-line
invariant-loop-line l = l.found ≡ has_line_below l.fn.mask l.line
