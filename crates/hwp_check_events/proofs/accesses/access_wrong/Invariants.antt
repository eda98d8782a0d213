use Rattle.std.proofs.Common.{◌≤◌}
use Rattle.hwp_check_event_line.specs.Accesses.{IsAccessLine}
use Rattle.hwp_check_events.specs.Met.{access_by}
use Rattle.hwp_check_event_line.specs.Firsts.{AreRightTo, shown_lines}
use Rattle.hwp_check_events.proofs.accesses.access_wrong.Given as goal

abbrev pub invariant-loop-number : goal.invariant-loop-number
invariant-loop-number l = (1 ≤ l.number) × AreRightTo (IsAccessLine l.fn.script l.fn.report l.fn.who l.fn.how (access_by l.fn.checks l.fn.copied l.fn.raw) (shown_lines l.fn.lines)) (shown_lines l.fn.lines) l.number
