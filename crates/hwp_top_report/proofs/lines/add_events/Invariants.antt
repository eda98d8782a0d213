use Rattle.std.proofs.Common.{◌≡◌, ◌++◌, map, take}
use Rattle.hwp_law_served.specs.Rows.{event_line}
use Rattle.hwp_top_report.proofs.lines.add_events.Given as goal

abbrev pub invariant-loop-event : goal.invariant-loop-event
invariant-loop-event l = l.lines.items ≡ l.fn.lines.items ++ map (event_line l.fn.seq) (take l.event-index l.fn.told)
