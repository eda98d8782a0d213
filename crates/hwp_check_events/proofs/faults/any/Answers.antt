use Rattle.std.proofs.Common.{rules}
use Rattle.hwp_check_event_line.proofs.LineScans.{some-wrong}
use Rattle.hwp_check_events.proofs.faults.any.Goals as goal

pub returns-else-is_empty : goal.returns-else-is_empty
returns-else-is_empty c = some-wrong c.args.lines.now (search rules)
