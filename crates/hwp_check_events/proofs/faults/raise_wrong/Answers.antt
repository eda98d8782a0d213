use Rattle.std.proofs.Common.{rules}
use Rattle.hwp_check_events.proofs.RaiseLaws.{second-wrong}
use Rattle.hwp_check_events.proofs.faults.raise_wrong.Goals as goal

pub returns-then-lines-gt1 : goal.returns-then-lines-gt1
returns-then-lines-gt1 c =
    second-wrong c.args.script.now c.args.report.now c.args.who c.args.how c.args.raw c.args.lines.now _ c.may_stop-held.result c.if-lines-gt1.true c.may_stop-held.ensures (c.if-not-is_raw_line.ensures.0 (search rules))
