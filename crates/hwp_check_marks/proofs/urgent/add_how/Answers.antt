use Rattle.hwp_check_frames.specs.Counts.{at_key}
use Rattle.hwp_check_marks.proofs.UrgentLaws.{urgent-step}
use Rattle.hwp_check_marks.proofs.urgent.add_how.Goals as goal

pub returns-in_ok-add_if-in-Failure : goal.returns-in_ok-add_if-in-Failure
returns-in_ok-add_if-in-Failure c =
    λ q.
    rw c.in-Failure.is (urgent-step c.args.rows.now (at_key c.args.had.now) c.args.frame q c.args.who c.in-Failure.hardware c.in-Failure.situation c.in-Failure.outcome (at_key c.args.urgent.now q) (at_key c.add_if.new.counts q)
    c.from.result c.count-place.result c.row_of.result c.asks_for-asks.result c.key_of.result c.from.ensures c.count-place.ensures c.row_of.ensures c.asks_for-asks.ensures c.key_of.ensures (c.in_ok-add_if-in-Failure.ensures q))
