use Rattle.std.proofs.Common.{rules}
use Rattle.hwp_check_event_line.specs.Nears.{lows}
use Rattle.hwp_check_event_line.proofs.NearSteps.{from-first, lows-first, lows-next}
use Rattle.hwp_check_event_line.proofs.nears.lows_of.Goals as goal

pub loop-place-init : goal.loop-place-init
loop-place-init c = lows-first c.args.cpu c.args.marks.now c.in_ok-list.list.items (search rules)

pub loop-place-preserved : goal.loop-place-preserved
loop-place-preserved c =
    lows-next c.args.cpu c.args.marks.now c.loop-place.place c.loop-place.low c.seq_by.result c.min-low.result _ c.loop-place.list.items c.loop-place-test.true c.loop-place.auto.place
    c.loop-place.invariant.0 c.loop-place.invariant.1 c.loop-place.invariant.2 c.seq_by.ensures c.min-low.ensures

pub returns : goal.returns
returns c = from-first (lows c.args.cpu) c.args.marks.now c.loop-place.list.items c.loop-place.place c.loop-place-test.false c.loop-place.invariant.2
