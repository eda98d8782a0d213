use Rattle.std.proofs.Common.{inl, inr, rules}
use Rattle.hwp_check_event_line.specs.Nears.{runs}
use Rattle.hwp_check_event_line.proofs.NearSteps.{from-first, runs-first, runs-next}
use Rattle.hwp_check_event_line.proofs.nears.runs_of.Goals as goal
use Rattle.hwp_check_event_line.proofs.nears.runs_of.Goals.{then-says, else-says}

pub loop-place-init : goal.loop-place-init
loop-place-init c = runs-first c.args.marks.now c.in_ok-list.list.items (search rules)

pub loop-place-preserved : goal.loop-place-preserved
loop-place-preserved c =
    runs-next c.args.marks.now c.loop-place.place c.loop-place.run c.if-says.run c.loop-place.last c.says.result c.is_poisoning-last.result _ c.loop-place.list.items c.loop-place-test.true c.loop-place.auto.place
    c.loop-place.invariant.0 c.loop-place.invariant.1 c.loop-place.invariant.2 c.loop-place.invariant.3 c.loop-place.invariant.4 c.says.ensures c.is_poisoning-last.ensures
    (elim c.if-says.branch [ then-says w ↦ inl (w.if-says.true, w.run-is) | else-says w ↦ inr (w.if-says.false, w.run-is) ])

pub returns : goal.returns
returns c = from-first runs c.args.marks.now c.loop-place.list.items c.loop-place.place c.loop-place-test.false c.loop-place.invariant.4
