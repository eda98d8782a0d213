use Rattle.hwp_check_events.proofs.IndexLaws.{so-first, so-last, so-next}
use Rattle.hwp_check_events.proofs.index.events_by_command.Goals as goal

pub loop-place-init : goal.loop-place-init
loop-place-init c = so-first c.args.rows.now c.args.count c.in_ok-lists.lists.items c.in_ok-lists.ensures

pub loop-place-preserved : goal.loop-place-preserved
loop-place-preserved c =
    so-next c.args.rows.now c.args.count c.loop-place.place c.loop-place.lists.items c.add.new.lists.items c.shown_at.result _ c.loop-place-test.true c.shown_at.ensures c.in_ok-add.ensures c.loop-place.invariant

pub returns : goal.returns
returns c = so-last c.args.rows.now c.args.count c.loop-place.place c.loop-place.lists.items c.loop-place-test.false c.loop-place.invariant
