use Rattle.hwp_top_report.proofs.RecordLaws.{on-first, on-last, on-next}
use Rattle.hwp_top_report.proofs.records.add_all.Goals as goal

pub loop-place-init : goal.loop-place-init
loop-place-init c = on-first c.args.own.now c.args.records.now.items

pub loop-place-preserved : goal.loop-place-preserved
loop-place-preserved c = on-next c.args.own.now c.loop-place.place c.args.records.now.items c.loop-place.records.items c.add.new.records.items _ c.loop-place-test.true c.in_ok-add.ensures c.loop-place.invariant

pub returns : goal.returns
returns c = on-last c.args.own.now c.loop-place.place c.args.records.now.items c.loop-place.records.items c.loop-place-test.false c.loop-place.invariant
