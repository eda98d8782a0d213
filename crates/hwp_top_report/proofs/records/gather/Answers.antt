use Rattle.std.proofs.Common.{◌∙◌}
use Rattle.hwp_top_report.proofs.RecordLaws.{gathered-first, gathered-last, gathered-next}
use Rattle.hwp_top_report.proofs.records.gather.Goals as goal

pub loop-cpu-init : goal.loop-cpu-init
loop-cpu-init c = gathered-first c.args.notes.now c.args.count c.in_ok-records.records.items c.in_ok-records.ensures

pub loop-cpu-preserved : goal.loop-cpu-preserved
loop-cpu-preserved c =
    gathered-next c.args.notes.now c.args.count c.loop-cpu.cpu c.loop-cpu.records.items c.add_all.new.records.items c.as_slice.result.now _ c.loop-cpu-test.true (c.as_slice.ensures ∙ c.index-notes-cpu.is) c.in_ok-add_all.ensures c.loop-cpu.invariant

pub returns : goal.returns
returns c = gathered-last c.args.notes.now c.args.count c.loop-cpu.cpu c.loop-cpu.records.items c.loop-cpu-test.false c.loop-cpu.invariant
