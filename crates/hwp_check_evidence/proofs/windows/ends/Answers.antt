use Rattle.std.proofs.Common.{ap, ◌∙◌}
use Rattle.hwp_check_evidence.specs.Windows.{came_to}
use Rattle.hwp_check_evidence.proofs.SpanLaws.{ends-all, ends-next}
use Rattle.hwp_check_evidence.proofs.windows.ends.Goals as goal

pub loop-entry-preserved : goal.loop-entry-preserved
loop-entry-preserved c =
    ends-next c.args.cpu c.args.entries.now c.loop-entry.entry-index c.loop-entry.end c.came_to-end.result c.entry-item.result c.loop-entry.list _ _ c.loop-entry-test.true (c.came_to-end.ensures ∙ ap (came_to c.args.cpu c.loop-entry.end) c.entry-item.is) c.in_ok-push.ensures c.loop-entry.invariant

pub returns : goal.returns
returns c = ends-all c.args.cpu c.args.entries.now c.loop-entry.entry-index c.loop-entry.end c.loop-entry.list _ _ c.loop-entry-test.false c.in_ok-push-2.ensures c.loop-entry.invariant
