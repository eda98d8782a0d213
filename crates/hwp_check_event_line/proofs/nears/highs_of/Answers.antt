use Rattle.std.proofs.Common.{◌≡◌, max, rules}
use Rattle.hwp_check_event_line.proofs.NearSteps.{highs-all, highs-next}
use Rattle.hwp_check_event_line.proofs.nears.highs_of.Goals as goal

pub loop-mark-preserved : goal.loop-mark-preserved
loop-mark-preserved c =
    let higher : c.max-high.result ≡ max c.loop-mark.high c.seq_by.result = search rules in
    highs-next c.args.cpu c.args.marks.now c.loop-mark.mark-index c.loop-mark.high c.seq_by.result c.max-high.result _ c.loop-mark.list.items c.push.new.self.items _ c.loop-mark-test.true
    c.seq_by.ensures higher c.in_ok-push.ensures.items c.loop-mark.invariant

pub returns : goal.returns
returns c = highs-all c.args.cpu c.args.marks.now c.loop-mark.mark-index c.loop-mark.high c.loop-mark.list.items _ c.loop-mark-test.false c.loop-mark.invariant
