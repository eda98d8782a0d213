use Rattle.std.proofs.Common.{◌≤◌, length}
use Rattle.hwp_check_event_line.proofs.ResultLaws.{all-kept, kept-next}
use Rattle.hwp_check_event_line.proofs.results.results_of.Goals as goal

pub loop-frame-preserved : goal.loop-frame-preserved
loop-frame-preserved c =
    kept-next c.args.cpu c.args.frames.now c.loop-frame.frame c.marks_at.result.now c.loop-frame.keys c.add_marks.new.keys c.marks_at.ensures c.loop-frame.invariant c.in_ok-add_marks.ensures

pub returns : goal.returns
returns c =
    let end : length c.args.frames.now ≤ c.loop-frame.frame = c.loop-frame-test.false in
    record { each = all-kept c.args.cpu c.args.frames.now c.loop-frame.frame c.loop-frame.keys end c.loop-frame.invariant }
