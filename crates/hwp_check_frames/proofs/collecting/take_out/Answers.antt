use Rattle.hwp_check_frames.proofs.CollectLaws.{taken-more}
use Rattle.hwp_check_frames.proofs.collecting.take_out.Goals as goal

pub loop-frame-preserved : goal.loop-frame-preserved
loop-frame-preserved c =
    taken-more c.args.collector.now c.loop-frame.collector _ c.args.notes.now c.loop-frame.frames _ c.loop-frame.frame-index _ _ c.loop-frame-test.true c.loop-frame.invariant c.note-goes.ensures c.in_ok-add_if.ensures
