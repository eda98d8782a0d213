use Rattle.hwp_check_frames.proofs.NoteLoop.{noted_next}
use Rattle.hwp_check_frames.proofs.notes.add_noted.Goals as goal

pub loop-shown-preserved : goal.loop-shown-preserved
loop-shown-preserved c =
    noted_next c.args.layout.now c.args.lines.now c.loop-shown.shown-index _ c.args.frames.now.items c.loop-shown.frames.items _ c.noted_frame.result c.loop-shown-test.true c.loop-shown.invariant c.noted_frame.ensures c.in_ok-add_frame.ensures
