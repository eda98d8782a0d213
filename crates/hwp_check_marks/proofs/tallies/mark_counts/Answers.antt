use Rattle.std.proofs.Common.{◌≡◌, take, arith}
use Rattle.hwp_check_frames.specs.Counts.{at_key}
use Rattle.hwp_check_marks.specs.Tallies.{frames_raise}
use Rattle.hwp_check_marks.proofs.TallyLaws.{frames-room}
use Rattle.hwp_check_marks.proofs.tallies.mark_counts.Goals as goal

pub add_marks-requires : goal.add_marks-requires
add_marks-requires c = record {
  room = λ q.
      let had : at_key c.loop-frame.counts q ≡ frames_raise q (take c.loop-frame.frame-index c.args.frames.now) = c.loop-frame.invariant q in
      let low = frames-room q c.args.frames.now c.loop-frame.frame-index _ c.frame-item.result c.as_slice.result.now c.loop-frame-test.true c.frame-item.is c.as_slice.ensures in
      omega (arith, had, low, c.requires.small);
}
