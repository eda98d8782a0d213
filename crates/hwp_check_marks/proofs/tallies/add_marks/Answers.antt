use Rattle.std.proofs.Common.{◌≡◌, ◌+◌, take, arith}
use Rattle.hwp_check_frames.specs.Counts.{at_key}
use Rattle.hwp_check_marks.specs.Tallies.{marks_raise}
use Rattle.hwp_check_marks.proofs.TallyLaws.{front-low}
use Rattle.hwp_check_marks.proofs.tallies.add_marks.Goals as goal

pub add_mark-requires : goal.add_mark-requires
add_mark-requires c = record {
  room = λ q.
      let had : at_key c.loop-mark.counts q ≡ at_key c.args.counts.now q + marks_raise q (take c.loop-mark.mark-index c.args.marks.now) = c.loop-mark.invariant q in
      let low = front-low q c.args.marks.now c.loop-mark.mark-index in
      let room = c.requires.room q in
      omega (arith, had, low, room);
}
