use Rattle.std.proofs.Common.{◌≡◌, ◌+◌, take, arith}
use Rattle.hwp_check_frames.specs.Counts.{at_key}
use Rattle.hwp_check_marks.specs.Spots.{marks_told}
use Rattle.hwp_check_marks.proofs.SpotLaws.{marks-front}
use Rattle.hwp_check_marks.proofs.spots.add_marks.Goals as goal

pub add_mark-requires : goal.add_mark-requires
add_mark-requires c = record {
  room = λ q.
      let had : at_key c.loop-mark.marks q ≡ at_key c.args.marks.now q + marks_told c.args.lines.now c.args.frame q (take c.loop-mark.mark-index c.args.list.now) = c.loop-mark.invariant q in
      let low = marks-front c.args.lines.now c.args.frame q c.args.list.now c.loop-mark.mark-index in
      let room = c.requires.room q in
      omega (arith, had, low, room);
}
