use Rattle.std.proofs.Common.{◌≡◌, ◌+◌, take, arith}
use Rattle.hwp_check_frames.specs.Counts.{at_key}
use Rattle.hwp_check_frames.specs.Own.{marks_own}
use Rattle.hwp_check_frames.proofs.OwnLaws.{owns-front}
use Rattle.hwp_check_frames.proofs.own.add_owns.Goals as goal

pub add_own-requires : goal.add_own-requires
add_own-requires c = record {
  room = λ q.
      let had : at_key c.loop-mark.own q ≡ at_key c.args.own.now q + marks_own c.args.frame q (take c.loop-mark.mark-index c.args.marks.now) = c.loop-mark.invariant q in
      let low = owns-front c.args.frame q c.args.marks.now c.loop-mark.mark-index in
      let room = c.requires.room q in
      omega (arith, had, low, room);
}
