use Rattle.std.proofs.Common.{◌≡◌, ◌+◌, take, arith}
use Rattle.hwp_check_frames.specs.Counts.{at_key}
use Rattle.hwp_check_marks.specs.Needed.{page_needed}
use Rattle.hwp_check_marks.proofs.NeededLaws.{needed-front-low}
use Rattle.hwp_check_marks.proofs.needed.add_page.Goals as goal

pub add_needed-requires : goal.add_needed-requires
add_needed-requires c = record {
  room = λ q.
      let had : at_key c.loop-entry.counts q ≡ at_key c.args.counts.now q + page_needed q (take c.loop-entry.entry-index c.args.entries.now) = c.loop-entry.invariant q in
      let low = needed-front-low q c.args.entries.now c.loop-entry.entry-index c.loop-entry-test.true in
      let room = c.requires.room q in
      omega (arith, had, low, room);
}
