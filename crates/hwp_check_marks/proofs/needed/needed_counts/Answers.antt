use Rattle.std.proofs.Common.{◌≡◌, take, arith}
use Rattle.hwp_check_frames.specs.Counts.{at_key}
use Rattle.hwp_check_marks.specs.Needed.{pages_needed}
use Rattle.hwp_check_marks.proofs.NeededLaws.{needed-room}
use Rattle.hwp_check_marks.proofs.needed.needed_counts.Goals as goal

pub add_page-requires : goal.add_page-requires
add_page-requires c = record {
  room = λ q.
      let had : at_key c.loop-entries.counts q ≡ pages_needed q (take c.loop-entries.entries-index c.args.pages.now) = c.loop-entries.invariant q in
      let low = needed-room q c.args.pages.now c.loop-entries.entries-index _ c.entries-item.result c.as_slice.result.now c.loop-entries-test.true c.entries-item.is c.as_slice.ensures in
      omega (arith, had, low, c.requires.small);
}
