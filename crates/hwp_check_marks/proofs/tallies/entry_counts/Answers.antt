use Rattle.std.proofs.Common.{◌≡◌, take, arith}
use Rattle.hwp_check_frames.specs.Counts.{at_key}
use Rattle.hwp_check_marks.specs.Tallies.{pages_raise}
use Rattle.hwp_check_marks.proofs.TallyLaws.{pages-room}
use Rattle.hwp_check_marks.proofs.tallies.entry_counts.Goals as goal

pub add_entries-requires : goal.add_entries-requires
add_entries-requires c = record {
  room = λ q.
      let had : at_key c.loop-entries.counts q ≡ pages_raise q (take c.loop-entries.entries-index c.args.pages.now) = c.loop-entries.invariant q in
      let low = pages-room q c.args.pages.now c.loop-entries.entries-index _ c.entries-item.result c.as_slice.result.now c.loop-entries-test.true c.entries-item.is c.as_slice.ensures in
      omega (arith, had, low, c.requires.small);
}
