use Rattle.std.proofs.Common.{◌≡◌, ◌+◌, take, arith}
use Rattle.hwp_check_frames.specs.Counts.{at_key}
use Rattle.hwp_check_marks.specs.Tallies.{page_raise}
use Rattle.hwp_check_marks.proofs.TallyLaws.{entries-front-low}
use Rattle.hwp_check_marks.proofs.tallies.add_entries.Goals as goal

pub add_entry-requires : goal.add_entry-requires
add_entry-requires c = record {
  room = λ q.
      let had : at_key c.loop-entry.counts q ≡ at_key c.args.counts.now q + page_raise q (take c.loop-entry.entry-index c.args.entries.now) = c.loop-entry.invariant q in
      let low = entries-front-low q c.args.entries.now c.loop-entry.entry-index c.loop-entry-test.true in
      let room = c.requires.room q in
      omega (arith, had, low, room);
}
