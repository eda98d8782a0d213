use Rattle.hwp_check_marks.proofs.LackLaws.{pages-next}
use Rattle.hwp_check_marks.proofs.lacking.lowest_in.Goals as goal

pub loop-entries-preserved : goal.loop-entries-preserved
loop-entries-preserved c =
    pages-next _ _ c.loop-entries.lowest c.lowest_entry-lowest.result _ c.args.pages.now c.loop-entries.entries-index _ c.entries-item.result c.as_slice.result.now c.loop-entries-test.true c.entries-item.is c.as_slice.ensures
    c.lowest_entry-lowest.ensures c.loop-entries.invariant
