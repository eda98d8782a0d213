use Rattle.std.proofs.Common.{◌≤◌, ◌∙◌, length, arith}
use Rattle.hwp_check_state.proofs.SightSteps.{pages-end, pages-step}
use Rattle.hwp_check_state.proofs.sights.add_pages.Goals as goal

pub loop-entries-preserved : goal.loop-entries-preserved
loop-entries-preserved c =
    pages-step c.args.pages.now c.args.first c.loop-entries.line c.in_ok-line.line c.loop-entries.entries-index _ c.as_slice.result.now c.args.out.now.items c.loop-entries.out.items c.add_page.new.out.items c.loop-entries-test.true (c.as_slice.ensures ∙ c.entries-item.is) c.in_ok-line.ensures.line c.in_ok-line.ensures.sights
    c.loop-entries.invariant

pub returns : goal.returns
returns c =
    let past : length c.args.pages.now ≤ c.loop-entries.entries-index = let e = c.loop-entries-test.false in omega arith in
    pages-end c.args.pages.now c.args.first c.loop-entries.line c.loop-entries.entries-index c.args.out.now.items c.loop-entries.out.items past c.loop-entries.invariant
