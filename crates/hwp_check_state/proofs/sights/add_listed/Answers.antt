use Rattle.std.proofs.Common.{◌≤◌, length, refl, arith}
use Rattle.hwp_check_state.proofs.SightSteps.{listed-end, listed-step}
use Rattle.hwp_check_state.proofs.sights.add_listed.Goals as goal

pub loop-seen-preserved : goal.loop-seen-preserved
loop-seen-preserved c =
    listed-step c.args.who c.args.list.now c.args.first c.loop-seen.line c.loop-seen.seen-index _ _ c.args.out.now.items c.loop-seen.out.items c.push.new.self.items c.loop-seen-test.true refl c.in_ok-push.ensures.items
    c.loop-seen.invariant

pub returns : goal.returns
returns c =
    let past : length c.args.list.now ≤ c.loop-seen.seen-index = let e = c.loop-seen-test.false in omega arith in
    listed-end c.args.who c.args.list.now c.args.first c.loop-seen.line c.loop-seen.seen-index c.args.out.now.items c.loop-seen.out.items past c.loop-seen.invariant
