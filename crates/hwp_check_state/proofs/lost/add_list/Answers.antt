use Rattle.std.proofs.Common.{◌≤◌, length, ◌∙◌, arith}
use Rattle.hwp_check_state.proofs.LostLaws.{list-end, list-step}
use Rattle.hwp_check_state.proofs.lost.add_list.Goals as goal

pub loop-entry-preserved : goal.loop-entry-preserved
loop-entry-preserved c =
    list-step c.args.file c.args.entries.now c.loop-entry.entry-index _ c.entry-item.result c.loop-entry.out.items c.add_entry.new.out.items c.loop-entry-test.true c.entry-item.is c.in_ok-add_entry.ensures ∙ c.loop-entry.invariant

pub returns : goal.returns
returns c =
    let past : length c.args.entries.now ≤ c.loop-entry.entry-index = let e = c.loop-entry-test.false in omega arith in
    list-end c.args.file c.args.entries.now c.loop-entry.entry-index c.loop-entry.out.items past ∙ c.loop-entry.invariant
