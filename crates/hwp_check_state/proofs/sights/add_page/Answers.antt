use Rattle.std.proofs.Common.{◌≤◌, length, arith}
use Rattle.hwp_check_rules.specs.Standing.{entry_height}
use Rattle.hwp_check_state.proofs.SightSteps.{page-end, page-step, room-more}
use Rattle.hwp_check_state.proofs.sights.add_page.Goals as goal

pub add_entry-requires : goal.add_entry-requires
add_entry-requires c = record {
  room = room-more entry_height c.args.entries.now c.args.first c.loop-entry.line c.loop-entry.entry-index _ c.entry-item.result c.loop-entry-test.true c.entry-item.is c.loop-entry.invariant.0 c.requires.room;
}

pub loop-entry-preserved : goal.loop-entry-preserved
loop-entry-preserved c =
    page-step c.args.entries.now c.args.first c.loop-entry.line c.loop-entry.entry-index _ c.entry-item.result c.args.out.now.items c.loop-entry.out.items c.add_entry.new.out.items c.entry_height-line.result c.loop-entry-test.true c.entry-item.is c.entry_height-line.ensures c.in_ok-add_entry.ensures
    c.loop-entry.invariant

pub returns-clause-line : goal.returns-clause-line
returns-clause-line c =
    let past : length c.args.entries.now ≤ c.loop-entry.entry-index = let e = c.loop-entry-test.false in omega arith in
    (page-end c.args.entries.now c.args.first c.loop-entry.line c.loop-entry.entry-index c.args.out.now.items c.loop-entry.out.items past c.loop-entry.invariant).0

pub returns-clause-sights : goal.returns-clause-sights
returns-clause-sights c =
    let past : length c.args.entries.now ≤ c.loop-entry.entry-index = let e = c.loop-entry-test.false in omega arith in
    (page-end c.args.entries.now c.args.first c.loop-entry.line c.loop-entry.entry-index c.args.out.now.items c.loop-entry.out.items past c.loop-entry.invariant).1
