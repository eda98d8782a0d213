use Rattle.std.proofs.Common.{◌≤◌, length, refl, sym, ◌∙◌, arith}
use Rattle.std.proofs.lemmas.List.{at_drop_all}
use Rattle.hwp_check_state.specs.Told.{walk}
use Rattle.hwp_check_state.proofs.ToldLaws.{walk-next}
use Rattle.hwp_check_state.proofs.told.told_fault.Goals as goal

pub loop-row-preserved : goal.loop-row-preserved
loop-row-preserved c =
    walk-next c.args.script.now c.args.report.now c.args.cpu c.args.commands.now c.args.rows.now c.loop-row.row-index _ _ c.loop-row.numbers.items _ c.loop-row.found _ _ _ _
    c.loop-row-test.true refl c.told_in-told.ensures c.seq_of.ensures c.raise_by.ensures.numbers c.raise_by.ensures.fault c.soonest-found.ensures
    ∙ c.loop-row.invariant

pub returns : goal.returns
returns c =
    let past : length c.args.rows.now ≤ c.loop-row.row-index = let e = c.loop-row-test.false in omega arith in
    sym (at_drop_all (walk c.args.script.now c.args.report.now c.args.cpu c.args.commands.now c.loop-row.numbers.items c.loop-row.found) c.args.rows.now c.loop-row.row-index past) ∙ c.loop-row.invariant
