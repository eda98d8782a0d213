use Rattle.std.proofs.lemmas.Option.{slice_get-get_or}
use Rattle.hwp_check_answers.proofs.InPlace.{so-far-end, so-far-next, so-far-start}
use Rattle.hwp_check_answers.proofs.placing.answered.Goals as goal

pub loop-row-preserved : goal.loop-row-preserved
loop-row-preserved c =
    rw (c.mark.ensures) (so-far-next c.args.commands c.args.rows.now c.loop-row.row-index c.loop-row.flags.items _ (slice_get-get_or c.args.rows.now c.loop-row.row-index _ c.loop-row-test.true) c.loop-row.invariant)

pub loop-row-init : goal.loop-row-init
loop-row-init c = rw (c.in_ok-flags.ensures.items_if_clones_equal) (so-far-start c.args.commands c.args.rows.now)

pub returns : goal.returns
returns c = so-far-end c.args.commands c.args.rows.now c.loop-row.row-index c.loop-row.flags.items c.loop-row-test.false c.loop-row.invariant
