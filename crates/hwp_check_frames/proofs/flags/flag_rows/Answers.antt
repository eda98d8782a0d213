use Rattle.std.proofs.Common.{◌≡◌, ◌∙◌, length, arith}
use Rattle.hwp_check_frames.proofs.FlagLaws.{rows-next}
use Rattle.hwp_check_frames.proofs.flags.flag_rows.Goals as goal

pub loop-row-preserved : goal.loop-row-preserved
loop-row-preserved c = (
  c.flag_row.ensures.each ∙ c.loop-row.invariant.0,
  λ frame d within.
      rows-next c.args.own.now c.args.many.now c.args.cpu frame c.args.rows.now c.loop-row.row-index _ _ _ _ c.loop-row-test.true
      (c.flag_row.ensures.is frame d (let same : length c.loop-row.flags.items ≡ length c.args.flags.now.items = c.loop-row.invariant.0 in omega (arith, within, same))) (c.loop-row.invariant.1 frame d within),
)
