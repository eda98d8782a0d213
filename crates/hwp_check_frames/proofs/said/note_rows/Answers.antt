use Rattle.std.proofs.Common.{◌++◌, take, arith}
use Rattle.hwp_check_frames.specs.Said.{rows_said}
use Rattle.hwp_check_frames.proofs.SaidLaws.{rows-next}
use Rattle.hwp_check_frames.proofs.said.note_rows.Goals as goal

pub loop-row-preserved : goal.loop-row-preserved
loop-row-preserved c = (
  λ f noted.
      rows-next c.args.cpu c.args.rows.now c.loop-row.row-index _ f _ _ c.loop-row-test.true
      (c.in_ok-note_row.ensures.noted (λ q. f q ++ rows_said c.args.cpu q (take c.loop-row.row-index c.args.rows.now)) (c.loop-row.invariant.0 f noted)),
  λ q.
      let few = c.in_ok-note_row.ensures.few q in
      let before = c.loop-row.invariant.1 q in
      omega (arith, few, before),
)
