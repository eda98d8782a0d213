use Rattle.std.proofs.Common.{arith}
use Rattle.hwp_check_frames.specs.Counts.{at_key}
use Rattle.hwp_check_marks.proofs.UrgentLaws.{marks-most, marks-next, own-next}
use Rattle.hwp_check_marks.proofs.urgent.add_marks.Goals as goal

pub add_mark-requires : goal.add_mark-requires
add_mark-requires c = record {
  room = λ q.
      let was = c.loop-mark.invariant.0 q in
      let most = marks-most c.args.rows.now (λ x. 0) c.args.frame q c.args.marks.now in
      let room = c.requires.room q in
      omega (arith, was, most, room);
}

pub loop-mark-preserved : goal.loop-mark-preserved
loop-mark-preserved c = (
  λ q.
      marks-next c.args.rows.now (at_key c.loop-mark.had) (at_key c.add_own.new.own) c.args.frame q c.args.marks.now c.loop-mark.mark-index _ (at_key c.loop-mark.urgent q) (at_key c.add_mark.new.urgent q) _ c.loop-mark-test.true
      c.in_ok-add_own.ensures (c.in_ok-add_mark.ensures q) (c.loop-mark.invariant.0 q),
  λ q. own-next c.args.rows.now c.args.frame q _ (at_key c.loop-mark.had q) (at_key c.add_own.new.own q) c.loop-mark.mark-index (c.in_ok-add_own.ensures q) (c.loop-mark.invariant.1 q),
)
