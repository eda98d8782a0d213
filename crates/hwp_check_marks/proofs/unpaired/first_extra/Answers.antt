use Rattle.std.proofs.Common.{refl, arith}
use Rattle.hwp_check_marks.proofs.MarkExtras.{counted-next, counts-room, extra-here, extra-not}
use Rattle.hwp_check_marks.proofs.unpaired.first_extra.Goals as goal

pub returns-then-is_over-clause-found : goal.returns-then-is_over-clause-found
returns-then-is_over-clause-found c =
    extra-here c.args.report.now c.args.above.now c.args.marks.now c.loop-place.place _ _ c.args.entries.now c.loop-place.had c.is_over.result c.requires.entries c.loop-place.invariant.0 c.loop-place.invariant.1
    c.loop-place-test.true refl c.is_over.ensures c.if-is_over.true

pub add_mark-requires : goal.add_mark-requires
add_mark-requires c = record {
  room = λ q.
      let low = counts-room c.args.above.now c.args.marks.now c.loop-place.place c.loop-place.had c.loop-place.invariant.0 q in
      omega (arith, low, c.requires.small);
}

pub loop-place-preserved : goal.loop-place-preserved
loop-place-preserved c = (
  counted-next c.args.above.now c.args.marks.now c.loop-place.place _ _ c.loop-place.had c.add_mark.new.counts c.loop-place-test.true refl c.loop-place.invariant.0 c.in_ok-add_mark.ensures,
  extra-not c.args.report.now c.args.above.now c.args.marks.now c.loop-place.place _ _ c.args.entries.now c.loop-place.had c.is_over.result c.requires.entries c.loop-place.invariant.0 c.loop-place.invariant.1
      c.loop-place-test.true refl c.is_over.ensures c.if-is_over.false,
)
