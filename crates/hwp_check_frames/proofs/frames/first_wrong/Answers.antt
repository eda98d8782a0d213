use Rattle.std.proofs.Common.{◌≡◌, ◌≤◌, length, take, arith}
use Rattle.std.proofs.lemmas.Option.{slice_get-get_or}
use Rattle.hwp_check_frames.specs.Counts.{at_key}
use Rattle.hwp_check_frames.specs.Own.{marks_own}
use Rattle.hwp_check_frames.specs.Softs.{marks_soft}
use Rattle.hwp_check_frames.proofs.RecordLaws.{rights-next}
use Rattle.hwp_check_frames.proofs.OwnLaws.{owns-front, owns-next}
use Rattle.hwp_check_frames.proofs.SoftLaws.{softs-front, softs-next}
use Rattle.hwp_check_frames.proofs.frames.first_wrong.Goals as goal

pub returns-then-not-is_right : goal.returns-then-not-is_right
returns-then-not-is_right c = record {
  mark = _;
  there = slice_get-get_or c.args.marks.now c.loop-place.place _ (omega arith);
  before = c.loop-place.invariant.0;
  wrong = c.if-not-is_right.ensures;
}

pub add_own-requires : goal.add_own-requires
add_own-requires c = record {
  room = λ q.
      let had : at_key c.loop-place.had q ≡ marks_own c.args.frame.0 q (take c.loop-place.place c.args.marks.now) = c.loop-place.invariant.1 q in
      let low : marks_own c.args.frame.0 q (take c.loop-place.place c.args.marks.now) ≤ length c.args.marks.now = owns-front c.args.frame.0 q c.args.marks.now c.loop-place.place in
      let small = c.requires.small in
      omega (arith, had, low, small);
}

pub add_soft-requires : goal.add_soft-requires
add_soft-requires c = record {
  room = λ q.
      let had : at_key c.loop-place.softs q ≡ marks_soft q (take c.loop-place.place c.args.marks.now) = c.loop-place.invariant.2 q in
      let low : marks_soft q (take c.loop-place.place c.args.marks.now) ≤ length c.args.marks.now = softs-front q c.args.marks.now c.loop-place.place in
      let small = c.requires.small in
      omega (arith, had, low, small);
}

pub loop-place-preserved : goal.loop-place-preserved
loop-place-preserved c = (
  rights-next c.args.script.now c.args.report.now c.args.kernel c.args.frame c.args.marks.now c.loop-place.place _ c.loop-place.invariant.0
      (slice_get-get_or c.args.marks.now c.loop-place.place _ (omega arith)) c.if-not-is_right.ensures,
  λ q. owns-next c.args.frame.0 q c.args.marks.now c.loop-place.place _ (at_key c.loop-place.had q) (at_key c.add_own.new.own q) c.loop-place-test.true (c.in_ok-add_own.ensures q) (c.loop-place.invariant.1 q),
  λ q. softs-next q c.args.marks.now c.loop-place.place _ (at_key c.loop-place.softs q) (at_key c.add_soft.new.softs q) c.loop-place-test.true (c.in_ok-add_soft.ensures q) (c.loop-place.invariant.2 q),
)

pub returns : goal.returns
returns c = λ place mark low there. c.loop-place.invariant.0 place mark (omega (arith, low)) there
