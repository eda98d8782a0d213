use Rattle.std.proofs.Common.{◌≡◌, ◌<◌, ◌≤◌, ℕ, List, drop, get_or, length, ap, arith}
use Rattle.std.proofs.lemmas.List.{at_drop_all}
use Rattle.hwp_check_rules.specs.hwp_report_text.declared.FrameLine.{FrameLine}
use Rattle.hwp_check_frames.specs.Counts.{at_key}
use Rattle.hwp_check_frames.specs.Own.{frames_own}
use Rattle.hwp_check_frames.proofs.OwnLaws.{frames-most, frames-next, marks-room}
use Rattle.hwp_check_frames.proofs.own.own_counts.Goals as goal

pub add_owns-requires : goal.add_owns-requires
add_owns-requires c =
    let low : c.loop-frame.frame < c.args.many = c.loop-frame-test.true in
    let within : c.loop-frame.frame < length c.args.frames.now = omega (arith, low, c.requires.many) in
    record {
      room = λ q.
          let room = marks-room c.args.frames.now c.loop-frame.frame c.index-frames-from.result (get_or c.args.frames.now c.from.result c.index-frames-from.result) c.as_slice-marks.result.now (at_key c.loop-frame.own q) within
          (ap (λ (k : ℕ). get_or c.args.frames.now k c.index-frames-from.result) c.from.ensures) c.as_slice-marks.ensures (c.loop-frame.invariant.1 q) in
          omega (arith, room, c.requires.small);
    }

pub loop-frame-preserved : goal.loop-frame-preserved
loop-frame-preserved c =
    let low : c.loop-frame.frame < c.args.many = c.loop-frame-test.true in
    let within : c.loop-frame.frame < length c.args.frames.now = omega (arith, low, c.requires.many) in (
      λ q.
          frames-next c.loop-frame.frame q c.args.frames.now c.index-frames-from.result (get_or c.args.frames.now c.from.result c.index-frames-from.result) c.as_slice-marks.result.now (at_key c.loop-frame.own q) (at_key c.add_owns.new.own q) _ within
          (ap (λ (k : ℕ). get_or c.args.frames.now k c.index-frames-from.result) c.from.ensures) c.as_slice-marks.ensures (c.in_ok-add_owns.ensures q) (c.loop-frame.invariant.0 q),
      λ q.
          frames-most c.loop-frame.frame q c.args.frames.now c.index-frames-from.result (get_or c.args.frames.now c.from.result c.index-frames-from.result) c.as_slice-marks.result.now (at_key c.loop-frame.own q) (at_key c.add_owns.new.own q) within
          (ap (λ (k : ℕ). get_or c.args.frames.now k c.index-frames-from.result) c.from.ensures) c.as_slice-marks.ensures (c.in_ok-add_owns.ensures q) (c.loop-frame.invariant.1 q),
    )

pub returns : goal.returns
returns c =
    let end = c.loop-frame-test.false in
    let past : length c.args.frames.now ≤ c.loop-frame.frame = omega (arith, end, c.requires.many) in
    λ q.
    let none : frames_own c.loop-frame.frame q (drop c.loop-frame.frame c.args.frames.now) ≡ 0 = at_drop_all (λ (l : List FrameLine). frames_own c.loop-frame.frame q l) c.args.frames.now c.loop-frame.frame past in
    let all = c.loop-frame.invariant.0 q in
    omega (arith, none, all)
