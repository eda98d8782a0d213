use Rattle.std.proofs.Common.{◌≡◌, ◌≤◌, List, length, ap, ◌∙◌, arith}
use Rattle.hwp_check_rules.specs.hwp_report_text.declared.FrameLine.{FrameLine}
use Rattle.hwp_check_marks.proofs.MarkExtras.{first-frame, next-frame, place-within, room-here}
use Rattle.hwp_check_marks.proofs.UnpairedLaws.{few-clear}
use Rattle.hwp_check_marks.proofs.unpaired.unpaired.Goals as goal

pub first_extra-requires-clause-small : goal.first_extra-requires-clause-small
first_extra-requires-clause-small c =
    let room =
    room-here c.args.report.now c.loop-number.number c.loop-number.heading _ c.as_slice-marks.result.now c.loop-number.invariant.1 c.as_slice-frames.result.now c.as_slice-frames.ensures c.loop-number-test.true
    (c.as_slice-marks.ensures ∙ ap (λ (l : FrameLine). l.marks) c.index-frames-number.is) in
    omega (arith, room.0, room.1, c.requires.room)

pub overflow_add-result : goal.overflow_add-result
overflow_add-result c =
    let room =
    room-here c.args.report.now c.loop-number.number c.loop-number.heading _ c.as_slice-marks.result.now c.loop-number.invariant.1 c.as_slice-frames.result.now c.as_slice-frames.ensures c.loop-number-test.true
    (c.as_slice-marks.ensures ∙ ap (λ (l : FrameLine). l.marks) c.index-frames-number.is) in
    omega (arith, room.1, c.requires.room)

pub overflow_add-result-in-Some : goal.overflow_add-result-in-Some
overflow_add-result-in-Some c =
    let room =
    room-here c.args.report.now c.loop-number.number c.loop-number.heading _ c.as_slice-marks.result.now c.loop-number.invariant.1 c.as_slice-frames.result.now c.as_slice-frames.ensures c.loop-number-test.true
    (c.as_slice-marks.ensures ∙ ap (λ (l : FrameLine). l.marks) c.index-frames-number.is) in
    let low = place-within c.args.report.now _ c.as_slice-marks.result.now c.in-Some.place (rw c.in-Some.is at c.in_ok-place.ensures.found) in
    omega (arith, room.1, low, c.requires.room)

pub returns-in-Some : goal.returns-in-Some
returns-in-Some c =
    first-frame c.args.report.now c.loop-number.number c.loop-number.heading _ c.as_slice-marks.result.now c.loop-number.invariant.1 c.in-Some.place c.as_slice-frames.result.now c.as_slice-frames.ensures
    c.loop-number-test.true (c.as_slice-marks.ensures ∙ ap (λ (l : FrameLine). l.marks) c.index-frames-number.is) (rw c.in-Some.is at c.in_ok-place.ensures.found)

pub overflow_add-heading-in-None-2 : goal.overflow_add-heading-in-None-2
overflow_add-heading-in-None-2 c =
    let room =
    room-here c.args.report.now c.loop-number.number c.loop-number.heading _ c.as_slice-marks.result.now c.loop-number.invariant.1 c.as_slice-frames.result.now c.as_slice-frames.ensures c.loop-number-test.true
    (c.as_slice-marks.ensures ∙ ap (λ (l : FrameLine). l.marks) c.index-frames-number.is) in
    omega (arith, room.1, c.requires.room)

pub loop-number-preserved : goal.loop-number-preserved
loop-number-preserved c =
    next-frame c.args.report.now c.loop-number.number c.loop-number.heading _ c.as_slice-marks.result.now c.loop-number.invariant.1 c.first_extra.new.had c.as_slice-frames.result.now c.as_slice-frames.ensures
    c.loop-number-test.true (c.as_slice-marks.ensures ∙ ap (λ (l : FrameLine). l.marks) c.index-frames-number.is) (c.in_ok-place.ensures.counted c.in-None.is) (rw c.in-None.is at c.in_ok-place.ensures.found)

pub returns : goal.returns
returns c =
    let end : length c.as_slice-frames.result.now ≤ c.loop-number.number = c.loop-number-test.false in
    let same : length c.as_slice-frames.result.now ≡ length c.args.report.now.frames = ap (λ (xs : List FrameLine). length xs) c.as_slice-frames.ensures in
    few-clear c.args.report.now c.loop-number.number c.loop-number.heading c.loop-number.invariant.1 (omega (arith, end, same))
