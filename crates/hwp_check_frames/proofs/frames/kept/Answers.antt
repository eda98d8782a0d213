use Rattle.std.proofs.Common.{◌≡◌, ◌≤◌, ◌+◌, ◌<◌, List, length, ap, arith}
use Rattle.hwp_check_rules.specs.hwp_report_text.declared.FrameLine.{FrameLine}
use Rattle.hwp_check_rules.specs.hwp_report_text.declared.MarkLine.{MarkLine}
use Rattle.hwp_check_rules.specs.hwp_law.Lines.{marks_of}
use Rattle.hwp_check_rules.specs.Standing.{last_line}
use Rattle.hwp_check_frames.proofs.RecordLaws.{as-many, frame-room, kept-clear, kept-first, kept-next, kernel-at, shown-at}
use Rattle.hwp_check_frames.proofs.FramePlaces.{marks-are}
use Rattle.hwp_check_frames.proofs.frames.kept.Goals as goal

pub bounds-frames-from : goal.bounds-frames-from
bounds-frames-from c =
    let many = as-many c.args.script.now c.args.report.now c.requires.valid c.requires.shape in
    let low : c.loop-frame.frame < c.args.script.now.layout.frames = c.loop-frame-test.true in
    let is : c.from.result ≡ c.loop-frame.frame = c.from.ensures in
    let long : length c.as_slice-frames.result.now ≡ length c.args.report.now.frames = ap (λ (l : List FrameLine). length l) c.as_slice-frames.ensures in
    let a = many.0 in omega (arith, a, low, is, long)

pub overflow_add-heading-in-None : goal.overflow_add-heading-in-None
overflow_add-heading-in-None c =
    let many = as-many c.args.script.now c.args.report.now c.requires.valid c.requires.shape in
    let low : c.loop-frame.frame < c.args.script.now.layout.frames = c.loop-frame-test.true in
    let here : c.loop-frame.frame < length c.args.report.now.frames = let a = many.0 in omega (arith, a, low) in
    let there = shown-at c.as_slice-frames.result.now c.args.report.now.frames c.from.result c.loop-frame.frame c.index-frames-from.result c.as_slice-frames.ensures c.from.ensures here c.index-frames-from.is in
    let most : c.loop-frame.heading + 1 + length c.index-frames-from.result.marks ≤ last_line c.args.report.now = frame-room c.args.script.now c.args.report.now c.loop-frame.frame c.loop-frame.heading c.index-frames-from.result c.loop-frame.invariant there in
    omega (arith, most, c.len-in-None.ensures, c.requires.room)

pub frame_fault-requires-clause-within : goal.frame_fault-requires-clause-within
frame_fault-requires-clause-within c =
    let many = as-many c.args.script.now c.args.report.now c.requires.valid c.requires.shape in
    let low : c.loop-frame.frame < c.args.script.now.layout.frames = c.loop-frame-test.true in
    let a = many.0 in omega (arith, a, low)

pub frame_fault-requires-clause-room : goal.frame_fault-requires-clause-room
frame_fault-requires-clause-room c =
    let many = as-many c.args.script.now c.args.report.now c.requires.valid c.requires.shape in
    let low : c.loop-frame.frame < c.args.script.now.layout.frames = c.loop-frame-test.true in
    let here : c.loop-frame.frame < length c.args.report.now.frames = let a = many.0 in omega (arith, a, low) in
    let there = shown-at c.as_slice-frames.result.now c.args.report.now.frames c.from.result c.loop-frame.frame c.index-frames-from.result c.as_slice-frames.ensures c.from.ensures here c.index-frames-from.is in
    let most : c.loop-frame.heading + 1 + length c.index-frames-from.result.marks ≤ last_line c.args.report.now = frame-room c.args.script.now c.args.report.now c.loop-frame.frame c.loop-frame.heading c.index-frames-from.result c.loop-frame.invariant there in
    let long : length (marks_of c.args.report.now c.loop-frame.frame) ≡ length c.index-frames-from.result.marks = ap (λ (ms : List MarkLine). length ms) (marks-are c.args.report.now c.loop-frame.frame c.index-frames-from.result there) in
    omega (arith, most, long, c.requires.room)

pub returns-in-Some : goal.returns-in-Some
returns-in-Some c =
    let many = as-many c.args.script.now c.args.report.now c.requires.valid c.requires.shape in
    let low : c.loop-frame.frame < c.args.script.now.layout.frames = c.loop-frame-test.true in
    let here : c.loop-frame.frame < length c.args.report.now.frames = let a = many.0 in omega (arith, a, low) in
    let flagged : c.loop-frame.frame < length c.args.script.now.layout.kernel = let b = many.1 in omega (arith, b, low) in
    kept-first c.args.script.now c.args.report.now c.loop-frame.frame c.loop-frame.heading c.in-Some.line _ c.index-frames-from.result c.loop-frame.invariant (let a = many.0 in let b = many.1 in omega (arith, a, b))
    (kernel-at c.as_slice-kernels.result.now c.args.script.now.layout.kernel c.from-in-loop-frame.result c.loop-frame.frame _ c.as_slice-kernels.ensures c.from-in-loop-frame.ensures flagged)
    (shown-at c.as_slice-frames.result.now c.args.report.now.frames c.from.result c.loop-frame.frame c.index-frames-from.result c.as_slice-frames.ensures c.from.ensures here c.index-frames-from.is)
    (rw c.in-Some.is at c.in_ok-line.ensures)

pub overflow_add-heading-in-None-2 : goal.overflow_add-heading-in-None-2
overflow_add-heading-in-None-2 c =
    let many = as-many c.args.script.now c.args.report.now c.requires.valid c.requires.shape in
    let low : c.loop-frame.frame < c.args.script.now.layout.frames = c.loop-frame-test.true in
    let here : c.loop-frame.frame < length c.args.report.now.frames = let a = many.0 in omega (arith, a, low) in
    let there = shown-at c.as_slice-frames.result.now c.args.report.now.frames c.from.result c.loop-frame.frame c.index-frames-from.result c.as_slice-frames.ensures c.from.ensures here c.index-frames-from.is in
    let most : c.loop-frame.heading + 1 + length c.index-frames-from.result.marks ≤ last_line c.args.report.now = frame-room c.args.script.now c.args.report.now c.loop-frame.frame c.loop-frame.heading c.index-frames-from.result c.loop-frame.invariant there in
    omega (arith, most, c.requires.room)

pub loop-frame-preserved : goal.loop-frame-preserved
loop-frame-preserved c =
    let many = as-many c.args.script.now c.args.report.now c.requires.valid c.requires.shape in
    let low : c.loop-frame.frame < c.args.script.now.layout.frames = c.loop-frame-test.true in
    let here : c.loop-frame.frame < length c.args.report.now.frames = let a = many.0 in omega (arith, a, low) in
    let flagged : c.loop-frame.frame < length c.args.script.now.layout.kernel = let b = many.1 in omega (arith, b, low) in
    kept-next c.args.script.now c.args.report.now c.loop-frame.frame c.loop-frame.heading _ _ c.index-frames-from.result c.loop-frame.invariant
    (kernel-at c.as_slice-kernels.result.now c.args.script.now.layout.kernel c.from-in-loop-frame.result c.loop-frame.frame _ c.as_slice-kernels.ensures c.from-in-loop-frame.ensures flagged)
    (shown-at c.as_slice-frames.result.now c.args.report.now.frames c.from.result c.loop-frame.frame c.index-frames-from.result c.as_slice-frames.ensures c.from.ensures here c.index-frames-from.is)
    (rw c.in-None.is at c.in_ok-line.ensures) (omega arith)

pub returns : goal.returns
returns c =
    let many = as-many c.args.script.now c.args.report.now c.requires.valid c.requires.shape in
    let end : c.args.script.now.layout.frames ≤ c.loop-frame.frame = let t = c.loop-frame-test.false in omega (arith, t) in
    kept-clear c.args.script.now c.args.report.now c.loop-frame.frame c.loop-frame.heading c.loop-frame.invariant (let a = many.0 in omega (arith, a, end)) (let a = many.0 in let b = many.1 in omega (arith, a, b))
