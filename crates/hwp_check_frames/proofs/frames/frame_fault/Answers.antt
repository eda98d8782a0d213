use Rattle.std.proofs.Common.{◌≡◌, inr, ◌∙◌, List, length, refl, sym, ap, subst, arith}
use Rattle.hwp_check_rules.specs.hwp_report_text.declared.FrameLine.{FrameLine}
use Rattle.hwp_check_rules.specs.hwp_report_text.declared.MarkLine.{MarkLine}
use Rattle.hwp_check_rules.specs.hwp_law.Lines.{marks_of}
use Rattle.hwp_check_frames.specs.MarkScans.{AreRightMarks, IsFirstWrongMark}
use Rattle.hwp_check_frames.proofs.RecordLaws.{shown-at}
use Rattle.hwp_check_frames.proofs.FramePlaces.{marks-are}
use Rattle.hwp_check_frames.proofs.frames.frame_fault.Goals as goal

pub first_wrong-requires-clause-small : goal.first_wrong-requires-clause-small
first_wrong-requires-clause-small c =
    let there = shown-at c.as_slice.result.now c.args.report.now.frames c.from.result c.args.frame.0 c.index-as_slice-from.result c.as_slice.ensures c.from.ensures c.requires.within c.index-as_slice-from.is in
    let same : length c.as_slice-marks.result.now ≡ length (marks_of c.args.report.now c.args.frame.0) =
    ap (λ (l : List MarkLine). length l) ((c.as_slice-marks.ensures ∙ sym (ap (λ (l : FrameLine). l.marks) c.index-as_slice-from.is)) ∙ sym (marks-are c.args.report.now c.args.frame.0 c.index-as_slice-from.result there)) in
    omega (arith, same, c.requires.room)

pub returns-in-Some : goal.returns-in-Some
returns-in-Some c =
    let there = shown-at c.as_slice.result.now c.args.report.now.frames c.from.result c.args.frame.0 c.index-as_slice-from.result c.as_slice.ensures c.from.ensures c.requires.within c.index-as_slice-from.is in
    let same : c.as_slice-marks.result.now ≡ marks_of c.args.report.now c.args.frame.0 =
    (c.as_slice-marks.ensures ∙ sym (ap (λ (l : FrameLine). l.marks) c.index-as_slice-from.is)) ∙ sym (marks-are c.args.report.now c.args.frame.0 c.index-as_slice-from.result there) in
    let wrong : IsFirstWrongMark c.args.script.now c.args.report.now c.args.kernel c.args.frame c.as_slice-marks.result.now c.in-Some.place = rw c.in-Some.is at c.in_ok-place.ensures in
    inr (c.if-some_beyond.ensures, (c.in-Some.place, subst (λ (ms : List MarkLine). IsFirstWrongMark c.args.script.now c.args.report.now c.args.kernel c.args.frame ms c.in-Some.place) same wrong, refl))

pub returns-in-None : goal.returns-in-None
returns-in-None c =
    let there = shown-at c.as_slice.result.now c.args.report.now.frames c.from.result c.args.frame.0 c.index-as_slice-from.result c.as_slice.ensures c.from.ensures c.requires.within c.index-as_slice-from.is in
    let same : c.as_slice-marks.result.now ≡ marks_of c.args.report.now c.args.frame.0 =
    (c.as_slice-marks.ensures ∙ sym (ap (λ (l : FrameLine). l.marks) c.index-as_slice-from.is)) ∙ sym (marks-are c.args.report.now c.args.frame.0 c.index-as_slice-from.result there) in
    let right : AreRightMarks c.args.script.now c.args.report.now c.args.kernel c.args.frame c.as_slice-marks.result.now (length c.as_slice-marks.result.now) = rw c.in-None.is at c.in_ok-place.ensures in
    (c.if-some_beyond.ensures, subst (λ (ms : List MarkLine). AreRightMarks c.args.script.now c.args.report.now c.args.kernel c.args.frame ms (length ms)) same right)
