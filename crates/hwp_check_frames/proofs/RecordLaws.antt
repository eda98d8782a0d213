-- Where the records of frames are wrong first, in themselves or by the lines of commands beside them.
use Rattle.std.proofs.Common.{◌≡◌, ◌⊎◌, inl, inr, ℕ, ◌+◌, ◌<◌, ◌≤◌, Bool, true, false, List, [], Option, Some, None, get_or, length, slice_get, sum_by, take, true≢false, unwrap_or, refl, sym, ap, ◌∙◌, subst, arith}
use Rattle.std.proofs.Math.Nat.{zero-add}
use Rattle.std.proofs.lemmas.Bool.{cases_lt}
use Rattle.std.proofs.lemmas.List.Sums.{sum_by-take-le}
use Rattle.std.proofs.lemmas.Option.{none-some, same_Some, slice_get-get_or, slice_get_read, slice_get_within}
use Rattle.hwp_check_rules.specs.hwp_geom.declared.Frame.{Frame}
use Rattle.hwp_check_rules.specs.hwp_geom.declared.Who.{Who}
use Rattle.hwp_check_rules.specs.hwp_check_event_line.Scripts.{IsDeclared}
use Rattle.hwp_check_rules.specs.hwp_script_words.declared.Script.{Script}
use Rattle.hwp_check_rules.specs.hwp_report_text.declared.Acted.{Acted}
use Rattle.hwp_check_rules.specs.hwp_report_text.declared.CpuLine.{CpuLine}
use Rattle.hwp_check_rules.specs.hwp_report_text.declared.FrameLine.{FrameLine}
use Rattle.hwp_check_rules.specs.hwp_report_text.declared.How.{How}
use Rattle.hwp_check_rules.specs.hwp_report_text.declared.How.TheVariants as hows
use Rattle.hwp_check_rules.specs.hwp_report_text.declared.MarkLine.{MarkLine}
use Rattle.hwp_check_rules.specs.hwp_report_text.declared.MarkLine.TheVariants as marks
use Rattle.hwp_check_rules.specs.hwp_report_text.declared.Report.{Report}
use Rattle.hwp_check_rules.specs.hwp_law.Lines.{is_same_command, marks_of, rows_of}
use Rattle.hwp_check_rules.specs.hwp_law.Records.{IsAnswered, IsFound, IsFrameRecord, IsMarkAt, hardware_act, hardware_marks, how_in, is_by_hardware, line_results, result_lines, who_in}
use Rattle.hwp_check_rules.specs.hwp_law.Outcomes.{outcome_act}
use Rattle.hwp_check_rules.specs.MarkFaults.{HasNoEvent, IsEventBeyond, IsMisfound, IsUnsaid}
use Rattle.hwp_check_frames.specs.MarkScans.{AreRightMarks, FindsRight, FrameFits, HasEvent, IsFrameFaultAt, IsRecordFault, IsRecordWrong, IsRightMark, IsWrongMark, NoneBeyond, RecordFits, RecordsFit, results_in}
use Rattle.hwp_check_rules.specs.Rules.{ShapeFits}
use Rattle.hwp_check_rules.specs.Standing.{frame_height, frame_line, last_line}
use Rattle.hwp_check_frames.proofs.Results.{act-at, acts-many, agree, none-beyond, own, results-are, results-many, some-beyond}
use Rattle.hwp_check_frames.proofs.SoftLaws.{all-said, not-said, said-all, said-not}
use Rattle.hwp_check_frames.proofs.FramePlaces.{and-both, and-left, and-right, frame-next, frame-rises, marks-are, same-self, same-who, shown-in}
use Rattle.hwp_check_rules.specs.Firsts.{IsFirstFault, IsClear}

finds-from : (kernel : Bool) (mark : MarkLine) → FindsRight kernel mark → (how : How) → how_in mark ≡ Some how → IsFound kernel how
finds-from kernel (marks.Poisoned cycle who h) found how is = subst (λ (x : How). IsFound kernel x) (same_Some _ _ is) found
finds-from kernel (marks.Unpoisoned cycle who) found how is = absurd (none-some how is)

finds-of : (kernel : Bool) (mark : MarkLine) → ((how : How) → how_in mark ≡ Some how → IsFound kernel how) → FindsRight kernel mark
finds-of kernel (marks.Poisoned cycle who h) all = all h refl
finds-of kernel (marks.Unpoisoned cycle who) all = record {}

misfound : (kernel : Bool) (mark : MarkLine) → (FindsRight kernel mark → ⊥) → IsMisfound kernel mark
misfound kernel (marks.Poisoned cycle who h) wrong = record { how = h; how_is = refl; wrong = wrong }
misfound kernel (marks.Unpoisoned cycle who) wrong = absurd (wrong (record {}))

-- what the event beside a mark says, in the law's words
abbrev NextIs : Report → Frame → List MarkLine → MarkLine → Type 0
NextIs report frame before mark = slice_get (line_results (result_lines report (who_in mark) frame.0)) (length (hardware_marks (who_in mark) before)) ≡ hardware_act mark

said-so : (report : Report) (frame : Frame) (before : List MarkLine) (who : Who) (o : Option Acted)
    → slice_get (results_in who.seq frame.0 (rows_of report who)) (length (hardware_marks who before)) ≡ o → slice_get (line_results (result_lines report who frame.0)) (length (hardware_marks who before)) ≡ o
said-so report frame before who o is = ap (λ (xs : List Acted). slice_get xs (length (hardware_marks who before))) (results-are report who frame.0) ∙ is

so-said : (report : Report) (frame : Frame) (before : List MarkLine) (who : Who) (o : Option Acted)
    → slice_get (line_results (result_lines report who frame.0)) (length (hardware_marks who before)) ≡ o → slice_get (results_in who.seq frame.0 (rows_of report who)) (length (hardware_marks who before)) ≡ o
so-said report frame before who o is = sym (ap (λ (xs : List Acted). slice_get xs (length (hardware_marks who before))) (results-are report who frame.0)) ∙ is

event-next : (report : Report) (frame : Frame) (before : List MarkLine) (mark : MarkLine) → HasEvent report frame before mark → is_by_hardware mark ≡ true → NextIs report frame before mark
event-next report frame before (marks.Poisoned cycle who (hows.Failure true situation outcome)) has is = said-so report frame before who (Some (outcome_act outcome)) has.is
event-next report frame before (marks.Poisoned cycle who (hows.Failure false situation outcome)) has is = absurd (true≢false (sym is))
event-next report frame before (marks.Poisoned cycle who hows.Moved) has is = absurd (true≢false (sym is))
event-next report frame before (marks.Poisoned cycle who hows.TakenFree) has is = absurd (true≢false (sym is))
event-next report frame before (marks.Unpoisoned cycle who) has is = absurd (true≢false (sym is))

next-event : (report : Report) (frame : Frame) (before : List MarkLine) (mark : MarkLine) → (is_by_hardware mark ≡ true → NextIs report frame before mark) → HasEvent report frame before mark
next-event report frame before (marks.Poisoned cycle who (hows.Failure true situation outcome)) next = record { is = so-said report frame before who (Some (outcome_act outcome)) (next refl) }
next-event report frame before (marks.Poisoned cycle who (hows.Failure false situation outcome)) next = record {}
next-event report frame before (marks.Poisoned cycle who hows.Moved) next = record {}
next-event report frame before (marks.Poisoned cycle who hows.TakenFree) next = record {}
next-event report frame before (marks.Unpoisoned cycle who) next = record {}

no-event : (report : Report) (frame : Frame) (place : ℕ) (mark : MarkLine) → (HasEvent report frame (take place (marks_of report frame.0)) mark → ⊥) → HasNoEvent report frame place mark
no-event report frame place (marks.Poisoned cycle who (hows.Failure true situation outcome)) wrong = record {
  by_hardware = refl;
  wrong = λ is. wrong (record { is = so-said report frame (take place (marks_of report frame.0)) who (Some (outcome_act outcome)) is });
}
no-event report frame place (marks.Poisoned cycle who (hows.Failure false situation outcome)) wrong = absurd (wrong (record {}))
no-event report frame place (marks.Poisoned cycle who hows.Moved) wrong = absurd (wrong (record {}))
no-event report frame place (marks.Poisoned cycle who hows.TakenFree) wrong = absurd (wrong (record {}))
no-event report frame place (marks.Unpoisoned cycle who) wrong = absurd (wrong (record {}))

-- no command has more results for the frame than marks
few-says : (report : Report) (list : List MarkLine) (frame : ℕ) → NoneBeyond report list frame (length report.cpus) → (who : Who)
    → length (results_in who.seq frame (rows_of report who)) ≤ length (hardware_marks who list)
few-says report list frame none who = by (slice_get report.cpus who.cpu.0) refl
  where
    by : (o : Option (List CpuLine)) → slice_get report.cpus who.cpu.0 ≡ o → length (results_in who.seq frame (unwrap_or o [])) ≤ length (hardware_marks who list)
    by None is = omega arith
    by (Some rows) is = none-beyond list rows frame who.cpu.0 who.seq (none who.cpu.0 rows (slice_get_within report.cpus who.cpu.0 rows is) is)

whose : (who : Who) (m : MarkLine) → own who m ≡ true → who_in m ≡ who
whose who m mine = same-who who (who_in m) (and-left _ _ mine)

-- the record of a frame whose marks are right, with no result beyond them
kept-of : (script : Script) (report : Report) (kernel : Bool) (frame : Frame) → FrameFits script report kernel frame (marks_of report frame.0) → IsFrameRecord script report kernel frame
kept-of script report kernel frame fits = record {
  alternates = λ place mark there. (fits.1 place mark (slice_get_within (marks_of report frame.0) place mark there) there).in_place;
  found = λ place mark how there is. finds-from kernel mark (fits.1 place mark (slice_get_within (marks_of report frame.0) place mark there) there).found how is;
  answered = λ place mark there. (fits.1 place mark (slice_get_within (marks_of report frame.0) place mark there) there).answered;
  events = λ who. sym (agree who (line_results (result_lines report who frame.0)) (marks_of report frame.0) 0 (each who) (few who));
}
  where
    few : (who : Who) → length (line_results (result_lines report who frame.0)) ≤ 0 + length (hardware_marks who (marks_of report frame.0))
    few who =
        let many : length (line_results (result_lines report who frame.0)) ≡ length (results_in who.seq frame.0 (rows_of report who)) = ap (λ (xs : List Acted). length xs) (results-are report who frame.0) in
        let most : length (results_in who.seq frame.0 (rows_of report who)) ≤ length (hardware_marks who (marks_of report frame.0)) = few-says report (marks_of report frame.0) frame.0 fits.0 who in
        omega (arith, many, most)

    each : (who : Who) (p : ℕ) (m : MarkLine) → slice_get (marks_of report frame.0) p ≡ Some m → own who m ≡ true
        → slice_get (line_results (result_lines report who frame.0)) (0 + length (hardware_marks who (take p (marks_of report frame.0)))) ≡ hardware_act m
    each who p m there mine =
        let right : IsRightMark script report kernel frame (marks_of report frame.0) p m = fits.1 p m (slice_get_within (marks_of report frame.0) p m there) there in
        let next : NextIs report frame (take p (marks_of report frame.0)) m = event-next report frame (take p (marks_of report frame.0)) m right.event (and-right (is_same_command who (who_in m)) (is_by_hardware m) mine) in
        let is : who_in m ≡ who = whose who m mine in
        subst (λ n. slice_get (line_results (result_lines report who frame.0)) n ≡ hardware_act m) (sym (zero-add (length (hardware_marks who (take p (marks_of report frame.0))))))
        (subst (λ (w : Who). slice_get (line_results (result_lines report w frame.0)) (length (hardware_marks w (take p (marks_of report frame.0)))) ≡ hardware_act m) is next)

record-of : (script : Script) (report : Report) (kernel : Bool) (frame : Frame) → FrameFits script report kernel frame (marks_of report frame.0) → RecordFits script report kernel frame
record-of script report kernel frame fits = record {
  kept = kept-of script report kernel frame fits;
  said = said-all script report frame (λ place mark there. (fits.1 place mark (slice_get_within (marks_of report frame.0) place mark there) there).said);
}

-- a right mark is none of the wrong ones
right-is : (script : Script) (report : Report) (kernel : Bool) (frame : Frame) (place : ℕ) (mark : MarkLine) → IsRightMark script report kernel frame (marks_of report frame.0) place mark
    → ((IsMarkAt place mark → ⊥) ⊎ IsMisfound kernel mark ⊎ (IsAnswered script report frame mark → ⊥) ⊎ IsUnsaid script report frame place mark ⊎ HasNoEvent report frame place mark) → ⊥
right-is script report kernel frame place mark right wrong = elim wrong [
  | inl off ↦ off right.in_place
  | inr (inl misfound) ↦ misfound.wrong (finds-from kernel mark right.found misfound.how misfound.how_is)
  | inr (inr (inl not)) ↦ not right.answered
  | inr (inr (inr (inl unsaid))) ↦ said-not script report frame place mark right.said unsaid
  | inr (inr (inr (inr lacks))) ↦ lacks.wrong (event-next report frame (take place (marks_of report frame.0)) mark right.event lacks.by_hardware)
]

-- the marks of a record that is right are right
right-of : (script : Script) (report : Report) (kernel : Bool) (frame : Frame) → RecordFits script report kernel frame
    → (place : ℕ) (mark : MarkLine) → slice_get (marks_of report frame.0) place ≡ Some mark → IsRightMark script report kernel frame (marks_of report frame.0) place mark
right-of script report kernel frame fits place mark there = record {
  in_place = fits.kept.alternates place mark there;
  found = finds-of kernel mark (λ how is. fits.kept.found place mark how there is);
  answered = fits.kept.answered place mark there;
  said = all-said script report frame fits.said place mark there;
  event = next-event report frame (take place (marks_of report frame.0)) mark (λ is.
      ap (λ (xs : List Acted). slice_get xs (length (hardware_marks (who_in mark) (take place (marks_of report frame.0))))) (sym (fits.kept.events (who_in mark)))
      ∙ act-at (who_in mark) (marks_of report frame.0) place mark there (and-both _ _ (same-self (who_in mark)) is));
}

-- and no command has more results for the frame
few-of : (script : Script) (report : Report) (kernel : Bool) (frame : Frame) → IsFrameRecord script report kernel frame → (who : Who)
    → length (results_in who.seq frame.0 (rows_of report who)) ≡ length (hardware_marks who (marks_of report frame.0))
few-of script report kernel frame fits who =
    sym (ap (λ (xs : List Acted). length xs) (results-are report who frame.0)) ∙ sym (ap (λ (xs : List Acted). length xs) (fits.events who)) ∙ acts-many who (marks_of report frame.0)

-- the frames below this number fit
pub record KeptBelow (script : Script) (report : Report) (n heading : ℕ) : Type 0 where
  pub fits : (frame : Frame) (kernel : Bool) → frame.0 < n → slice_get script.layout.kernel frame.0 ≡ Some kernel → FrameFits script report kernel frame (marks_of report frame.0)
  pub heading_is : heading ≡ frame_line report n

wrong-of : (script : Script) (report : Report) (kernel : Bool) (frame : Frame) (place : ℕ) (mark : MarkLine) → IsWrongMark script report kernel frame (marks_of report frame.0) place mark
    → (IsMarkAt place mark → ⊥) ⊎ IsMisfound kernel mark ⊎ (IsAnswered script report frame mark → ⊥) ⊎ IsUnsaid script report frame place mark ⊎ HasNoEvent report frame place mark
wrong-of script report kernel frame place mark wrong = elim wrong [
  | inl off ↦ inl off
  | inr (inl not) ↦ inr (inl (misfound kernel mark not))
  | inr (inr (inl not)) ↦ inr (inr (inl not))
  | inr (inr (inr (inl not))) ↦ inr (inr (inr (inl (not-said script report frame place mark not))))
  | inr (inr (inr (inr not))) ↦ inr (inr (inr (inr (no-event report frame place mark not))))
]

-- a faulty frame's line is above the next frame's heading
line-within : (script : Script) (report : Report) (kernel : Bool) (n heading line : ℕ) (shown : FrameLine) → heading ≡ frame_line report n → slice_get report.frames n ≡ Some shown
    → IsFrameFaultAt script report kernel (record { 0 = n }) (marks_of report n) heading line → (heading ≤ line) × (line < frame_line report (n + 1))
line-within script report kernel n heading line shown heading_is there fault = elim fault [
  | inl some ↦ let is : line ≡ heading = some.1 in (omega (arith, is), omega (arith, is, heading_is, next))
  | inr rest ↦
      let first = rest.1 in
      let is : line ≡ heading + 1 + first.0 = first.2 in
      let within : first.0 < length (marks_of report n) = slice_get_within (marks_of report n) first.0 first.1.mark first.1.there in
      (omega (arith, is), omega (arith, is, heading_is, next, within, same))
]
  where
    next : frame_line report (n + 1) ≡ frame_line report n + 1 + length shown.marks
    next = frame-next report n shown there

    same : length (marks_of report n) ≡ length shown.marks
    same = ap (λ (ms : List MarkLine). length ms) (marks-are report n shown there)

-- what fits has no fault
no-wrong : (script : Script) (report : Report) (line : ℕ) (w : IsRecordWrong script report line) → AreRightMarks script report w.kernel w.frame (marks_of report w.frame.0) (w.place + 1) → ⊥
no-wrong script report line w right = right-is script report w.kernel w.frame w.place w.mark (right w.place w.mark (omega arith) w.there) w.wrong

no-beyond : (script : Script) (report : Report) (line : ℕ) (b : IsEventBeyond report line) → NoneBeyond report (marks_of report b.frame.0) b.frame.0 (length report.cpus) → ⊥
no-beyond script report line b none =
    let few : length (results_in b.who.seq b.frame.0 (rows_of report b.who)) ≤ length (hardware_marks b.who (marks_of report b.frame.0)) = few-says report (marks_of report b.frame.0) b.frame.0 none b.who in
    let many : length (result_lines report b.who b.frame.0) ≡ length (results_in b.who.seq b.frame.0 (rows_of report b.who)) = results-many report b.who b.frame.0 in
    let beyond : length (hardware_marks b.who (marks_of report b.frame.0)) < length (result_lines report b.who b.frame.0) = b.beyond in
    omega (arith, few, many, beyond)

-- the frame that a fault is of
abbrev frame-of : (script : Script) (report : Report) (line : ℕ) → IsRecordFault script report line → ℕ
frame-of script report line (inl w) = w.frame.0
frame-of script report line (inr b) = b.frame.0

below-line : (script : Script) (report : Report) (line : ℕ) (f : IsRecordFault script report line) → frame_line report (frame-of script report line f) ≤ line
below-line script report line (inl w) = let is : line ≡ frame_line report w.frame.0 + 1 + w.place = w.line_is in omega (arith, is)
below-line script report line (inr b) = let is : line ≡ frame_line report b.frame.0 = b.line_is in omega (arith, is)

frame-within : (script : Script) (report : Report) (line : ℕ) (f : IsRecordFault script report line) → frame-of script report line f < length report.frames
frame-within script report line (inl w) = let s = shown-in report w.frame.0 w.place w.mark w.there in slice_get_within report.frames w.frame.0 s.0 s.1
frame-within script report line (inr b) = b.within

clear-below : (script : Script) (report : Report) (n heading line : ℕ) → KeptBelow script report n heading → length report.frames ≤ length script.layout.kernel
    → (fault : IsRecordFault script report line) → frame-of script report line fault < n → ⊥
clear-below script report n heading line below each (inl w) low =
    let fits = below.fits w.frame w.kernel low w.declared in
    let within : w.place < length (marks_of report w.frame.0) = slice_get_within (marks_of report w.frame.0) w.place w.mark w.there in
    no-wrong script report line w (λ place mark less there. fits.1 place mark (omega (arith, less, within)) there)
clear-below script report n heading line below each (inr b) low =
    let here : b.frame.0 < length script.layout.kernel = let w : b.frame.0 < length report.frames = b.within in omega (arith, w, each) in
    let declared = slice_get-get_or script.layout.kernel b.frame.0 false here in
    let fits = below.fits b.frame _ low declared in
    no-beyond script report line b fits.0

abbrev frame-at : ℕ → Frame
frame-at n = record { 0 = n }

same-frame : (f : Frame) (n : ℕ) → f.0 ≡ n → f ≡ frame-at n
same-frame f n is = ap frame-at is

-- the first frame with a fault has the first line at fault
pub kept-first : (script : Script) (report : Report) (n heading line : ℕ) (kernel : Bool) (shown : FrameLine) → KeptBelow script report n heading
    → length report.frames ≤ length script.layout.kernel → slice_get script.layout.kernel n ≡ Some kernel → slice_get report.frames n ≡ Some shown
    → IsFrameFaultAt script report kernel (record { 0 = n }) (marks_of report n) heading line → IsFirstFault (RecordsFit script report) (IsRecordFault script report) line
kept-first script report n heading line kernel shown below each declared there fault = record {
  broken = λ fit. refuted (fit (frame-at n) kernel shown declared there) fault;
  at = at fault;
  first = λ other f. elim (cases_lt (frame-of script report other f) n) [
    | inl low ↦ absurd (clear-below script report n heading other below each f low)
    | inr high ↦ elim (cases_lt n (frame-of script report other f)) [
      | inl past ↦
          let rises : frame_line report (n + 1) ≤ frame_line report (frame-of script report other f) = frame-rises report (n + 1) (frame-of script report other f) (omega (arith, past)) in
          let least : frame_line report (frame-of script report other f) ≤ other = below-line script report other f in
          let within = line-within script report kernel n heading line shown below.heading_is there fault in
          omega (arith, rises, least, within.1)
      | inr low ↦ here other f (omega (arith, high, low)) fault
    ]
  ];
}
  where
    refuted : RecordFits script report kernel (record { 0 = n }) → IsFrameFaultAt script report kernel (record { 0 = n }) (marks_of report n) heading line → ⊥
    refuted fits (inl (some, is)) =
        let found = some-beyond (marks_of report n) some.1 n some.0 some.3 in
        let rows_are : rows_of report (record { cpu = record { 0 = some.0 }; seq = found.0 }) ≡ some.1 = ap (λ (o : Option (List CpuLine)). unwrap_or o []) some.2 in
        let many : length (results_in found.0 n (rows_of report (record { cpu = record { 0 = some.0 }; seq = found.0 }))) ≡ length (hardware_marks (record { cpu = record { 0 = some.0 }; seq = found.0 }) (marks_of report n)) =
        few-of script report kernel (record { 0 = n }) fits.kept (record { cpu = record { 0 = some.0 }; seq = found.0 }) in
        let same : length (results_in found.0 n (rows_of report (record { cpu = record { 0 = some.0 }; seq = found.0 }))) ≡ length (results_in found.0 n some.1) = ap (λ (rows : List CpuLine). length (results_in found.0 n rows)) rows_are in
        let more : length (hardware_marks (record { cpu = record { 0 = some.0 }; seq = found.0 }) (marks_of report n)) < length (results_in found.0 n some.1) = found.1 in
        omega (arith, many, same, more)
    refuted fits (inr (none, (place, wrong, is))) =
        right-is script report kernel (record { 0 = n }) place wrong.mark (right-of script report kernel (record { 0 = n }) fits place wrong.mark wrong.there)
        (wrong-of script report kernel (record { 0 = n }) place wrong.mark wrong.wrong)

    at : IsFrameFaultAt script report kernel (record { 0 = n }) (marks_of report n) heading line → IsRecordFault script report line
    at (inl (some, is)) =
        let found = some-beyond (marks_of report n) some.1 n some.0 some.3 in
        let rows_are : rows_of report (record { cpu = record { 0 = some.0 }; seq = found.0 }) ≡ some.1 = ap (λ (o : Option (List CpuLine)). unwrap_or o []) some.2 in
        let many : length (result_lines report (record { cpu = record { 0 = some.0 }; seq = found.0 }) n) ≡ length (results_in found.0 n some.1) =
        results-many report (record { cpu = record { 0 = some.0 }; seq = found.0 }) n ∙ ap (λ (rows : List CpuLine). length (results_in found.0 n rows)) rows_are in
        let more : length (hardware_marks (record { cpu = record { 0 = some.0 }; seq = found.0 }) (marks_of report n)) < length (results_in found.0 n some.1) = found.1 in
        inr (record {
          frame = record { 0 = n };
          who = record { cpu = record { 0 = some.0 }; seq = found.0 };
          within = slice_get_within report.frames n shown there;
          line_is = is ∙ below.heading_is;
          beyond = omega (arith, many, more);
        })
    at (inr (none, (place, wrong, is))) = inl (record {
      frame = record { 0 = n };
      kernel = kernel;
      place = place;
      mark = wrong.mark;
      declared = declared;
      there = wrong.there;
      line_is = is ∙ ap (λ h. h + 1 + place) below.heading_is;
      wrong = wrong-of script report kernel (record { 0 = n }) place wrong.mark wrong.wrong;
    })

    here : (other : ℕ) (f : IsRecordFault script report other) → frame-of script report other f ≡ n → IsFrameFaultAt script report kernel (record { 0 = n }) (marks_of report n) heading line → line ≤ other
    here other f is (inl (some, line_is)) =
        let least : frame_line report (frame-of script report other f) ≤ other = below-line script report other f in
        let same : frame_line report (frame-of script report other f) ≡ frame_line report n = ap (frame_line report) is in
        let h : heading ≡ frame_line report n = below.heading_is in
        omega (arith, least, same, h, line_is)
    here other (inr b) is (inr (none, (place, wrong, line_is))) =
        absurd (no-beyond script report other b (subst (λ (g : Frame). NoneBeyond report (marks_of report g.0) g.0 (length report.cpus)) (sym (same-frame b.frame n is)) none))
    here other (inl w) is (inr (none, (place, wrong, line_is))) = elim (cases_lt w.place place) [
      | inl low ↦
          let kernel_is : kernel ≡ w.kernel = same_Some _ _ (sym declared ∙ sym (ap (slice_get script.layout.kernel) is) ∙ w.declared) in
          let right : AreRightMarks script report kernel w.frame (marks_of report w.frame.0) place =
          subst (λ (g : Frame). AreRightMarks script report kernel g (marks_of report g.0) place) (sym (same-frame w.frame n is)) wrong.before in
          let mine : AreRightMarks script report w.kernel w.frame (marks_of report w.frame.0) place = subst (λ (k : Bool). AreRightMarks script report k w.frame (marks_of report w.frame.0) place) kernel_is right in
          absurd (no-wrong script report other w (λ p mark less found. mine p mark (omega (arith, less, low)) found))
      | inr high ↦
          let same : frame_line report w.frame.0 ≡ frame_line report n = ap (frame_line report) is in
          let other_is : other ≡ frame_line report w.frame.0 + 1 + w.place = w.line_is in
          let h : heading ≡ frame_line report n = below.heading_is in
          omega (arith, same, other_is, h, line_is, high)
    ]

-- it goes on behind a frame that fits
pub kept-next : (script : Script) (report : Report) (n heading next : ℕ) (kernel : Bool) (shown : FrameLine) → KeptBelow script report n heading
    → slice_get script.layout.kernel n ≡ Some kernel → slice_get report.frames n ≡ Some shown → FrameFits script report kernel (record { 0 = n }) (marks_of report n)
    → next ≡ heading + 1 + length shown.marks → KeptBelow script report (n + 1) next
kept-next script report n heading next kernel shown below declared there fits is = record {
  fits = λ frame k low found. elim (cases_lt frame.0 n) [
    | inl less ↦ below.fits frame k less found
    | inr high ↦
        let same : frame.0 ≡ n = omega (arith, low, high) in
        let kernel_is : kernel ≡ k = same_Some _ _ (sym declared ∙ sym (ap (slice_get script.layout.kernel) same) ∙ found) in
        subst (λ (b : Bool). FrameFits script report b frame (marks_of report frame.0)) kernel_is
        (subst (λ (g : Frame). FrameFits script report kernel g (marks_of report g.0)) (sym (same-frame frame n same)) fits)
  ];
  heading_is = let h : heading ≡ frame_line report n = below.heading_is in let more : frame_line report (n + 1) ≡ frame_line report n + 1 + length shown.marks = frame-next report n shown there in omega (arith, h, more, is);
}

-- where all frames fit, nothing is at fault
pub kept-clear : (script : Script) (report : Report) (n heading : ℕ) → KeptBelow script report n heading → length report.frames ≤ n → length report.frames ≤ length script.layout.kernel
    → IsClear (RecordsFit script report) (IsRecordFault script report)
kept-clear script report n heading below all each = record {
  fits = λ frame kernel line declared there.
      let within : frame.0 < length report.frames = slice_get_within report.frames frame.0 line there in
      record-of script report kernel frame (below.fits frame kernel (omega (arith, within, all)) declared);
  none = λ line f.
      let within : frame-of script report line f < length report.frames = frame-within script report line f in
      clear-below script report n heading line below each f (omega (arith, within, all));
}

-- the marks of a record, one after the other
pub rights-next : (script : Script) (report : Report) (kernel : Bool) (frame : Frame) (list : List MarkLine) (n : ℕ) (mark : MarkLine) → AreRightMarks script report kernel frame list n
    → slice_get list n ≡ Some mark → IsRightMark script report kernel frame list n mark → AreRightMarks script report kernel frame list (n + 1)
rights-next script report kernel frame list n mark rights there right place m low found = elim (cases_lt place n) [
  | inl less ↦ rights place m less found
  | inr high ↦
      let same : place ≡ n = omega (arith, low, high) in
      let mark_is : mark ≡ m = same_Some _ _ (sym there ∙ sym (ap (slice_get list) same) ∙ found) in
      subst (λ (p : ℕ). IsRightMark script report kernel frame list p m) (sym same) (subst (λ (x : MarkLine). IsRightMark script report kernel frame list n x) mark_is right)
]

-- what the loop over the frames reads
pub shown-at : (xs frames : List FrameLine) (i n : ℕ) (x : FrameLine) → xs ≡ frames → i ≡ n → n < length frames → x ≡ get_or xs i x → slice_get frames n ≡ Some x
shown-at xs frames i n x same is within read =
    let long : length xs ≡ length frames = ap (λ (ys : List FrameLine). length ys) same in
    subst (λ k. slice_get frames k ≡ Some x) is (subst (λ (ys : List FrameLine). slice_get ys i ≡ Some x) same (slice_get_read xs _ i x refl (omega (arith, long, is, within)) read))

pub kernel-at : (xs kernels : List Bool) (i n : ℕ) (d : Bool) → xs ≡ kernels → i ≡ n → n < length kernels → slice_get kernels n ≡ Some (get_or xs i d)
kernel-at xs kernels i n d same is within =
    let long : length xs ≡ length kernels = ap (λ (ys : List Bool). length ys) same in
    subst (λ k. slice_get kernels k ≡ Some (get_or xs i d)) is (subst (λ (ys : List Bool). slice_get ys i ≡ Some (get_or xs i d)) same (slice_get-get_or xs i d (omega (arith, long, is, within))))

-- the script has as many kernel flags as the report frames, when the shape fits
pub as-many : (script : Script) (report : Report) → IsDeclared script → ShapeFits script report → (length report.frames ≡ script.layout.frames) × (length script.layout.kernel ≡ script.layout.frames) × (length report.cpus ≡ script.layout.cpus)
as-many script report valid shape = (shape.frames, valid.sound.kernel, shape.cpus)

-- the next heading is within the report
pub frame-room : (script : Script) (report : Report) (n heading : ℕ) (shown : FrameLine) → KeptBelow script report n heading → slice_get report.frames n ≡ Some shown
    → heading + 1 + length shown.marks ≤ last_line report
frame-room script report n heading shown below there =
    let h : heading ≡ frame_line report n = below.heading_is in
    let more : frame_line report (n + 1) ≡ frame_line report n + 1 + length shown.marks = frame-next report n shown there in
    let most : sum_by frame_height (take (n + 1) report.frames) ≤ sum_by frame_height report.frames = sum_by-take-le frame_height report.frames (n + 1) in
    omega (arith, h, more, most)
