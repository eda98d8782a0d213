-- The lines of a command in a record stand in the order in which it noted them: a processor's marks of a frame rise by their places.
use Rattle.std.proofs.Common.{◌≡◌, ℕ, ◌+◌, ◌<◌, ◌==◌, ◌&&◌, Bool, List, [], Option, Some, None, filter, option_and_then, slice_get, refl, sym, ap, ◌∙◌, subst, arith}
use Rattle.std.proofs.lemmas.Bool.{eqb-true}
use Rattle.std.proofs.lemmas.Option.{none-some, slice_get_within}
use Rattle.hwp_law_served.specs.hwp_geom.declared.VSlot.{VSlot}
use Rattle.hwp_law_served.specs.hwp_geom.declared.Cpu.{Cpu}
use Rattle.hwp_law_served.specs.hwp_geom.declared.Frame.{Frame}
use Rattle.hwp_law_served.specs.hwp_geom.declared.Who.{Who}
use Rattle.hwp_law_served.specs.hwp_geom.Pairs.{Pairs}
use Rattle.hwp_law_served.specs.hwp_core_rule.declared.Mark.{Mark}
use Rattle.hwp_law_served.specs.hwp_core_rule.declared.State.{State}
use Rattle.hwp_law_served.specs.hwp_core_rule.declared.View.{View}
use Rattle.hwp_law_served.specs.hwp_core_rule.Lists.{EachMember, SomeMember}
use Rattle.hwp_law_served.specs.hwp_core_rule.Boards.{view_of}
use Rattle.hwp_law_served.specs.hwp_script_words.declared.Script.{Script}
use Rattle.hwp_law_served.specs.hwp_report_text.declared.FrameLine.{FrameLine}
use Rattle.hwp_law_served.specs.hwp_report_text.declared.MarkLine.{MarkLine}
use Rattle.hwp_law_served.specs.hwp_report_text.declared.Report.{Report}
use Rattle.hwp_law_served.specs.hwp_law.Lines.{is_same_command}
use Rattle.hwp_law_served.specs.hwp_law.Records.{hardware_marks, is_by_hardware, who_in}
use Rattle.hwp_law_served.specs.hwp_cpu_row.declared.Row.{Row}
use Rattle.hwp_law_served.specs.Accounts.{IsNote}
use Rattle.hwp_law_served.specs.Rows.{Note, lines_of, notes_from, record_of}
use Rattle.hwp_law_served.specs.Runs.{notes_of, place_in, row_at}
use Rattle.hwp_law_served.proofs.RunEnds.{IsEnd, filter-has, list-of, served-of}
use Rattle.hwp_law_served.proofs.PoisonMarks.{partner}
use Rattle.hwp_law_served.proofs.Seen.{filter-is}
use Rattle.hwp_law_served.proofs.lines.FrameRecords.{place-noted}
use Rattle.hwp_top_report.proofs.report_lines.RecordLines.{in-gathered, in-record}
use Rattle.hwp_law_served.proofs.marks.MarkPlaces.{mark_place}
use Rattle.hwp_law_served.proofs.marks.MarkSights.{IsLaterMark}
use Rattle.hwp_law_served.proofs.marks.OrderedLists.{IsOrdered, IsRising, ordered-filter, ordered-from, ordered-map, rising-one}
use Rattle.hwp_top_report.proofs.marks.RowNotes.{hardware-of, is_noted, notes-by, notes_at}

-- the notes of one frame rise
abbrev IsLaterNote : Note → Note → Type 0
IsLaterNote a b = a.0.0 ≡ b.0.0 → place_in a.1 < place_in b.1

notes-rise : (own : List Note) (marks : List Mark) → Pairs IsNote own marks → IsOrdered IsLaterMark marks → IsOrdered IsLaterNote own
notes-rise own marks pairs rising i j x y before here there same =
    let k = partner IsNote own marks i x pairs here in
    let l = partner IsNote own marks j y pairs there in
    let frames : k.0.frame ≡ l.0.frame = sym k.2.frame ∙ ap (λ (n : ℕ). record { 0 = n }) same ∙ l.2.frame in
    let less : mark_place k.0 < mark_place l.0 = rising i j k.0 l.0 before k.1 l.1 frames in
    let low : place_in x.1 ≡ mark_place k.0 = place-noted x k.0 k.2 in
    let high : place_in y.1 ≡ mark_place l.0 = place-noted y l.0 l.2 in
    omega (arith, less, low, high)

-- and so do their lines in the frame's record
lines-rise : (frame : Frame) (own : List Note) → IsOrdered IsLaterNote own → IsRising place_in (lines_of frame own)
lines-rise frame own rising = ordered-map (λ (a b : MarkLine). place_in a < place_in b) (λ (n : Note). n.1) (filter on own) (λ i j x y before here there.
    let a = filter-is on own i x here in
    let b = filter-is on own j y there in
    ordered-filter IsLaterNote on own rising i j x y before here there (eqb-true x.0.0 frame.0 a.2 ∙ sym (eqb-true y.0.0 frame.0 b.2)))
  where
    on : Note → Bool
    on n = n.0.0 == frame.0

-- what passes a test is in both lists of the same members
filter-into : {A : Type 0} (test : A → Bool) (l m : List A) → EachMember (λ (x : A). SomeMember (λ (y : A). y ≡ x) m) l → EachMember (λ (x : A). SomeMember (λ (y : A). y ≡ x) (filter test m)) (filter test l)
filter-into {A} test l m into k x there =
    let was = filter-is test l k x there in
    let some = into was.0 x was.1 in
    let has = filter-has test m some.0 x (some.2 ∙ ap (λ (y : A). Some y) some.3) was.2 in
    (has.0, x, has.1, refl)

module _ (script : Script) (copies : Who → Option VSlot) (seat : Cpu → ℕ) (last : State) (report : Report) (end : IsEnd script copies seat last report) where
  -- the lines of a command
  command-rises : (who : Who) (frame : Frame) → IsRising place_in (lines_of frame (notes_at who (row_at end.rows who)))
  command-rises who frame = which (slice_get end.rows who.cpu.0) refl
    where
      view : View
      view = view_of last (seat who.cpu)

      none : (i j : ℕ) (x y : MarkLine) → i < j → slice_get {X = MarkLine} [] i ≡ Some x → slice_get {X = MarkLine} [] j ≡ Some y → place_in x < place_in y
      none i j x y before here there = absurd (none-some x here)

      which : (o : Option (List Row)) → slice_get end.rows who.cpu.0 ≡ o → IsRising place_in (lines_of frame (notes_at who (option_and_then (λ (own : List Row). slice_get own who.seq) o)))
      which None is = none
      which (Some own) is =
          let inside : who.cpu.0 < script.layout.cpus = subst (λ (n : ℕ). who.cpu.0 < n) end.rows_fit (slice_get_within end.rows who.cpu.0 own is) in
          let list = list-of script copies seat last report end who.cpu inside in
          let served = (served-of script copies seat last report end who.cpu list.0 own list.1 is).0 in
          let notes : List Note = notes_from who.cpu 0 own in
          let rising : IsOrdered IsLaterNote notes = notes-rise notes view.marks served.noted (end.marks_rise (seat who.cpu) view (end.seated.there who.cpu inside)) in
          subst (λ (l : List Note). IsRising place_in (lines_of frame l)) (notes-by who 0 own who.seq (let same : who.seq ≡ 0 + who.seq = omega arith in same))
          (lines-rise frame (filter (is_noted who) notes) (ordered-filter IsLaterNote (is_noted who) notes rising))

  -- the lines of a command that its events caused are those that are gathered, in their order
  pub hardware-same : (who : Who) (frame : Frame) (line : FrameLine) → slice_get report.frames frame.0 ≡ Some line → hardware_marks who line.marks ≡ hardware_marks who (record_of frame (notes_of 0 end.rows))
  hardware-same who frame line line_is =
      let gathered : List MarkLine = record_of frame (notes_of 0 end.rows) in
      let test : MarkLine → Bool = λ m. is_same_command who (who_in m) && is_by_hardware m in
      rising-one place_in (hardware_marks who line.marks) (hardware_marks who gathered)
      (ordered-filter (λ (a b : MarkLine). place_in a < place_in b) test line.marks (ordered-from (λ (a b : MarkLine). place_in a < place_in b) line.marks (end.records frame line line_is).rising))
      (subst (IsRising place_in) (sym (hardware-of frame who end.rows)) (ordered-filter (λ (a b : MarkLine). place_in a < place_in b) is_by_hardware (lines_of frame (notes_at who (row_at end.rows who))) (command-rises who frame)))
      (filter-into test line.marks gathered (in-gathered script copies seat last report end frame line line_is))
      (filter-into test gathered line.marks (in-record script copies seat last report end frame line line_is))
