-- How many lines of the records tell of a command: as many as the notes of its row, in all records and in that of one frame.
use Rattle.std.proofs.Common.{◌≡◌, ℕ, ◌+◌, ◌<◌, ◌==◌, ◌&&◌, Bool, true, false, cond, List, [], ◌∷◌, Option, None, Some, filter, length, option_map, slice_get, unwrap_or, refl, sym, ap, ◌∙◌, subst, arith}
use Rattle.std.specs.List.{count_by, sum_by}
use Rattle.std.proofs.lemmas.Bool.{ne_eqb}
use Rattle.std.proofs.lemmas.List.Sums.{sum_by-cons}
use Rattle.std.proofs.lemmas.Option.{none-some, slice_get_within}
use Rattle.hwp_law_served.specs.hwp_geom.declared.VSlot.{VSlot}
use Rattle.hwp_law_served.specs.hwp_geom.declared.Cpu.{Cpu}
use Rattle.hwp_law_served.specs.hwp_geom.declared.Frame.{Frame}
use Rattle.hwp_law_served.specs.hwp_geom.declared.Who.{Who}
use Rattle.hwp_law_served.specs.hwp_core_rule.declared.State.{State}
use Rattle.hwp_law_served.specs.hwp_core_rule.declared.View.{View}
use Rattle.hwp_law_served.specs.hwp_core_rule.Lists.{EachMember}
use Rattle.hwp_law_served.specs.hwp_core_rule.Words.{sum_below, words_of}
use Rattle.hwp_law_served.proofs.of_hwp_core_rule.CountsBelow.{below-swap}
use Rattle.hwp_law_served.proofs.of_hwp_core_rule.Lists.{at_map, sum-zero}
use Rattle.hwp_law_served.proofs.of_hwp_core_rule.MoveKeeps.{shaped}
use Rattle.hwp_law_served.specs.hwp_core_rule.Boards.{view_of}
use Rattle.hwp_law_served.specs.hwp_script_words.declared.Script.{Script}
use Rattle.hwp_law_served.specs.hwp_report_text.declared.FrameLine.{FrameLine}
use Rattle.hwp_law_served.specs.hwp_report_text.declared.MarkLine.{MarkLine}
use Rattle.hwp_law_served.specs.hwp_report_text.declared.Report.{Report}
use Rattle.hwp_law_served.specs.hwp_law.Lines.{is_same_command, marks_of}
use Rattle.hwp_law_served.specs.hwp_law.Pairings.{marks_in}
use Rattle.hwp_law_served.specs.hwp_law.Records.{who_in}
use Rattle.hwp_law_served.proofs.Homes.{there-is}
use Rattle.hwp_law_served.specs.Accounts.{IsNote}
use Rattle.hwp_law_served.specs.Rows.{Note}
use Rattle.hwp_law_served.specs.Runs.{notes_of, notes_on, row_at}
use Rattle.hwp_law_served.proofs.RunEnds.{IsEnd}
use Rattle.hwp_law_served.proofs.Sums.{below-one, flat-sum, list-below, sum-same}
use Rattle.hwp_law_served.proofs.PoisonMarks.{partner}
use Rattle.hwp_law_served.proofs.lines.FrameRecords.{record-same}
use Rattle.hwp_top_report.proofs.report_lines.RecordLines.{all-noted}
use Rattle.hwp_top_report.proofs.marks.RowNotes.{all_notes, is_noted, notes-of-command, notes_at}

cond-and : (a b : Bool) → ◌≡◌ {A = ℕ} (cond (a && b) 1 0) (cond a (cond b 1 0) 0)
cond-and true b = refl
cond-and false b = refl

-- the notes of a command that pass a test
noted-count : (who : Who) (test : Note → Bool) (own : List Note) → count_by (λ (n : Note). is_same_command who (who_in n.1) && test n) own ≡ count_by test (filter (is_noted who) own)
noted-count who test [] = refl
noted-count who test (n ∷ ns) =
    sum_by-cons (λ (x : Note). cond (is_same_command who (who_in x.1) && test x) 1 0) n ns
    ∙ ap (λ (k : ℕ). cond (is_same_command who (who_in n.1) && test n) 1 0 + k) (noted-count who test ns)
    ∙ which (is_same_command who (who_in n.1)) (filter (is_noted who) ns)
  where
    which : (b : Bool) (left : List Note) → cond (b && test n) 1 0 + count_by test left ≡ count_by test (cond b (n ∷ left) left)
    which true left = sym (sum_by-cons (λ (x : Note). cond (test x) 1 0) n left)
    which false left = omega arith

and-swap : (a b c : Bool) → (a && (b && c)) ≡ (b && (a && c))
and-swap true true c = refl
and-swap true false c = refl
and-swap false true c = refl
and-swap false false c = refl

module _ (script : Script) (copies : Who → Option VSlot) (seat : Cpu → ℕ) (last : State) (report : Report) (end : IsEnd script copies seat last report) where
  -- the frame of a note is one of the report
  framed : (c : ℕ) (own : List Note) → slice_get (notes_of 0 end.rows) c ≡ Some own → EachMember (λ (n : Note). n.0.0 < length report.frames) own
  framed c own there j n at =
      let noted = all-noted script copies seat last report end in
      let inside : c < script.layout.cpus = subst (λ (n : ℕ). c < n) noted.fit (slice_get_within (notes_of 0 end.rows) c own there) in
      let cpu : Cpu = record { 0 = c } in
      let m = partner IsNote own (view_of last (seat cpu)).marks j n (noted.noted c own there) at in
      let within : m.0.frame.0 < length (words_of script.layout last.words).frames
      = end.board.holds.rule.failures.marks.framed (seat cpu) (view_of last (seat cpu)).marks (at_map (λ (v : View). v.marks) last.views (seat cpu) (view_of last (seat cpu)) (end.seated.there cpu inside)) j m.0 m.1 in
      let all : length (words_of script.layout last.words).frames ≡ script.layout.frames = (shaped script.layout last end.board.holds).frames in
      let lines : length report.frames ≡ script.layout.frames = end.board.frames_fit in
      let same : n.0.0 ≡ m.0.frame.0 = ap (λ (f : Frame). f.0) m.2.frame in
      omega arith

  -- the lines of all records are the notes of all processors
  marks-notes : (test : MarkLine → Bool) → marks_in report test ≡ sum_by (λ (own : List Note). count_by (λ (n : Note). test n.1) own) (notes_of 0 end.rows)
  marks-notes test =
      list-below (λ (l : FrameLine). count_by test l.marks) (λ i. sum_by (notes_on (record { 0 = i }) test) (notes_of 0 end.rows)) report.frames (λ i l there. record-same (notes_of 0 end.rows) (record { 0 = i }) l.marks test (end.records (record { 0 = i }) l there))
      ∙ below-swap (λ (i : ℕ) (own : List Note). notes_on (record { 0 = i }) test own) (notes_of 0 end.rows) (length report.frames)
      ∙ sum-same (λ (own : List Note). sum_below (λ i. notes_on (record { 0 = i }) test own) (length report.frames)) (λ (own : List Note). count_by (λ (n : Note). test n.1) own) (notes_of 0 end.rows) (λ c own there.
      below-swap (λ (i : ℕ) (n : Note). cond ((n.0.0 == i) && test n.1) 1 0) own (length report.frames)
      ∙ sum-same (λ (n : Note). sum_below (λ i. cond ((n.0.0 == i) && test n.1) 1 0) (length report.frames)) (λ (n : Note). cond (test n.1) 1 0) own (λ j n at.
      ap (λ (g : ℕ → ℕ). sum_below g (length report.frames)) (λ k i. cond-and (n.0.0 == i) (test n.1) k)
      ∙ below-one n.0.0 (cond (test n.1) 1 0) (length report.frames) (framed c own there j n at)))

  -- the lines of a command that pass a test are those of its row
  pub marks-of-command : (who : Who) (test : MarkLine → Bool) → marks_in report (λ (x : MarkLine). is_same_command who (who_in x) && test x) ≡ count_by (λ (n : Note). test n.1) (notes_at who (row_at end.rows who))
  marks-of-command who test =
      marks-notes (λ (x : MarkLine). is_same_command who (who_in x) && test x)
      ∙ sym (flat-sum (λ (n : Note). cond (is_same_command who (who_in n.1) && test n.1) 1 0) (λ (own : List Note). own) (notes_of 0 end.rows))
      ∙ noted-count who (λ (n : Note). test n.1) (all_notes (notes_of 0 end.rows))
      ∙ ap (count_by (λ (n : Note). test n.1)) (notes-of-command who end.rows)

  -- the lines of a frame's record that pass a test are as many as its notes that do, also where the report has no such frame
  frame-notes : (frame : Frame) (test : MarkLine → Bool) → count_by test (marks_of report frame.0) ≡ sum_by (notes_on frame test) (notes_of 0 end.rows)
  frame-notes frame test = which (slice_get report.frames frame.0) refl
    where
      which : (o : Option FrameLine) → slice_get report.frames frame.0 ≡ o → count_by test (unwrap_or (option_map (λ (l : FrameLine). l.marks) o) []) ≡ sum_by (notes_on frame test) (notes_of 0 end.rows)
      which None none =
          sym (sum-zero (notes_on frame test) (notes_of 0 end.rows) (λ c own there. sum-zero (λ (n : Note). cond ((n.0.0 == frame.0) && test n.1) 1 0) own (λ j n at.
          ap (λ (b : Bool). cond (b && test n.1) 1 0) (ne_eqb n.0.0 frame.0 (λ is.
          let line = there-is report.frames frame.0 (subst (λ (k : ℕ). k < length report.frames) is (framed c own there j n at)) in
          none-some line.0 (sym none ∙ line.1))))))
      which (Some line) there = record-same (notes_of 0 end.rows) frame line.marks test (end.records frame line there)

  -- those of a command are the notes of its row
  pub marks-on-frame : (who : Who) (frame : Frame) (test : MarkLine → Bool)
      → count_by (λ (x : MarkLine). is_same_command who (who_in x) && test x) (marks_of report frame.0) ≡ count_by (λ (n : Note). (n.0.0 == frame.0) && test n.1) (notes_at who (row_at end.rows who))
  marks-on-frame who frame test =
      frame-notes frame (λ (x : MarkLine). is_same_command who (who_in x) && test x)
      ∙ sym (flat-sum (λ (n : Note). cond ((n.0.0 == frame.0) && (is_same_command who (who_in n.1) && test n.1)) 1 0) (λ (own : List Note). own) (notes_of 0 end.rows))
      ∙ sum-same (λ (n : Note). cond ((n.0.0 == frame.0) && (is_same_command who (who_in n.1) && test n.1)) 1 0) (λ (n : Note). cond (is_same_command who (who_in n.1) && ((n.0.0 == frame.0) && test n.1)) 1 0) (all_notes (notes_of 0 end.rows))
      (λ j n at. ap (λ (b : Bool). cond b 1 0) (and-swap (n.0.0 == frame.0) (is_same_command who (who_in n.1)) (test n.1)))
      ∙ noted-count who (λ (n : Note). (n.0.0 == frame.0) && test n.1) (all_notes (notes_of 0 end.rows))
      ∙ ap (count_by (λ (n : Note). (n.0.0 == frame.0) && test n.1)) (notes-of-command who end.rows)
