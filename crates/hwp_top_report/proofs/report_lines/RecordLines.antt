-- The record of a frame is what is gathered of the notes of all processors: each of its lines tells a failure of the frame by an event
-- which a command told, or what the command did to the frame itself.
use Rattle.std.proofs.Common.{◌≡◌, ◌⊎◌, inl, inr, ℕ, ◌+◌, ◌<◌, ◌==◌, Bool, true, List, Option, Some, None, filter, slice_get, refl, sym, ap, ◌∙◌, subst, arith}
use Rattle.std.proofs.lemmas.Bool.{and_from, eq-eqb, eqb-true}
use Rattle.std.proofs.lemmas.List.Sorted.{IsPermutation-sym}
use Rattle.std.proofs.lemmas.Option.{none-some, slice_get_within}
use Rattle.hwp_law_served.specs.hwp_geom.declared.VSlot.{VSlot}
use Rattle.hwp_law_served.specs.hwp_geom.declared.Cpu.{Cpu}
use Rattle.hwp_law_served.specs.hwp_geom.declared.Frame.{Frame}
use Rattle.hwp_law_served.specs.hwp_geom.declared.Who.{Who}
use Rattle.hwp_law_served.specs.hwp_geom.Pairs.{Pairs}
use Rattle.hwp_law_served.specs.hwp_page.Situations.{outcome_of}
use Rattle.hwp_law_served.specs.hwp_core_rule.declared.State.{State}
use Rattle.hwp_law_served.specs.hwp_core_rule.Lists.{SomeMember}
use Rattle.hwp_law_served.proofs.of_hwp_core_rule.Lists.{map-was}
use Rattle.hwp_law_served.specs.hwp_core_rule.Boards.{view_of}
use Rattle.hwp_law_served.specs.hwp_script_words.declared.Script.{Script}
use Rattle.hwp_law_served.specs.hwp_report_text.declared.FrameLine.{FrameLine}
use Rattle.hwp_law_served.specs.hwp_report_text.declared.How.TheVariants as hows
use Rattle.hwp_law_served.specs.hwp_report_text.declared.MarkLine.{MarkLine}
use Rattle.hwp_law_served.specs.hwp_report_text.declared.MarkLine.TheVariants as marks
use Rattle.hwp_law_served.specs.hwp_report_text.declared.Report.{Report}
use Rattle.hwp_law_served.specs.hwp_law.Records.{who_in}
use Rattle.hwp_law_served.specs.hwp_claim.declared.Found.{Found}
use Rattle.hwp_law_served.specs.hwp_cpu_row.declared.FrameChange.{FrameChange}
use Rattle.hwp_law_served.specs.hwp_cpu_row.declared.Offlining.{Offlining}
use Rattle.hwp_law_served.specs.hwp_cpu_row.declared.Row.{Row}
use Rattle.hwp_law_served.specs.hwp_claim.declared.EventOutcome.{EventOutcome}
use Rattle.hwp_law_served.specs.hwp_claim.Told.{frame_of}
use Rattle.hwp_law_served.specs.Accounts.{IsNote}
use Rattle.hwp_law_served.specs.Rows.{Note, note_by, notes_from, record_of}
use Rattle.hwp_law_served.specs.Runs.{notes_of, row_at}
use Rattle.hwp_law_served.proofs.RunEnds.{IsEnd, filter-has, list-of, rows-of, served-of}
use Rattle.hwp_law_served.proofs.Seen.{filter-is}
use Rattle.hwp_law_served.proofs.lines.FrameRecords.{AreNoted}
use Rattle.hwp_law_served.proofs.marks.OrderedLists.{moved-has}
use Rattle.hwp_top_report.proofs.marks.RowNotes.{all_notes, each-note, is_noted, notes-at, notes-fit, notes-of-command, notes_at, record-flat}

-- ---- the lines of a record

abbrev pub failure_line : Who → Bool → Found → MarkLine
failure_line who hardware found = marks.Poisoned found.cycle who (hows.Failure hardware found.situation (outcome_of found.situation))

-- a line of a frame's record by a command with this row: of an event, of a frame that was taken out of use beside the command, or of what
-- the command did to a frame itself
pub record IsOfTold (who : Who) (row : Row) (frame : Frame) (x : MarkLine) : Type 0 where
  pub i : ℕ
  pub t : EventOutcome
  pub there : slice_get row.told i ≡ Some t
  pub found : Found
  pub found_is : t.found ≡ Some found
  pub frame_is : frame_of t.held ≡ frame
  pub line_is : x ≡ failure_line who true found

pub record IsOfOwn (who : Who) (row : Row) (frame : Frame) (x : MarkLine) : Type 0 where
  pub own : FrameChange
  pub own_is : row.own ≡ Some own
  pub frame_is : (note_by who own).0 ≡ frame
  pub line_is : x ≡ (note_by who own).1

pub record IsOfBeside (who : Who) (row : Row) (frame : Frame) (x : MarkLine) : Type 0 where
  pub i : ℕ
  pub o : Offlining
  pub there : slice_get row.offlined i ≡ Some o
  pub change : FrameChange
  pub change_is : o.change ≡ Some change
  pub frame_is : (note_by who change).0 ≡ frame
  pub line_is : x ≡ (note_by who change).1

abbrev pub IsOfRow : Who → Row → Frame → MarkLine → Type 0
IsOfRow who row frame x = IsOfTold who row frame x ⊎ (IsOfBeside who row frame x ⊎ IsOfOwn who row frame x)

pub record OfItsRow (rows : List (List Row)) (frame : Frame) (x : MarkLine) : Type 0 where
  pub row : Row
  pub row_is : row_at rows (who_in x) ≡ Some row
  pub of : IsOfRow (who_in x) row frame x

-- each note is one of its command's row
note-row : (rows : List (List Row)) (j : ℕ) (n : Note) → slice_get (all_notes (notes_of 0 rows)) j ≡ Some n → OfItsRow rows n.0 n.1
note-row rows j n there =
    let who : Who = who_in n.1 in
    let among = filter-has (is_noted who) (all_notes (notes_of 0 rows)) j n there (and_from (who.cpu.0 == who.cpu.0) (who.seq == who.seq) (eq-eqb who.cpu.0 who.cpu.0 refl) (eq-eqb who.seq who.seq refl)) in
    which (row_at rows who) refl among.0 (sym (ap (λ (l : List Note). slice_get l among.0) (notes-of-command who rows)) ∙ among.1)
  where
    which : (o : Option Row) → row_at rows (who_in n.1) ≡ o → (k : ℕ) → slice_get (notes_at (who_in n.1) o) k ≡ Some n → OfItsRow rows n.0 n.1
    which None is k at = absurd (none-some n at)
    which (Some row) is k at = record {
      row = row;
      row_is = is;
      of = each-note (λ (x : Note). IsOfRow (who_in n.1) row x.0 x.1) (who_in n.1) row (λ i t found there some. inl (record { i = i; t = t; there = there; found = found; found_is = some; frame_is = refl; line_is = refl }))
          (λ i o change there is. inr (inl (record { i = i; o = o; there = there; change = change; change_is = is; frame_is = refl; line_is = refl })))
          (λ own is. inr (inr (record { own = own; own_is = is; frame_is = refl; line_is = refl }))) k n at;
    }

-- and so is each line that is gathered
pub line-row : (rows : List (List Row)) (frame : Frame) (k : ℕ) (x : MarkLine) → slice_get (record_of frame (notes_of 0 rows)) k ≡ Some x → OfItsRow rows frame x
line-row rows frame k x there =
    let on : Note → Bool = λ n. n.0.0 == frame.0 in
    let of = map-was (λ (n : Note). n.1) (filter on (all_notes (notes_of 0 rows))) k x (sym (ap (λ (l : List MarkLine). slice_get l k) (record-flat frame (notes_of 0 rows))) ∙ there) in
    let note : Note = of.0 in
    let found = filter-is on (all_notes (notes_of 0 rows)) k note of.1 in
    let frame_is : note.0 ≡ frame = ap (λ (f : ℕ). record { 0 = f }) (eqb-true note.0.0 frame.0 found.2) in
    subst (OfItsRow rows frame) of.2 (subst (λ (f : Frame). OfItsRow rows f note.1) frame_is (note-row rows found.0 note found.1))

module _ (script : Script) (copies : Who → Option VSlot) (seat : Cpu → ℕ) (last : State) (report : Report) (end : IsEnd script copies seat last report) where
  -- the notes of each processor are of its marks
  pub all-noted : AreNoted script.layout seat last (notes_of 0 end.rows)
  all-noted = record {
    fit = notes-fit 0 end.rows ∙ end.rows_fit;
    noted = λ c own there. (let by = notes-at 0 end.rows c own there in
        let inside : c < script.layout.cpus = subst (λ (n : ℕ). c < n) end.rows_fit (slice_get_within end.rows c by.0 by.1) in
        let cpu : Cpu = record { 0 = c } in
        let list = list-of script copies seat last report end cpu inside in
        let served = (served-of script copies seat last report end cpu list.0 by.0 list.1 by.1).0 in
        subst (λ (l : List Note). Pairs IsNote l (view_of last (seat cpu)).marks) (sym (by.2 ∙ ap (λ (n : ℕ). notes_from (record { 0 = n }) 0 by.0) (let same : 0 + c ≡ c = omega arith in same))) served.noted);
    marked = λ c inside. (let cpu : Cpu = record { 0 = c } in
        let list = list-of script copies seat last report end cpu inside in
        let own = rows-of script copies seat last report end cpu inside in
        let served = (served-of script copies seat last report end cpu list.0 own.0 list.1 own.1).0 in
        λ j m there. (served.marked j m there).0);
  }

  -- the record has the lines that are gathered, and no others
  pub in-gathered : (frame : Frame) (line : FrameLine) → slice_get report.frames frame.0 ≡ Some line → (k : ℕ) (x : MarkLine) → slice_get line.marks k ≡ Some x → SomeMember (λ (y : MarkLine). y ≡ x) (record_of frame (notes_of 0 end.rows))
  in-gathered frame line line_is k x there =
      let gathered : List MarkLine = record_of frame (notes_of 0 end.rows) in
      moved-has line.marks gathered (IsPermutation-sym gathered line.marks (end.records frame line line_is).noted) k x there

  pub in-record : (frame : Frame) (line : FrameLine) → slice_get report.frames frame.0 ≡ Some line → (k : ℕ) (x : MarkLine) → slice_get (record_of frame (notes_of 0 end.rows)) k ≡ Some x → SomeMember (λ (y : MarkLine). y ≡ x) line.marks
  in-record frame line line_is k x there = moved-has (record_of frame (notes_of 0 end.rows)) line.marks (end.records frame line line_is).noted k x there

  -- so that each of its lines is of a row
  pub of-row : (frame : Frame) (line : FrameLine) → slice_get report.frames frame.0 ≡ Some line → (k : ℕ) (x : MarkLine) → slice_get line.marks k ≡ Some x → OfItsRow end.rows frame x
  of-row frame line line_is k x there = let some = in-gathered frame line line_is k x there in subst (OfItsRow end.rows frame) some.3 (line-row end.rows frame some.0 some.1 some.2)
