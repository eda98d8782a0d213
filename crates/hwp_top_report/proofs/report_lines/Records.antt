-- The record of a frame: each line is of a failure of the frame, with what it found and its result, or of a soft offline; that of an
-- `inject` or `unpoison` is its answer, and those of a command's events stand beside the event lines that tell them.
use Rattle.std.proofs.Common.{◌≡◌, inl, inr, ℕ, zero, suc, ◌==◌, ◌&&◌, Bool, true, false, cond, List, [], ◌∷◌, ◌++◌, Option, Some, None, filter, filter_map, is_some, length, map, option_map, slice_get, unwrap_or, refl, sym, ap, ◌∙◌, subst}
use Rattle.std.specs.List.{cons_option}
use Rattle.std.proofs.lemmas.Bool.{eq-eqb}
use Rattle.std.proofs.lemmas.Option.{get_or_from_slice_get, none-some, same_Some, slice_get_within}
use Rattle.hwp_law_served.specs.hwp_geom.declared.VSlot.{VSlot}
use Rattle.hwp_law_served.specs.hwp_banks.Addresses.{frame_at}
use Rattle.hwp_law_served.specs.hwp_geom.declared.Cpu.{Cpu}
use Rattle.hwp_law_served.specs.hwp_geom.declared.Frame.{Frame}
use Rattle.hwp_law_served.specs.hwp_geom.declared.Who.{Who}
use Rattle.hwp_law_served.specs.hwp_page.Situations.{outcome_of}
use Rattle.hwp_law_served.specs.hwp_core_rule.declared.Mark.{Mark}
use Rattle.hwp_law_served.specs.hwp_core_rule.declared.State.{State}
use Rattle.hwp_law_served.specs.hwp_core_rule.declared.View.{View}
use Rattle.hwp_law_served.specs.hwp_core_rule.Lists.{EachMember}
use Rattle.hwp_law_served.proofs.of_hwp_core_rule.Lists.{at_last, at_longer, at_map}
use Rattle.hwp_law_served.specs.hwp_core_rule.Boards.{view_of}
use Rattle.hwp_law_served.specs.hwp_claim_frame.Claims.{is_own}
use Rattle.hwp_law_served.specs.hwp_claim_frame.Done.{Marking}
use Rattle.hwp_law_served.specs.hwp_script_words.declared.Command.{Command}
use Rattle.hwp_law_served.specs.hwp_script_words.declared.Command.TheVariants as commands
use Rattle.hwp_law_served.specs.hwp_script_words.declared.Script.{Script}
use Rattle.hwp_law_served.specs.hwp_report_text.declared.Acted.{Acted}
use Rattle.hwp_law_served.specs.hwp_report_text.declared.Acted.TheVariants as acts
use Rattle.hwp_law_served.specs.hwp_report_text.declared.Answer.{Answer}
use Rattle.hwp_law_served.specs.hwp_report_text.declared.EventLine.{EventLine}
use Rattle.hwp_law_served.specs.hwp_report_text.declared.FrameLine.{FrameLine}
use Rattle.hwp_law_served.specs.hwp_report_text.declared.How.{How}
use Rattle.hwp_law_served.specs.hwp_report_text.declared.How.TheVariants as hows
use Rattle.hwp_law_served.specs.hwp_report_text.declared.MarkLine.{MarkLine}
use Rattle.hwp_law_served.specs.hwp_report_text.declared.MarkLine.TheVariants as marks
use Rattle.hwp_law_served.specs.hwp_report_text.declared.Report.{Report}
use Rattle.hwp_law_served.specs.hwp_law.Causes.{HasMark}
use Rattle.hwp_law_served.specs.hwp_law.Checks.{IsResult}
use Rattle.hwp_law_served.specs.hwp_law.Commands.{command_at, current_thread}
use Rattle.hwp_law_served.specs.hwp_law.Lines.{answer_of, marks_of}
use Rattle.hwp_law_served.specs.hwp_law.Records.{HaveEvents, is_kernel_found, IsAnswered, IsFound, IsFrameRecord, IsMarkAt, hardware_marks, how_in, is_by_hardware, line_results, mark_results, result_lines, result_of, who_in}
use Rattle.hwp_law_served.specs.hwp_claim.declared.Found.{Found}
use Rattle.hwp_law_served.specs.hwp_cpu_row.declared.FrameChange.{FrameChange}
use Rattle.hwp_law_served.specs.hwp_cpu_row.declared.FrameChange.TheVariants as owns
use Rattle.hwp_law_served.specs.hwp_cpu_row.Acts.{Offlined, acts}
use Rattle.hwp_law_served.specs.hwp_cpu_row.declared.Offlining.{Offlining}
use Rattle.hwp_law_served.specs.hwp_cpu_row.declared.Row.{Row}
use Rattle.hwp_law_served.specs.hwp_claim.declared.EventOutcome.{EventOutcome}
use Rattle.hwp_law_served.specs.hwp_claim.Fits.{IsEntered}
use Rattle.hwp_law_served.specs.hwp_claim.Told.{required_by}
use Rattle.hwp_law_served.specs.Accounts.{act_marking, marking_by, markings, markings_in, own_marking}
use Rattle.hwp_law_served.specs.Rows.{Note, act_note, lines_of, note_by, offlined, own_note, record_of, row_notes}
use Rattle.hwp_law_served.proofs.Acts.{offlined-act}
use Rattle.hwp_law_served.proofs.Picked.{picked-has}
use Rattle.hwp_law_served.specs.Runs.{notes_of, row_at}
use Rattle.hwp_law_served.proofs.RunEnds.{IsEnd, filter-has}
use Rattle.hwp_law_served.proofs.PoisonMarks.{HasMarked, has-marked}
use Rattle.hwp_law_served.proofs.RowLines.{answer-told, events-by-row, told_at}
use Rattle.hwp_law_served.proofs.Seen.{filter-is}
use Rattle.hwp_law_served.proofs.deeds.Made.{command-is}
use Rattle.hwp_law_served.proofs.lines.OfRows.{IsOwnRight, IsTakenSo, kernel-found, offlined-of, own-of, right-of, row-of, taken-so}
use Rattle.hwp_top_report.proofs.report_lines.RecordLines.{IsOfRow, OfItsRow, failure_line, in-record, of-row}
use Rattle.hwp_top_report.proofs.report_lines.LineOrder.{hardware-same}
use Rattle.hwp_top_report.proofs.report_lines.RowEvents.{Came, TellsResult, came_line, found_in, found_on, hardware_line, results-are, row-lines, row-results, same-results}
use Rattle.hwp_law_served.proofs.lines.ToldRight.{found_act}
use Rattle.hwp_law_served.proofs.marks.Marked.{any-of, line-of}
use Rattle.hwp_top_report.proofs.marks.RecordPlaces.{marks-at}
use Rattle.hwp_top_report.proofs.marks.RowNotes.{all_notes, hardware-of, is_noted, notes-of-command, notes_at, own-by, record-flat}

-- what an event tells is its result where it tells one
result-is : (a b : Acted) → result_of a ≡ Some b → a ≡ b
result-is acts.Recovered b is = same_Some acts.Recovered b is
result-is acts.Delayed b is = same_Some acts.Delayed b is
result-is acts.Ignored b is = same_Some acts.Ignored b is
result-is a b is = absurd (none-some b is)

-- a failure of a frame that came to a result is one of the frame's
came-has : (f : ℕ) (told : List EventOutcome) (i : ℕ) (t : EventOutcome) (found : Found) → slice_get told i ≡ Some t → t.found ≡ Some found → frame_at t.held.event.addr ≡ f → (k : ℕ) × (slice_get (found_on f told) k ≡ Some (t, found))
came-has f [] i t found there some at = absurd (none-some t there)
came-has f (x ∷ xs) zero t found there some at =
    let same : x ≡ t = same_Some x t there in (
      0,
      ap (λ (o : Option Found). slice_get (found_in o (frame_at x.held.event.addr == f) x (found_on f xs)) 0) (ap (λ (y : EventOutcome). y.found) same ∙ some)
          ∙ ap (λ (b : Bool). slice_get (cond b ((x, found) ∷ found_on f xs) (found_on f xs)) 0) (eq-eqb (frame_at x.held.event.addr) f (ap (λ (y : EventOutcome). frame_at y.held.event.addr) same ∙ at))
          ∙ ap (λ (y : EventOutcome). Some (y, found)) same,
    )
came-has f (x ∷ xs) (suc i) t found there some at = which x.found (frame_at x.held.event.addr == f) (came-has f xs i t found there some at)
  where
    which : (o : Option Found) (b : Bool) → (k : ℕ) × (slice_get (found_on f xs) k ≡ Some (t, found)) → (k : ℕ) × (slice_get (found_in o b x (found_on f xs)) k ≡ Some (t, found))
    which None b rest = rest
    which (Some other) true rest = (suc rest.0, rest.1)
    which (Some other) false rest = rest

module _ (script : Script) (copies : Who → Option VSlot) (seat : Cpu → ℕ) (last : State) (report : Report) (end : IsEnd script copies seat last report) where
  -- ---- of any command

  tells-at : (who : Who) → EachMember TellsResult (told_at (row_at end.rows who))
  tells-at who = which (row_at end.rows who) refl
    where
      which : (o : Option Row) → row_at end.rows who ≡ o → EachMember TellsResult (told_at o)
      which None is = λ i t there. absurd (none-some t there)
      which (Some row) is = λ i t there. (right-of script copies seat last report end who row (row-of script copies seat last report end who row is) i t there).result

  -- its lines in a record that its events caused, and its event lines that tell a result
  pub hardware-are : (who : Who) (frame : Frame) (line : FrameLine) → slice_get report.frames frame.0 ≡ Some line → hardware_marks who line.marks ≡ map (hardware_line who) (found_on frame.0 (told_at (row_at end.rows who)))
  hardware-are who frame line line_is = hardware-same script copies seat last report end who frame line line_is ∙ hardware-of frame who end.rows ∙ which (row_at end.rows who)
    where
      which : (o : Option Row) → filter is_by_hardware (lines_of frame (notes_at who o)) ≡ map (hardware_line who) (found_on frame.0 (told_at o))
      which None = refl
      which (Some row) = row-lines frame who row

  pub results-of : (who : Who) (f : ℕ) → result_lines report who f ≡ map (came_line who.seq) (found_on f (told_at (row_at end.rows who)))
  results-of who f =
      ap (filter (λ (l : EventLine). (f == frame_at l.addr) && is_some (result_of l.acted))) (events-by-row script copies seat last report end who)
      ∙ row-results f who.seq (told_at (row_at end.rows who)) (tells-at who)

  -- ---- of a frame

  -- the record of a frame is its line's
  pub marks-are : (frame : Frame) (line : FrameLine) → slice_get report.frames frame.0 ≡ Some line → marks_of report frame.0 ≡ line.marks
  marks-are frame line line_is = ap (λ (o : Option FrameLine). unwrap_or (option_map (λ (l : FrameLine). l.marks) o) []) line_is

  module _ (frame : Frame) (kernel : Bool) (kernel_is : slice_get script.layout.kernel frame.0 ≡ Some kernel) (line : FrameLine) (line_is : slice_get report.frames frame.0 ≡ Some line) where
    at-line : (k : ℕ) (x : MarkLine) → slice_get (marks_of report frame.0) k ≡ Some x → slice_get line.marks k ≡ Some x
    at-line k x there = ap (λ (l : List MarkLine). slice_get l k) (sym (marks-are frame line line_is)) ∙ there

    of : (k : ℕ) (x : MarkLine) → slice_get (marks_of report frame.0) k ≡ Some x → OfItsRow end.rows frame x
    of k x there = of-row script copies seat last report end frame line line_is k x (at-line k x there)

    -- what it found is right, by its row
    line-found : (who : Who) (hardware : Bool) (found : Found) (x : MarkLine) (how : How) → x ≡ failure_line who hardware found → is_kernel_found found.situation ≡ kernel → how_in x ≡ Some how → IsFound kernel how
    line-found who hardware found x how line_is_ right is =
        subst (IsFound kernel) (same_Some (hows.Failure hardware found.situation (outcome_of found.situation)) how (sym (ap how_in line_is_) ∙ is)) (right, refl)

    -- a frame that was taken out of use isn't the kernel's
    offlined-found : (f : Frame) (moved : Bool) (x : MarkLine) (how : How) → slice_get script.layout.kernel f.0 ≡ Some false → f ≡ frame → how_in x ≡ Some (offlined moved) → how_in x ≡ Some how → IsFound kernel how
    offlined-found f moved x how users_ same line is =
        let users : slice_get script.layout.kernel frame.0 ≡ Some false = subst (λ (y : Frame). slice_get script.layout.kernel y.0 ≡ Some false) same users_ in
        subst (IsFound kernel) (same_Some (offlined moved) how (sym line ∙ is)) (which moved (same_Some kernel false (sym kernel_is ∙ users)))
      where
        which : (b : Bool) → kernel ≡ false → IsFound kernel (offlined b)
        which true none = none
        which false none = none

    beside-found : (who : Who) (o : Offlining) (change : FrameChange) (x : MarkLine) (how : How) → IsTakenSo script.layout o.frame o.result change → (note_by who change).0 ≡ frame → x ≡ (note_by who change).1 → how_in x ≡ Some how → IsFound kernel how
    beside-found who o change x how taken frame_is line_is_ is =
        offlined-found o.frame taken.moved x how taken.users (sym (ap (λ (c : FrameChange). (note_by who c).0) taken.change_is) ∙ frame_is) (ap how_in (line_is_ ∙ ap (λ (c : FrameChange). (note_by who c).1) taken.change_is)) is

    own-found : (who : Who) (command : Command) (answer : Answer) (x : MarkLine) (how : How) (own : FrameChange) → IsOwnRight script.layout (view_of last (seat who.cpu)) who command answer own → (note_by who own).0 ≡ frame → x ≡ (note_by who own).1 → how_in x ≡ Some how → IsFound kernel how
    own-found who command answer x how (owns.Failed f found) right frame_is line_is_ is =
        let entered = subst (λ (y : Frame). IsEntered script.layout (view_of last (seat who.cpu)) who y None found found.at) frame_is right.failed.entered in
        line-found who false found x how line_is_ (kernel-found script.layout (view_of last (seat who.cpu)) who frame None kernel found kernel_is entered) is
    own-found who command answer x how (owns.Offlined f cycle moved) right frame_is line_is_ is = offlined-found f moved x how right.users frame_is (ap how_in line_is_) is
    own-found who command answer x how (owns.Revived f cycle) right frame_is line_is_ is = absurd (none-some how (ap how_in (sym line_is_) ∙ is))

    found-so : (k : ℕ) (x : MarkLine) (how : How) → slice_get (marks_of report frame.0) k ≡ Some x → how_in x ≡ Some how → IsFound kernel how
    found-so k x how there is = let o = of k x there in which o.row o.row_is o.of
      where
        which : (row : Row) → row_at end.rows (who_in x) ≡ Some row → IsOfRow (who_in x) row frame x → IsFound kernel how
        which row row_is (inl o) =
            let r = row-of script copies seat last report end (who_in x) row row_is in
            let right = right-of script copies seat last report end (who_in x) row r o.i o.t o.there in
            let required = required_by (current_thread r.of.command) o.t.held.grade.severity in
            let entered = subst (λ (f : Frame). IsEntered script.layout (view_of last (seat (who_in x).cpu)) (who_in x) f required o.found o.found.at) o.frame_is (right.found o.found o.found_is).1 in
            line-found (who_in x) true o.found x how o.line_is (kernel-found script.layout (view_of last (seat (who_in x).cpu)) (who_in x) frame required kernel o.found kernel_is entered) is
        which row row_is (inr (inl o)) =
            let r = row-of script copies seat last report end (who_in x) row row_is in
            let served = offlined-of script copies seat last report end (who_in x) row r o.i o.o o.there in
            beside-found (who_in x) o.o o.change x how (taken-so script.layout (view_of last (seat (who_in x).cpu)) (who_in x) o.o.frame o.o.result o.o.change o.change served.came o.change_is) o.frame_is o.line_is is
        which row row_is (inr (inr o)) =
            let r = row-of script copies seat last report end (who_in x) row row_is in
            own-found (who_in x) r.of.command r.of.row.answer x how o.own (own-of script copies seat last report end (who_in x) row r o.own o.own_is) o.frame_is o.line_is is

    own-answered : (who : Who) (command : Command) (answer : Answer) (own : FrameChange) → IsOwnRight script.layout (view_of last (seat who.cpu)) who command answer own → (note_by who own).0 ≡ frame → command_at script who ≡ Some command → answer_of report who ≡ Some answer
        → IsAnswered script report frame (note_by who own).1
    own-answered who command answer (owns.Failed f found) right frame_is at told =
        (at ∙ ap (λ (c : Command). Some c) right.command_is ∙ ap (λ (y : Frame). Some (commands.Inject y)) frame_is, told ∙ ap (λ (a : Answer). Some a) right.answer_is)
    own-answered who command answer (owns.Offlined f cycle true) right frame_is at told = tt
    own-answered who command answer (owns.Offlined f cycle false) right frame_is at told = tt
    own-answered who command answer (owns.Revived f cycle) right frame_is at told =
        (at ∙ ap (λ (c : Command). Some c) right.command_is ∙ ap (λ (y : Frame). Some (commands.Unpoison y)) frame_is, told ∙ ap (λ (a : Answer). Some a) right.answer_is)

    offlined-answered : (who : Who) (cycle : ℕ) (moved : Bool) → IsAnswered script report frame (marks.Poisoned cycle who (offlined moved))
    offlined-answered who cycle true = tt
    offlined-answered who cycle false = tt

    answered-so : (k : ℕ) (x : MarkLine) → slice_get (marks_of report frame.0) k ≡ Some x → IsAnswered script report frame x
    answered-so k x there = let o = of k x there in which o.row o.row_is o.of
      where
        which : (row : Row) → row_at end.rows (who_in x) ≡ Some row → IsOfRow (who_in x) row frame x → IsAnswered script report frame x
        which row row_is (inl o) = subst (IsAnswered script report frame) (sym o.line_is) tt
        which row row_is (inr (inl o)) =
            let who : Who = who_in x in
            let r = row-of script copies seat last report end who row row_is in
            let served = offlined-of script copies seat last report end who row r o.i o.o o.there in
            let taken = taken-so script.layout (view_of last (seat who.cpu)) who o.o.frame o.o.result o.o.change o.change served.came o.change_is in
            subst (IsAnswered script report frame) (sym (o.line_is ∙ ap (λ (c : FrameChange). (note_by who c).1) taken.change_is)) (offlined-answered who taken.cycle taken.moved)
        which row row_is (inr (inr o)) =
            let who : Who = who_in x in
            let r = row-of script copies seat last report end who row row_is in
            subst (IsAnswered script report frame) (sym o.line_is)
            (own-answered who r.of.command r.of.row.answer o.own (own-of script copies seat last report end who row r o.own o.own_is) o.frame_is (command-is script who r.of.list r.of.command r.of.list_is r.of.command_is)
            (answer-told script copies seat last report end (view_of last (seat who.cpu)) who r.of))

    mark-at : (k : ℕ) (x : MarkLine) → slice_get (marks_of report frame.0) k ≡ Some x → IsMarkAt k x
    mark-at k x there = marks-at script copies seat last report end frame line line_is k x (at-line k x there)

    have-events : (who : Who) → HaveEvents report frame who
    have-events who =
        let told : List EventOutcome = told_at (row_at end.rows who) in
        ap (λ (l : List MarkLine). mark_results (hardware_marks who l)) (marks-are frame line line_is) ∙ ap mark_results (hardware-are who frame line line_is)
        ∙ same-results who who.seq frame.0 told (tells-at who) ∙ sym (ap line_results (results-of who frame.0))

    pub record-so : IsFrameRecord script report kernel frame
    record-so = record { alternates = mark-at; found = found-so; answered = answered-so; events = have-events }

  -- ---- what a row says of a record

  -- a frame that an event made fail has its line
  pub told-line : (who : Who) (row : Row) → row_at end.rows who ≡ Some row → (i : ℕ) (t : EventOutcome) (found : Found) → slice_get row.told i ≡ Some t → t.found ≡ Some found → (line : FrameLine) × (slice_get report.frames (frame_at t.held.event.addr) ≡ Some line)
  told-line who row row_is i t found there some =
      let view : View = view_of last (seat who.cpu) in
      let r = row-of script copies seat last report end who row row_is in
      let poisoned = ((right-of script copies seat last report end who row r i t there).found found some).0 in
      let m : Mark = poisoned.1 in
      let listed = filter-is (λ (x : Mark). is_own who x) view.marks poisoned.0 m poisoned.2 in
      let line = line-of script copies seat last report end (seat who.cpu) listed.0 view m (end.seated.there who.cpu r.of.inside) listed.1 in
      (line.0, ap (λ (x : Frame). slice_get report.frames x.0) (sym poisoned.3.0) ∙ line.1)

  -- a failure by an event, which came to a result, is in the frame's record
  pub result-told : (who : Who) (row : Row) → row_at end.rows who ≡ Some row → (i : ℕ) (t : EventOutcome) (found : Found) → slice_get row.told i ≡ Some t → t.found ≡ Some found → IsResult (marks_of report (frame_at t.held.event.addr)) who t.acted
  result-told who row row_is i t found there some =
      let f : ℕ = frame_at t.held.event.addr in
      let right = right-of script copies seat last report end who row (row-of script copies seat last report end who row row_is) i t there in
      let line = told-line who row row_is i t found there some in
      let told_is : told_at (row_at end.rows who) ≡ row.told = ap told_at row_is in
      let all : mark_results (hardware_marks who (marks_of report f)) ≡ map (λ (c : Came). found_act c.1) (found_on f row.told)
      = ap (λ (l : List MarkLine). mark_results (hardware_marks who l)) (marks-are (record { 0 = f }) line.0 line.1) ∙ ap mark_results (hardware-are who (record { 0 = f }) line.0 line.1)
      ∙ results-are who (found_on f (told_at (row_at end.rows who))) ∙ ap (λ (l : List EventOutcome). map (λ (c : Came). found_act c.1) (found_on f l)) told_is in
      let has = came-has f row.told i t found there some refl in
      let acted : t.acted ≡ found_act found = result-is t.acted (found_act found) (right.result ∙ ap (option_map found_act) some) in
      let at : slice_get (mark_results (hardware_marks who (marks_of report f))) has.0 ≡ Some t.acted
      = ap (λ (l : List Acted). slice_get l has.0) all ∙ at_map (λ (c : Came). found_act c.1) (found_on f row.told) has.0 (t, found) has.1 ∙ ap (λ (a : Acted). Some a) (sym acted) in
      (has.0, slice_get_within _ has.0 t.acted at, get_or_from_slice_get _ has.0 t.acted t.acted at)

  -- and so is what was done to a frame, where the row marks and notes it
  change-mark : (who : Who) (row : Row) → row_at end.rows who ≡ Some row → (change : FrameChange) (i j : ℕ) → slice_get (markings_in row) i ≡ Some (marking_by change) → slice_get (row_notes who row) j ≡ Some (note_by who change) → (Such : MarkLine → Type 0) → Such (note_by who change).1
      → HasMark report who (marking_by change).frame Such
  change-mark who row row_is change i j marked noted Such such =
      let view : View = view_of last (seat who.cpu) in
      let r = row-of script copies seat last report end who row row_is in
      let note : Note = note_by who change in
      let frame : Frame = (marking_by change).frame in
      -- the mark, and so the frame's line
      let marking_at : slice_get (markings who view) i ≡ Some (marking_by change) = ap (λ (l : List Marking). slice_get l i) (r.of.served.accounted.marked ∙ ap markings_in r.same) ∙ marked in
      let has : HasMarked view who (marking_by change) = has-marked view who (marking_by change) i marking_at in
      let line = line-of script copies seat last report end (seat who.cpu) has.j view has.mark (end.seated.there who.cpu r.of.inside) has.there in
      let line_is : slice_get report.frames frame.0 ≡ Some line.0 = ap (λ (x : Frame). slice_get report.frames x.0) (sym (ap (λ (x : Marking). x.frame) has.marking_is)) ∙ line.1 in
      -- the note, and so the line of the record
      let note_at : slice_get (notes_at who (row_at end.rows who)) j ≡ Some note = ap (λ (o : Option Row). slice_get (notes_at who o) j) row_is ∙ noted in
      let among = filter-is (is_noted who) (all_notes (notes_of 0 end.rows)) j note (ap (λ (l : List Note). slice_get l j) (notes-of-command who end.rows) ∙ note_at) in
      let on = filter-has (λ (n : Note). n.0.0 == frame.0) (all_notes (notes_of 0 end.rows)) among.0 note among.1 (eq-eqb note.0.0 frame.0 (ap (λ (x : Frame). x.0) (own-frame who change))) in
      let in_record : slice_get (record_of frame (notes_of 0 end.rows)) on.0 ≡ Some note.1
      = ap (λ (l : List MarkLine). slice_get l on.0) (record-flat frame (notes_of 0 end.rows)) ∙ at_map (λ (n : Note). n.1) (filter (λ (n : Note). n.0.0 == frame.0) (all_notes (notes_of 0 end.rows))) on.0 note on.1 in
      let some = in-record script copies seat last report end frame line.0 line_is on.0 note.1 in_record in
      let at : slice_get (marks_of report frame.0) some.0 ≡ Some note.1 = ap (λ (l : List MarkLine). slice_get l some.0) (marks-are frame line.0 line_is) ∙ some.2 ∙ ap (λ (y : MarkLine). Some y) some.3 in
      any-of (λ (y : MarkLine). (who_in y ≡ who) × Such y) (marks_of report frame.0) (some.0, note.1, at, (own-by who change, such))
    where
      own-frame : (who : Who) (own : FrameChange) → (note_by who own).0 ≡ (marking_by own).frame
      own-frame who (owns.Failed f found) = refl
      own-frame who (owns.Offlined f cycle moved) = refl
      own-frame who (owns.Revived f cycle) = refl

  -- so is what the command did to a frame itself
  pub own-mark : (who : Who) (row : Row) → row_at end.rows who ≡ Some row → (own : FrameChange) → row.own ≡ Some own → (Such : MarkLine → Type 0) → Such (note_by who own).1 → HasMark report who (marking_by own).frame Such
  own-mark who row row_is own own_is =
      let marked : List Marking = filter_map act_marking (acts row.told row.offlined) in
      let noted : List Note = filter_map (act_note who) (acts row.told row.offlined) in
      change-mark who row row_is own (length marked) (length noted)
      (ap (λ (o : Option FrameChange). slice_get (marked ++ cons_option (own_marking o) []) (length marked)) own_is ∙ at_last marked (marking_by own))
      (ap (λ (o : Option FrameChange). slice_get (noted ++ cons_option (own_note who o) []) (length noted)) own_is ∙ at_last noted (note_by who own))

  -- and what was done to a frame that was taken out of use beside it
  pub beside-mark : (who : Who) (row : Row) → row_at end.rows who ≡ Some row → (j : ℕ) (o : Offlining) (change : FrameChange) → slice_get row.offlined j ≡ Some o → o.change ≡ Some change → (Such : MarkLine → Type 0) → Such (note_by who change).1
      → HasMark report who (marking_by change).frame Such
  beside-mark who row row_is j o change there change_is =
      let act = offlined-act row.told row.offlined j o there in
      let marked = picked-has act_marking (acts row.told row.offlined) act.0 (Offlined o) (marking_by change) act.1 (ap own_marking change_is) in
      let noted = picked-has (act_note who) (acts row.told row.offlined) act.0 (Offlined o) (note_by who change) act.1 (ap (own_note who) change_is) in
      change-mark who row row_is change marked.0 noted.0
      (at_longer (filter_map act_marking (acts row.told row.offlined)) (cons_option (own_marking row.own) []) marked.0 (marking_by change) marked.1)
      (at_longer (filter_map (act_note who) (acts row.told row.offlined)) (cons_option (own_note who row.own) []) noted.0 (note_by who change) noted.1)
