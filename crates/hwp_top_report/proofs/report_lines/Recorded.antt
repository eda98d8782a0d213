-- What the marks of a command have in the histories: an entry for each failure that found a page in its frame, with a thread that needed
-- the page exactly where row S9 graded the event, and one for each soft offline that moved a page; and in its lines: one for each soft
-- offline of a frame, and its answer for one mark of an `inject` or `unpoison` at most.
use Rattle.std.proofs.Common.{◌≡◌, inl, inr, ℕ, suc, ◌+◌, ◌<◌, ◌≤◌, ◌==◌, ◌&&◌, Bool, true, false, cond, List, [], ◌∷◌, ◌++◌, Option, Some, None, is_some, not, filter_map, length, map, option_and_then, option_map, slice_get, refl, sym, ap, ◌∙◌, subst, arith, true≢false}
use Rattle.std.specs.List.{cons_option, count_by, sum_by, zip}
use Rattle.std.proofs.lemmas.Bool.{and_left, and_right, cases_lt, false_from_ne_true}
use Rattle.std.proofs.lemmas.List.Sums.{sum_by-append, sum_by-cons}
use Rattle.std.proofs.lemmas.Option.{none-some, slice_get_within}
use Rattle.hwp_law_served.specs.hwp_geom.declared.VSlot.{VSlot}
use Rattle.hwp_law_served.specs.hwp_banks.Addresses.{frame_at}
use Rattle.hwp_law_served.specs.hwp_geom.declared.Cpu.{Cpu}
use Rattle.hwp_law_served.specs.hwp_geom.declared.Frame.{Frame}
use Rattle.hwp_law_served.specs.hwp_geom.declared.Layout.{Layout}
use Rattle.hwp_law_served.specs.hwp_geom.declared.Page.{Page}
use Rattle.hwp_law_served.specs.hwp_geom.declared.Thread.{Thread}
use Rattle.hwp_law_served.specs.hwp_geom.declared.Who.{Who}
use Rattle.hwp_law_served.specs.hwp_page.declared.At.{At}
use Rattle.hwp_law_served.specs.hwp_page.declared.Situation.{Situation}
use Rattle.hwp_law_served.specs.hwp_page.declared.Situation.TheVariants as situations
use Rattle.hwp_law_served.specs.hwp_page.declared.What.{What}
use Rattle.hwp_law_served.specs.hwp_page.declared.What.TheVariants as entries
use Rattle.hwp_law_served.specs.hwp_core_rule.declared.Made.{Made}
use Rattle.hwp_law_served.specs.hwp_core_rule.declared.State.{State}
use Rattle.hwp_law_served.specs.hwp_core_rule.declared.View.{View}
use Rattle.hwp_law_served.specs.hwp_core_rule.Lists.{EachMember}
use Rattle.hwp_law_served.specs.hwp_core_rule.Words.{sum_below}
use Rattle.hwp_law_served.proofs.of_hwp_core_rule.Lists.{sum-zero}
use Rattle.hwp_law_served.specs.hwp_core_rule.Boards.{view_of}
use Rattle.hwp_law_served.specs.hwp_core_rule.Known.{deeds, is_by}
use Rattle.hwp_law_served.specs.hwp_claim_act.declared.Failed.{Failed}
use Rattle.hwp_law_served.specs.hwp_claim_act.Abandoned as abandoned
use Rattle.hwp_law_served.specs.hwp_claim.Fails.{IsPageless}
use Rattle.hwp_law_served.specs.hwp_script_words.declared.Command.{Command}
use Rattle.hwp_law_served.specs.hwp_script_words.declared.Script.{Script}
use Rattle.hwp_law_served.specs.hwp_report_text.declared.Answer.{Answer}
use Rattle.hwp_law_served.specs.hwp_report_text.declared.FrameLine.{FrameLine}
use Rattle.hwp_law_served.specs.hwp_report_text.declared.MarkLine.{MarkLine}
use Rattle.hwp_law_served.specs.hwp_report_text.declared.MarkLine.TheVariants as marks
use Rattle.hwp_law_served.specs.hwp_report_text.declared.OfflineResult.{OfflineResult}
use Rattle.hwp_law_served.specs.hwp_report_text.declared.OfflineResult.TheVariants as results
use Rattle.hwp_law_served.specs.hwp_report_text.declared.OfflinedLine.{OfflinedLine}
use Rattle.hwp_law_served.specs.hwp_report_text.declared.Report.{Report}
use Rattle.hwp_law_served.specs.hwp_report_text.Offlines.{offline_answer}
use Rattle.hwp_law_served.specs.hwp_law.Commands.{command_at, current_thread}
use Rattle.hwp_law_served.specs.hwp_report_text.declared.EventLine.{EventLine}
use Rattle.hwp_law_served.specs.hwp_law.Lines.{answer_of, is_same_command, marks_of, offlined_of}
use Rattle.hwp_law_served.specs.hwp_law.Pairings.{AreRecorded, entries_of, finds, has_page, is_commands, is_failure, is_failure_mark, is_move, is_move_mark, is_required, is_soft, is_soft_mark, is_soft_of, is_take, is_urgent, marks_in, says_soft, situation_number, soft_lines, urgent_from}
use Rattle.hwp_law_served.specs.hwp_law.Records.{hardware_marks, how_in, is_commanded, is_moved, is_taken, result_lines, who_in}
use Rattle.hwp_law_served.proofs.Homes.{there-is}
use Rattle.hwp_law_served.specs.hwp_claim.declared.Found.{Found}
use Rattle.hwp_law_served.specs.hwp_cpu_row.declared.FrameChange.{FrameChange}
use Rattle.hwp_law_served.specs.hwp_cpu_row.declared.FrameChange.TheVariants as owns
use Rattle.hwp_law_served.specs.hwp_cpu_row.Acts.{Act, Offlined, Told, acts}
use Rattle.hwp_law_served.specs.hwp_cpu_row.declared.Offlining.{Offlining}
use Rattle.hwp_law_served.specs.hwp_cpu_row.declared.Row.{Row}
use Rattle.hwp_law_served.specs.hwp_claim.declared.EventOutcome.{EventOutcome}
use Rattle.hwp_law_served.specs.hwp_claim.Done.{entered_by}
use Rattle.hwp_law_served.specs.hwp_claim.CheckDone.{failed_by, failed_in}
use Rattle.hwp_law_served.specs.hwp_claim.Fits.{IsEntered}
use Rattle.hwp_law_served.specs.hwp_claim.Told.{frame_of, required_by}
use Rattle.hwp_law_served.specs.Accounts.{failures_in, own_failure}
use Rattle.hwp_law_served.specs.Rows.{Note, act_note, note_by, note_of, offlined, offlined_at, own_note, told_note}
use Rattle.hwp_law_served.specs.Offlinings.{IsOfflineServed}
use Rattle.hwp_law_served.specs.Runs.{row_at}
use Rattle.hwp_law_served.proofs.RunEnds.{IsEnd, command-of, list-of, rows-of, served-of}
use Rattle.hwp_law_served.proofs.PoisonMarks.{same-who}
use Rattle.hwp_law_served.proofs.RowLines.{answer-told, offlined-by-row, offlines_at, told_at}
use Rattle.hwp_law_served.proofs.Seen.{filter-is}
use Rattle.hwp_law_served.proofs.Sums.{below-front, below-same, sum-same}
use Rattle.hwp_top_report.proofs.deeds.CountedEntries.{entries-inside, entries-outside}
use Rattle.hwp_law_served.proofs.deeds.Made.{command-is}
use Rattle.hwp_top_report.proofs.deeds.Softs.{moves_beside, moves_by, softs-counted}
use Rattle.hwp_top_report.proofs.marks.CountedMarks.{marks-of-command, marks-on-frame}
use Rattle.hwp_top_report.proofs.marks.RowNotes.{notes_at}
use Rattle.hwp_law_served.proofs.lines.OfRows.{OfRow, offlined-of, own-of, right-of, row-of}
use Rattle.hwp_law_served.proofs.Acts.{sum-acts}
use Rattle.hwp_law_served.proofs.of_hwp_law.Situations.{same-situation}
use Rattle.hwp_top_report.proofs.report_lines.Records.{hardware-are, results-of, told-line}
use Rattle.hwp_top_report.proofs.report_lines.SoftLines.{no-soft, soft_by, soft-said}
use Rattle.hwp_top_report.proofs.report_lines.RowEvents.{found_on, hardware_line, on-frames, urgent-counts, urgent_weight, weigh}
use Rattle.hwp_law_served.proofs.lines.ToldRight.{IsRight}

abbrev flag : Bool → ℕ
flag b = cond b 1 0

-- ---- counting what is picked of a list

abbrev counts : {A : Type 0} → (A → Bool) → Option A → ℕ
counts test None = 0
counts test (Some x) = flag (test x)

count-option : {A : Type 0} (test : A → Bool) (o : Option A) (l : List A) → count_by test (cons_option o l) ≡ counts test o + count_by test l
count-option test None l = omega arith
count-option test (Some x) l = sum_by-cons (λ y. flag (test y)) x l

count-picked : {A B : Type 0} (f : A → Option B) (test : B → Bool) (l : List A) → count_by test (filter_map f l) ≡ sum_by (λ (x : A). counts test (f x)) l
count-picked f test [] = refl
count-picked {A} f test (x ∷ xs) =
    let rest : count_by test (filter_map f xs) ≡ sum_by (λ (y : A). counts test (f y)) xs = count-picked f test xs in
    let one : count_by test (cons_option (f x) (filter_map f xs)) ≡ counts test (f x) + count_by test (filter_map f xs) = count-option test (f x) (filter_map f xs) in
    let other : sum_by (λ (y : A). counts test (f y)) (x ∷ xs) ≡ counts test (f x) + sum_by (λ (y : A). counts test (f y)) xs = sum_by-cons (λ (y : A). counts test (f y)) x xs in
    omega (arith, rest, one, other)

-- and of one more, if there is one
count-more : {A B : Type 0} (f : A → Option B) (test : B → Bool) (l : List A) (o : Option B) → count_by test (filter_map f l ++ cons_option o []) ≡ sum_by (λ (x : A). counts test (f x)) l + counts test o
count-more {A} f test l o =
    let both : count_by test (filter_map f l ++ cons_option o []) ≡ count_by test (filter_map f l) + count_by test (cons_option o []) = sum_by-append (λ y. flag (test y)) (filter_map f l) (cons_option o []) in
    let picked : count_by test (filter_map f l) ≡ sum_by (λ (x : A). counts test (f x)) l = count-picked f test l in
    let last : count_by test (cons_option o []) ≡ counts test o + 0 = count-option test o [] in
    omega (arith, both, picked, last)

-- and of what a command did beside its answer
count-acts : {B : Type 0} (f : Act → Option B) (test : B → Bool) (told : List EventOutcome) (offlined : List Offlining) (o : Option B)
    → count_by test (filter_map f (acts told offlined) ++ cons_option o []) ≡ sum_by (λ (t : EventOutcome). counts test (f (Told t))) told + sum_by (λ (x : Offlining). counts test (f (Offlined x))) offlined + counts test o
count-acts f test told offlined o =
    let all : count_by test (filter_map f (acts told offlined) ++ cons_option o []) ≡ sum_by (λ (a : Act). counts test (f a)) (acts told offlined) + counts test o = count-more f test (acts told offlined) o in
    let each : sum_by (λ (a : Act). counts test (f a)) (acts told offlined) ≡ sum_by (λ (t : EventOutcome). counts test (f (Told t))) told + sum_by (λ (x : Offlining). counts test (f (Offlined x))) offlined = sum-acts (λ (a : Act). counts test (f a)) told offlined in
    omega (arith, all, each)

count-mapped : {A B : Type 0} (test : B → Bool) (f : A → B) (l : List A) → count_by test (map f l) ≡ sum_by (λ (x : A). flag (test (f x))) l
count-mapped test f [] = refl
count-mapped {A} {B} test f (x ∷ xs) =
    let rest : count_by test (map f xs) ≡ sum_by (λ (y : A). flag (test (f y))) xs = count-mapped test f xs in
    let one : count_by test (f x ∷ map f xs) ≡ flag (test (f x)) + count_by test (map f xs) = sum_by-cons (λ (y : B). flag (test y)) (f x) (map f xs) in
    let other : sum_by (λ (y : A). flag (test (f y))) (x ∷ xs) ≡ flag (test (f x)) + sum_by (λ (y : A). flag (test (f y))) xs = sum_by-cons (λ (y : A). flag (test (f y))) x xs in
    omega (arith, rest, one, other)

-- ---- the soft offlines of a frame

-- the lines and the notes that say so, and the number of lines by what the command is and says
abbrev is_soft_line : Bool → MarkLine → Bool
is_soft_line moved x = cond moved (is_move (how_in x)) (is_take (how_in x))

abbrev on_frame : Frame → Bool → Note → Bool
on_frame frame moved n = (n.0.0 == frame.0) && is_soft_line moved n.1

abbrev by_lines : Frame → Bool → Option Command → Option Answer → List OfflinedLine → ℕ
by_lines frame moved command answer list =
    cond (is_soft_of frame command && says_soft moved answer) 1 0 + count_by (λ (l : OfflinedLine). (l.frame.0 == frame.0) && says_soft moved (Some (offline_answer l.result))) list

-- ---- the entries of a command

-- the failures that are in this situation, and those of them by which a thread needed the page
abbrev is_in : Situation → Failed → Bool
is_in situation f = situation_number f.situation == situation_number situation

abbrev is_needed : Situation → Failed → Bool
is_needed situation f = is_in situation f && is_some f.required

failure-counts : (situation : Situation) (page : Page) (place : ℕ) (what : What) → flag (is_failure situation what) ≡ counts (is_in situation) (abandoned.failed_of page place what)
failure-counts situation page place (entries.Fail other required seen signals) = refl
failure-counts situation page place what = refl

needed-counts : (situation : Situation) (page : Page) (place : ℕ) (what : What) → flag (is_required situation what) ≡ counts (is_needed situation) (abandoned.failed_of page place what)
needed-counts situation page place (entries.Fail other required seen signals) = refl
needed-counts situation page place what = refl

-- the deeds that pass a test are the failures that pass another
deeds-count : (test : What → Bool) (by : Failed → Bool) → ((page : Page) (place : ℕ) (what : What) → flag (test what) ≡ counts by (abandoned.failed_of page place what)) → (list : List Made)
    → count_by (λ (m : Made). test m.entry.what) list ≡ count_by by (filter_map abandoned.failed_in list)
deeds-count test by same list =
    sum-same (λ (m : Made). flag (test m.entry.what)) (λ (m : Made). counts by (abandoned.failed_in m)) list (λ i m there. same m.page m.place m.entry.what) ∙ sym (count-picked abandoned.failed_in by list)

-- ---- beside the marks

has-none : (layout : Layout) (frame : Frame) (situation : Situation) → IsPageless layout frame situation → has_page situation ≡ false
has-none layout frame situations.Free is = refl
has-none layout frame situations.Kernel is = refl
has-none layout frame situation is = absurd is

-- a failure without a page is in no situation that has one
not-in : (s situation : Situation) → has_page s ≡ false → has_page situation ≡ true → (situation_number s == situation_number situation) ≡ false
not-in s situation none page = false_from_ne_true (situation_number s == situation_number situation) (λ same. true≢false (sym page ∙ sym (ap has_page (same-situation s situation same)) ∙ none))

module _ (layout : Layout) (view : View) (who : Who) (situation : Situation) (page : has_page situation ≡ true) where
  -- a mark has its entry, where a page was in the frame
  entry-counts : (frame : Frame) (required : Option Thread) (found : Found) → IsEntered layout view who frame required found found.at → counts (is_in situation) (entered_by required found found.at) ≡ flag (situation_number found.situation == situation_number situation)
  entry-counts frame required found entered = which found.at entered
    where
      which : (o : Option At) → IsEntered layout view who frame required found o → counts (is_in situation) (entered_by required found o) ≡ flag (situation_number found.situation == situation_number situation)
      which None (pageless, unsignalled) = sym (ap flag (not-in found.situation situation (has-none layout frame found.situation pageless) page))
      which (Some place) made = refl

  required-counts : (frame : Frame) (required : Option Thread) (found : Found) → IsEntered layout view who frame required found found.at
      → counts (is_needed situation) (entered_by required found found.at) ≡ flag ((situation_number found.situation == situation_number situation) && is_some required)
  required-counts frame required found entered = which found.at entered
    where
      which : (o : Option At) → IsEntered layout view who frame required found o → counts (is_needed situation) (entered_by required found o) ≡ flag ((situation_number found.situation == situation_number situation) && is_some required)
      which None (pageless, unsignalled) = sym (ap flag (and_left _ (is_some required) (not-in found.situation situation (has-none layout frame found.situation pageless) page)))
      which (Some place) made = refl

  -- of an event that was told
  told-counts : (thread : Option Thread) (t : EventOutcome) → IsRight layout view who thread t → counts (is_in situation) (failed_in thread t) ≡ counts (λ (n : Note). finds situation (how_in n.1)) (told_note who t)
  told-counts thread t right = which t.found (λ found is. (right.found found is).1)
    where
      which : (o : Option Found) → ((found : Found) → o ≡ Some found → IsEntered layout view who (frame_of t.held) (required_by thread t.held.grade.severity) found found.at)
          → counts (is_in situation) (failed_by (required_by thread t.held.grade.severity) o) ≡ counts (λ (n : Note). finds situation (how_in n.1)) (option_map (note_of who true (frame_of t.held)) o)
      which None entered = refl
      which (Some found) entered = entry-counts (frame_of t.held) (required_by thread t.held.grade.severity) found (entered found refl)

  told-needed : (thread : Option Thread) (t : EventOutcome) → IsRight layout view who thread t → counts (is_needed situation) (failed_in thread t) ≡ weigh (urgent_weight situation) t t.found
  told-needed thread t right = which t.found (λ found is. (right.found found is).1)
    where
      which : (o : Option Found) → ((found : Found) → o ≡ Some found → IsEntered layout view who (frame_of t.held) (required_by thread t.held.grade.severity) found found.at)
          → counts (is_needed situation) (failed_by (required_by thread t.held.grade.severity) o) ≡ weigh (urgent_weight situation) t o
      which None entered = refl
      which (Some found) entered =
          required-counts (frame_of t.held) (required_by thread t.held.grade.severity) found (entered found refl)
          ∙ ap (λ (b : Bool). flag ((situation_number found.situation == situation_number situation) && b)) (sym right.urgent)

  -- of what a command did to a frame itself
  own-counts : (own : Option FrameChange) → ((frame : Frame) (found : Found) → own ≡ Some (owns.Failed frame found) → IsEntered layout view who frame None found found.at)
      → counts (is_in situation) (own_failure own) ≡ counts (λ (n : Note). finds situation (how_in n.1)) (own_note who own)
  own-counts None entered = refl
  own-counts (Some (owns.Failed frame found)) entered = entry-counts frame None found (entered frame found refl)
  own-counts (Some (owns.Offlined frame cycle true)) entered = refl
  own-counts (Some (owns.Offlined frame cycle false)) entered = refl
  own-counts (Some (owns.Revived frame cycle)) entered = refl

  own-needed : (own : Option FrameChange) → ((frame : Frame) (found : Found) → own ≡ Some (owns.Failed frame found) → IsEntered layout view who frame None found found.at) → counts (is_needed situation) (own_failure own) ≡ 0
  own-needed None entered = refl
  own-needed (Some (owns.Failed frame found)) entered = required-counts frame None found (entered frame found refl) ∙ ap flag (and_right (situation_number found.situation == situation_number situation) false refl)
  own-needed (Some (owns.Offlined frame cycle moved)) entered = refl
  own-needed (Some (owns.Revived frame cycle)) entered = refl

-- ---- of a frame that was taken out of use beside a command

-- what an option of a change is, where it is none or a frame taken out of use
abbrev IsTaken : Frame → OfflineResult → Option FrameChange → Type 0
IsTaken frame result None = (is_moved (Some (offline_answer result)) ≡ false) × (is_taken (Some (offline_answer result)) ≡ false)
IsTaken frame result (Some (owns.Offlined f cycle moved)) = (f ≡ frame) × (is_moved (Some (offline_answer result)) ≡ moved) × (is_taken (Some (offline_answer result)) ≡ not moved)
IsTaken frame result (Some own) = ⊥

is-taken : (layout : Layout) (view : View) (who : Who) (frame : Frame) (change : Option FrameChange) (result : OfflineResult) → IsOfflineServed layout view who frame change result → IsTaken frame result change
is-taken layout view who frame change (results.Moved other at) (users, changed, free) = subst (IsTaken frame (results.Moved other at)) (sym changed.1) (refl, refl, refl)
is-taken layout view who frame change results.TakenFree (users, changed) = subst (IsTaken frame results.TakenFree) (sym changed.1) (refl, refl, refl)
is-taken layout view who frame change results.Already (users, saw, none) = subst (IsTaken frame results.Already) (sym none) (refl, refl)
is-taken layout view who frame change (results.HasBad mask) (users, saw, none) = subst (IsTaken frame (results.HasBad mask)) (sym none) (refl, refl)
is-taken layout view who frame change results.NoFrame (users, saw, none) = subst (IsTaken frame results.NoFrame) (sym none) (refl, refl)
is-taken layout view who frame change results.Stopped (saw, none) = subst (IsTaken frame results.Stopped) (sym none) (refl, refl)

-- the mark is no failure's, and no command's own
beside-still : (test : MarkLine → Bool) → ((cycle : ℕ) (who : Who) (moved : Bool) → test (marks.Poisoned cycle who (offlined moved)) ≡ false) → (who : Who) (frame : Frame) (result : OfflineResult) (change : Option FrameChange) → IsTaken frame result change → counts (λ (n : Note). test n.1) (own_note who change) ≡ 0
beside-still test still who frame result None taken = refl
beside-still test still who frame result (Some (owns.Failed f found)) taken = absurd taken
beside-still test still who frame result (Some (owns.Offlined f cycle moved)) taken = ap flag (still cycle who moved)
beside-still test still who frame result (Some (owns.Revived f cycle)) taken = absurd taken

-- it tells that a page left, where one did
beside-moves : (who : Who) (frame : Frame) (result : OfflineResult) (change : Option FrameChange) → IsTaken frame result change → counts (λ (n : Note). is_move (how_in n.1)) (own_note who change) ≡ moves_by change
beside-moves who frame result None taken = refl
beside-moves who frame result (Some (owns.Failed f found)) taken = absurd taken
beside-moves who frame result (Some (owns.Offlined f cycle true)) taken = refl
beside-moves who frame result (Some (owns.Offlined f cycle false)) taken = refl
beside-moves who frame result (Some (owns.Revived f cycle)) taken = absurd taken

-- and says the same as the line of the frame
beside-says : (frame : Frame) (moved : Bool) (who : Who) (own : Frame) (result : OfflineResult) (change : Option FrameChange) → IsTaken own result change → counts (on_frame frame moved) (own_note who change) ≡ flag ((own.0 == frame.0) && says_soft moved (Some (offline_answer result)))
beside-says frame moved who own result None taken =
    sym (no-soft (own.0 == frame.0) moved)
    ∙ sym (ap (λ (b : Bool). flag ((own.0 == frame.0) && cond moved b (is_taken (Some (offline_answer result))))) taken.0 ∙ ap (λ (b : Bool). flag ((own.0 == frame.0) && cond moved false b)) taken.1)
beside-says frame moved who own result (Some (owns.Failed f found)) taken = absurd taken
beside-says frame moved who own result (Some (owns.Offlined f cycle m)) taken =
    ap (λ (x : Frame). flag ((x.0 == frame.0) && is_soft_line moved (marks.Poisoned cycle who (offlined m)))) taken.0
    ∙ ap (λ (b : Bool). flag ((own.0 == frame.0) && b)) (which moved m)
    ∙ sym (ap (λ (b : Bool). flag ((own.0 == frame.0) && cond moved b (is_taken (Some (offline_answer result))))) taken.1 ∙ ap (λ (b : Bool). flag ((own.0 == frame.0) && cond moved m b)) taken.2)
  where
    which : (moved m : Bool) → is_soft_line moved (marks.Poisoned cycle who (offlined m)) ≡ cond moved m (not m)
    which true true = refl
    which true false = refl
    which false true = refl
    which false false = refl
beside-says frame moved who own result (Some (owns.Revived f cycle)) taken = absurd taken

-- ---- marks beside event lines

urgent-below : (report : Report) (who : Who) (situation : Situation) (g : ℕ → ℕ) (n : ℕ) (ls : List FrameLine)
    → ((i : ℕ) (l : FrameLine) → slice_get ls i ≡ Some l → count_by (is_urgent situation) (zip (hardware_marks who l.marks) (result_lines report who (n + i))) ≡ g (n + i)) → urgent_from report who situation n ls ≡ sum_below (λ i. g (n + i)) (length ls)
urgent-below report who situation g n [] each = refl
urgent-below report who situation g n (l ∷ ls) each =
    let none : n + 0 ≡ n = omega arith in
    let first : count_by (is_urgent situation) (zip (hardware_marks who l.marks) (result_lines report who n)) ≡ g (n + 0)
    = ap (λ (k : ℕ). count_by (is_urgent situation) (zip (hardware_marks who l.marks) (result_lines report who k))) (sym none) ∙ each 0 l refl in
    let rest : urgent_from report who situation (n + 1) ls ≡ sum_below (λ i. g ((n + 1) + i)) (length ls) = urgent-below report who situation g (n + 1) ls (λ i x there. (
    let same : n + suc i ≡ (n + 1) + i = omega arith in
    subst (λ (k : ℕ). count_by (is_urgent situation) (zip (hardware_marks who x.marks) (result_lines report who k)) ≡ g k) same (each (suc i) x there))) in
    let shifted : sum_below (λ i. g ((n + 1) + i)) (length ls) ≡ sum_below (λ i. g (n + suc i)) (length ls) = below-same (λ i. g ((n + 1) + i)) (λ i. g (n + suc i)) (length ls) (λ i before. ap g (let same : (n + 1) + i ≡ n + suc i = omega arith in same)) in
    let all : sum_below (λ i. g (n + i)) (suc (length ls)) ≡ g (n + 0) + sum_below (λ i. g (n + suc i)) (length ls) = below-front (λ i. g (n + i)) (length ls) in
    omega (arith, first, rest, shifted, all)

module _ (script : Script) (copies : Who → Option VSlot) (seat : Cpu → ℕ) (last : State) (report : Report) (end : IsEnd script copies seat last report) (who : Who) where
  abbrev view : View
  view = view_of last (seat who.cpu)

  -- ---- without a row

  empty-all : {A : Type 0} (l : List A) → ((j : ℕ) (x : A) → slice_get l j ≡ Some x → ⊥) → l ≡ []
  empty-all [] none = refl
  empty-all (x ∷ xs) none = absurd (none 0 x refl)

  -- a command without a row made no entry
  entries-without : (test : What → Bool) → row_at end.rows who ≡ None → entries_of report who test ≡ 0
  entries-without test none = elim (cases_lt who.cpu.0 script.layout.cpus) [
    | inr outside ↦ entries-outside script copies seat last report end who test (λ inside. omega (arith, inside, outside))
    | inl inside ↦ entries-inside script copies seat last report end who test inside ∙ ap (count_by (λ (m : Made). test m.entry.what)) (undone inside)
  ]
    where
      undone : who.cpu.0 < script.layout.cpus → deeds who view ≡ []
      undone inside =
          let list = list-of script copies seat last report end who.cpu inside in
          let own = rows-of script copies seat last report end who.cpu inside in
          let served = (served-of script copies seat last report end who.cpu list.0 own.0 list.1 own.1).0 in
          empty-all (deeds who view) (λ k m there. (
          let of = filter-is (is_by who) view.made k m there in
          let begun : m.entry.who.seq < length list.0 = (served.made of.0 m of.1).1 in
          let mine : who.seq < length own.0 = subst (λ (n : ℕ). who.seq < n) (sym served.count) (subst (λ (w : Who). w.seq < length list.0) (same-who who m.entry.who of.2) begun) in
          let row = there-is own.0 who.seq mine in
          none-some row.0 (sym none ∙ ap (λ (o : Option (List Row)). option_and_then (λ (l : List Row). slice_get l who.seq) o) own.1 ∙ row.1)))

  marks-without : (test : MarkLine → Bool) → row_at end.rows who ≡ None → marks_in report (λ (x : MarkLine). is_same_command who (who_in x) && test x) ≡ 0
  marks-without test none = marks-of-command script copies seat last report end who test ∙ ap (λ (o : Option Row). count_by (λ (n : Note). test n.1) (notes_at who o)) none

  -- and its lines, of which there are none, say nothing
  softs-without : (frame : Frame) (moved : Bool) → row_at end.rows who ≡ None → count_by (is_soft_mark who moved) (marks_of report frame.0) ≡ soft_lines script report who frame moved
  softs-without frame moved none =
      marks-on-frame script copies seat last report end who frame (is_soft_line moved) ∙ ap (λ (o : Option Row). count_by (on_frame frame moved) (notes_at who o)) none
      ∙ sym (ap (λ (o : Option Command). by_lines frame moved o (answer_of report who) (offlined_of report who)) (no-command (command_at script who) refl)
      ∙ ap (by_lines frame moved None (answer_of report who)) (offlined-by-row script copies seat last report end who ∙ ap (λ (o : Option Row). map (offlined_at who.seq) (offlines_at o)) none))
    where
      listed : (command : Command) (o : Option (List Command)) → slice_get script.lists who.cpu.0 ≡ o → option_and_then (λ (l : List Command). slice_get l who.seq) o ≡ Some command → ⊥
      listed command None list_is is = none-some command is
      listed command (Some list) list_is is =
          let has = command-of script copies seat last report end who list command list_is is in
          none-some has.row (sym none ∙ ap (λ (o : Option (List Row)). option_and_then (λ (l : List Row). slice_get l who.seq) o) has.own_is ∙ has.row_is)

      no-command : (o : Option Command) → command_at script who ≡ o → command_at script who ≡ None
      no-command None is = is
      no-command (Some command) is = absurd (listed command (slice_get script.lists who.cpu.0) refl is)

  -- ---- with one

  module _ (row : Row) (row_is : row_at end.rows who ≡ Some row) where
    of : OfRow script copies seat last report end who row
    of = row-of script copies seat last report end who row row_is

    entries-are : (test : What → Bool) (by : Failed → Bool) → ((page : Page) (place : ℕ) (what : What) → flag (test what) ≡ counts by (abandoned.failed_of page place what))
        → entries_of report who test ≡ sum_by (λ (t : EventOutcome). counts by (failed_in (current_thread of.of.command) t)) row.told + counts by (own_failure row.own)
    entries-are test by same =
        entries-inside script copies seat last report end who test of.of.inside ∙ deeds-count test by same (deeds who view)
        ∙ ap (count_by by) (of.of.served.accounted.failed ∙ ap (failures_in of.of.command) of.same)
        ∙ count-more (failed_in (current_thread of.of.command)) by row.told (own_failure row.own)

    marks-are : (test : MarkLine → Bool) → marks_in report (λ (x : MarkLine). is_same_command who (who_in x) && test x)
        ≡ sum_by (λ (t : EventOutcome). counts (λ (n : Note). test n.1) (told_note who t)) row.told + sum_by (λ (o : Offlining). counts (λ (n : Note). test n.1) (own_note who o.change)) row.offlined + counts (λ (n : Note). test n.1) (own_note who row.own)
    marks-are test =
        marks-of-command script copies seat last report end who test ∙ ap (λ (o : Option Row). count_by (λ (n : Note). test n.1) (notes_at who o)) row_is
        ∙ count-acts (act_note who) (λ (n : Note). test n.1) row.told row.offlined (own_note who row.own)

    taken : EachMember (λ (o : Offlining). IsTaken o.frame o.result o.change) row.offlined
    taken i o there = is-taken script.layout view who o.frame o.change o.result (offlined-of script copies seat last report end who row of i o there).came

    -- no mark of such a frame passes
    none-beside : (test : MarkLine → Bool) → ((cycle : ℕ) (by : Who) (moved : Bool) → test (marks.Poisoned cycle by (offlined moved)) ≡ false) → sum_by (λ (o : Offlining). counts (λ (n : Note). test n.1) (own_note who o.change)) row.offlined ≡ 0
    none-beside test still = sum-zero (λ (o : Offlining). counts (λ (n : Note). test n.1) (own_note who o.change)) row.offlined (λ i o there. beside-still test still who o.frame o.result o.change (taken i o there))

    own-entered : (frame : Frame) (found : Found) → row.own ≡ Some (owns.Failed frame found) → IsEntered script.layout view who frame None found found.at
    own-entered frame found is = (own-of script copies seat last report end who row of (owns.Failed frame found) is).failed.entered

    failures-with : (situation : Situation) → has_page situation ≡ true → entries_of report who (is_failure situation) ≡ marks_in report (is_failure_mark who situation)
    failures-with situation page =
        let entries : entries_of report who (is_failure situation) ≡ sum_by (λ (t : EventOutcome). counts (is_in situation) (failed_in (current_thread of.of.command) t)) row.told + counts (is_in situation) (own_failure row.own)
        = entries-are (is_failure situation) (is_in situation) (failure-counts situation) in
        let told : sum_by (λ (t : EventOutcome). counts (is_in situation) (failed_in (current_thread of.of.command) t)) row.told ≡ sum_by (λ (t : EventOutcome). counts (λ (n : Note). finds situation (how_in n.1)) (told_note who t)) row.told
        = sum-same (λ (t : EventOutcome). counts (is_in situation) (failed_in (current_thread of.of.command) t)) (λ (t : EventOutcome). counts (λ (n : Note). finds situation (how_in n.1)) (told_note who t)) row.told
        (λ i t there. told-counts script.layout view who situation page (current_thread of.of.command) t (right-of script copies seat last report end who row of i t there)) in
        let own : counts (is_in situation) (own_failure row.own) ≡ counts (λ (n : Note). finds situation (how_in n.1)) (own_note who row.own) = own-counts script.layout view who situation page row.own own-entered in
        let beside : sum_by (λ (o : Offlining). counts (λ (n : Note). finds situation (how_in n.1)) (own_note who o.change)) row.offlined ≡ 0 = none-beside (λ (x : MarkLine). finds situation (how_in x)) not-found in
        let all : marks_in report (is_failure_mark who situation)
        ≡ sum_by (λ (t : EventOutcome). counts (λ (n : Note). finds situation (how_in n.1)) (told_note who t)) row.told + sum_by (λ (o : Offlining). counts (λ (n : Note). finds situation (how_in n.1)) (own_note who o.change)) row.offlined
        + counts (λ (n : Note). finds situation (how_in n.1)) (own_note who row.own)
        = marks-are (λ (x : MarkLine). finds situation (how_in x)) in
        omega (arith, entries, told, own, beside, all)
      where
        not-found : (cycle : ℕ) (by : Who) (moved : Bool) → finds situation (how_in (marks.Poisoned cycle by (offlined moved))) ≡ false
        not-found cycle by true = refl
        not-found cycle by false = refl

    required-with : (situation : Situation) → has_page situation ≡ true → entries_of report who (is_required situation) ≡ sum_by (λ (t : EventOutcome). weigh (urgent_weight situation) t t.found) row.told
    required-with situation page =
        let entries : entries_of report who (is_required situation) ≡ sum_by (λ (t : EventOutcome). counts (is_needed situation) (failed_in (current_thread of.of.command) t)) row.told + counts (is_needed situation) (own_failure row.own)
        = entries-are (is_required situation) (is_needed situation) (needed-counts situation) in
        let told : sum_by (λ (t : EventOutcome). counts (is_needed situation) (failed_in (current_thread of.of.command) t)) row.told ≡ sum_by (λ (t : EventOutcome). weigh (urgent_weight situation) t t.found) row.told
        = sum-same (λ (t : EventOutcome). counts (is_needed situation) (failed_in (current_thread of.of.command) t)) (λ (t : EventOutcome). weigh (urgent_weight situation) t t.found) row.told
        (λ i t there. told-needed script.layout view who situation page (current_thread of.of.command) t (right-of script copies seat last report end who row of i t there)) in
        let own : counts (is_needed situation) (own_failure row.own) ≡ 0 = own-needed script.layout view who situation page row.own own-entered in
        omega (arith, entries, told, own)

    moves-with : entries_of report who is_soft ≡ marks_in report (is_move_mark who)
    moves-with =
        let entries : entries_of report who is_soft ≡ moves_by of.of.row.own + moves_beside of.of.row.offlined
        = entries-inside script copies seat last report end who is_soft of.of.inside ∙ softs-counted script.layout of.of.earlier view who (copies who) of.of.command of.of.before of.of.row of.of.after of.of.served in
        let same : moves_by of.of.row.own + moves_beside of.of.row.offlined ≡ moves_by row.own + moves_beside row.offlined = ap (λ (r : Row). moves_by r.own + moves_beside r.offlined) of.same in
        let all : marks_in report (is_move_mark who)
        ≡ sum_by (λ (t : EventOutcome). counts (λ (n : Note). is_move (how_in n.1)) (told_note who t)) row.told + sum_by (λ (o : Offlining). counts (λ (n : Note). is_move (how_in n.1)) (own_note who o.change)) row.offlined + counts (λ (n : Note). is_move (how_in n.1)) (own_note who row.own)
        = marks-are (λ (x : MarkLine). is_move (how_in x)) in
        let told : sum_by (λ (t : EventOutcome). counts (λ (n : Note). is_move (how_in n.1)) (told_note who t)) row.told ≡ 0 = sum-zero (λ (t : EventOutcome). counts (λ (n : Note). is_move (how_in n.1)) (told_note who t)) row.told (λ i t there. still t.found t) in
        let beside : sum_by (λ (o : Offlining). counts (λ (n : Note). is_move (how_in n.1)) (own_note who o.change)) row.offlined ≡ moves_beside row.offlined
        = sum-same (λ (o : Offlining). counts (λ (n : Note). is_move (how_in n.1)) (own_note who o.change)) (λ (o : Offlining). moves_by o.change) row.offlined (λ i o there. beside-moves who o.frame o.result o.change (taken i o there)) in
        let own : counts (λ (n : Note). is_move (how_in n.1)) (own_note who row.own) ≡ moves_by row.own = moves row.own in
        omega (arith, entries, same, all, told, beside, own)
      where
        still : (o : Option Found) (t : EventOutcome) → counts (λ (n : Note). is_move (how_in n.1)) (option_map (note_of who true (frame_of t.held)) o) ≡ 0
        still None t = refl
        still (Some found) t = refl

        moves : (o : Option FrameChange) → counts (λ (n : Note). is_move (how_in n.1)) (own_note who o) ≡ moves_by o
        moves None = refl
        moves (Some (owns.Failed frame found)) = refl
        moves (Some (owns.Offlined frame cycle true)) = refl
        moves (Some (owns.Offlined frame cycle false)) = refl
        moves (Some (owns.Revived frame cycle)) = refl

    one-with : marks_in report (is_commands who) ≤ 1
    one-with =
        let all : marks_in report (is_commands who)
        ≡ sum_by (λ (t : EventOutcome). counts (λ (n : Note). is_commanded n.1) (told_note who t)) row.told + sum_by (λ (o : Offlining). counts (λ (n : Note). is_commanded n.1) (own_note who o.change)) row.offlined + counts (λ (n : Note). is_commanded n.1) (own_note who row.own)
        = marks-are (λ (x : MarkLine). is_commanded x) in
        let told : sum_by (λ (t : EventOutcome). counts (λ (n : Note). is_commanded n.1) (told_note who t)) row.told ≡ 0 = sum-zero (λ (t : EventOutcome). counts (λ (n : Note). is_commanded n.1) (told_note who t)) row.told (λ i t there. still t.found t) in
        let beside : sum_by (λ (o : Offlining). counts (λ (n : Note). is_commanded n.1) (own_note who o.change)) row.offlined ≡ 0 = none-beside (λ (x : MarkLine). is_commanded x) uncommanded in
        let own : counts (λ (n : Note). is_commanded n.1) (own_note who row.own) ≤ 1 = one row.own in
        omega (arith, all, told, beside, own)
      where
        still : (o : Option Found) (t : EventOutcome) → counts (λ (n : Note). is_commanded n.1) (option_map (note_of who true (frame_of t.held)) o) ≡ 0
        still None t = refl
        still (Some found) t = refl

        uncommanded : (cycle : ℕ) (by : Who) (moved : Bool) → is_commanded (marks.Poisoned cycle by (offlined moved)) ≡ false
        uncommanded cycle by true = refl
        uncommanded cycle by false = refl

        one : (o : Option FrameChange) → counts (λ (n : Note). is_commanded n.1) (own_note who o) ≤ 1
        one None = omega arith
        one (Some own) = few (is_commanded (note_by who own).1)
          where
            few : (b : Bool) → flag b ≤ 1
            few true = omega arith
            few false = omega arith

    -- for a frame its answer says so, where it did so to the frame itself
    softs-with : (frame : Frame) (moved : Bool) → count_by (is_soft_mark who moved) (marks_of report frame.0) ≡ soft_lines script report who frame moved
    softs-with frame moved =
        let all : count_by (is_soft_mark who moved) (marks_of report frame.0)
        ≡ sum_by (λ (t : EventOutcome). counts (on_frame frame moved) (told_note who t)) row.told + sum_by (λ (o : Offlining). counts (on_frame frame moved) (own_note who o.change)) row.offlined + counts (on_frame frame moved) (own_note who row.own)
        = marks-on-frame script copies seat last report end who frame (is_soft_line moved) ∙ ap (λ (o : Option Row). count_by (on_frame frame moved) (notes_at who o)) row_is ∙ count-acts (act_note who) (on_frame frame moved) row.told row.offlined (own_note who row.own) in
        let told : sum_by (λ (t : EventOutcome). counts (on_frame frame moved) (told_note who t)) row.told ≡ 0 = sum-zero (λ (t : EventOutcome). counts (on_frame frame moved) (told_note who t)) row.told (λ i t there. still t.found t) in
        let own : counts (on_frame frame moved) (own_note who row.own) ≡ soft_by frame moved row.own = softs row.own in
        let said : soft_by frame moved row.own ≡ cond (is_soft_of frame (Some of.of.command) && says_soft moved (Some of.of.row.answer)) 1 0
        = ap (λ (r : Row). soft_by frame moved r.own) (sym of.same) ∙ soft-said frame moved script.layout of.of.earlier view who (copies who) of.of.command of.of.before of.of.row.told of.of.row.own of.of.row.answer of.of.served.caused of.of.served.accounted.own in
        let beside : sum_by (λ (o : Offlining). counts (on_frame frame moved) (own_note who o.change)) row.offlined ≡ sum_by (λ (o : Offlining). flag (says o)) row.offlined
        = sum-same (λ (o : Offlining). counts (on_frame frame moved) (own_note who o.change)) (λ (o : Offlining). flag (says o)) row.offlined (λ i o there. beside-says frame moved who o.frame o.result o.change (taken i o there)) in
        let listed : count_by (λ (l : OfflinedLine). (l.frame.0 == frame.0) && says_soft moved (Some (offline_answer l.result))) (map (offlined_at who.seq) row.offlined) ≡ sum_by (λ (o : Offlining). flag (says o)) row.offlined
        = count-mapped (λ (l : OfflinedLine). (l.frame.0 == frame.0) && says_soft moved (Some (offline_answer l.result))) (offlined_at who.seq) row.offlined in
        let lines : soft_lines script report who frame moved
        ≡ cond (is_soft_of frame (Some of.of.command) && says_soft moved (Some of.of.row.answer)) 1 0 + count_by (λ (l : OfflinedLine). (l.frame.0 == frame.0) && says_soft moved (Some (offline_answer l.result))) (map (offlined_at who.seq) row.offlined)
        = ap (λ (o : Option Command). by_lines frame moved o (answer_of report who) (offlined_of report who)) (command-is script who of.of.list of.of.command of.of.list_is of.of.command_is)
        ∙ ap (λ (o : Option Answer). by_lines frame moved (Some of.of.command) o (offlined_of report who)) (answer-told script copies seat last report end view who of.of)
        ∙ ap (by_lines frame moved (Some of.of.command) (Some of.of.row.answer)) (offlined-by-row script copies seat last report end who ∙ ap (λ (o : Option Row). map (offlined_at who.seq) (offlines_at o)) row_is) in
        omega (arith, all, told, own, said, beside, listed, lines)
      where
        says : Offlining → Bool
        says o = (o.frame.0 == frame.0) && says_soft moved (Some (offline_answer o.result))

        still : (o : Option Found) (t : EventOutcome) → counts (on_frame frame moved) (option_map (note_of who true (frame_of t.held)) o) ≡ 0
        still None t = refl
        still (Some found) t = no-soft ((frame_of t.held).0 == frame.0) moved

        softs : (o : Option FrameChange) → counts (on_frame frame moved) (own_note who o) ≡ soft_by frame moved o
        softs None = refl
        softs (Some (owns.Failed f found)) = no-soft (f.0 == frame.0) moved
        softs (Some (owns.Offlined f cycle true)) = refl
        softs (Some (owns.Offlined f cycle false)) = refl
        softs (Some (owns.Revived f cycle)) = no-soft (f.0 == frame.0) moved

    within : EachMember (λ (t : EventOutcome). (found : Found) → t.found ≡ Some found → frame_at t.held.event.addr < length report.frames) row.told
    within i t there found some = let line = told-line script copies seat last report end who row row_is i t found there some in slice_get_within report.frames (frame_at t.held.event.addr) line.0 line.1

  -- ---- the law

  -- the marks of a frame and its event lines that tell a result, side by side
  urgent-is : (situation : Situation) (i : ℕ) (l : FrameLine) → slice_get report.frames i ≡ Some l
      → count_by (is_urgent situation) (zip (hardware_marks who l.marks) (result_lines report who i)) ≡ sum_by (urgent_weight situation) (found_on i (told_at (row_at end.rows who)))
  urgent-is situation i l there =
      ap (λ (ms : List MarkLine). count_by (is_urgent situation) (zip ms (result_lines report who i))) (hardware-are script copies seat last report end who (record { 0 = i }) l there)
      ∙ ap (λ (es : List EventLine). count_by (is_urgent situation) (zip (map (hardware_line who) (found_on i (told_at (row_at end.rows who)))) es)) (results-of script copies seat last report end who i)
      ∙ urgent-counts who who.seq situation (found_on i (told_at (row_at end.rows who)))

  all-urgent : (situation : Situation) → urgent_from report who situation 0 report.frames ≡ sum_below (λ i. sum_by (urgent_weight situation) (found_on i (told_at (row_at end.rows who)))) (length report.frames)
  all-urgent situation =
      let weight : ℕ → ℕ = λ i. sum_by (urgent_weight situation) (found_on i (told_at (row_at end.rows who))) in
      urgent-below report who situation weight 0 report.frames (λ i l there. (let same : 0 + i ≡ i = omega arith in
      subst (λ (k : ℕ). count_by (is_urgent situation) (zip (hardware_marks who l.marks) (result_lines report who k)) ≡ weight k) (sym same) (urgent-is situation i l there)))
      ∙ below-same (λ i. weight (0 + i)) weight (length report.frames) (λ i before. ap weight (let same : 0 + i ≡ i = omega arith in same))

  pub recorded : AreRecorded script report who
  recorded = which (row_at end.rows who) refl
    where
      which : (o : Option Row) → row_at end.rows who ≡ o → AreRecorded script report who
      which None none = record {
        failures = λ situation page. entries-without (is_failure situation) none ∙ sym (marks-without (λ (x : MarkLine). finds situation (how_in x)) none);
        required = λ situation page. entries-without (is_required situation) none ∙ sym (all-urgent situation ∙ ap (λ (o : Option Row). sum_below (λ i. sum_by (urgent_weight situation) (found_on i (told_at o))) (length report.frames)) none
            ∙ on-frames (urgent_weight situation) (length report.frames) [] (λ i t there. absurd (none-some t there)));
        moves = entries-without is_soft none ∙ sym (marks-without (λ (x : MarkLine). is_move (how_in x)) none);
        softs = λ frame moved. softs-without frame moved none;
        one = (let few : marks_in report (is_commands who) ≡ 0 = marks-without (λ (x : MarkLine). is_commanded x) none in omega (arith, few));
      }
      which (Some row) some = record {
        failures = failures-with row some;
        required = λ situation page. required-with row some situation page
            ∙ sym (all-urgent situation ∙ ap (λ (o : Option Row). sum_below (λ i. sum_by (urgent_weight situation) (found_on i (told_at o))) (length report.frames)) some ∙ on-frames (urgent_weight situation) (length report.frames) row.told (within row some));
        moves = moves-with row some;
        softs = softs-with row some;
        one = one-with row some;
      }
