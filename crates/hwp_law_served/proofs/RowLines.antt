-- The lines of a processor's rows: where the answer of each stands, and what a report says of a command by them: its answer, its events,
-- the frames that were taken out of use beside it, and the machine check of a guest.
use Rattle.std.proofs.Common.{◌≡◌, ◌≢◌, ◌⊎◌, ℕ, zero, suc, ◌+◌, ◌<◌, ◌==◌, Bool, true, false, cond, List, [], ◌∷◌, ◌++◌, Option, Some, None, filter, filter_map, length, map, option_and_then, option_map, slice_get, unwrap_or, refl, sym, ap, ◌∙◌, subst, arith, inl, inr, append-nil, true≢false}
use Rattle.std.specs.List.{find, zip}
use Rattle.std.specs.Prelude.{option_to_list}
use Rattle.std.proofs.lemmas.Bool.{eq-eqb, ne_eqb}
use Rattle.std.proofs.lemmas.List.Elements.{filter-append, filter_map-append}
use Rattle.std.proofs.lemmas.Option.{none-some, same_Some, slice_get_within}
use Rattle.hwp_law.specs.hwp_geom.declared.VSlot.{VSlot}
use Rattle.hwp_law.specs.hwp_geom.declared.Cpu.{Cpu}
use Rattle.hwp_law.specs.hwp_geom.declared.Who.{Who}
use Rattle.hwp_plain.specs.hwp_core_rule.declared.State.{State}
use Rattle.hwp_plain.specs.hwp_core_rule.declared.View.{View}
use Rattle.hwp_law.specs.hwp_script_words.declared.Command.{Command}
use Rattle.hwp_law.specs.hwp_script_words.declared.Script.{Script}
use Rattle.hwp_law.specs.hwp_report_text.declared.Answer.{Answer}
use Rattle.hwp_law.specs.hwp_report_text.declared.Answer.TheVariants as answers
use Rattle.hwp_law.specs.hwp_report_text.declared.CpuLine.{CpuLine}
use Rattle.hwp_law.specs.hwp_report_text.declared.CpuLine.TheVariants as lines
use Rattle.hwp_law.specs.hwp_report_text.declared.EventLine.{EventLine}
use Rattle.hwp_law.specs.hwp_report_text.declared.GuestLine.{GuestLine}
use Rattle.hwp_law.specs.hwp_report_text.declared.OfflinedLine.{OfflinedLine}
use Rattle.hwp_law.specs.hwp_report_text.declared.Report.{Report}
use Rattle.hwp_plain.proofs.of_hwp_core_rule.Lists.{at_map}
use Rattle.hwp_law.proofs.Rows.{same_answer}
use Rattle.hwp_law.specs.Lines.{AnswerLine, answer_among, answer_in, answer_of, answered, answers_from, answers_to, event_in, events_among, events_of, guest_in, guests_among, guests_told, offlined_among, offlined_in, offlined_of, rows_of}
use Rattle.hwp_law.specs.Policies.{answered_on}
use Rattle.hwp_cpu_row.specs.declared.Offlining.{Offlining}
use Rattle.hwp_cpu_row.specs.declared.Row.{Row}
use Rattle.hwp_cpu_row.specs.hwp_claim.declared.EventOutcome.{EventOutcome}
use Rattle.hwp_law_served.specs.Handles.{answers_by}
use Rattle.hwp_law_served.specs.Rows.{end_lines, event_line, guest_at, lines_from, offlined_at, offlined_line, row_lines}
use Rattle.hwp_cpu_row.specs.Acts.{event_at}
use Rattle.hwp_law_served.specs.Runs.{row_at}
use Rattle.hwp_law_served.proofs.RunEnds.{IsEnd, IsOf, list-of, rows-of-lines, served-of}

-- what a command told that has this row, or none
abbrev pub told_at : Option Row → List EventOutcome
told_at None = []
told_at (Some row) = row.told

-- and the frames that were taken out of use beside it
abbrev pub offlines_at : Option Row → List Offlining
offlines_at None = []
offlines_at (Some row) = row.offlined

-- ---- places

-- a member of two lists behind one another is one of the first, or of the second
abbrev Either : {A : Type 0} → List A → List A → ℕ → A → Type 0
Either xs ys i y = ((slice_get xs i ≡ Some y) × (i < length xs)) ⊎ ((j : ℕ) × (i ≡ length xs + j) × (slice_get ys j ≡ Some y))

either : {A : Type 0} (xs ys : List A) (i : ℕ) (y : A) → slice_get (xs ++ ys) i ≡ Some y → Either xs ys i y
either [] ys i y there = inr (i, (omega arith), there)
either (x ∷ xs) ys zero y there = inl (there, omega arith)
either {A} (x ∷ xs) ys (suc i) y there = later (either xs ys i y there)
  where
    later : Either xs ys i y → Either (x ∷ xs) ys (suc i) y
    later (inl (first, inside)) = inl (first, omega (arith, inside))
    later (inr (j, at, second)) = inr (j, omega (arith, at), second)

-- and a member of the second stands behind the first
pub behind : {A : Type 0} (xs ys : List A) (j : ℕ) (y : A) → slice_get ys j ≡ Some y → (i : ℕ) × (slice_get (xs ++ ys) i ≡ Some y)
behind [] ys j y there = (j, there)
behind (x ∷ xs) ys j y there = let later = behind xs ys j y there in (suc later.0, later.1)

first-of : {A : Type 0} (xs ys : List A) (i : ℕ) (y : A) → slice_get xs i ≡ Some y → slice_get (xs ++ ys) i ≡ Some y
first-of [] ys i y there = absurd (none-some y there)
first-of (x ∷ xs) ys zero y there = there
first-of (x ∷ xs) ys (suc i) y there = first-of xs ys i y there

abbrev is_answer : CpuLine → Bool
is_answer (lines.Answer seq answer) = true
is_answer line = false

-- how many lines stand between those of frames and the answer
abbrev guest_count : Option GuestLine → ℕ
guest_count None = 0
guest_count (Some line) = 1

in-end : (seq : ℕ) (answer : Answer) (guest : Option GuestLine) (i m : ℕ) (a : Answer) → slice_get (end_lines seq guest answer) i ≡ Some (lines.Answer m a) → (i ≡ guest_count guest) × (seq ≡ m) × (answer ≡ a)
in-end seq answer None zero m a there = let same = same_answer seq m answer a (same_Some (lines.Answer seq answer) (lines.Answer m a) there) in (refl, same.0, same.1)
in-end seq answer None (suc i) m a there = absurd (none-some (lines.Answer m a) there)
in-end seq answer (Some line) zero m a there = absurd (true≢false (sym (ap is_answer (same_Some (lines.Guest (guest_at seq line)) (lines.Answer m a) there))))
in-end seq answer (Some line) (suc zero) m a there = let same = same_answer seq m answer a (same_Some (lines.Answer seq answer) (lines.Answer m a) there) in (refl, same.0, same.1)
in-end seq answer (Some line) (suc (suc i)) m a there = absurd (none-some (lines.Answer m a) there)

-- a row has one answer, which stands last
in-rest : (seq : ℕ) (answer : Answer) (guest : Option GuestLine) (offlined : List Offlining) (i m : ℕ) (a : Answer) → slice_get (map (offlined_line seq) offlined ++ end_lines seq guest answer) i ≡ Some (lines.Answer m a)
    → (i ≡ length offlined + guest_count guest) × (seq ≡ m) × (answer ≡ a)
in-rest seq answer guest [] i m a there = let is = in-end seq answer guest i m a there in (omega (arith, is.0), is.1, is.2)
in-rest seq answer guest (o ∷ os) zero m a there = absurd (true≢false (sym (ap is_answer (same_Some (offlined_line seq o) (lines.Answer m a) there))))
in-rest seq answer guest (o ∷ os) (suc i) m a there = let later = in-rest seq answer guest os i m a there in (omega (arith, later.0), later.1, later.2)

in-row : (seq : ℕ) (answer : Answer) (guest : Option GuestLine) (offlined : List Offlining) (told : List EventOutcome) (i m : ℕ) (a : Answer)
    → slice_get (map (event_line seq) told ++ (map (offlined_line seq) offlined ++ end_lines seq guest answer)) i ≡ Some (lines.Answer m a)
    → (i ≡ length told + (length offlined + guest_count guest)) × (seq ≡ m) × (answer ≡ a)
in-row seq answer guest offlined [] i m a there = let is = in-rest seq answer guest offlined i m a there in (omega (arith, is.0), is.1, is.2)
in-row seq answer guest offlined (t ∷ ts) zero m a there = absurd (true≢false (sym (ap is_answer (same_Some (event_line seq t) (lines.Answer m a) there))))
in-row seq answer guest offlined (t ∷ ts) (suc i) m a there = let later = in-row seq answer guest offlined ts i m a there in (omega (arith, later.0), later.1, later.2)

-- the row of an answer's line, among those of the commands from number n on
pub record HasLine (n : ℕ) (rows : List Row) (m : ℕ) (answer : Answer) : Type 0 where
  pub k : ℕ
  pub number : m ≡ n + k
  pub row : Row
  pub row_is : slice_get rows k ≡ Some row
  pub answer_is : row.answer ≡ answer

pub row-of-line : (n : ℕ) (rows : List Row) (i m : ℕ) (answer : Answer) → slice_get (lines_from n rows) i ≡ Some (lines.Answer m answer) → HasLine n rows m answer
row-of-line n [] i m answer there = absurd (none-some (lines.Answer m answer) there)
row-of-line n (row ∷ rows) i m answer there = which (either (row_lines n row) (lines_from (n + 1) rows) i (lines.Answer m answer) there) (λ j. row-of-line (n + 1) rows j m answer)
  where
    which : Either (row_lines n row) (lines_from (n + 1) rows) i (lines.Answer m answer) → ((j : ℕ) → slice_get (lines_from (n + 1) rows) j ≡ Some (lines.Answer m answer) → HasLine (n + 1) rows m answer) → HasLine n (row ∷ rows) m answer
    which (inl (first, inside)) more =
        let is = in-row n row.answer row.guest row.offlined row.told i m answer first in
        record { k = 0; number = omega (arith, is.1); row = row; row_is = refl; answer_is = is.2 }
    which (inr (j, at, second)) more =
        let later = more j second in
        record { k = suc later.k; number = omega (arith, later.number); row = later.row; row_is = later.row_is; answer_is = later.answer_is }

-- the line of a row's answer
at-end : (n : ℕ) (guest : Option GuestLine) (answer : Answer) → (i : ℕ) × (slice_get (end_lines n guest answer) i ≡ Some (lines.Answer n answer))
at-end n None answer = (0, refl)
at-end n (Some line) answer = (1, refl)

pub answer-line : (n : ℕ) (rows : List Row) (k m : ℕ) (row : Row) → slice_get rows k ≡ Some row → m ≡ n + k → (i : ℕ) × (slice_get (lines_from n rows) i ≡ Some (lines.Answer m row.answer))
answer-line n [] k m row there at = absurd (none-some row there)
answer-line n (r ∷ rows) zero m row there at =
    let same : n ≡ m = omega arith in
    let last = at-end n r.guest r.answer in
    let own = behind (map (offlined_line n) r.offlined) (end_lines n r.guest r.answer) last.0 (lines.Answer m row.answer) (last.1 ∙ ap (λ (x : Row). Some (lines.Answer n x.answer)) (same_Some r row there) ∙ ap (λ (i : ℕ). Some (lines.Answer i row.answer)) same) in
    let here = behind (map (event_line n) r.told) (map (offlined_line n) r.offlined ++ end_lines n r.guest r.answer) own.0 (lines.Answer m row.answer) own.1 in
    (here.0, first-of (row_lines n r) (lines_from (n + 1) rows) here.0 (lines.Answer m row.answer) here.1)
answer-line n (r ∷ rows) (suc k) m row there at =
    let later = answer-line (n + 1) rows k m row there (omega arith) in
    behind (row_lines n r) (lines_from (n + 1) rows) later.0 (lines.Answer m row.answer) later.1

-- the line of a frame that was taken out of use beside a command
pub offlined-there : (n : ℕ) (rows : List Row) (k m : ℕ) (row : Row) (j : ℕ) (o : Offlining) → slice_get rows k ≡ Some row → m ≡ n + k → slice_get row.offlined j ≡ Some o → (i : ℕ) × (slice_get (lines_from n rows) i ≡ Some (offlined_line m o))
offlined-there n [] k m row j o there at one = absurd (none-some row there)
offlined-there n (r ∷ rows) zero m row j o there at one =
    let same : n ≡ m = omega arith in
    let mine : slice_get r.offlined j ≡ Some o = ap (λ (x : Row). slice_get x.offlined j) (same_Some r row there) ∙ one in
    let line : slice_get (map (offlined_line n) r.offlined) j ≡ Some (offlined_line m o) = at_map (offlined_line n) r.offlined j o mine ∙ ap (λ (i : ℕ). Some (offlined_line i o)) same in
    let here = behind (map (event_line n) r.told) (map (offlined_line n) r.offlined ++ end_lines n r.guest r.answer) j (offlined_line m o) (first-of (map (offlined_line n) r.offlined) (end_lines n r.guest r.answer) j (offlined_line m o) line) in
    (here.0, first-of (row_lines n r) (lines_from (n + 1) rows) here.0 (offlined_line m o) here.1)
offlined-there n (r ∷ rows) (suc k) m row j o there at one =
    let later = offlined-there (n + 1) rows k m row j o there (omega arith) one in
    behind (row_lines n r) (lines_from (n + 1) rows) later.0 (offlined_line m o) later.1

-- answers stand in the order of their commands
pub answers-rise : (n : ℕ) (rows : List Row) (i j m l : ℕ) (a b : Answer) → i < j → slice_get (lines_from n rows) i ≡ Some (lines.Answer m a) → slice_get (lines_from n rows) j ≡ Some (lines.Answer l b) → m < l
answers-rise n [] i j m l a b less first second = absurd (none-some (lines.Answer m a) first)
answers-rise n (row ∷ rows) i j m l a b less first second = which (either (row_lines n row) (lines_from (n + 1) rows) i (lines.Answer m a) first) (either (row_lines n row) (lines_from (n + 1) rows) j (lines.Answer l b) second) (λ k h under. answers-rise (n + 1) rows k h m l a b under)
  where
    which : Either (row_lines n row) (lines_from (n + 1) rows) i (lines.Answer m a) → Either (row_lines n row) (lines_from (n + 1) rows) j (lines.Answer l b)
        → ((k h : ℕ) → k < h → slice_get (lines_from (n + 1) rows) k ≡ Some (lines.Answer m a) → slice_get (lines_from (n + 1) rows) h ≡ Some (lines.Answer l b) → m < l) → m < l
    which (inl (one, inside)) (inl (other, within)) more =
        let is = in-row n row.answer row.guest row.offlined row.told i m a one in
        let at = in-row n row.answer row.guest row.offlined row.told j l b other in
        absurd (omega (arith, is.0, at.0, less))
    which (inl (one, inside)) (inr (k, at, other)) more =
        let is = in-row n row.answer row.guest row.offlined row.told i m a one in
        let later = row-of-line (n + 1) rows k l b other in
        omega (arith, is.1, later.number)
    which (inr (k, at, one)) (inl (other, within)) more = absurd (omega (arith, at, within, less))
    which (inr (k, at, one)) (inr (h, bt, other)) more = more k h (omega (arith, at, bt, less)) one other

-- ---- what the lines say of a command

answers-in : (n : ℕ) (row : Row) → filter_map answer_in (row_lines n row) ≡ record { seq = n; answer = row.answer } ∷ []
answers-in n row = by row.told
  where
    last : (guest : Option GuestLine) → filter_map answer_in (end_lines n guest row.answer) ≡ record { seq = n; answer = row.answer } ∷ []
    last None = refl
    last (Some line) = refl

    rest : (offlined : List Offlining) → filter_map answer_in (map (offlined_line n) offlined ++ end_lines n row.guest row.answer) ≡ record { seq = n; answer = row.answer } ∷ []
    rest [] = last row.guest
    rest (o ∷ os) = rest os

    by : (told : List EventOutcome) → filter_map answer_in (map (event_line n) told ++ (map (offlined_line n) row.offlined ++ end_lines n row.guest row.answer)) ≡ record { seq = n; answer = row.answer } ∷ []
    by [] = rest row.offlined
    by (t ∷ ts) = by ts

events-in : (n : ℕ) (row : Row) → filter_map event_in (row_lines n row) ≡ map (event_at n) row.told
events-in n row = by row.told
  where
    last : (guest : Option GuestLine) → filter_map event_in (end_lines n guest row.answer) ≡ []
    last None = refl
    last (Some line) = refl

    rest : (offlined : List Offlining) → filter_map event_in (map (offlined_line n) offlined ++ end_lines n row.guest row.answer) ≡ []
    rest [] = last row.guest
    rest (o ∷ os) = rest os

    by : (told : List EventOutcome) → filter_map event_in (map (event_line n) told ++ (map (offlined_line n) row.offlined ++ end_lines n row.guest row.answer)) ≡ map (event_at n) told
    by [] = rest row.offlined
    by (t ∷ ts) = ap (λ (l : List EventLine). event_at n t ∷ l) (by ts)

offlined-in : (n : ℕ) (row : Row) → filter_map offlined_in (row_lines n row) ≡ map (offlined_at n) row.offlined
offlined-in n row = by row.told
  where
    last : (guest : Option GuestLine) → filter_map offlined_in (end_lines n guest row.answer) ≡ []
    last None = refl
    last (Some line) = refl

    rest : (offlined : List Offlining) → filter_map offlined_in (map (offlined_line n) offlined ++ end_lines n row.guest row.answer) ≡ map (offlined_at n) offlined
    rest [] = last row.guest
    rest (o ∷ os) = ap (λ (l : List OfflinedLine). offlined_at n o ∷ l) (rest os)

    by : (told : List EventOutcome) → filter_map offlined_in (map (event_line n) told ++ (map (offlined_line n) row.offlined ++ end_lines n row.guest row.answer)) ≡ map (offlined_at n) row.offlined
    by [] = rest row.offlined
    by (t ∷ ts) = by ts

-- and the guest's line, if there is one
guests-in : (n : ℕ) (row : Row) → filter_map guest_in (row_lines n row) ≡ map (guest_at n) (option_to_list row.guest)
guests-in n row = by row.told
  where
    last : (guest : Option GuestLine) → filter_map guest_in (end_lines n guest row.answer) ≡ map (guest_at n) (option_to_list guest)
    last None = refl
    last (Some line) = refl

    rest : (offlined : List Offlining) → filter_map guest_in (map (offlined_line n) offlined ++ end_lines n row.guest row.answer) ≡ map (guest_at n) (option_to_list row.guest)
    rest [] = last row.guest
    rest (o ∷ os) = rest os

    by : (told : List EventOutcome) → filter_map guest_in (map (event_line n) told ++ (map (offlined_line n) row.offlined ++ end_lines n row.guest row.answer)) ≡ map (guest_at n) (option_to_list row.guest)
    by [] = rest row.offlined
    by (t ∷ ts) = by ts

pub answers-split : (n : ℕ) (row : Row) (rows : List Row) → filter_map answer_in (lines_from n (row ∷ rows)) ≡ record { seq = n; answer = row.answer } ∷ filter_map answer_in (lines_from (n + 1) rows)
answers-split n row rows = filter_map-append answer_in (row_lines n row) (lines_from (n + 1) rows) ∙ ap (λ (l : List AnswerLine). l ++ filter_map answer_in (lines_from (n + 1) rows)) (answers-in n row)

-- the answer of a command among its processor's lines
pub answer-at : (n : ℕ) (rows : List Row) (k m : ℕ) (row : Row) → slice_get rows k ≡ Some row → m ≡ n + k → answer_among (lines_from n rows) m ≡ Some row.answer
answer-at n [] k m row there at = absurd (none-some row there)
answer-at n (r ∷ rows) zero m row there at =
    let is : m ≡ n = omega arith in
    ap (λ (l : List AnswerLine). option_map (λ (x : AnswerLine). x.answer) (find (λ (x : AnswerLine). m == x.seq) l)) (answers-split n r rows)
    ∙ ap (λ (b : Bool). option_map (λ (x : AnswerLine). x.answer) (cond b (Some (record { seq = n; answer = r.answer })) (find (λ (x : AnswerLine). m == x.seq) (filter_map answer_in (lines_from (n + 1) rows))))) (eq-eqb m n is)
    ∙ ap (λ (x : Row). Some x.answer) (same_Some r row there)
answer-at n (r ∷ rows) (suc k) m row there at =
    let other : m ≢ n = λ same. (let no : m ≡ n = same in omega arith) in
    ap (λ (l : List AnswerLine). option_map (λ (x : AnswerLine). x.answer) (find (λ (x : AnswerLine). m == x.seq) l)) (answers-split n r rows)
    ∙ ap (λ (b : Bool). option_map (λ (x : AnswerLine). x.answer) (cond b (Some (record { seq = n; answer = r.answer })) (find (λ (x : AnswerLine). m == x.seq) (filter_map answer_in (lines_from (n + 1) rows))))) (ne_eqb m n other)
    ∙ answer-at (n + 1) rows k m row there (omega arith)

-- the answers in the lines of rows, one row for each command, are those of the rows
answers-from-rows : (told : ℕ → Option Answer) (n : ℕ) (rows : List Row) → ((k : ℕ) (row : Row) → slice_get rows k ≡ Some row → told (n + k) ≡ Some row.answer) → answers_from told n (length rows) ≡ map (λ (r : Row). r.answer) rows
answers-from-rows told n [] each = refl
answers-from-rows told n (row ∷ rows) each =
    let first : n ≡ n + 0 = omega arith in
    ap (λ (o : Option Answer). unwrap_or o answers.Stopped ∷ answers_from told (n + 1) (length rows)) (ap told first ∙ each 0 row refl)
    ∙ ap (λ (l : List Answer). row.answer ∷ l)
    (answers-from-rows told (n + 1) rows (λ k r there. (let next : (n + 1) + k ≡ n + suc k = omega arith in ap told next ∙ each (suc k) r there)))

pub answers-of-rows : (list : List Command) (rows : List Row) → length rows ≡ length list → answers_to list (lines_from 0 rows) ≡ map (λ (r : Row). r.answer) rows
answers-of-rows list rows many =
    ap (answers_from (answer_among (lines_from 0 rows)) 0) (sym many) ∙ answers-from-rows (answer_among (lines_from 0 rows)) 0 rows (λ k row there. answer-at 0 rows k (0 + k) row there refl)

-- the lines of one kind: those of events, and those of frames that were taken out of use. Each row has some, with the row's number
module _ {A B : Type 0} (kind : CpuLine → Option B) (number : B → ℕ) (line : ℕ → A → B) (of : Row → List A) (kind_is : (n : ℕ) (row : Row) → filter_map kind (row_lines n row) ≡ map (line n) (of row)) (numbered : (n : ℕ) (x : A) → number (line n x) ≡ n) where
  -- those of a command among some
  abbrev among : List CpuLine → ℕ → List B
  among list m = filter (λ (l : B). m == number l) (filter_map kind list)

  all-of : (m n : ℕ) (xs : List A) → m ≡ n → filter (λ (l : B). m == number l) (map (line n) xs) ≡ map (line m) xs
  all-of m n [] same = refl
  all-of m n (x ∷ xs) same =
      ap (λ (b : Bool). cond b (line n x ∷ filter (λ (l : B). m == number l) (map (line n) xs)) (filter (λ (l : B). m == number l) (map (line n) xs))) (eq-eqb m (number (line n x)) (same ∙ sym (numbered n x)))
      ∙ ap (λ (l : List B). line n x ∷ l) (all-of m n xs same) ∙ ap (λ (i : ℕ). line i x ∷ map (line m) xs) (sym same)

  none-of : (m n : ℕ) (xs : List A) → m ≢ n → filter (λ (l : B). m == number l) (map (line n) xs) ≡ []
  none-of m n [] other = refl
  none-of m n (x ∷ xs) other =
      ap (λ (b : Bool). cond b (line n x ∷ filter (λ (l : B). m == number l) (map (line n) xs)) (filter (λ (l : B). m == number l) (map (line n) xs))) (ne_eqb m (number (line n x)) (λ same. other (same ∙ numbered n x)))
      ∙ none-of m n xs other

  kind-split : (m n : ℕ) (row : Row) (rows : List Row) → among (lines_from n (row ∷ rows)) m ≡ filter (λ (l : B). m == number l) (map (line n) (of row)) ++ among (lines_from (n + 1) rows) m
  kind-split m n row rows =
      ap (filter (λ (l : B). m == number l)) (filter_map-append kind (row_lines n row) (lines_from (n + 1) rows) ∙ ap (λ (l : List B). l ++ filter_map kind (lines_from (n + 1) rows)) (kind_is n row))
      ∙ filter-append (λ (l : B). m == number l) (map (line n) (of row)) (filter_map kind (lines_from (n + 1) rows))

  -- a command before the first of them has none among them
  kind-before : (m n : ℕ) (rows : List Row) → m < n → among (lines_from n rows) m ≡ []
  kind-before m n [] less = refl
  kind-before m n (row ∷ rows) less =
      let other : m ≢ n = λ same. (let no : m ≡ n = same in omega (arith, less)) in
      kind-split m n row rows ∙ ap (λ (l : List B). l ++ among (lines_from (n + 1) rows) m) (none-of m n (of row) other) ∙ kind-before m (n + 1) rows (omega (arith, less))

  -- those of a command among its processor's lines
  kind-at : (n : ℕ) (rows : List Row) (k m : ℕ) (row : Row) → slice_get rows k ≡ Some row → m ≡ n + k → among (lines_from n rows) m ≡ map (line m) (of row)
  kind-at n [] k m row there at = absurd (none-some row there)
  kind-at n (r ∷ rows) zero m row there at =
      let is : m ≡ n = omega arith in
      kind-split m n r rows
      ∙ ap (λ (l : List B). l ++ among (lines_from (n + 1) rows) m) (all-of m n (of r) is)
      ∙ ap (λ (l : List B). map (line m) (of r) ++ l) (kind-before m (n + 1) rows (omega arith))
      ∙ append-nil (map (line m) (of r))
      ∙ ap (λ (x : Row). map (line m) (of x)) (same_Some r row there)
  kind-at n (r ∷ rows) (suc k) m row there at =
      let other : m ≢ n = λ same. (let no : m ≡ n = same in omega arith) in
      kind-split m n r rows ∙ ap (λ (l : List B). l ++ among (lines_from (n + 1) rows) m) (none-of m n (of r) other) ∙ kind-at (n + 1) rows k m row there (omega arith)

  -- what is no command's has none
  kind-past : (n : ℕ) (rows : List Row) (k m : ℕ) → slice_get rows k ≡ None → m ≡ n + k → among (lines_from n rows) m ≡ []
  kind-past n [] k m none at = refl
  kind-past n (r ∷ rows) zero m none at = absurd (none-some r (sym none))
  kind-past n (r ∷ rows) (suc k) m none at =
      let other : m ≢ n = λ same. (let no : m ≡ n = same in omega arith) in
      kind-split m n r rows ∙ ap (λ (l : List B). l ++ among (lines_from (n + 1) rows) m) (none-of m n (of r) other) ∙ kind-past (n + 1) rows k m none (omega arith)

-- the events of a command among its processor's lines, and the frames
pub events-at : (n : ℕ) (rows : List Row) (k m : ℕ) (row : Row) → slice_get rows k ≡ Some row → m ≡ n + k → events_among (lines_from n rows) m ≡ map (event_at m) row.told
events-at = kind-at event_in (λ (l : EventLine). l.seq) event_at (λ (r : Row). r.told) events-in (λ n t. refl)

pub offlined-among : (n : ℕ) (rows : List Row) (k m : ℕ) (row : Row) → slice_get rows k ≡ Some row → m ≡ n + k → offlined_among (lines_from n rows) m ≡ map (offlined_at m) row.offlined
offlined-among = kind-at offlined_in (λ (l : OfflinedLine). l.seq) offlined_at (λ (r : Row). r.offlined) offlined-in (λ n o. refl)

guests-at : (n : ℕ) (rows : List Row) (k m : ℕ) (row : Row) → slice_get rows k ≡ Some row → m ≡ n + k → guests_among (lines_from n rows) m ≡ map (guest_at m) (option_to_list row.guest)
guests-at = kind-at guest_in (λ (l : GuestLine). l.seq) guest_at (λ (r : Row). option_to_list r.guest) guests-in (λ n l. refl)

events-past : (n : ℕ) (rows : List Row) (k m : ℕ) → slice_get rows k ≡ None → m ≡ n + k → events_among (lines_from n rows) m ≡ []
events-past = kind-past event_in (λ (l : EventLine). l.seq) event_at (λ (r : Row). r.told) events-in (λ n t. refl)

offlined-past : (n : ℕ) (rows : List Row) (k m : ℕ) → slice_get rows k ≡ None → m ≡ n + k → offlined_among (lines_from n rows) m ≡ []
offlined-past = kind-past offlined_in (λ (l : OfflinedLine). l.seq) offlined_at (λ (r : Row). r.offlined) offlined-in (λ n o. refl)

module _ (script : Script) (copies : Who → Option VSlot) (seat : Cpu → ℕ) (last : State) (report : Report) (end : IsEnd script copies seat last report) where
  -- the report's answer of a command, and its event lines, are those of its row
  pub answer-told : (view : View) (who : Who) (of : IsOf script copies end.rows view who) → answer_of report who ≡ Some of.row.answer
  answer-told view who of =
      ap (λ (o : Option (List CpuLine)). answer_among (unwrap_or o []) who.seq) (served-of script copies seat last report end who.cpu of.list of.own of.list_is of.own_is).1
      ∙ answer-at 0 of.own who.seq who.seq of.row of.row_is (omega arith)

  pub guest-told : (view : View) (who : Who) (of : IsOf script copies end.rows view who) → guests_told report who ≡ map (guest_at who.seq) (option_to_list of.row.guest)
  guest-told view who of =
      ap (λ (o : Option (List CpuLine)). guests_among (unwrap_or o []) who.seq) (served-of script copies seat last report end who.cpu of.list of.own of.list_is of.own_is).1
      ∙ guests-at 0 of.own who.seq who.seq of.row of.row_is (omega arith)

  pub events-told : (view : View) (who : Who) (of : IsOf script copies end.rows view who) → events_of report who ≡ map (event_at who.seq) of.row.told
  events-told view who of =
      ap (λ (o : Option (List CpuLine)). events_among (unwrap_or o []) who.seq) (served-of script copies seat last report end who.cpu of.list of.own of.list_is of.own_is).1
      ∙ events-at 0 of.own who.seq who.seq of.row of.row_is (omega arith)

  pub offlined-told : (view : View) (who : Who) (of : IsOf script copies end.rows view who) → offlined_of report who ≡ map (offlined_at who.seq) of.row.offlined
  offlined-told view who of =
      ap (λ (o : Option (List CpuLine)). offlined_among (unwrap_or o []) who.seq) (served-of script copies seat last report end who.cpu of.list of.own of.list_is of.own_is).1
      ∙ offlined-among 0 of.own who.seq who.seq of.row of.row_is (omega arith)

  -- of any command, also where there is none: what its processor's lines say, and nothing where it has none
  by-row : {B : Type 0} (among : List CpuLine → List B) (of : Option Row → List B) → among [] ≡ [] → of None ≡ [] → (who : Who) → ((own : List Row) → among (lines_from 0 own) ≡ of (slice_get own who.seq)) → among (rows_of report who) ≡ of (row_at end.rows who)
  by-row {B} among of empty none who at = which (slice_get end.rows who.cpu.0) refl
    where
      none-at : (o : Option (List CpuLine)) → slice_get report.cpus who.cpu.0 ≡ o → slice_get end.rows who.cpu.0 ≡ None → among (unwrap_or o []) ≡ []
      none-at None there outside = empty
      none-at (Some found) there outside =
          let has = rows-of-lines script copies seat last report end who.cpu found there in
          absurd (none-some has.own (sym outside ∙ has.own_is))

      which : (o : Option (List Row)) → slice_get end.rows who.cpu.0 ≡ o → among (rows_of report who) ≡ of (option_and_then (λ (own : List Row). slice_get own who.seq) o)
      which None outside = none-at (slice_get report.cpus who.cpu.0) refl outside ∙ sym none
      which (Some own) some =
          let list = list-of script copies seat last report end who.cpu (subst (λ (n : ℕ). who.cpu.0 < n) end.rows_fit (slice_get_within end.rows who.cpu.0 own some)) in
          ap (λ (o : Option (List CpuLine)). among (unwrap_or o [])) (served-of script copies seat last report end who.cpu list.0 own list.1 some).1 ∙ at own

  pub events-by-row : (who : Who) → events_of report who ≡ map (event_at who.seq) (told_at (row_at end.rows who))
  events-by-row who = by-row (λ (l : List CpuLine). events_among l who.seq) (λ (o : Option Row). map (event_at who.seq) (told_at o)) refl refl who (λ own. past own (slice_get own who.seq) refl)
    where
      past : (own : List Row) (o : Option Row) → slice_get own who.seq ≡ o → events_among (lines_from 0 own) who.seq ≡ map (event_at who.seq) (told_at o)
      past own None none = events-past 0 own who.seq who.seq none (omega arith)
      past own (Some row) some = events-at 0 own who.seq who.seq row some (omega arith)

  pub offlined-by-row : (who : Who) → offlined_of report who ≡ map (offlined_at who.seq) (offlines_at (row_at end.rows who))
  offlined-by-row who = by-row (λ (l : List CpuLine). offlined_among l who.seq) (λ (o : Option Row). map (offlined_at who.seq) (offlines_at o)) refl refl who (λ own. past own (slice_get own who.seq) refl)
    where
      past : (own : List Row) (o : Option Row) → slice_get own who.seq ≡ o → offlined_among (lines_from 0 own) who.seq ≡ map (offlined_at who.seq) (offlines_at o)
      past own None none = offlined-past 0 own who.seq who.seq none (omega arith)
      past own (Some row) some = offlined-among 0 own who.seq who.seq row some (omega arith)

  -- the commands of a processor with their answers in the report are those with its rows' answers
  pub answered-so : (cpu : Cpu) (list : List Command) (own : List Row) → slice_get script.lists cpu.0 ≡ Some list → slice_get end.rows cpu.0 ≡ Some own → answered_on script report cpu ≡ answers_by list own
  answered-so cpu list own list_is own_is =
      ap (λ (o : Option (List Command)). answered (unwrap_or o []) (unwrap_or (slice_get report.cpus cpu.0) [])) list_is
      ∙ ap (λ (o : Option (List CpuLine)). answered list (unwrap_or o [])) (served-of script copies seat last report end cpu list own list_is own_is).1
      ∙ ap (λ (l : List Answer). zip list l) (answers-of-rows list own (served-of script copies seat last report end cpu list own list_is own_is).0.count)
