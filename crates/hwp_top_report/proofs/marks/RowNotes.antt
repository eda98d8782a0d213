-- The notes of a command among those of all processors are those of its row, and so are its lines in the record of a frame.
use Rattle.std.proofs.Common.{◌≡◌, inl, inr, ℕ, zero, suc, ◌+◌, ◌<◌, ◌≤◌, ◌==◌, ◌&&◌, Bool, true, false, cond, List, [], ◌∷◌, ◌++◌, Option, Some, None, filter, filter_map, flat_map, length, map, option_and_then, option_map, slice_get, refl, sym, ap, ◌∙◌, subst, arith}
use Rattle.std.specs.List.{cons_option}
use Rattle.std.proofs.lemmas.Bool.{and_from, and_left, and_right, eq-eqb, ne_eqb}
use Rattle.std.proofs.lemmas.List.{append-nil, map-append}
use Rattle.std.proofs.lemmas.List.Elements.{filter-append}
use Rattle.std.proofs.lemmas.Option.{none-some, same_Some}
use Rattle.hwp_law_served.specs.hwp_geom.declared.Cpu.{Cpu}
use Rattle.hwp_law_served.specs.hwp_geom.declared.Frame.{Frame}
use Rattle.hwp_law_served.specs.hwp_geom.declared.Who.{Who}
use Rattle.hwp_law_served.specs.hwp_core_rule.Lists.{EachMember}
use Rattle.hwp_law_served.proofs.of_hwp_core_rule.MoreEntries.{each-append}
use Rattle.hwp_law_served.specs.hwp_report_text.declared.MarkLine.{MarkLine}
use Rattle.hwp_law_served.specs.hwp_law.Lines.{is_same_command}
use Rattle.hwp_law_served.specs.hwp_law.Records.{hardware_marks, is_by_hardware, who_in}
use Rattle.hwp_law_served.specs.hwp_claim.declared.Found.{Found}
use Rattle.hwp_law_served.specs.hwp_cpu_row.declared.FrameChange.{FrameChange}
use Rattle.hwp_law_served.specs.hwp_cpu_row.declared.FrameChange.TheVariants as owns
use Rattle.hwp_law_served.specs.hwp_cpu_row.Acts.{Act, acts}
use Rattle.hwp_law_served.specs.hwp_cpu_row.declared.Offlining.{Offlining}
use Rattle.hwp_law_served.specs.hwp_cpu_row.declared.Row.{Row}
use Rattle.hwp_law_served.specs.hwp_claim.declared.EventOutcome.{EventOutcome}
use Rattle.hwp_law_served.specs.hwp_claim.Told.{frame_of}
use Rattle.hwp_law_served.specs.Rows.{Note, act_note, lines_of, note_by, note_of, notes_from, own_note, record_of, row_notes}
use Rattle.hwp_law_served.proofs.Acts.{IsOneOf, act-of}
use Rattle.hwp_law_served.proofs.Picked.{picked-is}
use Rattle.hwp_law_served.specs.Runs.{notes_of, row_at}

-- ---- lists

-- where no member passes a test, none is left; where each does, all are
filter-none : {A : Type 0} (test : A → Bool) (l : List A) → EachMember (λ (x : A). test x ≡ false) l → filter test l ≡ []
filter-none test [] each = refl
filter-none {A} test (x ∷ xs) each = ap (λ (b : Bool). cond b (x ∷ filter test xs) (filter test xs)) (each 0 x refl) ∙ filter-none test xs (λ i y there. each (suc i) y there)

filter-all : {A : Type 0} (test : A → Bool) (l : List A) → EachMember (λ (x : A). test x ≡ true) l → filter test l ≡ l
filter-all test [] each = refl
filter-all {A} test (x ∷ xs) each = ap (λ (b : Bool). cond b (x ∷ filter test xs) (filter test xs)) (each 0 x refl) ∙ ap (λ (l : List A). x ∷ l) (filter-all test xs (λ i y there. each (suc i) y there))

pub each-cons : {A : Type 0} (P : A → Type 0) (x : A) (xs : List A) → P x → EachMember P xs → EachMember P (x ∷ xs)
each-cons P x xs here rest zero y there = subst P (same_Some x y there) here
each-cons P x xs here rest (suc i) y there = rest i y there

-- ---- of a row

-- the notes of a command that has this row, or none
abbrev pub notes_at : Who → Option Row → List Note
notes_at who None = []
notes_at who (Some row) = row_notes who row

abbrev pub is_noted : Who → Note → Bool
is_noted who n = is_same_command who (who_in n.1)

-- what holds of the notes of its events, of those of frames that were taken out of use beside it and of its own holds of all
pub each-note : (Q : Note → Type 0) (who : Who) (row : Row) → ((i : ℕ) (t : EventOutcome) (found : Found) → slice_get row.told i ≡ Some t → t.found ≡ Some found → Q (note_of who true (frame_of t.held) found))
    → ((i : ℕ) (o : Offlining) (change : FrameChange) → slice_get row.offlined i ≡ Some o → o.change ≡ Some change → Q (note_by who change))
    → ((own : FrameChange) → row.own ≡ Some own → Q (note_by who own)) → EachMember Q (row_notes who row)
each-note Q who row told beside own = each-append Q (filter_map (act_note who) (acts row.told row.offlined)) (cons_option (own_note who row.own) []) by-acts (by-own row.own refl)
  where
    of-told : (t : EventOutcome) (o : Option Found) (n : Note) → t.found ≡ o → option_map (note_of who true (frame_of t.held)) o ≡ Some n → (found : Found) × (t.found ≡ Some found) × (note_of who true (frame_of t.held) found ≡ n)
    of-told t None n is gives = absurd (none-some n gives)
    of-told t (Some found) n is gives = (found, is, same_Some (note_of who true (frame_of t.held) found) n gives)

    of-change : (c o : Option FrameChange) (n : Note) → c ≡ o → own_note who o ≡ Some n → (change : FrameChange) × (c ≡ Some change) × (note_by who change ≡ n)
    of-change c None n is gives = absurd (none-some n gives)
    of-change c (Some change) n is gives = (change, is, same_Some (note_by who change) n gives)

    of-act : (a : Act) (n : Note) → act_note who a ≡ Some n → IsOneOf row.told row.offlined a → Q n
    of-act a n gives (inl is) =
        let of = of-told is.t is.t.found n refl (ap (act_note who) is.same ∙ gives) in
        subst Q of.2 (told is.j is.t of.0 is.there of.1)
    of-act a n gives (inr is) =
        let of = of-change is.o.change is.o.change n refl (ap (act_note who) is.same ∙ gives) in
        subst Q of.2 (beside is.j is.o of.0 is.there of.1)

    by-acts : EachMember Q (filter_map (act_note who) (acts row.told row.offlined))
    by-acts k n there =
        let picked = picked-is (act_note who) (acts row.told row.offlined) k n there in
        of-act picked.1 n picked.3 (act-of row.told row.offlined picked.0 picked.1 picked.2)

    by-own : (o : Option FrameChange) → row.own ≡ o → EachMember Q (cons_option (own_note who o) [])
    by-own None is = λ i n there. absurd (none-some n there)
    by-own (Some x) is = each-cons Q (note_by who x) [] (own x is) (λ i n there. absurd (none-some n there))

-- they are of its command
pub own-by : (who : Who) (own : FrameChange) → who_in (note_by who own).1 ≡ who
own-by who (owns.Failed frame found) = refl
own-by who (owns.Offlined frame cycle moved) = refl
own-by who (owns.Revived frame cycle) = refl

noted-by : (who : Who) (row : Row) → EachMember (λ (n : Note). who_in n.1 ≡ who) (row_notes who row)
noted-by who row = each-note (λ (n : Note). who_in n.1 ≡ who) who row (λ i t found at is. refl) (λ i o change at is. own-by who change) (λ own is. own-by who own)

-- of another command none
others-none : (who : Who) (cpu : Cpu) (n : ℕ) (rows : List Row) → ((m : ℕ) → n ≤ m → is_same_command who (record { cpu = cpu; seq = m }) ≡ false) → filter (is_noted who) (notes_from cpu n rows) ≡ []
others-none who cpu n [] other = refl
others-none who cpu n (row ∷ rows) other =
    let by : Who = record { cpu = cpu; seq = n } in
    filter-append (is_noted who) (row_notes by row) (notes_from cpu (n + 1) rows)
    ∙ ap (λ (l : List Note). l ++ filter (is_noted who) (notes_from cpu (n + 1) rows)) (filter-none (is_noted who) (row_notes by row) (λ i x there. ap (is_same_command who) (noted-by by row i x there) ∙ other n (omega arith)))
    ∙ others-none who cpu (n + 1) rows (λ m past. other m (omega (arith, past)))

-- those of a command among its processor's
pub notes-by : (who : Who) (n : ℕ) (rows : List Row) (k : ℕ) → who.seq ≡ n + k → filter (is_noted who) (notes_from who.cpu n rows) ≡ notes_at who (slice_get rows k)
notes-by who n [] k at = refl
notes-by who n (row ∷ rows) zero at =
    let same : n ≡ who.seq = omega (arith, at) in
    let mine : record { cpu = who.cpu; seq = n } ≡ who = ap (λ (m : ℕ). record { cpu = who.cpu; seq = m }) same in
    let by : Who = record { cpu = who.cpu; seq = n } in
    filter-append (is_noted who) (row_notes by row) (notes_from who.cpu (n + 1) rows)
    ∙ ap (λ (l : List Note). filter (is_noted who) (row_notes by row) ++ l) (others-none who who.cpu (n + 1) rows (λ m past. and_right (who.cpu.0 == who.cpu.0) (who.seq == m) (ne_eqb who.seq m (λ is. let no_ : who.seq ≡ m = is in omega (arith, no_, past, at)))))
    ∙ append-nil (filter (is_noted who) (row_notes by row))
    ∙ ap (λ (w : Who). filter (is_noted who) (row_notes w row)) mine
    ∙ filter-all (is_noted who) (row_notes who row) (λ i x there. ap (is_same_command who) (noted-by who row i x there) ∙ and_from (who.cpu.0 == who.cpu.0) (who.seq == who.seq) (eq-eqb who.cpu.0 who.cpu.0 refl) (eq-eqb who.seq who.seq refl))
notes-by who n (row ∷ rows) (suc k) at =
    let by : Who = record { cpu = who.cpu; seq = n } in
    filter-append (is_noted who) (row_notes by row) (notes_from who.cpu (n + 1) rows)
    ∙ ap (λ (l : List Note). l ++ filter (is_noted who) (notes_from who.cpu (n + 1) rows))
    (filter-none (is_noted who) (row_notes by row) (λ i x there. ap (is_same_command who) (noted-by by row i x there) ∙ and_right (who.cpu.0 == who.cpu.0) (who.seq == n) (ne_eqb who.seq n (λ is. let no_ : who.seq ≡ n = is in omega (arith, no_, at)))))
    ∙ notes-by who (n + 1) rows k (omega (arith, at))

-- ---- of all processors

abbrev pub all_notes : List (List Note) → List Note
all_notes notes = flat_map (λ (own : List Note). own) notes

-- another processor noted nothing of the command
past-none : (who : Who) (n : ℕ) (rows : List (List Row)) → who.cpu.0 < n → filter (is_noted who) (all_notes (notes_of n rows)) ≡ []
past-none who n [] less = refl
past-none who n (own ∷ rows) less =
    filter-append (is_noted who) (notes_from (record { 0 = n }) 0 own) (all_notes (notes_of (n + 1) rows))
    ∙ ap (λ (l : List Note). l ++ filter (is_noted who) (all_notes (notes_of (n + 1) rows)))
    (others-none who (record { 0 = n }) 0 own (λ m past. and_left (who.cpu.0 == n) (who.seq == m) (ne_eqb who.cpu.0 n (λ is. let no_ : who.cpu.0 ≡ n = is in omega (arith, no_, less)))))
    ∙ past-none who (n + 1) rows (omega (arith, less))

all-by : (who : Who) (n : ℕ) (rows : List (List Row)) (k : ℕ) → who.cpu.0 ≡ n + k → filter (is_noted who) (all_notes (notes_of n rows)) ≡ notes_at who (option_and_then (λ (own : List Row). slice_get own who.seq) (slice_get rows k))
all-by who n [] k at = refl
all-by who n (own ∷ rows) zero at =
    let same : n ≡ who.cpu.0 = omega (arith, at) in
    filter-append (is_noted who) (notes_from (record { 0 = n }) 0 own) (all_notes (notes_of (n + 1) rows))
    ∙ ap (λ (l : List Note). filter (is_noted who) (notes_from (record { 0 = n }) 0 own) ++ l) (past-none who (n + 1) rows (omega (arith, at)))
    ∙ append-nil (filter (is_noted who) (notes_from (record { 0 = n }) 0 own))
    ∙ ap (λ (m : ℕ). filter (is_noted who) (notes_from (record { 0 = m }) 0 own)) same
    ∙ notes-by who 0 own who.seq (omega arith)
all-by who n (own ∷ rows) (suc k) at =
    filter-append (is_noted who) (notes_from (record { 0 = n }) 0 own) (all_notes (notes_of (n + 1) rows))
    ∙ ap (λ (l : List Note). l ++ filter (is_noted who) (all_notes (notes_of (n + 1) rows)))
    (others-none who (record { 0 = n }) 0 own (λ m past. and_left (who.cpu.0 == n) (who.seq == m) (ne_eqb who.cpu.0 n (λ is. let no_ : who.cpu.0 ≡ n = is in omega (arith, no_, at)))))
    ∙ all-by who (n + 1) rows k (omega (arith, at))

pub notes-of-command : (who : Who) (rows : List (List Row)) → filter (is_noted who) (all_notes (notes_of 0 rows)) ≡ notes_at who (row_at rows who)
notes-of-command who rows = all-by who 0 rows who.cpu.0 (omega arith)

-- each list of notes is of a processor's rows
pub notes-fit : (n : ℕ) (rows : List (List Row)) → length (notes_of n rows) ≡ length rows
notes-fit n [] = refl
notes-fit n (own ∷ rows) = ap suc (notes-fit (n + 1) rows)

pub notes-at : (n : ℕ) (rows : List (List Row)) (c : ℕ) (notes : List Note) → slice_get (notes_of n rows) c ≡ Some notes → (own : List Row) × (slice_get rows c ≡ Some own) × (notes ≡ notes_from (record { 0 = n + c }) 0 own)
notes-at n [] c notes there = absurd (none-some notes there)
notes-at n (own ∷ rows) zero notes there =
    let at : n ≡ n + 0 = omega arith in
    (own, refl, sym (same_Some (notes_from (record { 0 = n }) 0 own) notes there) ∙ ap (λ (m : ℕ). notes_from (record { 0 = m }) 0 own) at)
notes-at n (own ∷ rows) (suc c) notes there =
    let by = notes-at (n + 1) rows c notes there in
    let at : (n + 1) + c ≡ n + suc c = omega arith in
    (by.0, by.1, by.2 ∙ ap (λ (m : ℕ). notes_from (record { 0 = m }) 0 by.0) at)

-- ---- in a frame's record

pub lines-append : (frame : Frame) (a b : List Note) → lines_of frame (a ++ b) ≡ lines_of frame a ++ lines_of frame b
lines-append frame a b = ap (map (λ (n : Note). n.1)) (filter-append (λ (n : Note). n.0.0 == frame.0) a b) ∙ map-append (λ (n : Note). n.1) (filter (λ (n : Note). n.0.0 == frame.0) a) (filter (λ (n : Note). n.0.0 == frame.0) b)

pub record-flat : (frame : Frame) (notes : List (List Note)) → record_of frame notes ≡ lines_of frame (all_notes notes)
record-flat frame [] = refl
record-flat frame (own ∷ notes) = ap (λ (l : List MarkLine). lines_of frame own ++ l) (record-flat frame notes) ∙ sym (lines-append frame own (all_notes notes))

both-tests : {B : Type 0} (y : B) (one two : List B) (a b c : Bool) → one ≡ two → cond a (cond (b && c) (y ∷ one) one) one ≡ cond b (cond a (cond c (y ∷ two) two) two) two
both-tests {B} y one two true true true same = ap (λ (l : List B). y ∷ l) same
both-tests y one two true true false same = same
both-tests y one two true false c same = same
both-tests y one two false true c same = same
both-tests y one two false false c same = same

pub through-map : {A B : Type 0} (f : A → B) (h : B → Bool) (x : A) (l : List A) (a : Bool) → filter h (map f (cond a (x ∷ l) l)) ≡ cond a (cond (h (f x)) (f x ∷ filter h (map f l)) (filter h (map f l))) (filter h (map f l))
through-map f h x l true = refl
through-map f h x l false = refl

through-filter : {A B : Type 0} (f : A → B) (p : A → Bool) (h : B → Bool) (x : A) (l : List A) (b : Bool) → filter h (map f (filter p (cond b (x ∷ l) l))) ≡ cond b (filter h (map f (cond (p x) (x ∷ filter p l) (filter p l)))) (filter h (map f (filter p l)))
through-filter f p h x l true = refl
through-filter f p h x l false = refl

-- a test of lines that has two parts, of which one is of notes
pick : {A B : Type 0} (f : A → B) (p q : A → Bool) (g h : B → Bool) → ((x : A) → g (f x) ≡ (q x && h (f x))) → (l : List A) → filter g (map f (filter p l)) ≡ filter h (map f (filter p (filter q l)))
pick f p q g h both [] = refl
pick {A} {B} f p q g h both (x ∷ xs) =
    let one : List B = filter g (map f (filter p xs)) in
    let two : List B = filter h (map f (filter p (filter q xs))) in
    through-map f g x (filter p xs) (p x)
    ∙ ap (λ (b : Bool). cond (p x) (cond b (f x ∷ one) one) one) (both x)
    ∙ both-tests (f x) one two (p x) (q x) (h (f x)) (pick f p q g h both xs)
    ∙ sym (through-filter f p h x (filter q xs) (q x) ∙ ap (λ (l : List B). cond (q x) l two) (through-map f h x (filter p (filter q xs)) (p x)))

-- the lines of a command that its events caused are among those of its row
pub hardware-of : (frame : Frame) (who : Who) (rows : List (List Row)) → hardware_marks who (record_of frame (notes_of 0 rows)) ≡ filter is_by_hardware (lines_of frame (notes_at who (row_at rows who)))
hardware-of frame who rows =
    ap (hardware_marks who) (record-flat frame (notes_of 0 rows))
    ∙ pick (λ (n : Note). n.1) (λ (n : Note). n.0.0 == frame.0) (is_noted who) (λ (m : MarkLine). is_same_command who (who_in m) && is_by_hardware m) is_by_hardware (λ n. refl) (all_notes (notes_of 0 rows))
    ∙ ap (λ (l : List Note). filter is_by_hardware (lines_of frame l)) (notes-of-command who rows)
