-- The lines and the notes of rows, one row after another.
use Rattle.std.proofs.Common.{◌≡◌, ℕ, zero, suc, ◌+◌, ◌<◌, Bool, true, false, cond, List, [], ◌∷◌, ◌++◌, Option, Some, None, find, filter_map, get_or, length, slice_get, take, append-nil, append_assoc, sym, ap, ◌∙◌, subst, arith, inl, inr}
use Rattle.std.specs.List.{cons_option}
use Rattle.std.proofs.lemmas.Bool.{cases_lt}
use Rattle.std.proofs.lemmas.List.{length-take-le, take_more}
use Rattle.std.proofs.lemmas.Option.{get_or_from_slice_get, none-some, slice_get-get_or}
use Rattle.hwp_plain.specs.hwp_geom.declared.Cpu.{Cpu}
use Rattle.hwp_plain.specs.hwp_words.Stops.{stopper_of}
use Rattle.hwp_plain.specs.hwp_core_rule.Lists.{EachMember}
use Rattle.hwp_cpu_row.specs.hwp_script_words.declared.Command.{Command}
use Rattle.hwp_cpu_row.specs.hwp_report_text.declared.Answer.TheVariants as answers
use Rattle.hwp_cpu_row.specs.hwp_report_text.declared.CpuLine.{CpuLine}
use Rattle.hwp_cpu_row.specs.hwp_report_text.declared.StopCause.{StopCause}
use Rattle.hwp_cpu_row.specs.declared.Row.{Row}
use Rattle.hwp_cpu_row.specs.Acts.{acts}
use Rattle.hwp_cpu_row.specs.hwp_claim.declared.EventOutcome.{EventOutcome}
use Rattle.hwp_law_served.specs.Rows.{Note, act_note, lines_from, notes_from, own_note, row_lines, row_notes, at_number}
use Rattle.hwp_law_served.specs.Runs.{notes_of}
use Rattle.hwp_law_served.proofs.Rows.{notes-more}
use Rattle.hwp_top_report.specs.Closing.{AreTellable, HasStopper, IsFirstStop, IsNamed, IsStopBy, cause_in, command_in}

-- what is so of each member is so of the one at a place
pub each-at : {A : Type 0} (P : A → Type 0) (l : List A) (i : ℕ) (d : A) → EachMember P l → i < length l → P (get_or l i d)
each-at P l i d each within = each i (get_or l i d) (slice_get-get_or l i d within)

-- ---- the first event of a kind

pub found-here : (test : EventOutcome → Bool) (told : List EventOutcome) (i : ℕ) (d : EventOutcome) → i < length told → find test (take i told) ≡ None → test (get_or told i d) ≡ true → find test told ≡ Some (get_or told i d)
found-here test [] i d within none is = absurd (omega arith)
found-here test (t ∷ ts) zero d within none is = ap (λ (b : Bool). cond b (Some t) (find test ts)) is
found-here test (t ∷ ts) (suc i) d within none is = which (test t) none (λ rest. found-here test ts i d (omega arith) rest is)
  where
    which : (b : Bool) → cond b (Some t) (find test (take i ts)) ≡ None → (find test (take i ts) ≡ None → find test ts ≡ Some (get_or ts i d)) → cond b (Some t) (find test ts) ≡ Some (get_or ts i d)
    which true front rest = absurd (none-some t (sym front))
    which false front rest = rest front

pub found-not : (test : EventOutcome → Bool) (told : List EventOutcome) (i : ℕ) (d : EventOutcome) → i < length told → find test (take i told) ≡ None → test (get_or told i d) ≡ false → find test (take (i + 1) told) ≡ None
found-not test told i d within none not = ap (find test) (take_more told i d within) ∙ onto (take i told) (get_or told i d) none not
  where
    onto : (l : List EventOutcome) (t : EventOutcome) → find test l ≡ None → test t ≡ false → find test (l ++ t ∷ []) ≡ None
    onto [] t front fails = ap (λ (b : Bool). cond b (Some t) None) fails
    onto (x ∷ xs) t front fails = which (test x) front (λ rest. onto xs t rest fails)
      where
        which : (b : Bool) → cond b (Some x) (find test xs) ≡ None → (find test xs ≡ None → find test (xs ++ t ∷ []) ≡ None) → cond b (Some x) (find test (xs ++ t ∷ [])) ≡ None
        which true so rest = absurd (none-some x (sym so))
        which false so rest = rest so

-- ---- lines

lines-more : (n : ℕ) (rows : List Row) (m : ℕ) (row : Row) → m ≡ n + length rows → lines_from n (rows ++ row ∷ []) ≡ lines_from n rows ++ row_lines m row
lines-more n [] m row is = append-nil (row_lines n row) ∙ ap (λ (k : ℕ). row_lines k row) (let same : n ≡ m = omega arith in same)
lines-more n (r ∷ rs) m row is = ap (λ (l : List CpuLine). row_lines n r ++ l) (lines-more (n + 1) rs m row (omega arith)) ∙ sym (append_assoc (row_lines n r) (lines_from (n + 1) rs) (row_lines m row))

-- of one row more
pub lines-next : (rows : List Row) (i : ℕ) (row : Row) (old new : List CpuLine) → i < length rows → row ≡ get_or rows i row → old ≡ lines_from 0 (take i rows) → new ≡ old ++ row_lines i row → new ≡ lines_from 0 (take (i + 1) rows)
lines-next rows i row old new within row_is was more =
    more ∙ ap (λ (l : List CpuLine). l ++ row_lines i row) was ∙ sym (ap (lines_from 0) (take_more rows i row within ∙ ap (λ (r : Row). take i rows ++ r ∷ []) (sym row_is)) ∙ lines-more 0 (take i rows) i row number)
  where
    number : i ≡ 0 + length (take i rows)
    number = let all : length (take i rows) ≡ i = length-take-le i rows (omega arith) in omega (arith, all)

-- ---- notes

-- of one row more
pub notes-next : (cpu : Cpu) (rows : List Row) (i : ℕ) (row : Row) (old mid new : List Note) (own : Option Note) → i < length rows → row ≡ get_or rows i row → old ≡ notes_from cpu 0 (take i rows) → mid ≡ old ++ filter_map (act_note (at_number cpu i)) (acts row.told row.offlined)
    → own ≡ own_note (at_number cpu i) row.own → new ≡ mid ++ cons_option own [] → new ≡ notes_from cpu 0 (take (i + 1) rows)
notes-next cpu rows i row old mid new own within row_is was events own_is more =
    more ∙ ap (λ (l : List Note). l ++ cons_option own []) events ∙ append_assoc old (filter_map (act_note (at_number cpu i)) (acts row.told row.offlined)) (cons_option own [])
    ∙ ap (λ (o : Option Note). old ++ (filter_map (act_note (at_number cpu i)) (acts row.told row.offlined) ++ cons_option o [])) own_is
    ∙ ap (λ (l : List Note). l ++ row_notes (at_number cpu i) row) was
    ∙ sym (ap (notes_from cpu 0) (take_more rows i row within ∙ ap (λ (r : Row). take i rows ++ r ∷ []) (sym row_is)) ∙ notes-more cpu 0 (take i rows) i row number)
  where
    number : i ≡ 0 + length (take i rows)
    number = let all : length (take i rows) ≡ i = length-take-le i rows (omega arith) in omega (arith, all)

-- no member before the next is answered `stopped`
pub not-stopped : (rows : List Row) (n : ℕ) (row : Row) → row ≡ get_or rows n row → (row.answer ≡ answers.Stopped → ⊥) → ((i : ℕ) (r : Row) → i < n → slice_get rows i ≡ Some r → r.answer ≡ answers.Stopped → ⊥)
    → (i : ℕ) (r : Row) → i < n + 1 → slice_get rows i ≡ Some r → r.answer ≡ answers.Stopped → ⊥
not-stopped rows n row row_is going before i r less there stopped = elim (cases_lt i n) [
  | inl early ↦ before i r early there stopped
  | inr past ↦ going (ap (λ (x : Row). x.answer) (row_is ∙ ap (λ (k : ℕ). get_or rows k row) (let same : n ≡ i = omega arith in same) ∙ get_or_from_slice_get rows i r row there) ∙ stopped)
]

-- ---- the stop

-- the rows of the processor that stopped the machine
stop-own : (word : ℕ) (rows : List (List Row)) (cpu : Cpu) (n : ℕ) (d own : List Row) → HasStopper word rows → stopper_of word ≡ cpu.0 + 1 → n ≡ cpu.0 → own ≡ get_or rows n d → slice_get rows cpu.0 ≡ Some own
stop-own word rows cpu n d own has stopper number own_is =
    let some = has (λ none. omega (arith, none, stopper)) in
    let named : stopper_of word ≡ some.0.cpu.0 + 1 = some.1 in
    let same : some.0.cpu.0 ≡ n = omega (arith, named, stopper, number) in
    let is : own ≡ some.2.own = own_is ∙ ap (λ (k : ℕ). get_or rows k d) (sym same) ∙ get_or_from_slice_get rows some.0.cpu.0 some.2.own d some.2.of_cpu in
    ap (slice_get rows) (sym number ∙ sym same) ∙ some.2.of_cpu ∙ ap (λ (o : List Row). Some o) (sym is)

-- the row of the command that did
stop-row : (own : List Row) (seq : ℕ) (d : Row) (first : IsFirstStop own seq) → get_or own seq d ≡ first.0
stop-row own seq d first = get_or_from_slice_get own seq first.0 d first.1.row_is

pub stop-named : (word : ℕ) (rows : List (List Row)) (cpu : Cpu) (n : ℕ) (d own : List Row) (seq : ℕ) (e : Row) (told : List EventOutcome) → HasStopper word rows → AreTellable rows → stopper_of word ≡ cpu.0 + 1 → n ≡ cpu.0 → own ≡ get_or rows n d
    → IsFirstStop own seq → told ≡ (get_or own seq e).told → EachMember IsNamed told
stop-named word rows cpu n d own seq e told has tellable stopper number own_is first told_is =
    subst (EachMember IsNamed) (sym (told_is ∙ ap (λ (r : Row). r.told) (stop-row own seq e first)))
    ((tellable cpu.0 own (stop-own word rows cpu n d own has stopper number own_is)).named seq first.0 first.1.row_is)

pub stop-told : (word : ℕ) (lists : List (List Command)) (rows : List (List Row)) (cpu : Cpu) (n : ℕ) (d own : List Row) (seq : ℕ) (e : Row) (told : List EventOutcome) (command : Option Command) (cause : StopCause) → HasStopper word rows → stopper_of word ≡ cpu.0 + 1
    → n ≡ cpu.0 → own ≡ get_or rows n d → IsFirstStop own seq → told ≡ (get_or own seq e).told → command ≡ command_in lists (record { cpu = cpu; seq = seq }) → cause ≡ cause_in command told
    → IsStopBy word lists rows (Some (record { who = record { cpu = cpu; seq = seq }; cause = cause }))
stop-told word lists rows cpu n d own seq e told command cause has stopper number own_is first told_is command_is cause_is = (
  stopper,
  (
    record { own = own; of_cpu = stop-own word rows cpu n d own has stopper number own_is; row = first.0; first = first.1 },
    cause_is ∙ ap (λ (o : Option Command). cause_in o told) command_is ∙ ap (cause_in (command_in lists (record { cpu = cpu; seq = seq }))) (told_is ∙ ap (λ (r : Row). r.told) (stop-row own seq e first)),
  ),
)

-- ---- the notes of processors

lists-more : (n : ℕ) (rows : List (List Row)) (m : ℕ) (own : List Row) → m ≡ n + length rows → notes_of n (rows ++ own ∷ []) ≡ notes_of n rows ++ notes_from (record { 0 = m }) 0 own ∷ []
lists-more n [] m own is = ap (λ (k : ℕ). notes_from (record { 0 = k }) 0 own ∷ []) (let same : n ≡ m = omega arith in same)
lists-more n (r ∷ rs) m own is = ap (λ (l : List (List Note)). notes_from (record { 0 = n }) 0 r ∷ l) (lists-more (n + 1) rs m own (omega arith))

-- of one processor more
pub lists-next : (rows : List (List Row)) (i : ℕ) (own : List Row) (old new : List (List Note)) (notes : List Note) → i < length rows → own ≡ get_or rows i own → old ≡ notes_of 0 (take i rows)
    → notes ≡ notes_from (record { 0 = i }) 0 own → new ≡ old ++ notes ∷ [] → new ≡ notes_of 0 (take (i + 1) rows)
lists-next rows i own old new notes within own_is was notes_are more =
    more ∙ ap (λ (l : List (List Note)). l ++ notes ∷ []) was ∙ ap (λ (x : List Note). notes_of 0 (take i rows) ++ x ∷ []) notes_are
    ∙ sym (ap (notes_of 0) (take_more rows i own within ∙ ap (λ (r : List Row). take i rows ++ r ∷ []) (sym own_is)) ∙ lists-more 0 (take i rows) i own number)
  where
    number : i ≡ 0 + length (take i rows)
    number = let many : length (take i rows) ≡ i = length-take-le i rows (omega (arith, within)) in omega (arith, many)
