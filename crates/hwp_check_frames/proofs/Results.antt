-- The results that the event lines of a command say for a frame, and the marks that its events caused.
use Rattle.std.proofs.Common.{◌≡◌, ◌⊎◌, inl, inr, ℕ, zero, suc, ◌+◌, ◌<◌, ◌≤◌, ◌==◌, ◌&&◌, ◌||◌, Bool, true, false, cond, List, [], ◌∷◌, Option, Some, None, drop, filter, is_some, length, slice_get, take, true≢false, refl, sym, ap, ◌∙◌, subst, arith}
use Rattle.std.specs.List.{cons_option}
use Rattle.std.proofs.Math.Nat.{add-zero}
use Rattle.std.proofs.lemmas.Bool.{cases_Bool, eqb-true, ltb-false, ltb-true}
use Rattle.std.proofs.lemmas.List.{drop_all}
use Rattle.std.proofs.lemmas.Option.{none-some, same_Some}
use Rattle.hwp_check_rules.specs.hwp_geom.declared.Frame.{Frame}
use Rattle.hwp_check_rules.specs.hwp_geom.declared.Who.{Who}
use Rattle.hwp_check_rules.specs.hwp_banks.Addresses.{frame_at}
use Rattle.hwp_check_rules.specs.hwp_page.declared.Outcome.{Outcome}
use Rattle.hwp_check_rules.specs.hwp_page.declared.Situation.{Situation}
use Rattle.hwp_check_rules.specs.hwp_report_text.declared.Acted.{Acted}
use Rattle.hwp_check_rules.specs.hwp_report_text.declared.Acted.TheVariants as acts
use Rattle.hwp_check_rules.specs.hwp_report_text.declared.CpuLine.{CpuLine}
use Rattle.hwp_check_rules.specs.hwp_report_text.declared.CpuLine.TheVariants as lines
use Rattle.hwp_check_rules.specs.hwp_report_text.declared.EventLine.{EventLine}
use Rattle.hwp_check_rules.specs.hwp_report_text.declared.How.{How}
use Rattle.hwp_check_rules.specs.hwp_report_text.declared.How.TheVariants as hows
use Rattle.hwp_check_rules.specs.hwp_report_text.declared.MarkLine.{MarkLine}
use Rattle.hwp_check_rules.specs.hwp_report_text.declared.MarkLine.TheVariants as marks
use Rattle.hwp_check_rules.specs.hwp_report_text.declared.Report.{Report}
use Rattle.hwp_check_rules.specs.hwp_law.Lines.{events_among, is_same_command, rows_of}
use Rattle.hwp_check_rules.specs.hwp_law.Outcomes.{outcome_act}
use Rattle.hwp_check_rules.specs.hwp_law.Records.{hardware_act, hardware_marks, is_by_hardware, line_results, mark_results, result_lines, result_of, who_in}
use Rattle.hwp_check_frames.specs.MarkScans.{HasEvent, IsNextResult, is_beyond, result_in, results_in, row_beyond, rows_beyond}
use Rattle.hwp_check_frames.proofs.FramePlaces.{and-right, or-left, or-right}

-- what the law says of a command's event lines for a frame, line by line
abbrev lines-for : ℕ → ℕ → List CpuLine → List EventLine
lines-for seq frame rows = filter (λ (l : EventLine). (frame == frame_at l.addr) && is_some (result_of l.acted)) (events_among rows seq)

abbrev BothSay : ℕ → ℕ → List CpuLine → Type 0
BothSay seq frame rows = (line_results (lines-for seq frame rows) ≡ results_in seq frame rows) × (length (lines-for seq frame rows) ≡ length (results_in seq frame rows))

module _ (seq frame : ℕ) (event : EventLine) (rows : List CpuLine) (rest : BothSay seq frame rows) where
  abbrev now : Acted → EventLine
  now a = record event { acted = a }

  says : (a : Acted)
      → (line_results (cond (is_some (result_of a)) (now a ∷ lines-for seq frame rows) (lines-for seq frame rows)) ≡ cons_option (result_of a) (results_in seq frame rows))
      × (length (cond (is_some (result_of a)) (now a ∷ lines-for seq frame rows) (lines-for seq frame rows)) ≡ length (cons_option (result_of a) (results_in seq frame rows)))
  says acts.Recovered = (ap (λ (xs : List Acted). acts.Recovered ∷ xs) rest.0, ap suc rest.1)
  says acts.Delayed = (ap (λ (xs : List Acted). acts.Delayed ∷ xs) rest.0, ap suc rest.1)
  says acts.Ignored = (ap (λ (xs : List Acted). acts.Ignored ∷ xs) rest.0, ap suc rest.1)
  says _ = rest

  says-here : (acted : Acted) (h : Bool)
      → (line_results (cond (h && is_some (result_of acted)) (now acted ∷ lines-for seq frame rows) (lines-for seq frame rows)) ≡ cons_option (cond h (result_of acted) None) (results_in seq frame rows))
      × (length (cond (h && is_some (result_of acted)) (now acted ∷ lines-for seq frame rows) (lines-for seq frame rows)) ≡ length (cons_option (cond h (result_of acted) None) (results_in seq frame rows)))
  says-here acted true = says acted
  says-here acted false = rest

  says-own : (acted : Acted) (o : Bool)
      → (line_results (filter (λ (l : EventLine). (frame == frame_at l.addr) && is_some (result_of l.acted)) (cond o (now acted ∷ events_among rows seq) (events_among rows seq))) ≡ cons_option (cond (o && (frame == frame_at event.addr)) (result_of acted) None) (results_in seq frame rows))
      × (length (filter (λ (l : EventLine). (frame == frame_at l.addr) && is_some (result_of l.acted)) (cond o (now acted ∷ events_among rows seq) (events_among rows seq))) ≡ length (cons_option (cond (o && (frame == frame_at event.addr)) (result_of acted) None) (results_in seq frame rows)))
  says-own acted true = says-here acted (frame == frame_at event.addr)
  says-own acted false = rest

both-say : (seq frame : ℕ) (rows : List CpuLine) → BothSay seq frame rows
both-say seq frame [] = (refl, refl)
both-say seq frame (lines.Answer s answer ∷ rows) = both-say seq frame rows
both-say seq frame (lines.Offlined offlined ∷ rows) = both-say seq frame rows
both-say seq frame (lines.Guest guest ∷ rows) = both-say seq frame rows
both-say seq frame (lines.Event event ∷ rows) = says-own seq frame event rows (both-say seq frame rows) event.acted (seq == event.seq)

pub results-are : (report : Report) (who : Who) (frame : ℕ) → line_results (result_lines report who frame) ≡ results_in who.seq frame (rows_of report who)
results-are report who frame = (both-say who.seq frame (rows_of report who)).0

pub results-many : (report : Report) (who : Who) (frame : ℕ) → length (result_lines report who frame) ≡ length (results_in who.seq frame (rows_of report who))
results-many report who frame = (both-say who.seq frame (rows_of report who)).1

-- the marks of a command that its events caused
abbrev pub own : Who → MarkLine → Bool
own who m = is_same_command who (who_in m) && is_by_hardware m

filter-in : {X : Type 0} (p : X → Bool) (x : X) (xs : List X) → p x ≡ true → filter p (x ∷ xs) ≡ x ∷ filter p xs
filter-in p x xs is = ap (λ (b : Bool). cond b (x ∷ filter p xs) (filter p xs)) is

filter-out : {X : Type 0} (p : X → Bool) (x : X) (xs : List X) → p x ≡ false → filter p (x ∷ xs) ≡ filter p xs
filter-out p x xs is = ap (λ (b : Bool). cond b (x ∷ filter p xs) (filter p xs)) is

act-of : (m : MarkLine) → is_by_hardware m ≡ true → (a : Acted) × (hardware_act m ≡ Some a)
act-of (marks.Poisoned cycle who (hows.Failure true situation outcome)) is = (outcome_act outcome, refl)
act-of (marks.Poisoned cycle who (hows.Failure false situation outcome)) is = absurd (true≢false (sym is))
act-of (marks.Poisoned cycle who hows.Moved) is = absurd (true≢false (sym is))
act-of (marks.Poisoned cycle who hows.TakenFree) is = absurd (true≢false (sym is))
act-of (marks.Unpoisoned cycle who) is = absurd (true≢false (sym is))

acts-in : (who : Who) (m : MarkLine) (ms : List MarkLine) (a : Acted) → own who m ≡ true → hardware_act m ≡ Some a → mark_results (hardware_marks who (m ∷ ms)) ≡ a ∷ mark_results (hardware_marks who ms)
acts-in who m ms a is act = ap mark_results (filter-in (own who) m ms is) ∙ ap (λ (o : Option Acted). cons_option o (mark_results (hardware_marks who ms))) act

acts-out : (who : Who) (m : MarkLine) (ms : List MarkLine) → own who m ≡ false → mark_results (hardware_marks who (m ∷ ms)) ≡ mark_results (hardware_marks who ms)
acts-out who m ms is = ap mark_results (filter-out (own who) m ms is)

many-in : (who : Who) (m : MarkLine) (ms : List MarkLine) → own who m ≡ true → length (hardware_marks who (m ∷ ms)) ≡ suc (length (hardware_marks who ms))
many-in who m ms is = ap (λ (xs : List MarkLine). length xs) (filter-in (own who) m ms is)

many-out : (who : Who) (m : MarkLine) (ms : List MarkLine) → own who m ≡ false → length (hardware_marks who (m ∷ ms)) ≡ length (hardware_marks who ms)
many-out who m ms is = ap (λ (xs : List MarkLine). length xs) (filter-out (own who) m ms is)

-- as many results as marks
pub acts-many : (who : Who) (ms : List MarkLine) → length (mark_results (hardware_marks who ms)) ≡ length (hardware_marks who ms)
acts-many who [] = refl
acts-many who (m ∷ ms) = elim (cases_Bool (own who m)) [
  | inl is ↦
      let act = act-of m (and-right _ _ is) in
      ap (λ (xs : List Acted). length xs) (acts-in who m ms act.0 is act.1) ∙ ap suc (acts-many who ms) ∙ sym (many-in who m ms is)
  | inr is ↦ ap (λ (xs : List Acted). length xs) (acts-out who m ms is) ∙ acts-many who ms ∙ sym (many-out who m ms is)
]

-- the result of a mark is the one with the number of such marks before it
pub act-at : (who : Who) (ms : List MarkLine) (p : ℕ) (m : MarkLine) → slice_get ms p ≡ Some m → own who m ≡ true
    → slice_get (mark_results (hardware_marks who ms)) (length (hardware_marks who (take p ms))) ≡ hardware_act m
act-at who [] p m there is = absurd (none-some m there)
act-at who (x ∷ ms) zero m there is =
    let same : x ≡ m = same_Some _ _ there in
    let mine : own who x ≡ true = subst (λ (y : MarkLine). own who y ≡ true) (sym same) is in
    let act = act-of x (and-right _ _ mine) in
    ap (λ (xs : List Acted). slice_get xs 0) (acts-in who x ms act.0 mine act.1) ∙ sym act.1 ∙ ap hardware_act same
act-at who (x ∷ ms) (suc p) m there is = elim (cases_Bool (own who x)) [
  | inl mine ↦
      let act = act-of x (and-right _ _ mine) in
      ap (λ (xs : List Acted). slice_get xs (length (hardware_marks who (x ∷ take p ms)))) (acts-in who x ms act.0 mine act.1)
      ∙ ap (slice_get (act.0 ∷ mark_results (hardware_marks who ms))) (many-in who x (take p ms) mine)
      ∙ act-at who ms p m there is
  | inr other ↦
      ap (λ (xs : List Acted). slice_get xs (length (hardware_marks who (x ∷ take p ms)))) (acts-out who x ms other)
      ∙ ap (slice_get (mark_results (hardware_marks who ms))) (many-out who x (take p ms) other)
      ∙ act-at who ms p m there is
]

drop-here : {X : Type 0} (xs : List X) (k : ℕ) (x : X) → slice_get xs k ≡ Some x → drop k xs ≡ x ∷ drop (suc k) xs
drop-here [] k x there = absurd (none-some x there)
drop-here (y ∷ xs) zero x there = ap (λ (z : _). z ∷ xs) (same_Some _ _ there)
drop-here (y ∷ xs) (suc k) x there = drop-here xs k x there

-- results that are those of the marks, each at the number of such marks before, and no more, are all of theirs
pub agree : (who : Who) (said : List Acted) (ms : List MarkLine) (k : ℕ)
    → ((p : ℕ) (m : MarkLine) → slice_get ms p ≡ Some m → own who m ≡ true → slice_get said (k + length (hardware_marks who (take p ms))) ≡ hardware_act m)
    → length said ≤ k + length (hardware_marks who ms) → drop k said ≡ mark_results (hardware_marks who ms)
agree who said [] k each few = drop_all k said (omega (arith, few))
agree who said (m ∷ ms) k each few = elim (cases_Bool (own who m)) [
  | inl is ↦
      let act = act-of m (and-right _ _ is) in
      let here : slice_get said k ≡ Some act.0 = subst (λ n. slice_get said n ≡ Some act.0) (add-zero k) (each 0 m refl is ∙ act.1) in
      let more : length (hardware_marks who (m ∷ ms)) ≡ suc (length (hardware_marks who ms)) = many-in who m ms is in
      let rest : drop (suc k) said ≡ mark_results (hardware_marks who ms) = agree who said ms (suc k)
      (λ p n there mine.
      let next : length (hardware_marks who (m ∷ take p ms)) ≡ suc (length (hardware_marks who (take p ms))) = many-in who m (take p ms) is in
      let place : k + length (hardware_marks who (m ∷ take p ms)) ≡ suc k + length (hardware_marks who (take p ms)) = omega (arith, next) in
      subst (λ i. slice_get said i ≡ hardware_act n) place (each (suc p) n there mine))
      (omega (arith, few, more)) in
      drop-here said k act.0 here ∙ ap (λ (xs : List Acted). act.0 ∷ xs) rest ∙ sym (acts-in who m ms act.0 is act.1)
  | inr is ↦
      let same : length (hardware_marks who (m ∷ ms)) ≡ length (hardware_marks who ms) = many-out who m ms is in
      agree who said ms k
      (λ p n there mine.
      let place : k + length (hardware_marks who (m ∷ take p ms)) ≡ k + length (hardware_marks who (take p ms)) = ap (λ i. k + i) (many-out who m (take p ms) is) in
      subst (λ i. slice_get said i ≡ hardware_act n) place (each (suc p) n there mine))
      (omega (arith, few, same))
      ∙ sym (acts-out who m ms is)
]

-- where no line of a processor is of a command with more results than marks, no command of it is such
row-says : (list : List MarkLine) (all : List CpuLine) (frame cpu seq : ℕ) (r : CpuLine) → row_beyond list all frame cpu r ≡ false
    → (result_in seq frame r ≡ None) ⊎ (is_beyond list all frame cpu seq ≡ false)
row-says list all frame cpu seq (lines.Answer s answer) none = inl refl
row-says list all frame cpu seq (lines.Offlined offlined) none = inl refl
row-says list all frame cpu seq (lines.Guest guest) none = inl refl
row-says list all frame cpu seq (lines.Event event) none = elim (cases_Bool (seq == event.seq)) [
  | inr other ↦ inl (ap (λ (o : Bool). cond (o && (frame == frame_at event.addr)) (result_of event.acted) None) other)
  | inl mine ↦
      let same : event.seq ≡ seq = sym (eqb-true seq event.seq mine) in
      by (result_in seq frame (lines.Event event)) refl (subst (λ n. (is_some (result_in n frame (lines.Event event)) && is_beyond list all frame cpu n) ≡ false) same none)
]
  where
    by : (o : Option Acted) → result_in seq frame (lines.Event event) ≡ o → (is_some (result_in seq frame (lines.Event event)) && is_beyond list all frame cpu seq) ≡ false
        → (result_in seq frame (lines.Event event) ≡ None) ⊎ (is_beyond list all frame cpu seq ≡ false)
    by None is held = inl is
    by (Some a) is held = inr (sym (ap (λ (o : Option Acted). is_some o && is_beyond list all frame cpu seq) is) ∙ held)

none-says : (list : List MarkLine) (all : List CpuLine) (frame cpu seq : ℕ) (rows : List CpuLine) → rows_beyond list all frame cpu rows ≡ false
    → (results_in seq frame rows ≡ []) ⊎ (is_beyond list all frame cpu seq ≡ false)
none-says list all frame cpu seq [] none = inl refl
none-says list all frame cpu seq (r ∷ rs) none = elim (row-says list all frame cpu seq r (or-left _ _ none)) [
  | inr not ↦ inr not
  | inl silent ↦ elim (none-says list all frame cpu seq rs (or-right _ _ none)) [
    | inr not ↦ inr not
    | inl rest ↦ inl (ap (λ (o : Option Acted). cons_option o (results_in seq frame rs)) silent ∙ rest)
  ]
]

pub none-beyond : (list : List MarkLine) (rows : List CpuLine) (frame cpu seq : ℕ) → rows_beyond list rows frame cpu rows ≡ false
    → length (results_in seq frame rows) ≤ length (hardware_marks (record { cpu = record { 0 = cpu }; seq = seq }) list)
none-beyond list rows frame cpu seq none = elim (none-says list rows frame cpu seq rows none) [
  | inl silent ↦ let zero_is : length (results_in seq frame rows) ≡ 0 = ap (λ (xs : List Acted). length xs) silent in omega (arith, zero_is)
  | inr not ↦ ltb-false _ _ not
]

-- where some line is, the command is
row-beyond : (list : List MarkLine) (all : List CpuLine) (frame cpu : ℕ) (r : CpuLine) → row_beyond list all frame cpu r ≡ true → (seq : ℕ) × (is_beyond list all frame cpu seq ≡ true)
row-beyond list all frame cpu (lines.Answer s answer) is = absurd (true≢false (sym is))
row-beyond list all frame cpu (lines.Offlined offlined) is = absurd (true≢false (sym is))
row-beyond list all frame cpu (lines.Guest guest) is = absurd (true≢false (sym is))
row-beyond list all frame cpu (lines.Event event) is = (event.seq, and-right _ _ is)

some-says : (list : List MarkLine) (all : List CpuLine) (frame cpu : ℕ) (rows : List CpuLine) → rows_beyond list all frame cpu rows ≡ true → (seq : ℕ) × (is_beyond list all frame cpu seq ≡ true)
some-says list all frame cpu [] is = absurd (true≢false (sym is))
some-says list all frame cpu (r ∷ rs) is = elim (cases_Bool (row_beyond list all frame cpu r)) [
  | inl here ↦ row-beyond list all frame cpu r here
  | inr not ↦ some-says list all frame cpu rs (sym (ap (λ (b : Bool). b || rows_beyond list all frame cpu rs) not) ∙ is)
]

pub some-beyond : (list : List MarkLine) (rows : List CpuLine) (frame cpu : ℕ) → rows_beyond list rows frame cpu rows ≡ true
    → (seq : ℕ) × (length (hardware_marks (record { cpu = record { 0 = cpu }; seq = seq }) list) < length (results_in seq frame rows))
some-beyond list rows frame cpu is = let found = some-says list rows frame cpu rows is in (found.0, ltb-true _ _ found.1)

-- what is true of the next result is true of the mark that it is beside
pub next-is : (report : Report) (frame : Frame) (before : List MarkLine) (mark : MarkLine) (cycle : ℕ) (who : Who) (how : How) (hardware : Bool) (situation : Situation) (outcome : Outcome) (R : Type 0)
    → mark ≡ marks.Poisoned cycle who how → how ≡ hows.Failure hardware situation outcome → hardware ≡ true
    → (R → IsNextResult report frame before who outcome) × (IsNextResult report frame before who outcome → R) → (R → HasEvent report frame before mark) × (HasEvent report frame before mark → R)
next-is report frame before mark cycle who how hardware situation outcome R mark_is how_is by_hardware both =
    let is : mark ≡ marks.Poisoned cycle who (hows.Failure true situation outcome) =
    mark_is ∙ ap (λ (h : How). marks.Poisoned cycle who h) (how_is ∙ ap (λ (b : Bool). hows.Failure b situation outcome) by_hardware) in
    (λ r. subst (HasEvent report frame before) (sym is) (both.0 r), λ has. both.1 (subst (HasEvent report frame before) is has))
