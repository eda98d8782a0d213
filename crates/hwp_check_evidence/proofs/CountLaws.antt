-- The counts and the flags of commands are those of their event lines.
use Rattle.std.proofs.Common.{◌≡◌, inl, inr, ℕ, suc, ◌+◌, ◌<◌, ◌≤◌, ◌==◌, ◌||◌, cond, Bool, true, false, List, [], ◌∷◌, fold, get_or, set, replicate, length, refl, sym, ap, ◌∙◌, subst, arith}
use Rattle.std.specs.List.{list_any}
use Rattle.std.proofs.lemmas.Bool.{cases_eq, cases_lt, eq-eqb, eqb-true, false_from_ne_true}
use Rattle.std.proofs.lemmas.List.{get_or-set_same, get_or-set_other, get_or-replicate, get_or_past, length-replicate, length-set}
use Rattle.hwp_law.specs.hwp_report_text.declared.CpuLine.{CpuLine}
use Rattle.hwp_law.specs.hwp_report_text.declared.CpuLine.TheVariants as lines
use Rattle.hwp_law.specs.hwp_report_text.declared.EventLine.{EventLine}
use Rattle.hwp_law.specs.Notes.{ends_machine}
use Rattle.hwp_law.specs.hwp_report_text.Acts.{is_panic, is_stopping}
use Rattle.hwp_law.specs.Lines.{events_among}
use Rattle.hwp_check_evidence.specs.Counts.{AreCounts, AreFew, AreFlags, counted, flagged_by}

abbrev one_if : Bool → ℕ
one_if true = 1
one_if false = 0

pub count-many : (counts : List ℕ) (row : CpuLine) → length (counted counts row) ≡ length counts
count-many counts (lines.Event event) = length-set counts event.seq (get_or counts event.seq 0 + 1)
count-many counts (lines.Offlined offlined) = refl
count-many counts (lines.Guest guest) = refl
count-many counts (lines.Answer seq answer) = refl

flag-many : (flags : List Bool) (row : CpuLine) → length (flagged_by flags row) ≡ length flags
flag-many flags (lines.Event event) = which (is_stopping event.acted || is_panic event.acted)
  where
    which : (b : Bool) → length (cond b (set flags event.seq true) flags) ≡ length flags
    which true = length-set flags event.seq true
    which false = refl
flag-many flags (lines.Offlined offlined) = refl
flag-many flags (lines.Guest guest) = refl
flag-many flags (lines.Answer seq answer) = refl

-- one line more is one event more at most
pub few_more : (n : ℕ) (counts : List ℕ) (row : CpuLine) → AreFew n counts → AreFew (n + 1) (counted counts row)
few_more n counts (lines.Answer seq answer) few = λ k. let low : get_or counts k 0 ≤ n = few k in omega (arith, low)
few_more n counts (lines.Offlined offlined) few = λ k. let low : get_or counts k 0 ≤ n = few k in omega (arith, low)
few_more n counts (lines.Guest guest) few = λ k. let low : get_or counts k 0 ≤ n = few k in omega (arith, low)
few_more n counts (lines.Event event) few = λ k. elim (cases_eq k event.seq) [
  | inl here ↦ elim (cases_lt k (length counts)) [
    | inl inside ↦
        let got : get_or (set counts event.seq (get_or counts event.seq 0 + 1)) k 0 ≡ get_or counts k 0 + 1 =
        subst (λ (m : ℕ). get_or (set counts m (get_or counts m 0 + 1)) k 0 ≡ get_or counts k 0 + 1) here (get_or-set_same counts k (get_or counts k 0 + 1) 0 inside) in
        let low : get_or counts k 0 ≤ n = few k in
        omega (arith, got, low)
    | inr past ↦
        let many : length (set counts event.seq (get_or counts event.seq 0 + 1)) ≡ length counts = length-set counts event.seq (get_or counts event.seq 0 + 1) in
        let got : get_or (set counts event.seq (get_or counts event.seq 0 + 1)) k 0 ≡ 0 = get_or_past (set counts event.seq (get_or counts event.seq 0 + 1)) k 0 (omega (arith, many, past)) in
        omega (arith, got)
  ]
  | inr other ↦
      let got : get_or (set counts event.seq (get_or counts event.seq 0 + 1)) k 0 ≡ get_or counts k 0 = get_or-set_other counts event.seq k (get_or counts event.seq 0 + 1) 0 other in
      let low : get_or counts k 0 ≤ n = few k in
      omega (arith, got, low)
]

pub few_none : (n commands : ℕ) → AreFew n (replicate commands 0)
few_none n commands k = elim (cases_lt k commands) [
  | inl inside ↦ let got : get_or (replicate commands 0) k 0 ≡ 0 = get_or-replicate {A = ℕ} commands k 0 0 inside in omega (arith, got)
  | inr past ↦
      let many : length (replicate {A = ℕ} commands 0) ≡ commands = length-replicate {A = ℕ} commands 0 in
      let got : get_or (replicate {A = ℕ} commands 0) k 0 ≡ 0 = get_or_past (replicate {A = ℕ} commands 0) k 0 (omega (arith, many, past)) in
      omega (arith, got)
]

module _ (seq : ℕ) where
  other-is : (s : ℕ) → (seq ≡ s → ⊥) → (seq == s) ≡ false
  other-is s other = false_from_ne_true (seq == s) (λ is. other (eqb-true seq s is))

  counts-law : (rows : List CpuLine) (counts : List ℕ) → seq < length counts → get_or (fold counted counts rows) seq 0 ≡ get_or counts seq 0 + length (events_among rows seq)
  counts-law [] counts inside = omega arith
  counts-law (lines.Answer s answer ∷ rs) counts inside = counts-law rs counts inside
  counts-law (lines.Offlined offlined ∷ rs) counts inside = counts-law rs counts inside
  counts-law (lines.Guest guest ∷ rs) counts inside = counts-law rs counts inside
  counts-law (lines.Event event ∷ rs) counts inside =
      by (counts-law rs (set counts event.seq (get_or counts event.seq 0 + 1)) (subst (λ (m : ℕ). seq < m) (sym (length-set counts event.seq (get_or counts event.seq 0 + 1))) inside))
    where
      more : (b : Bool) (l : List EventLine) → length (cond b (event ∷ l) l) ≡ length l + one_if b
      more true l = let z : suc (length l) ≡ length l + 1 = omega arith in z
      more false l = let z : length l ≡ length l + 0 = omega arith in z

      by : get_or (fold counted (set counts event.seq (get_or counts event.seq 0 + 1)) rs) seq 0 ≡ get_or (set counts event.seq (get_or counts event.seq 0 + 1)) seq 0 + length (events_among rs seq)
          → get_or (fold counted (set counts event.seq (get_or counts event.seq 0 + 1)) rs) seq 0 ≡ get_or counts seq 0 + length (events_among (lines.Event event ∷ rs) seq)
      by is = elim (cases_eq seq event.seq) [
        | inl here ↦
            let own : one_if (seq == event.seq) ≡ 1 = ap one_if (eq-eqb seq event.seq here) in
            let got : get_or (set counts event.seq (get_or counts event.seq 0 + 1)) seq 0 ≡ get_or counts seq 0 + 1 =
            subst (λ (m : ℕ). get_or (set counts m (get_or counts m 0 + 1)) seq 0 ≡ get_or counts seq 0 + 1) here (get_or-set_same counts seq (get_or counts seq 0 + 1) 0 inside) in
            let all : length (events_among (lines.Event event ∷ rs) seq) ≡ length (events_among rs seq) + one_if (seq == event.seq) = more (seq == event.seq) (events_among rs seq) in
            omega (arith, own, got, all, is)
        | inr other ↦
            let far : one_if (seq == event.seq) ≡ 0 = ap one_if (other-is event.seq other) in
            let got : get_or (set counts event.seq (get_or counts event.seq 0 + 1)) seq 0 ≡ get_or counts seq 0 = get_or-set_other counts event.seq seq (get_or counts event.seq 0 + 1) 0 other in
            let all : length (events_among (lines.Event event ∷ rs) seq) ≡ length (events_among rs seq) + one_if (seq == event.seq) = more (seq == event.seq) (events_among rs seq) in
            omega (arith, far, got, all, is)
      ]

  or-assoc : (a b c : Bool) → ((a || b) || c) ≡ (a || (b || c))
  or-assoc true b c = refl
  or-assoc false b c = refl

  or-true : (b : Bool) → (b || true) ≡ true
  or-true true = refl
  or-true false = refl

  or-false : (b : Bool) → (b || false) ≡ b
  or-false true = refl
  or-false false = refl

  flag-at : (flags : List Bool) (s : ℕ) (ends : Bool) → seq < length flags → get_or (cond ends (set flags s true) flags) seq false ≡ (get_or flags seq false || cond (seq == s) ends false)
  flag-at flags s ends inside = elim (cases_eq seq s) [
    | inl here ↦ own here ends ∙ ap (λ (b : Bool). get_or flags seq false || cond b ends false) (sym (eq-eqb seq s here))
    | inr other ↦ far other ends ∙ ap (λ (b : Bool). get_or flags seq false || cond b ends false) (sym (other-is s other))
  ]
    where
      own : seq ≡ s → (b : Bool) → get_or (cond b (set flags s true) flags) seq false ≡ (get_or flags seq false || b)
      own here true = subst (λ (m : ℕ). get_or (set flags m true) seq false ≡ true) here (get_or-set_same flags seq true false inside) ∙ sym (or-true (get_or flags seq false))
      own here false = sym (or-false (get_or flags seq false))

      far : (seq ≡ s → ⊥) → (b : Bool) → get_or (cond b (set flags s true) flags) seq false ≡ (get_or flags seq false || false)
      far other true = get_or-set_other flags s seq true false other ∙ sym (or-false (get_or flags seq false))
      far other false = sym (or-false (get_or flags seq false))

  any-more : (b : Bool) (line : EventLine) (l : List EventLine) → list_any ends_machine (cond b (line ∷ l) l) ≡ (cond b (ends_machine line) false || list_any ends_machine l)
  any-more true line l = refl
  any-more false line l = refl

  flags-law : (rows : List CpuLine) (flags : List Bool) → seq < length flags → get_or (fold flagged_by flags rows) seq false ≡ (get_or flags seq false || list_any ends_machine (events_among rows seq))
  flags-law [] flags inside = sym (or-false (get_or flags seq false))
  flags-law (lines.Answer s answer ∷ rs) flags inside = flags-law rs flags inside
  flags-law (lines.Offlined offlined ∷ rs) flags inside = flags-law rs flags inside
  flags-law (lines.Guest guest ∷ rs) flags inside = flags-law rs flags inside
  flags-law (lines.Event event ∷ rs) flags inside =
      flags-law rs (flagged_by flags (lines.Event event)) (subst (λ (m : ℕ). seq < m) (sym (flag-many flags (lines.Event event))) inside)
      ∙ ap (λ (b : Bool). b || list_any ends_machine (events_among rs seq)) (flag-at flags event.seq (is_stopping event.acted || is_panic event.acted) inside)
      ∙ or-assoc (get_or flags seq false) (cond (seq == event.seq) (is_stopping event.acted || is_panic event.acted) false) (list_any ends_machine (events_among rs seq))
      ∙ ap (λ (b : Bool). get_or flags seq false || b)
      (sym (any-more (seq == event.seq) event (events_among rs seq)))

all-count-many : (rows : List CpuLine) (counts : List ℕ) → length (fold counted counts rows) ≡ length counts
all-count-many [] counts = refl
all-count-many (r ∷ rs) counts = all-count-many rs (counted counts r) ∙ count-many counts r

all-flag-many : (rows : List CpuLine) (flags : List Bool) → length (fold flagged_by flags rows) ≡ length flags
all-flag-many [] flags = refl
all-flag-many (r ∷ rs) flags = all-flag-many rs (flagged_by flags r) ∙ flag-many flags r

module _ (rows : List CpuLine) (commands : ℕ) where
  pub counts_many : length (fold counted (replicate commands 0) rows) ≡ commands
  counts_many = all-count-many rows (replicate commands 0) ∙ length-replicate {A = ℕ} commands 0

  pub counts_are : AreCounts rows (fold counted (replicate commands 0) rows)
  counts_are seq inside =
      let many : length (fold counted (replicate commands 0) rows) ≡ commands = counts_many in
      let none : length (replicate {A = ℕ} commands 0) ≡ commands = length-replicate {A = ℕ} commands 0 in
      let law : get_or (fold counted (replicate commands 0) rows) seq 0 ≡ get_or (replicate commands 0) seq 0 + length (events_among rows seq) = counts-law seq rows (replicate commands 0) (omega (arith, inside, many, none)) in
      let start : get_or (replicate commands 0) seq 0 ≡ 0 = get_or-replicate {A = ℕ} commands seq 0 0 (omega (arith, inside, many)) in
      omega (arith, law, start)

  pub flags_many : length (fold flagged_by (replicate commands false) rows) ≡ commands
  flags_many = all-flag-many rows (replicate commands false) ∙ length-replicate {A = Bool} commands false

  pub flags_are : AreFlags rows (fold flagged_by (replicate commands false) rows)
  flags_are seq inside =
      let many : length (fold flagged_by (replicate commands false) rows) ≡ commands = flags_many in
      let none : length (replicate {A = Bool} commands false) ≡ commands = length-replicate {A = Bool} commands false in
      flags-law seq rows (replicate commands false) (omega (arith, inside, many, none))
      ∙ ap (λ (b : Bool). b || list_any ends_machine (events_among rows seq)) (get_or-replicate {A = Bool} commands seq false false (omega (arith, inside, many)))
