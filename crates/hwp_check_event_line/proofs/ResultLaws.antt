-- What is kept of the marks of frames is what they say of the command.
use Rattle.std.proofs.Common.{◌≡◌, inl, inr, ℕ, ◌+◌, ◌<◌, ◌≤◌, ◌==◌, ◌&&◌, ◌||◌, Bool, true, false, cond, List, [], ◌∷◌, Option, length, option_map, unwrap_or, refl, sym, ap, ◌∙◌, arith}
use Rattle.std.specs.HashSet.{HashSet}
use Rattle.std.proofs.lemmas.Bool.{and_right, cases_Bool, cases_lt, eq-eqb, eqb-false, eqb-true, le-ltb, lt-ltb, ne_eqb}
use Rattle.std.proofs.lemmas.Option.{slice_get_past}
use Rattle.hwp_law.specs.hwp_geom.declared.Cpu.{Cpu}
use Rattle.hwp_law.specs.hwp_geom.declared.Who.{Who}
use Rattle.hwp_law.specs.hwp_page.declared.Outcome.{Outcome}
use Rattle.hwp_law.specs.hwp_page.declared.Outcome.TheVariants as outcomes
use Rattle.hwp_law.specs.hwp_report_text.declared.Acted.{Acted}
use Rattle.hwp_law.specs.hwp_report_text.declared.Acted.TheVariants as acts
use Rattle.hwp_law.specs.hwp_report_text.declared.FrameLine.{FrameLine}
use Rattle.hwp_law.specs.hwp_report_text.declared.How.TheVariants as hows
use Rattle.hwp_law.specs.hwp_report_text.declared.MarkLine.{MarkLine}
use Rattle.hwp_law.specs.hwp_report_text.declared.MarkLine.TheVariants as marks
use Rattle.hwp_law.specs.hwp_report_text.declared.Report.{Report}
use Rattle.hwp_law.specs.Lines.{is_same_command, marks_of}
use Rattle.hwp_law.specs.Records.{who_in}
use Rattle.hwp_check_event_line.specs.Results.{AreResults, acted_number, has_key, has_number, has_result, is_numbered, kept_below, mark_kept, mark_number, marks_at, marks_kept, outcome_number, tells, tells_mark}
use Rattle.hwp_check_event_line.specs.declared.results.Results.{Results}

or-none : (a : Bool) → a ≡ (a || false)
or-none true = refl
or-none false = refl

or-three : (a b c : Bool) → (a || b) || c ≡ a || (b || c)
or-three true b c = refl
or-three false b c = refl

eqb-swap : (a b : ℕ) → (a == b) ≡ (b == a)
eqb-swap a b = elim (cases_Bool (a == b)) [
  | inl is ↦ is ∙ sym (eq-eqb b a (sym (eqb-true a b is)))
  | inr not_so ↦ not_so ∙ sym (ne_eqb b a (λ e. eqb-false a b not_so (sym e)))
]

kept-so : (c s t had : Bool) → cond c (cond ((true && s) && t) true had) had ≡ (had || ((c && s) && t))
kept-so true true true true = refl
kept-so true true true false = refl
kept-so true true false had = or-none had
kept-so true false t had = or-none had
kept-so false s t had = or-none had

-- in its own frame
module _ (who : Who) (number frame : ℕ) where
  abbrev key : (ℕ × ℕ) × ℕ
  key = ((frame, who.seq), number)

  mark-kept : (had : Bool) (m : MarkLine) → mark_kept who.cpu frame key had m ≡ (had || is_numbered who number m)
  mark-kept had m =
      ap (λ (b : Bool). cond ((who_in m).cpu.0 == who.cpu.0) (cond ((b && ((who_in m).seq == who.seq)) && (mark_number m == number)) true had) had) (eq-eqb frame frame refl)
      ∙ kept-so ((who_in m).cpu.0 == who.cpu.0) ((who_in m).seq == who.seq) (mark_number m == number) had
      ∙ ap (λ (b : Bool). had || ((b && ((who_in m).seq == who.seq)) && (mark_number m == number))) (eqb-swap (who_in m).cpu.0 who.cpu.0)
      ∙ ap (λ (b : Bool). had || (((who.cpu.0 == (who_in m).cpu.0) && b) && (mark_number m == number))) (eqb-swap (who_in m).seq who.seq)

  marks-kept : (had : Bool) (list : List MarkLine) → marks_kept who.cpu frame key had list ≡ (had || has_number who number list)
  marks-kept had [] = or-none had
  marks-kept had (m ∷ ms) =
      marks-kept (mark_kept who.cpu frame key had m) ms ∙ ap (λ (b : Bool). b || has_number who number ms) (mark-kept had m) ∙ or-three had (is_numbered who number m) (has_number who number ms)

pub kept_is : (report : Report) (results : Results) (who : Who) (frame number : ℕ) → AreResults who.cpu report.frames results → has_key results.keys ((frame, who.seq), number) ≡ has_number who number (marks_of report frame)
kept_is report results who frame number are = are.each ((frame, who.seq), number) ∙ marks-kept who number frame false (marks_of report frame)

-- what was done says what came of a failure by an event where the two have one number
same-number : (o : Outcome) (a : Acted) → (outcome_number o == acted_number a) ≡ tells o a
same-number outcomes.Recovered acts.Recovered = refl
same-number outcomes.Recovered acts.Delayed = refl
same-number outcomes.Recovered acts.Ignored = refl
same-number outcomes.Recovered _ = refl
same-number outcomes.Delayed acts.Recovered = refl
same-number outcomes.Delayed acts.Delayed = refl
same-number outcomes.Delayed acts.Ignored = refl
same-number outcomes.Delayed _ = refl
same-number outcomes.Ignored acts.Recovered = refl
same-number outcomes.Ignored acts.Delayed = refl
same-number outcomes.Ignored acts.Ignored = refl
same-number outcomes.Ignored _ = refl

-- and says none of another mark
no-number : (number : ℕ) (a : Acted) → 2 < number → number < 13 → (number == acted_number a) ≡ false
no-number number acts.Recovered above below = ne_eqb number 0 (λ e. omega (arith, e, above))
no-number number acts.Delayed above below = ne_eqb number 1 (λ e. omega (arith, e, above))
no-number number acts.Ignored above below = ne_eqb number 2 (λ e. omega (arith, e, above))
no-number number _ above below = ne_eqb number 13 (λ e. omega (arith, e, below))

module _ (who : Who) (acted : Acted) where
  none-told : (by : Who) (number : ℕ) → 2 < number → number < 13 → (is_same_command who by && (number == acted_number acted)) ≡ false
  none-told by number above below = and_right (is_same_command who by) (number == acted_number acted) (no-number number acted above below)

  number-tells : (m : MarkLine) → is_numbered who (acted_number acted) m ≡ tells_mark who acted m
  number-tells (marks.Poisoned cycle by (hows.Failure true situation outcome)) = ap (λ (b : Bool). is_same_command who by && b) (same-number outcome acted)
  number-tells (marks.Poisoned cycle by (hows.Failure false situation outcomes.Recovered)) = none-told by 3 (omega arith) (omega arith)
  number-tells (marks.Poisoned cycle by (hows.Failure false situation outcomes.Delayed)) = none-told by 4 (omega arith) (omega arith)
  number-tells (marks.Poisoned cycle by (hows.Failure false situation outcomes.Ignored)) = none-told by 5 (omega arith) (omega arith)
  number-tells (marks.Poisoned cycle by hows.Moved) = none-told by 6 (omega arith) (omega arith)
  number-tells (marks.Poisoned cycle by hows.TakenFree) = none-told by 9 (omega arith) (omega arith)
  number-tells (marks.Unpoisoned cycle by) = none-told by 12 (omega arith) (omega arith)

  pub number_result : (list : List MarkLine) → has_number who (acted_number acted) list ≡ has_result who acted list
  number_result [] = refl
  number_result (m ∷ ms) = ap (λ (b : Bool). b || has_number who (acted_number acted) ms) (number-tells m) ∙ ap (λ (b : Bool). tells_mark who acted m || b) (number_result ms)

-- and of a mark in another frame nothing is kept
both : (b had : Bool) → cond b had had ≡ had
both true had = refl
both false had = refl

module _ (cpu : Cpu) (n : ℕ) (q : (ℕ × ℕ) × ℕ) (other : (n == q.0.0) ≡ false) where
  mark-other : (had : Bool) (m : MarkLine) → mark_kept cpu n q had m ≡ had
  mark-other had m =
      ap (λ (b : Bool). cond ((who_in m).cpu.0 == cpu.0) (cond ((b && ((who_in m).seq == q.0.1)) && (mark_number m == q.1)) true had) had) other ∙ both ((who_in m).cpu.0 == cpu.0) had

  marks-other : (had : Bool) (list : List MarkLine) → marks_kept cpu n q had list ≡ had
  marks-other had [] = refl
  marks-other had (m ∷ ms) = ap (λ (b : Bool). marks_kept cpu n q b ms) (mark-other had m) ∙ marks-other had ms

abbrev kept-if : Cpu → List FrameLine → (ℕ × ℕ) × ℕ → Bool → Bool
kept-if cpu frames q b = cond b (marks_kept cpu q.0.0 q false (marks_at frames q.0.0)) false

-- one frame more
pub kept-next : {S : Type 0} (cpu : Cpu) (frames : List FrameLine) (n : ℕ) (list : List MarkLine) (keys next : HashSet ((ℕ × ℕ) × ℕ) S) → list ≡ marks_at frames n → ((q : (ℕ × ℕ) × ℕ) → has_key keys q ≡ kept_below n cpu frames q)
    → ((q : (ℕ × ℕ) × ℕ) → has_key next q ≡ marks_kept cpu n q (has_key keys q) list) → (q : (ℕ × ℕ) × ℕ) → has_key next q ≡ kept_below (n + 1) cpu frames q
kept-next cpu frames n list keys next are was more q = elim (cases_lt q.0.0 n) [
  | inl low ↦
      let other : (n == q.0.0) ≡ false = ne_eqb n q.0.0 (λ e. omega (arith, e, low)) in
      more q ∙ marks-other cpu n q other (has_key keys q) list ∙ was q ∙ ap (λ (b : Bool). kept-if cpu frames q b) (lt-ltb q.0.0 n low ∙ sym (lt-ltb q.0.0 (n + 1) (omega (arith, low))))
  | inr high ↦ elim (cases_lt n q.0.0) [
    | inl past ↦
        let other : (n == q.0.0) ≡ false = ne_eqb n q.0.0 (λ e. omega (arith, e, past)) in
        more q ∙ marks-other cpu n q other (has_key keys q) list ∙ was q
        ∙ ap (λ (b : Bool). kept-if cpu frames q b) (le-ltb q.0.0 n (omega (arith, past)) ∙ sym (le-ltb q.0.0 (n + 1) (omega (arith, past))))
    | inr low ↦
        let same : n ≡ q.0.0 = omega (arith, high, low) in
        let none : has_key keys q ≡ false = was q ∙ ap (λ (b : Bool). kept-if cpu frames q b) (le-ltb q.0.0 n high) in
        more q ∙ ap (λ (b : Bool). marks_kept cpu n q b list) none ∙ ap (λ (ms : List MarkLine). marks_kept cpu n q false ms) are ∙ ap (λ (k : ℕ). marks_kept cpu k q false (marks_at frames k)) same
        ∙ sym (ap (λ (b : Bool). kept-if cpu frames q b) (lt-ltb q.0.0 (n + 1) (omega (arith, low))))
  ]
]

-- all frames
pub all-kept : {S : Type 0} (cpu : Cpu) (frames : List FrameLine) (n : ℕ) (keys : HashSet ((ℕ × ℕ) × ℕ) S) → length frames ≤ n → ((q : (ℕ × ℕ) × ℕ) → has_key keys q ≡ kept_below n cpu frames q)
    → (q : (ℕ × ℕ) × ℕ) → has_key keys q ≡ marks_kept cpu q.0.0 q false (marks_at frames q.0.0)
all-kept cpu frames n keys all was q = elim (cases_lt q.0.0 n) [
  | inl low ↦ was q ∙ ap (λ (b : Bool). kept-if cpu frames q b) (lt-ltb q.0.0 n low)
  | inr high ↦
      was q ∙ ap (λ (b : Bool). kept-if cpu frames q b) (le-ltb q.0.0 n high)
      ∙ ap (λ (o : Option FrameLine). marks_kept cpu q.0.0 q false (unwrap_or (option_map (λ (l : FrameLine). l.marks) o) [])) (sym (slice_get_past frames q.0.0 (omega (arith, all, high))))
]
