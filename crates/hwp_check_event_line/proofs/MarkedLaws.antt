-- A frame's record has such a mark of a command exactly where one of the command's marks has its number.
use Rattle.std.proofs.Common.{◌≡◌, ◌↔◌, inl, inr, ℕ, ◌+◌, ◌*◌, ◌<◌, ◌==◌, Bool, true, false, List, Any, Some, IsTrue, refl, sym, ap, ◌∙◌, arith}
use Rattle.std.proofs.lemmas.Bool.{and_from, and_parts, eq-eqb, eqb-true, or_cases, or_left, or_right}
use Rattle.std.proofs.lemmas.List.Folds.{Any-from_list_any, list_any-from_Any}
use Rattle.std.proofs.lemmas.Option.{none-some, same_Some}
use Rattle.hwp_law.specs.hwp_geom.declared.Frame.{Frame}
use Rattle.hwp_law.specs.hwp_geom.declared.Who.{Who}
use Rattle.hwp_law.specs.hwp_page.declared.Outcome.{Outcome}
use Rattle.hwp_law.specs.hwp_page.declared.Outcome.TheVariants as outcomes
use Rattle.hwp_law.specs.hwp_report_text.declared.How.TheVariants as hows
use Rattle.hwp_law.specs.hwp_report_text.declared.MarkLine.{MarkLine}
use Rattle.hwp_law.specs.hwp_report_text.declared.MarkLine.TheVariants as marks
use Rattle.hwp_law.specs.hwp_report_text.declared.Report.{Report}
use Rattle.hwp_law.specs.Causes.{ComesTo, HasMark, TakesBack}
use Rattle.hwp_law.specs.Lines.{is_same_command, marks_of}
use Rattle.hwp_law.specs.Records.{how_in, who_in}
use Rattle.hwp_check_event_line.specs.Results.{failure_number, has_come, has_number, how_number, is_numbered, mark_number, outcome_number}

outcome-low : (o : Outcome) → outcome_number o < 3
outcome-low outcomes.Recovered = omega arith
outcome-low outcomes.Delayed = omega arith
outcome-low outcomes.Ignored = omega arith

same-outcome : (a b : Outcome) → outcome_number a ≡ outcome_number b → a ≡ b
same-outcome outcomes.Recovered outcomes.Recovered is = refl
same-outcome outcomes.Recovered outcomes.Delayed is = absurd (omega (arith, is))
same-outcome outcomes.Recovered outcomes.Ignored is = absurd (omega (arith, is))
same-outcome outcomes.Delayed outcomes.Recovered is = absurd (omega (arith, is))
same-outcome outcomes.Delayed outcomes.Delayed is = refl
same-outcome outcomes.Delayed outcomes.Ignored is = absurd (omega (arith, is))
same-outcome outcomes.Ignored outcomes.Recovered is = absurd (omega (arith, is))
same-outcome outcomes.Ignored outcomes.Delayed is = absurd (omega (arith, is))
same-outcome outcomes.Ignored outcomes.Ignored is = refl

failure-low : (hardware : Bool) (o : Outcome) → failure_number hardware o < 6
failure-low true o = omega (arith, outcome-low o)
failure-low false o = omega (arith, outcome-low o)

-- the number of a mark tells what it is
number-moved : (m : MarkLine) → mark_number m ≡ 6 → how_in m ≡ Some hows.Moved
number-moved (marks.Poisoned cycle by (hows.Failure hardware situation outcome)) is = absurd (omega (arith, is, failure-low hardware outcome))
number-moved (marks.Poisoned cycle by hows.Moved) is = refl
number-moved (marks.Poisoned cycle by hows.TakenFree) is = absurd (omega (arith, is))
number-moved (marks.Unpoisoned cycle by) is = absurd (omega (arith, is))

moved-number : (m : MarkLine) → how_in m ≡ Some hows.Moved → mark_number m ≡ 6
moved-number (marks.Poisoned cycle by how) is = ap how_number (same_Some how hows.Moved is)
moved-number (marks.Unpoisoned cycle by) is = absurd (none-some hows.Moved is)

number-taken : (m : MarkLine) → mark_number m ≡ 9 → how_in m ≡ Some hows.TakenFree
number-taken (marks.Poisoned cycle by (hows.Failure hardware situation outcome)) is = absurd (omega (arith, is, failure-low hardware outcome))
number-taken (marks.Poisoned cycle by hows.Moved) is = absurd (omega (arith, is))
number-taken (marks.Poisoned cycle by hows.TakenFree) is = refl
number-taken (marks.Unpoisoned cycle by) is = absurd (omega (arith, is))

taken-number : (m : MarkLine) → how_in m ≡ Some hows.TakenFree → mark_number m ≡ 9
taken-number (marks.Poisoned cycle by how) is = ap how_number (same_Some how hows.TakenFree is)
taken-number (marks.Unpoisoned cycle by) is = absurd (none-some hows.TakenFree is)

number-back : (m : MarkLine) → mark_number m ≡ 12 → TakesBack m
number-back (marks.Poisoned cycle by (hows.Failure hardware situation outcome)) is = absurd (omega (arith, is, failure-low hardware outcome))
number-back (marks.Poisoned cycle by hows.Moved) is = absurd (omega (arith, is))
number-back (marks.Poisoned cycle by hows.TakenFree) is = absurd (omega (arith, is))
number-back (marks.Unpoisoned cycle by) is = tt

back-number : (m : MarkLine) → TakesBack m → mark_number m ≡ 12
back-number (marks.Poisoned cycle by how) none = absurd none
back-number (marks.Unpoisoned cycle by) back = refl

-- and what came of it
number-come : (o : Outcome) (k : ℕ) (m : MarkLine) → k < 4 → mark_number m ≡ outcome_number o + 3 * k → ComesTo o m
number-come o k (marks.Poisoned cycle by (hows.Failure true situation outcome)) low is = same-outcome outcome o (omega (arith, is, outcome-low outcome, outcome-low o))
number-come o k (marks.Poisoned cycle by (hows.Failure false situation outcome)) low is = same-outcome outcome o (omega (arith, is, outcome-low outcome, outcome-low o))
number-come o k (marks.Poisoned cycle by hows.Moved) low is = same-outcome outcomes.Recovered o (omega (arith, is, outcome-low o))
number-come o k (marks.Poisoned cycle by hows.TakenFree) low is = same-outcome outcomes.Recovered o (omega (arith, is, outcome-low o))
number-come o k (marks.Unpoisoned cycle by) low is = absurd (omega (arith, is, low, outcome-low o))

module _ (who : Who) where
  same-who : (other : Who) → is_same_command who other ≡ true → other ≡ who
  same-who other is =
      let parts = and_parts (who.cpu.0 == other.cpu.0) (who.seq == other.seq) is in
      let cpu : other.cpu.0 ≡ who.cpu.0 = sym (eqb-true who.cpu.0 other.cpu.0 parts.0) in
      let seq : other.seq ≡ who.seq = sym (eqb-true who.seq other.seq parts.1) in
      λ i. record { cpu = record { 0 = cpu i }; seq = seq i }

  who-same : (other : Who) → other ≡ who → is_same_command who other ≡ true
  who-same other is = and_from (who.cpu.0 == other.cpu.0) (who.seq == other.seq) (eq-eqb who.cpu.0 other.cpu.0 (sym (ap (λ (w : Who). w.cpu.0) is))) (eq-eqb who.seq other.seq (sym (ap (λ (w : Who). w.seq) is)))

  abbrev IsOwn : (MarkLine → Type 0) → MarkLine → Type 0
  IsOwn Such m = (who_in m ≡ who) × Such m

  -- one of the command's marks has the number, if it is such; and the other way round
  forth : (number : ℕ) (Such : MarkLine → Type 0) → ((m : MarkLine) → mark_number m ≡ number → Such m) → (list : List MarkLine) → has_number who number list ≡ true → Any (IsOwn Such) list
  forth number Such such list is =
      let a = Any-from_list_any (is_numbered who number) list is in
      let parts = and_parts (is_same_command who (who_in a.1)) (mark_number a.1 == number) a.4 in (
        a.0,
        a.1,
        a.2,
        a.3,
        (same-who (who_in a.1) parts.0, such a.1 (eqb-true (mark_number a.1) number parts.1)),
      )

  back : (number : ℕ) (list : List MarkLine) → Any (IsOwn (λ m. mark_number m ≡ number)) list → has_number who number list ≡ true
  back number list a = list_any-from_Any (is_numbered who number) list (a.0, a.1, a.2, a.3, and_from (is_same_command who (who_in a.1)) (mark_number a.1 == number) (who-same (who_in a.1) a.4.0) (eq-eqb (mark_number a.1) number a.4.1))

  exactly : (number : ℕ) (Such : MarkLine → Type 0) → ((m : MarkLine) → mark_number m ≡ number → Such m) → ((m : MarkLine) → Such m → mark_number m ≡ number) → (list : List MarkLine)
      → IsTrue (has_number who number list) ↔ Any (IsOwn Such) list
  exactly number Such such is_such list = (λ is. forth number Such such list is, λ a. back number list (a.0, a.1, a.2, a.3, (a.4.0, is_such a.1 a.4.1)))

  come-forth : (o : Outcome) (list : List MarkLine) → has_come who o list ≡ true → Any (IsOwn (ComesTo o)) list
  come-forth o list is = elim (or_cases _ _ is) [
    | inl before ↦ elim (or_cases _ _ before) [
      | inl failure ↦ elim (or_cases _ _ failure) [
        | inl event ↦ at 0 (outcome_number o) (omega arith) (omega arith) event
        | inr command ↦ at 1 (outcome_number o + 3) (omega arith) (omega arith) command
      ]
      | inr moved ↦ at 2 (outcome_number o + 6) (omega arith) (omega arith) moved
    ]
    | inr taken ↦ at 3 (outcome_number o + 9) (omega arith) (omega arith) taken
  ]
    where
      at : (k number : ℕ) → k < 4 → number ≡ outcome_number o + 3 * k → has_number who number list ≡ true → Any (IsOwn (ComesTo o)) list
      at k number low same so = forth number (ComesTo o) (λ m is. number-come o k m low (is ∙ same)) list so

  come-back : (o : Outcome) (list : List MarkLine) → Any (IsOwn (ComesTo o)) list → has_come who o list ≡ true
  come-back o list a = by a.1 refl a.4.1
    where
      at : (number : ℕ) → mark_number a.1 ≡ number → has_number who number list ≡ true
      at number is = back number list (a.0, a.1, a.2, a.3, (a.4.0, is))

      by : (m : MarkLine) → a.1 ≡ m → ComesTo o m → has_come who o list ≡ true
      by (marks.Poisoned cycle other (hows.Failure true situation outcome)) same is =
          or_left _ _ (or_left _ _ (or_left _ _ (at (outcome_number o) (ap mark_number same ∙ ap outcome_number is))))
      by (marks.Poisoned cycle other (hows.Failure false situation outcome)) same is =
          or_left _ _ (or_left _ _ (or_right _ _ (at (outcome_number o + 3) (ap mark_number same ∙ ap (λ (x : Outcome). outcome_number x + 3) is))))
      by (marks.Poisoned cycle other hows.Moved) same is = or_left _ _ (or_right _ _ (at (outcome_number o + 6) (ap mark_number same ∙ ap (λ (x : Outcome). outcome_number x + 6) is)))
      by (marks.Poisoned cycle other hows.TakenFree) same is = or_right _ _ (at (outcome_number o + 9) (ap mark_number same ∙ ap (λ (x : Outcome). outcome_number x + 9) is))
      by (marks.Unpoisoned cycle other) same none = absurd none

module _ (report : Report) (who : Who) (frame : Frame) where
  pub come_is : (o : Outcome) → IsTrue (has_come who o (marks_of report frame.0)) ↔ HasMark report who frame (ComesTo o)
  come_is o = (λ is. come-forth who o (marks_of report frame.0) is, λ a. come-back who o (marks_of report frame.0) a)

  pub moved_is : IsTrue (has_number who 6 (marks_of report frame.0)) ↔ HasMark report who frame (λ (m : MarkLine). how_in m ≡ Some hows.Moved)
  moved_is = exactly who 6 (λ (m : MarkLine). how_in m ≡ Some hows.Moved) number-moved moved-number (marks_of report frame.0)

  pub taken_free_is : IsTrue (has_number who 9 (marks_of report frame.0)) ↔ HasMark report who frame (λ (m : MarkLine). how_in m ≡ Some hows.TakenFree)
  taken_free_is = exactly who 9 (λ (m : MarkLine). how_in m ≡ Some hows.TakenFree) number-taken taken-number (marks_of report frame.0)

  pub taken_back_is : IsTrue (has_number who 12 (marks_of report frame.0)) ↔ HasMark report who frame TakesBack
  taken_back_is = exactly who 12 TakesBack number-back back-number (marks_of report frame.0)
