-- Which machine check of an access a line tells, by what a function found.
use Rattle.std.proofs.Common.{◌≡◌, ◌≢◌, ◌↔◌, ℕ, ◌+◌, ◌-◌, ◌<◌, ◌≤◌, ◌==◌, ◌&&◌, Bool, true, false, cond, List, Option, None, IsTrue, is_some, get_or, length, replicate, true≢false, refl, sym, ap, ◌∙◌, subst, arith}
use Rattle.std.specs.Int.{from_bool}
use Rattle.std.proofs.lemmas.Bool.{cond-false, cond-true, eq-eqb, ne_eqb}
use Rattle.std.proofs.lemmas.List.{length-append, length-replicate}
use Rattle.hwp_banks.specs.hwp_geom.declared.Who.{Who}
use Rattle.hwp_banks.specs.declared.Event.{Event}
use Rattle.hwp_law.specs.hwp_script_words.declared.Script.{Script}
use Rattle.hwp_law.specs.hwp_report_text.declared.Report.{Report}
use Rattle.hwp_law.specs.hwp_report_text.declared.EventLine.{EventLine}
use Rattle.hwp_law.specs.hwp_severity.declared.Arrival.{Arrival}
use Rattle.hwp_check_event_line.specs.Found.{beside, of_access}
use Rattle.hwp_check_event_line.specs.Accesses.{Access, IsAccessLine, IsOwnLine, asked_by_access, asked_first}
use Rattle.hwp_check_events.specs.Met.{access_by, lines_met}
use Rattle.hwp_check_events.specs.declared.known.Checks.{Checks}
use Rattle.hwp_check_events.proofs.AccessLaws.{is-later, of-later}
use Rattle.hwp_check_events.proofs.CopyLaws.{bool_few}

two-or-one : (b : Bool) → cond b 2 1 ≡ from_bool b + 1
two-or-one true = refl
two-or-one false = refl

one-or-two : (b : Bool) → 1 ≤ cond b 2 1
one-or-two true = omega arith
one-or-two false = omega arith

met-size : (checks : Checks) (copied : List ℕ) → length copied ≤ checks.count → length (lines_met checks copied) ≡ checks.count
met-size checks copied within =
    let both : length (lines_met checks copied) ≡ length copied + length (replicate (checks.count - length copied) checks.at) = length-append copied (replicate (checks.count - length copied) checks.at) in
    let rest : length (replicate (checks.count - length copied) checks.at) ≡ checks.count - length copied = length-replicate {A = ℕ} (checks.count - length copied) checks.at in
    omega (arith, both, rest, within)

-- whether a line is the first: where there is no machine check, and where there is one
module _ (checks : Checks) (copied : List ℕ) (raw : Option Event) (within : length copied ≤ checks.count) where
  pub none-first : (Own : Type 0) → checks.count ≡ 0 → IsTrue false ↔ ((0 < asked_by_access (access_by checks copied raw)) × Own)
  none-first Own none = (
    λ no. absurd (true≢false (sym no)),
    λ r. absurd
        (let less : 0 < asked_by_access (access_by checks copied raw) = r.0 in
        let is : asked_by_access (access_by checks copied raw) ≡ 0 =
        cond-true (length (lines_met checks copied) == 0) 0 (length (lines_met checks copied) - 1 + asked_first checks.origin raw) (eq-eqb (length (lines_met checks copied)) 0 (met-size checks copied within ∙ none)) in omega (arith, less, is)),
  )

  pub first-is : (Own : ℕ → Type 0) (at : ℕ) (Found : Type 0) → checks.count ≢ 0 → at ≡ get_or (lines_met checks copied) 0 0 → (Found ↔ Own at) → Found ↔ ((0 < asked_by_access (access_by checks copied raw)) × Own (get_or (lines_met checks copied) 0 0))
  first-is Own at Found some at_is found = (λ f. (asked, subst Own at_is (found.0 f)), λ r. found.1 (subst Own (sym at_is) r.1))
    where
      asked : 0 < asked_by_access (access_by checks copied raw)
      asked =
          let is : asked_by_access (access_by checks copied raw) ≡ length (lines_met checks copied) - 1 + asked_first checks.origin raw =
          cond-false (length (lines_met checks copied) == 0) 0 (length (lines_met checks copied) - 1 + asked_first checks.origin raw) (ne_eqb (length (lines_met checks copied)) 0 (λ z. some (sym (met-size checks copied within) ∙ z))) in
          let one : 1 ≤ asked_first checks.origin raw = one-or-two (is_some (beside checks.origin raw)) in
          omega (arith, is, one)

module _ (script : Script) (report : Report) (who : Who) (how : Arrival) (checks : Checks) (copied : List ℕ) (raw : Option Event) (access : of_access checks.origin ≡ true) (lines : List EventLine) (number : ℕ) (line : EventLine) where
  abbrev acc : Access
  acc = access_by checks copied raw

  abbrev Own : ℕ → Option Event → Type 0
  Own at o = IsOwnLine script report who how checks.origin at o line

  abbrev Right : Type 0
  Right = IsAccessLine script report who how acc lines number line

  -- `b` is what the first machine check finds beside its own event, and the banks are empty at the later one
  pub later-is : (b : Option Event) → b ≡ beside checks.origin raw → (place at : ℕ) → at ≡ get_or (lines_met checks copied) place 0 → (o : Option Event) (Found : Type 0) → (Found ↔ Own at o)
      → 0 < number → number < asked_by_access acc → ((number == 1) && is_some b) ≡ false → place ≡ number - from_bool (is_some b) → o ≡ None → Found ↔ Right
  later-is b b_is place at at_is o Found found more less not_second place_is empty = (
    λ f. is-later script report who how checks.origin access (lines_met checks copied) raw lines number line more second less (subst (λ (k : ℕ). Own k None) here (subst (Own at) empty (found.0 f))),
    λ r. found.1 (subst (Own at) (sym empty) (subst (λ (k : ℕ). Own k None) (sym here) (of-later script report who how checks.origin access (lines_met checks copied) raw lines number line more second r))),
  )
    where
      second : ((number == 1) && is_some (beside checks.origin raw)) ≡ false
      second = sym (ap (λ (x : Option Event). (number == 1) && is_some x) b_is) ∙ not_second

      first : asked_first checks.origin raw ≡ from_bool (is_some b) + 1
      first = sym (ap (λ (x : Option Event). cond (is_some x) 2 1) b_is) ∙ two-or-one (is_some b)

      here : at ≡ get_or (lines_met checks copied) (number + 1 - asked_first checks.origin raw) 0
      here =
          let f : asked_first checks.origin raw ≡ from_bool (is_some b) + 1 = first in
          let few : from_bool (is_some b) ≤ 1 = bool_few (is_some b) in
          let same : place ≡ number + 1 - asked_first checks.origin raw = omega (arith, f, few, more, place_is) in
          at_is ∙ ap (λ (k : ℕ). get_or (lines_met checks copied) k 0) same
