-- The results of a command's failures, mark by mark.
use Rattle.std.proofs.Common.{◌≡◌, ◌⊎◌, ◌↔◌, inl, inr, zero, suc, ◌<◌, ◌&&◌, Bool, true, false, cond, List, [], ◌∷◌, Option, Some, None, IsTrue, length, true≢false, refl, sym, ap, ◌∙◌, subst, arith}
use Rattle.std.specs.List.{Contains, cons_option}
use Rattle.std.proofs.lemmas.Bool.{and_parts, or_cases, or_left, or_right}
use Rattle.std.proofs.lemmas.List.Elements.{Contains-append_right}
use Rattle.std.proofs.lemmas.Option.{none-some, same_Some}
use Rattle.hwp_banks.specs.hwp_geom.declared.Who.{Who}
use Rattle.hwp_law.specs.hwp_page.declared.Outcome.{Outcome}
use Rattle.hwp_law.specs.hwp_page.declared.Outcome.TheVariants as outcomes
use Rattle.hwp_law.specs.hwp_report_text.declared.Acted.{Acted}
use Rattle.hwp_law.specs.hwp_report_text.declared.Acted.TheVariants as acts
use Rattle.hwp_law.specs.hwp_report_text.declared.How.TheVariants as hows
use Rattle.hwp_law.specs.hwp_report_text.declared.MarkLine.{MarkLine}
use Rattle.hwp_law.specs.hwp_report_text.declared.MarkLine.TheVariants as marks
use Rattle.hwp_law.specs.Checks.{IsResult}
use Rattle.hwp_law.specs.Lines.{is_same_command}
use Rattle.hwp_law.specs.Outcomes.{outcome_act}
use Rattle.hwp_law.specs.Records.{hardware_act, hardware_marks, is_by_hardware, mark_results, who_in}
use Rattle.hwp_check_event_line.specs.Results.{has_result, tells, tells_mark}

tells-is : (o : Outcome) (a : Acted) → tells o a ≡ true → outcome_act o ≡ a
tells-is outcomes.Recovered acts.Recovered is = refl
tells-is outcomes.Delayed acts.Delayed is = refl
tells-is outcomes.Ignored acts.Ignored is = refl
tells-is outcomes.Recovered _ is = absurd (true≢false (sym is))
tells-is outcomes.Delayed _ is = absurd (true≢false (sym is))
tells-is outcomes.Ignored _ is = absurd (true≢false (sym is))

is-tells : (o : Outcome) → tells o (outcome_act o) ≡ true
is-tells outcomes.Recovered = refl
is-tells outcomes.Delayed = refl
is-tells outcomes.Ignored = refl

-- what a list contains that begins so
head-in : {X : Type 0} (x : X) (xs : List X) → Contains (x ∷ xs) x
head-in x xs = (0, omega arith, refl)

cons-cases : {X : Type 0} (x : X) (xs : List X) (y : X) → Contains (x ∷ xs) y → (x ≡ y) ⊎ Contains xs y
cons-cases x xs y (zero, within, is) = inl is
cons-cases x xs y (suc k, within, is) = inr (k, let less : suc k < suc (length xs) = within in omega (arith, less), is)

module _ (who : Who) where
  abbrev results : List MarkLine → List Acted
  results list = mark_results (hardware_marks who list)

  -- the result of a mark of the command's events
  abbrev own : MarkLine → Option Acted
  own m = cond (is_same_command who (who_in m) && is_by_hardware m) (hardware_act m) None

  own-is : (m : MarkLine) (ms : List MarkLine) → results (m ∷ ms) ≡ cons_option (own m) (results ms)
  own-is m ms = at (is_same_command who (who_in m) && is_by_hardware m)
    where
      at : (b : Bool) → mark_results (cond b (m ∷ hardware_marks who ms) (hardware_marks who ms)) ≡ cons_option (cond b (hardware_act m) None) (results ms)
      at true = refl
      at false = refl

  none-own : (b : Bool) (acted : Acted) → cond (b && false) None None ≡ Some acted → ⊥
  none-own true acted none = none-some acted none
  none-own false acted none = none-some acted none

  own-told : (acted : Acted) (m : MarkLine) → own m ≡ Some acted → tells_mark who acted m ≡ true
  own-told acted (marks.Poisoned cycle by (hows.Failure true situation outcome)) is = at (is_same_command who by) is
    where
      at : (b : Bool) → cond (b && true) (Some (outcome_act outcome)) None ≡ Some acted → (b && tells outcome acted) ≡ true
      at true same = subst (λ (a : Acted). tells outcome a ≡ true) (same_Some _ _ same) (is-tells outcome)
      at false none = absurd (none-some acted none)
  own-told acted (marks.Poisoned cycle by (hows.Failure false situation outcome)) is = absurd (none-own (is_same_command who by) acted is)
  own-told acted (marks.Poisoned cycle by hows.Moved) is = absurd (none-own (is_same_command who by) acted is)
  own-told acted (marks.Poisoned cycle by hows.TakenFree) is = absurd (none-own (is_same_command who by) acted is)
  own-told acted (marks.Unpoisoned cycle by) is = absurd (none-own (is_same_command who by) acted is)

  told-own : (acted : Acted) (m : MarkLine) → tells_mark who acted m ≡ true → own m ≡ Some acted
  told-own acted (marks.Poisoned cycle by (hows.Failure true situation outcome)) is =
      let parts = and_parts (is_same_command who by) (tells outcome acted) is in
      ap (λ (b : Bool). cond (b && true) (Some (outcome_act outcome)) None) parts.0 ∙ ap Some (tells-is outcome acted parts.1)
  told-own acted (marks.Poisoned cycle by (hows.Failure false situation outcome)) is = absurd (true≢false (sym is))
  told-own acted (marks.Poisoned cycle by hows.Moved) is = absurd (true≢false (sym is))
  told-own acted (marks.Poisoned cycle by hows.TakenFree) is = absurd (true≢false (sym is))
  told-own acted (marks.Unpoisoned cycle by) is = absurd (true≢false (sym is))

  behind : (o : Option Acted) (list : List Acted) (acted : Acted) → Contains list acted → Contains (cons_option o list) acted
  behind None list acted old = old
  behind (Some a) list acted old = Contains-append_right (a ∷ []) list acted old

  in-front : (o : Option Acted) (list : List Acted) (acted : Acted) → Contains (cons_option o list) acted → (o ≡ Some acted) ⊎ Contains list acted
  in-front None list acted old = inr old
  in-front (Some a) list acted old = elim (cons-cases a list acted old) [
    | inl same ↦ inl (ap Some same)
    | inr later ↦ inr later
  ]

  forth : (acted : Acted) (list : List MarkLine) → has_result who acted list ≡ true → Contains (results list) acted
  forth acted [] is = absurd (true≢false (sym is))
  forth acted (m ∷ ms) is = subst (λ (l : List Acted). Contains l acted) (sym (own-is m ms)) (elim (or_cases (tells_mark who acted m) (has_result who acted ms) is) [
    | inl now ↦ subst (λ (o : Option Acted). Contains (cons_option o (results ms)) acted) (sym (told-own acted m now)) (head-in acted (results ms))
    | inr later ↦ behind (own m) (results ms) acted (forth acted ms later)
  ])

  back : (acted : Acted) (list : List MarkLine) → Contains (results list) acted → has_result who acted list ≡ true
  back acted [] (k, within, is) = let none : k < 0 = within in absurd (omega (arith, none))
  back acted (m ∷ ms) has = elim (in-front (own m) (results ms) acted (subst (λ (l : List Acted). Contains l acted) (own-is m ms) has)) [
    | inl now ↦ or_left (tells_mark who acted m) (has_result who acted ms) (own-told acted m now)
    | inr later ↦ or_right (tells_mark who acted m) (has_result who acted ms) (back acted ms later)
  ]

pub result_is : (who : Who) (acted : Acted) (list : List MarkLine) → IsTrue (has_result who acted list) ↔ IsResult list who acted
result_is who acted list = (λ is. forth who acted list is, λ has. back who acted list has)
