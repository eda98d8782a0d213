-- What a command told of its events is right: it tells a result exactly where a failure came to one, of which there are the mark and the
-- entry, and a thread needed the page exactly where row S9 graded the event.
use Rattle.std.proofs.Common.{◌≡◌, ℕ, ◌==◌, ◌&&◌, Bool, true, false, cond, nat_le, List, [], ◌∷◌, Option, Some, None, is_some, map, option_and_then, option_map, slice_get, refl, sym, ap, ◌∙◌, subst, true≢false}
use Rattle.std.proofs.lemmas.Option.{none-some, same_Some}
use Rattle.hwp_law.specs.hwp_geom.declared.Layout.{Layout}
use Rattle.hwp_law.specs.hwp_geom.declared.Mode.{Mode}
use Rattle.hwp_law.specs.hwp_geom.declared.Thread.{Thread}
use Rattle.hwp_law.specs.hwp_geom.declared.VSlot.{VSlot}
use Rattle.hwp_law.specs.hwp_geom.declared.Who.{Who}
use Rattle.hwp_law.specs.hwp_banks.declared.Event.{Event}
use Rattle.hwp_law.specs.hwp_banks.declared.Status.{Status}
use Rattle.hwp_law.specs.hwp_banks.Status.{is_action_required}
use Rattle.hwp_law.specs.hwp_page.declared.Outcome.{Outcome}
use Rattle.hwp_law.specs.hwp_page.declared.Outcome.TheVariants as outcomes
use Rattle.hwp_law.specs.hwp_page.Situations.{outcome_of}
use Rattle.hwp_law.specs.hwp_severity.declared.Grade.{Grade}
use Rattle.hwp_law.specs.hwp_severity.declared.McgBits.{McgBits}
use Rattle.hwp_law.specs.hwp_severity.declared.Severity.{Severity}
use Rattle.hwp_law.specs.hwp_severity.declared.Severity.TheVariants as severities
use Rattle.hwp_law.specs.hwp_severity.Graded as grades
use Rattle.hwp_law.specs.hwp_severity.Graded.{first_match, graded, is_access, is_placed, is_user}
use Rattle.hwp_plain.specs.hwp_core_rule.declared.View.{View}
use Rattle.hwp_plain.specs.hwp_core_rule.Lists.{EachMember}
use Rattle.hwp_plain.proofs.of_hwp_core_rule.Lists.{at_map, map-was}
use Rattle.hwp_law.specs.hwp_script_words.declared.Command.{Command}
use Rattle.hwp_law.specs.hwp_report_text.declared.Acted.{Acted}
use Rattle.hwp_law.specs.hwp_report_text.declared.Acted.TheVariants as acts
use Rattle.hwp_law.specs.hwp_report_text.declared.Answer.{Answer}
use Rattle.hwp_law.specs.hwp_banks.Banks.{Banks}
use Rattle.hwp_law.specs.Commands.{current_thread}
use Rattle.hwp_law.specs.hwp_severity.declared.Arrival.{Arrival}
use Rattle.hwp_law.specs.Outcomes.{outcome_act}
use Rattle.hwp_law.specs.Records.{result_of}
use Rattle.hwp_cpu_row.specs.hwp_claim.declared.Found.{Found}
use Rattle.hwp_cpu_row.specs.hwp_claim.declared.Held.{Held}
use Rattle.hwp_cpu_row.specs.hwp_claim.declared.EventOutcome.{EventOutcome}
use Rattle.hwp_cpu_row.specs.hwp_claim.Events.{graded_in}
use Rattle.hwp_cpu_row.specs.hwp_claim.Fits.{AreTold, HasPoisoned, IsDone, IsEntered, IsFailed, IsTold}
use Rattle.hwp_cpu_row.specs.hwp_claim.Told.{at_once, frame_of, required_by, severity_at_once}
use Rattle.hwp_law_served.specs.Told.{AreToldWith}
use Rattle.hwp_law_served.proofs.RowTold.{IsToldRight, told-each}
use Rattle.hwp_law_served.proofs.copied.CopyTells.{told-with}

-- the result of a failure that found this
abbrev pub found_act : Found → Acted
found_act found = outcome_act (outcome_of found.situation)

pub record IsRight (layout : Layout) (view : View) (who : Who) (thread : Option Thread) (t : EventOutcome) : Type 0 where
  pub told : IsToldRight layout view who thread t
  pub result : result_of t.acted ≡ option_map found_act t.found
  pub found : (found : Found) → t.found ≡ Some found → HasPoisoned view who (frame_of t.held) found.cycle × IsEntered layout view who (frame_of t.held) (required_by thread t.held.grade.severity) found found.at
  pub urgent : (t.held.grade.row == 9) ≡ is_some (required_by thread t.held.grade.severity)

-- ---- what is done at once is no result

abbrev silent : Option Acted → Option Acted
silent o = option_and_then result_of o

failure-silent : (x y z : Bool) → silent (cond x (Some acts.Held) (cond y (Some acts.Outside) (cond z None (Some acts.Panic)))) ≡ None
failure-silent true y z = refl
failure-silent false true z = refl
failure-silent false false true = refl
failure-silent false false false = refl

severity-silent : (layout : Layout) (b : Bool) (frame : ℕ) (severity : Severity) → silent (severity_at_once layout b frame severity) ≡ None
severity-silent layout b frame severities.Stop = refl
severity-silent layout b frame severities.None = refl
severity-silent layout b frame severities.Keep = refl
severity-silent layout b frame severities.Deferred = refl
severity-silent layout b frame severities.Logged = refl
severity-silent layout b frame severities.Optional = failure-silent b (nat_le layout.frames frame) layout.recovery
severity-silent layout b frame severities.Required = failure-silent b (nat_le layout.frames frame) layout.recovery

result-came : (o : Outcome) → result_of (outcome_act o) ≡ Some (outcome_act o)
result-came outcomes.Recovered = refl
result-came outcomes.Delayed = refl
result-came outcomes.Ignored = refl

-- ---- only row S9 grades an event as required, in user mode

-- the grade of each row that matches is so, and of the last
abbrev EachRow : (Grade → Type 0) → List grades.Row → Type 0
EachRow P [] = P (record { severity = severities.Logged; row = 14 })
EachRow P (r ∷ rs) = (r.1 ≡ true → P (record { severity = r.2; row = r.0 })) × EachRow P rs

first-so : (P : Grade → Type 0) (rows : List grades.Row) → EachRow P rows → P (first_match rows)
first-so P [] last = last
first-so P (r ∷ rs) (here, rest) = which r.1 refl (first-so P rs rest)
  where
    which : (b : Bool) → r.1 ≡ b → P (first_match rs) → P (cond b (record { severity = r.2; row = r.0 }) (first_match rs))
    which true is later = here is
    which false is later = later

abbrev IsUrgent : Option Thread → Grade → Type 0
IsUrgent thread grade = (grade.row == 9) ≡ is_some (required_by thread grade.severity)

fourth : (a b c d e : Bool) → (a && b && c && d && e) ≡ true → d ≡ true
fourth true true true true e on = refl
fourth true true true false e on = absurd (true≢false (sym on))
fourth true true false d e on = absurd (true≢false (sym on))
fourth true false c d e on = absurd (true≢false (sym on))
fourth false b c d e on = absurd (true≢false (sym on))

urgent-so : (thread : Option Thread) (s : Status) (g : McgBits) (m : Mode) → (is_user m ≡ true → is_some thread ≡ true) → IsUrgent thread (graded s g m)
urgent-so thread s g m some = first-so (IsUrgent thread) (grades.rows s g m) (λ on. refl, (λ on. refl, (λ on. refl, (λ on. refl, (λ on. refl, (λ on. refl, (λ on. refl, (λ on. refl, (λ on. sym (some (fourth (is_action_required s) (is_access s) (is_placed s) (is_user m) g.ripv on)), (λ on. refl, (λ on. refl, (λ on. refl, (λ on. refl, refl)))))))))))))

-- ---- a machine check

module _ (layout : Layout) (view : View) (who : Who) where
  right-so : (thread : Option Thread) (b : Bool) (t : EventOutcome) → IsUrgent thread t.held.grade → IsTold layout view who thread b t → IsRight layout view who thread t
  right-so thread b t urgent told = which (at_once layout b t.held) refl told
    where
      came : (o : Option Found) → t.found ≡ o → IsFailed layout view who (frame_of t.held) (required_by thread t.held.grade.severity) t.acted o → IsRight layout view who thread t
      came None none_ (already, saw) = record {
        told = (b, told);
        result = ap result_of already ∙ sym (ap (option_map found_act) none_);
        found = λ found some. absurd (none-some found (sym none_ ∙ some));
        urgent = urgent;
      }
      came (Some f) some (acted, poisoned, entered) = record {
        told = (b, told);
        result = ap result_of acted ∙ result-came (outcome_of f.situation) ∙ sym (ap (option_map found_act) some);
        found = λ found is.
            subst (λ (x : Found). HasPoisoned view who (frame_of t.held) x.cycle × IsEntered layout view who (frame_of t.held) (required_by thread t.held.grade.severity) x x.at) (same_Some f found (sym some ∙ is)) (poisoned, entered);
        urgent = urgent;
      }

      which : (o : Option Acted) → at_once layout b t.held ≡ o → IsDone layout view who (required_by thread t.held.grade.severity) t o → IsRight layout view who thread t
      which None none_ failed = came t.found refl failed
      which (Some acted) some (is, none_) = record {
        told = (b, told);
        result = ap result_of is ∙ sym (ap silent some) ∙ severity-silent layout b _ t.held.grade.severity ∙ sym (ap (option_map found_act) none_);
        found = λ found other. absurd (none-some found (sym none_ ∙ other));
        urgent = urgent;
      }

  events-right : (thread : Option Thread) (how : Arrival) (events : List (ℕ × Event)) (held_back : Bool) (lines : List EventOutcome) → (is_user how.mode ≡ true → is_some thread ≡ true)
      → map (λ (t : EventOutcome). t.held) lines ≡ map (graded_in how) events → AreTold layout view who thread held_back lines → EachMember (IsRight layout view who thread) lines
  events-right thread how events held_back lines user held are i t there =
      let told = told-each layout view who thread held_back lines are i t there in
      let was = map-was (graded_in how) events i t.held (sym (ap (λ (l : List Held). slice_get l i) held) ∙ at_map (λ (x : EventOutcome). x.held) lines i t there) in
      right-so thread told.0 t (subst (λ (h : Held). IsUrgent thread h.grade) was.2 (urgent-so thread was.0.1.status how.mcg how.mode user)) told.1

  -- of each command
  pub told-right : (copied : Option VSlot) (command : Command) (answer : Answer) (before : Banks) (told : List EventOutcome) (after : Banks) → AreToldWith layout copied view who command answer before told after → EachMember (IsRight layout view who (current_thread command)) told
  told-right = told-with layout view who (IsRight layout view who) events-right
