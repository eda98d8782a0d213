-- A command that stopped the machine could stop it for the cause that the stop record tells.
use Rattle.std.proofs.Common.{◌≡◌, ℕ, zero, suc, ◌==◌, ◌&&◌, ◌||◌, nat_le, nat_lt, Bool, true, false, cond, List, [], ◌∷◌, Option, Some, None, find, map, option_map, slice_get, take, refl, sym, ap, ◌∙◌, subst, true≢false}
use Rattle.std.specs.List.{list_any}
use Rattle.std.specs.Option.{option_or}
use Rattle.std.proofs.lemmas.Bool.{and_from, eq-eqb}
use Rattle.std.proofs.lemmas.Option.{none-some, same_Some}
use Rattle.hwp_law_served.specs.hwp_geom.declared.Frame.{Frame}
use Rattle.hwp_law_served.specs.hwp_geom.declared.Layout.{Layout}
use Rattle.hwp_law_served.specs.hwp_geom.declared.Thread.{Thread}
use Rattle.hwp_law_served.specs.hwp_geom.declared.Who.{Who}
use Rattle.hwp_law_served.specs.hwp_banks.Addresses.{frame_at}
use Rattle.hwp_law_served.specs.hwp_page.declared.Outcome.{Outcome}
use Rattle.hwp_law_served.specs.hwp_page.declared.Outcome.TheVariants as outcomes
use Rattle.hwp_law_served.specs.hwp_page.Situations.{outcome_of}
use Rattle.hwp_law_served.specs.hwp_core_rule.declared.View.{View}
use Rattle.hwp_law_served.specs.hwp_core_rule.Lists.{EachMember}
use Rattle.hwp_law_served.proofs.of_hwp_core_rule.Lists.{at_map}
use Rattle.hwp_law_served.specs.hwp_severity.declared.Severity.{Severity}
use Rattle.hwp_law_served.specs.hwp_severity.declared.Severity.TheVariants as severities
use Rattle.hwp_law_served.specs.hwp_script_words.declared.Command.{Command}
use Rattle.hwp_law_served.specs.hwp_script_words.declared.Command.TheVariants as commands
use Rattle.hwp_law_served.specs.hwp_script_words.declared.Script.{Script}
use Rattle.hwp_law_served.specs.hwp_report_text.declared.Acted.{Acted}
use Rattle.hwp_law_served.specs.hwp_report_text.declared.Acted.TheVariants as acts
use Rattle.hwp_law_served.specs.hwp_report_text.declared.EventLine.{EventLine}
use Rattle.hwp_law_served.specs.hwp_report_text.declared.Report.{Report}
use Rattle.hwp_law_served.specs.hwp_report_text.declared.StopCause.{StopCause}
use Rattle.hwp_law_served.specs.hwp_law.Notes.{ends_machine}
use Rattle.hwp_law_served.specs.hwp_report_text.Acts.{is_panic, is_stopping}
use Rattle.hwp_law_served.specs.hwp_law.Commands.{arrival_of}
use Rattle.hwp_law_served.specs.hwp_law.Halts.{CanStop as CanStopFor, Panics, is_panic_of}
use Rattle.hwp_law_served.specs.hwp_law.Lines.{events_of}
use Rattle.hwp_law_served.specs.hwp_law.Outcomes.{outcome_act}
use Rattle.hwp_law_served.specs.hwp_claim.declared.Found.{Found}
use Rattle.hwp_law_served.specs.hwp_claim.declared.EventOutcome.{EventOutcome}
use Rattle.hwp_law_served.specs.hwp_claim.Fits.{IsDone, IsFailed}
use Rattle.hwp_law_served.specs.hwp_claim.Told.{at_once, frame_of, halts, required_by, severity_at_once}
use Rattle.hwp_law_served.specs.hwp_cpu_row.Acts.{event_at}
use Rattle.hwp_law_served.specs.Runs.{IsCauseOf, panic_cause, severity_cause, told_cause}
use Rattle.hwp_law_served.specs.Served.{CanStop}
use Rattle.hwp_law_served.proofs.RowTold.{IsToldRight}

-- ---- lists

-- the first member that passes the test
pub record IsFirst {A : Type 0} (test : A → Bool) (l : List A) (x : A) : Type 0 where
  pub place : ℕ
  pub there : slice_get l place ≡ Some x
  pub passes : test x ≡ true
  pub before : list_any test (take place l) ≡ false

found-first : {A : Type 0} (test : A → Bool) (l : List A) (x : A) → find test l ≡ Some x → IsFirst test l x
found-first test [] x is = absurd (none-some x is)
found-first {A} test (y ∷ ys) x is = which (test y) refl is (found-first test ys x)
  where
    which : (b : Bool) → test y ≡ b → cond b (Some y) (find test ys) ≡ Some x → (find test ys ≡ Some x → IsFirst test ys x) → IsFirst test (y ∷ ys) x
    which true passes is rest = record { place = 0; there = is; passes = ap test (sym (same_Some y x is)) ∙ passes; before = refl }
    which false fails is rest =
        let later = rest is in
        record { place = suc later.place; there = later.there; passes = later.passes; before = ap (λ (b : Bool). b || list_any test (take later.place ys)) fails ∙ later.before }

-- a member that passes the test
some-passes : {A : Type 0} (test : A → Bool) (l : List A) (k : ℕ) (x : A) → slice_get l k ≡ Some x → test x ≡ true → list_any test l ≡ true
some-passes test [] k x there passes = absurd (none-some x there)
some-passes test (y ∷ ys) zero x there passes = ap (λ (b : Bool). b || list_any test ys) (ap test (same_Some y x there) ∙ passes)
some-passes test (y ∷ ys) (suc k) x there passes = ap (λ (b : Bool). test y || b) (some-passes test ys k x there passes) ∙ or-true (test y)
  where
    or-true : (b : Bool) → (b || true) ≡ true
    or-true true = refl
    or-true false = refl

-- ---- lines

-- the lines of a command end the machine where its events do
pub ends-by : (seq : ℕ) (told : List EventOutcome) → list_any ends_machine (map (event_at seq) told) ≡ halts told
ends-by seq [] = refl
ends-by seq (t ∷ ts) = ap (λ (b : Bool). (is_stopping t.acted || is_panic t.acted) || b) (ends-by seq ts)

-- no line before stops the machine by a lower bank
none-lower : (seq bank k : ℕ) (told : List EventOutcome) → list_any (λ (t : EventOutcome). is_stopping t.acted) (take k told) ≡ false → list_any (λ (l : EventLine). is_stopping l.acted && nat_lt l.bank bank) (take k (map (event_at seq) told)) ≡ false
none-lower seq bank zero told none = refl
none-lower seq bank (suc k) [] none = refl
none-lower seq bank (suc k) (t ∷ ts) none = which (is_stopping t.acted) refl (none-lower seq bank k ts) none
  where
    which : (b : Bool) → is_stopping t.acted ≡ b → (list_any (λ (x : EventOutcome). is_stopping x.acted) (take k ts) ≡ false → list_any (λ (l : EventLine). is_stopping l.acted && nat_lt l.bank bank) (take k (map (event_at seq) ts)) ≡ false)
        → (b || list_any (λ (x : EventOutcome). is_stopping x.acted) (take k ts)) ≡ false
        → ((is_stopping t.acted && nat_lt t.held.bank bank) || list_any (λ (l : EventLine). is_stopping l.acted && nat_lt l.bank bank) (take k (map (event_at seq) ts))) ≡ false
    which true is rest never = absurd (true≢false never)
    which false is rest later = ap (λ (b : Bool). (b && nat_lt t.held.bank bank) || list_any (λ (l : EventLine). is_stopping l.acted && nat_lt l.bank bank) (take k (map (event_at seq) ts))) is ∙ rest later

-- ---- a panic

-- an event was a panic of a machine that doesn't recover
panic-failure : (x y z : Bool) (acted : Acted) → cond x (Some acts.Held) (cond y (Some acts.Outside) (cond z None (Some acts.Panic))) ≡ Some acted → is_panic acted ≡ true → z ≡ false
panic-failure true y z acted is panics = absurd (true≢false (sym panics ∙ ap is_panic (sym (same_Some acts.Held acted is))))
panic-failure false true z acted is panics = absurd (true≢false (sym panics ∙ ap is_panic (sym (same_Some acts.Outside acted is))))
panic-failure false false true acted is panics = absurd (none-some acted is)
panic-failure false false false acted is panics = refl

panic-once : (layout : Layout) (held_back : Bool) (frame : ℕ) (severity : Severity) (acted : Acted) → severity_at_once layout held_back frame severity ≡ Some acted → is_panic acted ≡ true → layout.recovery ≡ false
panic-once layout held_back frame severities.Stop acted is panics = absurd (true≢false (sym panics ∙ ap is_panic (sym (same_Some acts.Stop acted is))))
panic-once layout held_back frame severities.None acted is panics = absurd (true≢false (sym panics ∙ ap is_panic (sym (same_Some acts.None acted is))))
panic-once layout held_back frame severities.Keep acted is panics = absurd (true≢false (sym panics ∙ ap is_panic (sym (same_Some acts.Keep acted is))))
panic-once layout held_back frame severities.Deferred acted is panics = absurd (true≢false (sym panics ∙ ap is_panic (sym (same_Some acts.Deferred acted is))))
panic-once layout held_back frame severities.Logged acted is panics = absurd (true≢false (sym panics ∙ ap is_panic (sym (same_Some acts.Logged acted is))))
panic-once layout held_back frame severities.Optional acted is panics = panic-failure held_back (nat_le layout.frames frame) layout.recovery acted is panics
panic-once layout held_back frame severities.Required acted is panics = panic-failure held_back (nat_le layout.frames frame) layout.recovery acted is panics

result-no-panic : (o : Outcome) → is_panic (outcome_act o) ≡ false
result-no-panic outcomes.Recovered = refl
result-no-panic outcomes.Delayed = refl
result-no-panic outcomes.Ignored = refl

unrecovered : (layout : Layout) (view : View) (who : Who) (thread : Option Thread) (t : EventOutcome) → IsToldRight layout view who thread t → is_panic t.acted ≡ true → layout.recovery ≡ false
unrecovered layout view who thread t (held_back, right) panics = which (at_once layout held_back t.held) refl right
  where
    failed : (found : Option Found) → IsFailed layout view who (frame_of t.held) (required_by thread t.held.grade.severity) t.acted found → layout.recovery ≡ false
    failed None is = absurd (true≢false (sym panics ∙ ap is_panic is.0))
    failed (Some found) is = absurd (true≢false (sym panics ∙ ap is_panic is.0 ∙ result-no-panic (outcome_of found.situation)))

    which : (o : Option Acted) → at_once layout held_back t.held ≡ o → IsDone layout view who (required_by thread t.held.grade.severity) t o → layout.recovery ≡ false
    which None none done = failed t.found done
    which (Some acted) is done = panic-once layout held_back (frame_at t.held.event.addr) t.held.grade.severity acted is (ap is_panic (sym done.0) ∙ panics)

-- ---- the cause

module _ (script : Script) (report : Report) (view : View) (who : Who) where
  -- of a command whose events stopped the machine
  module _ (command : Command) (told : List EventOutcome) (thread : Option Thread) (lines : events_of report who ≡ map (event_at who.seq) told) (right : EachMember (IsToldRight script.layout view who thread) told)
      (panics : (frame : Frame) → list_any (is_panic_of frame) (events_of report who) ≡ true → Panics report who frame command) where
    by-severity : (t : EventOutcome) → IsFirst (λ (x : EventOutcome). is_stopping x.acted) told t → CanStopFor script report who command (severity_cause (arrival_of command) t)
    by-severity t first = (
      record {
        place = first.place;
        line = event_at who.seq t;
        there = ap (λ (l : List EventLine). slice_get l first.place) lines ∙ at_map (event_at who.seq) told first.place t first.there;
        stops = first.passes;
        bank_is = refl;
        status_is = refl;
        row_is = refl;
        lowest = ap (λ (l : List EventLine). list_any (λ (x : EventLine). is_stopping x.acted && nat_lt x.bank t.held.bank) (take first.place l)) lines ∙ none-lower who.seq t.held.bank first.place told first.before;
      },
      refl,
    )

    by-panic : (t : EventOutcome) → IsFirst (λ (x : EventOutcome). is_panic x.acted) told t → CanStopFor script report who command (panic_cause t)
    by-panic t first = (
      unrecovered script.layout view who thread t (right first.place t first.there) first.passes,
      panics (frame_of t.held) (ap (list_any (is_panic_of (frame_of t.held))) lines
          ∙ some-passes (is_panic_of (frame_of t.held)) (map (event_at who.seq) told) first.place (event_at who.seq t) (at_map (event_at who.seq) told first.place t first.there)
          (and_from (is_panic t.acted) (frame_at t.held.event.addr == frame_at t.held.event.addr) first.passes (eq-eqb (frame_at t.held.event.addr) (frame_at t.held.event.addr) refl))),
    )

    by-event : (cause : StopCause) → told_cause (arrival_of command) told ≡ Some cause → CanStopFor script report who command cause
    by-event cause is = which (find (λ (t : EventOutcome). is_stopping t.acted) told) (find (λ (t : EventOutcome). is_panic t.acted) told) refl refl is
      where
        which : (a b : Option EventOutcome) → find (λ (t : EventOutcome). is_stopping t.acted) told ≡ a → find (λ (t : EventOutcome). is_panic t.acted) told ≡ b
            → option_or (option_map (severity_cause (arrival_of command)) a) (option_map panic_cause b) ≡ Some cause → CanStopFor script report who command cause
        which (Some t) b stops panics is = subst (CanStopFor script report who command) (same_Some (severity_cause (arrival_of command) t) cause is) (by-severity t (found-first (λ (x : EventOutcome). is_stopping x.acted) told t stops))
        which None (Some t) stops panics is = subst (CanStopFor script report who command) (same_Some (panic_cause t) cause is) (by-panic t (found-first (λ (x : EventOutcome). is_panic x.acted) told t panics))
        which None None stops panics is = absurd (none-some cause is)

  pub can-stop : (command : Command) (told : List EventOutcome) (thread : Option Thread) (cause : StopCause) → events_of report who ≡ map (event_at who.seq) told → EachMember (IsToldRight script.layout view who thread) told
      → CanStop script.layout command told → IsCauseOf command told cause → CanStopFor script report who command cause
  can-stop commands.RaiseNested told thread cause lines right can is = subst (CanStopFor script report who commands.RaiseNested) (sym is) tt
  can-stop (commands.Inject frame) told thread cause lines right can is = subst (CanStopFor script report who (commands.Inject frame)) (sym is) (can, refl)
  can-stop command told thread cause lines right can is = by-event command told thread lines right (λ frame any. any) cause is
