-- What a machine check finds in the banks, by what bank 1 held.
use Rattle.std.proofs.Common.{◌≡◌, ℕ, ◌||◌, Bool, true, false, List, [], ◌∷◌, Option, Some, None, true≢false, refl, sym, ap, ◌∙◌}
use Rattle.std.specs.List.{list_any}
use Rattle.hwp_banks.specs.hwp_geom.declared.Frame.{Frame}
use Rattle.hwp_banks.specs.hwp_geom.declared.Who.{Who}
use Rattle.hwp_banks.specs.Events.{bank_of, own_event}
use Rattle.hwp_banks.specs.Logged.{Class, Corrected, Uncorrected, Fatal, class_of, overwritten}
use Rattle.hwp_banks.specs.declared.Event.{Event}
use Rattle.hwp_banks.specs.declared.Origin.{Origin}
use Rattle.hwp_banks.specs.declared.Origin.TheVariants as origins
use Rattle.hwp_banks.specs.declared.Status.{Status}
use Rattle.hwp_law.specs.hwp_script_words.declared.Script.{Script}
use Rattle.hwp_law.specs.hwp_report_text.declared.Report.{Report}
use Rattle.hwp_law.specs.Checks.{AreLinesOf, IsLineOf}
use Rattle.hwp_law.specs.hwp_report_text.Acts.{is_panic}
use Rattle.hwp_banks.specs.Banks.{Banks, held_from, log_in}
use Rattle.hwp_law.specs.hwp_severity.Handling.{has_stop, is_stop, severity_of}
use Rattle.hwp_law.specs.hwp_severity.declared.Arrival.{Arrival}
use Rattle.hwp_law.specs.hwp_report_text.declared.EventLine.{EventLine}
use Rattle.hwp_check_event_line.specs.Found.{beside, has_stopper, may_stop, of_access, own_found, resting, stops}

-- the banks in a machine check of an own event
abbrev pub banks_at : Origin → Option Event → Frame → ℕ → Banks
banks_at origin raw frame at = log_in (bank_of origin) (own_event origin frame at) (resting raw)

-- what bank 1 holds
abbrev pub held_raw : Option Event → List (ℕ × Event)
held_raw None = []
held_raw (Some event) = (1, event) ∷ []

pub found-is : (origin : Origin) → of_access origin ≡ true → (raw : Option Event) (frame : Frame) (at : ℕ) → held_from 0 (banks_at origin raw frame at) ≡ (bank_of origin, own_found origin raw frame at) ∷ held_raw (beside origin raw)
found-is origins.Access is None frame at = refl
found-is origins.Access is (Some event) frame at = refl
found-is origins.Fetch is None frame at = refl
found-is origins.Fetch is (Some event) frame at = refl
found-is origins.BadLine is raw frame at = absurd (true≢false (sym is))
found-is origins.WeakLine is raw frame at = absurd (true≢false (sym is))

-- how severe the own event is says nothing of its line
same-status : (c : Class) (first a b : Event) → a.status ≡ b.status → (overwritten c Uncorrected first a).status ≡ (overwritten c Uncorrected first b).status
same-status Corrected first a b same = ap (λ (s : Status). (overwritten Corrected Uncorrected first (record { status = s; addr = 0; misc = 0 })).status) same
same-status Uncorrected first a b same = ap (λ (s : Status). (overwritten Uncorrected Uncorrected first (record { status = s; addr = 0; misc = 0 })).status) same
same-status Fatal first a b same = refl

own-status : (origin : Origin) → of_access origin ≡ true → (raw : Option Event) (frame other : Frame) (at elsewhere : ℕ) → (own_found origin raw frame at).status ≡ (own_found origin raw other elsewhere).status
own-status origins.Access is raw frame other at elsewhere = refl
own-status origins.Fetch is None frame other at elsewhere = refl
own-status origins.Fetch is (Some event) frame other at elsewhere = same-status (class_of event.status) event (own_event origins.Fetch frame at) (own_event origins.Fetch other elsewhere) refl
own-status origins.BadLine is raw frame other at elsewhere = absurd (true≢false (sym is))
own-status origins.WeakLine is raw frame other at elsewhere = absurd (true≢false (sym is))

pub same-stop : (how : Arrival) (origin : Origin) → of_access origin ≡ true → (raw : Option Event) (frame other : Frame) (at elsewhere : ℕ) → stops how (own_found origin raw frame at) ≡ stops how (own_found origin raw other elsewhere)
same-stop how origin is raw frame other at elsewhere = ap (λ (s : Status). stops how (record { status = s; addr = 0; misc = 0 })) (own-status origin is raw frame other at elsewhere)

pub or-none : (b : Bool) → (b || false) ≡ b
or-none true = refl
or-none false = refl

pub stop-is : (how : Arrival) (origin : Origin) → of_access origin ≡ true → (raw : Option Event) (frame : Frame) (at : ℕ) → has_stop how (banks_at origin raw frame at) ≡ has_stopper how origin raw
stop-is how origin is raw frame at = ap (list_any (λ (b : ℕ × Event). is_stop (severity_of how b.1))) (found-is origin is raw frame at) ∙ at-raw (beside origin raw)
  where
    at-raw : (o : Option Event) → (stops how (own_found origin raw frame at) || list_any (λ (b : ℕ × Event). is_stop (severity_of how b.1)) (held_raw o)) ≡ (stops how (own_found origin raw (record { 0 = 0 }) 0) || may_stop how o)
    at-raw None = ap (λ (x : Bool). x || false) (same-stop how origin is raw frame (record { 0 = 0 }) at 0)
    at-raw (Some event) = ap (λ (x : Bool). x || (stops how event || false)) (same-stop how origin is raw frame (record { 0 = 0 }) at 0) ∙ ap (λ (x : Bool). stops how (own_found origin raw (record { 0 = 0 }) 0) || x) (or-none (stops how event))

-- the lines of a machine check that finds one event, or two
module _ (script : Script) (report : Report) (who : Who) (how : Arrival) where
  pub one-line : (held : Bool) (bank : ℕ) (event : Event) (lines : List EventLine) → AreLinesOf script report who how held ((bank, event) ∷ []) lines → (l : EventLine) × (lines ≡ l ∷ []) × IsLineOf script report who how held bank event l
  one-line held bank event [] none = absurd none
  one-line held bank event (l ∷ []) is = (l, refl, is.0)
  one-line held bank event (l ∷ m ∷ ms) is = absurd is.1

  pub two-lines : (held : Bool) (bank : ℕ) (event : Event) (lines : List EventLine) (b : ℕ) (e : Event) → AreLinesOf script report who how held ((bank, event) ∷ (b, e) ∷ []) lines
      → (l m : EventLine) × (lines ≡ l ∷ m ∷ []) × IsLineOf script report who how held bank event l × IsLineOf script report who how (held || is_panic l.acted) b e m
  two-lines held bank event [] b e none = absurd none
  two-lines held bank event (l ∷ []) b e is = absurd is.1
  two-lines held bank event (l ∷ m ∷ []) b e is = (l, m, refl, is.0, is.1.0)
  two-lines held bank event (l ∷ m ∷ n ∷ ns) b e is = absurd is.1.1
