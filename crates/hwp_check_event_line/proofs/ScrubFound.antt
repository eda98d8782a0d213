-- What the law says of a frame that a scrub goes over, in lines.
use Rattle.std.proofs.Common.{◌≡◌, ℕ, ◌||◌, Bool, true, false, List, [], ◌∷◌, Option, Some, None, refl, sym, ap, subst}
use Rattle.std.proofs.lemmas.Option.{same_Some}
use Rattle.hwp_banks.specs.hwp_geom.declared.Frame.{Frame}
use Rattle.hwp_banks.specs.hwp_geom.declared.Who.{Who}
use Rattle.hwp_banks.specs.Events.{own_event}
use Rattle.hwp_banks.specs.declared.Event.{Event}
use Rattle.hwp_banks.specs.declared.Origin.TheVariants as origins
use Rattle.hwp_law.specs.hwp_script_words.declared.Script.{Script}
use Rattle.hwp_law.specs.hwp_report_text.declared.Report.{Report}
use Rattle.hwp_law.specs.Checks.{AreLinesOf, IsLineOf}
use Rattle.hwp_law.specs.hwp_report_text.Acts.{is_panic}
use Rattle.hwp_banks.specs.Banks.{Banks}
use Rattle.hwp_law.specs.hwp_severity.Handling.{has_stop}
use Rattle.hwp_law.specs.hwp_severity.declared.Arrival.{Arrival}
use Rattle.hwp_law.specs.Events.{IsBadFound, IsDamaged, IsWeakFound}
use Rattle.hwp_law.specs.hwp_report_text.declared.EventLine.{EventLine}
use Rattle.hwp_check_event_line.specs.Found.{has_stopper, resting, stops}
use Rattle.hwp_check_event_line.proofs.FoundLaws.{banks_at, one-line, two-lines}

or-turned : (a b : Bool) → (a || (b || false)) ≡ (b || a)
or-turned true true = refl
or-turned true false = refl
or-turned false true = refl
or-turned false false = refl

stop-bad : (how : Arrival) (raw : Option Event) (frame : Frame) (at : ℕ) → has_stop how (banks_at origins.BadLine raw frame at) ≡ has_stopper how origins.BadLine raw
stop-bad how None frame at = refl
stop-bad how (Some event) frame at = or-turned (stops how event) (stops how (own_event origins.BadLine frame at))

module _ (script : Script) (report : Report) (who : Who) (how : Arrival) where
  -- the lines of a bad line that is met, by what bank 1 holds
  abbrev pub BadLines : Option Event → Frame → ℕ → List EventLine → Type 0
  BadLines None frame at lines = (l : EventLine) × (lines ≡ l ∷ []) × IsLineOf script report who how (has_stopper how origins.BadLine None) 2 (own_event origins.BadLine frame at) l
  BadLines (Some event) frame at lines =
      (m l : EventLine) × (lines ≡ m ∷ l ∷ []) × IsLineOf script report who how (has_stopper how origins.BadLine (Some event)) 1 event m
      × IsLineOf script report who how (has_stopper how origins.BadLine (Some event) || is_panic m.acted) 2 (own_event origins.BadLine frame at) l

  -- a bad line may be met in a frame, with these lines, and leaves this in bank 1; and a weak line
  abbrev pub BadMet : Option ℕ → Option Event → Frame → List EventLine → Option Event → Type 0
  BadMet None raw frame lines left = (lines ≡ []) × (left ≡ raw)
  BadMet (Some at) raw frame lines left = IsDamaged report origins.BadLine frame.0 at × BadLines raw frame at lines × (left ≡ None)

  abbrev pub WeakMet : Option ℕ → Frame → List EventLine → Type 0
  WeakMet None frame lines = lines ≡ []
  WeakMet (Some at) frame lines = IsDamaged report origins.WeakLine frame.0 at × ((l : EventLine) × (lines ≡ l ∷ []) × IsLineOf script report who how false 2 (own_event origins.WeakLine frame at) l)

  pub bad-forth : (met : Option ℕ) (raw : Option Event) (frame : Frame) (lines : List EventLine) (after : Banks) → IsBadFound script report who how frame met (resting raw) lines after
      → (left : Option Event) × BadMet met raw frame lines left × (after ≡ resting left)
  bad-forth None raw frame lines after found = (raw, (found.0, refl), found.1)
  bad-forth (Some at) None frame lines after found = (None, (found.0, one-line script report who how (has_stopper how origins.BadLine None) 2 (own_event origins.BadLine frame at) lines found.2, refl), found.1)
  bad-forth (Some at) (Some event) frame lines after found =
      (None, (found.0, two-lines script report who how (has_stopper how origins.BadLine (Some event)) 1 event lines 2 (own_event origins.BadLine frame at) (subst (λ (s : Bool). AreLinesOf script report who how s ((1, event) ∷ (2, own_event origins.BadLine frame at) ∷ []) lines) (stop-bad how (Some event) frame at) found.2), refl), found.1)

  pub bad-back : (met : Option ℕ) (raw : Option Event) (frame : Frame) (lines : List EventLine) (left : Option Event) → BadMet met raw frame lines left → IsBadFound script report who how frame met (resting raw) lines (resting left)
  bad-back None raw frame lines left found = (found.0, ap resting found.1)
  bad-back (Some at) None frame lines left (damaged, (l, lines_are, is), left_is) =
      (damaged, ap resting left_is, subst (λ (ls : List EventLine). AreLinesOf script report who how (has_stopper how origins.BadLine None) ((2, own_event origins.BadLine frame at) ∷ []) ls) (sym lines_are) (is, record {}))
  bad-back (Some at) (Some event) frame lines left (damaged, (m, l, lines_are, first, second), left_is) = (
    damaged,
    ap resting left_is,
    subst (λ (s : Bool). AreLinesOf script report who how s ((1, event) ∷ (2, own_event origins.BadLine frame at) ∷ []) lines) (sym (stop-bad how (Some event) frame at))
        (subst (λ (ls : List EventLine). AreLinesOf script report who how (has_stopper how origins.BadLine (Some event)) ((1, event) ∷ (2, own_event origins.BadLine frame at) ∷ []) ls) (sym lines_are) (first, (second, record {}))),
  )

  pub weak-forth : (met : Option ℕ) (raw : Option Event) (frame : Frame) (lines : List EventLine) (after : Banks) → IsWeakFound script report who how frame met (resting raw) lines after → WeakMet met frame lines × (after ≡ resting raw)
  weak-forth None raw frame lines after found = (found.0, found.1)
  weak-forth (Some at) raw frame lines after (event, damaged, logged, are, after_is) =
      let own : own_event origins.WeakLine frame at ≡ event = same_Some _ _ (same_Some _ _ logged) in
      ((damaged, subst (λ (e : Event). (l : EventLine) × (lines ≡ l ∷ []) × IsLineOf script report who how false 2 e l) (sym own) (one-line script report who how false 2 event lines are)), after_is)

  pub weak-back : (met : Option ℕ) (raw : Option Event) (frame : Frame) (lines : List EventLine) → WeakMet met frame lines → IsWeakFound script report who how frame met (resting raw) lines (resting raw)
  weak-back None raw frame lines found = (found, refl)
  weak-back (Some at) raw frame lines (damaged, (l, lines_are, is)) =
      (own_event origins.WeakLine frame at, damaged, refl, subst (λ (ls : List EventLine). AreLinesOf script report who how false ((2, own_event origins.WeakLine frame at) ∷ []) ls) (sym lines_are) (is, record {}), refl)
