-- The line of an own event of a machine check of an access: the frame that its address says decides, or any that is bad there.
use Rattle.std.proofs.Common.{◌≡◌, ◌⊎◌, ◌↔◌, inl, inr, ℕ, ◌<◌, ◌||◌, Bool, true, Option, Some, None, true≢false, refl, sym, ap, ◌∙◌, subst}
use Rattle.std.specs.Int.{IsBitSet}
use Rattle.hwp_banks.specs.hwp_geom.declared.Frame.{Frame}
use Rattle.hwp_banks.specs.hwp_geom.declared.Who.{Who}
use Rattle.hwp_banks.specs.Addresses.{frame_at, line_address}
use Rattle.hwp_banks.specs.Events.{bank_of, own_event}
use Rattle.hwp_banks.specs.Logged.{Class, Corrected, Uncorrected, Fatal, class_of, overwritten}
use Rattle.hwp_banks.specs.declared.Event.{Event}
use Rattle.hwp_banks.specs.declared.Origin.{Origin}
use Rattle.hwp_banks.specs.declared.Origin.TheVariants as origins
use Rattle.hwp_law.specs.hwp_script_words.declared.Script.{Script}
use Rattle.hwp_law.specs.hwp_report_text.declared.Report.{Report}
use Rattle.hwp_law.specs.Checks.{IsLineOf}
use Rattle.hwp_law.specs.hwp_severity.declared.Arrival.{Arrival}
use Rattle.hwp_law.specs.Events.{IsDamaged}
use Rattle.hwp_law.specs.hwp_report_text.declared.EventLine.{EventLine}
use Rattle.hwp_law.specs.Lines.{bad_lines_of}
use Rattle.hwp_check_event_line.specs.Accesses.{IsOwnLine}
use Rattle.hwp_check_event_line.specs.Found.{IsCandidate, beside, has_stopper, may_stop, of_access, own_found, stops}
use Rattle.hwp_check_event_line.proofs.FoundLaws.{same-stop}
use Rattle.hwp_check_event_line.proofs.LineLaws.{frame-of-line}

is-bad : (report : Report) (origin : Origin) → of_access origin ≡ true → (frame at : ℕ) → IsDamaged report origin frame at → IsBitSet (bad_lines_of report frame) at
is-bad report origins.Access is frame at set = set
is-bad report origins.Fetch is frame at set = set
is-bad report origins.BadLine is frame at set = set
is-bad report origins.WeakLine is frame at set = absurd (true≢false (sym is))

bad-is : (report : Report) (origin : Origin) → of_access origin ≡ true → (frame at : ℕ) → IsBitSet (bad_lines_of report frame) at → IsDamaged report origin frame at
bad-is report origins.Access is frame at set = set
bad-is report origins.Fetch is frame at set = set
bad-is report origins.BadLine is frame at set = set
bad-is report origins.WeakLine is frame at set = absurd (true≢false (sym is))

-- what is found is the same for all frames, or its address says the frame
abbrev IsSame : Origin → Option Event → ℕ → Type 0
IsSame origin raw at = (f g : Frame) → own_found origin raw f at ≡ own_found origin raw g at

abbrev IsTold : Origin → Option Event → ℕ → Type 0
IsTold origin raw at = (f : Frame) → (own_found origin raw f at).addr ≡ line_address f at

by-class : (c : Class) (event : Event) (at : ℕ) → ((f g : Frame) → overwritten c Uncorrected event (own_event origins.Fetch f at) ≡ overwritten c Uncorrected event (own_event origins.Fetch g at))
    ⊎ ((f : Frame) → (overwritten c Uncorrected event (own_event origins.Fetch f at)).addr ≡ line_address f at)
by-class Corrected event at = inr (λ f. refl)
by-class Uncorrected event at = inl (λ f g. refl)
by-class Fatal event at = inl (λ f g. refl)

same-or-told : (origin : Origin) → of_access origin ≡ true → (raw : Option Event) (at : ℕ) → IsSame origin raw at ⊎ IsTold origin raw at
same-or-told origins.Access is raw at = inr (λ f. refl)
same-or-told origins.Fetch is None at = inr (λ f. refl)
same-or-told origins.Fetch is (Some event) at = by-class (class_of event.status) event at
same-or-told origins.BadLine is raw at = absurd (true≢false (sym is))
same-or-told origins.WeakLine is raw at = absurd (true≢false (sym is))

abbrev frame_of : ℕ → Frame
frame_of n = record { 0 = n }

module _ (script : Script) (report : Report) (who : Who) (how : Arrival) (origin : Origin) (access : of_access origin ≡ true) (raw : Option Event) (at : ℕ) (small : at < 64) (line : EventLine) where
  abbrev Tells : Frame → Type 0
  Tells frame = IsLineOf script report who how (has_stopper how origin raw) (bank_of origin) (own_found origin raw frame at) line

  decided : (c : Frame) → (IsBitSet (bad_lines_of report (frame_at line.addr)) at → c.0 ≡ frame_at line.addr) → IsOwnLine script report who how origin at raw line → Tells c
  decided c is own = elim (same-or-told origin access raw at) [
    | inl same ↦ subst (λ (e : Event). IsLineOf script report who how (has_stopper how origin raw) (bank_of origin) e line) (same own.frame c) own.is
    | inr told ↦
        let frame_is : frame_at line.addr ≡ own.frame.0 = frame-of-line own.frame at line.addr small (own.is.addr ∙ told own.frame) in
        let here : c.0 ≡ own.frame.0 = is (subst (λ (n : ℕ). IsBitSet (bad_lines_of report n) at) (sym frame_is) (is-bad report origin access own.frame.0 at own.damaged)) ∙ frame_is in
        subst Tells (ap frame_of (sym here)) own.is
  ]

  pub own_some : (c : Frame) → IsCandidate report at line.addr (Some c)
      → IsLineOf script report who how (stops how (own_found origin raw c at) || may_stop how (beside origin raw)) (bank_of origin) (own_found origin raw c at) line ↔ IsOwnLine script report who how origin at raw line
  own_some c candidate = (
    λ is. record { frame = c; damaged = bad-is report origin access c.0 at candidate.0; is = subst (λ (b : Bool). IsLineOf script report who how (b || may_stop how (beside origin raw)) (bank_of origin) (own_found origin raw c at) line) same is },
    λ own. subst (λ (b : Bool). IsLineOf script report who how (b || may_stop how (beside origin raw)) (bank_of origin) (own_found origin raw c at) line) (sym same) (decided c candidate.1 own),
  )
    where
      same : stops how (own_found origin raw c at) ≡ stops how (own_found origin raw (record { 0 = 0 }) 0)
      same = same-stop how origin access raw c (record { 0 = 0 }) at 0

  pub own_none : IsCandidate report at line.addr None → IsOwnLine script report who how origin at raw line → ⊥
  own_none none own = none own.frame.0 (is-bad report origin access own.frame.0 at own.damaged)

  -- the same, by what a function found
  pub own_is : (c : Option Frame) (frame : Frame) (found : Event) (b : Option Event) (held : Bool) (bank : ℕ) (Found : Type 0) → IsCandidate report at line.addr c → c ≡ Some frame → found ≡ own_found origin raw frame at
      → b ≡ beside origin raw → held ≡ (stops how found || may_stop how b) → bank ≡ bank_of origin → (Found ↔ IsLineOf script report who how held bank found line) → Found ↔ IsOwnLine script report who how origin at raw line
  own_is c frame found b held bank Found candidate some found_is b_is held_is bank_is both =
      (λ is. (own_some frame of).0 (forth (both.0 is)), λ own. both.1 (back ((own_some frame of).1 own)))
    where
      of : IsCandidate report at line.addr (Some frame)
      of = subst (IsCandidate report at line.addr) some candidate

      stopper : held ≡ (stops how (own_found origin raw frame at) || may_stop how (beside origin raw))
      stopper = held_is ∙ ap (λ (e : Event). stops how e || may_stop how b) found_is ∙ ap (λ (o : Option Event). stops how (own_found origin raw frame at) || may_stop how o) b_is

      forth : IsLineOf script report who how held bank found line → IsLineOf script report who how (stops how (own_found origin raw frame at) || may_stop how (beside origin raw)) (bank_of origin) (own_found origin raw frame at) line
      forth is = subst (λ (h : Bool). IsLineOf script report who how h (bank_of origin) (own_found origin raw frame at) line) stopper
          (subst (λ (n : ℕ). IsLineOf script report who how held n (own_found origin raw frame at) line) bank_is (subst (λ (e : Event). IsLineOf script report who how held bank e line) found_is is))

      back : IsLineOf script report who how (stops how (own_found origin raw frame at) || may_stop how (beside origin raw)) (bank_of origin) (own_found origin raw frame at) line → IsLineOf script report who how held bank found line
      back is = subst (λ (e : Event). IsLineOf script report who how held bank e line) (sym found_is)
          (subst (λ (n : ℕ). IsLineOf script report who how held n (own_found origin raw frame at) line) (sym bank_is) (subst (λ (h : Bool). IsLineOf script report who how h (bank_of origin) (own_found origin raw frame at) line) (sym stopper) is))
