-- The laws of `Release`.
use Rattle.std.proofs.Common.{◌≡◌, ℕ, ◌+◌, ◌<◌, Bool, true, false, cond, List, [], ◌∷◌, ◌++◌, Option, Some, None, length, refl, sym, ap, ◌∙◌, subst, arith}
use Rattle.std.proofs.lemmas.Option.{none-some}
use Rattle.hwp_core_rule.specs.hwp_geom.declared.Layout.{Layout}
use Rattle.hwp_core_rule.specs.hwp_page.History.{BodyValue}
use Rattle.hwp_core_rule.specs.hwp_words.Frames.{is_poisoned}
use Rattle.hwp_core_rule.specs.declared.FrameInHand.{FrameInHand}
use Rattle.hwp_core_rule.specs.declared.FrameLock.{FrameLock}
use Rattle.hwp_core_rule.specs.declared.Step.{Step}
use Rattle.hwp_core_rule.specs.declared.View.{View}
use Rattle.hwp_core_rule.specs.Lists.{SomeMember}
use Rattle.hwp_core_rule.specs.Steps.{is_last}
use Rattle.hwp_core_rule.specs.Views.{with_refs, without, is_hand_of, hand_found}
use Rattle.hwp_core_rule.proofs.AdoptedFrames.{lock-poisoned, adopted-retires}
use Rattle.hwp_core_rule.proofs.Lists.{some-last}
use Rattle.hwp_core_rule.specs.declared.Turn.{Turn}
use Rattle.hwp_core_rule.specs.declared.Turn.TheVariants.{Moved}
use Rattle.hwp_core.specs.declared.release.Release.{Release}
use Rattle.hwp_core.specs.declared.release.ReleaseAt.{ReleaseAt}
use Rattle.hwp_core.specs.declared.release.ReleaseAt.TheVariants as at
use Rattle.hwp_core_rule.specs.Calls.{CanMake, Steps, logs}
use Rattle.hwp_core_rule.specs.Hands.{Hand, hand_of}
use Rattle.hwp_core.specs.Releases.{plan, plan_at, next, next_at, Fits, FitsAt, hand_next, hand_next_at}
use Rattle.hwp_core_rule.proofs.tasks.StepLeaves.{on-turn-after, hand-planned, steps-planned, can-make}

module _ {layout : Layout} {old new : View} {step : Step} {found : ℕ} {got : Option BodyValue} (r : Release) (is : plan r ≡ Some step) (made : Steps layout r.who step None old new found got) (fits : Fits layout old r) where
  -- what a step leaves of what is held
  pub held-after : (h : Hand) → hand_of old ≡ h → hand_of new ≡ hand_next r found h
  held-after h has = which r.at is fits.at
    where
      which : (x : ReleaseAt) → plan_at r.frame r.count x ≡ Some step → FitsAt old r.frame r.count x → hand_of new ≡ hand_next_at r.frame r.count x found h
      which at.Put e at = hand-planned made e has
      which (at.Give word) e at = hand-planned made e has
      which (at.Unreserve word) e at = hand-planned made e has
      which (at.Adopt word) e at = hand-planned made e has
          ∙ ap (λ (l : FrameLock). record h { hands = without (is_hand_of r.frame) h.hands; refs = with_refs r.frame 1 h.refs; locks = h.locks ++ l ∷ [] }) (lock-poisoned layout r.who r.frame found (logs got) old new (steps-planned e made).told at.0)
      which (at.Retire word) e at = hand-planned made e has
      which (at.Back word) e at = absurd (none-some step e)

  -- the frame is in hand, where its last references were given back, and known to be poisoned where it is
  last : (b p : Bool) → is_poisoned found ≡ p → new.hands ≡ cond b (old.hands ++ hand_found r.frame found ∷ []) old.hands → length new.locks < 2 → FitsAt new r.frame r.count (cond b (cond p (at.Adopt found) (at.Give found)) (at.Back found))
  last true true poisoned same room =
      (subst (λ (l : List FrameInHand). SomeMember (λ (h : FrameInHand). (h.frame ≡ r.frame) × (h.poisoned ≡ true)) l) (sym same) (some-last (λ (h : FrameInHand). (h.frame ≡ r.frame) × (h.poisoned ≡ true)) old.hands (hand_found r.frame found) (refl, poisoned)), room)
  last true false poisoned same room = subst (λ (l : List FrameInHand). SomeMember (λ (h : FrameInHand). h.frame ≡ r.frame) l) (sym same) (some-last (λ (h : FrameInHand). h.frame ≡ r.frame) old.hands (hand_found r.frame found) refl)
  last false p poisoned same room = tt

  after : (x : ReleaseAt) → plan_at r.frame r.count x ≡ Some step → FitsAt old r.frame r.count x → hand_of new ≡ hand_next_at r.frame r.count x found (hand_of old) → FitsAt new r.frame r.count (next_at r.count x found)
  after at.Put e at hand = last (is_last r.count found) (is_poisoned found) refl (ap (λ (h : Hand). h.hands) hand) (subst (λ (h : Hand). length h.locks < 2) (sym hand) at.2)
  after (at.Give word) e at hand = let more : new.reserved ≡ old.reserved + 1 = ap (λ (h : Hand). h.reserved) hand in omega arith
  after (at.Unreserve word) e at hand = tt
  after (at.Adopt word) e at hand = adopted-retires layout r.who r.frame found (logs got) old new (steps-planned e made).told at.0
  after (at.Retire word) e at hand = tt
  after (at.Back word) e at hand = absurd (none-some step e)

  -- what follows a step fits again
  pub moved : Fits layout new (next r found)
  moved = record { on_turn = on-turn-after fits.on_turn made; frame = fits.frame; at = after r.at is fits.at (held-after (hand_of old) refl) }

pub stays : (layout : Layout) (old new : View) (r : Release) (step : Step) (found : ℕ) (got : Option BodyValue) → Fits layout old r → plan r ≡ Some step
    → Steps layout r.who step None old new found got → Unit {0} × ((after : Release) (result : Turn) → (after ≡ next r found) × (result ≡ Moved) → Fits layout new after × (after.who.cpu ≡ r.who.cpu))
stays layout old new r step found got fits is made = (tt, λ after result follows. (subst (Fits layout new) (sym follows.0) (moved r is made fits), ap (λ (x : Release). x.who.cpu) follows.0))

pub can : (layout : Layout) (view : View) (r : Release) (step : Step) → Fits layout view r → plan r ≡ Some step → CanMake layout r.who step None view
can layout view r step fits is = which r.at fits.at is
  where
    which : (x : ReleaseAt) → FitsAt view r.frame r.count x → plan_at r.frame r.count x ≡ Some step → CanMake layout r.who step None view
    which at.Put at e = can-make fits.on_turn e fits.frame (at.0, at.1)
    which (at.Give word) at e = can-make fits.on_turn e (let inside : r.frame.0 < layout.frames = fits.frame in omega arith) at
    which (at.Unreserve word) at e = can-make fits.on_turn e tt at
    which (at.Adopt word) at e = can-make fits.on_turn e fits.frame ((at.0.0, at.0.1, at.0.2, at.0.3.0), at.1)
    which (at.Retire word) at e = can-make fits.on_turn e fits.frame at
    which (at.Back word) at e = absurd (none-some step e)
