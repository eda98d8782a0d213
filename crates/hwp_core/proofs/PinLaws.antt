-- The laws of `Pin`.
use Rattle.std.proofs.Common.{◌≡◌, ◌≢◌, ℕ, ◌+◌, ◌<◌, ◌≤◌, ◌==◌, ◌||◌, Bool, true, false, cond, Option, Some, None, length, refl, sym, ap, ◌∙◌, subst, arith}
use Rattle.std.proofs.lemmas.Bool.{both_ways, eqb-false}
use Rattle.std.proofs.lemmas.Option.{none-some, same_Some}
use Rattle.hwp_core_rule.specs.hwp_geom.declared.Frame.{Frame}
use Rattle.hwp_core_rule.specs.hwp_geom.declared.Layout.{Layout}
use Rattle.hwp_core_rule.specs.hwp_page.History.{BodyValue}
use Rattle.hwp_core_rule.specs.hwp_words.Frames.{count_of, is_handled}
use Rattle.hwp_core_rule.specs.declared.SharedWord.TheVariants as places
use Rattle.hwp_core_rule.specs.declared.Step.{Step}
use Rattle.hwp_core_rule.specs.declared.Step.TheVariants as steps
use Rattle.hwp_core_rule.specs.declared.View.{View}
use Rattle.hwp_core_rule.specs.Asks.{HasRefRoom}
use Rattle.hwp_core_rule.specs.Steps.{place_of}
use Rattle.hwp_core_rule.specs.Views.{refs_on, with_refs}
use Rattle.hwp_core_rule.specs.declared.Turn.{Turn}
use Rattle.hwp_core.specs.declared.pin.Pin.{Pin}
use Rattle.hwp_core.specs.declared.pin.PinAt.{PinAt}
use Rattle.hwp_core.specs.declared.pin.PinAt.TheVariants as at
use Rattle.hwp_core_rule.specs.Calls.{CanMake, Steps}
use Rattle.hwp_core_rule.specs.Hands.{Hand, hand_of, hand_after}
use Rattle.hwp_core.specs.Pins.{is_gone, plan, plan_at, next, next_at, at_word, turn, Fits, FitsAt, hand_next, hand_next_at}
use Rattle.hwp_core_rule.proofs.tasks.StepLeaves.{on-turn-after, content_of, hand-planned, can-make}

-- a frame that isn't gone has references
counted : (word : ℕ) → is_gone word ≡ false → 0 < count_of word
counted word there = which (count_of word == 0) refl
  where
    which : (b : Bool) → (count_of word == 0) ≡ b → 0 < count_of word
    which true is = absurd (both_ways (is_gone word) there (ap (λ (b : Bool). b || is_handled word) is))
    which false is = let some : count_of word ≢ 0 = eqb-false (count_of word) 0 is in omega arith

pub can : (layout : Layout) (view : View) (p : Pin) (step : Step) → Fits layout view p → plan p ≡ Some step → CanMake layout p.who step None view
can layout view p step fits is = which p.at fits.at is
  where
    which : (x : PinAt) → FitsAt layout view p.frame x → plan_at p.frame x ≡ Some step → CanMake layout p.who step None view
    which at.Load room is = can-make fits.on_turn is fits.frame tt
    which (at.Get seen) room is = can-make fits.on_turn is fits.frame (counted seen room.0, omega arith, room.1)
    which (at.Held word) room is = absurd (none-some step is)
    which (at.Gone word) room is = absurd (none-some step is)

-- there is room after a step that leaves the references
module _ (layout : Layout) (frame : Frame) where
  shown : (view : View) (word : ℕ) (gone : Bool) → is_gone word ≡ gone → HasRefRoom layout view frame 1 → FitsAt layout view frame (cond gone (at.Gone word) (at.Get word))
  shown view word true is room = is
  shown view word false is room = (is, room)

  same-room : (old new : View) → hand_of new ≡ hand_of old → HasRefRoom layout old frame 1 → HasRefRoom layout new frame 1
  same-room old new same room = record {
    shares = subst (λ (h : Hand). refs_on frame.0 h.refs + 1 ≤ length layout.trans + 2) (sym same) room.shares;
    first = λ none. subst (λ (h : Hand). h.reserved + length h.hands + length h.refs + 1 ≤ 2) (sym same) (room.first (sym (ap (λ (h : Hand). refs_on frame.0 h.refs) same) ∙ none));
  }

-- what follows a step fits again
pub moved : (layout : Layout) (old new : View) (p : Pin) (step : Step) (found : ℕ) (got : Option BodyValue) → Fits layout old p → plan p ≡ Some step → Steps layout p.who step None old new found got → Fits layout new (next p found)
moved layout old new p step found got fits is made = record { on_turn = on-turn-after fits.on_turn made; frame = fits.frame; at = which p.at fits.at is }
  where
    step-is : (other : Step) → Some other ≡ Some step → hand_of new ≡ hand_after layout other found (content_of layout p.who other None found got) (length old.sights) (hand_of old)
    step-is other is = hand-planned made is refl

    which : (x : PinAt) → FitsAt layout old p.frame x → plan_at p.frame x ≡ Some step → FitsAt layout new p.frame (next_at x found)
    which at.Load room is = shown layout p.frame new found (is_gone found) refl (same-room layout p.frame old new (step-is (steps.Load (places.Frame p.frame)) is) room)
    which (at.Get seen) room is = got-it (found == seen) refl
      where
        got-it : (b : Bool) → (found == seen) ≡ b → FitsAt layout new p.frame (cond b (at.Held seen) (at_word found))
        got-it true e = room.0
        got-it false e = shown layout p.frame new found (is_gone found) refl (same-room layout p.frame old new
            (step-is (steps.GetRef p.frame seen 1) is ∙ ap (λ (b : Bool). cond b (record (hand_of old) { refs = with_refs p.frame 1 old.refs }) (hand_of old)) e) room.1)
    which (at.Held word) room is = absurd (none-some step is)
    which (at.Gone word) room is = absurd (none-some step is)

pub stays : (layout : Layout) (old new : View) (p : Pin) (step : Step) (found : ℕ) (got : Option BodyValue) → Fits layout old p → plan p ≡ Some step
    → Steps layout p.who step None old new found got → Unit {0} × ((after : Pin) (result : Turn) → (after ≡ next p found) × (result ≡ turn p found) → Fits layout new after × (after.who.cpu ≡ p.who.cpu))
stays layout old new p step found got fits is made = (tt, λ after result follows. (subst (Fits layout new) (sym follows.0) (moved layout old new p step found got fits is made), ap (λ (x : Pin). x.who.cpu) follows.0))

-- what a step of a pin leaves of what is held: a reference more, where it was taken
pub held-after : {layout : Layout} {old new : View} {step : Step} {found : ℕ} {got : Option BodyValue} (p : Pin) (h : Hand) → plan p ≡ Some step → hand_of old ≡ h
    → Steps layout p.who step None old new found got → hand_of new ≡ hand_next p found h
held-after {layout} {old} {new} {step} {found} {got} p h is has made = which p.at is
  where
    which : (x : PinAt) → plan_at p.frame x ≡ Some step → hand_of new ≡ hand_next_at p.frame x found h
    which at.Load e = hand-planned made e has
    which (at.Get seen) e = hand-planned made e has
    which (at.Held word) e = absurd (none-some step e)
    which (at.Gone word) e = absurd (none-some step e)

-- and the word that it met is that of its frame
pub place-is : {step : Step} (p : Pin) → plan p ≡ Some step → place_of step ≡ places.Frame p.frame
place-is {step} p is = which p.at is
  where
    which : (x : PinAt) → plan_at p.frame x ≡ Some step → place_of step ≡ places.Frame p.frame
    which at.Load e = ap place_of (sym (same_Some _ step e))
    which (at.Get seen) e = ap place_of (sym (same_Some _ step e))
    which (at.Held word) e = absurd (none-some step e)
    which (at.Gone word) e = absurd (none-some step e)
