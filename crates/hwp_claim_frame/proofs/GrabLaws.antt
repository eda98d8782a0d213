-- The laws of `Grab`.
use Rattle.std.proofs.Common.{◌≡◌, ℕ, ◌+◌, ◌<◌, ◌≤◌, ◌==◌, Bool, true, false, cond, [], ◌∷◌, ◌++◌, Option, Some, None, map, length, slice_get, refl, sym, ap, ◌∙◌, subst, arith}
use Rattle.std.proofs.lemmas.Bool.{eqb-false}
use Rattle.std.proofs.lemmas.Option.{none-some}
use Rattle.hwp_core.specs.hwp_geom.declared.Frame.{Frame}
use Rattle.hwp_core.specs.hwp_geom.declared.Layout.{Layout}
use Rattle.hwp_core.specs.hwp_page.History.{BodyValue}
use Rattle.hwp_core.specs.hwp_words.Frames.{count_of, is_handled, is_kernel, is_poisoned}
use Rattle.hwp_core.specs.hwp_core_rule.declared.FrameInHand.{FrameInHand}
use Rattle.hwp_core.specs.hwp_core_rule.declared.FrameLock.{FrameLock}
use Rattle.hwp_core.specs.hwp_core_rule.declared.Step.{Step}
use Rattle.hwp_core.specs.hwp_core_rule.declared.Step.TheVariants as steps
use Rattle.hwp_core.specs.hwp_core_rule.declared.View.{View}
use Rattle.hwp_core.specs.hwp_core_rule.Asks.{CanRetire, HasInHand}
use Rattle.hwp_core.specs.hwp_core_rule.Lists.{SomeMember}
use Rattle.hwp_core.specs.hwp_core_rule.Views.{is_hand_of, lock_found, unpoisoned, with_refs, without}
use Rattle.hwp_core.specs.hwp_core_rule.Words.{words_of}
use Rattle.hwp_core.specs.hwp_core_rule.parts.Places.{IsBare, in_hand}
use Rattle.hwp_core.proofs.of_hwp_core_rule.FramesInHand.{in_hand-mine}
use Rattle.hwp_core.proofs.of_hwp_core_rule.Lists.{at_map, same-number}
use Rattle.hwp_core.proofs.of_hwp_core_rule.MetWords.{frame-word, hand-bare}
use Rattle.hwp_core.specs.hwp_core_rule.declared.Turn.{Turn}
use Rattle.hwp_core.specs.hwp_core_rule.Calls.{CanMake, Steps}
use Rattle.hwp_core.specs.hwp_core_rule.Hands.{Hand, hand_of, empty}
use Rattle.hwp_core.proofs.of_hwp_core_rule.tasks.StepLeaves.{on-turn-after, hand-planned, steps-planned, can-make}
use Rattle.hwp_core.proofs.of_hwp_core_rule.tasks.SightKeeps.{saw-adopt}
use Rattle.hwp_core.specs.Releases.{adopted_lock}
use Rattle.hwp_core.proofs.TaskTells.{Tells, empty-tells, frame-tells}
use Rattle.hwp_claim_frame.specs.declared.grab.Grab.{Grab}
use Rattle.hwp_claim_frame.specs.declared.grab.GrabAt.{GrabAt}
use Rattle.hwp_claim_frame.specs.declared.grab.GrabAt.TheVariants as at
use Rattle.hwp_claim_frame.specs.Grabs.{at_available, has_bit, plan, plan_at, next, next_at, turn, reserving, handed, grabbed, held_at, WasFree, KnowsAt, Fits, hand_next, hand_next_at, class, class_at}

-- the frame is in hand, where the hand has it alone
in-hand : (view : View) (frame : Frame) → hand_of view ≡ handed frame → HasInHand view frame
in-hand view frame held = subst (λ (h : Hand). SomeMember (λ (f : FrameInHand). f.frame ≡ frame) h.hands) (sym held) (0, unpoisoned frame, refl, refl)

pub can : (layout : Layout) (view : View) (g : Grab) (step : Step) → Fits layout view g → plan g ≡ Some step → CanMake layout g.who step None view
can layout view g step fits is = which g.at fits.held fits.knows is
  where
    which : (x : GrabAt) → hand_of view ≡ held_at g.frame x → KnowsAt view g.who g.frame x → plan_at g.frame x ≡ Some step → CanMake layout g.who step None view
    which at.LoadAvailable held knows e = can-make fits.on_turn e tt tt
    which (at.Reserve seen) held knows e = can-make fits.on_turn e tt (knows, subst (λ (h : Hand). h.reserved + length h.hands + length h.refs + 1 ≤ 2) (sym held) (omega arith))
    which at.TakeBit held knows e = can-make fits.on_turn e (let inside : g.frame.0 < layout.frames = fits.frame in omega arith) (fits.frame, subst (λ (h : Hand). 0 < h.reserved) (sym held) (omega arith))
    which at.Unreserve held knows e = can-make fits.on_turn e tt (subst (λ (h : Hand). 0 < h.reserved) (sym held) (omega arith))
    which at.Adopt held knows e = can-make fits.on_turn e fits.frame (in-hand view g.frame held, subst (λ (h : Hand). length h.locks < 2) (sym held) (omega arith))
    which at.LookAgain held knows e = absurd (none-some step e)
    which (at.Grabbed word) held knows e = absurd (none-some step e)

module _ {layout : Layout} {old new : View} {step : Step} {found : ℕ} {got : Option BodyValue} (g : Grab) (is : plan g ≡ Some step) (made : Steps layout g.who step None old new found got) (fits : Fits layout old g) where
  -- the word of a frame that was in hand
  module _ (e : Some (steps.Adopt g.frame) ≡ Some step) (held : hand_of old ≡ handed g.frame) where
    own : Steps layout g.who (steps.Adopt g.frame) None old new found got
    own = steps-planned e made

    has : HasInHand old g.frame
    has = in-hand old g.frame held

    bare : IsBare found
    bare = hand-bare layout own.told.board own.told.rule own.told.seat old g.frame found own.told.me has fits.frame own.told.met

    uncounted : count_of found ≡ 0
    uncounted = omega (arith, some, own.told.rule.rule.frames.places.placed g.frame.0 found there user)
      where
        there : slice_get (words_of layout own.told.board.words).frames g.frame.0 ≡ Some found
        there = frame-word layout own.told.board own.told.rule g.frame found fits.frame own.told.met

        user : is_kernel found ≡ false
        user = own.told.rule.rule.frames.places.declared g.frame.0 found false there fits.users

        some : 1 ≤ in_hand g.frame.0 (map (λ (v : View). v.hands) own.told.board.views)
        some = in_hand-mine (map (λ (v : View). v.hands) own.told.board.views) own.told.seat old.hands (at_map (λ (v : View). v.hands) own.told.board.views own.told.seat old own.told.me) has.1 g.frame has.3 has.0 has.2

    lock-is : lock_found g.frame found ≡ adopted_lock g.frame (is_poisoned found)
    lock-is i = record { frame = g.frame; owner = bare.unowned i; handled = unhandled i; poisoned = is_poisoned found }
      where
        unhandled : is_handled found ≡ false
        unhandled = ap (λ (n : ℕ). n == 1) bare.unhandled

    was-free : WasFree new g.who g.frame found
    was-free = record { saw = saw-adopt own (omega (arith, ap (λ (h : Hand). length h.locks) held)); bare = bare; uncounted = uncounted }

  -- what a step leaves of what is held
  pub held-after : (h : Hand) → hand_of old ≡ h → hand_of new ≡ hand_next g found h
  held-after h has = which g.at is fits.held
    where
      which : (x : GrabAt) → plan_at g.frame x ≡ Some step → hand_of old ≡ held_at g.frame x → hand_of new ≡ hand_next_at g.frame x found h
      which at.LoadAvailable e held = hand-planned made e has
      which (at.Reserve seen) e held = hand-planned made e has
      which at.TakeBit e held = hand-planned made e has
      which at.Unreserve e held = hand-planned made e has
      which at.Adopt e held = hand-planned made e has
          ∙ ap (λ (l : FrameLock). record h { hands = without (is_hand_of g.frame) h.hands; refs = with_refs g.frame 1 h.refs; locks = h.locks ++ l ∷ [] }) (lock-is e held)
      which at.LookAgain e held = absurd (none-some step e)
      which (at.Grabbed word) e held = absurd (none-some step e)

  -- a number of available frames that was shown: nothing is held yet
  none-yet : (none : Bool) → (found == 0) ≡ none → hand_of new ≡ empty → (hand_of new ≡ held_at g.frame (cond none at.LookAgain (at.Reserve found))) × KnowsAt new g.who g.frame (cond none at.LookAgain (at.Reserve found))
  none-yet true e held = (held, tt)
  none-yet false e held = (held, omega (arith, eqb-false found 0 e))

  -- what is held and known then
  then-has : (x : GrabAt) → plan_at g.frame x ≡ Some step → hand_of old ≡ held_at g.frame x → hand_of new ≡ hand_next_at g.frame x found (held_at g.frame x)
      → (hand_of new ≡ held_at g.frame (next_at g.frame x found)) × KnowsAt new g.who g.frame (next_at g.frame x found)
  then-has at.LoadAvailable e held hand = none-yet (found == 0) refl hand
  then-has (at.Reserve seen) e held hand = by (found == seen) hand
    where
      by : (b : Bool) → hand_of new ≡ cond b reserving empty → (hand_of new ≡ held_at g.frame (cond b at.TakeBit (at_available found))) × KnowsAt new g.who g.frame (cond b at.TakeBit (at_available found))
      by true hand = (hand, tt)
      by false hand = none-yet (found == 0) refl hand
  then-has at.TakeBit e held hand = by (has_bit g.frame found) hand
    where
      by : (b : Bool) → hand_of new ≡ cond b (handed g.frame) reserving → (hand_of new ≡ held_at g.frame (cond b at.Adopt at.Unreserve)) × KnowsAt new g.who g.frame (cond b at.Adopt at.Unreserve)
      by true hand = (hand, tt)
      by false hand = (hand, tt)
  then-has at.Unreserve e held hand = (hand, tt)
  then-has at.Adopt e held hand = (hand ∙ ap (λ (b : Bool). record (grabbed g.frame (is_poisoned found)) { hands = cond b [] (unpoisoned g.frame ∷ []) }) (same-number g.frame.0 g.frame.0 refl), was-free e held)
  then-has at.LookAgain e held hand = absurd (none-some step e)
  then-has (at.Grabbed word) e held hand = absurd (none-some step e)

  -- what follows a step fits again
  pub moved : Fits layout new (next g found)
  moved = record { on_turn = on-turn-after fits.on_turn made; frame = fits.frame; users = fits.users; held = all.0; knows = all.1 }
    where
      all : (hand_of new ≡ held_at g.frame (next_at g.frame g.at found)) × KnowsAt new g.who g.frame (next_at g.frame g.at found)
      all = then-has g.at is fits.held (held-after (held_at g.frame g.at) fits.held)

pub stays : (layout : Layout) (old new : View) (g : Grab) (step : Step) (found : ℕ) (got : Option BodyValue) → Fits layout old g → plan g ≡ Some step → Steps layout g.who step None old new found got
    → Unit {0} × ((after : Grab) (result : Turn) → (after ≡ next g found) × (result ≡ turn g found) → Fits layout new after × (after.who.cpu ≡ g.who.cpu))
stays layout old new g step found got fits is made = (tt, λ after result follows. (subst (Fits layout new) (sym follows.0) (moved g is made fits), ap (λ (x : Grab). x.who.cpu) follows.0))

-- its class tells what is held
pub grab-tells : (layout : Layout) (view : View) (g : Grab) → Fits layout view g → Tells view (class g)
grab-tells layout view g fits = which g.at fits.held
  where
    which : (x : GrabAt) → hand_of view ≡ held_at g.frame x → Tells view (class_at x)
    which at.LoadAvailable held = empty-tells view 4 held
    which (at.Reserve seen) held = empty-tells view 4 held
    which at.TakeBit held = frame-tells view
    which at.Unreserve held = frame-tells view
    which at.Adopt held = frame-tells view
    which at.LookAgain held = empty-tells view 4 held
    which (at.Grabbed word) held = frame-tells view

-- a poisoned frame that was grabbed can go out of use
pub grabbed-retires : (view : View) (frame : Frame) → hand_of view ≡ grabbed frame true → CanRetire view frame None
grabbed-retires view frame held = record {
  has = record {
    lock = adopted_lock frame true;
    listed = subst (λ (h : Hand). SomeMember (λ (l : FrameLock). l ≡ adopted_lock frame true) h.locks) (sym held) (0, adopted_lock frame true, refl, refl);
    frame_is = refl;
  };
  unowned = refl;
  unhandled = refl;
  poisoned = refl;
  empty = refl;
}
