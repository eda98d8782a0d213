-- The laws of `Access`.
use Rattle.std.proofs.Common.{◌≡◌, ℕ, ◌+◌, ◌-◌, ◌%◌, ◌^◌, ◌<◌, ◌≤◌, ◌==◌, Bool, true, false, not, cond, List, [], ◌∷◌, ◌++◌, Option, Some, None, is_none, is_some, IsSomeAnd, length, slice_get, refl, sym, ap, ◌∙◌, subst, arith}
use Rattle.std.proofs.lemmas.Bool.{both_ways, eqb-true}
use Rattle.std.proofs.lemmas.List.{length-append}
use Rattle.std.proofs.lemmas.Option.{none-some, same_Some, slice_get_within}
use Rattle.std.specs.FinSet as set
use Rattle.std.specs.Int.{IsBitSet}
use Rattle.hwp_page.specs.hwp_geom.declared.Frame.{Frame}
use Rattle.hwp_page.specs.hwp_geom.declared.Layout.{Layout}
use Rattle.hwp_page.specs.hwp_geom.declared.Page.{Page}
use Rattle.hwp_page.specs.hwp_geom.declared.TransDecl.{TransDecl}
use Rattle.hwp_page.specs.hwp_geom.declared.VSlot.{VSlot}
use Rattle.hwp_page.specs.hwp_geom.declared.Who.{Who}
use Rattle.hwp_page.specs.declared.PageState.{PageState}
use Rattle.hwp_page.specs.declared.What.{What}
use Rattle.hwp_page.specs.History.{BodyValue, IsReplay}
use Rattle.hwp_page.specs.Refusals.{IsAway}
use Rattle.hwp_page.specs.Step.{IsOf}
use Rattle.hwp_core.specs.hwp_words.Frames.{is_locked, is_handled, is_poisoned, owner_of}
use Rattle.hwp_core.specs.hwp_words.Names.{page_named}
use Rattle.hwp_core.specs.hwp_words.Stops.{is_stopped}
use Rattle.hwp_core.specs.hwp_core_rule.declared.FrameLock.{FrameLock}
use Rattle.hwp_core.specs.hwp_core_rule.declared.InHand.{InHand}
use Rattle.hwp_core.specs.hwp_core_rule.declared.Log.{Log}
use Rattle.hwp_core.specs.hwp_core_rule.declared.Made.{Made}
use Rattle.hwp_core.specs.hwp_core_rule.declared.SharedWord.TheVariants as places
use Rattle.hwp_core.specs.hwp_core_rule.declared.Sight.{Sight}
use Rattle.hwp_core.specs.hwp_core_rule.declared.Step.{Step}
use Rattle.hwp_core.specs.hwp_core_rule.declared.Step.TheVariants as steps
use Rattle.hwp_core.specs.hwp_core_rule.declared.View.{View}
use Rattle.hwp_core.specs.hwp_core_rule.Logs.{log_of}
use Rattle.hwp_core.specs.hwp_core_rule.SlotMoves.{frame_slot, is_out, moved_out}
use Rattle.hwp_core.specs.hwp_core_rule.Steps.{goes}
use Rattle.hwp_core.specs.hwp_core_rule.Views.{body_of, frame_in, more_of, refs_on, locks_on, lock_found, noted, taken}
use Rattle.hwp_core.specs.hwp_core_rule.Words.{words_of}
use Rattle.hwp_core.specs.hwp_core_rule.parts.Bodies.{content_name}
use Rattle.hwp_core.proofs.of_hwp_core_rule.PageWords.{same-page}
use Rattle.hwp_core.proofs.of_hwp_core_rule.Lists.{same-number}
use Rattle.hwp_core.proofs.of_hwp_core_rule.MetWords.{free-word, same-frame}
use Rattle.hwp_core.specs.hwp_core_rule.declared.Turn.{Turn}
use Rattle.hwp_core.specs.hwp_core_rule.Calls.{CanMake, FitsLayout, Steps, IsOnTurn, logs}
use Rattle.hwp_core.specs.hwp_core_rule.Hands.{Hand, hand_of, empty, taking, body_in}
use Rattle.hwp_core.proofs.of_hwp_core_rule.tasks.StepLeaves.{on-turn-after, content_of, brought, was-home, hand-planned, steps-planned, can-make}
use Rattle.hwp_core.specs.hwp_core_rule.Known.{Saw, HasMadeNoneBeside, Precedes, HasOnlyBeside, HasMadeBeside, IsAt, deeds}
use Rattle.hwp_core.proofs.of_hwp_core_rule.tasks.MadeEntries.{ListsNone, deeds-same, frame-lists, deeds-none, deeds-one, has-made-beside, has-made-stays, only-beside-stays, only-of-none}
use Rattle.hwp_core.specs.hwp_core_rule.Pages.{SawState}
use Rattle.hwp_core.specs.hwp_core_rule.Turns.{IsTask}
use Rattle.hwp_core.proofs.of_hwp_core_rule.tasks.SightKeeps.{saw-stays, saw-load, saw-state-stays}
use Rattle.hwp_core.specs.declared.GiveUp.{GiveUp}
use Rattle.hwp_core.specs.declared.give_up.GiveUpAt.{GiveUpAt}
use Rattle.hwp_core.specs.declared.give_up.GiveUpAt.TheVariants as give_up_at
use Rattle.hwp_core.specs.declared.Pin.{Pin}
use Rattle.hwp_core.specs.declared.pin.PinAt.{PinAt}
use Rattle.hwp_core.specs.declared.pin.PinAt.TheVariants as pin_at
use Rattle.hwp_core.specs.declared.Release.{Release}
use Rattle.hwp_core.specs.declared.release.ReleaseAt.{ReleaseAt}
use Rattle.hwp_core.specs.declared.release.ReleaseAt.TheVariants as release_at
use Rattle.hwp_core.specs.declared.Unlock.{Unlock}
use Rattle.hwp_core.specs.declared.unlock.UnlockAt.{UnlockAt}
use Rattle.hwp_core.specs.declared.unlock.UnlockAt.TheVariants as unlock_at
use Rattle.hwp_core.specs.GiveUps as give_ups
use Rattle.hwp_core.specs.Holds.{one_ref}
use Rattle.hwp_core.specs.Pins as pins
use Rattle.hwp_core.specs.Pins.{is_gone}
use Rattle.hwp_core.specs.Releases as releases
use Rattle.hwp_core.specs.Unlocks as unlocks
use Rattle.hwp_core.proofs.BodyStates.{replay-state}
use Rattle.hwp_core.proofs.GiveUpLaws as giving_up
use Rattle.hwp_core.proofs.PinLaws as pinning
use Rattle.hwp_core.proofs.TaskCosts.{pin-lists, release-lists}
use Rattle.hwp_core.proofs.UnlockLaws as unlocking
use Rattle.hwp_fault.specs.declared.access.Access.{Access}
use Rattle.hwp_fault.specs.declared.access.Request.{Request}
use Rattle.hwp_fault.specs.declared.access.AccessAt.{AccessAt}
use Rattle.hwp_fault.specs.declared.access.AccessAt.TheVariants as at
use Rattle.hwp_fault.specs.declared.access.AccessAnswer.{AccessAnswer}
use Rattle.hwp_fault.specs.declared.access.AccessAnswer.TheVariants as answers
use Rattle.hwp_fault.specs.declared.touch.AccessKind.{AccessKind}
use Rattle.hwp_fault.specs.declared.touch.AccessKind.TheVariants as kinds
use Rattle.hwp_fault.specs.declared.fault.Fault.{Fault}
use Rattle.hwp_fault.specs.declared.fault.FaultAt.{FaultAt}
use Rattle.hwp_fault.specs.declared.fault.FaultAt.TheVariants as fault_at
use Rattle.hwp_fault.specs.declared.fault.FaultAnswer.{FaultAnswer}
use Rattle.hwp_fault.specs.declared.fault.FaultAnswer.TheVariants as fault_answers
use Rattle.hwp_fault.specs.Accesses.{begin, again, answer, answer_at, plan, plan_at, put, put_at, bare, bare_at, at_start, after_process, at_process, leading, at_translation, pinned, ended, unlocked, touch_of, after_fault_at, after_fault, is_bad, is_frame, leads_to, what_by, what_of, met_by, met_of, entry_of, word_in, reply_by, reply_where, reply, reached, Reaches, Prepares, LooksOf, LooksAgain, FaultStepped, Next, NextAt, Shows, ShowsAt, GoesOn, HasReached, HasChecked, Answered, HasTaken, HasLocked, HasToList, IsReady, FitsThen, IsBegun, IsAnew, IsLooking, IsPinning, IsPinned, IsLocked, IsUnlocking, IsFaulting, IsOfFrame, IsAnswered, IsDeclared, FitsFrom, FitsAt, task as access-task}
use Rattle.hwp_fault.specs.declared.touch.Touch.{Touch}
use Rattle.hwp_fault.specs.Faults as faults
use Rattle.hwp_fault.specs.Touches.{IsTouch}
use Rattle.hwp_fault.proofs.Deeds.{give-up-bare}
use Rattle.hwp_fault.proofs.FaultLaws as faulting
use Rattle.hwp_fault.proofs.AccessHome.{bit-good, bit-set, in-hand, still-held, still-more, one-more, reached-held, taken-still, bad-shown}
use Rattle.hwp_fault.proofs.TranslationWords.{trans-word, ending-named, names-own, lock-owner, in-use, owner-in-slot}

-- ---- the steps can be made

referenced : (frame : Frame) → 0 < refs_on frame.0 (one_ref frame)
referenced frame = let same = same-number frame.0 frame.0 refl in grind arith

pub slot-within : (layout : Layout) (a : Request) → IsDeclared layout a → a.slot.0 < length layout.trans
slot-within layout a names = slice_get_within layout.trans a.slot.0 names.decl names.declared

is-of : (layout : Layout) (a : Request) → IsDeclared layout a → IsOf layout a.page a.slot
is-of layout a names = subst (λ (t : Option TransDecl). IsSomeAnd t (λ (d : TransDecl). d.page ≡ a.page)) (sym names.declared) names.page_is

touches : (layout : Layout) (a : Request) → IsDeclared layout a → IsTouch layout a.slot (touch_of a)
touches layout a names = record {
  decl = names.decl;
  declared = names.declared;
  process_is = names.process_is;
  thread = names.thread;
  thread_declared = names.thread_declared;
  thread_of = names.thread_of;
  process = names.process;
}

pub can : {base : List Made} (layout : Layout) (view : View) (a : Access) (step : Step) → FitsFrom base layout view a → plan a ≡ Some step → CanMake layout a.request.who step (put a) view
can {base} layout view a step fits is = which a.at fits.at is
  where
    which : (x : AccessAt) → FitsAt base layout view a.request x → plan_at a.request x ≡ Some step → CanMake layout a.request.who step (put_at x) view
    which at.LoadStop has e = can-make fits.on_turn e tt tt
    which at.LoadProcess has e = can-make fits.on_turn e fits.names.process tt
    which at.LoadTranslation has e = can-make fits.on_turn e (slot-within layout a.request fits.names) tt
    which (at.Pin p) has e = subst (λ (w : Who). CanMake layout w step None view) has.own (pinning.can layout view p step has.pin e)
    which (at.LockFrame frame) has e = can-make fits.on_turn e has.within (record {
      referenced = subst (λ (h : Hand). 0 < refs_on frame.0 h.refs) (sym has.hand_is) (referenced frame);
      unlisted = ap (λ (h : Hand). locks_on frame.0 h.locks) has.hand_is;
      second = subst (λ (h : Hand). length h.locks < 2) (sym has.hand_is) (omega arith);
    })
    which (at.LoadAgain frame body) has e = can-make fits.on_turn e (slot-within layout a.request fits.names) tt
    which (at.LoadBad frame body) has e = can-make fits.on_turn e has.taken.within tt
    which (at.Unlock u then) has e = subst (λ (w : Who). CanMake layout w step (unlocks.put u) view) has.own (unlocking.can layout view u step has.unlock e)
    which (at.Fault f) has e = subst (λ (w : Who). CanMake layout w step (faults.put f) view) has.own (faulting.can layout view f step has.fault e)
    which (at.GiveUp g) has e = subst (λ (w : Who). CanMake layout w step (give_ups.put g) view) has.own (giving_up.can layout view g step has.give_up e)
    which (at.Over answer) has e = absurd (none-some step e)

-- ---- what the command knows and has made

-- a word that names no page is 0
none-named : (found : ℕ) → page_named found ≡ None → found ≡ 0
none-named found none = which (found == 0) refl
  where
    which : (b : Bool) → (found == 0) ≡ b → found ≡ 0
    which true is = eqb-true found 0 is
    which false is = absurd (none-some (record { 0 = (found - 1) % 2 ^ 16 }) (sym none ∙ ap (λ (c : Bool). cond c None (Some (record { 0 = (found - 1) % 2 ^ 16 }))) is))

module _ (base : List Made) (a : Request) {layout : Layout} {old new : View} {step : Step} {found : ℕ} {got : Option BodyValue} (lists : ListsNone step) (made : Steps layout a.who step None old new found got) where
  only-stays : HasOnlyBeside base (Precedes a.page a.slot a.line) old a.who → HasOnlyBeside base (Precedes a.page a.slot a.line) new a.who
  only-stays only = only-beside-stays a.who old new (deeds-same a.who lists made) only

  goes-on : GoesOn base a old → GoesOn base a new
  goes-on on = record { alive = saw-stays made on.alive; only = only-stays on.only }

  none-stays : HasMadeNoneBeside base old a.who → HasMadeNoneBeside base new a.who
  none-stays none = deeds-same a.who lists made ∙ none

  reached-stays : {word place : ℕ} → HasReached base a old word place → HasReached base a new word place
  reached-stays has = record { alive = saw-stays made has.alive; mask = has.mask; good = has.good; made = has-made-stays a.who old new (deeds-same a.who lists made) has.made }

  checked-stays : {frame : Frame} {place : ℕ} → HasChecked base layout a old frame place → HasChecked base layout a new frame place
  checked-stays has = record { alive = saw-stays made has.alive; mask = has.mask; bad = has.bad; saw = saw-stays made has.saw; within = has.within; made = has-made-stays a.who old new (deeds-same a.who lists made) has.made }

  answer-stays : (answer : AccessAnswer) → Answered base layout old a answer → Answered base layout new a answer
  answer-stays (answers.Value word place) has = (has.0, has.1, reached-stays has.2)
  answer-stays (answers.Stored place) has = (has.0, has.1, has.2, reached-stays has.3)
  answer-stays (answers.Checked frame place) has = (has.0, checked-stays has.1)
  answer-stays (answers.Sigbus place) has = (has.0, record { alive = saw-stays made has.1.alive; made = has-made-stays a.who old new (deeds-same a.who lists made) has.1.made })
  answer-stays answers.NoFrame has = (goes-on has.0, saw-stays made has.1, has.2, saw-state-stays made has.3)
  answer-stays (answers.Gone page) has = (saw-stays made has.0, only-stays has.1)
  answer-stays answers.Stopped has = (record { word = has.0.word; stopped = has.0.stopped; saw = saw-stays made has.0.saw }, none-stays has.1)

-- ---- the first loads

module _ (base : List Made) {layout : Layout} {a : Request} {old new : View} {found : ℕ} {got : Option BodyValue} (on_turn : IsOnTurn new a.who) (names : IsDeclared layout a) where
  stop-loaded : IsBegun base old a → Steps layout a.who (steps.Load places.Stop) None old new found got → FitsAt base layout new a (at_start found)
  stop-loaded has made = which (is_stopped found) refl
    where
      which : (b : Bool) → is_stopped found ≡ b → FitsAt base layout new a (cond b (at.Over answers.Stopped) at.LoadProcess)
      which true is = record { hand_is = hand-planned made refl has.hand_is; answered = (record { word = found; stopped = is; saw = saw-load made }, none-stays base a tt made has.none) }
      which false is = record { hand_is = hand-planned made refl has.hand_is; only = only-of-none new a.who (none-stays base a tt made has.none) }

  process-loaded : IsAnew base old a → Steps layout a.who (steps.Load (places.Process a.process)) None old new found got → FitsAt base layout new a (at_process found)
  process-loaded has made = which (page_named found) refl
    where
      which : (p : Option Page) → page_named found ≡ p → FitsAt base layout new a (after_process p)
      which None is = record {
        hand_is = hand-planned made refl has.hand_is;
        on = record { alive = subst (λ (n : ℕ). Saw new a.who (places.Process a.process) n) (none-named found is) (saw-load made); only = only-stays base a tt made has.only };
      }
      which (Some page) is = record {
        hand_is = hand-planned made refl has.hand_is;
        answered = (
          subst (λ (n : ℕ). Saw new a.who (places.Process a.process) n) (ending-named layout made.told.board made.told.rule a.process found page names.process made.told.met is) (saw-load made),
          only-stays base a tt made has.only,
        );
      }

  -- the translation's word among the words of the board
  there : (made : Steps layout a.who (steps.Load (places.Trans a.slot)) None old new found got) → slice_get (words_of layout made.told.board.words).trans a.slot.0 ≡ Some found
  there made = trans-word layout made.told.board made.told.rule a.slot found (slot-within layout a names) made.told.met

  translation-loaded : IsLooking base old a → Steps layout a.who (steps.Load (places.Trans a.slot)) None old new found got → FitsAt base layout new a (at_translation a found)
  translation-loaded has made = which (frame_in found) refl
    where
      hand : hand_of new ≡ empty
      hand = hand-planned made refl has.hand_is

      on : GoesOn base a new
      on = goes-on base a tt made has.on

      which : (f : Option Frame) → frame_in found ≡ f → FitsAt base layout new a (leading a f)
      which None is = record { fault = faulting.begins on_turn names.page (is-of layout a names) (touches layout a names) hand on.only; own = refl; page_is = refl; slot_is = refl; touch_is = refl; unanswered = refl; alive = on.alive }
      which (Some frame) is = record {
        hand_is = hand;
        pin = record {
          on_turn = on_turn;
          frame = (names-own layout made.told.board made.told.rule a.slot names.decl names.declared found (there made) frame is).1;
          at = record {
            shares = subst (λ (h : Hand). refs_on frame.0 h.refs + 1 ≤ length layout.trans + 2) (sym hand) (omega arith);
            first = λ none. subst (λ (h : Hand). h.reserved + length h.hands + length h.refs + 1 ≤ 2) (sym hand) (omega arith);
          };
        };
        own = refl;
        under_way = refl;
        on = on;
      }

  -- ---- the reference

  pin-moved : (p : Pin) (step : Step) → pins.plan p ≡ Some step → IsPinning base layout old a p → Steps layout a.who step None old new found got → FitsAt base layout new a (pinned (pins.next p found))
  pin-moved p step is has made = which p.at is hand (pinning.moved layout old new p step found got has.pin is own)
    where
      own : Steps layout p.who step None old new found got
      own = subst (λ (w : Who). Steps layout w step None old new found got) (sym has.own) made

      hand : hand_of new ≡ pins.hand_next p found empty
      hand = pinning.held-after p empty is has.hand_is own

      on : GoesOn base a new
      on = goes-on base a (pin-lists p step is) made has.on

      shown : (gone : Bool) → hand_of new ≡ empty → pins.Fits layout new (record p { at = cond gone (pin_at.Gone found) (pin_at.Get found) }) → FitsAt base layout new a (pinned (record p { at = cond gone (pin_at.Gone found) (pin_at.Get found) }))
      shown true hand fits = record { hand_is = hand; on = on }
      shown false hand fits = record { hand_is = hand; pin = fits; own = has.own; under_way = refl; on = on }

      which : (x : PinAt) → pins.plan_at p.frame x ≡ Some step → hand_of new ≡ pins.hand_next_at p.frame x found empty
          → pins.Fits layout new (record p { at = pins.next_at x found }) → FitsAt base layout new a (pinned (record p { at = pins.next_at x found }))
      which pin_at.Load e hand fits = shown (is_gone found) hand fits
      which (pin_at.Get seen) e hand fits = by (found == seen) hand fits
        where
          by : (b : Bool) → hand_of new ≡ cond b (record empty { refs = one_ref p.frame }) empty → pins.Fits layout new (record p { at = cond b (pin_at.Held seen) (pins.at_word found) })
              → FitsAt base layout new a (pinned (record p { at = cond b (pin_at.Held seen) (pins.at_word found) }))
          by true hand fits = record { hand_is = hand; within = fits.frame; on = on }
          by false hand fits = shown (is_gone found) hand fits
      which (pin_at.Held word) e hand fits = absurd (none-some step e)
      which (pin_at.Gone word) e hand fits = absurd (none-some step e)

-- ---- the frame's lock

-- taking a body leaves the sights
lock-sights : (b : Bool) (layout : Layout) (who : Who) (frame : Frame) (content : Option Log) (v : View) (locks : List FrameLock) → (cond b (taken layout who (Some frame) content (record v { locks = locks })) v).sights ≡ v.sights
lock-sights true layout who frame None v locks = refl
lock-sights true layout who frame (Some log) v locks = refl
lock-sights false layout who frame content v locks = refl

went : {A : Type 0} (b c : Bool) (x y : A) → b ≡ c → cond b x y ≡ cond c x y
went b c x y is = ap (λ (d : Bool). cond d x y) is

module _ {base : List Made} {layout : Layout} {a : Request} {old new : View} {found : ℕ} {got : Option BodyValue} (frame : Frame) (has : IsPinned base layout old a frame) (made : Steps layout a.who (steps.LockFrame frame) None old new found got) where
  abbrev content : Option Log
  content = content_of layout a.who (steps.LockFrame frame) None found got

  -- the frame with the lock as it was found
  abbrev found-hand : Hand
  found-hand = record empty { refs = one_ref frame; locks = lock_found frame found ∷ [] }

  after-lock : hand_of new ≡ cond (not (is_locked found)) (taking layout (Some frame) content (length old.sights) found-hand) (record empty { refs = one_ref frame })
  after-lock = hand-planned made refl has.hand_is

  on-locked : GoesOn base a new
  on-locked = goes-on base a tt made has.on

  sights : new.sights ≡ old.sights
  sights = ap (λ (v : View). v.sights) made.told.next ∙ lock-sights (goes (steps.LockFrame frame) found) layout a.who frame content (noted a.who old) (old.locks ++ lock_found frame found ∷ [])

  module _ (free : not (is_locked found) ≡ true) where
    flow : content ≡ logs got
    flow = brought layout a.who (steps.LockFrame frame) None found got (ap (λ (b : Bool). is_out (moved_out b (frame_slot frame))) free)

    owner : content_name (logs got) ≡ owner_of found
    owner = ap content_name (sym flow) ∙ owner-in-slot layout made.told.board made.told.rule frame found content has.within made.told.met (free-word found free)
        (was-home (not (is_locked found)) (frame_slot frame) made.told.board.homes content free made.told.slot)

    hand : hand_of new ≡ taking layout (Some frame) (logs got) (length old.sights) found-hand
    hand = after-lock ∙ went (not (is_locked found)) true _ _ free ∙ ap (λ (c : Option Log). taking layout (Some frame) c (length old.sights) found-hand) flow

    locked : HasLocked layout new frame got
    locked = which got owner hand made.brings.layout_is made.brings.kept
      where
        which : (g : Option BodyValue) → content_name (logs g) ≡ owner_of found → hand_of new ≡ taking layout (Some frame) (logs g) (length old.sights) found-hand → FitsLayout layout g → ((b : BodyValue) → g ≡ Some b → IsReplay b.layout b.page b.log b.state) → HasLocked layout new frame g
        which None own hand of kept = record { handled = is_handled found; poisoned = is_poisoned found; hand_is = hand ∙ ap (λ (n : ℕ). record found-hand { locks = record (lock_found frame found) { owner = n } ∷ [] }) (sym own); within = has.within }
        which (Some b) own hand of kept = record {
          seen = length old.sights;
          handled = is_handled found;
          poisoned = is_poisoned found;
          hand_is = hand ∙ ap (λ (n : ℕ). record found-hand { locks = record (lock_found frame found) { owner = n } ∷ []; bodies = body_in (Some frame) (log_of b) (length old.sights) ∷ [] }) (sym own);
          earlier = subst (λ (l : List Sight). length old.sights ≤ length l) (sym sights) (omega arith);
          layout_is = of b refl;
          replay = subst (λ (l : Layout). IsReplay l b.page b.log b.state) (of b refl) (kept b refl);
          within = has.within;
        }

  frame-locked : FitsAt base layout new a (cond (is_locked found) (at.LockFrame frame) (at.LoadAgain frame got))
  frame-locked = which (is_locked found) refl
    where
      which : (b : Bool) → is_locked found ≡ b → FitsAt base layout new a (cond b (at.LockFrame frame) (at.LoadAgain frame got))
      which true is = record { hand_is = after-lock ∙ went (not (is_locked found)) false _ _ (ap not is); within = has.within; on = on-locked }
      which false is = record { locked = locked (ap not is); on = on-locked }

-- ---- another look

module _ (base : List Made) {layout : Layout} {a : Request} {old new : View} {found : ℕ} {got : Option BodyValue} (on_turn : IsOnTurn new a.who) (names : IsDeclared layout a) (frame : Frame) (made : Steps layout a.who (steps.Load (places.Trans a.slot)) None old new found got) where
  leads-named : leads_to frame found ≡ true → frame_in found ≡ Some frame
  leads-named is = which (frame_in found) is
    where
      which : (f : Option Frame) → is_frame frame f ≡ true → f ≡ Some frame
      which None is = absurd (both_ways true (sym is) refl)
      which (Some named) is = ap Some (same-frame named frame (eqb-true named.0 frame.0 is))

  at-word : slice_get (words_of layout made.told.board.words).trans a.slot.0 ≡ Some found
  at-word = trans-word layout made.told.board made.told.rule a.slot found (slot-within layout a names) made.told.met

  still : hand_of new ≡ hand_of old
  still = hand-planned made refl refl

  longer : length old.sights ≤ length new.sights
  longer = subst (λ (l : List Sight). length old.sights ≤ length l) (sym (ap (λ (v : View). v.sights) made.told.next)) (let more = length-append old.sights in omega arith)

  module _ (body : BodyValue) (has : HasTaken layout old frame body) where
    taken-new : HasTaken layout new frame body
    taken-new = taken-still has still longer

    abbrev lock-of : FrameLock
    lock-of = record { frame = frame; owner = body.page.0 + 1; handled = has.handled; poisoned = has.poisoned }

    lock-at : slice_get old.locks 0 ≡ Some lock-of
    lock-at = ap (λ (h : Hand). slice_get h.locks 0) has.hand_is

    module _ (leads : leads_to frame found ≡ true) where
      own-page : body.page ≡ a.page
      own-page = same-page body.page a.page (omega (arith, lock-owner layout made.told.board made.told.rule a.slot names.decl names.declared found at-word frame (leads-named leads) made.told.seat old made.told.me lock-of lock-at refl, ap (λ (p : Page). p.0) names.page_is))

      used-now : set.contains body.state.maps a.slot.0 ≡ true
      used-now = subst (λ (s : PageState). set.contains s.maps a.slot.0 ≡ true) (replay-state has.replay)
          (in-use layout made.told.board made.told.rule a.slot names.decl names.declared found at-word frame (leads-named leads) made.told.seat old made.told.me lock-of lock-at refl (body_in (Some frame) (log_of body) has.seen)
          (ap (λ (h : Hand). slice_get h.bodies 0) has.hand_is) (ap (λ (h : Hand). h.pages) has.hand_is) refl)

      still-put : (b : BodyValue) → Some body ≡ Some b → (taken : InHand) × (body_of b.page new ≡ Some taken) × (more_of taken (log_of b) ≡ [])
      still-put b is = subst (λ (x : BodyValue). (taken : InHand) × (body_of x.page new ≡ Some taken) × (more_of taken (log_of x) ≡ [])) (same_Some body b is)
          (body_in (Some frame) (log_of body) taken-new.seen, in-hand taken-new, still-more taken-new a.who)

      prepared : GoesOn base a new → (y : AccessAt) → Prepares a frame body y → FitsAt base layout new a y
      prepared on (at.LoadBad of ready) is = subst (λ (f : Frame). FitsAt base layout new a (at.LoadBad f ready)) (sym is.0) (subst (λ (b : BodyValue). FitsAt base layout new a (at.LoadBad frame b)) (sym is.1) (record {
        taken = record {
          seen = taken-new.seen;
          handled = taken-new.handled;
          poisoned = taken-new.poisoned;
          hand_is = taken-new.hand_is;
          earlier = taken-new.earlier;
          layout_is = taken-new.layout_is;
          replay = taken-new.replay;
          within = taken-new.within;
        };
        page_is = own-page;
        used = used-now;
        spare = is.2;
        on = on;
      }))
      prepared on (at.GiveUp g) is = subst (λ (x : GiveUp). FitsAt base layout new a (at.GiveUp x)) (sym is) (record { give_up = giving_up.frame-given-up layout new a.who frame body on_turn (still-held taken-new a.who); own = refl; of_frame = tt; still = still-put })
      prepared on at.LoadStop is = absurd is
      prepared on at.LoadProcess is = absurd is
      prepared on at.LoadTranslation is = absurd is
      prepared on (at.Pin p) is = absurd is
      prepared on (at.LockFrame of) is = absurd is
      prepared on (at.LoadAgain of other) is = absurd is
      prepared on (at.Unlock u then) is = absurd is
      prepared on (at.Fault f) is = absurd is
      prepared on (at.Over answer) is = absurd is

  -- a frame without owner is no translation's
  led-nowhere : unlocks.HoldsEmptyFrame layout old frame → leads_to frame found ≡ true → ⊥
  led-nowhere has leads = omega (
    arith,
    lock-owner layout made.told.board made.told.rule a.slot names.decl names.declared found at-word frame (leads-named leads) made.told.seat old made.told.me
        (record { frame = frame; owner = 0; handled = has.handled; poisoned = has.poisoned }) (ap (λ (h : Hand). slice_get h.locks 0) has.hand_is) refl,
  )

  locked-still : (body : Option BodyValue) → HasLocked layout old frame body → HasLocked layout new frame body
  locked-still None has = record { handled = has.handled; poisoned = has.poisoned; hand_is = still ∙ has.hand_is; within = has.within }
  locked-still (Some b) has = taken-new b has

  to-unlock : (body : Option BodyValue) → HasLocked layout old frame body → unlocks.FitsFrame layout new a.who frame body
  to-unlock None has = locked-still None has
  to-unlock (Some b) has = still-held (taken-new b has) a.who

  looked-again : (body : Option BodyValue) → IsLocked base layout old a frame body → (leads_to frame found ≡ true → is_some body ≡ true) × ((y : AccessAt) → LooksAgain a frame body found y → FitsAt base layout new a y)
  looked-again body has = (there-is body has.locked, λ y. which (leads_to frame found) refl body has.locked y)
    where
      on : GoesOn base a new
      on = goes-on base a tt made has.on

      there-is : (b : Option BodyValue) → HasLocked layout old frame b → leads_to frame found ≡ true → is_some b ≡ true
      there-is None had leads = absurd (led-nowhere had leads)
      there-is (Some b) had leads = refl

      which : (c : Bool) → leads_to frame found ≡ c → (b : Option BodyValue) → HasLocked layout old frame b → (y : AccessAt) → LooksOf c a frame b y → FitsAt base layout new a y
      which true leads None had y is = absurd is
      which true leads (Some b) had y is = prepared b had leads on y is
      which false leads b had y is = subst (FitsAt base layout new a) (sym is) (record {
        unlock = record { on_turn = on_turn; at = to-unlock b had };
        own = refl;
        under_way = refl;
        goal = (on, locked-still b had);
      })

-- ---- the access itself

module _ {base : List Made} {layout : Layout} {a : Request} {old new : View} {found : ℕ} {got : Option BodyValue} (on_turn : IsOnTurn new a.who) (names : IsDeclared layout a) (frame : Frame) (body : BodyValue)
    (made : Steps layout a.who (steps.Load (places.Bad frame)) None old new found got) (has : IsReady base layout old a frame body) where
  abbrev still-taken : HasTaken layout new frame body
  still-taken = taken-still has.taken (hand-planned made refl refl) (subst (λ (l : List Sight). length old.sights ≤ length l) (sym (ap (λ (v : View). v.sights) made.told.next)) (let more = length-append old.sights in omega arith))

  reached-moved : Reaches a body × FitsAt base layout new a (at.Unlock (unlocks.begin a.who frame (Some (reached a found body))) (Some (reply a frame found body)))
  reached-moved = (
    record { used = has.used; spare = has.spare },
    record {
      unlock = record { on_turn = on_turn; at = reached-held still-taken a found has.used (bad-shown has.taken made) };
      own = refl;
      under_way = refl;
      goal = record { before = body; mask = found; taken = still-taken; page_is = has.page_is; saw = saw-load made; body_is = refl; answer_is = refl; on = goes-on base a tt made has.on };
    },
  )

-- ---- the frame let go

module _ {base : List Made} (layout : Layout) (a : Request) (new : View) where
  word-answered : (kind : AccessKind) → a.kind ≡ kind → (word place mask : ℕ) → Saw new a.who (places.Process a.process) 0 → ¬ IsBitSet mask a.line → HasMadeBeside base (Precedes a.page a.slot a.line) new a.who a.page place (what_of a mask word)
      → Answered base layout new a (reply_by kind word (record { page = a.page; entry = place }))
  word-answered kinds.Load is word place mask alive good made = (is, refl, record { alive = alive; mask = mask; good = good; made = made })
  word-answered (kinds.Store stored) is word place mask alive good made = (
    stored,
    is,
    refl,
    record {
      alive = alive;
      mask = mask;
      good = good;
      made = subst (λ (w : What). HasMadeBeside base (Precedes a.page a.slot a.line) new a.who a.page place w) (by word ∙ sym (by stored)) made;
    },
  )
    where
      by : (w : ℕ) → what_of a mask w ≡ what_by (kinds.Store stored) a.slot a.line (record { 0 = mask }) w
      by w = ap (λ (k : AccessKind). what_by k a.slot a.line (record { 0 = mask }) w) is

  -- by whether the line is bad
  reply-answered : (bad : Bool) (frame : Frame) (mask : ℕ) (body : BodyValue) → is_bad mask a.line ≡ bad → Saw new a.who (places.Process a.process) 0 → Saw new a.who (places.Bad frame) mask → frame.0 < layout.frames
      → HasMadeBeside base (Precedes a.page a.slot a.line) new a.who a.page (length body.log) (met_by bad a mask (word_in a body)) → Answered base layout new a (reply_where bad a frame body)
  reply-answered true frame mask body is alive saw within made = (refl, record { alive = alive; mask = mask; bad = bit-set mask a.line is; saw = saw; within = within; made = made })
  reply-answered false frame mask body is alive saw within made = word-answered a.kind refl (word_in a body) (length body.log) mask alive (bit-good mask a.line is) made

-- what a fault that is over has made
abbrev MadeBy : List Made → View → FaultAnswer → Who → Page → VSlot → Touch → Type 0
MadeBy base view x who page slot touch = faults.MadeAt base view who page slot touch (fault_at.Over (Some x))

-- a fault that has its answer is over
over-of : (g : Fault) (x : FaultAnswer) → faults.answer g ≡ Some x → is_none (faults.plan g) ≡ true
over-of g x is = which g.at is
  where
    which : (y : FaultAt) → faults.answer_at y ≡ Some x → is_none (faults.plan_at g.page g.slot g.touch y) ≡ true
    which (fault_at.Hold h) none = absurd (none-some x none)
    which (fault_at.LoadPte frame body) none = absurd (none-some x none)
    which (fault_at.Kill frame body place) none = absurd (none-some x none)
    which (fault_at.Fill f) none = absurd (none-some x none)
    which (fault_at.MapIn m) none = absurd (none-some x none)
    which (fault_at.Unhold u answer) none = absurd (none-some x none)
    which (fault_at.GiveUp h) none = absurd (none-some x none)
    which (fault_at.Over answer) some = refl

module _ (base : List Made) (layout : Layout) (a : Request) (old new : View) (found : ℕ) (got : Option BodyValue) where
  -- the body went home with the entry: the command made it
  listed : (frame : Frame) (body : Option BodyValue) (answer : AccessAnswer) → HasToList base layout old a frame body answer → Steps layout a.who (steps.UnlockFrame frame) (logs body) old new found got → Answered base layout new a answer
  listed frame None answer has made = absurd has
  listed frame (Some b) answer has made = subst (Answered base layout new a) (sym has.answer_is)
      (reply-answered layout a new (is_bad has.mask a.line) frame has.mask has.before refl (saw-stays made has.on.alive) (saw-stays made has.saw) has.taken.within
      (has-made-beside a.who old new one.0 one.1 (subst (λ (p : Page). IsAt p (length has.before.log) what one.0) has.page_is one.2) has.on.only))
    where
      what : What
      what = met_of a has.mask (word_in a has.before)

      own : Steps layout a.who (steps.UnlockFrame frame) (Some (log_of (reached a has.mask has.before))) old new found got
      own = subst (λ (x : BodyValue). Steps layout a.who (steps.UnlockFrame frame) (Some (log_of x)) old new found got) has.body_is made

      one : (m : Made) × (deeds a.who new ≡ deeds a.who old ++ m ∷ []) × IsAt has.before.page (length has.before.log) what m
      one = deeds-one a.who (frame-lists (in-hand has.taken) own) (entry_of a what) (one-more has.taken a has.mask) refl

  -- the frame was let go as it was: the command made nothing
  unchanged : (frame : Frame) (body : Option BodyValue) → HasLocked layout old frame body → GoesOn base a old → Steps layout a.who (steps.UnlockFrame frame) (logs body) old new found got → GoesOn base a new
  unchanged frame None has on made = goes-on base a tt made on
  unchanged frame (Some b) has on made = record { alive = saw-stays made on.alive; only = only-beside-stays a.who old new (deeds-none a.who (frame-lists (in-hand has) made) (still-more has a.who)) on.only }

  then-moved : (x : UnlockAt) (step : Step) (then : Option AccessAnswer) → unlocks.plan_at x ≡ Some step → FitsThen base layout old a x then → Steps layout a.who step (logs (unlocks.put_at x)) old new found got
      → FitsThen base layout new a (unlocks.next_at a.who (unlocks.bare_at x) found) then
  then-moved (unlock_at.UnlockFrame frame body) step None is has made = (unchanged frame body has.1 has.0 (steps-planned is made), tt)
  then-moved (unlock_at.UnlockFrame frame body) step (Some answer) is has made = listed frame body answer has (steps-planned is made)
  then-moved (unlock_at.Release r) step None is has made = let-by r (releases.next_at r.count r.at found) (goes-on base a (release-lists r step is) made has.0)
    where
      let-by : (r : Release) (x : ReleaseAt) → GoesOn base a new → FitsThen base layout new a (unlocks.after_release (record r { at = x })) None
      let-by r release_at.Put on = (on, tt)
      let-by r (release_at.Give word) on = (on, tt)
      let-by r (release_at.Unreserve word) on = (on, tt)
      let-by r (release_at.Adopt word) on = (on, tt)
      let-by r (release_at.Retire word) on = (on, tt)
      let-by r (release_at.Back word) on = (on, tt)
  then-moved (unlock_at.Release r) step (Some answer) is has made = let-by r (releases.next_at r.count r.at found) (answer-stays base a (release-lists r step is) made answer has)
    where
      let-by : (r : Release) (x : ReleaseAt) → Answered base layout new a answer → FitsThen base layout new a (unlocks.after_release (record r { at = x })) (Some answer)
      let-by r release_at.Put on = on
      let-by r (release_at.Give word) on = on
      let-by r (release_at.Unreserve word) on = on
      let-by r (release_at.Adopt word) on = on
      let-by r (release_at.Retire word) on = on
      let-by r (release_at.Back word) on = on
  then-moved unlock_at.Over step then is has made = absurd (none-some step is)

  -- once nothing of the frame is held, the command has its answer, or looks again
  then-over : (x : UnlockAt) (then : Option AccessAnswer) → is_none (unlocks.plan_at x) ≡ true → hand_of new ≡ empty → FitsThen base layout new a x then → FitsAt base layout new a (ended then)
  then-over x None over none has = record { hand_is = none; on = has.0 }
  then-over (unlock_at.UnlockFrame frame body) (Some answer) over none has = absurd (both_ways true (sym over) refl)
  then-over (unlock_at.Release r) (Some answer) over none has = record { hand_is = none; answered = has }
  then-over unlock_at.Over (Some answer) over none has = record { hand_is = none; answered = has }

  unlock-moved : (u : Unlock) (step : Step) (then : Option AccessAnswer) → unlocks.plan u ≡ Some step → IsUnlocking base layout old a u then → Steps layout a.who step (logs (unlocks.put u)) old new found got
      → FitsAt base layout new a (unlocked (unlocks.next (unlocks.bare u) found) then)
  unlock-moved u step then is has made = by (is_none (unlocks.plan next)) refl
    where
      next : Unlock
      next = unlocks.next (unlocks.bare u) found

      fits : unlocks.Fits layout new next
      fits = unlocking.moved layout old new u step found got has.unlock is (subst (λ (w : Who). Steps layout w step (logs (unlocks.put u)) old new found got) (sym has.own) made)

      then-is : FitsThen base layout new a next.at then
      then-is = subst (λ (w : Who). FitsThen base layout new a (unlocks.next_at w (unlocks.bare_at u.at) found) then) (sym has.own)
          (then-moved u.at step then is has.goal made)

      by : (over : Bool) → is_none (unlocks.plan next) ≡ over → FitsAt base layout new a (cond over (ended then) (at.Unlock next then))
      by true over = then-over next.at then over (unlocking.let-go layout new next fits over) then-is
      by false on = record { unlock = fits; own = has.own; under_way = on; goal = then-is }

  -- ---- the page brought in

  over-known : (g : Fault) (x : FaultAnswer) → faults.FitsFrom base layout new g → faults.answer g ≡ Some x → faults.FitsOver layout new g.who g.page (Some x)
  over-known g x fits is = subst (faults.FitsOver layout new g.who g.page) is (faulting.over-fits g (over-of g x is) fits)

  fault-moved : (f : Fault) (step : Step) → faults.plan f ≡ Some step → IsFaulting base layout old a f → Steps layout a.who step (logs (faults.put f)) old new found got
      → faults.Shows (faults.bare f) found got × ((y : AccessAt) (turn : Turn) → FaultStepped layout (faults.bare f) found got y turn → FitsAt base layout new a y)
  fault-moved f step is has made = (child.0, λ y turn stepped. subst (FitsAt base layout new a) (sym stepped.next_is) (then stepped.after turn stepped.follows))
    where
      child : faults.Shows (faults.bare f) found got × ((after : Fault) (turn : Turn) → faults.Follows layout (faults.bare f) found got after turn → faults.FitsFrom base layout new after × (after.who.cpu ≡ f.who.cpu))
      child = faulting.stays layout old new f step found got has.fault is (subst (λ (w : Who). Steps layout w step (logs (faults.put f)) old new found got) (sym has.own) made)

      alive : Saw new a.who (places.Process a.process) 0
      alive = saw-stays made has.alive

      then : (g : Fault) (turn : Turn) → faults.Follows layout (faults.bare f) found got g turn → FitsAt base layout new a (after_fault g)
      then g turn follows = which (faults.answer g) refl
        where
          fits : faults.FitsFrom base layout new g
          fits = (child.1 g turn follows).0

          own : g.who ≡ a.who
          own = ap (λ (x : Fault). x.who) follows.after_is ∙ has.own

          page-is : g.page ≡ a.page
          page-is = ap (λ (x : Fault). x.page) follows.after_is ∙ has.page_is

          slot-is : g.slot ≡ a.slot
          slot-is = ap (λ (x : Fault). x.slot) follows.after_is ∙ has.slot_is

          touch-is : g.touch ≡ touch_of a
          touch-is = ap (λ (x : Fault). x.touch) follows.after_is ∙ has.touch_is

          made-by : (x : FaultAnswer) → faults.answer g ≡ Some x → MadeBy base new x a.who a.page a.slot (touch_of a)
          made-by x is = subst (λ (w : Who). MadeBy base new x w a.page a.slot (touch_of a)) own (subst (λ (p : Page). MadeBy base new x g.who p a.slot (touch_of a)) page-is
              (subst (λ (s : VSlot). MadeBy base new x g.who g.page s (touch_of a)) slot-is (subst (λ (t : Touch). MadeBy base new x g.who g.page g.slot t) touch-is (faulting.over-made g x is fits))))

          which : (answer : Option FaultAnswer) → faults.answer g ≡ answer → FitsAt base layout new a (after_fault_at g answer)
          which None is = record { fault = fits; own = own; page_is = page-is; slot_is = slot-is; touch_is = touch-is; unanswered = is; alive = alive }
          which (Some fault_answers.Again) is = record { hand_is = (over-known g fault_answers.Again fits is).0; on = record { alive = alive; only = made-by fault_answers.Again is } }
          which (Some (fault_answers.NoFrame place)) is = let over = over-known g (fault_answers.NoFrame place) fits is in let why : (place.page ≡ g.page) × Saw new g.who places.Available 0 × SawState layout new g.who g.page place.entry IsAway = over.1 in
              record {
                hand_is = over.0;
                answered = (
                  record { alive = alive; only = made-by (fault_answers.NoFrame place) is },
                  subst (λ (w : Who). Saw new w places.Available 0) own why.1,
                  place.entry,
                  subst (λ (w : Who). SawState layout new w a.page place.entry IsAway) own (subst (λ (p : Page). SawState layout new g.who p place.entry IsAway) page-is why.2),
                );
              }
          which (Some (fault_answers.Sigbus place)) is = let over = over-known g (fault_answers.Sigbus place) fits is in record { hand_is = over.0; answered = (over.1 ∙ page-is, record { alive = alive; made = made-by (fault_answers.Sigbus place) is }) }

-- ---- the command given up

of-frame-after : (x : GiveUpAt) (found : ℕ) → IsOfFrame x → IsOfFrame (give_ups.next_at (give_ups.bare_at x) found)
of-frame-after (give_up_at.Unhold u) found is = absurd is
of-frame-after (give_up_at.Unlock u) found is = by (is_none (unlocks.plan (unlocks.next (unlocks.bare u) found)))
  where
    by : (over : Bool) → IsOfFrame (cond over give_up_at.GiveUp (give_up_at.Unlock (unlocks.next (unlocks.bare u) found)))
    by true = tt
    by false = tt
of-frame-after give_up_at.GiveUp found is = tt
of-frame-after give_up_at.Over found is = tt

-- ---- every state

pub both : {base : List Made} (layout : Layout) (old new : View) (a : Access) (step : Step) (found : ℕ) (got : Option BodyValue) → FitsFrom base layout old a → plan a ≡ Some step → Steps layout a.request.who step (logs (put a)) old new found got
    → Shows (bare a) found got × ((y : AccessAt) (turn : Turn) → NextAt layout a.request (bare_at a.at) found got y turn → FitsAt base layout new a.request y)
both {base} layout old new a step found got fits is made = which a.at is fits.at made
  where
    on : IsOnTurn new a.request.who
    on = on-turn-after fits.on_turn made

    which : (x : AccessAt) → plan_at a.request x ≡ Some step → FitsAt base layout old a.request x → Steps layout a.request.who step (logs (put_at x)) old new found got
        → ShowsAt a.request (bare_at x) found got × ((y : AccessAt) (turn : Turn) → NextAt layout a.request (bare_at x) found got y turn → FitsAt base layout new a.request y)
    which at.LoadStop e has made = (tt, λ y turn next. subst (FitsAt base layout new a.request) (sym next.0) (stop-loaded base on fits.names has (steps-planned e made)))
    which at.LoadProcess e has made = (tt, λ y turn next. subst (FitsAt base layout new a.request) (sym next.0) (process-loaded base on fits.names has (steps-planned e made)))
    which at.LoadTranslation e has made = (tt, λ y turn next. subst (FitsAt base layout new a.request) (sym next.0) (translation-loaded base on fits.names has (steps-planned e made)))
    which (at.Pin p) e has made = (tt, λ y turn next. subst (FitsAt base layout new a.request) (sym next.0) (pin-moved base on fits.names p step e has made))
    which (at.LockFrame frame) e has made = (tt, λ y turn next. subst (FitsAt base layout new a.request) (sym next.0) (frame-locked frame has (steps-planned e made)))
    which (at.LoadAgain frame body) e has made = let all = looked-again base on fits.names frame (steps-planned e made) body has in (all.0, λ y turn next. all.1 y next.0)
    which (at.LoadBad frame body) e has made = let all = reached-moved on fits.names frame body (steps-planned e made) has in (all.0, λ y turn next. subst (FitsAt base layout new a.request) (sym next.0) all.1)
    which (at.Unlock u then) e has made = (tt, λ y turn next. subst (FitsAt base layout new a.request) (sym next.0) (unlock-moved base layout a.request old new found got u step then e has made))
    which (at.Fault f) e has made = fault-moved base layout a.request old new found got f step e has made
    which (at.GiveUp g) e has made = (
      tt,
      λ y turn next. subst (FitsAt base layout new a.request) (sym next.0) (record {
        give_up = giving_up.moved layout old new g step found got has.give_up e (subst (λ (w : Who). Steps layout w step (logs (give_ups.put g)) old new found got) (sym has.own) made);
        own = has.own;
        of_frame = of-frame-after g.at found has.of_frame;
        still = λ b is. absurd (none-some b (sym (give-up-bare g found) ∙ is));
      }),
    )
    which (at.Over answer) e has made = absurd (none-some step e)

pub stays : {base : List Made} (layout : Layout) (old new : View) (a : Access) (step : Step) (found : ℕ) (got : Option BodyValue) → FitsFrom base layout old a → plan a ≡ Some step → Steps layout a.request.who step (logs (put a)) old new found got
    → Shows (bare a) found got × ((after : Access) (result : Turn) → Next layout (bare a) found got after result → FitsFrom base layout new after × (after.request.who.cpu ≡ a.request.who.cpu))
stays {base} layout old new a step found got fits is made =
    let all = both layout old new a step found got fits is made in (
      all.0,
      λ after result next. (
        subst (FitsFrom base layout new) (sym next.rest) (record { on_turn = on-turn-after fits.on_turn made; names = fits.names; at = all.1 after.at result next.at }),
        ap (λ (x : Access). x.request.who.cpu) next.rest,
      ),
    )

-- the law of the task, whatever its command had made before
pub law : IsTask access-task
law = record {
  can = λ layout view s step fits is. can layout view s step fits.1 is;
  stays = λ layout old new s step found got fits is made. let all = stays layout old new s step found got fits.1 is made in (all.0, λ after turn follows. let kept = all.1 after turn follows in ((fits.0, kept.0), kept.1));
}

-- ---- before it and after it

pub begins : {base : List Made} (layout : Layout) (view : View) (a : Request) → IsOnTurn view a.who → IsDeclared layout a → hand_of view ≡ empty → HasMadeNoneBeside base view a.who → FitsFrom base layout view (begin a)
begins {base} layout view a on names hand none = record { on_turn = on; names = names; at = record { hand_is = hand; none = none } }

pub begins-again : {base : List Made} (layout : Layout) (view : View) (a : Request) → IsOnTurn view a.who → IsDeclared layout a → hand_of view ≡ empty → HasOnlyBeside base (Precedes a.page a.slot a.line) view a.who
    → FitsFrom base layout view (again a)
begins-again {base} layout view a on names hand only = record { on_turn = on; names = names; at = record { hand_is = hand; only = only } }

pub answered : {base : List Made} (layout : Layout) (view : View) (a : Access) (x : AccessAnswer) → FitsFrom base layout view a → answer a ≡ Some x → IsAnswered base layout view a.request x
answered {base} layout view a x fits is = which a.at is fits.at
  where
    which : (y : AccessAt) → answer_at y ≡ Some x → FitsAt base layout view a.request y → IsAnswered base layout view a.request x
    which at.LoadStop none has = absurd (none-some x none)
    which at.LoadProcess none has = absurd (none-some x none)
    which at.LoadTranslation none has = absurd (none-some x none)
    which (at.Pin p) none has = absurd (none-some x none)
    which (at.LockFrame frame) none has = absurd (none-some x none)
    which (at.LoadAgain frame body) none has = absurd (none-some x none)
    which (at.LoadBad frame body) none has = absurd (none-some x none)
    which (at.Unlock u then) none has = absurd (none-some x none)
    which (at.Fault f) none has = absurd (none-some x none)
    which (at.GiveUp g) none has = absurd (none-some x none)
    which (at.Over other) some has = subst (IsAnswered base layout view a.request) (same_Some other x some) has
