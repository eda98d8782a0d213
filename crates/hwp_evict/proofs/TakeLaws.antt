-- The laws of `Take`.
use Rattle.std.proofs.Common.{◌≡◌, ℕ, ◌+◌, ◌-◌, ◌/◌, ◌^◌, ◌<◌, ◌≤◌, ◌==◌, nat_lt, Bool, true, false, cond, [], ◌∷◌, ◌++◌, Option, Some, None, length, slice_get, slice_index, refl, sym, ap, ◌∙◌, subst, arith}
use Rattle.std.proofs.lemmas.Bool.{ltb-true, eqb-true, eqb-false}
use Rattle.std.proofs.lemmas.Option.{none-some, same_Some}
use Rattle.hwp_core.specs.hwp_geom.declared.Frame.{Frame}
use Rattle.hwp_core.specs.hwp_geom.declared.Layout.{Layout}
use Rattle.hwp_core.specs.hwp_geom.declared.Who.{Who}
use Rattle.hwp_core.specs.hwp_geom.Limits.{frame_limit}
use Rattle.hwp_core.specs.hwp_page.History.{BodyValue}
use Rattle.hwp_core.specs.hwp_words.Frames.{is_handled, is_poisoned, owner_of}
use Rattle.hwp_core.specs.hwp_core_rule.declared.FrameInHand.{FrameInHand}
use Rattle.hwp_core.specs.hwp_core_rule.declared.FrameLock.{FrameLock}
use Rattle.hwp_core.specs.hwp_core_rule.declared.Log.{Log}
use Rattle.hwp_core.specs.hwp_core_rule.declared.SharedWord.TheVariants as places
use Rattle.hwp_core.specs.hwp_core_rule.declared.State.{State}
use Rattle.hwp_core.specs.hwp_core_rule.declared.Step.{Step}
use Rattle.hwp_core.specs.hwp_core_rule.declared.Step.TheVariants as steps
use Rattle.hwp_core.specs.hwp_core_rule.declared.View.{View}
use Rattle.hwp_core.specs.hwp_core_rule.Asks.{CanRetire, HasInHand, HasLock, HasRoom}
use Rattle.hwp_core.specs.hwp_core_rule.Logs.{log_of}
use Rattle.hwp_core.specs.hwp_core_rule.Rule.{Holds, holdings_of}
use Rattle.hwp_core.specs.hwp_core_rule.SlotMoves.{IsIn, frame_slot}
use Rattle.hwp_core.specs.hwp_core_rule.Lists.{SomeMember}
use Rattle.hwp_core.specs.hwp_core_rule.Views.{lock_found, refs_on, with_refs, less_refs, without, is_hand_of, is_lock_of}
use Rattle.hwp_core.specs.hwp_core_rule.Views as views
use Rattle.hwp_core.specs.hwp_core_rule.Words.{free_words, index, words_of}
use Rattle.hwp_core.specs.hwp_core_rule.parts.Bodies.{IsAtHome, content_name}
use Rattle.hwp_core.specs.hwp_core_rule.parts.Places.{IsBare}
use Rattle.hwp_core.proofs.of_hwp_core_rule.Lists.{at_map, same-number, some-last}
use Rattle.hwp_core.proofs.of_hwp_core_rule.MetWords.{frame-word, hand-bare}
use Rattle.hwp_core.proofs.of_hwp_core_rule.MoveKeeps.{shaped}
use Rattle.hwp_core.proofs.of_hwp_core_rule.Refs.{length-less-all, refs-with}
use Rattle.hwp_core.proofs.of_hwp_core_rule.ListDrops.{length-without}
use Rattle.hwp_core.proofs.of_hwp_core_rule.kinds.Adopt.{unreferenced}
use Rattle.hwp_core.specs.hwp_core_rule.declared.Turn.{Turn}
use Rattle.hwp_core.specs.hwp_core_rule.Calls.{CanMake, Steps, logs}
use Rattle.hwp_core.specs.hwp_core_rule.Hands.{Hand, hand_of}
use Rattle.hwp_core.proofs.of_hwp_core_rule.tasks.StepLeaves.{on-turn-after, hand-planned, steps-planned, can-make}
use Rattle.hwp_core.specs.hwp_core_rule.Known.{Saw}
use Rattle.hwp_core.proofs.of_hwp_core_rule.tasks.SightKeeps.{saw-load, saw-reserve}
use Rattle.hwp_core.specs.Releases.{adopted_lock}
use Rattle.hwp_core.proofs.FreeWords.{lowest-shown}
use Rattle.hwp_evict.specs.declared.take.Take.{Take}
use Rattle.hwp_evict.specs.declared.take.TakeAt.{TakeAt}
use Rattle.hwp_evict.specs.declared.take.TakeAt.TheVariants as at
use Rattle.hwp_evict.specs.Takes.{at_adopted, at_available, after_word, lowest_free, has_bit, plan, plan_at, next, next_at, turn, ShowsAt, Shows, HasLockRoom, Fits, FitsAt, hand_next, hand_next_at}

pub can : (layout : Layout) (view : View) (t : Take) (step : Step) → Fits layout view t → plan t ≡ Some step → CanMake layout t.who step None view
can layout view t step fits is = which t.at fits.at is
  where
    which : (x : TakeAt) → FitsAt layout view t.who x → plan_at x ≡ Some step → CanMake layout t.who step None view
    which at.LoadAvailable at e = can-make fits.on_turn e tt tt
    which (at.Reserve seen) at e = can-make fits.on_turn e tt (at.0, at.1.0)
    which (at.LoadFree number) at e = can-make fits.on_turn e at.0 tt
    which (at.TakeBit frame) at e = can-make fits.on_turn e (let inside : frame.0 < layout.frames = at.0 in omega arith) (at.0, at.1.0)
    which (at.Adopt frame) at e = can-make fits.on_turn e at.0 (at.1.0, at.1.1)
    which (at.Retire frame) at e = can-make fits.on_turn e at.0 at.1.0
    which (at.Over frame) at e = absurd (none-some step e)

-- room is read of what is held
abbrev RoomIn : Hand → Type 0
RoomIn h = h.reserved + length h.hands + length h.refs + 1 ≤ 2

abbrev LockRoomIn : Hand → Type 0
LockRoomIn h = length h.locks < 2

same-room : (old new : View) → hand_of new ≡ hand_of old → HasRoom old × HasLockRoom old → HasRoom new × HasLockRoom new
same-room old new same room = (subst RoomIn (sym same) room.0, subst LockRoomIn (sym same) room.1)

number-shown : (layout : Layout) (view : View) (who : Who) (word : ℕ) (none : Bool) → (word == 0) ≡ none → Saw view who places.Available word → HasRoom view × HasLockRoom view
    → FitsAt layout view who (cond none (at.Over None) (at.Reserve word))
number-shown layout view who word true is saw room = subst (Saw view who places.Available) (eqb-true word 0 is) saw
number-shown layout view who word false is saw room = (omega (arith, eqb-false word 0 is), room)

-- what is of no page is no body
none-named : (content : Option Log) → content_name content ≡ 0 → content ≡ None
none-named None e = refl
none-named (Some log) e = absurd (omega arith)

none-brought : (got : Option BodyValue) → logs got ≡ None → got ≡ None
none-brought None e = refl
none-brought (Some body) e = absurd (none-some (log_of body) (sym e))

-- the slot of a frame in hand is empty
hand-empty : (layout : Layout) (s : State) → Holds layout s → (seat : ℕ) (view : View) (frame : Frame) (found : ℕ) (content : Option Log) → slice_get s.views seat ≡ Some view → HasInHand view frame → frame.0 < layout.frames
    → found ≡ slice_index s.words (index layout (places.Frame frame)) → IsIn s.homes (frame_slot frame) content → content ≡ None
hand-empty layout s h seat view frame found content me has inside met there = none-named content
    (ap content_name (same_Some content home.content (same_Some (Some content) (Some home.content) (sym there ∙ home.there))) ∙ home.named ∙ bare.unowned)
  where
    bare : IsBare found
    bare = hand-bare layout s h seat view frame found me has inside met

    home : IsAtHome s.homes frame.0 (owner_of found)
    home = h.rule.pages.bodies.frame_home frame.0 found (frame-word layout s h frame found inside met) bare.unlocked

module _ {layout : Layout} {old new : View} {step : Step} {found : ℕ} {got : Option BodyValue} (t : Take) (is : plan t ≡ Some step) (made : Steps layout t.who step None old new found got) where
  -- the lock of a frame that was in hand
  lock-bare : (frame : Frame) → Some (steps.Adopt frame) ≡ Some step → FitsAt layout old t.who (at.Adopt frame) → lock_found frame found ≡ adopted_lock frame (is_poisoned found)
  lock-bare frame e at i = record { frame = frame; owner = bare.unowned i; handled = unhandled i; poisoned = is_poisoned found }
    where
      own : Steps layout t.who (steps.Adopt frame) None old new found got
      own = steps-planned e made

      bare : IsBare found
      bare = hand-bare layout own.told.board own.told.rule own.told.seat old frame found own.told.me at.1.0 at.0 own.told.met

      unhandled : is_handled found ≡ false
      unhandled = ap (λ (n : ℕ). n == 1) bare.unhandled

  -- no step brings a body: the slot of a frame that was in hand is empty
  brings-none : (x : TakeAt) → plan_at x ≡ Some step → FitsAt layout old t.who x → got ≡ None
  brings-none at.LoadAvailable e at = (steps-planned e made).brings.none refl
  brings-none (at.Reserve seen) e at = (steps-planned e made).brings.none refl
  brings-none (at.LoadFree number) e at = (steps-planned e made).brings.none refl
  brings-none (at.TakeBit frame) e at = (steps-planned e made).brings.none refl
  brings-none (at.Adopt frame) e at = none-brought got (hand-empty layout own.told.board own.told.rule own.told.seat old frame found (logs got) own.told.me at.1.0 at.0 own.told.met own.told.slot)
    where
      own : Steps layout t.who (steps.Adopt frame) None old new found got
      own = steps-planned e made
  brings-none (at.Retire frame) e at = (steps-planned e made).brings.none refl
  brings-none (at.Over frame) e at = absurd (none-some step e)

  -- what a step leaves of what is held
  pub held-after : (h : Hand) → Fits layout old t → hand_of old ≡ h → hand_of new ≡ hand_next t found h
  held-after h fits has = which t.at is fits.at
    where
      which : (x : TakeAt) → plan_at x ≡ Some step → FitsAt layout old t.who x → hand_of new ≡ hand_next_at x found h
      which at.LoadAvailable e at = hand-planned made e has
      which (at.Reserve seen) e at = hand-planned made e has
      which (at.LoadFree number) e at = hand-planned made e has
      which (at.TakeBit frame) e at = hand-planned made e has
      which (at.Adopt frame) e at = hand-planned made e has
          ∙ ap (λ (l : FrameLock). record h { hands = without (is_hand_of frame) h.hands; refs = with_refs frame 1 h.refs; locks = h.locks ++ l ∷ [] }) (lock-bare frame e at)
      which (at.Retire frame) e at = hand-planned made e has
      which (at.Over frame) e at = absurd (none-some step e)

  -- a frame that was in hand has one reference once it is adopted
  one-reference : (frame : Frame) → Some (steps.Adopt frame) ≡ Some step → FitsAt layout old t.who (at.Adopt frame) → refs_on frame.0 (with_refs frame 1 old.refs) ≡ 1
  one-reference frame e at = refs-with frame 1 old.refs ∙ ap (λ (n : ℕ). n + 1)
      (unreferenced layout (words_of layout own.told.board.words) own.told.board.homes own.told.board.views own.told.seat old own.told.me own.told.rule.rule frame at.0 (shaped layout own.told.board own.told.rule) at.1.0)
    where
      own : Steps layout t.who (steps.Adopt frame) None old new found got
      own = steps-planned e made

  -- and where it is poisoned it can be retired
  adopted : (frame : Frame) → Some (steps.Adopt frame) ≡ Some step → FitsAt layout old t.who (at.Adopt frame) → hand_of new ≡ hand_next_at (at.Adopt frame) found (hand_of old) → FitsAt layout new t.who (at_adopted frame found)
  adopted frame e fit hand = by (is_poisoned found) refl
    where
      by : (b : Bool) → is_poisoned found ≡ b → FitsAt layout new t.who (cond b (at.Retire frame) (at.Over (Some frame)))
      by true poisoned = (fit.0, (retires, ap (λ (h : Hand). refs_on frame.0 h.refs) hand ∙ one-reference frame e fit))
        where
          retires : CanRetire new frame None
          retires = record {
            has = record {
              lock = adopted_lock frame true;
              listed = subst (λ (h : Hand). SomeMember (λ (l : FrameLock). l ≡ adopted_lock frame true) h.locks) (sym hand)
                  (some-last (λ (l : FrameLock). l ≡ adopted_lock frame true) old.locks (adopted_lock frame (is_poisoned found)) (ap (adopted_lock frame) poisoned));
              frame_is = refl;
            };
            unowned = refl;
            unhandled = refl;
            poisoned = refl;
            empty = refl;
          }
      by false clean = fit.0

  -- once it is, there is room for another one
  retired : (frame : Frame) → FitsAt layout old t.who (at.Retire frame) → hand_of new ≡ hand_next_at (at.Retire frame) found (hand_of old) → HasRoom new × HasLockRoom new
  retired frame fit hand = (subst RoomIn (sym hand) room, subst LockRoomIn (sym hand) lock-room)
    where
      has : HasLock old frame
      has = fit.1.0.has

      room : RoomIn (hand_next_at (at.Retire frame) found (hand_of old))
      room =
          let few : old.reserved + length old.hands + length old.refs ≤ 2 =
          (made.told.rule.rule.frames.holdings.bounded made.told.seat (holdings_of old) (at_map holdings_of made.told.board.views made.told.seat old made.told.me)).few in
          let one : length (less_refs frame 1 old.refs) + 1 ≤ length old.refs = length-less-all frame 1 old.refs (omega arith) fit.1.1 in
          omega (arith, few, one)

      of-frame : is_lock_of frame has.listed.1 ≡ true
      of-frame = ap (λ (l : FrameLock). is_lock_of frame l) has.listed.3 ∙ same-number has.lock.frame.0 frame.0 (ap (λ (f : Frame). f.0) has.frame_is)

      lock-room : LockRoomIn (hand_next_at (at.Retire frame) found (hand_of old))
      lock-room =
          let few : length old.locks ≤ 2 = made.told.rule.rule.pages.page_locks.frames_twice made.told.seat old.locks (at_map (λ (v : View). v.locks) made.told.board.views made.told.seat old made.told.me) in
          let one : length (without (is_lock_of frame) old.locks) + 1 ≡ length old.locks = length-without (is_lock_of frame) old.locks has.listed.0 has.listed.1 has.listed.2 of-frame in
          omega (arith, few, one)

  moved : (x : TakeAt) → plan_at x ≡ Some step → FitsAt layout old t.who x → hand_of new ≡ hand_next_at x found (hand_of old) → ShowsAt x found × FitsAt layout new t.who (next_at layout x found)
  moved at.LoadAvailable e fit hand = (tt, number-shown layout new t.who found (found == 0) refl (saw-load (steps-planned e made)) (same-room old new hand fit))
  moved (at.Reserve seen) e fit hand = (tt, by (found == seen) refl hand)
    where
      by : (b : Bool) → (found == seen) ≡ b → hand_of new ≡ cond b (record (hand_of old) { reserved = old.reserved + 1 }) (hand_of old) → FitsAt layout new t.who (cond b (at.LoadFree 0) (at_available found))
      by true same hand =
          let frames : 1 ≤ layout.frames = made.told.rule.sound.some_frame in
          let some : 0 < free_words layout = omega arith in
          let more : new.reserved ≡ old.reserved + 1 = ap (λ (h : Hand). h.reserved) hand in
          (some, (omega (arith, more), subst LockRoomIn (sym hand) fit.1.1))
      by false other hand = number-shown layout new t.who found (found == 0) refl (saw-reserve (steps-planned e made) other) (same-room old new hand fit.1)
  moved (at.LoadFree number) e fit hand = (small, by (found == 0) refl)
    where
      own : Steps layout t.who (steps.Load (places.Free number)) None old new found got
      own = steps-planned e made

      small : number < 2 ^ 10
      small = let few : layout.frames ≤ frame_limit = own.told.rule.sound.frames in let inside : number < free_words layout = fit.0 in omega (arith, few, inside)

      room : (0 < new.reserved) × HasLockRoom new
      room = (subst (λ (h : Hand). 0 < h.reserved) (sym hand) fit.1.0, subst LockRoomIn (sym hand) fit.1.1)

      after-within : (less : Bool) → nat_lt (number + 1) (free_words layout) ≡ less → cond less (number + 1) 0 < free_words layout
      after-within true less = ltb-true (number + 1) (free_words layout) less
      after-within false less = let inside : number < free_words layout = fit.0 in omega (arith, inside)

      by : (none : Bool) → (found == 0) ≡ none → FitsAt layout new t.who (cond none (at.LoadFree (after_word layout number)) (at.TakeBit (lowest_free number found)))
      by true none = (after-within (nat_lt (number + 1) (free_words layout)) refl, room)
      by false some = ((lowest-shown layout own.told.board own.told.rule number found fit.0 own.told.met (omega (arith, eqb-false found 0 some)) own.told.fits).0, room)
  moved (at.TakeBit frame) e fit hand = (tt, by (has_bit frame found) hand)
    where
      by : (b : Bool) → hand_of new ≡ cond b (record (hand_of old) { reserved = old.reserved - 1; hands = old.hands ++ views.unpoisoned frame ∷ [] }) (hand_of old) → FitsAt layout new t.who (cond b (at.Adopt frame) (at.LoadFree (frame.0 / 64)))
      by true hand = (fit.0, (subst (λ (h : Hand). SomeMember (λ (f : FrameInHand). f.frame ≡ frame) h.hands) (sym hand) (some-last (λ (f : FrameInHand). f.frame ≡ frame) old.hands (views.unpoisoned frame) refl), subst LockRoomIn (sym hand) fit.1.1))
      by false hand =
          let inside : frame.0 < layout.frames = fit.0 in
          let within : frame.0 / 64 < free_words layout = omega arith in
          (within, (subst (λ (h : Hand). 0 < h.reserved) (sym hand) fit.1.0, subst LockRoomIn (sym hand) fit.1.1))
  moved (at.Adopt frame) e fit hand = (tt, adopted frame e fit hand)
  moved (at.Retire frame) e fit hand = (tt, retired frame fit hand)
  moved (at.Over frame) e fit hand = absurd (none-some step e)

-- a step shows what is needed, and what follows fits again
pub both : (layout : Layout) (old new : View) (t : Take) (step : Step) (found : ℕ) (got : Option BodyValue) → Fits layout old t → plan t ≡ Some step → Steps layout t.who step None old new found got → Shows t found got × Fits layout new (next layout t found)
both layout old new t step found got fits is made =
    let all : ShowsAt t.at found × FitsAt layout new t.who (next_at layout t.at found) = moved t is made t.at is fits.at (held-after t is made (hand_of old) fits refl) in
    ((all.0, brings-none t is made t.at is fits.at), record { on_turn = on-turn-after fits.on_turn made; at = all.1 })

pub stays : (layout : Layout) (old new : View) (t : Take) (step : Step) (found : ℕ) (got : Option BodyValue) → Fits layout old t → plan t ≡ Some step → Steps layout t.who step None old new found got
    → Shows t found got × ((after : Take) (result : Turn) → (after ≡ next layout t found) × (result ≡ turn t found) → Fits layout new after × (after.who.cpu ≡ t.who.cpu))
stays layout old new t step found got fits is made =
    let all = both layout old new t step found got fits is made in
    (all.0, λ after result follows. (subst (Fits layout new) (sym follows.0) all.1, ap (λ (x : Take). x.who.cpu) follows.0))
