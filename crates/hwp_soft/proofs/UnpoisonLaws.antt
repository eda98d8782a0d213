-- The laws of `Unpoison`: its steps can be made, and what follows a step fits again.
use Rattle.std.proofs.Common.{◌≡◌, ℕ, ◌+◌, ◌<◌, ◌==◌, ◌&&◌, Bool, true, false, not, cond, List, [], ◌∷◌, ◌++◌, Option, Some, None, length, refl, sym, ap, ◌∙◌, subst, arith}
use Rattle.std.proofs.lemmas.Bool.{and_parts, eqb-false, eqb-true}
use Rattle.std.proofs.lemmas.Option.{none-some, same_Some}
use Rattle.hwp_claim_frame.specs.hwp_geom.declared.Cpu.{Cpu}
use Rattle.hwp_claim_frame.specs.hwp_geom.declared.Frame.{Frame}
use Rattle.hwp_claim_frame.specs.hwp_geom.declared.Layout.{Layout}
use Rattle.hwp_claim_frame.specs.hwp_geom.declared.Who.{Who}
use Rattle.hwp_claim_frame.specs.hwp_geom.Limits.{command_limit}
use Rattle.hwp_claim_frame.specs.hwp_page.History.{BodyValue}
use Rattle.hwp_claim_frame.specs.hwp_words.Counters.{hardware_of}
use Rattle.hwp_claim_frame.specs.hwp_words.Frames.{count_of, cycle_of, handled_of, is_handled, is_locked, is_poisoned, owner_of}
use Rattle.hwp_claim_frame.specs.hwp_words.Stops.{is_stopped}
use Rattle.hwp_claim_frame.specs.hwp_core_rule.declared.FrameInHand.{FrameInHand}
use Rattle.hwp_claim_frame.specs.hwp_core_rule.declared.Mark.{Mark}
use Rattle.hwp_claim_frame.specs.hwp_core_rule.declared.MarkKind.TheVariants as mark_kinds
use Rattle.hwp_claim_frame.specs.hwp_core_rule.declared.SharedWord.TheVariants as places
use Rattle.hwp_claim_frame.specs.hwp_core_rule.declared.Step.{Step}
use Rattle.hwp_claim_frame.specs.hwp_core_rule.declared.Step.TheVariants as steps
use Rattle.hwp_claim_frame.specs.hwp_core_rule.declared.View.{View}
use Rattle.hwp_claim_frame.specs.hwp_core_rule.Asks.{CanRevive, HasInHand, HasRoom}
use Rattle.hwp_claim_frame.specs.hwp_core_rule.Lists.{SomeMember}
use Rattle.hwp_claim_frame.specs.hwp_core_rule.Views.{noted, revived_by, sighted, stamp_of, unpoisoned}
use Rattle.hwp_claim_frame.specs.hwp_core_rule.parts.Marks.{revivals_by}
use Rattle.hwp_claim_frame.proofs.of_hwp_core_rule.Lists.{same-number, some-last}
use Rattle.hwp_claim_frame.proofs.of_hwp_core_rule.MetWords.{free-word}
use Rattle.hwp_claim_frame.specs.hwp_core_rule.declared.Turn.{Turn}
use Rattle.hwp_claim_frame.specs.hwp_core_rule.Calls.{CanMake, Steps}
use Rattle.hwp_claim_frame.specs.hwp_core_rule.Hands.{Hand, hand_of, empty}
use Rattle.hwp_claim_frame.proofs.of_hwp_core_rule.tasks.StepLeaves.{can-make, hand-planned, on-turn-after, steps-planned}
use Rattle.hwp_claim_frame.specs.hwp_core_rule.Known.{HasMadeNone, Saw}
use Rattle.hwp_claim_frame.proofs.of_hwp_core_rule.tasks.MadeEntries.{ListsNone, deeds-same}
use Rattle.hwp_claim_frame.proofs.of_hwp_core_rule.tasks.SightKeeps.{saw-load, saw-stays}
use Rattle.hwp_soft.specs.declared.unpoison.Unpoison.{Unpoison}
use Rattle.hwp_soft.specs.declared.unpoison.UnpoisonAt.{UnpoisonAt}
use Rattle.hwp_soft.specs.declared.unpoison.UnpoisonAt.TheVariants as at
use Rattle.hwp_soft.specs.declared.unpoison.UnpoisonAnswer.{UnpoisonAnswer}
use Rattle.hwp_soft.specs.declared.unpoison.UnpoisonAnswer.TheVariants as answers
use Rattle.hwp_soft.specs.Unpoisons.{plan, plan_at, next, next_at, turn, answer, answer_at, hand_at, is_revivable, Fits, FitsAt, HasRevivalLeft, HasRevived, IsCaused, RestsOn, SawNoHardware, SawPoisoned, SawRevivable}

-- ---- the steps can be made

-- a view that holds nothing can hold a frame
room : (view : View) → hand_of view ≡ empty → HasRoom view
room view is = let none : view.reserved + length view.hands + length view.refs ≡ 0 = ap (λ (h : Hand). h.reserved + length h.hands + length h.refs) is in omega (arith, none)

-- the word of a frame whose poison can be taken back
revives : (view : View) (cpu : Cpu) (seen : ℕ) → hand_of view ≡ empty → HasRevivalLeft cpu view → is_revivable seen ≡ true → CanRevive view cpu seen
revives view cpu seen hand left is = record {
  handled = eqb-true (handled_of seen) 1 (first.0);
  unlocked = free-word seen second.0;
  unowned = eqb-true (owner_of seen) 0 third.0;
  alone = eqb-true (count_of seen) 1 third.1;
  few = left;
  room = room view hand;
}
  where
    first : (is_handled seen ≡ true) × ((not (is_locked seen) && ((owner_of seen == 0) && (count_of seen == 1))) ≡ true)
    first = and_parts (is_handled seen) (not (is_locked seen) && ((owner_of seen == 0) && (count_of seen == 1))) is

    second : (not (is_locked seen) ≡ true) × (((owner_of seen == 0) && (count_of seen == 1)) ≡ true)
    second = and_parts (not (is_locked seen)) ((owner_of seen == 0) && (count_of seen == 1)) first.1

    third : ((owner_of seen == 0) ≡ true) × ((count_of seen == 1) ≡ true)
    third = and_parts (owner_of seen == 0) (count_of seen == 1) second.1

in-hand : (view : View) (frame : Frame) → hand_of view ≡ record empty { hands = unpoisoned frame ∷ [] } → HasInHand view frame
in-hand view frame is = subst (SomeMember (λ (h : FrameInHand). h.frame ≡ frame)) (sym (ap (λ (h : Hand). h.hands) is)) (some-last (λ (h : FrameInHand). h.frame ≡ frame) [] (unpoisoned frame) refl)

pub can : (layout : Layout) (view : View) (u : Unpoison) (step : Step) → Fits layout view u → plan u ≡ Some step → CanMake layout u.who step None view
can layout view u step fits is = which u.at fits.hand_is fits.at is
  where
    which : (x : UnpoisonAt) → hand_of view ≡ hand_at u.frame x → FitsAt view u.who u.frame x → plan_at u.frame x ≡ Some step → CanMake layout u.who step None view
    which at.LoadStop hand has e = can-make fits.on_turn e tt tt
    which at.LoadFrame hand has e = can-make fits.on_turn e fits.frame tt
    which (at.LoadCount seen) hand has e = can-make fits.on_turn e tt tt
    which (at.LoadBad seen) hand has e = can-make fits.on_turn e fits.frame tt
    which (at.Revive seen) hand has e = can-make fits.on_turn e fits.frame (revives view u.who.cpu seen hand has.0.left has.1)
    which (at.Uncount cycle) hand has e = can-make fits.on_turn e tt has.2
    which (at.GiveBit cycle) hand has e = can-make fits.on_turn e (let inside : u.frame.0 < layout.frames = fits.frame in omega arith) (in-hand view u.frame hand)
    which (at.Unreserve cycle) hand has e = can-make fits.on_turn e tt (let one : view.reserved ≡ 1 = ap (λ (h : Hand). h.reserved) hand in omega (arith, one))
    which (at.Over said) hand has e = absurd (none-some step e)

-- ---- what a step leaves

left-stays : (old new : View) (cpu : Cpu) → new.marks ≡ old.marks → HasRevivalLeft cpu old → HasRevivalLeft cpu new
left-stays old new cpu same left = subst (λ (l : List Mark). revivals_by cpu l < command_limit) (sym same) left

revived-stays : (old new : View) {who : Who} {frame : Frame} {cycle : ℕ} → new.marks ≡ old.marks → HasRevived old who frame cycle → HasRevived new who frame cycle
revived-stays old new {who} {frame} {cycle} same has = subst (SomeMember (λ (m : Mark). (m.stamp.who ≡ who) × (m.frame ≡ frame) × (m.cycle ≡ cycle) × (m.kind ≡ mark_kinds.Revived))) (sym same) has

-- the exchange: the frame is marked, or its word has changed
module _ {layout : Layout} {who : Who} {old new : View} {found : ℕ} {got : Option BodyValue} (frame : Frame) (seen : ℕ) (made : Steps layout who (steps.Revive frame seen) None old new found got) where
  abbrev pub mark : Mark
  mark = record { stamp = stamp_of who (noted who old); frame = frame; cycle = cycle_of found; kind = mark_kinds.Revived }

  next-is : (b : Bool) → (found == seen) ≡ b → new ≡ cond b (revived_by who frame found (noted who old)) (sighted who (places.Frame frame) found (noted who old))
  next-is b is = made.told.next ∙ ap (λ (b : Bool). cond b (revived_by who frame found (noted who old)) (sighted who (places.Frame frame) found (noted who old))) is

  pub went : (found == seen) ≡ true → (new.marks ≡ old.marks ++ mark ∷ []) × (new.owed ≡ record old.owed { uncounts = old.owed.uncounts + 1 })
  went is = (ap (λ (v : View). v.marks) (next-is true is), ap (λ (v : View). v.owed) (next-is true is))

  pub missed : (found == seen) ≡ false → (new.marks ≡ old.marks) × (new.owed ≡ old.owed)
  missed other = (ap (λ (v : View). v.marks) (next-is false other), ap (λ (v : View). v.owed) (next-is false other))

  has-revived : (found == seen) ≡ true → HasRevived new who frame (cycle_of found) × (0 < new.owed.uncounts)
  has-revived is = (
    subst (SomeMember Such) (sym (went is).0) (some-last Such old.marks mark (refl, refl, refl, refl)),
    (let more : new.owed.uncounts ≡ old.owed.uncounts + 1 = ap (λ (d : _). d.uncounts) (went is).1 in omega (arith, more)),
  )
    where
      Such : Mark → Type 0
      Such m = (m.stamp.who ≡ who) × (m.frame ≡ frame) × (m.cycle ≡ cycle_of found) × (m.kind ≡ mark_kinds.Revived)

module _ {layout : Layout} {old new : View} {step : Step} {found : ℕ} {got : Option BodyValue} (u : Unpoison) (fits : Fits layout old u) (made : Steps layout u.who step None old new found got) where
  kept : {other : Step} → Some other ≡ Some step → ListsNone other → HasMadeNone new u.who
  kept e none = deeds-same u.who none (steps-planned e made) ∙ fits.made

  fit : (y : UnpoisonAt) → hand_of new ≡ hand_at u.frame y → HasMadeNone new u.who → FitsAt new u.who u.frame y → Fits layout new (record u { at = y })
  fit y hand none at = record { on_turn = on-turn-after fits.on_turn made; hand_is = hand; made = none; frame = fits.frame; at = at }

  saw-on : {seen : ℕ} → new.marks ≡ old.marks → SawPoisoned old u.who u.frame seen → SawPoisoned new u.who u.frame seen
  saw-on same saw = record { left = left-stays old new u.who.cpu same saw.left; poisoned = saw.poisoned; saw = saw-stays made saw.saw }

  hardware-on : SawNoHardware old u.who → SawNoHardware new u.who
  hardware-on saw = record { word = saw.word; none = saw.none; saw = saw-stays made saw.saw }

  revivable-on : SawRevivable old u.who u.frame → SawRevivable new u.who u.frame
  revivable-on saw = record {
    revivable = record { word = saw.revivable.word; such = saw.revivable.such; saw = saw-stays made saw.revivable.saw };
    counter = hardware-on saw.counter;
    bad = saw-stays made saw.bad;
  }

  started : Some (steps.Load places.Stop) ≡ Some step → hand_of old ≡ empty → HasRevivalLeft u.who.cpu old → (b : Bool) → is_stopped found ≡ b → Fits layout new (record u { at = cond b (at.Over answers.Stopped) at.LoadFrame })
  started e hand left true is = fit (at.Over answers.Stopped) (hand-planned made e hand) (kept e tt) (record { word = found; stopped = is; saw = saw-load (steps-planned e made) })
  started e hand left false is = fit at.LoadFrame (hand-planned made e hand) (kept e tt) (left-stays old new u.who.cpu (ap (λ (v : View). v.marks) (steps-planned e made).told.next) left)

  framed : Some (steps.Load (places.Frame u.frame)) ≡ Some step → hand_of old ≡ empty → HasRevivalLeft u.who.cpu old → (b : Bool) → is_poisoned found ≡ b → Fits layout new (record u { at = cond b (at.LoadCount found) (at.Over answers.NotPoisoned) })
  framed e hand left true is = fit (at.LoadCount found) (hand-planned made e hand) (kept e tt)
      (record { left = left-stays old new u.who.cpu (ap (λ (v : View). v.marks) (steps-planned e made).told.next) left; poisoned = is; saw = saw-load (steps-planned e made) })
  framed e hand left false is = fit (at.Over answers.NotPoisoned) (hand-planned made e hand) (kept e tt) (record { word = found; such = is; saw = saw-load (steps-planned e made) })

  counted : (seen : ℕ) → Some (steps.Load places.Counter) ≡ Some step → hand_of old ≡ empty → SawPoisoned old u.who u.frame seen → (b : Bool) → (hardware_of found == 0) ≡ b
      → Fits layout new (record u { at = cond b (at.LoadBad seen) (at.Over answers.HardwareSeen) })
  counted seen e hand saw true is = fit (at.LoadBad seen) (hand-planned made e hand) (kept e tt) (
    saw-on (ap (λ (v : View). v.marks) (steps-planned e made).told.next) saw,
    record { word = found; none = eqb-true (hardware_of found) 0 is; saw = saw-load (steps-planned e made) },
  )
  counted seen e hand saw false is = fit (at.Over answers.HardwareSeen) (hand-planned made e hand) (kept e tt)
      (record { word = found; some = (let other = eqb-false (hardware_of found) 0 is in omega (arith, other)); saw = saw-load (steps-planned e made) })

  looked : (seen : ℕ) → Some (steps.Load (places.Bad u.frame)) ≡ Some step → hand_of old ≡ empty → SawPoisoned old u.who u.frame seen × SawNoHardware old u.who → (b c : Bool) → (found == 0) ≡ b → is_revivable seen ≡ c
      → Fits layout new (record u { at = cond b (cond c (at.Revive seen) (at.Over (answers.InUse (count_of seen)))) (at.Over (answers.HasBad (record { 0 = found }))) })
  looked seen e hand saw true true none is = fit (at.Revive seen) (hand-planned made e hand) (kept e tt) (
    saw-on (ap (λ (v : View). v.marks) (steps-planned e made).told.next) saw.0,
    is,
    hardware-on saw.1,
    subst (Saw new u.who (places.Bad u.frame)) (eqb-true found 0 none) (saw-load (steps-planned e made)),
  )
  looked seen e hand saw true false none is =
      fit (at.Over (answers.InUse (count_of seen))) (hand-planned made e hand) (kept e tt) (record { word = seen; such = (saw.0.poisoned, is, refl); saw = saw-stays made saw.0.saw })
  looked seen e hand saw false c some is = fit (at.Over (answers.HasBad (record { 0 = found }))) (hand-planned made e hand) (kept e tt) (eqb-false found 0 some, saw-load (steps-planned e made))

  exchanged : (seen : ℕ) → Some (steps.Revive u.frame seen) ≡ Some step → hand_of old ≡ empty → FitsAt old u.who u.frame (at.Revive seen) → (b : Bool) → (found == seen) ≡ b
      → hand_of new ≡ cond b (record empty { hands = unpoisoned u.frame ∷ [] }) empty → Fits layout new (record u { at = cond b (at.Uncount (cycle_of found)) at.LoadFrame })
  exchanged seen e hand saw true is held =
      let revived = has-revived u.frame seen (steps-planned e made) is in
      fit (at.Uncount (cycle_of found)) held (kept e tt) (revived.0, revivable-on (record { revivable = record { word = seen; such = (saw.0.poisoned, saw.1); saw = saw.0.saw }; counter = saw.2; bad = saw.3 }), revived.1)
  exchanged seen e hand saw false other held = fit at.LoadFrame held (kept e tt) (left-stays old new u.who.cpu (missed u.frame seen (steps-planned e made) other).0 saw.0.left)

  -- what follows a step fits again
  moved : plan u ≡ Some step → Fits layout new (next u found)
  moved is = which u.at fits.hand_is fits.at is
    where
      which : (x : UnpoisonAt) → hand_of old ≡ hand_at u.frame x → FitsAt old u.who u.frame x → plan_at u.frame x ≡ Some step → Fits layout new (record u { at = next_at x found })
      which at.LoadStop hand has e = started e hand has (is_stopped found) refl
      which at.LoadFrame hand has e = framed e hand has (is_poisoned found) refl
      which (at.LoadCount seen) hand has e = counted seen e hand has (hardware_of found == 0) refl
      which (at.LoadBad seen) hand has e = looked seen e hand has (found == 0) (is_revivable seen) refl refl
      which (at.Revive seen) hand has e = exchanged seen e hand has (found == seen) refl (hand-planned made e hand)
      which (at.Uncount cycle) hand has e = fit (at.GiveBit cycle) (hand-planned made e hand) (kept e tt) (revived-stays old new (ap (λ (v : View). v.marks) (steps-planned e made).told.next) has.0, revivable-on has.1)
      which (at.GiveBit cycle) hand has e = fit (at.Unreserve cycle)
          (hand-planned made e hand ∙ ap (λ (b : Bool). record empty { reserved = 1; hands = cond b [] (unpoisoned u.frame ∷ []) }) (same-number u.frame.0 u.frame.0 refl))
          (kept e tt) (revived-stays old new (ap (λ (v : View). v.marks) (steps-planned e made).told.next) has.0, revivable-on has.1)
      which (at.Unreserve cycle) hand has e = fit (at.Over (answers.Done cycle)) (hand-planned made e hand) (kept e tt) (revived-stays old new (ap (λ (v : View). v.marks) (steps-planned e made).told.next) has.0, revivable-on has.1)
      which (at.Over said) hand has e = absurd (none-some step e)

pub stays : (layout : Layout) (old new : View) (u : Unpoison) (step : Step) (found : ℕ) (got : Option BodyValue) → Fits layout old u → plan u ≡ Some step → Steps layout u.who step None old new found got
    → Unit {0} × ((after : Unpoison) (result : Turn) → (after ≡ next u found) × (result ≡ turn u found) → Fits layout new after × (after.who.cpu ≡ u.who.cpu))
stays layout old new u step found got fits is made = (tt, λ after result follows. (subst (Fits layout new) (sym follows.0) (moved u fits made is), ap (λ (x : Unpoison). x.who.cpu) follows.0))

-- once the command is over it holds nothing, and knows why it answers so
pub ended : {layout : Layout} {view : View} (u : Unpoison) {x : UnpoisonAnswer} → Fits layout view u → answer u ≡ Some x → (hand_of view ≡ empty) × IsCaused view u.who u.frame x
ended {layout} {view} u {x} fits is = which u.at fits.hand_is fits.at is
  where
    which : (y : UnpoisonAt) → hand_of view ≡ hand_at u.frame y → FitsAt view u.who u.frame y → answer_at y ≡ Some x → (hand_of view ≡ empty) × IsCaused view u.who u.frame x
    which (at.Over said) hand has e = (hand, (fits.made, subst (RestsOn view u.who u.frame) (same_Some said x e) has))
    which at.LoadStop hand has e = absurd (none-some x e)
    which at.LoadFrame hand has e = absurd (none-some x e)
    which (at.LoadCount seen) hand has e = absurd (none-some x e)
    which (at.LoadBad seen) hand has e = absurd (none-some x e)
    which (at.Revive seen) hand has e = absurd (none-some x e)
    which (at.Uncount cycle) hand has e = absurd (none-some x e)
    which (at.GiveBit cycle) hand has e = absurd (none-some x e)
    which (at.Unreserve cycle) hand has e = absurd (none-some x e)
