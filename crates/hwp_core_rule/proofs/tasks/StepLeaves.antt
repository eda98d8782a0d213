-- What one step leaves: the turn, and what is held.
use Rattle.std.proofs.Common.{◌≡◌, ℕ, ◌==◌, Bool, true, false, cond, [], ◌∷◌, ◌++◌, Option, Some, None, length, refl, sym, ap, ◌∙◌, subst, arith}
use Rattle.std.proofs.lemmas.Bool.{both_ways}
use Rattle.std.proofs.lemmas.Option.{none-some, same_Some}
use Rattle.std.specs.List.{find}
use Rattle.hwp_page.specs.hwp_geom.declared.Layout.{Layout}
use Rattle.hwp_page.specs.hwp_geom.declared.Who.{Who}
use Rattle.hwp_page.specs.History.{BodyValue}
use Rattle.hwp_core_rule.specs.declared.view.FrameLock.{FrameLock}
use Rattle.hwp_core_rule.specs.declared.view.InHand.{InHand}
use Rattle.hwp_core_rule.specs.declared.log.Log.{Log}
use Rattle.hwp_core_rule.specs.declared.view.PageLock.{PageLock}
use Rattle.hwp_core_rule.specs.declared.shared_word.SharedWord.{SharedWord}
use Rattle.hwp_core_rule.specs.declared.shared_word.SharedWord.TheVariants as places
use Rattle.hwp_core_rule.specs.declared.record.Rec.{Rec}
use Rattle.hwp_core_rule.specs.declared.step.Step.{Step}
use Rattle.hwp_core_rule.specs.declared.step.Step.TheVariants as steps
use Rattle.hwp_core_rule.specs.declared.view.View.{View}
use Rattle.hwp_core_rule.specs.Asks.{AsksOf, BeginsBare, IsTurnOf}
use Rattle.hwp_core_rule.specs.Logs.{log_of}
use Rattle.hwp_core_rule.specs.Lists.{Homes}
use Rattle.hwp_core_rule.specs.SlotMoves.{takes, moved_out, MeetsSlot, IsIn}
use Rattle.hwp_core_rule.specs.Steps.{goes, place_of}
use Rattle.hwp_core_rule.specs.Views.{without, changed, is_lock_of, is_page_lock_of, lock_found, lock_of_page, noted, view_by, is_body_of, loaded, taken, listed_of, listed, put_home}
use Rattle.hwp_core_rule.specs.Words.{IsPlace}
use Rattle.hwp_core_rule.proofs.KeptTurns.{begun-after, none-later-after, turn-after}
use Rattle.hwp_core_rule.specs.Calls.{CanMake, FitsLayout, GoesHome, Steps, IsOnTurn, IsLater, logs, rec_of}
use Rattle.hwp_core_rule.specs.Hands.{Hand, hand_of, hand_after, taking, listing_of, listing, putting, loading, killing}

-- a step of the processor leaves it its turn
pub on-turn-after : {layout : Layout} {who : Who} {step : Step} {put : Option Log} {old new : View} {found : ℕ} {got : Option BodyValue} → IsOnTurn old who → Steps layout who step put old new found got → IsOnTurn new who
on-turn-after {layout} {who} {step} {put} {old} {new} {found} {got} on made = record {
  turn = subst (λ (v : View). IsTurnOf v who) (sym made.told.next) (turn-after layout r old who refl on.turn);
  begins = subst (λ (v : View). BeginsBare v who) (sym made.told.next) (begun-after layout r old);
  later = subst (λ (v : View). IsLater v who who.seq) (sym made.told.next) (none-later-after layout r old who.cpu who.seq (omega arith) on.later);
}
  where
    r : Rec
    r = rec_of layout who step put found got

-- what is held is chosen as the view is
chosen : (b : Bool) (x y : View) (g h : Hand) → hand_of x ≡ g → hand_of y ≡ h → hand_of (cond b x y) ≡ cond b g h
chosen true x y g h e f = e
chosen false x y g h e f = f

same : (b : Bool) (x y : View) (h : Hand) → hand_of x ≡ h → hand_of y ≡ h → hand_of (cond b x y) ≡ h
same true x y h e f = e
same false x y h e f = f

loads : (who : Who) (place : SharedWord) (found : ℕ) (v : View) → hand_of (loaded who place found v) ≡ loading place found (hand_of v)
loads who (places.Cache page) found v = refl
loads who _ found v = refl

takes-hand : (layout : Layout) (who : Who) (frame : _) (content : Option Log) (v : View) → hand_of (taken layout who frame content v) ≡ taking layout frame content (length v.sights) (hand_of v)
takes-hand layout who frame None v = refl
takes-hand layout who frame (Some log) v = refl

lists-of : (layout : Layout) (who : Who) (log : Log) (body : Option InHand) (v : View) → hand_of (listed_of layout who log body v) ≡ listing_of log body (hand_of v)
lists-of layout who log None v = refl
lists-of layout who log (Some body) v = refl

lists : (layout : Layout) (who : Who) (log : Log) (v : View) → hand_of (listed layout who log v) ≡ listing log (hand_of v)
lists layout who log v = lists-of layout who log (find (is_body_of log.page) v.bodies) v

puts-hand : (layout : Layout) (who : Who) (content : Option Log) (v : View) → hand_of (put_home layout who content v) ≡ putting content (hand_of v)
puts-hand layout who None v = refl
puts-hand layout who (Some log) v = ap (λ (h : Hand). record h { bodies = without (is_body_of log.page) h.bodies; pages = changed (is_page_lock_of log.page) (λ (l : PageLock). record l { trans = None }) v.pages }) (lists layout who log v)

by-step : (layout : Layout) (who : Who) (step : Step) (found : ℕ) (content : Option Log) (v : View) → hand_of (view_by layout who step found content v) ≡ hand_after layout step found content (length v.sights) (hand_of v)
by-step layout who (steps.Load place) found content v = loads who place found v
by-step layout who (steps.Reserve word) found content v = chosen (found == word) _ _ _ _ refl refl
by-step layout who (steps.TakeBit frame) found content v = chosen (goes (steps.TakeBit frame) found) _ _ _ _ refl refl
by-step layout who (steps.GiveBit frame) found content v = refl
by-step layout who steps.Unreserve found content v = refl
by-step layout who (steps.Adopt frame) found content v = refl
by-step layout who (steps.GetRef frame word count) found content v = chosen (found == word) _ _ _ _ refl refl
by-step layout who (steps.PutRef frame count) found content v = refl
by-step layout who (steps.LockFrame frame) found content v = chosen (goes (steps.LockFrame frame) found) _ _ _ _ (takes-hand layout who (Some frame) content (record v { locks = v.locks ++ lock_found frame found ∷ [] })) refl
by-step layout who (steps.UnlockFrame frame) found content v = ap (λ (h : Hand). record h { locks = without (is_lock_of frame) v.locks }) (puts-hand layout who content v)
by-step layout who (steps.Retire frame) found content v = refl
by-step layout who (steps.Revive frame word) found content v = chosen (found == word) _ _ _ _ refl refl
by-step layout who (steps.SetOwner frame page owned) found content v = refl
by-step layout who (steps.LockPage page) found content v = chosen (goes (steps.LockPage page) found) _ _ _ _
    (takes-hand layout who None content (record v { pages = v.pages ++ lock_of_page layout page content (find (is_body_of page) v.bodies) ∷ [] })) refl
by-step layout who (steps.UnlockPage page) found content v = ap (λ (h : Hand). record h { pages = without (is_page_lock_of page) v.pages }) (puts-hand layout who content v)
by-step layout who (steps.SetPte slot pte) found content v = refl
by-step layout who (steps.SetCache page frame) found content v = refl
by-step layout who (steps.Poison frame hardware) found content v =
    ap (λ (h : Hand). record h { locks = changed (is_lock_of frame) (λ (l : FrameLock). record l { poisoned = true }) h.locks }) (same (goes (steps.Poison frame hardware) found) _ _ _ refl refl)
by-step layout who (steps.CountPoison hardware) found content v = refl
by-step layout who steps.Uncount found content v = refl
by-step layout who (steps.Spoil frame line damage) found content v = refl
by-step layout who (steps.Stop cpu) found content v = same (found == 0) _ _ _ refl refl
by-step layout who steps.GiveUp found content v = refl
by-step layout who (steps.Kill process page body) found content v =
    same (found == 0) _ _ _ (ap (killing process page) (lists layout who (log_of body.value) v)) (ap (killing process page) (lists layout who (log_of body.value) v))
by-step layout who (steps.SetPolicy thread policy settings) found content v = refl
by-step layout who (steps.Lose file body) found content v = lists layout who (log_of body.value) v
by-step layout who (steps.ReportLost file) found content v = refl

-- the content of a step's slot: that of the body that it brought, where it took a lock, and else what it put
abbrev pub content_of : Layout → Who → Step → Option Log → ℕ → Option BodyValue → Option Log
content_of layout who step put found got = (rec_of layout who step put found got).content

-- of a step that took a lock it is the body's, and it was in the slot
pub brought : (layout : Layout) (who : Who) (step : Step) (put : Option Log) (found : ℕ) (got : Option BodyValue) → takes layout step found ≡ true → content_of layout who step put found got ≡ logs got
brought layout who step put found got is = ap (λ (b : Bool). cond b (logs got) put) is

pub was-home : (went : Bool) (slot : ℕ) (homes : Homes) (content : Option Log) → went ≡ true → MeetsSlot (moved_out went slot) homes content → IsIn homes slot content
was-home true slot homes content is met = met
was-home false slot homes content is met = absurd (both_ways true (sym is) refl)

-- what is held after a step
pub hand-made : {layout : Layout} {who : Who} {step : Step} {put : Option Log} {old new : View} {found : ℕ} {got : Option BodyValue} {h : Hand}
    → Steps layout who step put old new found got → hand_of old ≡ h → hand_of new ≡ hand_after layout step found (content_of layout who step put found got) (length old.sights) h
hand-made {layout} {who} {step} {put} {old} {new} {found} {got} {h} made is =
    ap hand_of made.told.next ∙ by-step layout who step found (content_of layout who step put found got) (noted who old) ∙ ap (hand_after layout step found (content_of layout who step put found got) (length old.sights)) is

-- a step that its processor can make, with the body that goes home
pub can-put : {layout : Layout} {view : View} {who : Who} {step other : Step} {put : Option BodyValue} → IsOnTurn view who → Some other ≡ Some step → IsPlace layout (place_of other) → AsksOf layout who other (logs put) view
    → FitsLayout layout put → GoesHome other put → CanMake layout who step put view
can-put {layout} {view} {who} {step} {other} {put} on is place asks fits home = subst (λ (s : Step). CanMake layout who s put view) (same_Some other step is) (record {
  later = on.later;
  asks = record { turn = on.turn; begins = on.begins; place = place; kind = asks };
  layout_is = fits;
  goes_home = home;
})

none-home : (step : Step) → GoesHome step None
none-home (steps.UnlockFrame frame) = tt
none-home (steps.UnlockPage page) = tt
none-home step = refl

-- a step that gives no body home, and that its processor can make
pub can-make : {layout : Layout} {view : View} {who : Who} {step other : Step} → IsOnTurn view who → Some other ≡ Some step → IsPlace layout (place_of other) → AsksOf layout who other None view → CanMake layout who step None view
can-make {other} on is place asks = can-put on is place asks (λ b none. absurd (none-some b none)) (none-home other)

-- of the step that was planned
pub steps-planned : {layout : Layout} {who : Who} {step other : Step} {put : Option Log} {old new : View} {found : ℕ} {got : Option BodyValue} → Some other ≡ Some step → Steps layout who step put old new found got → Steps layout who other put old new found got
steps-planned {layout} {who} {step} {other} {put} {old} {new} {found} {got} is made = subst (λ (s : Step). Steps layout who s put old new found got) (sym (same_Some other step is)) made

pub hand-planned : {layout : Layout} {who : Who} {step other : Step} {put : Option Log} {old new : View} {found : ℕ} {got : Option BodyValue} {h : Hand}
    → Steps layout who step put old new found got → Some other ≡ Some step → hand_of old ≡ h → hand_of new ≡ hand_after layout other found (content_of layout who other put found got) (length old.sights) h
hand-planned made is has = hand-made (steps-planned is made) has
