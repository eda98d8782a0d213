-- The bodies that a seat has in hand after a step: those of before, some with more entries of the step's command, and one more at
-- most, just taken.
use Rattle.std.proofs.Common.{◌≡◌, ℕ, ◌==◌, Bool, true, false, cond, List, [], ◌∷◌, ◌++◌, Option, Some, None, length, refl, sym, subst}
use Rattle.hwp_law_served.specs.hwp_geom.declared.Frame.{Frame}
use Rattle.hwp_law_served.specs.hwp_geom.declared.Layout.{Layout}
use Rattle.hwp_law_served.specs.hwp_geom.declared.Page.{Page}
use Rattle.hwp_law_served.specs.hwp_geom.declared.Proc.{Proc}
use Rattle.hwp_law_served.specs.hwp_geom.declared.Who.{Who}
use Rattle.hwp_law_served.specs.hwp_core_rule.declared.InHand.{InHand}
use Rattle.hwp_law_served.specs.hwp_core_rule.declared.Log.{Log}
use Rattle.hwp_law_served.specs.hwp_core_rule.declared.SharedWord.{SharedWord}
use Rattle.hwp_law_served.specs.hwp_core_rule.declared.SharedWord.TheVariants as places
use Rattle.hwp_law_served.specs.hwp_core_rule.declared.SlotMove.TheVariants as moves
use Rattle.hwp_law_served.specs.hwp_core_rule.declared.Step.{Step}
use Rattle.hwp_law_served.specs.hwp_core_rule.declared.Step.TheVariants as steps
use Rattle.hwp_law_served.specs.hwp_core_rule.declared.View.{View}
use Rattle.hwp_law_served.specs.hwp_core_rule.Asks.{AsksOf, CanPut, Extends}
use Rattle.hwp_law_served.specs.hwp_core_rule.Lists.{EachMember}
use Rattle.hwp_law_served.specs.hwp_core_rule.Logs.{log_of}
use Rattle.hwp_law_served.specs.hwp_core_rule.SlotMoves.{frame_slot, moved_out, shelf_slot, slot_move}
use Rattle.hwp_law_served.specs.hwp_core_rule.Steps.{goes}
use Rattle.hwp_law_served.specs.hwp_core_rule.Views.{body_of, changed, is_body_of, killed_by, listed_of, loaded, lock_found, lock_of_page, put_home, sighted, taken, view_by}
use Rattle.hwp_law_served.proofs.of_hwp_core_rule.Lists.{each-changed, each-push}
use Rattle.hwp_law_served.proofs.of_hwp_core_rule.ListDrops.{each-without}

-- What a property of bodies has to keep: where processes were killed; a body just taken; and entries listed of a body in hand.
pub record AreHanded (layout : Layout) (who : Who) (step : Step) (found : ℕ) (content : Option Log) (v : View) (Q : InHand → Type 0) : Type 0 where
  pub before : EachMember Q v.bodies
  pub killed : (b : InHand) (l : List Proc) → Q b → Q (record b { killed = l })
  pub fresh : (log : Log) (slot : ℕ) → content ≡ Some log → slot_move layout step found ≡ moves.Out slot → (b : InHand) → b.log ≡ log → b.since ≡ length log.entries → Q b
  pub longer : (log : Log) (body : InHand) → body_of log.page v ≡ Some body → Extends layout who v.sights body log → EachMember Q (changed (is_body_of log.page) (λ (b : InHand). record b { log = log }) v.bodies)

module _ {layout : Layout} {who : Who} {step : Step} {found : ℕ} {content : Option Log} {v : View} {Q : InHand → Type 0} (ok : AreHanded layout who step found content v Q) where
  abbrev Are : List InHand → Type 0
  Are bodies = EachMember Q bodies

  same : (x : View) → x.bodies ≡ v.bodies → Are x.bodies
  same x is = subst Are (sym is) ok.before

  either : (b : Bool) (x y : View) → Are x.bodies → Are y.bodies → Are (cond b x y).bodies
  either true x y g h = g
  either false x y g h = h

  lists : (log : Log) (body : InHand) → body_of log.page v ≡ Some body → Extends layout who v.sights body log → Are (listed_of layout who log (body_of log.page v) v).bodies
  lists log body is extends = subst (λ (o : Option InHand). Are (listed_of layout who log o v).bodies) (sym is) (ok.longer log body is extends)

  puts : (put : Option Log) → CanPut layout who v put → Are (put_home layout who put v).bodies
  puts None can = ok.before
  puts (Some log) can = each-without Q (is_body_of log.page) (listed_of layout who log (body_of log.page v) v).bodies (lists log can.body can.body_is can.extends)

  takes : (frame : Option Frame) (w : View) (b : Bool) (slot : ℕ) → slot_move layout step found ≡ moved_out b slot → w.bodies ≡ v.bodies → (c : Option Log) → c ≡ content → Are (cond b (taken layout who frame c w) v).bodies
  takes frame w false slot out is c content_is = ok.before
  takes frame w true slot out is None content_is = same w is
  takes frame w true slot out is (Some log) content_is = each-push Q w.bodies _ (ok.fresh log slot (sym content_is) out _ refl refl) (same w is)

  kills : (process : Proc) (page : Page) (log : Log) (body : InHand) → body_of log.page v ≡ Some body → Extends layout who v.sights body log
      → Are (cond (found == 0) (killed_by process page (listed_of layout who log (body_of log.page v) v)) (sighted who (places.Process process) found (killed_by process page (listed_of layout who log (body_of log.page v) v)))).bodies
  kills process page log body is extends =
      let each = each-changed Q (is_body_of page) (λ (b : InHand). record b { killed = b.killed ++ process ∷ [] }) (listed_of layout who log (body_of log.page v) v).bodies (λ b test q. ok.killed b (b.killed ++ process ∷ []) q) (lists log body is extends) in
      either (found == 0) _ _ each each

loads : {layout : Layout} {who : Who} {step : Step} {found : ℕ} {content : Option Log} {v : View} {Q : InHand → Type 0} (ok : AreHanded layout who step found content v Q) (place : SharedWord) → EachMember Q (loaded who place found v).bodies
loads ok (places.Cache page) = ok.before
loads ok _ = ok.before

pub hands-after : {layout : Layout} {who : Who} {found : ℕ} {content : Option Log} {v : View} {Q : InHand → Type 0} (step : Step) → AreHanded layout who step found content v Q → AsksOf layout who step content v → EachMember Q (view_by layout who step found content v).bodies
hands-after (steps.Load place) ok asks = loads ok place
hands-after {found = found} (steps.Reserve seen) ok asks = either ok (found == seen) _ _ ok.before ok.before
hands-after {found = found} (steps.TakeBit frame) ok asks = either ok (goes (steps.TakeBit frame) found) _ _ ok.before ok.before
hands-after (steps.GiveBit frame) ok asks = ok.before
hands-after steps.Unreserve ok asks = ok.before
hands-after (steps.Adopt frame) ok asks = ok.before
hands-after {found = found} (steps.GetRef frame seen count) ok asks = either ok (found == seen) _ _ ok.before ok.before
hands-after (steps.PutRef frame count) ok asks = ok.before
hands-after {found = found} {content = content} {v = v} (steps.LockFrame frame) ok asks = takes ok (Some frame) (record v { locks = v.locks ++ lock_found frame found ∷ [] }) (goes (steps.LockFrame frame) found) (frame_slot frame) refl refl content refl
hands-after {content = content} (steps.UnlockFrame frame) ok asks = puts ok content asks.put
hands-after (steps.Retire frame) ok asks = ok.before
hands-after {found = found} (steps.Revive frame seen) ok asks = either ok (found == seen) _ _ ok.before ok.before
hands-after (steps.SetOwner frame page owned) ok asks = ok.before
hands-after {layout = layout} {found = found} {content = content} {v = v} (steps.LockPage page) ok asks =
    takes ok None (record v { pages = v.pages ++ lock_of_page layout page content (body_of page v) ∷ [] }) (goes (steps.LockPage page) found) (shelf_slot layout page) refl refl content refl
hands-after {content = content} (steps.UnlockPage page) ok asks = puts ok content asks.put
hands-after (steps.SetPte slot pte) ok asks = ok.before
hands-after (steps.SetCache page frame) ok asks = ok.before
hands-after {found = found} (steps.Poison frame hardware) ok asks = either ok (goes (steps.Poison frame hardware) found) _ _ ok.before ok.before
hands-after (steps.CountPoison hardware) ok asks = ok.before
hands-after steps.Uncount ok asks = ok.before
hands-after (steps.Spoil frame line damage) ok asks = ok.before
hands-after {found = found} (steps.Stop cpu) ok asks = either ok (found == 0) _ _ ok.before ok.before
hands-after steps.GiveUp ok asks = ok.before
hands-after (steps.Kill process page body) ok asks = kills ok process page (log_of body.value) asks.page_held.body asks.page_held.body_is asks.extends
hands-after (steps.SetPolicy thread policy settings) ok asks = ok.before
hands-after (steps.Lose file body) ok asks = lists ok (log_of body.value) asks.page_held.body asks.page_held.body_is asks.extends
hands-after (steps.ReportLost file) ok asks = ok.before
