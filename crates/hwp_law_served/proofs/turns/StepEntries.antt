-- What a step adds to the entries that its seat made and to the histories that it saw: nothing, one history, or the entries of a
-- body in hand.
use Rattle.std.proofs.Common.{◌≡◌, ℕ, ◌==◌, ◌⊎◌, Bool, true, false, cond, List, [], ◌∷◌, ◌++◌, Option, Some, None, length, refl, ap, ◌∙◌, inl, inr}
use Rattle.hwp_law.specs.hwp_geom.declared.Frame.{Frame}
use Rattle.hwp_law.specs.hwp_geom.declared.Layout.{Layout}
use Rattle.hwp_law.specs.hwp_geom.declared.Who.{Who}
use Rattle.hwp_plain.specs.hwp_core_rule.declared.InHand.{InHand}
use Rattle.hwp_plain.specs.hwp_core_rule.declared.Length.{Length}
use Rattle.hwp_plain.specs.hwp_core_rule.declared.Log.{Log}
use Rattle.hwp_plain.specs.hwp_core_rule.declared.SharedWord.{SharedWord}
use Rattle.hwp_plain.specs.hwp_core_rule.declared.SharedWord.TheVariants as places
use Rattle.hwp_plain.specs.hwp_core_rule.declared.SlotMove.TheVariants as moves
use Rattle.hwp_plain.specs.hwp_core_rule.declared.Step.{Step}
use Rattle.hwp_plain.specs.hwp_core_rule.declared.Step.TheVariants as steps
use Rattle.hwp_plain.specs.hwp_core_rule.declared.View.{View}
use Rattle.hwp_plain.specs.hwp_core_rule.Asks.{AsksOf, CanPut, Extends}
use Rattle.hwp_plain.specs.hwp_core_rule.Logs.{log_of}
use Rattle.hwp_plain.specs.hwp_core_rule.SlotMoves.{frame_slot, moved_out, shelf_slot, slot_move}
use Rattle.hwp_plain.specs.hwp_core_rule.Steps.{goes}
use Rattle.hwp_plain.specs.hwp_core_rule.Views.{body_of, listed_of, loaded, lock_found, lock_of_page, made_from, more_of, put_home, stamp_of, taken, view_by}

-- nothing was added
pub record AddsNothing (v x : View) : Type 0 where
  pub made : x.made ≡ v.made
  pub lengths : x.lengths ≡ v.lengths

-- a history was added, that of the slot which the step took out
pub record AddsLength (layout : Layout) (who : Who) (step : Step) (found : ℕ) (content : Option Log) (v x : View) : Type 0 where
  pub log : Log
  pub content_is : content ≡ Some log
  pub slot : ℕ
  pub out : slot_move layout step found ≡ moves.Out slot
  pub length : Length
  pub own : length.stamp.who ≡ who
  pub log_is : length.log ≡ log
  pub made : x.made ≡ v.made
  pub lengths : x.lengths ≡ v.lengths ++ length ∷ []

-- the entries were added that a body in hand has more
pub record AddsMade (layout : Layout) (who : Who) (v x : View) : Type 0 where
  pub log : Log
  pub body : InHand
  pub body_is : body_of log.page v ≡ Some body
  pub extends : Extends layout who v.sights body log
  pub made : x.made ≡ v.made ++ made_from (stamp_of who v) log.page body.frame (length body.log.entries) (more_of body log)
  pub lengths : x.lengths ≡ v.lengths

abbrev pub Adds : Layout → Who → Step → ℕ → Option Log → View → View → Type 0
Adds layout who step found content v x = AddsNothing v x ⊎ (AddsLength layout who step found content v x ⊎ AddsMade layout who v x)

nothing : {layout : Layout} {who : Who} {step : Step} {found : ℕ} {content : Option Log} {v x : View} → x.made ≡ v.made → x.lengths ≡ v.lengths → Adds layout who step found content v x
nothing made lengths = inl (record { made = made; lengths = lengths })

-- on either side of a test nothing was added
neither : {layout : Layout} {who : Who} {step : Step} {found : ℕ} {content : Option Log} {v : View} (b : Bool) (x y : View) → AddsNothing v x → AddsNothing v y → Adds layout who step found content v (cond b x y)
neither true x y first second = inl first
neither false x y first second = inl second

loads : {layout : Layout} {step : Step} {content : Option Log} (who : Who) (place : SharedWord) (found : ℕ) (v : View) → Adds layout who step found content v (loaded who place found v)
loads who (places.Cache page) found v = nothing refl refl
loads who (places.Frame frame) found v = nothing refl refl
loads who (places.Trans slot) found v = nothing refl refl
loads who (places.Page page) found v = nothing refl refl
loads who (places.Free number) found v = nothing refl refl
loads who places.Available found v = nothing refl refl
loads who (places.Bad frame) found v = nothing refl refl
loads who (places.Weak frame) found v = nothing refl refl
loads who places.Counter found v = nothing refl refl
loads who (places.Process process) found v = nothing refl refl
loads who (places.Policy thread) found v = nothing refl refl
loads who (places.Loss file) found v = nothing refl refl
loads who places.Stop found v = nothing refl refl

-- a body that goes home lists its entries
puts : {step : Step} {found : ℕ} {c : Option Log} (layout : Layout) (who : Who) (content : Option Log) (v x : View) → CanPut layout who v content → x.made ≡ (put_home layout who content v).made → x.lengths ≡ (put_home layout who content v).lengths → Adds layout who step found c v x
puts layout who None v x can made lengths = nothing made lengths
puts layout who (Some log) v x can made lengths = inr (inr (record {
  log = log;
  body = can.body;
  body_is = can.body_is;
  extends = can.extends;
  made = made ∙ ap (λ (o : Option InHand). (listed_of layout who log o v).made) can.body_is;
  lengths = lengths ∙ ap (λ (o : Option InHand). (listed_of layout who log o v).lengths) can.body_is;
}))

-- and so does a body that is shown
shows : {step : Step} {found : ℕ} {c : Option Log} (layout : Layout) (who : Who) (log : Log) (body : InHand) (v x : View) → body_of log.page v ≡ Some body → Extends layout who v.sights body log
    → x.made ≡ (listed_of layout who log (body_of log.page v) v).made → x.lengths ≡ (listed_of layout who log (body_of log.page v) v).lengths → Adds layout who step found c v x
shows layout who log body v x body_is extends made lengths = inr (inr (record {
  log = log;
  body = body;
  body_is = body_is;
  extends = extends;
  made = made ∙ ap (λ (o : Option InHand). (listed_of layout who log o v).made) body_is;
  lengths = lengths ∙ ap (λ (o : Option InHand). (listed_of layout who log o v).lengths) body_is;
}))

-- a lock that was taken brings a history
brings : (layout : Layout) (who : Who) (step : Step) (found : ℕ) (frame : Option Frame) (content : Option Log) (v w : View) (b : Bool) (slot : ℕ) → slot_move layout step found ≡ moved_out b slot
    → w.made ≡ v.made → w.lengths ≡ v.lengths → Adds layout who step found content v (cond b (taken layout who frame content w) v)
brings layout who step found frame content v w false slot out made lengths = nothing refl refl
brings layout who step found frame None v w true slot out made lengths = nothing made lengths
brings layout who step found frame (Some log) v w true slot out made lengths = inr (inl (record {
  log = log;
  content_is = refl;
  slot = slot;
  out = out;
  length = record { stamp = stamp_of who w; log = log };
  own = refl;
  log_is = refl;
  made = made;
  lengths = ap (λ (l : List Length). l ++ (record { stamp = stamp_of who w; log = log }) ∷ []) lengths;
}))

pub adds : (layout : Layout) (who : Who) (step : Step) (found : ℕ) (content : Option Log) (v : View) → AsksOf layout who step content v → Adds layout who step found content v (view_by layout who step found content v)
adds layout who (steps.Load place) found content v asks = loads who place found v
adds layout who (steps.Reserve seen) found content v asks = neither (found == seen) _ _ (record { made = refl; lengths = refl }) (record { made = refl; lengths = refl })
adds layout who (steps.TakeBit frame) found content v asks = neither (goes (steps.TakeBit frame) found) _ _ (record { made = refl; lengths = refl }) (record { made = refl; lengths = refl })
adds layout who (steps.GiveBit frame) found content v asks = nothing refl refl
adds layout who steps.Unreserve found content v asks = nothing refl refl
adds layout who (steps.Adopt frame) found content v asks = nothing refl refl
adds layout who (steps.GetRef frame seen count) found content v asks = neither (found == seen) _ _ (record { made = refl; lengths = refl }) (record { made = refl; lengths = refl })
adds layout who (steps.PutRef frame count) found content v asks = nothing refl refl
adds layout who (steps.LockFrame frame) found content v asks =
    brings layout who (steps.LockFrame frame) found (Some frame) content v (record v { locks = v.locks ++ lock_found frame found ∷ [] }) (goes (steps.LockFrame frame) found) (frame_slot frame) refl refl refl
adds layout who (steps.UnlockFrame frame) found content v asks = puts layout who content v _ asks.put refl refl
adds layout who (steps.Retire frame) found content v asks = nothing refl refl
adds layout who (steps.Revive frame seen) found content v asks = neither (found == seen) _ _ (record { made = refl; lengths = refl }) (record { made = refl; lengths = refl })
adds layout who (steps.SetOwner frame page owned) found content v asks = nothing refl refl
adds layout who (steps.LockPage page) found content v asks =
    brings layout who (steps.LockPage page) found None content v (record v { pages = v.pages ++ lock_of_page layout page content (body_of page v) ∷ [] }) (goes (steps.LockPage page) found) (shelf_slot layout page) refl refl refl
adds layout who (steps.UnlockPage page) found content v asks = puts layout who content v _ asks.put refl refl
adds layout who (steps.SetPte slot pte) found content v asks = nothing refl refl
adds layout who (steps.SetCache page frame) found content v asks = nothing refl refl
adds layout who (steps.Poison frame hardware) found content v asks =
    let none = poisons (goes (steps.Poison frame hardware) found) _ _ (record { made = refl; lengths = refl }) (record { made = refl; lengths = refl }) in
    nothing none.made none.lengths
  where
    poisons : (b : Bool) (x y : View) → AddsNothing v x → AddsNothing v y → AddsNothing v (cond b x y)
    poisons true x y first second = first
    poisons false x y first second = second
adds layout who (steps.CountPoison hardware) found content v asks = nothing refl refl
adds layout who steps.Uncount found content v asks = nothing refl refl
adds layout who (steps.Spoil frame line damage) found content v asks = nothing refl refl
adds layout who (steps.Stop cpu) found content v asks = neither (found == 0) _ _ (record { made = refl; lengths = refl }) (record { made = refl; lengths = refl })
adds layout who steps.GiveUp found content v asks = nothing refl refl
adds layout who (steps.Kill process page body) found content v asks = kills (found == 0) _ _
    (shows layout who (log_of body.value) asks.page_held.body v _ asks.page_held.body_is asks.extends refl refl)
    (shows layout who (log_of body.value) asks.page_held.body v _ asks.page_held.body_is asks.extends refl refl)
  where
    kills : (b : Bool) (x y : View) → Adds layout who (steps.Kill process page body) found content v x → Adds layout who (steps.Kill process page body) found content v y → Adds layout who (steps.Kill process page body) found content v (cond b x y)
    kills true x y first second = first
    kills false x y first second = second
adds layout who (steps.SetPolicy thread policy settings) found content v asks = nothing refl refl
adds layout who (steps.Lose file body) found content v asks = shows layout who (log_of body.value) asks.page_held.body v _ asks.page_held.body_is asks.extends refl refl
adds layout who (steps.ReportLost file) found content v asks = nothing refl refl
