-- What a step makes of the bodies in hand: it keeps their pages, their frames and what was seen before them.
use Rattle.std.proofs.Common.{◌≡◌, ℕ, ◌==◌, Bool, true, false, cond, [], ◌∷◌, ◌++◌, Option, Some, None, length, refl, sym, ap}
use Rattle.std.proofs.lemmas.Bool.{eqb-true}
use Rattle.hwp_law_served.specs.hwp_geom.declared.Frame.{Frame}
use Rattle.hwp_law_served.specs.hwp_geom.declared.Layout.{Layout}
use Rattle.hwp_law_served.specs.hwp_geom.declared.Page.{Page}
use Rattle.hwp_law_served.specs.hwp_geom.declared.Proc.{Proc}
use Rattle.hwp_law_served.specs.hwp_geom.declared.Who.{Who}
use Rattle.hwp_law_served.specs.hwp_core_rule.declared.InHand.{InHand}
use Rattle.hwp_law_served.specs.hwp_core_rule.declared.Log.{Log}
use Rattle.hwp_law_served.specs.hwp_core_rule.declared.SharedWord.{SharedWord}
use Rattle.hwp_law_served.specs.hwp_core_rule.declared.SharedWord.TheVariants as places
use Rattle.hwp_law_served.specs.hwp_core_rule.declared.Step.{Step}
use Rattle.hwp_law_served.specs.hwp_core_rule.declared.Step.TheVariants as steps
use Rattle.hwp_law_served.specs.hwp_core_rule.declared.View.{View}
use Rattle.hwp_law_served.specs.hwp_core_rule.Lists.{EachMember}
use Rattle.hwp_law_served.specs.hwp_core_rule.Logs.{log_of}
use Rattle.hwp_law_served.specs.hwp_core_rule.Steps.{goes}
use Rattle.hwp_law_served.specs.hwp_core_rule.Views.{body_of, is_body_of, killed_by, listed_of, loaded, lock_found, lock_of_page, put_home, taken, view_by}
use Rattle.hwp_law_served.proofs.of_hwp_core_rule.Lists.{each-changed, each-push}
use Rattle.hwp_law_served.proofs.of_hwp_core_rule.ListDrops.{each-without}

-- what holds of a body and reads no more than its page, its frame and what was seen before it
abbrev pub IsLike : (InHand → Type 0) → Type 0
IsLike P = (b c : InHand) → c.log.page ≡ b.log.page → c.frame ≡ b.frame → c.from ≡ b.from → P b → P c

module _ (layout : Layout) (P : InHand → Type 0) (like : IsLike P) where
  abbrev Are : View → Type 0
  Are v = EachMember P v.bodies

  lists : (who : Who) (log : Log) (body : Option InHand) (v : View) → Are v → Are (listed_of layout who log body v)
  lists who log None v each = each
  lists who log (Some body) v each = each-changed P (is_body_of log.page) (λ (b : InHand). record b { log = log }) v.bodies same each
    where
      same : (b : InHand) → is_body_of log.page b ≡ true → P b → P (record b { log = log })
      same b is was =
          let page : log.page ≡ b.log.page = ap (λ (n : ℕ). record { 0 = n }) (sym (eqb-true b.log.page.0 log.page.0 is)) in
          like b (record b { log = log }) page refl refl was

  puts : (who : Who) (content : Option Log) (v : View) → Are v → Are (put_home layout who content v)
  puts who None v each = each
  puts who (Some log) v each = each-without P (is_body_of log.page) (listed_of layout who log (body_of log.page v) v).bodies (lists who log (body_of log.page v) v each)

  takes : (who : Who) (frame : Option Frame) (content : Option Log) (v w : View) (b : Bool) → ((x : InHand) → x.from ≡ length w.sights → P x) → Are w → Are v → Are (cond b (taken layout who frame content w) v)
  takes who frame None v w true fresh there each = there
  takes who frame (Some log) v w true fresh there each = each-push P w.bodies _ (fresh _ refl) there
  takes who frame content v w false fresh there each = each

  both : (b : Bool) (x y : View) → Are x → Are y → Are (cond b x y)
  both true x y first second = first
  both false x y first second = second

  loads : (who : Who) (place : SharedWord) (found : ℕ) (v : View) → Are v → Are (loaded who place found v)
  loads who (places.Cache page) found v each = each
  loads who _ found v each = each

  kills : (process : Proc) (page : Page) (v : View) → Are v → Are (killed_by process page v)
  kills process page v each = each-changed P (is_body_of page) (λ (b : InHand). record b { killed = b.killed ++ process ∷ [] }) v.bodies (λ b is was. like b (record b { killed = b.killed ++ process ∷ [] }) refl refl refl was) each

  -- the bodies in the seat's hand after a step
  pub bodies-so : (who : Who) (step : Step) (found : ℕ) (content : Option Log) (v : View) → ((x : InHand) → x.from ≡ length v.sights → P x) → Are v → Are (view_by layout who step found content v)
  bodies-so who (steps.Load place) found content v fresh each = loads who place found v each
  bodies-so who (steps.Reserve seen) found content v fresh each = both (found == seen) _ _ each each
  bodies-so who (steps.TakeBit frame) found content v fresh each = both (goes (steps.TakeBit frame) found) _ _ each each
  bodies-so who (steps.GiveBit frame) found content v fresh each = each
  bodies-so who steps.Unreserve found content v fresh each = each
  bodies-so who (steps.Adopt frame) found content v fresh each = each
  bodies-so who (steps.GetRef frame seen count) found content v fresh each = both (found == seen) _ _ each each
  bodies-so who (steps.PutRef frame count) found content v fresh each = each
  bodies-so who (steps.LockFrame frame) found content v fresh each =
      takes who (Some frame) content v (record v { locks = v.locks ++ lock_found frame found ∷ [] }) (goes (steps.LockFrame frame) found) fresh each each
  bodies-so who (steps.UnlockFrame frame) found content v fresh each = puts who content v each
  bodies-so who (steps.Retire frame) found content v fresh each = each
  bodies-so who (steps.Revive frame seen) found content v fresh each = both (found == seen) _ _ each each
  bodies-so who (steps.SetOwner frame page owned) found content v fresh each = each
  bodies-so who (steps.LockPage page) found content v fresh each =
      takes who None content v (record v { pages = v.pages ++ lock_of_page layout page content (body_of page v) ∷ [] }) (goes (steps.LockPage page) found) fresh each each
  bodies-so who (steps.UnlockPage page) found content v fresh each = puts who content v each
  bodies-so who (steps.SetPte slot pte) found content v fresh each = each
  bodies-so who (steps.SetCache page frame) found content v fresh each = each
  bodies-so who (steps.Poison frame hardware) found content v fresh each = both (goes (steps.Poison frame hardware) found) _ _ each each
  bodies-so who (steps.CountPoison hardware) found content v fresh each = each
  bodies-so who steps.Uncount found content v fresh each = each
  bodies-so who (steps.Spoil frame line damage) found content v fresh each = each
  bodies-so who (steps.Stop cpu) found content v fresh each = both (found == 0) _ _ each each
  bodies-so who steps.GiveUp found content v fresh each = each
  bodies-so who (steps.Kill process page body) found content v fresh each =
      let killed = kills process page (listed_of layout who (log_of body.value) (body_of body.value.page v) v) (lists who (log_of body.value) (body_of body.value.page v) v each) in
      both (found == 0) _ _ killed killed
  bodies-so who (steps.SetPolicy thread policy settings) found content v fresh each = each
  bodies-so who (steps.Lose file body) found content v fresh each = lists who (log_of body.value) (body_of body.value.page v) v each
  bodies-so who (steps.ReportLost file) found content v fresh each = each
