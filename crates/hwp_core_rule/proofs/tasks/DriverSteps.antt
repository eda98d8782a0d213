-- A step of a task, made for the task's own command and body.
use Rattle.std.proofs.Common.{◌≡◌, ℕ, Option, Some, sym, subst}
use Rattle.hwp_page.specs.hwp_geom.declared.Layout.{Layout}
use Rattle.hwp_page.specs.hwp_geom.declared.Who.{Who}
use Rattle.hwp_page.specs.History.{BodyValue}
use Rattle.hwp_core_rule.specs.declared.step.Step.{Step}
use Rattle.hwp_core_rule.specs.declared.view.View.{View}
use Rattle.hwp_core_rule.specs.declared.turn.Turn.{Turn}
use Rattle.hwp_core_rule.specs.Calls.{CanMake, Steps, logs}
use Rattle.hwp_core_rule.specs.Turns.{IsTask, Member}

pub can-of : {layout : Layout} {view : View} {step : Step} {who other : Who} {put given : Option BodyValue} → other ≡ who → given ≡ put → CanMake layout who step put view → CanMake layout other step given view
can-of {layout} {view} {step} {who} {other} {put} {given} own is can =
    subst (λ (w : Who). CanMake layout w step given view) (sym own) (subst (λ (b : Option BodyValue). CanMake layout who step b view) (sym is) can)

steps-of : {layout : Layout} {old new : View} {step : Step} {who other : Who} {put given : Option BodyValue} {found : ℕ} {got : Option BodyValue} → other ≡ who → given ≡ put
    → Steps layout other step (logs given) old new found got → Steps layout who step (logs put) old new found got
steps-of {layout} {old} {new} {step} {who} {other} {put} {given} {found} {got} own is made =
    subst (λ (w : Who). Steps layout w step (logs put) old new found got) own (subst (λ (b : Option BodyValue). Steps layout other step (logs b) old new found got) is made)

module _ {S : Type 0} {m : Member S} (law : IsTask m) {layout : Layout} {old new : View} {s bared : S} {step : Step} {named : Who} {given : Option BodyValue} {found : ℕ} {got : Option BodyValue}
    (fit : m.fits layout old s) (is : m.plan s ≡ Some step) (own : named ≡ m.who s) (gave : given ≡ m.put s) (rest : bared ≡ m.bare s) (made : Steps layout named step (logs given) old new found got) where
  pub shown : m.shows bared found got
  shown = subst (λ (b : S). m.shows b found got) (sym rest) ((law.stays layout old new s step found got fit is (steps-of own gave made)).0)

  pub settled : (after : S) (turn : Turn) → m.next layout bared found got after turn → m.fits layout new after × ((m.who after).cpu ≡ (m.who s).cpu)
  settled after turn follows = (law.stays layout old new s step found got fit is (steps-of own gave made)).1 after turn (subst (λ (b : S). m.next layout b found got after turn) rest follows)
