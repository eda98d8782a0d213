-- The laws of `GiveUp`, and the states that it begins in.
use Rattle.std.proofs.Common.{◌≡◌, ℕ, Bool, true, false, cond, Option, Some, None, is_none, refl, sym, ap, subst}
use Rattle.std.proofs.lemmas.Option.{none-some}
use Rattle.hwp_core_rule.specs.hwp_geom.declared.Frame.{Frame}
use Rattle.hwp_core_rule.specs.hwp_geom.declared.Layout.{Layout}
use Rattle.hwp_core_rule.specs.hwp_geom.declared.Page.{Page}
use Rattle.hwp_core_rule.specs.hwp_geom.declared.Who.{Who}
use Rattle.hwp_core_rule.specs.hwp_page.History.{BodyValue}
use Rattle.hwp_core_rule.specs.declared.Step.{Step}
use Rattle.hwp_core_rule.specs.declared.View.{View}
use Rattle.hwp_core_rule.specs.declared.Turn.{Turn}
use Rattle.hwp_core_rule.specs.Calls.{CanMake, Steps, IsOnTurn, logs}
use Rattle.hwp_core_rule.proofs.tasks.StepLeaves.{on-turn-after, hand-planned, can-make}
use Rattle.hwp_core.specs.declared.give_up.GiveUp.{GiveUp}
use Rattle.hwp_core.specs.declared.give_up.GiveUpAt.{GiveUpAt}
use Rattle.hwp_core.specs.declared.give_up.GiveUpAt.TheVariants as at
use Rattle.hwp_core.specs.declared.unhold.Unhold.{Unhold}
use Rattle.hwp_core.specs.declared.unlock.Unlock.{Unlock}
use Rattle.hwp_core.specs.Unholds as unholds
use Rattle.hwp_core.specs.Unlocks as unlocks
use Rattle.hwp_core.specs.Unlocks.{HoldsFrame}
use Rattle.hwp_core.specs.GiveUps.{with_page, with_frame, plan, plan_at, put, put_at, bare, bare_at, after_unhold, after_unlock, next, next_at, turn, Fits, FitsAt}
use Rattle.hwp_core.proofs.HoldEnds.{nothing-left}
use Rattle.hwp_core.proofs.UnholdLaws as unholding_laws
use Rattle.hwp_core.proofs.UnlockLaws as unlocking_laws

-- ---- the steps can be made

pub can : (layout : Layout) (view : View) (g : GiveUp) (step : Step) → Fits layout view g → plan g ≡ Some step → CanMake layout g.who step (put g) view
can layout view g step fits is = which g.at fits.at is
  where
    which : (x : GiveUpAt) → FitsAt layout view g.who x → plan_at x ≡ Some step → CanMake layout g.who step (put_at x) view
    which (at.Unhold u) has e = subst (λ (w : Who). CanMake layout w step (unholds.put u) view) has.own (unholding_laws.can layout view u step has.unhold e)
    which (at.Unlock u) has e = subst (λ (w : Who). CanMake layout w step (unlocks.put u) view) has.own (unlocking_laws.can layout view u step has.unlock e)
    which at.GiveUp has e = can-make fits.on_turn e tt tt
    which at.Over has e = absurd (none-some step e)

-- ---- what follows fits

module _ (layout : Layout) (new : View) (who : Who) where
  unhold-moved : (u : Unhold) → u.who ≡ who → unholds.Fits layout new u → FitsAt layout new who (after_unhold u)
  unhold-moved u own fits = by (is_none (unholds.plan u)) refl
    where
      by : (over : Bool) → is_none (unholds.plan u) ≡ over → FitsAt layout new who (cond over at.GiveUp (at.Unhold u))
      by true over = nothing-left layout new u over fits
      by false on = record { unhold = fits; own = own; under_way = on }

  unlock-moved : (u : Unlock) → u.who ≡ who → unlocks.Fits layout new u → FitsAt layout new who (after_unlock u)
  unlock-moved u own fits = by (is_none (unlocks.plan u)) refl
    where
      by : (over : Bool) → is_none (unlocks.plan u) ≡ over → FitsAt layout new who (cond over at.GiveUp (at.Unlock u))
      by true over = unlocking_laws.let-go layout new u fits over
      by false on = record { unlock = fits; own = own; under_way = on }

-- what follows a step fits again
pub moved : (layout : Layout) (old new : View) (g : GiveUp) (step : Step) (found : ℕ) (got : Option BodyValue) → Fits layout old g → plan g ≡ Some step → Steps layout g.who step (logs (put g)) old new found got → Fits layout new (next (bare g) found)
moved layout old new g step found got fits is made = record { on_turn = on; at = which g.at is fits.at made }
  where
    on : IsOnTurn new g.who
    on = on-turn-after fits.on_turn made

    which : (x : GiveUpAt) → plan_at x ≡ Some step → FitsAt layout old g.who x → Steps layout g.who step (logs (put_at x)) old new found got → FitsAt layout new g.who (next_at (bare_at x) found)
    which (at.Unhold u) e has made = unhold-moved layout new g.who (unholds.next (unholds.bare u) found) has.own
        (unholding_laws.moved layout old new u step found got has.unhold e (subst (λ (w : Who). Steps layout w step (logs (unholds.put u)) old new found got) (sym has.own) made))
    which (at.Unlock u) e has made = unlock-moved layout new g.who (unlocks.next (unlocks.bare u) found) has.own
        (unlocking_laws.moved layout old new u step found got has.unlock e (subst (λ (w : Who). Steps layout w step (logs (unlocks.put u)) old new found got) (sym has.own) made))
    which at.GiveUp e has made = hand-planned made e has
    which at.Over e has made = absurd (none-some step e)

pub stays : (layout : Layout) (old new : View) (g : GiveUp) (step : Step) (found : ℕ) (got : Option BodyValue) → Fits layout old g → plan g ≡ Some step → Steps layout g.who step (logs (put g)) old new found got
    → Unit {0} × ((after : GiveUp) (result : Turn) → (after ≡ next (bare g) found) × (result ≡ turn (bare g)) → Fits layout new after × (after.who.cpu ≡ g.who.cpu))
stays layout old new g step found got fits is made =
    (tt, λ after result follows. (subst (Fits layout new) (sym follows.0) (moved layout old new g step found got fits is made), ap (λ (x : GiveUp). x.who.cpu) follows.0))

-- ---- before it

-- a page that is held, and whose body can go home, is given up; and a frame that is held without its page
pub page-given-up : (layout : Layout) (view : View) (who : Who) (page : Page) (frame : Option Frame) (count : ℕ) (body : BodyValue) → unholds.Fits layout view (unholds.begin who page frame count body)
    → Fits layout view (with_page who page frame count body)
page-given-up layout view who page frame count body fits = record { on_turn = fits.on_turn; at = record { unhold = fits; own = refl; under_way = under-way frame } }
  where
    under-way : (f : Option Frame) → is_none (unholds.plan (unholds.begin who page f count body)) ≡ false
    under-way None = refl
    under-way (Some f) = refl

pub frame-given-up : (layout : Layout) (view : View) (who : Who) (frame : Frame) (body : BodyValue) → IsOnTurn view who → HoldsFrame layout who view frame (Some body) → Fits layout view (with_frame who frame body)
frame-given-up layout view who frame body on has = record { on_turn = on; at = record { unlock = record { on_turn = on; at = has }; own = refl; under_way = refl } }
