-- The laws of `Soft`: its steps can be made.
use Rattle.std.proofs.Common.{◌≡◌, Some, None, refl, ap, subst, arith, List}
use Rattle.std.proofs.lemmas.Option.{none-some}
use Rattle.hwp_claim_frame.specs.hwp_geom.declared.Frame.{Frame}
use Rattle.hwp_claim_frame.specs.hwp_geom.declared.Layout.{Layout}
use Rattle.hwp_claim_frame.specs.hwp_geom.declared.Page.{Page}
use Rattle.hwp_claim_frame.specs.hwp_geom.declared.Who.{Who}
use Rattle.hwp_claim_frame.specs.hwp_page.History.{BodyValue}
use Rattle.hwp_claim_frame.specs.hwp_core_rule.declared.Made.{Made}
use Rattle.hwp_claim_frame.specs.hwp_core_rule.declared.Step.{Step}
use Rattle.hwp_claim_frame.specs.hwp_core_rule.declared.View.{View}
use Rattle.hwp_claim_frame.specs.hwp_core_rule.Asks.{CanUnlockFrame}
use Rattle.hwp_claim_frame.specs.hwp_core_rule.Calls.{CanMake}
use Rattle.hwp_claim_frame.specs.hwp_core_rule.Hands.{Hand}
use Rattle.hwp_claim_frame.proofs.of_hwp_core_rule.tasks.StepLeaves.{can-make}
use Rattle.hwp_claim_frame.specs.hwp_core.Releases.{new_lock}
use Rattle.hwp_claim_frame.specs.hwp_core.GiveUps as give_ups
use Rattle.hwp_claim_frame.specs.hwp_core.Unholds as unholds
use Rattle.hwp_claim_frame.proofs.of_hwp_core.GiveUpLaws as giving_up
use Rattle.hwp_claim_frame.proofs.of_hwp_core.ReleaseLaws as releasing_laws
use Rattle.hwp_evict.proofs.TakeLaws as taking
use Rattle.hwp_claim_frame.proofs.of_hwp_core.UnholdLaws as unholding
use Rattle.hwp_soft.specs.declared.soft.Soft.{Soft}
use Rattle.hwp_soft.specs.declared.soft.SoftAt.{SoftAt}
use Rattle.hwp_soft.specs.declared.soft.SoftAt.TheVariants as at
use Rattle.hwp_soft_move.specs.Discards as discards
use Rattle.hwp_soft.specs.Offline.{FitsFrom, FitsAt, HoldsSpare}
use Rattle.hwp_soft_move.specs.Relocations as relocations
use Rattle.hwp_soft_move.specs.Seizes as seizes
use Rattle.hwp_soft.specs.Softs.{plan, plan_at, put, put_at}
use Rattle.hwp_soft_move.proofs.DiscardLaws as discarding
use Rattle.hwp_soft_move.proofs.RelocateLaws as relocated
use Rattle.hwp_soft_move.proofs.RemapLaws.{lock-two}
use Rattle.hwp_soft_move.proofs.SeizeLaws as seizing

-- the other frame has no owner, and nothing is put into it
unlocks-spare : {base : List Made} (layout : Layout) (view : View) (who : Who) (frame : Frame) (page : Page) (body : BodyValue) (to : Frame) → HoldsSpare base layout view who frame page body to → CanUnlockFrame layout who view to None
unlocks-spare {base} layout view who frame page body to has = record {
  has = lock-two (new_lock to) _ (ap (λ (h : Hand). h.locks) has.good.hand_is) refl;
  named = refl;
  cached = λ lock listed owner. absurd (omega (arith, owner));
  put = tt;
}

pub can : {base : List Made} (layout : Layout) (view : View) (s : Soft) (step : Step) → FitsFrom base layout view s → plan s ≡ Some step → CanMake layout s.who step (put s) view
can {base} layout view s step fits is = which s.at fits.at is
  where
    which : (x : SoftAt) → FitsAt base layout view s.who s.frame x → plan_at s.frame x ≡ Some step → CanMake layout s.who step (put_at x) view
    which at.LoadStop has e = can-make fits.on_turn e tt tt
    which (at.Seize z) has e = subst (λ (w : Who). CanMake layout w step (seizes.put z) view) has.0.own (seizing.can layout view z step has.0.seize e)
    which (at.Discard d) has e = subst (λ (w : Who). CanMake layout w step (discards.put d) view) has.0.own (discarding.can layout view d step has.0.discard e)
    which (at.LoadBad page body) has e = can-make fits.on_turn e fits.frame tt
    which (at.Take page body t) has e = subst (λ (w : Who). CanMake layout w step None view) has.own (taking.can layout view t step has.take e)
    which (at.Poison page body to) has e = can-make fits.on_turn e fits.frame tt
    which (at.UnlockSpare page body to) has e = can-make fits.on_turn e has.0.within (unlocks-spare layout view s.who s.frame page body to has.0)
    which (at.ReleaseSpare page body r) has e = subst (λ (w : Who). CanMake layout w step None view) has.0.own (releasing_laws.can layout view r step has.0.release e)
    which (at.Relocate r answer) has e = subst (λ (w : Who). CanMake layout w step (relocations.put r) view) has.own (relocated.can layout view r step has.relocate e)
    which (at.Unhold u answer) has e = subst (λ (w : Who). CanMake layout w step (unholds.put u) view) has.own (unholding.can layout view u step has.unhold e)
    which (at.GiveUp g) has e = subst (λ (w : Who). CanMake layout w step (give_ups.put g) view) has.own (giving_up.can layout view g step has.give_up e)
    which (at.Over answer) has e = absurd (none-some step e)
