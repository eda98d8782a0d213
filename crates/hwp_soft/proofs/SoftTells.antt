-- The class of a `Soft` tells what it holds, and a failure that it claims isn't over.
use Rattle.std.proofs.Common.{◌≡◌, ◌≢◌, ℕ, ◌≤◌, Bool, true, false, Option, Some, None, is_none, refl, sym, ap, ◌∙◌, subst, arith, List}
use Rattle.std.proofs.lemmas.Bool.{both_ways}
use Rattle.std.proofs.lemmas.Option.{none-some, same_Some}
use Rattle.hwp_claim_frame.specs.hwp_geom.declared.Frame.{Frame}
use Rattle.hwp_claim_frame.specs.hwp_geom.declared.Layout.{Layout}
use Rattle.hwp_claim_frame.specs.hwp_core_rule.declared.Made.{Made}
use Rattle.hwp_claim_frame.specs.hwp_core_rule.declared.SharedWord.TheVariants as places
use Rattle.hwp_claim_frame.specs.hwp_core_rule.declared.Step.{Step}
use Rattle.hwp_claim_frame.specs.hwp_core_rule.declared.Step.TheVariants as steps
use Rattle.hwp_claim_frame.specs.hwp_core_rule.declared.View.{View}
use Rattle.hwp_claim_frame.specs.hwp_core_rule.Lasting.{LeavesPoison}
use Rattle.hwp_claim_frame.specs.hwp_core_rule.Classes.{TellsClass}
use Rattle.hwp_claim_frame.specs.hwp_core_rule.Hands.{empty, hand_of}
use Rattle.hwp_claim_frame.proofs.of_hwp_core_rule.tasks.Failures.{mild-leaves}
use Rattle.hwp_claim_frame.specs.hwp_core.declared.give_up.GiveUp.{GiveUp}
use Rattle.hwp_claim_frame.specs.hwp_core.declared.give_up.GiveUpAt.{GiveUpAt}
use Rattle.hwp_claim_frame.specs.hwp_core.declared.give_up.GiveUpAt.TheVariants as give_up_at
use Rattle.hwp_claim_frame.specs.hwp_core.GiveUps as give_ups
use Rattle.hwp_claim_frame.proofs.of_hwp_core.GiveUpCosts.{give-up-mild}
use Rattle.hwp_claim_frame.proofs.of_hwp_core.TaskCosts.{release-mild, unhold-mild}
use Rattle.hwp_evict.proofs.TakeCosts as taking
use Rattle.hwp_claim_frame.proofs.of_hwp_core.TaskTells.{Tells, empty-tells, frame-tells, give-up-tells, no-frame, no-page, unhold-tells}
use Rattle.hwp_soft_move.specs.declared.discard.Discard.{Discard}
use Rattle.hwp_soft_move.specs.declared.discard.DiscardAt.{DiscardAt}
use Rattle.hwp_soft_move.specs.declared.discard.DiscardAt.TheVariants as discard_at
use Rattle.hwp_soft_move.specs.declared.relocate.Relocate.{Relocate}
use Rattle.hwp_soft_move.specs.declared.relocate.RelocateAt.{RelocateAt}
use Rattle.hwp_soft_move.specs.declared.relocate.RelocateAt.TheVariants as relocate_at
use Rattle.hwp_soft_move.specs.Discards as discards
use Rattle.hwp_soft_move.specs.Relocations as relocations
use Rattle.hwp_soft_move.proofs.DiscardLaws.{discard-lasting, discard-tells}
use Rattle.hwp_soft_move.proofs.RelocateCosts.{relocate-mild, relocate-tells}
use Rattle.hwp_soft_move.proofs.SeizeCosts.{seize-mild}
use Rattle.hwp_soft_move.proofs.SeizeLaws.{seize-tells}
use Rattle.hwp_soft.specs.declared.soft.Soft.{Soft}
use Rattle.hwp_soft.specs.declared.soft.SoftAt.{SoftAt}
use Rattle.hwp_soft.specs.declared.soft.SoftAt.TheVariants as at
use Rattle.hwp_soft.specs.Offline.{FitsFrom, FitsAt, task as soft-task}
use Rattle.hwp_soft.specs.Softs.{claims, claims_at, class, class_at, plan, plan_at}

-- no step comes of what is under way
stuck : {A : Type 0} {o : Option A} → is_none o ≡ false → o ≡ None → ⊥
stuck {o} on none = both_ways (is_none o) on (ap is_none none)

-- ---- what is held

given-up : (layout : Layout) (view : View) (g : GiveUp) → give_ups.Fits layout view g → is_none (give_ups.plan g) ≡ true → hand_of view ≡ empty
given-up layout view g fits over = which g.at fits.at over
  where
    which : (x : GiveUpAt) → give_ups.FitsAt layout view g.who x → is_none (give_ups.plan_at x) ≡ true → hand_of view ≡ empty
    which (give_up_at.Unhold u) has is = absurd (both_ways true (sym is ∙ has.under_way) refl)
    which (give_up_at.Unlock u) has is = absurd (both_ways true (sym is ∙ has.under_way) refl)
    which give_up_at.GiveUp has is = has
    which give_up_at.Over has is = has

give-up-told : (layout : Layout) (view : View) (g : GiveUp) → give_ups.Fits layout view g → Tells view (give_ups.class g)
give-up-told layout view g fits = by (is_none (give_ups.plan g)) refl
  where
    by : (b : Bool) → is_none (give_ups.plan g) ≡ b → Tells view (give_ups.class g)
    by true is = empty-tells view (give_ups.class g) (given-up layout view g fits is)
    by false is = give-up-tells layout view g fits is

pub soft-tells : {base : List Made} (layout : Layout) (view : View) (s : Soft) → FitsFrom base layout view s → Tells view (class s)
soft-tells {base} layout view s fits = which s.at fits.at
  where
    which : (x : SoftAt) → FitsAt base layout view s.who s.frame x → Tells view (class_at x)
    which at.LoadStop has = empty-tells view 4 has.0
    which (at.Seize z) has = seize-tells layout view z has.0.seize
    which (at.Discard d) has = discard-tells layout view d has.0.discard has.0.under_way
    which (at.LoadBad page body) has = frame-tells view
    which (at.Take page body t) has = frame-tells view
    which (at.Poison page body to) has = frame-tells view
    which (at.UnlockSpare page body to) has = frame-tells view
    which (at.ReleaseSpare page body r) has = frame-tells view
    which (at.Relocate r answer) has = relocate-tells layout view r has.relocate has.under_way
    which (at.Unhold u answer) has = unhold-tells layout view u has.unhold has.under_way
    which (at.GiveUp g) has = give-up-told layout view g has.give_up
    which (at.Over answer) has = empty-tells view 4 has.0

-- without a step nothing is held
idle : {base : List Made} (layout : Layout) (view : View) (s : Soft) → FitsFrom base layout view s → plan s ≡ None → hand_of view ≡ empty
idle {base} layout view s fits none = which s.at fits.at none
  where
    which : (x : SoftAt) → FitsAt base layout view s.who s.frame x → plan_at s.frame x ≡ None → hand_of view ≡ empty
    which at.LoadStop has none = absurd (stuck refl none)
    which (at.Seize z) has none = absurd (stuck has.0.under_way none)
    which (at.Discard d) has none = absurd (stuck has.0.under_way none)
    which (at.LoadBad page body) has none = absurd (stuck refl none)
    which (at.Take page body t) has none = absurd (stuck has.under_way none)
    which (at.Poison page body to) has none = absurd (stuck refl none)
    which (at.UnlockSpare page body to) has none = absurd (stuck refl none)
    which (at.ReleaseSpare page body r) has none = absurd (stuck has.0.under_way none)
    which (at.Relocate r answer) has none = absurd (stuck has.under_way none)
    which (at.Unhold u answer) has none = absurd (stuck has.under_way none)
    which (at.GiveUp g) has none = given-up layout view g has.give_up (ap is_none none)
    which (at.Over answer) has none = has.0

-- ---- what is claimed

discard-claims-on : (d : Discard) (frame : Frame) (cycle : ℕ) → discards.claims d ≡ Some (frame, cycle) → discards.class d ≤ 3
discard-claims-on d frame cycle is = which d.at is
  where
    which : (x : DiscardAt) → discards.claims_at d.frame x ≡ Some (frame, cycle) → discards.class_at x ≤ 3
    which (discard_at.Count own) is = omega arith
    which (discard_at.Retire own) is = omega arith
    which (discard_at.Poison used) is = omega arith
    which (discard_at.Unlock u) is = absurd (none-some (frame, cycle) is)
    which (discard_at.Over own) is = absurd (none-some (frame, cycle) is)

relocate-low : (r : Relocate) → is_none (relocations.plan r) ≡ false → relocations.class r ≤ 3
relocate-low r on = which r.at on
  where
    which : (x : RelocateAt) → is_none (relocations.plan_at r.transfer x) ≡ false → relocations.class_at x ≤ 3
    which relocate_at.Over on = absurd (both_ways true on refl)
    which relocate_at.UnlockPage on = omega arith
    which relocate_at.Count on = omega arith
    which relocate_at.SetOwner on = omega arith
    which (relocate_at.Refer f) on = omega arith
    which (relocate_at.Remap m) on = omega arith
    which relocate_at.SetCache on = omega arith
    which relocate_at.ClearOwner on = omega arith
    which relocate_at.UnlockFrame on = omega arith
    which (relocate_at.Release l) on = omega arith
    which relocate_at.PutRef on = omega arith
    which relocate_at.Retire on = omega arith

claims-on : {base : List Made} (layout : Layout) (view : View) (s : Soft) (frame : Frame) (cycle : ℕ) → FitsFrom base layout view s → claims s ≡ Some (frame, cycle) → (class s ≤ 3) × (plan s ≢ None)
claims-on {base} layout view s frame cycle fits is = which s.at fits.at is
  where
    which : (x : SoftAt) → FitsAt base layout view s.who s.frame x → claims_at s.frame x ≡ Some (frame, cycle) → (class_at x ≤ 3) × (plan_at s.frame x ≢ None)
    which (at.Discard d) has is = (discard-claims-on d frame cycle is, λ none. stuck has.0.under_way none)
    which (at.Relocate r answer) has is = (relocate-low r has.under_way, λ none. stuck has.under_way none)
    which at.LoadStop has is = absurd (none-some (frame, cycle) is)
    which (at.Seize z) has is = absurd (none-some (frame, cycle) is)
    which (at.LoadBad page body) has is = absurd (none-some (frame, cycle) is)
    which (at.Take page body t) has is = absurd (none-some (frame, cycle) is)
    which (at.Poison page body to) has is = absurd (none-some (frame, cycle) is)
    which (at.UnlockSpare page body to) has is = absurd (none-some (frame, cycle) is)
    which (at.ReleaseSpare page body r) has is = absurd (none-some (frame, cycle) is)
    which (at.Unhold u answer) has is = absurd (none-some (frame, cycle) is)
    which (at.GiveUp g) has is = absurd (none-some (frame, cycle) is)
    which (at.Over answer) has is = absurd (none-some (frame, cycle) is)

pub soft-tells-class : TellsClass soft-task
soft-tells-class = record {
  frame = λ layout view s fits some. ((soft-tells layout view s fits.1).0 some, λ none. no-frame view (idle layout view s fits.1 none) refl refl refl some);
  page = λ layout view s fits some. ((soft-tells layout view s fits.1).1 some, λ none. no-page view (idle layout view s fits.1 none) refl some);
  claim = λ layout view s frame cycle fits is. claims-on layout view s frame cycle fits.1 is;
}

-- none of its steps takes a frame's poison back
pub soft-lasting : (s : Soft) (step : Step) → plan s ≡ Some step → LeavesPoison step
soft-lasting s step is = which s.at is
  where
    which : (x : SoftAt) → plan_at s.frame x ≡ Some step → LeavesPoison step
    which at.LoadStop e = subst LeavesPoison (same_Some (steps.Load places.Stop) step e) tt
    which (at.Seize z) e = mild-leaves step (seize-mild z step e)
    which (at.Discard d) e = discard-lasting d step e
    which (at.LoadBad page body) e = subst LeavesPoison (same_Some (steps.Load (places.Bad s.frame)) step e) tt
    which (at.Take page body t) e = mild-leaves step (taking.mild t step e)
    which (at.Poison page body to) e = subst LeavesPoison (same_Some (steps.Poison s.frame false) step e) tt
    which (at.UnlockSpare page body to) e = subst LeavesPoison (same_Some (steps.UnlockFrame to) step e) tt
    which (at.ReleaseSpare page body r) e = mild-leaves step (release-mild r step e)
    which (at.Relocate r answer) e = mild-leaves step (relocate-mild r step e)
    which (at.Unhold u answer) e = mild-leaves step (unhold-mild u step e)
    which (at.GiveUp g) e = mild-leaves step (give-up-mild g step e)
    which (at.Over answer) e = absurd (none-some step e)
