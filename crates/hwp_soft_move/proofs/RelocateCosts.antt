-- Each turn of a `Relocate` lowers its cost, and its class tells what is held.
use Rattle.std.proofs.Common.{◌≡◌, ℕ, ◌+◌, ◌-◌, ◌<◌, ◌≤◌, true, false, Option, Some, None, is_none, refl, sym, ap, ◌∙◌, subst, arith, List}
use Rattle.std.proofs.lemmas.Bool.{both_ways}
use Rattle.std.proofs.lemmas.Option.{none-some, same_Some}
use Rattle.std.specs.FinSet as set
use Rattle.std.specs.Ordering.{nat_cmp}
use Rattle.hwp_claim_frame.specs.hwp_geom.declared.Layout.{Layout}
use Rattle.hwp_claim_frame.specs.hwp_geom.declared.VSlot.{VSlot}
use Rattle.hwp_claim_frame.specs.hwp_core_rule.declared.Made.{Made}
use Rattle.hwp_claim_frame.specs.hwp_core_rule.declared.Step.{Step}
use Rattle.hwp_claim_frame.specs.hwp_core_rule.declared.Step.TheVariants as steps
use Rattle.hwp_claim_frame.specs.hwp_core_rule.declared.View.{View}
use Rattle.hwp_claim_frame.specs.hwp_core_rule.Lasting.{IsMild}
use Rattle.hwp_claim_frame.specs.hwp_core_rule.Steps.{place_of, word_after}
use Rattle.hwp_claim_frame.specs.hwp_core_rule.Words.{Words, read}
use Rattle.hwp_claim_frame.specs.hwp_core_rule.declared.Turn.{Turn}
use Rattle.hwp_claim_frame.specs.hwp_core_rule.Boards.{view_of}
use Rattle.hwp_claim_frame.specs.hwp_core_rule.Ranks.{IsRanked, is_waits, words_at, pass, stale_weight, translation_room}
use Rattle.hwp_claim_frame.proofs.of_hwp_core_rule.tasks.StepRanks.{met, rank-of, steps-on, words-kept}
use Rattle.hwp_claim_frame.specs.hwp_core.declared.refer.Refer.{Refer}
use Rattle.hwp_claim_frame.specs.hwp_core.declared.refer.ReferAt.{ReferAt}
use Rattle.hwp_claim_frame.specs.hwp_core.declared.refer.ReferAt.TheVariants as refer_at
use Rattle.hwp_claim_frame.specs.hwp_core.declared.release.Release.{Release}
use Rattle.hwp_claim_frame.specs.hwp_core.declared.release.ReleaseAt.{ReleaseAt}
use Rattle.hwp_claim_frame.specs.hwp_core.declared.release.ReleaseAt.TheVariants as release_at
use Rattle.hwp_claim_frame.specs.hwp_core.Refers as refers
use Rattle.hwp_claim_frame.specs.hwp_core.Releases as releases
use Rattle.hwp_claim_frame.proofs.of_hwp_core.ReferCosts.{refer-falls, refer-goes, refer-mild, refer-small}
use Rattle.hwp_claim_frame.proofs.of_hwp_core.TaskCosts.{release-falls, release-mild, release-small}
use Rattle.hwp_claim_frame.proofs.of_hwp_core.TaskTells.{Tells, frame-tells, page-tells}
use Rattle.hwp_soft_move.specs.declared.relocate.Relocate.{Relocate}
use Rattle.hwp_soft_move.specs.declared.relocate.RelocateAt.{RelocateAt}
use Rattle.hwp_soft_move.specs.declared.relocate.RelocateAt.TheVariants as at
use Rattle.hwp_soft_move.specs.declared.relocate.Transfer.{Transfer}
use Rattle.hwp_soft_move.specs.declared.remap.Remap.{Remap}
use Rattle.hwp_soft_move.specs.Relocations.{plan, plan_at, bare, after_remap, after_release, AfterReferAt, FollowsAt, Follows, Shows, ShowsAt, class, class_at, cost, cost_at, relocate_most}
use Rattle.hwp_soft_move.specs.Relocating.{FitsAt, FitsFrom, task as relocate-task}
use Rattle.hwp_soft_move.specs.Remaps as remaps
use Rattle.hwp_soft_move.proofs.RelocateLaws.{both}
use Rattle.hwp_soft_move.proofs.RemapLaws.{remap-mild, remap-small, remaps-fall}

remap-cost : (m : Remap) (w : Words) → cost_at (after_remap m) w ≤ remaps.cost m w + 9
remap-cost m w = which m.next
  where
    which : (n : Option VSlot) → cost_at (after_remap (record m { next = n })) w ≤ remaps.cost_at n + 9
    which None = omega arith
    which (Some slot) = omega arith

release-cost : (l : Release) (w : Words) → cost_at (after_release l) w ≤ releases.cost l w + 3
release-cost l w = which l.at
  where
    which : (x : ReleaseAt) → cost_at (after_release (record l { at = x })) w ≤ releases.cost_at x + 3
    which release_at.Put = omega arith
    which (release_at.Give word) = omega arith
    which (release_at.Unreserve word) = omega arith
    which (release_at.Adopt word) = omega arith
    which (release_at.Retire word) = omega arith
    which (release_at.Back word) = omega arith

-- once the references are taken, a page's translations are written
refer-cost : (t : Transfer) (maps : set.FinSet nat_cmp) (f : Refer) (y : ReferAt) (x : RelocateAt) (w : Words) → AfterReferAt t maps (record f { at = y }) y x → cost_at x w ≤ refers.cost_at f.frame y w + (pass + 1)
refer-cost t maps f refer_at.Load x w is = subst (λ (z : RelocateAt). cost_at z w ≤ 2 + (pass + 1)) (sym is) (omega arith)
refer-cost t maps f (refer_at.Get seen) x w is = subst (λ (z : RelocateAt). cost_at z w ≤ refers.cost_at f.frame (refer_at.Get seen) w + (pass + 1)) (sym is) (omega arith)
refer-cost t maps f refer_at.Over x w is = subst (λ (z : RelocateAt). cost_at z w ≤ pass + 1) (sym is.next_is) (let k = remap-cost is.remap w in let few = remap-small w is.remap in omega (arith, k, few))

pub relocate-falls : (w now : Words) (r : Relocate) (step : Step) (found : ℕ) (next : Relocate) (turn : Turn) → plan r ≡ Some step → Shows (bare r) → Follows (bare r) found next turn → read (place_of step) w ≡ found → (word_after step found ≡ found → now ≡ w) → cost next now < cost r w
relocate-falls w now r step found next turn is shows follows shown kept = which r.at is shows follows.1
  where
    exactly : (x : RelocateAt) (n : ℕ) → next.at ≡ x → cost_at x now < n → cost_at next.at now < n
    exactly x n is less = subst (λ (y : RelocateAt). cost_at y now < n) (sym is) less

    which : (x : RelocateAt) → plan_at r.transfer x ≡ Some step → ShowsAt r.maps x → FollowsAt r.transfer r.maps x found next.at turn → cost_at next.at now < cost_at x w
    which at.Count e shows f = exactly at.SetOwner (pass + 5) f.0 (omega arith)
    which at.SetOwner e shows f = exactly (at.Refer (refers.begin r.transfer.who r.transfer.to (r.transfer.count - 1))) (pass + 4) f.0 (omega arith)
    which (at.Refer g) e shows f =
        let less : refers.cost (refers.next g found) now < refers.cost g w = refer-falls w now g step found e shown kept in
        let most : cost_at next.at now ≤ refers.cost (refers.next g found) now + (pass + 1) = refer-cost r.transfer r.maps g (refers.next g found).at next.at now f.0 in
        omega (arith, less, most)
    which (at.Remap m) e shows f =
        let less : remaps.cost f.0.after now < remaps.cost m w = remaps-fall m f.0.after w now e f.0.follows shows.0 in
        let most : cost_at (after_remap f.0.after) now ≤ remaps.cost f.0.after now + 9 = remap-cost f.0.after now in
        exactly (after_remap f.0.after) (remaps.cost m w + 9) f.0.next_is (omega (arith, less, most))
    which at.SetCache e shows f = exactly at.ClearOwner 9 f.0 (omega arith)
    which at.ClearOwner e shows f = exactly at.UnlockFrame 8 f.0 (omega arith)
    which at.UnlockFrame e shows f = exactly (at.Release (releases.begin r.transfer.who r.transfer.to 1)) 7 f.0 (omega arith)
    which (at.Release l) e shows f =
        let less : releases.cost (releases.next l found) now < releases.cost l w = release-falls w now l step found e in
        let most : cost_at (after_release (releases.next l found)) now ≤ releases.cost (releases.next l found) now + 3 = release-cost (releases.next l found) now in
        exactly (after_release (releases.next l found)) (releases.cost l w + 3) f.0 (omega (arith, less, most))
    which at.PutRef e shows f = exactly at.Retire 3 f.0 (omega arith)
    which at.Retire e shows f = exactly at.UnlockPage 2 f.0 (omega arith)
    which at.UnlockPage e shows f = exactly at.Over 1 f.0 (omega arith)
    which at.Over e shows f = absurd (none-some step e)

pub relocate-small : (w : Words) (r : Relocate) → cost r w ≤ relocate_most
relocate-small w r = which r.at
  where
    which : (x : RelocateAt) → cost_at x w ≤ relocate_most
    which at.Count = omega arith
    which at.SetOwner = omega arith
    which (at.Refer f) = let few : refers.cost f w ≤ stale_weight + 1 = refer-small w f in omega (arith, few)
    which (at.Remap m) = let few : remaps.cost m w ≤ translation_room = remap-small w m in omega (arith, few)
    which at.SetCache = omega arith
    which at.ClearOwner = omega arith
    which at.UnlockFrame = omega arith
    which (at.Release l) = let few : releases.cost l w ≤ 3 = release-small w l in omega (arith, few)
    which at.PutRef = omega arith
    which at.Retire = omega arith
    which at.UnlockPage = omega arith
    which at.Over = omega arith

pub relocate-class : (r : Relocate) → (1 ≤ class r) × (class r ≤ 4)
relocate-class r = which r.at
  where
    which : (x : RelocateAt) → (1 ≤ class_at x) × (class_at x ≤ 4)
    which at.Count = (omega arith, omega arith)
    which at.SetOwner = (omega arith, omega arith)
    which (at.Refer f) = (omega arith, omega arith)
    which (at.Remap m) = (omega arith, omega arith)
    which at.SetCache = (omega arith, omega arith)
    which at.ClearOwner = (omega arith, omega arith)
    which at.UnlockFrame = (omega arith, omega arith)
    which (at.Release l) = (omega arith, omega arith)
    which at.PutRef = (omega arith, omega arith)
    which at.Retire = (omega arith, omega arith)
    which at.UnlockPage = (omega arith, omega arith)
    which at.Over = (omega arith, omega arith)

-- no turn waits
pub relocate-goes : (r : Relocate) (found : ℕ) (next : Relocate) (turn : Turn) → Follows (bare r) found next turn → is_waits turn ≡ false
relocate-goes r found next turn follows = which r.at follows.1
  where
    which : (x : RelocateAt) → FollowsAt r.transfer r.maps x found next.at turn → is_waits turn ≡ false
    which at.Count f = ap is_waits f.1
    which at.SetOwner f = ap is_waits f.1
    which (at.Refer g) f = ap is_waits f.1 ∙ refer-goes g found
    which (at.Remap m) f = ap is_waits f.1
    which at.SetCache f = ap is_waits f.1
    which at.ClearOwner f = ap is_waits f.1
    which at.UnlockFrame f = ap is_waits f.1
    which (at.Release l) f = ap is_waits f.1
    which at.PutRef f = ap is_waits f.1
    which at.Retire f = ap is_waits f.1
    which at.UnlockPage f = ap is_waits f.1
    which at.Over f = ap is_waits f.1

-- none of its steps poisons a frame or takes its poison back
pub relocate-mild : (r : Relocate) (step : Step) → plan r ≡ Some step → IsMild step
relocate-mild r step is = which r.at is
  where
    which : (x : RelocateAt) → plan_at r.transfer x ≡ Some step → IsMild step
    which at.Count e = subst IsMild (same_Some (steps.CountPoison false) step e) tt
    which at.SetOwner e = subst IsMild (same_Some (steps.SetOwner r.transfer.to r.transfer.page true) step e) tt
    which (at.Refer f) e = refer-mild f step e
    which (at.Remap m) e = remap-mild m step e
    which at.SetCache e = subst IsMild (same_Some (steps.SetCache r.transfer.page (Some r.transfer.to)) step e) tt
    which at.ClearOwner e = subst IsMild (same_Some (steps.SetOwner r.transfer.from r.transfer.page false) step e) tt
    which at.UnlockFrame e = subst IsMild (same_Some (steps.UnlockFrame r.transfer.to) step e) tt
    which (at.Release l) e = release-mild l step e
    which at.PutRef e = subst IsMild (same_Some (steps.PutRef r.transfer.from (r.transfer.count - 1)) step e) tt
    which at.Retire e = subst IsMild (same_Some (steps.Retire r.transfer.from) step e) tt
    which at.UnlockPage e = subst IsMild (same_Some (steps.UnlockPage r.transfer.page) step e) tt
    which at.Over e = absurd (none-some step e)

pub relocate-ranked : IsRanked relocate-task
relocate-ranked = rank-of relocate-task (λ s. refl) relocate-class (λ layout a seat s rule fits. let few : _ = relocate-small (words_at layout a) s in omega (arith, few))
    (λ layout seat a b s t turn made goes. relocate-falls (words_at layout a) (words_at layout b) s made.step made.found t turn made.planned
    (both layout (view_of a seat) _ s made.step made.found made.got made.fits.1 made.planned (steps-on made)).0 made.follows (met made) (words-kept made))
    (λ layout seat a b s t turn made is quiet. absurd (both_ways true (sym is ∙ relocate-goes s made.found t turn made.follows) refl))
    (λ s. refl) relocate-mild

-- ---- the class

pub relocate-tells : {base : List Made} (layout : Layout) (view : View) (r : Relocate) → FitsFrom base layout view r → is_none (plan r) ≡ false → Tells view (class r)
relocate-tells {base} layout view r fits on = which r.at fits.at on
  where
    which : (x : RelocateAt) → FitsAt base layout view r.transfer r.maps r.done r.body x → is_none (plan_at r.transfer x) ≡ false → Tells view (class_at x)
    which at.Count has on = frame-tells view
    which at.SetOwner has on = frame-tells view
    which (at.Refer f) has on = frame-tells view
    which (at.Remap m) has on = frame-tells view
    which at.SetCache has on = frame-tells view
    which at.ClearOwner has on = frame-tells view
    which at.UnlockFrame has on = frame-tells view
    which (at.Release l) has on = frame-tells view
    which at.PutRef has on = frame-tells view
    which at.Retire has on = frame-tells view
    which at.UnlockPage has on = page-tells view has.0 2 refl refl refl (omega arith)
    which at.Over has on = absurd (both_ways true on refl)
