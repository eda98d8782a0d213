-- Each turn of `Vacate` lowers its cost, and its class tells what it holds.
use Rattle.std.proofs.Common.{◌≡◌, ℕ, ◌+◌, ◌<◌, ◌≤◌, min, true, false, List, Some, None, is_none, refl, sym, ap, ◌∙◌, subst, arith}
use Rattle.std.proofs.lemmas.Bool.{both_ways}
use Rattle.std.proofs.lemmas.Option.{none-some, same_Some}
use Rattle.hwp_core_rule.specs.hwp_geom.declared.Layout.{Layout}
use Rattle.hwp_core_rule.specs.declared.Step.{Step}
use Rattle.hwp_core_rule.specs.declared.Step.TheVariants as steps
use Rattle.hwp_core_rule.specs.declared.View.{View}
use Rattle.hwp_core_rule.specs.Lasting.{IsMild}
use Rattle.hwp_core_rule.specs.Words.{Words}
use Rattle.hwp_core_rule.specs.declared.InHand.{InHand}
use Rattle.hwp_core_rule.specs.Hands.{hand_of}
use Rattle.hwp_core_rule.specs.Ranks.{IsRanked, is_waits, words_at}
use Rattle.hwp_core_rule.proofs.tasks.StepRanks.{rank-of}
use Rattle.hwp_core_rule.proofs.tasks.MadeEntries.{ListsNone}
use Rattle.hwp_core.specs.declared.release.Release.{Release}
use Rattle.hwp_core.specs.declared.release.ReleaseAt.{ReleaseAt}
use Rattle.hwp_core.specs.declared.release.ReleaseAt.TheVariants as release_at
use Rattle.hwp_core.specs.Releases as releases
use Rattle.hwp_core.proofs.TaskCosts.{release-falls, release-lists, release-mild, release-small}
use Rattle.hwp_core.proofs.TaskTells.{Tells, frame-tells, page-tells}
use Rattle.hwp_core.specs.declared.vacate.Vacate.{Vacate}
use Rattle.hwp_core.specs.declared.vacate.VacateAt.{VacateAt}
use Rattle.hwp_core.specs.declared.vacate.VacateAt.TheVariants as at
use Rattle.hwp_core.specs.Vacates.{plan, plan_at, bare, after_release, next, next_at, page_held, releasing, Fits, FitsAt, class, class_at, cost, cost_at, task as vacate-task}

-- the state after a step of the release costs one more than the release
release-cost : (r : Release) (w : Words) → cost_at (after_release r) w ≡ releases.cost r w + 1
release-cost r w = which r.at
  where
    which : (x : ReleaseAt) → cost_at (after_release (record r { at = x })) w ≡ releases.cost (record r { at = x }) w + 1
    which release_at.Put = refl
    which (release_at.Give word) = refl
    which (release_at.Unreserve word) = refl
    which (release_at.Adopt word) = refl
    which (release_at.Retire word) = refl
    which (release_at.Back word) = refl

pub vacate-falls : (w now : Words) (v : Vacate) (step : Step) (found : ℕ) → plan v ≡ Some step → cost (next (bare v) found) now < cost v w
vacate-falls w now v step found is = which v.at is
  where
    which : (x : VacateAt) → plan_at v.page v.frame x ≡ Some step → cost_at (next_at v.who v.frame v.count x found) now < cost_at x w
    which at.SetCache e = omega arith
    which at.SetOwner e = omega arith
    which at.UnlockFrame e = omega arith
    which (at.Release r) e =
        let less : releases.cost (releases.next r found) now < releases.cost r w = release-falls w now r step found e in
        let more : cost_at (after_release (releases.next r found)) now ≡ releases.cost (releases.next r found) now + 1 = release-cost (releases.next r found) now in
        omega (arith, less, more)
    which at.UnlockPage e = omega arith
    which at.Over e = absurd (none-some step e)

pub vacate-small : (w : Words) (v : Vacate) → cost v w ≤ 7
vacate-small w v = which v.at
  where
    which : (x : VacateAt) → cost_at x w ≤ 7
    which at.SetCache = omega arith
    which at.SetOwner = omega arith
    which at.UnlockFrame = omega arith
    which (at.Release r) = let few : releases.cost r w ≤ 3 = release-small w r in omega (arith, few)
    which at.UnlockPage = omega arith
    which at.Over = omega arith

pub vacate-class : (v : Vacate) → (1 ≤ class v) × (class v ≤ 4)
vacate-class v = which v.at
  where
    by : (x : ReleaseAt) → (1 ≤ min (releases.class_at x) 2) × (min (releases.class_at x) 2 ≤ 4)
    by release_at.Put = (omega arith, omega arith)
    by (release_at.Give word) = (omega arith, omega arith)
    by (release_at.Unreserve word) = (omega arith, omega arith)
    by (release_at.Adopt word) = (omega arith, omega arith)
    by (release_at.Retire word) = (omega arith, omega arith)
    by (release_at.Back word) = (omega arith, omega arith)

    which : (x : VacateAt) → (1 ≤ class_at x) × (class_at x ≤ 4)
    which at.SetCache = (omega arith, omega arith)
    which at.SetOwner = (omega arith, omega arith)
    which at.UnlockFrame = (omega arith, omega arith)
    which (at.Release r) = by r.at
    which at.UnlockPage = (omega arith, omega arith)
    which at.Over = (omega arith, omega arith)

-- none of its steps poisons a frame or takes its poison back
pub vacate-mild : (s : Vacate) (step : Step) → plan s ≡ Some step → IsMild step
vacate-mild s step is = which s.at is
  where
    which : (x : VacateAt) → plan_at s.page s.frame x ≡ Some step → IsMild step
    which at.SetCache e = subst IsMild (same_Some (steps.SetCache s.page None) step e) tt
    which at.SetOwner e = subst IsMild (same_Some (steps.SetOwner s.frame s.page false) step e) tt
    which at.UnlockFrame e = subst IsMild (same_Some (steps.UnlockFrame s.frame) step e) tt
    which (at.Release r) e = release-mild r step e
    which at.UnlockPage e = subst IsMild (same_Some (steps.UnlockPage s.page) step e) tt
    which at.Over e = absurd (none-some step e)

-- none of its steps lists an entry by itself
pub vacate-lists : (s : Vacate) (step : Step) → plan s ≡ Some step → ListsNone step
vacate-lists s step is = which s.at is
  where
    which : (x : VacateAt) → plan_at s.page s.frame x ≡ Some step → ListsNone step
    which at.SetCache e = subst ListsNone (same_Some (steps.SetCache s.page None) step e) tt
    which at.SetOwner e = subst ListsNone (same_Some (steps.SetOwner s.frame s.page false) step e) tt
    which at.UnlockFrame e = subst ListsNone (same_Some (steps.UnlockFrame s.frame) step e) tt
    which (at.Release r) e = release-lists r step e
    which at.UnlockPage e = subst ListsNone (same_Some (steps.UnlockPage s.page) step e) tt
    which at.Over e = absurd (none-some step e)

pub vacate-ranked : IsRanked vacate-task
vacate-ranked = rank-of vacate-task (λ s. refl) vacate-class (λ layout a seat s rule fits. let few : cost s (words_at layout a) ≤ 7 = vacate-small (words_at layout a) s in omega (arith, few))
    (λ layout seat a b s t turn made goes. subst (λ (x : Vacate). cost x (words_at layout b) < cost s (words_at layout a)) (sym made.follows.0)
    (vacate-falls (words_at layout a) (words_at layout b) s made.step made.found made.planned))
    (λ layout seat a b s t turn made is quiet. absurd (both_ways true (sym is ∙ ap is_waits made.follows.1) refl))
    (λ s. refl) vacate-mild

-- ---- the class

pub vacate-tells : (layout : Layout) (view : View) (v : Vacate) → Fits layout view v → is_none (plan v) ≡ false → Tells view (class v)
vacate-tells layout view v fits on = which v.at fits.at on
  where
    by : (r : Release) (x : ReleaseAt) (trans : List ℕ) (taken : InHand) → hand_of view ≡ releasing r.frame r.count x (page_held v.page None trans taken) → Tells view (min (releases.class_at x) 2)
    by r release_at.Put trans taken is = page-tells view is 2 refl refl refl (omega arith)
    by r (release_at.Give word) trans taken is = frame-tells view
    by r (release_at.Unreserve word) trans taken is = frame-tells view
    by r (release_at.Adopt word) trans taken is = frame-tells view
    by r (release_at.Retire word) trans taken is = frame-tells view
    by r (release_at.Back word) trans taken is = page-tells view is 2 refl refl refl (omega arith)

    which : (x : VacateAt) → FitsAt layout view (record v { at = x }) x → is_none (plan_at v.page v.frame x) ≡ false → Tells view (class_at x)
    which at.SetCache has on = frame-tells view
    which at.SetOwner has on = frame-tells view
    which at.UnlockFrame has on = frame-tells view
    which (at.Release r) has on = by r r.at has.leaving.trans has.leaving.taken has.leaving.hand_is
    which at.UnlockPage has on = page-tells view has.hand_is 2 refl refl refl (omega arith)
    which at.Over has on = absurd (both_ways true on refl)
