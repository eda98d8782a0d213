-- The laws of `Abandon`.
use Rattle.std.proofs.Common.{◌≡◌, ℕ, ◌+◌, ◌-◌, ◌<◌, ◌≤◌, true, false, List, Option, Some, None, option_map, slice_get, refl, sym, ap, ◌∙◌, subst, arith}
use Rattle.std.proofs.lemmas.Bool.{both_ways}
use Rattle.std.proofs.lemmas.Option.{none-some, same_Some, slice_get_within}
use Rattle.hwp_core.specs.hwp_geom.declared.FileNo.{FileNo}
use Rattle.hwp_core.specs.hwp_geom.declared.Layout.{Layout}
use Rattle.hwp_core.specs.hwp_kill.declared.Signal.{Signal}
use Rattle.hwp_core.specs.hwp_kill.Limits.{signal_limit}
use Rattle.hwp_core.specs.hwp_page.History.{BodyValue}
use Rattle.hwp_core.specs.hwp_core_rule.declared.InHand.{InHand}
use Rattle.hwp_core.specs.hwp_core_rule.declared.Step.{Step}
use Rattle.hwp_core.specs.hwp_core_rule.declared.Step.TheVariants as steps
use Rattle.hwp_core.specs.hwp_core_rule.declared.View.{View}
use Rattle.hwp_core.specs.hwp_core_rule.Lasting.{IsMild}
use Rattle.hwp_core.specs.hwp_core_rule.declared.Turn.{Turn}
use Rattle.hwp_core.specs.hwp_core_rule.declared.Turn.TheVariants.{Moved}
use Rattle.hwp_core.specs.hwp_core_rule.Boards.{view_of}
use Rattle.hwp_core.specs.hwp_core_rule.Calls.{Steps, logs}
use Rattle.hwp_core.specs.hwp_core_rule.Ranks.{IsRanked, is_waits}
use Rattle.hwp_core.proofs.of_hwp_core_rule.tasks.StepRanks.{rank-of}
use Rattle.hwp_core.proofs.of_hwp_core_rule.tasks.StepLeaves.{on-turn-after, steps-planned}
use Rattle.hwp_claim_act.specs.declared.abandon.Abandon.{Abandon}
use Rattle.hwp_claim_act.specs.declared.abandon.AbandonAt.{AbandonAt}
use Rattle.hwp_claim_act.specs.declared.abandon.AbandonAt.TheVariants as at
use Rattle.hwp_claim_act.specs.Abandons.{ShowsAt, Shows, after_owner, bare, class, class_at, cost, cost_at, kill_at, kill_from, left_at, next, next_at, owner_gone, plan, plan_at, put, put_at, snapshot}
use Rattle.hwp_claim_act.specs.Abandoned.{Carries, Fits, FitsAt, IsAhead, IsPast, task as abandon-task}
use Rattle.hwp_claim_act.proofs.AbandonSteps.{after-owner-fits, cache-cleared, loss-counted, owner-cleared, page-gone, past-on, process-ended, refs-put, retired}

-- what fits says nothing of the state beside the one that it is said of
module _ {layout : Layout} {view : View} (a : Abandon) (y : AbandonAt) where
  abbrev still-carries : {killed : ℕ} {trans : List ℕ} {taken : InHand} → Carries layout view a killed trans taken → Carries layout view (record a { at = y }) killed trans taken
  still-carries has = record { log = has.log; f = has.f; body = has.body; given_is = has.given_is; entry = has.entry; in_hand = has.in_hand; fits = has.fits; unmapped = has.unmapped; paid = has.paid }

  still-ahead : {x : AbandonAt} → IsAhead layout view a x → IsAhead layout view (record a { at = y }) x
  still-ahead has = record { trans = has.trans; taken = has.taken; hand_is = has.hand_is; carries = still-carries has.carries; unlisted = has.unlisted; spare = has.spare }

  still-past : {x : AbandonAt} {killed : ℕ} → IsPast layout view a x killed → IsPast layout view (record a { at = y }) x killed
  still-past has = record { trans = has.trans; taken = has.taken; hand_is = has.hand_is; carries = still-carries has.carries; listing = has.listing }

still-fits : (layout : Layout) (view : View) (a : Abandon) (y x : AbandonAt) → FitsAt layout view a x → FitsAt layout view (record a { at = y }) x
still-fits layout view a y at.SetCache has = still-ahead a y has
still-fits layout view a y at.SetOwner has = still-ahead a y has
still-fits layout view a y (at.Lose file) has = (still-ahead a y has.0, has.1)
still-fits layout view a y (at.Kill number process) has = (still-past a y has.0, has.1)
still-fits layout view a y at.PutRef has = still-past a y has
still-fits layout view a y at.Retire has = still-past a y has
still-fits layout view a y at.UnlockPage has = still-past a y has
still-fits layout view a y at.Over has = has

-- what follows a step fits again
pub moved : (layout : Layout) (old new : View) (a : Abandon) (step : Step) (found : ℕ) (got : Option BodyValue) → Fits layout old a → plan a ≡ Some step → Steps layout a.who step (logs (put a)) old new found got → Fits layout new (next (bare a))
moved layout old new a step found got fits is made = record { on_turn = on-turn-after fits.on_turn made; sound = fits.sound; page = fits.page; frame = fits.frame; place = fits.place; some = fits.some; room = fits.room; at = which a.at is fits.at made }
  where
    which : (x : AbandonAt) → plan_at a.page a.frame a.count a.body x ≡ Some step → FitsAt layout old a x → Steps layout a.who step (logs (put_at a.body x)) old new found got → FitsAt layout new (record a { body = left_at a.body x; at = next_at a.losses x }) (next_at a.losses x)
    which at.SetCache e has made = still-fits layout new a at.SetOwner at.SetOwner (cache-cleared a fits (steps-planned e made) has)
    which at.SetOwner e has made = still-fits layout new a (after_owner a.losses) (after_owner a.losses) (after-owner-fits a (owner-cleared a fits (steps-planned e made) has))
    which (at.Lose file) e has made = still-fits layout new a (kill_at a.losses.endings 0) (kill_at a.losses.endings 0) (past-on a 0 (omega arith) (loss-counted a fits file has.1 has.0 (steps-planned (sym (ap (λ (b : Option BodyValue). option_map (λ (b : BodyValue). steps.Lose file (snapshot b)) b) has.0.carries.given_is) ∙ e) made)))
    which (at.Kill number process) e has made = still-fits layout new a (kill_at a.losses.endings (number + 1)) (kill_at a.losses.endings (number + 1)) (past-on a (number + 1) (let inside = slice_get_within a.losses.endings number has.1.0 has.1.1 in omega (arith, inside)) (process-ended a fits number process has.0 has.1 (steps-planned (sym (ap (λ (b : Option BodyValue). option_map (λ (b : BodyValue). steps.Kill process a.page (snapshot b)) b) has.0.carries.given_is) ∙ e) made)))
    which at.PutRef e has made = still-fits layout new a at.Retire at.Retire (refs-put a fits (steps-planned e made) has)
    which at.Retire e has made = still-fits layout new a at.UnlockPage at.UnlockPage (retired a fits (steps-planned e made) has)
    which at.UnlockPage e has made = page-gone a fits has (steps-planned e made)
    which at.Over e has made = absurd (none-some step e)

-- there are few signals
pub shows : (layout : Layout) (view : View) (a : Abandon) → Fits layout view a → Shows a
shows layout view a fits = which a.at fits.at
  where
    which : (x : AbandonAt) → FitsAt layout view a x → ShowsAt x
    which at.SetCache has = tt
    which at.SetOwner has = tt
    which (at.Lose file) has = tt
    which (at.Kill number process) has = let inside = slice_get_within a.losses.endings number has.1.0 has.1.1 in let few = has.0.carries.entry.few in omega (arith, inside, few)
    which at.PutRef has = tt
    which at.Retire has = tt
    which at.UnlockPage has = tt
    which at.Over has = tt

pub stays : (layout : Layout) (old new : View) (a : Abandon) (step : Step) (found : ℕ) (got : Option BodyValue) → Fits layout old a → plan a ≡ Some step → Steps layout a.who step (logs (put a)) old new found got
    → Shows (bare a) × ((after : Abandon) (turn : Turn) → (after ≡ next (bare a)) × (turn ≡ Moved) → Fits layout new after × (after.who.cpu ≡ a.who.cpu))
stays layout old new a step found got fits is made = (shows layout old a fits, λ after turn follows. (subst (Fits layout new) (sym follows.0) (moved layout old new a step found got fits is made), ap (λ (x : Abandon). x.who.cpu) follows.0))

-- ---- the law of the rank

-- from a number up to all of the endings on
kill-cost : (endings : List Signal) (n : ℕ) → n ≤ signal_limit → cost_at (kill_at endings n) ≤ signal_limit + 4 - n
kill-cost endings n few = which (slice_get endings n)
  where
    which : (o : Option Signal) → cost_at (kill_from n o) ≤ signal_limit + 4 - n
    which (Some s) = omega arith
    which None = omega arith

pub abandon-falls : (layout : Layout) (view : View) (a : Abandon) {step : Step} → Fits layout view a → plan a ≡ Some step → cost (next (bare a)) < cost a
abandon-falls layout view a {step} fits is = which a.at is fits.at
  where
    first : cost_at (kill_at a.losses.endings 0) < 21
    first = let k = kill-cost a.losses.endings 0 (omega arith) in omega (arith, k)

    owner : (o : Option FileNo) → cost_at (owner_gone o a.losses.endings) < 22
    owner (Some file) = omega arith
    owner None = let k = kill-cost a.losses.endings 0 (omega arith) in omega (arith, k)

    which : (x : AbandonAt) → plan_at a.page a.frame a.count a.body x ≡ Some step → FitsAt layout view a x → cost_at (next_at a.losses x) < cost_at x
    which at.SetCache e has = omega arith
    which at.SetOwner e has = owner a.losses.file
    which (at.Lose file) e has = first
    which (at.Kill number process) e has =
        let inside = slice_get_within a.losses.endings number has.1.0 has.1.1 in
        let few = has.0.carries.entry.few in
        let k = kill-cost a.losses.endings (number + 1) (omega (arith, inside, few)) in
        omega (arith, k, inside, few)
    which at.PutRef e has = omega arith
    which at.Retire e has = omega arith
    which at.UnlockPage e has = omega arith
    which at.Over e has = absurd (none-some step e)

pub abandon-small : (a : Abandon) → cost a ≤ 23
abandon-small a = which a.at
  where
    which : (x : AbandonAt) → cost_at x ≤ 23
    which at.SetCache = omega arith
    which at.SetOwner = omega arith
    which (at.Lose file) = omega arith
    which (at.Kill number process) = omega arith
    which at.PutRef = omega arith
    which at.Retire = omega arith
    which at.UnlockPage = omega arith
    which at.Over = omega arith

pub abandon-classes : (a : Abandon) → (1 ≤ class a) × (class a ≤ 4)
abandon-classes a = which a.at
  where
    which : (x : AbandonAt) → (1 ≤ class_at x) × (class_at x ≤ 4)
    which at.UnlockPage = (omega arith, omega arith)
    which at.Over = (omega arith, omega arith)
    which _ = (omega arith, omega arith)

-- none of its steps poisons a frame or takes its poison back
pub abandon-mild : (a : Abandon) (step : Step) → plan a ≡ Some step → IsMild step
abandon-mild a step is = which a.at is
  where
    which : (x : AbandonAt) → plan_at a.page a.frame a.count a.body x ≡ Some step → IsMild step
    which at.SetCache e = subst IsMild (same_Some (steps.SetCache a.page None) step e) tt
    which at.SetOwner e = subst IsMild (same_Some (steps.SetOwner a.frame a.page false) step e) tt
    which (at.Lose file) e = lose a.body e
      where
        lose : (o : Option BodyValue) → option_map (λ (b : BodyValue). steps.Lose file (snapshot b)) o ≡ Some step → IsMild step
        lose (Some b) e = subst IsMild (same_Some (steps.Lose file (snapshot b)) step e) tt
        lose None e = absurd (none-some step e)
    which (at.Kill number process) e = kill a.body e
      where
        kill : (o : Option BodyValue) → option_map (λ (b : BodyValue). steps.Kill process a.page (snapshot b)) o ≡ Some step → IsMild step
        kill (Some b) e = subst IsMild (same_Some (steps.Kill process a.page (snapshot b)) step e) tt
        kill None e = absurd (none-some step e)
    which at.PutRef e = subst IsMild (same_Some (steps.PutRef a.frame (a.count - 1)) step e) tt
    which at.Retire e = subst IsMild (same_Some (steps.Retire a.frame) step e) tt
    which at.UnlockPage e = subst IsMild (same_Some (steps.UnlockPage a.page) step e) tt
    which at.Over e = absurd (none-some step e)

pub abandon-ranked : IsRanked abandon-task
abandon-ranked = rank-of abandon-task (λ s. refl) abandon-classes (λ layout a seat s rule fits. let few : _ = abandon-small s in omega (arith, few))
    (λ layout seat a b s t turn made goes. subst (λ (x : Abandon). cost x < cost s) (sym made.follows.0) (abandon-falls layout (view_of a seat) s made.fits made.planned))
    (λ layout seat a b s t turn made is quiet. absurd (both_ways true (sym is ∙ ap is_waits made.follows.1) refl))
    (λ s. refl) abandon-mild
