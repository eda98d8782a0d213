-- Each turn of an `Inject` lowers its cost, or leaves a failure fewer, and its class tells what it holds.
use Rattle.std.proofs.Common.{◌≡◌, ◌≢◌, ◌⊎◌, inl, inr, ℕ, ◌+◌, ◌<◌, ◌≤◌, Bool, true, false, cond, Some, None, refl, sym, ap, ◌∙◌, subst, arith}
use Rattle.std.proofs.lemmas.Bool.{both_ways}
use Rattle.std.proofs.lemmas.Option.{none-some, same_Some}
use Rattle.std.specs.declared.alloc.Global.{Global}
use Rattle.hwp_claim_frame.specs.hwp_geom.declared.Frame.{Frame}
use Rattle.hwp_claim_frame.specs.hwp_geom.declared.Layout.{Layout}
use Rattle.hwp_claim_frame.specs.hwp_geom.declared.Who.{Who}
use Rattle.hwp_claim_frame.specs.hwp_words.Stops.{is_stopped}
use Rattle.hwp_claim_frame.specs.hwp_core_rule.declared.SharedWord.TheVariants as places
use Rattle.hwp_claim_frame.specs.hwp_core_rule.declared.State.{State}
use Rattle.hwp_claim_frame.specs.hwp_core_rule.declared.Step.{Step}
use Rattle.hwp_claim_frame.specs.hwp_core_rule.declared.Step.TheVariants as steps
use Rattle.hwp_claim_frame.specs.hwp_core_rule.declared.View.{View}
use Rattle.hwp_claim_frame.specs.hwp_core_rule.Moves.{Move}
use Rattle.hwp_claim_frame.specs.hwp_core_rule.Lasting.{IsMild, LeavesPoison}
use Rattle.hwp_claim_frame.specs.hwp_core_rule.Words.{Words}
use Rattle.hwp_claim_frame.specs.hwp_core_rule.declared.Turn.{Turn}
use Rattle.hwp_claim_frame.specs.hwp_core_rule.declared.Turn.TheVariants.{Moved}
use Rattle.hwp_claim_frame.specs.hwp_core_rule.Boards.{view_of}
use Rattle.hwp_claim_frame.specs.hwp_core_rule.Calls.{logs, rec_of}
use Rattle.hwp_claim_frame.specs.hwp_core_rule.Classes.{TellsClass}
use Rattle.hwp_claim_frame.specs.hwp_core_rule.Ranks.{CostFalls, HasFailed, HasFrame, HasPage, IsRanked, Made, OtherHand, Pending, Quiet, failure_weight, failures_left, is_refused, is_waits, words_at}
use Rattle.hwp_claim_frame.proofs.of_hwp_core_rule.tasks.StepRanks.{part-made, pending-kept}
use Rattle.hwp_claim_frame.proofs.of_hwp_core.TaskTells.{no-frame, no-page}
use Rattle.hwp_claim.specs.declared.fail.Fail.{Fail}
use Rattle.hwp_claim.specs.declared.inject.Inject.{Inject}
use Rattle.hwp_claim.specs.declared.inject.InjectAt.{InjectAt}
use Rattle.hwp_claim.specs.declared.inject.InjectAt.TheVariants as at
use Rattle.hwp_claim.specs.Fails as fails
use Rattle.hwp_claim.specs.Injects.{FitsAt, Follows, FollowsAt, IsFailing, aborts_at, bare, bare_at, claims_at, class, class_at, cost, cost_at, loaded, plan, plan_at, put, put_at, task as inject-task}
use Rattle.hwp_claim.proofs.FailRank.{fail-lasting, fail-ranked, fail-small}
use Rattle.hwp_claim.proofs.FailTells.{fail-tells-class}

inject-class : (i : Inject) → (1 ≤ class i) × (class i ≤ 4)
inject-class i = which i.at
  where
    which : (x : InjectAt) → (1 ≤ class_at x) × (class_at x ≤ 4)
    which at.LoadStop = (omega arith, omega arith)
    which (at.Fail f) = fail-ranked.classes f
    which at.Stopped = (omega arith, omega arith)

-- the turns of a failure are few
pub inject-below : (i : Inject) (w : Words) → cost i w ≤ fails.fail_most
inject-below i w = which i.at
  where
    which : (x : InjectAt) → cost_at x w ≤ fails.fail_most
    which at.LoadStop = omega arith
    which (at.Fail f) = fail-small f w
    which at.Stopped = omega arith

-- what follows the stop word costs one turn at most, and claims no failure
after-stop : (recovery : Bool) (alloc : Global) (who : Who) (frame : Frame) (found : ℕ) (w : Words) → cost_at (loaded recovery alloc who frame found) w < 2
after-stop recovery alloc who frame found w = which (is_stopped found) recovery
  where
    which : (b c : Bool) → cost_at (cond b at.Stopped (at.Fail (fails.begin alloc who frame None false c))) w < 2
    which true c = omega arith
    which false true = omega arith
    which false false = omega arith

module _ {layout : Layout} {seat : ℕ} {a b : State} {s t : Inject} {turn : Turn} (made : Made inject-task layout seat a b s t turn) where
  abbrev w : Words
  w = words_at layout a

  abbrev now : Words
  now = words_at layout b

  -- a step of the failure
  fail-made : (f g : Fail) → IsFailing layout (view_of a seat) s.who s.frame f → fails.plan f ≡ Some made.step → Move layout seat (rec_of layout s.who made.step (logs (fails.put f)) made.found made.got) a b
      → fails.Follows (fails.bare f) made.found made.got g turn → Made fails.task layout seat a b f g turn
  fail-made f g has e move follows = part-made made fails.task f g has.own has.fail e move follows

  unmoved : is_waits turn ≡ true → turn ≡ Moved → ⊥
  unmoved waits is = both_ways (is_waits turn) (ap is_waits is) waits

  abbrev Goes : InjectAt → InjectAt → Type 0
  Goes x y = (cost_at y now < cost_at x w) ⊎ ((failures_left now < failures_left w) × (cost_at y now < cost_at x w + failure_weight))

  goes-at : (x y : InjectAt) → plan_at x ≡ Some made.step → FitsAt layout (view_of a seat) s.who s.frame x → Move layout seat (rec_of layout s.who made.step (logs (put_at x)) made.found made.got) a b
      → FollowsAt layout s.alloc s.who s.frame (bare_at x) made.found made.got y turn → is_waits turn ≡ false → Goes x y
  goes-at at.LoadStop y e has move next goes = inl (subst (λ (z : InjectAt). cost_at z now < 2) (sym next.0) (after-stop layout.recovery s.alloc s.who s.frame made.found now))
  goes-at (at.Fail f) y e has move next goes = elim (fail-ranked.falls layout seat a b f next.after turn (fail-made f next.after has e move next.follows) goes) [
    | inl less ↦ inl (subst (λ (z : InjectAt). cost_at z now < fails.cost f w) (sym next.next_is) less)
    | inr failed ↦ inr (failed.fewer, subst (λ (z : InjectAt). cost_at z now < fails.cost f w + failure_weight) (sym next.next_is) failed.bounded)
  ]
  goes-at at.Stopped y e has move next goes = absurd (none-some made.step e)

  falls : is_waits turn ≡ false → CostFalls inject-task layout a b s t ⊎ HasFailed inject-task layout a b s t
  falls goes = elim (goes-at s.at t.at made.planned made.fits.at made.move made.follows.1 goes) [
    | inl less ↦ inl less
    | inr failed ↦ inr (record { fewer = failed.0; bounded = failed.1 })
  ]

  waits-at : (x y : InjectAt) → plan_at x ≡ Some made.step → FitsAt layout (view_of a seat) s.who s.frame x → Move layout seat (rec_of layout s.who made.step (logs (put_at x)) made.found made.got) a b
      → FollowsAt layout s.alloc s.who s.frame (bare_at x) made.found made.got y turn → is_waits turn ≡ true → Quiet (class_at x) layout a seat → (cost_at y now < cost_at x w) ⊎ ((aborts_at y ≡ true) × OtherHand a seat)
  waits-at at.LoadStop y e has move next is quiet = absurd (unmoved is next.1)
  waits-at (at.Fail f) y e has move next is quiet = elim (fail-ranked.waits layout seat a b f next.after turn (fail-made f next.after has e move next.follows) is quiet) [
    | inl less ↦ inl (subst (λ (z : InjectAt). cost_at z now < fails.cost f w) (sym next.next_is) less)
    | inr gives ↦ inr (ap aborts_at next.next_is ∙ gives.0, gives.1)
  ]
  waits-at at.Stopped y e has move next is quiet = absurd (none-some made.step e)

  leaves-at : (x y : InjectAt) → plan_at x ≡ Some made.step → FitsAt layout (view_of a seat) s.who s.frame x → Move layout seat (rec_of layout s.who made.step (logs (put_at x)) made.found made.got) a b
      → FollowsAt layout s.alloc s.who s.frame (bare_at x) made.found made.got y turn → aborts_at x ≡ true → (plan_at y ≡ None) ⊎ (1 < class_at y)
  leaves-at at.LoadStop y e has move next gives = absurd (both_ways true (sym gives) refl)
  leaves-at (at.Fail f) y e has move next gives = elim (fail-ranked.leaves layout seat a b f next.after turn (fail-made f next.after has e move next.follows) gives) [
    | inl over ↦ inl (ap plan_at next.next_is ∙ over)
    | inr higher ↦ inr (subst (λ (z : InjectAt). 1 < class_at z) (sym next.next_is) higher)
  ]
  leaves-at at.Stopped y e has move next gives = absurd (none-some made.step e)

  owns-at : (x y : InjectAt) (frame : Frame) (cycle : ℕ) → plan_at x ≡ Some made.step → FitsAt layout (view_of a seat) s.who s.frame x → Move layout seat (rec_of layout s.who made.step (logs (put_at x)) made.found made.got) a b
      → FollowsAt layout s.alloc s.who s.frame (bare_at x) made.found made.got y turn → is_refused turn ≡ false → Pending now frame cycle → (claims_at y ≡ Some (frame, cycle)) ⊎ (Pending w frame cycle × (claims_at x ≢ Some (frame, cycle)))
  owns-at at.LoadStop y frame cycle e has move next going pending =
      inr (pending-kept made (subst IsMild (same_Some (steps.Load places.Stop) made.step e) tt) frame cycle pending, λ claimed. none-some (frame, cycle) claimed)
  owns-at (at.Fail f) y frame cycle e has move next going pending = elim (fail-ranked.owns layout seat a b f next.after turn frame cycle (fail-made f next.after has e move next.follows) going pending) [
    | inl claimed ↦ inl (ap claims_at next.next_is ∙ claimed)
    | inr other ↦ inr other
  ]
  owns-at at.Stopped y frame cycle e has move next going pending = absurd (none-some made.step e)

pub inject-ranked : IsRanked inject-task
inject-ranked = record {
  classes = inject-class;
  small = λ layout a seat s rule fits. let few : cost s (words_at layout a) ≤ fails.fail_most = inject-below s (words_at layout a) in omega (arith, few);
  falls = λ layout seat a b s t turn made goes. falls made goes;
  waits = λ layout seat a b s t turn made is quiet. waits-at made s.at t.at made.planned made.fits.at made.move made.follows.1 is quiet;
  leaves = λ layout seat a b s t turn made gives. leaves-at made s.at t.at made.planned made.fits.at made.move made.follows.1 gives;
  owns = λ layout seat a b s t turn frame cycle made going pending. owns-at made s.at t.at frame cycle made.planned made.fits.at made.move made.follows.1 going pending;
}

-- none of its steps takes a frame's poison back
pub inject-lasting : (i : Inject) (step : Step) → plan i ≡ Some step → LeavesPoison step
inject-lasting i step is = which i.at is
  where
    which : (x : InjectAt) → plan_at x ≡ Some step → LeavesPoison step
    which at.LoadStop e = subst LeavesPoison (same_Some (steps.Load places.Stop) step e) tt
    which (at.Fail f) e = fail-lasting f step e
    which at.Stopped e = absurd (none-some step e)

-- ---- what is held

frame-told : (layout : Layout) (view : View) (who : Who) (frame : Frame) (x : InjectAt) → FitsAt layout view who frame x → HasFrame view → (class_at x ≡ 1) × (plan_at x ≢ None)
frame-told layout view who frame at.LoadStop has some = absurd (no-frame view has.hand_is refl refl refl some)
frame-told layout view who frame (at.Fail f) has some = fail-tells-class.frame layout view f has.fail some
frame-told layout view who frame at.Stopped has some = absurd (no-frame view has.0.hand_is refl refl refl some)

page-told : (layout : Layout) (view : View) (who : Who) (frame : Frame) (x : InjectAt) → FitsAt layout view who frame x → HasPage view → (class_at x ≤ 2) × (plan_at x ≢ None)
page-told layout view who frame at.LoadStop has some = absurd (no-page view has.hand_is refl some)
page-told layout view who frame (at.Fail f) has some = fail-tells-class.page layout view f has.fail some
page-told layout view who frame at.Stopped has some = absurd (no-page view has.0.hand_is refl some)

claim-told : (layout : Layout) (view : View) (who : Who) (frame : Frame) (x : InjectAt) (of : Frame) (cycle : ℕ) → FitsAt layout view who frame x → claims_at x ≡ Some (of, cycle) → (class_at x ≤ 3) × (plan_at x ≢ None)
claim-told layout view who frame at.LoadStop of cycle has claimed = absurd (none-some (of, cycle) claimed)
claim-told layout view who frame (at.Fail f) of cycle has claimed = fail-tells-class.claim layout view f of cycle has.fail claimed
claim-told layout view who frame at.Stopped of cycle has claimed = absurd (none-some (of, cycle) claimed)

pub inject-tells : TellsClass inject-task
inject-tells = record {
  frame = λ layout view i fits some. frame-told layout view i.who i.frame i.at fits.at some;
  page = λ layout view i fits some. page-told layout view i.who i.frame i.at fits.at some;
  claim = λ layout view i frame cycle fits claimed. claim-told layout view i.who i.frame i.at frame cycle fits.at claimed;
}
