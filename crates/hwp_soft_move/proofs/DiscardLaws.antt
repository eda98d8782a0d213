-- The laws of `Discard`.
use Rattle.std.proofs.Common.{◌≡◌, ◌≢◌, ◌⊎◌, inl, inr, ℕ, ◌<◌, ◌≤◌, Bool, true, false, cond, [], ◌∷◌, Option, Some, None, is_none, slice_get, refl, sym, ap, ◌∙◌, subst, arith}
use Rattle.std.proofs.lemmas.Bool.{both_ways}
use Rattle.std.proofs.lemmas.Option.{none-some, same_Some}
use Rattle.hwp_claim_frame.specs.hwp_geom.declared.Frame.{Frame}
use Rattle.hwp_claim_frame.specs.hwp_geom.declared.Layout.{Layout}
use Rattle.hwp_claim_frame.specs.hwp_geom.declared.Who.{Who}
use Rattle.hwp_claim_frame.specs.hwp_page.History.{BodyValue}
use Rattle.hwp_claim_frame.specs.hwp_words.Frames.{cycle_of, is_poisoned}
use Rattle.hwp_claim_frame.specs.hwp_core_rule.declared.FrameLock.{FrameLock}
use Rattle.hwp_claim_frame.specs.hwp_core_rule.declared.Log.{Log}
use Rattle.hwp_claim_frame.specs.hwp_core_rule.declared.State.{State}
use Rattle.hwp_claim_frame.specs.hwp_core_rule.declared.Step.{Step}
use Rattle.hwp_claim_frame.specs.hwp_core_rule.declared.Step.TheVariants as steps
use Rattle.hwp_claim_frame.specs.hwp_core_rule.declared.View.{View}
use Rattle.hwp_claim_frame.specs.hwp_core_rule.Lasting.{IsMild, LeavesPoison}
use Rattle.hwp_claim_frame.specs.hwp_core_rule.Views.{is_lock_of, less_refs, without}
use Rattle.hwp_claim_frame.specs.hwp_core_rule.Words.{Words}
use Rattle.hwp_claim_frame.proofs.of_hwp_core_rule.Lists.{same-number}
use Rattle.hwp_claim_frame.specs.hwp_core_rule.declared.Turn.{Turn}
use Rattle.hwp_claim_frame.specs.hwp_core_rule.declared.Turn.TheVariants.{Moved}
use Rattle.hwp_claim_frame.specs.hwp_core_rule.Boards.{view_of}
use Rattle.hwp_claim_frame.specs.hwp_core_rule.Calls.{CanMake, IsOnTurn, Steps, logs}
use Rattle.hwp_claim_frame.specs.hwp_core_rule.Hands.{Hand, hand_of, empty}
use Rattle.hwp_claim_frame.specs.hwp_core_rule.Ranks.{IsRanked, Made, Pending, is_waits, words_at}
use Rattle.hwp_claim_frame.proofs.of_hwp_core_rule.tasks.Failures.{mild-leaves}
use Rattle.hwp_claim_frame.proofs.of_hwp_core_rule.tasks.StepRanks.{pending-kept}
use Rattle.hwp_claim_frame.proofs.of_hwp_core_rule.tasks.StepLeaves.{on-turn-after, hand-planned, steps-planned, can-make}
use Rattle.hwp_claim_frame.proofs.of_hwp_core_rule.tasks.SightKeeps.{saw-stays}
use Rattle.hwp_claim_frame.specs.hwp_core.declared.release.Release.{Release}
use Rattle.hwp_claim_frame.specs.hwp_core.declared.release.ReleaseAt.{ReleaseAt}
use Rattle.hwp_claim_frame.specs.hwp_core.declared.release.ReleaseAt.TheVariants as release_at
use Rattle.hwp_claim_frame.specs.hwp_core.declared.unlock.Unlock.{Unlock}
use Rattle.hwp_claim_frame.specs.hwp_core.declared.unlock.UnlockAt.{UnlockAt}
use Rattle.hwp_claim_frame.specs.hwp_core.declared.unlock.UnlockAt.TheVariants as unlock_at
use Rattle.hwp_claim_frame.specs.hwp_core.Releases as releases
use Rattle.hwp_claim_frame.specs.hwp_core.Unlocks as unlocks
use Rattle.hwp_claim_frame.specs.hwp_core.Unlocks.{empty_frame}
use Rattle.hwp_claim_frame.proofs.of_hwp_core.TaskTells.{Tells, frame-tells, unlock-tells}
use Rattle.hwp_claim_frame.proofs.of_hwp_core.UnlockLaws as unlocking
use Rattle.hwp_claim_frame.specs.Claims.{SawPoison}
use Rattle.hwp_claim_frame.specs.Meets.{HoldsFree}
use Rattle.hwp_claim_frame.proofs.ClaimLaws.{has-marked, mark-stays, owes-count, retires, saw-poison}
use Rattle.hwp_claim_frame.proofs.PoisonLaws.{poison-owns}
use Rattle.hwp_claim_frame.proofs.ClaimKeeps.{Keeps, drops-now, owned-by, retired}
use Rattle.hwp_soft_move.specs.declared.discard.Discard.{Discard}
use Rattle.hwp_soft_move.specs.declared.discard.DiscardAt.{DiscardAt}
use Rattle.hwp_soft_move.specs.declared.discard.DiscardAt.TheVariants as at
use Rattle.hwp_soft_move.specs.Discards.{plan, plan_at, put, put_at, bare, bare_at, poisoned, after_unlock, next, next_at, IsPoisoned, Fits, FitsAt, class, class_at, claims, claims_at, cost, cost_at, task as discard-task}

pub can : (layout : Layout) (view : View) (d : Discard) (step : Step) → Fits layout view d → plan d ≡ Some step → CanMake layout d.who step (put d) view
can layout view d step fits is = which d.at fits.at is
  where
    which : (x : DiscardAt) → FitsAt layout view d.who d.frame x → plan_at d.frame x ≡ Some step → CanMake layout d.who step (put_at x) view
    which (at.Poison used) has e = can-make fits.on_turn e fits.frame tt
    which (at.Count cycle) has e = can-make fits.on_turn e tt has.2
    which (at.Retire cycle) has e = can-make fits.on_turn e fits.frame (retires view d.frame has.0)
    which (at.Unlock u) has e = subst (λ (w : Who). CanMake layout w step (unlocks.put u) view) has.0.own (unlocking.can layout view u step has.0.unlock e)
    which (at.Over cycle) has e = absurd (none-some step e)

-- ---- what a step leaves

poison-saw : {layout : Layout} {who by : Who} {step : Step} {put : Option Log} {old new : View} {found : ℕ} {got : Option BodyValue} {frame : Frame} → Steps layout by step put old new found got → SawPoison old who frame → SawPoison new who frame
poison-saw made has = record { word = has.word; poisoned = has.poisoned; saw = saw-stays made has.saw }

poisoned-stays : {layout : Layout} {who : Who} {step : Step} {old new : View} {found : ℕ} {got : Option BodyValue} (frame : Frame) → Steps layout who step None old new found got → new.marks ≡ old.marks → (cycle : Option ℕ) → IsPoisoned old who frame cycle → IsPoisoned new who frame cycle
poisoned-stays frame made same (Some cycle) has = mark-stays _ _ same has
poisoned-stays frame made same None has = poison-saw made has

abbrev locked-by : Frame → Bool → FrameLock
locked-by frame poisoned = record { frame = frame; owner = 0; handled = false; poisoned = poisoned }

module _ {layout : Layout} {old new : View} (d : Discard) {found : ℕ} {got : Option BodyValue} (fits : Fits layout old d) (on : IsOnTurn new d.who) where
  after-poison : (used : Bool) → HoldsFree old d.frame None → Steps layout d.who (steps.Poison d.frame false) None old new found got → FitsAt layout new d.who d.frame (poisoned d.who d.frame used found)
  after-poison used has made = by (is_poisoned found) used refl
    where
      hand : hand_of new ≡ empty_frame d.frame false true
      hand = hand-planned made refl has.hand_is ∙ ap (λ (b : Bool). record (empty_frame d.frame false true) { locks = cond b (locked-by d.frame true) (locked-by d.frame has.poisoned) ∷ [] }) (same-number d.frame.0 d.frame.0 refl)

      by : (p u : Bool) → is_poisoned found ≡ p → FitsAt layout new d.who d.frame (cond p (cond u (at.Unlock (unlocks.begin d.who d.frame None)) (at.Retire None)) (at.Count (cycle_of found)))
      by true true set = (
        record {
          unlock = record { on_turn = on; at = record { handled = false; poisoned = true; hand_is = hand; within = fits.frame } };
          own = refl;
          given = refl;
          under_way = refl;
        },
        saw-poison d.frame false made set,
      )
      by true false set = (hand, saw-poison d.frame false made set)
      by false u clear = (hand, has-marked d.frame false made clear, owes-count d.frame false made clear)

let-go : (frame : Frame) → record (empty_frame frame false true) { locks = without (is_lock_of frame) (empty_frame frame false true).locks; refs = less_refs frame 1 (empty_frame frame false true).refs } ≡ empty
let-go frame = let same = same-number frame.0 frame.0 refl in grind arith

pub gives-none : (u : Unlock) (found : ℕ) (x : UnlockAt) → unlocks.put_at (unlocks.next_at u.who (unlocks.bare_at x) found) ≡ None
gives-none u found (unlock_at.UnlockFrame frame body) = refl
gives-none u found (unlock_at.Release r) = by (releases.next r found) (releases.next r found).at
  where
    by : (r : Release) (x : ReleaseAt) → unlocks.put_at (unlocks.after_release_at r x) ≡ None
    by r release_at.Put = refl
    by r (release_at.Give word) = refl
    by r (release_at.Unreserve word) = refl
    by r (release_at.Adopt word) = refl
    by r (release_at.Retire word) = refl
    by r (release_at.Back word) = refl
gives-none u found unlock_at.Over = refl

after-unlock-is : {layout : Layout} {new : View} (d : Discard) (u : Unlock) → unlocks.Fits layout new u → u.who ≡ d.who → unlocks.put u ≡ None → SawPoison new d.who d.frame → FitsAt layout new d.who d.frame (after_unlock u)
after-unlock-is {layout} {new} d u fit own given saw = by (is_none (unlocks.plan u)) refl
  where
    by : (b : Bool) → is_none (unlocks.plan u) ≡ b → FitsAt layout new d.who d.frame (cond b (at.Over None) (at.Unlock u))
    by true is = (unlocking.let-go layout new u fit is, saw)
    by false is = (record { unlock = fit; own = own; given = given; under_way = is }, saw)

-- what follows a step fits again
pub moved : (layout : Layout) (old new : View) (d : Discard) (step : Step) (found : ℕ) (got : Option BodyValue) → Fits layout old d → plan d ≡ Some step → Steps layout d.who step (logs (put d)) old new found got → Fits layout new (next (bare d) found)
moved layout old new d step found got fits is made = record { on_turn = on; frame = fits.frame; at = which d.at fits.at is made }
  where
    on : IsOnTurn new d.who
    on = on-turn-after fits.on_turn made

    which : (x : DiscardAt) → FitsAt layout old d.who d.frame x → plan_at d.frame x ≡ Some step → Steps layout d.who step (logs (put_at x)) old new found got → FitsAt layout new d.who d.frame (next_at d.who d.frame (bare_at x) found)
    which (at.Poison used) has e made = after-poison d fits on used has (steps-planned e made)
    which (at.Count cycle) has e made = (hand-planned made e has.0, mark-stays old new (ap (λ (v : View). v.marks) (steps-planned e made).told.next) has.1)
    which (at.Retire cycle) has e made = (hand-planned made e has.0 ∙ let-go d.frame, poisoned-stays d.frame (steps-planned e made) (ap (λ (v : View). v.marks) (steps-planned e made).told.next) cycle has.1)
    which (at.Unlock u) has e made = after-unlock-is d (unlocks.next (unlocks.bare u) found)
        (unlocking.moved layout old new u step found got has.0.unlock e (subst (λ (w : Who). Steps layout w step (logs (unlocks.put u)) old new found got) (sym has.0.own) made))
        has.0.own (gives-none u found u.at) (poison-saw made has.1)
    which (at.Over cycle) has e made = absurd (none-some step e)

pub stays : (layout : Layout) (old new : View) (d : Discard) (step : Step) (found : ℕ) (got : Option BodyValue) → Fits layout old d → plan d ≡ Some step → Steps layout d.who step (logs (put d)) old new found got
    → Unit {0} × ((after : Discard) (result : Turn) → (after ≡ next (bare d) found) × (result ≡ Moved) → Fits layout new after × (after.who.cpu ≡ d.who.cpu))
stays layout old new d step found got fits is made = (tt, λ after result follows. (subst (Fits layout new) (sym follows.0) (moved layout old new d step found got fits is made), ap (λ (x : Discard). x.who.cpu) follows.0))

-- ---- the law of the rank

unlock-cost : (u : Unlock) (w : Words) → cost_at (after_unlock u) w ≤ unlocks.cost u w
unlock-cost u w = by (is_none (unlocks.plan u))
  where
    by : (b : Bool) → cost_at (cond b (at.Over None) (at.Unlock u)) w ≤ unlocks.cost u w
    by true = omega arith
    by false = omega arith

pub discard-falls : (w now : Words) (d : Discard) (step : Step) (found : ℕ) → plan d ≡ Some step → cost (next (bare d) found) now < cost d w
discard-falls w now d step found is = which d.at is
  where
    which : (x : DiscardAt) → plan_at d.frame x ≡ Some step → cost_at (next_at d.who d.frame (bare_at x) found) now < cost_at x w
    which (at.Poison used) e = by (is_poisoned found) used
      where
        by : (p u : Bool) → cost_at (cond p (cond u (at.Unlock (unlocks.begin d.who d.frame None)) (at.Retire None)) (at.Count (cycle_of found))) now < 5
        by true true = omega arith
        by true false = omega arith
        by false u = omega arith
    which (at.Count cycle) e = omega arith
    which (at.Retire cycle) e = omega arith
    which (at.Unlock u) e =
        let less : unlocks.cost (unlocks.next (unlocks.bare u) found) now < unlocks.cost u w = unlocking.unlock-falls w now u step found e in
        let ends : cost_at (after_unlock (unlocks.next (unlocks.bare u) found)) now ≤ unlocks.cost (unlocks.next (unlocks.bare u) found) now = unlock-cost (unlocks.next (unlocks.bare u) found) now in
        omega (arith, less, ends)
    which (at.Over cycle) e = absurd (none-some step e)

pub discard-small : (w : Words) (d : Discard) → cost d w ≤ 5
discard-small w d = which d.at
  where
    which : (x : DiscardAt) → cost_at x w ≤ 5
    which (at.Poison used) = omega arith
    which (at.Count cycle) = omega arith
    which (at.Retire cycle) = omega arith
    which (at.Unlock u) = let few : unlocks.cost u w ≤ 4 = unlocking.unlock-small w u in omega (arith, few)
    which (at.Over cycle) = omega arith

pub discard-class : (d : Discard) → (1 ≤ class d) × (class d ≤ 4)
discard-class d = which d.at
  where
    which : (x : DiscardAt) → (1 ≤ class_at x) × (class_at x ≤ 4)
    which (at.Poison used) = (omega arith, omega arith)
    which (at.Count cycle) = (omega arith, omega arith)
    which (at.Retire cycle) = (omega arith, omega arith)
    which (at.Unlock u) = unlocking.unlock-class u
    which (at.Over cycle) = (omega arith, omega arith)

-- the failure of the frame is the task's from its poison on, until the frame is out of use
module _ {layout : Layout} {seat : ℕ} {a b : State} {s t : Discard} {turned : Turn} (made : Made discard-task layout seat a b s t turned) where
  abbrev the-lock : FrameLock
  the-lock = locked-by s.frame true

  mild-planned : {other : Step} → Some other ≡ Some made.step → IsMild other → IsMild made.step
  mild-planned {other} e mild = subst IsMild (same_Some other made.step e) mild

  pub discard-owns : (frame : Frame) (cycle : ℕ) → Pending (words_at layout b) frame cycle → (claims t ≡ Some (frame, cycle)) ⊎ (Pending (words_at layout a) frame cycle × (claims s ≢ Some (frame, cycle)))
  discard-owns frame cycle pending = subst (λ (x : Discard). (claims x ≡ Some (frame, cycle)) ⊎ (Pending (words_at layout a) frame cycle × (claims s ≢ Some (frame, cycle)))) (sym made.follows.0) (which s.at made.fits.at made.planned)
    where
      kept : (old new : Option (Frame × ℕ)) → IsMild made.step → Keeps (words_at layout a) (words_at layout b) old new → (new ≡ Some (frame, cycle)) ⊎ (Pending (words_at layout a) frame cycle × (old ≢ Some (frame, cycle)))
      kept old new mild keeps = owned-by (words_at layout a) (words_at layout b) old new frame cycle keeps (pending-kept made mild frame cycle pending) pending

      which : (x : DiscardAt) → FitsAt layout (view_of a seat) s.who s.frame x → plan_at s.frame x ≡ Some made.step
          → (claims_at s.frame (next_at s.who s.frame (bare_at x) made.found) ≡ Some (frame, cycle)) ⊎ (Pending (words_at layout a) frame cycle × (claims_at s.frame x ≢ Some (frame, cycle)))
      which (at.Poison used) has e = elim (poison-owns made s.frame false made.fits.frame e frame cycle pending) [
        | inl own ↦ inl (ap (λ (c : Bool). claims_at s.frame (cond c (cond used (at.Unlock (unlocks.begin s.who s.frame None)) (at.Retire None)) (at.Count (cycle_of made.found)))) own.0 ∙ own.1)
        | inr before ↦ inr (before, λ is. none-some (frame, cycle) is)
      ]
      which (at.Count own) has e = kept (Some (s.frame, own)) (Some (s.frame, own)) (mild-planned e tt) (inr (inl refl))
      which (at.Retire (Some own)) has e = kept (Some (s.frame, own)) None (mild-planned e tt) (drops-now (words_at layout a) (words_at layout b) None s.frame own (retired made s.frame made.fits.frame e the-lock refl refl (ap (λ (h : Hand). slice_get h.locks 0) has.0) own))
      which (at.Retire None) has e = kept None None (mild-planned e tt) (inl refl)
      which (at.Unlock u) has e = kept None _ (unlocking.mild u made.step e) (inl refl)
      which (at.Over own) has e = absurd (none-some made.step e)

pub discard-ranked : IsRanked discard-task
discard-ranked = record {
  classes = discard-class;
  small = λ layout a seat s rule fits. let few : cost s (words_at layout a) ≤ 5 = discard-small (words_at layout a) s in omega (arith, few);
  falls = λ layout seat a b s t turn made goes. inl (subst (λ (x : Discard). cost x (words_at layout b) < cost s (words_at layout a)) (sym made.follows.0) (discard-falls (words_at layout a) (words_at layout b) s made.step made.found made.planned));
  waits = λ layout seat a b s t turn made is quiet. absurd (both_ways true (sym is ∙ ap is_waits made.follows.1) refl);
  leaves = λ layout seat a b s t turn made aborts. absurd (both_ways true (sym aborts) refl);
  owns = λ layout seat a b s t turn frame cycle made going pending. discard-owns made frame cycle pending;
}

-- ---- what the parent gets

-- none of its steps takes a frame's poison back
pub discard-lasting : (d : Discard) (step : Step) → plan d ≡ Some step → LeavesPoison step
discard-lasting d step is = which d.at is
  where
    which : (x : DiscardAt) → plan_at d.frame x ≡ Some step → LeavesPoison step
    which (at.Poison used) e = subst LeavesPoison (same_Some (steps.Poison d.frame false) step e) tt
    which (at.Count cycle) e = subst LeavesPoison (same_Some (steps.CountPoison false) step e) tt
    which (at.Retire cycle) e = subst LeavesPoison (same_Some (steps.Retire d.frame) step e) tt
    which (at.Unlock u) e = mild-leaves step (unlocking.mild u step e)
    which (at.Over cycle) e = absurd (none-some step e)

pub discard-tells : (layout : Layout) (view : View) (d : Discard) → Fits layout view d → is_none (plan d) ≡ false → Tells view (class d)
discard-tells layout view d fits on = which d.at fits.at on
  where
    which : (x : DiscardAt) → FitsAt layout view d.who d.frame x → is_none (plan_at d.frame x) ≡ false → Tells view (class_at x)
    which (at.Poison used) has on = frame-tells view
    which (at.Count cycle) has on = frame-tells view
    which (at.Retire cycle) has on = frame-tells view
    which (at.Unlock u) has on = unlock-tells layout view u has.0.unlock has.0.under_way
    which (at.Over cycle) has on = absurd (both_ways true on refl)
