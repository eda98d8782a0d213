-- Each turn of a `Handler` lowers its cost, or leaves a failure fewer, and its class tells what it holds.
use Rattle.std.proofs.Common.{◌≡◌, ◌≢◌, ◌⊎◌, inl, inr, ℕ, ◌+◌, ◌<◌, ◌≤◌, ◌==◌, Bool, true, false, cond, List, [], ◌∷◌, ◌++◌, Some, None, length, map, refl, sym, ap, ◌∙◌, subst, arith}
use Rattle.std.proofs.lemmas.Bool.{both_ways}
use Rattle.std.proofs.lemmas.List.{length-append}
use Rattle.std.proofs.lemmas.Option.{none-some, same_Some}
use Rattle.hwp_banks.specs.hwp_geom.declared.Frame.{Frame}
use Rattle.hwp_banks.specs.hwp_geom.declared.Layout.{Layout}
use Rattle.hwp_claim_frame.specs.hwp_words.Stops.{is_stopped}
use Rattle.hwp_claim_frame.specs.hwp_core_rule.declared.State.{State}
use Rattle.hwp_claim_frame.specs.hwp_core_rule.declared.Step.{Step}
use Rattle.hwp_claim_frame.specs.hwp_core_rule.declared.Step.TheVariants as steps
use Rattle.hwp_claim_frame.specs.hwp_core_rule.declared.View.{View}
use Rattle.hwp_claim_frame.specs.hwp_core_rule.Moves.{Move}
use Rattle.hwp_claim_frame.specs.hwp_core_rule.Rule.{Holds}
use Rattle.hwp_claim_frame.specs.hwp_core_rule.Lasting.{IsMild, LeavesPoison}
use Rattle.hwp_claim_frame.specs.hwp_core_rule.Words.{Words}
use Rattle.hwp_claim_frame.specs.hwp_core_rule.declared.Turn.{Turn}
use Rattle.hwp_claim_frame.specs.hwp_core_rule.declared.Turn.TheVariants.{Moved, Changed, NoMemory}
use Rattle.hwp_claim_frame.specs.hwp_core_rule.Boards.{view_of}
use Rattle.hwp_claim_frame.specs.hwp_core_rule.Calls.{logs, rec_of}
use Rattle.hwp_claim_frame.specs.hwp_core_rule.Classes.{TellsClass}
use Rattle.hwp_claim_frame.specs.hwp_core_rule.Ranks.{CostFalls, HasFailed, HasFrame, HasPage, IsRanked, Made, OtherHand, Pending, Quiet, failure_weight, failures_left, is_refused, is_waits, top, words_at}
use Rattle.hwp_claim_frame.proofs.of_hwp_core_rule.tasks.StepRanks.{part-made, pending-kept}
use Rattle.hwp_claim_frame.proofs.of_hwp_core.TaskTells.{no-frame, no-page}
use Rattle.hwp_claim.specs.declared.fail.Fail.{Fail}
use Rattle.hwp_claim.specs.declared.fail.FailAt.{FailAt}
use Rattle.hwp_claim.specs.declared.fail.FailAt.TheVariants as fail_at
use Rattle.hwp_claim.specs.declared.fail.FailAnswer.{FailAnswer}
use Rattle.hwp_claim.specs.Fails as fails
use Rattle.hwp_claim.proofs.FailRank.{fail-lasting, fail-ranked, fail-small}
use Rattle.hwp_claim.proofs.FailTells.{fail-tells-class}
use Rattle.hwp_claim_frame.specs.Claims.{stop_turn}
use Rattle.hwp_claim.specs.Fits.{Fits, FitsAt, events_of, task as handler-task}
use Rattle.hwp_claim.specs.Handlers.{Follows, FollowsAt, aborts, aborts_at, after_fail, after_fail_by, after_stop, bare, bare_at, claims, claims_at, class, class_at, cost, cost_with, ended_by, plan, plan_at, put_at}
use Rattle.hwp_claim.specs.Told.{told_by}
use Rattle.hwp_claim.specs.declared.handler.Handler.{Handler}
use Rattle.hwp_claim.specs.declared.handler.HandlerAt.{HandlerAt}
use Rattle.hwp_claim.specs.declared.handler.HandlerAt.TheVariants as at
use Rattle.hwp_claim.specs.declared.told.Held.{Held}
use Rattle.hwp_claim.specs.declared.told.EventOutcome.{EventOutcome}
use Rattle.hwp_claim.proofs.EventTells.{event_in, tell-cost, tell-idle}

handler-class : (h : Handler) → (1 ≤ class h) × (class h ≤ 4)
handler-class h = which h.at
  where
    which : (x : HandlerAt) → (1 ≤ class_at x) × (class_at x ≤ 4)
    which at.Stop = (omega arith, omega arith)
    which (at.Fail f) = fail-ranked.classes f
    which at.GaveUp = (omega arith, omega arith)
    which (at.Over stopped) = (omega arith, omega arith)

handler-small : (layout : Layout) (a : State) (seat : ℕ) (h : Handler) → Holds layout a → Fits layout (view_of a seat) h → cost h (words_at layout a) < top
handler-small layout a seat h rule fits =
    let all : length (events_of h.events) ≡ length (map event_in h.events.told) + length h.events.left = length-append (map event_in h.events.told) h.events.left in
    let few : length (events_of h.events) ≤ 3 = fits.found.few in which h.at (omega (arith, all, few))
  where
    which : (x : HandlerAt) → length h.events.left ≤ 3 → cost_with (length h.events.left) x (words_at layout a) < top
    which at.Stop few = omega arith
    which (at.Fail f) few = let small : fails.cost f (words_at layout a) ≤ fails.fail_most = fail-small f (words_at layout a) in omega (arith, few, small)
    which at.GaveUp few = omega arith
    which (at.Over stopped) few = omega arith

-- ---- what a failure goes on as

-- it goes on, or it ended and what follows claims nothing
record IsLeft (h : Handler) (f : Fail) (after : Handler) : Type 0 where
  cost_is : (w : Words) → cost after w ≤ fails.cost f w + length h.events.left
  goes : (after ≡ record h { at = at.Fail f }) ⊎ ((fails.claims_of f ≡ None) × (fails.aborts f ≡ false) × (class after ≡ 4) × (claims after ≡ None))

module _ (layout : Layout) (h : Handler) (f : Fail) where
  is-left : IsLeft h f (after_fail layout h f)
  is-left = which f.at refl
    where
      same : IsLeft h f (record h { at = at.Fail f })
      same = record { cost_is = λ w. omega arith; goes = inl refl }

      by-left : (answer : FailAnswer) → f.at ≡ fail_at.Over answer → (l : List Held) → h.events.left ≡ l → IsLeft h f (ended_by layout (record h { at = at.Fail f }) answer l)
      by-left answer over [] is = same
      by-left answer over (held ∷ left) is =
          let told : List EventOutcome = h.events.told ++ told_by held answer ∷ [] in
          let idle = tell-idle layout h.alloc h.who h.thread h.stops left told in record {
            cost_is = λ w.
                let few : cost (ended_by layout (record h { at = at.Fail f }) answer (held ∷ left)) w ≤ length left + 1 = tell-cost layout h.alloc h.who h.thread h.stops left told w in
                let one : length h.events.left ≡ length (held ∷ left) = ap (λ (l : List Held). length l) is in omega (arith, few, one);
            goes = inr (ap (fails.claims_at f.frame) over, ap fails.aborts_at over, idle.class, idle.claims);
          }

      which : (x : FailAt) → f.at ≡ x → IsLeft h f (after_fail_by layout (record h { at = at.Fail f }) (fails.answer_at x))
      which (fail_at.Over answer) over = by-left answer over h.events.left refl
      which (fail_at.Claim c) going = same
      which (fail_at.Act cycle a) going = same

-- ---- the stop

stop-cost : (found n : ℕ) (w : Words) → cost_with n (after_stop found) w < 1
stop-cost found n w = which (found == 0) (is_stopped found)
  where
    which : (b c : Bool) → cost_with n (cond b (at.Over true) (cond c (at.Over true) at.GaveUp)) w < 1
    which true c = omega arith
    which false true = omega arith
    which false false = omega arith

stop-goes : (found : ℕ) → is_waits (stop_turn found) ≡ false
stop-goes found = which (found == 0) (is_stopped found)
  where
    which : (b c : Bool) → is_waits (cond b Moved (cond c (Changed found) NoMemory)) ≡ false
    which true c = refl
    which false true = refl
    which false false = refl

-- ---- each turn

module _ {layout : Layout} {seat : ℕ} {a b : State} {s t : Handler} {turn : Turn} (made : Made handler-task layout seat a b s t turn) where
  abbrev w : Words
  w = words_at layout a

  abbrev now : Words
  now = words_at layout b

  abbrev n : ℕ
  n = length s.events.left

  abbrev Has : HandlerAt → Type 0
  Has x = FitsAt layout (view_of a seat) s.who s.thread s.stops s.events x

  abbrev Moves : HandlerAt → Type 0
  Moves x = Move layout seat (rec_of layout s.who made.step (logs (put_at x)) made.found made.got) a b

  abbrev Next : HandlerAt → Type 0
  Next x = FollowsAt layout (bare s) (bare_at x) made.found made.got t turn

  -- a step of the failure
  fail-made : (f g : Fail) → Has (at.Fail f) → fails.plan f ≡ Some made.step → Moves (at.Fail f) → fails.Follows (fails.bare f) made.found made.got g turn → Made fails.task layout seat a b f g turn
  fail-made f g has e move follows = part-made made fails.task f g has.own has.fail e move follows

  -- what follows it
  left : (g : Fail) → t ≡ after_fail layout (bare s) g → IsLeft s g t
  left g is = subst (IsLeft s g) (sym is) (is-left layout s g)

  abbrev Goes : HandlerAt → Type 0
  Goes x = (cost t now < cost_with n x w) ⊎ ((failures_left now < failures_left w) × (cost t now < cost_with n x w + failure_weight))

  goes-at : (x : HandlerAt) → plan_at s.who x ≡ Some made.step → Has x → Moves x → Next x → is_waits turn ≡ false → Goes x
  goes-at at.Stop e has move next goes = inl (subst (λ (z : Handler). cost z now < 1) (sym next.0) (stop-cost made.found n now))
  goes-at (at.Fail f) e has move next goes = let few : cost t now ≤ fails.cost next.fail now + n = (left next.fail next.next_is).cost_is now in
      elim (fail-ranked.falls layout seat a b f next.fail turn (fail-made f next.fail has e move next.follows) goes) [
        | inl falls ↦ let less : fails.cost next.fail now < fails.cost f w = falls in inl (omega (arith, few, less))
        | inr failed ↦ let less : fails.cost next.fail now < fails.cost f w + failure_weight = failed.bounded in inr (failed.fewer, omega (arith, few, less))
      ]
  goes-at at.GaveUp e has move next goes = absurd (none-some made.step e)
  goes-at (at.Over stopped) e has move next goes = absurd (none-some made.step e)

  falls : is_waits turn ≡ false → CostFalls handler-task layout a b s t ⊎ HasFailed handler-task layout a b s t
  falls goes = elim (goes-at s.at made.planned made.fits.at made.move made.follows goes) [
    | inl less ↦ inl less
    | inr failed ↦ inr (record { fewer = failed.0; bounded = failed.1 })
  ]

  waits-at : (x : HandlerAt) → plan_at s.who x ≡ Some made.step → Has x → Moves x → Next x → is_waits turn ≡ true → Quiet (class_at x) layout a seat → (cost t now < cost_with n x w) ⊎ ((aborts t ≡ true) × OtherHand a seat)
  waits-at at.Stop e has move next is quiet = absurd (both_ways (is_waits turn) (ap is_waits next.1 ∙ stop-goes made.found) is)
  waits-at (at.Fail f) e has move next is quiet = let rest = left next.fail next.next_is in let few : cost t now ≤ fails.cost next.fail now + n = rest.cost_is now in
      elim (fail-ranked.waits layout seat a b f next.fail turn (fail-made f next.fail has e move next.follows) is quiet) [
        | inl falls ↦ let less : fails.cost next.fail now < fails.cost f w = falls in inl (omega (arith, few, less))
        | inr gives ↦ elim rest.goes [
          | inl on ↦ inr (ap aborts on ∙ gives.0, gives.1)
          | inr ended ↦ absurd (both_ways (fails.aborts next.fail) ended.1 gives.0)
        ]
      ]
  waits-at at.GaveUp e has move next is quiet = absurd (none-some made.step e)
  waits-at (at.Over stopped) e has move next is quiet = absurd (none-some made.step e)

  leaves-at : (x : HandlerAt) → plan_at s.who x ≡ Some made.step → Has x → Moves x → Next x → aborts_at x ≡ true → (plan t ≡ None) ⊎ (1 < class t)
  leaves-at (at.Fail f) e has move next gives = elim (left next.fail next.next_is).goes [
    | inl on ↦ elim (fail-ranked.leaves layout seat a b f next.fail turn (fail-made f next.fail has e move next.follows) gives) [
      | inl over ↦ inl (ap plan on ∙ over)
      | inr higher ↦ inr (subst (λ (z : Handler). 1 < class z) (sym on) higher)
    ]
    | inr ended ↦ let four : class t ≡ 4 = ended.2 in inr (omega (arith, four))
  ]
  leaves-at at.Stop e has move next gives = absurd (both_ways true (sym gives) refl)
  leaves-at at.GaveUp e has move next gives = absurd (none-some made.step e)
  leaves-at (at.Over stopped) e has move next gives = absurd (none-some made.step e)

  owns-at : (x : HandlerAt) (frame : Frame) (cycle : ℕ) → plan_at s.who x ≡ Some made.step → Has x → Moves x → Next x → is_refused turn ≡ false → Pending now frame cycle
      → (claims t ≡ Some (frame, cycle)) ⊎ (Pending w frame cycle × (claims_at x ≢ Some (frame, cycle)))
  owns-at at.Stop frame cycle e has move next going pending =
      inr (pending-kept made (subst IsMild (same_Some (steps.Stop s.who.cpu) made.step e) tt) frame cycle pending, λ claimed. none-some (frame, cycle) claimed)
  owns-at (at.Fail f) frame cycle e has move next going pending = elim (fail-ranked.owns layout seat a b f next.fail turn frame cycle (fail-made f next.fail has e move next.follows) going pending) [
    | inl claimed ↦ elim (left next.fail next.next_is).goes [
      | inl on ↦ inl (ap claims on ∙ claimed)
      | inr ended ↦ absurd (none-some (frame, cycle) (sym ended.0 ∙ claimed))
    ]
    | inr other ↦ inr other
  ]
  owns-at at.GaveUp frame cycle e has move next going pending = absurd (none-some made.step e)
  owns-at (at.Over stopped) frame cycle e has move next going pending = absurd (none-some made.step e)

pub handler-ranked : IsRanked handler-task
handler-ranked = record {
  classes = handler-class;
  small = handler-small;
  falls = λ layout seat a b s t turn made goes. falls made goes;
  waits = λ layout seat a b s t turn made is quiet. waits-at made s.at made.planned made.fits.at made.move made.follows is quiet;
  leaves = λ layout seat a b s t turn made gives. leaves-at made s.at made.planned made.fits.at made.move made.follows gives;
  owns = λ layout seat a b s t turn frame cycle made going pending. owns-at made s.at frame cycle made.planned made.fits.at made.move made.follows going pending;
}

-- ---- what is held

module _ (layout : Layout) (view : View) (h : Handler) where
  abbrev Fit : HandlerAt → Type 0
  Fit x = FitsAt layout view h.who h.thread h.stops h.events x

  frame-told : (x : HandlerAt) → Fit x → HasFrame view → (class_at x ≡ 1) × (plan_at h.who x ≢ None)
  frame-told at.Stop has some = absurd (no-frame view has.rest.hand_is refl refl refl some)
  frame-told (at.Fail f) has some = fail-tells-class.frame layout view f has.fail some
  frame-told at.GaveUp has some = absurd (no-frame view has.hand_is refl refl refl some)
  frame-told (at.Over stopped) has some = absurd (no-frame view has.0.rest.hand_is refl refl refl some)

  page-told : (x : HandlerAt) → Fit x → HasPage view → (class_at x ≤ 2) × (plan_at h.who x ≢ None)
  page-told at.Stop has some = absurd (no-page view has.rest.hand_is refl some)
  page-told (at.Fail f) has some = fail-tells-class.page layout view f has.fail some
  page-told at.GaveUp has some = absurd (no-page view has.hand_is refl some)
  page-told (at.Over stopped) has some = absurd (no-page view has.0.rest.hand_is refl some)

  claim-told : (x : HandlerAt) (of : Frame) (cycle : ℕ) → Fit x → claims_at x ≡ Some (of, cycle) → (class_at x ≤ 3) × (plan_at h.who x ≢ None)
  claim-told (at.Fail f) of cycle has claimed = fail-tells-class.claim layout view f of cycle has.fail claimed
  claim-told at.Stop of cycle has claimed = absurd (none-some (of, cycle) claimed)
  claim-told at.GaveUp of cycle has claimed = absurd (none-some (of, cycle) claimed)
  claim-told (at.Over stopped) of cycle has claimed = absurd (none-some (of, cycle) claimed)

pub handler-tells : TellsClass handler-task
handler-tells = record {
  frame = λ layout view h fits some. frame-told layout view h h.at fits.at some;
  page = λ layout view h fits some. page-told layout view h h.at fits.at some;
  claim = λ layout view h frame cycle fits claimed. claim-told layout view h h.at frame cycle fits.at claimed;
}

-- none of its steps takes a frame's poison back
pub handler-lasting : (h : Handler) (step : Step) → plan h ≡ Some step → LeavesPoison step
handler-lasting h step is = which h.at is
  where
    which : (x : HandlerAt) → plan_at h.who x ≡ Some step → LeavesPoison step
    which at.Stop e = subst LeavesPoison (same_Some (steps.Stop h.who.cpu) step e) tt
    which (at.Fail f) e = fail-lasting f step e
    which at.GaveUp e = absurd (none-some step e)
    which (at.Over stopped) e = absurd (none-some step e)
