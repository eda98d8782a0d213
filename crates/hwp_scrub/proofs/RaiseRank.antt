-- Each turn of a `Raise` lowers its cost, or leaves a failure fewer, and its class tells what it holds.
use Rattle.std.proofs.Common.{◌≡◌, ◌≢◌, ◌⊎◌, inl, inr, ℕ, ◌+◌, ◌<◌, ◌≤◌, Bool, true, false, [], Option, Some, None, length, refl, sym, ap, ◌∙◌, subst, arith}
use Rattle.std.proofs.lemmas.Bool.{both_ways}
use Rattle.std.proofs.lemmas.Option.{none-some, same_Some}
use Rattle.hwp_cpu_control.specs.hwp_geom.declared.Frame.{Frame}
use Rattle.hwp_cpu_control.specs.hwp_geom.declared.Layout.{Layout}
use Rattle.hwp_cpu_control.specs.hwp_geom.declared.Page.{Page}
use Rattle.hwp_claim.specs.hwp_banks.Events.{bank_count}
use Rattle.hwp_cpu_control.specs.hwp_words.Names.{page_named}
use Rattle.hwp_cpu_control.specs.hwp_words.Stops.{is_stopped}
use Rattle.hwp_cpu_control.specs.hwp_core_rule.declared.SharedWord.TheVariants as places
use Rattle.hwp_cpu_control.specs.hwp_core_rule.declared.State.{State}
use Rattle.hwp_cpu_control.specs.hwp_core_rule.declared.Step.{Step}
use Rattle.hwp_cpu_control.specs.hwp_core_rule.declared.Step.TheVariants as steps
use Rattle.hwp_cpu_control.specs.hwp_core_rule.declared.View.{View}
use Rattle.hwp_cpu_control.specs.hwp_core_rule.Moves.{Move}
use Rattle.hwp_cpu_control.specs.hwp_core_rule.Rule.{Holds}
use Rattle.hwp_cpu_control.specs.hwp_core_rule.Lasting.{IsMild, LeavesPoison}
use Rattle.hwp_cpu_control.specs.hwp_core_rule.Words.{Words}
use Rattle.hwp_cpu_control.specs.hwp_core_rule.declared.Turn.{Turn}
use Rattle.hwp_cpu_control.specs.hwp_core_rule.Boards.{view_of}
use Rattle.hwp_cpu_control.specs.hwp_core_rule.Calls.{logs, rec_of}
use Rattle.hwp_cpu_control.specs.hwp_core_rule.Classes.{TellsClass}
use Rattle.hwp_cpu_control.specs.hwp_core_rule.Hands.{hand_of, empty}
use Rattle.hwp_cpu_control.specs.hwp_core_rule.Ranks.{CostFalls, HasFailed, HasFrame, HasPage, IsRanked, Made, OtherHand, Pending, Quiet, failure_weight, failures_left, is_refused, is_waits, top, words_at}
use Rattle.hwp_cpu_control.proofs.of_hwp_core_rule.tasks.StepRanks.{part-made, pending-kept}
use Rattle.hwp_cpu_control.proofs.EmptyHands.{no-frame, no-page}
use Rattle.hwp_claim.specs.hwp_severity.Handling.{has_stop}
use Rattle.hwp_claim.specs.declared.Handler.{Handler}
use Rattle.hwp_claim.specs.declared.handler.HandlerAt.{HandlerAt}
use Rattle.hwp_claim.specs.declared.handler.HandlerAt.TheVariants as handler_at
use Rattle.hwp_claim.specs.Events.{held_in}
use Rattle.hwp_claim.specs.Handlers as handlers
use Rattle.hwp_claim.specs.Fits.{task as handler-task}
use Rattle.hwp_claim.proofs.BankGrades.{found-in}
use Rattle.hwp_claim.proofs.HandlerRank.{handler-lasting, handler-ranked, handler-tells}
use Rattle.hwp_claim.proofs.EventTells.{tell-cost, tell-idle}
use Rattle.hwp_scrub.specs.RaiseCosts.{aborts, aborts_at, claims, claims_at, class, class_at, cost, cost_at}
use Rattle.hwp_scrub.specs.RaiseFits.{Fits, FitsAt, task as raise-task}
use Rattle.hwp_scrub.specs.Raises.{AfterProcessBy, AfterStopBy, BeginsCheck, Follows, FollowsAt, after_handler, after_handler_by, bare, bare_at, emptied, handler_of, how_of, plan, plan_at, put_at, thread_of}
use Rattle.hwp_scrub.specs.declared.raise.Raise.{Raise}
use Rattle.hwp_scrub.specs.declared.raise.RaiseAt.{RaiseAt}
use Rattle.hwp_scrub.specs.declared.raise.RaiseAt.TheVariants as at
use Rattle.hwp_scrub.specs.declared.raise.Raiser.{Raiser}

raise-class : (r : Raise) → (1 ≤ class r) × (class r ≤ 4)
raise-class r = which r.at
  where
    which : (x : RaiseAt) → (1 ≤ class_at x) × (class_at x ≤ 4)
    which at.LoadStop = (omega arith, omega arith)
    which (at.LoadProcess raiser) = (omega arith, omega arith)
    which (at.Handle h) = handler-ranked.classes h
    which at.GiveUp = (omega arith, omega arith)
    which (at.Over answer) = (omega arith, omega arith)

raise-small : (layout : Layout) (a : State) (seat : ℕ) (r : Raise) → Holds layout a → Fits layout (view_of a seat) r → cost r (words_at layout a) < top
raise-small layout a seat r rule fits = which r.at fits.at
  where
    which : (x : RaiseAt) → FitsAt layout (view_of a seat) r x → cost_at x (words_at layout a) < top
    which at.LoadStop has = omega arith
    which (at.LoadProcess raiser) has = omega arith
    which (at.Handle h) has = handler-ranked.small layout a seat h rule has.0.handler
    which at.GiveUp has = omega arith
    which (at.Over answer) has = omega arith

-- ---- what a machine check goes on as

-- what goes on as the machine check does, or is over with it
record IsAs (h : Handler) (after : Raise) : Type 0 where
  cost_is : (w : Words) → cost after w ≤ handlers.cost h w
  goes : (after.at ≡ at.Handle h) ⊎ ((plan after ≡ None) × (aborts after ≡ false) × (handlers.aborts h ≡ false))
  claims_is : claims after ≡ handlers.claims h

as-handler : (r : Raise) (h : Handler) → IsAs h (after_handler r h)
as-handler r h = which h.at refl
  where
    going : IsAs h (record r { at = at.Handle h })
    going = record { cost_is = λ w. omega arith; goes = inl refl; claims_is = refl }

    which : (x : HandlerAt) → h.at ≡ x → IsAs h (after_handler_by r h (handlers.answer_at x))
    which handler_at.Stop is = going
    which (handler_at.Fail f) is = going
    which handler_at.GaveUp is = going
    which (handler_at.Over stopped) is = record { cost_is = λ w. omega arith; goes = inr (refl, refl, ap handlers.aborts_at is); claims_is = sym (ap handlers.claims_at is) }

-- ---- what comes without a machine check, or at its beginning

-- it is cheap, and claims nothing
record IsPlain (n : ℕ) (after : Raise) : Type 0 where
  cost_is : (w : Words) → cost after w < n
  claims_is : claims after ≡ None

plain-begun : (layout : Layout) (r after : Raise) → length r.banks ≡ bank_count → BeginsCheck layout r after → IsPlain 5 after
plain-begun layout r after three (inl refused) = record { cost_is = λ w. let one : cost after w ≡ 1 = ap (λ (x : Raise). cost x w) refused in omega (arith, one); claims_is = ap claims refused }
plain-begun layout r after three (inr (spare, room, is)) =
    let how = how_of r in
    let like = as-handler (emptied r spare) (handler_of layout r) in
    let idle = tell-idle layout r.alloc r.who (thread_of r.raiser) (has_stop how r.banks) (held_in how r.banks) [] in record {
      cost_is = λ w.
          let same : cost after w ≡ cost (after_handler (emptied r spare) (handler_of layout r)) w = ap (λ (x : Raise). cost x w) is in
          let most : cost (after_handler (emptied r spare) (handler_of layout r)) w ≤ handlers.cost (handler_of layout r) w = like.cost_is w in
          let told : handlers.cost (handler_of layout r) w ≤ length (held_in how r.banks) + 1 = tell-cost layout r.alloc r.who (thread_of r.raiser) (has_stop how r.banks) (held_in how r.banks) [] w in
          let few : length (held_in how r.banks) ≤ 3 = (found-in how r.banks three).few in
          omega (arith, same, most, told, few);
      claims_is = ap claims is ∙ like.claims_is ∙ idle.claims;
    }

plain-stop : (layout : Layout) (r after : Raise) (b : Bool) (o : Option Raiser) → length r.banks ≡ bank_count → AfterStopBy layout r b o after → IsPlain 6 after
plain-stop layout r after true o three next = record { cost_is = λ w. let none : cost after w ≡ 0 = ap (λ (x : Raise). cost x w) next in omega (arith, none); claims_is = ap claims next }
plain-stop layout r after false (Some raiser) three next = record { cost_is = λ w. let five : cost after w ≡ 5 = ap (λ (x : Raise). cost x w) next in omega (arith, five); claims_is = ap claims next }
plain-stop layout r after false None three next = let plain = plain-begun layout r after three next in record { cost_is = λ w. let less : cost after w < 5 = plain.cost_is w in omega (arith, less); claims_is = plain.claims_is }

plain-process : (layout : Layout) (r after : Raise) (o : Option Page) → length r.banks ≡ bank_count → AfterProcessBy layout r o after → IsPlain 5 after
plain-process layout r after (Some page) three next = record { cost_is = λ w. let none : cost after w ≡ 0 = ap (λ (x : Raise). cost x w) next in omega (arith, none); claims_is = ap claims next }
plain-process layout r after None three next = plain-begun layout r after three next

-- ---- each turn

module _ {layout : Layout} {seat : ℕ} {a b : State} {s t : Raise} {turn : Turn} (made : Made raise-task layout seat a b s t turn) where
  abbrev w : Words
  w = words_at layout a

  abbrev now : Words
  now = words_at layout b

  abbrev Has : RaiseAt → Type 0
  Has x = FitsAt layout (view_of a seat) s x

  abbrev Moves : RaiseAt → Type 0
  Moves x = Move layout seat (rec_of layout s.who made.step (logs (put_at x)) made.found made.got) a b

  abbrev Next : RaiseAt → Type 0
  Next x = FollowsAt layout (bare s) (bare_at x) made.found made.got t turn

  -- a step of the machine check
  handler-made : (h g : Handler) → Has (at.Handle h) → handlers.plan h ≡ Some made.step → Moves (at.Handle h) → handlers.Follows layout (handlers.bare h) made.found made.got g turn → Made handler-task layout seat a b h g turn
  handler-made h g has e move follows = part-made made handler-task h g has.0.own has.0.handler e move follows

  like : (g : Handler) → t ≡ after_handler (bare s) g → IsAs g t
  like g is = subst (IsAs g) (sym is) (as-handler (bare s) g)

  three : Has at.LoadStop → length s.banks ≡ bank_count
  three has = ap length has.unchecked.banks_are ∙ made.fits.three

  abbrev Goes : RaiseAt → Type 0
  Goes x = (cost t now < cost_at x w) ⊎ ((failures_left now < failures_left w) × (cost t now < cost_at x w + failure_weight))

  goes-at : (x : RaiseAt) → plan_at x ≡ Some made.step → Has x → Moves x → Next x → is_waits turn ≡ false → Goes x
  goes-at at.LoadStop e has move next goes = inl ((plain-stop layout (bare s) t (is_stopped made.found) s.raiser (three has) next.0).cost_is now)
  goes-at (at.LoadProcess raiser) e has move next goes = inl ((plain-process layout (bare s) t (page_named made.found) (three has.1) next.0).cost_is now)
  goes-at (at.Handle h) e has move next goes = let few : cost t now ≤ handlers.cost next.handler now = (like next.handler next.next_is).cost_is now in
      elim (handler-ranked.falls layout seat a b h next.handler turn (handler-made h next.handler has e move next.follows) goes) [
        | inl falls ↦ let less : handlers.cost next.handler now < handlers.cost h w = falls in inl (omega (arith, few, less))
        | inr failed ↦ let less : handlers.cost next.handler now < handlers.cost h w + failure_weight = failed.bounded in inr (failed.fewer, omega (arith, few, less))
      ]
  goes-at at.GiveUp e has move next goes = inl (let none : cost t now ≡ 0 = ap (λ (x : Raise). cost x now) next.0 in omega (arith, none))
  goes-at (at.Over answer) e has move next goes = absurd (none-some made.step e)

  falls : is_waits turn ≡ false → CostFalls raise-task layout a b s t ⊎ HasFailed raise-task layout a b s t
  falls goes = elim (goes-at s.at made.planned made.fits.at made.move made.follows goes) [
    | inl less ↦ inl less
    | inr failed ↦ inr (record { fewer = failed.0; bounded = failed.1 })
  ]

  waits-at : (x : RaiseAt) → plan_at x ≡ Some made.step → Has x → Moves x → Next x → is_waits turn ≡ true → Quiet (class_at x) layout a seat → (cost t now < cost_at x w) ⊎ ((aborts t ≡ true) × OtherHand a seat)
  waits-at at.LoadStop e has move next is quiet = absurd (both_ways true (sym is ∙ ap is_waits next.1) refl)
  waits-at (at.LoadProcess raiser) e has move next is quiet = absurd (both_ways true (sym is ∙ ap is_waits next.1) refl)
  waits-at (at.Handle h) e has move next is quiet = let few : cost t now ≤ handlers.cost next.handler now = (like next.handler next.next_is).cost_is now in
      elim (handler-ranked.waits layout seat a b h next.handler turn (handler-made h next.handler has e move next.follows) is quiet) [
        | inl falls ↦ let less : handlers.cost next.handler now < handlers.cost h w = falls in inl (omega (arith, few, less))
        | inr gives ↦ elim (like next.handler next.next_is).goes [
          | inl on ↦ inr (ap aborts_at on ∙ gives.0, gives.1)
          | inr over ↦ absurd (both_ways (handlers.aborts next.handler) over.2 gives.0)
        ]
      ]
  waits-at at.GiveUp e has move next is quiet = absurd (both_ways true (sym is ∙ ap is_waits next.1) refl)
  waits-at (at.Over answer) e has move next is quiet = absurd (none-some made.step e)

  leaves-at : (x : RaiseAt) → plan_at x ≡ Some made.step → Has x → Moves x → Next x → aborts_at x ≡ true → (plan t ≡ None) ⊎ (1 < class t)
  leaves-at (at.Handle h) e has move next gives = elim (like next.handler next.next_is).goes [
    | inl on ↦ elim (handler-ranked.leaves layout seat a b h next.handler turn (handler-made h next.handler has e move next.follows) gives) [
      | inl none ↦ inl (ap plan_at on ∙ none)
      | inr above ↦ inr (subst (λ (x : RaiseAt). 1 < class_at x) (sym on) above)
    ]
    | inr over ↦ inl over.0
  ]
  leaves-at at.LoadStop e has move next gives = absurd (both_ways true (sym gives) refl)
  leaves-at (at.LoadProcess raiser) e has move next gives = absurd (both_ways true (sym gives) refl)
  leaves-at at.GiveUp e has move next gives = absurd (both_ways true (sym gives) refl)
  leaves-at (at.Over answer) e has move next gives = absurd (both_ways true (sym gives) refl)

  -- a failure that isn't ended after a step that poisons nothing wasn't before it
  stays-pending : (x : RaiseAt) (step : Step) (frame : Frame) (cycle : ℕ) → Some step ≡ Some made.step → IsMild step → claims_at x ≡ None → Pending now frame cycle → Pending w frame cycle × (claims_at x ≢ Some (frame, cycle))
  stays-pending x step frame cycle e mild none pending = (pending-kept made (subst IsMild (same_Some step made.step e) mild) frame cycle pending, λ claimed. none-some (frame, cycle) (sym none ∙ claimed))

  owns-at : (x : RaiseAt) (frame : Frame) (cycle : ℕ) → plan_at x ≡ Some made.step → Has x → Moves x → Next x → is_refused turn ≡ false → Pending now frame cycle
      → (claims t ≡ Some (frame, cycle)) ⊎ (Pending w frame cycle × (claims_at x ≢ Some (frame, cycle)))
  owns-at at.LoadStop frame cycle e has move next going pending = inr (stays-pending at.LoadStop (steps.Load places.Stop) frame cycle e tt refl pending)
  owns-at (at.LoadProcess raiser) frame cycle e has move next going pending = inr (stays-pending (at.LoadProcess raiser) (steps.Load (places.Process raiser.process)) frame cycle e tt refl pending)
  owns-at (at.Handle h) frame cycle e has move next going pending = elim (handler-ranked.owns layout seat a b h next.handler turn frame cycle (handler-made h next.handler has e move next.follows) going pending) [
    | inl claimed ↦ inl ((like next.handler next.next_is).claims_is ∙ claimed)
    | inr other ↦ inr other
  ]
  owns-at at.GiveUp frame cycle e has move next going pending = inr (stays-pending at.GiveUp steps.GiveUp frame cycle e tt refl pending)
  owns-at (at.Over answer) frame cycle e has move next going pending = absurd (none-some made.step e)

pub raise-ranked : IsRanked raise-task
raise-ranked = record {
  classes = raise-class;
  small = raise-small;
  falls = λ layout seat a b s t turn made goes. falls made goes;
  waits = λ layout seat a b s t turn made is quiet. waits-at made s.at made.planned made.fits.at made.move made.follows is quiet;
  leaves = λ layout seat a b s t turn made gives. leaves-at made s.at made.planned made.fits.at made.move made.follows gives;
  owns = λ layout seat a b s t turn frame cycle made going pending. owns-at made s.at frame cycle made.planned made.fits.at made.move made.follows going pending;
}

-- ---- what is held

module _ (layout : Layout) (view : View) (r : Raise) where
  abbrev Fit : RaiseAt → Type 0
  Fit x = FitsAt layout view r x

  over-held : (o : _) → Fit (at.Over o) → hand_of view ≡ empty
  over-held None has = has
  over-held (Some answer) has = has.0.hand_is

  frame-told : (x : RaiseAt) → Fit x → HasFrame view → (class_at x ≡ 1) × (plan_at x ≢ None)
  frame-told at.LoadStop has some = absurd (no-frame view has.rest.hand_is some)
  frame-told (at.LoadProcess raiser) has some = absurd (no-frame view has.1.rest.hand_is some)
  frame-told (at.Handle h) has some = handler-tells.frame layout view h has.0.handler some
  frame-told at.GiveUp has some = absurd (no-frame view has some)
  frame-told (at.Over answer) has some = absurd (no-frame view (over-held answer has) some)

  page-told : (x : RaiseAt) → Fit x → HasPage view → (class_at x ≤ 2) × (plan_at x ≢ None)
  page-told at.LoadStop has some = absurd (no-page view has.rest.hand_is some)
  page-told (at.LoadProcess raiser) has some = absurd (no-page view has.1.rest.hand_is some)
  page-told (at.Handle h) has some = handler-tells.page layout view h has.0.handler some
  page-told at.GiveUp has some = absurd (no-page view has some)
  page-told (at.Over answer) has some = absurd (no-page view (over-held answer has) some)

  claim-told : (x : RaiseAt) (of : Frame) (cycle : ℕ) → Fit x → claims_at x ≡ Some (of, cycle) → (class_at x ≤ 3) × (plan_at x ≢ None)
  claim-told (at.Handle h) of cycle has claimed = handler-tells.claim layout view h of cycle has.0.handler claimed
  claim-told at.LoadStop of cycle has claimed = absurd (none-some (of, cycle) claimed)
  claim-told (at.LoadProcess raiser) of cycle has claimed = absurd (none-some (of, cycle) claimed)
  claim-told at.GiveUp of cycle has claimed = absurd (none-some (of, cycle) claimed)
  claim-told (at.Over answer) of cycle has claimed = absurd (none-some (of, cycle) claimed)

pub raise-tells : TellsClass raise-task
raise-tells = record {
  frame = λ layout view r fits some. frame-told layout view r r.at fits.at some;
  page = λ layout view r fits some. page-told layout view r r.at fits.at some;
  claim = λ layout view r frame cycle fits claimed. claim-told layout view r r.at frame cycle fits.at claimed;
}

-- none of its steps takes a frame's poison back
pub raise-lasting : (r : Raise) (step : Step) → plan r ≡ Some step → LeavesPoison step
raise-lasting r step is = which r.at is
  where
    which : (x : RaiseAt) → plan_at x ≡ Some step → LeavesPoison step
    which at.LoadStop e = subst LeavesPoison (same_Some (steps.Load places.Stop) step e) tt
    which (at.LoadProcess raiser) e = subst LeavesPoison (same_Some (steps.Load (places.Process raiser.process)) step e) tt
    which (at.Handle h) e = handler-lasting h step e
    which at.GiveUp e = subst LeavesPoison (same_Some steps.GiveUp step e) tt
    which (at.Over answer) e = absurd (none-some step e)
