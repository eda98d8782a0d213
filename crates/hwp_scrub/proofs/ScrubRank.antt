-- Each turn of a `Scrub` lowers its cost, or leaves a failure fewer, and its class tells what it holds.
use Rattle.std.proofs.Common.{◌≡◌, ◌≢◌, ◌⊎◌, inl, inr, ℕ, ◌+◌, ◌<◌, ◌≤◌, nat_lt, Bool, true, false, cond, [], Option, Some, None, length, map, refl, sym, ap, ◌∙◌, subst, arith}
use Rattle.std.proofs.lemmas.Bool.{both_ways, ltb-true}
use Rattle.std.proofs.lemmas.List.{length-append, length-set}
use Rattle.std.proofs.lemmas.Option.{none-some, same_Some}
use Rattle.hwp_claim.specs.hwp_geom.declared.Frame.{Frame}
use Rattle.hwp_claim.specs.hwp_geom.declared.Layout.{Layout}
use Rattle.hwp_claim.specs.hwp_banks.declared.Origin.TheVariants as origins
use Rattle.hwp_claim.specs.hwp_banks.Events.{bank_count, bank_of}
use Rattle.hwp_claim.specs.hwp_words.Stops.{is_stopped}
use Rattle.hwp_claim.specs.hwp_core_rule.declared.SharedWord.TheVariants as places
use Rattle.hwp_claim.specs.hwp_core_rule.declared.State.{State}
use Rattle.hwp_claim.specs.hwp_core_rule.declared.Step.{Step}
use Rattle.hwp_claim.specs.hwp_core_rule.declared.Step.TheVariants as steps
use Rattle.hwp_claim.specs.hwp_core_rule.declared.View.{View}
use Rattle.hwp_claim.specs.hwp_core_rule.Moves.{Move}
use Rattle.hwp_claim.specs.hwp_core_rule.Rule.{Holds}
use Rattle.hwp_claim.specs.hwp_core_rule.Lasting.{IsMild, LeavesPoison}
use Rattle.hwp_claim.specs.hwp_core_rule.Words.{Words}
use Rattle.hwp_claim.specs.hwp_core_rule.declared.Turn.{Turn}
use Rattle.hwp_claim.specs.hwp_core_rule.Boards.{view_of}
use Rattle.hwp_claim.specs.hwp_core_rule.Calls.{logs, rec_of}
use Rattle.hwp_claim.specs.hwp_core_rule.Classes.{TellsClass}
use Rattle.hwp_claim.specs.hwp_core_rule.Hands.{hand_of, empty}
use Rattle.hwp_claim.specs.hwp_core_rule.Ranks.{CostFalls, HasFailed, HasFrame, HasPage, IsRanked, Made, OtherHand, Pending, Quiet, failure_weight, failures_left, is_refused, is_waits, top, words_at}
use Rattle.hwp_claim.proofs.of_hwp_core_rule.tasks.StepRanks.{part-made, pending-kept}
use Rattle.hwp_claim.proofs.of_hwp_core.TaskTells.{no-frame, no-page}
use Rattle.hwp_claim.specs.Fails as fails
use Rattle.hwp_claim.proofs.FailRank.{fail-small}
use Rattle.hwp_claim.specs.hwp_banks.Banks.{Banks}
use Rattle.hwp_claim.specs.hwp_severity.Handling.{has_stop}
use Rattle.hwp_claim.specs.declared.Handler.{Handler}
use Rattle.hwp_claim.specs.declared.EventOutcome.{EventOutcome}
use Rattle.hwp_claim.specs.declared.handler.HandlerAt.{HandlerAt}
use Rattle.hwp_claim.specs.declared.handler.HandlerAt.TheVariants as handler_at
use Rattle.hwp_claim.specs.Events.{held_in}
use Rattle.hwp_claim.specs.Fits as handler_fits
use Rattle.hwp_claim.specs.Fits.{events_of}
use Rattle.hwp_claim.specs.Handlers as handlers
use Rattle.hwp_claim.specs.hwp_geom.Limits.{frame_limit}
use Rattle.hwp_claim.proofs.BankGrades.{found-in}
use Rattle.hwp_claim.proofs.HandlerRank.{handler-lasting, handler-ranked, handler-tells}
use Rattle.hwp_claim.proofs.EventTells.{tell-cost, tell-idle}
use Rattle.hwp_scrub.specs.Costs.{aborts, aborts_at, claims, claims_at, class, class_at, cost, cost_at, rest_cost}
use Rattle.hwp_scrub.specs.Fits.{Fits, FitsAt, task as scrub-task}
use Rattle.hwp_scrub.specs.Scrubs.{AfterBadBy, AfterWeakBy, BeginsCheck, Follows, FollowsAt, after_handler, after_handler_by, bare, bare_at, emptied, gone_on, handler_of, kept, plan, plan_at, put_at, with_room}
use Rattle.hwp_scrub.specs.Visits.{scrubbing, with_bad}
use Rattle.hwp_scrub.specs.declared.scrub.Scrub.{Scrub}
use Rattle.hwp_scrub.specs.declared.scrub.ScrubAnswer.TheVariants as answers
use Rattle.hwp_scrub.specs.declared.scrub.ScrubAt.{ScrubAt}
use Rattle.hwp_scrub.specs.declared.scrub.ScrubAt.TheVariants as at
use Rattle.hwp_scrub.proofs.VisitLaws.{left-banks}

scrub-class : (s : Scrub) → (1 ≤ class s) × (class s ≤ 4)
scrub-class s = which s.at
  where
    which : (x : ScrubAt) → (1 ≤ class_at x) × (class_at x ≤ 4)
    which at.LoadStop = (omega arith, omega arith)
    which (at.LoadBad frame) = (omega arith, omega arith)
    which (at.Handle frame h) = handler-ranked.classes h
    which (at.LoadWeak frame) = (omega arith, omega arith)
    which at.GiveUp = (omega arith, omega arith)
    which (at.Over answer) = (omega arith, omega arith)

-- ---- a scrub costs less than the weight of a failure

handler-few : (h : Handler) (w : Words) → length (events_of h.events) ≤ bank_count → handlers.cost h w ≤ handlers.handler_most
handler-few h w few =
    let all : length (events_of h.events) ≡ length (map (λ (t : EventOutcome). t.held) h.events.told) + length h.events.left = length-append (map (λ (t : EventOutcome). t.held) h.events.told) h.events.left in which h.at (omega (arith, all, few))
  where
    which : (x : HandlerAt) → length h.events.left ≤ 3 → handlers.cost_with (length h.events.left) x w ≤ handlers.handler_most
    which handler_at.Stop left = omega arith
    which (handler_at.Fail f) left = let small : fails.cost f w ≤ fails.fail_most = fail-small f w in omega (arith, left, small)
    which handler_at.GaveUp left = omega arith
    which (handler_at.Over stopped) left = omega arith

pub scrub-below : (layout : Layout) (view : View) (s : Scrub) (w : Words) → Fits layout view s → cost s w < failure_weight
scrub-below layout view s w fits = which s.at fits.at
  where
    last-few : s.last.0 < frame_limit
    last-few = let frames : layout.frames ≤ frame_limit = fits.sound.frames in let within : s.last.0 < layout.frames = fits.frames.within in omega (arith, frames, within)

    which : (x : ScrubAt) → FitsAt layout view s x → cost_at s.first s.last x w < failure_weight
    which at.LoadStop has = omega (arith, last-few)
    which (at.LoadBad frame) has = omega (arith, last-few)
    which (at.Handle frame h) has = let few : handlers.cost h w ≤ handlers.handler_most = handler-few h w has.0.handler.found.few in omega (arith, last-few, few)
    which (at.LoadWeak frame) has = omega (arith, last-few)
    which at.GiveUp has = omega arith
    which (at.Over answer) has = omega arith

scrub-small : (layout : Layout) (a : State) (seat : ℕ) (s : Scrub) → Holds layout a → Fits layout (view_of a seat) s → cost s (words_at layout a) < top
scrub-small layout a seat s rule fits = let below : cost s (words_at layout a) < failure_weight = scrub-below layout (view_of a seat) s (words_at layout a) fits in omega (arith, below)

-- ---- what a machine check goes on as

-- what goes on as the machine check does, or is over with it
record IsAs (last frame : Frame) (h : Handler) (after : Scrub) : Type 0 where
  cost_is : (w : Words) → cost after w ≤ rest_cost last frame + 3 + handlers.cost h w
  goes : (after.at ≡ at.Handle frame h) ⊎ ((class after ≡ 4) × (handlers.aborts h ≡ false))
  claims_is : claims after ≡ handlers.claims h

as-handler : (s : Scrub) (frame : Frame) (h : Handler) → IsAs s.last frame h (after_handler s frame h)
as-handler s frame h = which h.at refl
  where
    going : IsAs s.last frame h (record s { at = at.Handle frame h })
    going = record { cost_is = λ w. omega arith; goes = inl refl; claims_is = refl }

    over : (stopped : Bool) → h.at ≡ handler_at.Over stopped → IsAs s.last frame h (after_handler_by s frame h (Some stopped))
    over true is = record { cost_is = λ w. omega arith; goes = inr (refl, ap handlers.aborts_at is); claims_is = sym (ap handlers.claims_at is) }
    over false is = record { cost_is = λ w. omega arith; goes = inr (refl, ap handlers.aborts_at is); claims_is = sym (ap handlers.claims_at is) }

    which : (x : HandlerAt) → h.at ≡ x → IsAs s.last frame h (after_handler_by s frame h (handlers.answer_at x))
    which handler_at.Stop is = going
    which (handler_at.Fail f) is = going
    which handler_at.GaveUp is = going
    which (handler_at.Over stopped) is = over stopped is

-- ---- what comes without a machine check, or at its beginning

-- it is cheap, and claims nothing
record IsPlain (n : ℕ) (after : Scrub) : Type 0 where
  cost_is : (w : Words) → cost after w < n
  claims_is : claims after ≡ None

plain-stop : (s : Scrub) (b : Bool) → IsPlain (rest_cost s.last s.first + 9) (record s { at = cond b (at.Over (Some answers.Stopped)) (at.LoadBad s.first) })
plain-stop s true = record { cost_is = λ w. omega arith; claims_is = refl }
plain-stop s false = record { cost_is = λ w. omega arith; claims_is = refl }

plain-begun : (layout : Layout) (s : Scrub) (frame : Frame) (line : ℕ) (after : Scrub) → length s.banks ≡ bank_count → BeginsCheck layout s frame line after → IsPlain (rest_cost s.last frame + 8) after
plain-begun layout s frame line after three (inl refused) = record { cost_is = λ w. let one : cost after w ≡ 1 = ap (λ (x : Scrub). cost x w) refused in omega (arith, one); claims_is = ap claims refused }
plain-begun layout s frame line after three (inr (spare, room, is)) =
    let banks : Banks = with_bad frame line s.banks in
    let like = as-handler (emptied s spare) frame (handler_of layout s frame line) in
    let idle = tell-idle layout s.alloc s.who None (has_stop scrubbing banks) (held_in scrubbing banks) [] in record {
      cost_is = λ w.
          let same : cost after w ≡ cost (after_handler (emptied s spare) frame (handler_of layout s frame line)) w = ap (λ (x : Scrub). cost x w) is in
          let most : cost (after_handler (emptied s spare) frame (handler_of layout s frame line)) w ≤ rest_cost s.last frame + 3 + handlers.cost (handler_of layout s frame line) w = like.cost_is w in
          let told : handlers.cost (handler_of layout s frame line) w ≤ length (held_in scrubbing banks) + 1 = tell-cost layout s.alloc s.who None (has_stop scrubbing banks) (held_in scrubbing banks) [] w in
          let few : length (held_in scrubbing banks) ≤ 3 = (found-in scrubbing banks (length-set s.banks (bank_of origins.BadLine) _ ∙ three)).few in
          omega (arith, same, most, told, few);
      claims_is = ap claims is ∙ like.claims_is ∙ idle.claims;
    }

plain-bad : (layout : Layout) (s : Scrub) (frame : Frame) (line : Option ℕ) (after : Scrub) → length s.banks ≡ bank_count → AfterBadBy layout s frame line after → IsPlain (rest_cost s.last frame + 8) after
plain-bad layout s frame None after three next = record { cost_is = λ w. let two : cost after w ≡ rest_cost s.last frame + 2 = ap (λ (x : Scrub). cost x w) next in omega (arith, two); claims_is = ap claims next }
plain-bad layout s frame (Some line) after three next = plain-begun layout s frame line after three next

plain-gone : (s : Scrub) (frame : Frame) → IsPlain (rest_cost s.last frame + 2) (gone_on s frame)
plain-gone s frame = which (nat_lt frame.0 s.last.0) refl
  where
    next : Frame
    next = record { 0 = frame.0 + 1 }

    which : (b : Bool) → nat_lt frame.0 s.last.0 ≡ b → IsPlain (rest_cost s.last frame + 2) (record s { at = cond b (at.LoadBad next) (at.Over (Some answers.Scrubbed)) })
    which true is = let below : frame.0 < s.last.0 = ltb-true frame.0 s.last.0 is in record { cost_is = λ w. omega (arith, below); claims_is = refl }
    which false is = record { cost_is = λ w. omega arith; claims_is = refl }

plain-weak : (s : Scrub) (frame : Frame) (line : Option ℕ) (after : Scrub) → AfterWeakBy s frame line after → IsPlain (rest_cost s.last frame + 2) after
plain-weak s frame None after next = subst (IsPlain (rest_cost s.last frame + 2)) (sym next) (plain-gone s frame)
plain-weak s frame (Some line) after (inl refused) = record { cost_is = λ w. let one : cost after w ≡ 1 = ap (λ (x : Scrub). cost x w) refused in omega (arith, one); claims_is = ap claims refused }
plain-weak s frame (Some line) after (inr (spare, room, is)) = subst (IsPlain (rest_cost s.last frame + 2)) (sym is) (plain-gone (kept (with_room s spare) frame line) frame)

-- ---- each turn

module _ {layout : Layout} {seat : ℕ} {a b : State} {s t : Scrub} {turn : Turn} (made : Made scrub-task layout seat a b s t turn) where
  abbrev w : Words
  w = words_at layout a

  abbrev now : Words
  now = words_at layout b

  abbrev costs : ScrubAt → ℕ
  costs x = cost_at s.first s.last x w

  abbrev Has : ScrubAt → Type 0
  Has x = FitsAt layout (view_of a seat) s x

  abbrev Moves : ScrubAt → Type 0
  Moves x = Move layout seat (rec_of layout s.who made.step (logs (put_at x)) made.found made.got) a b

  abbrev Next : ScrubAt → Type 0
  Next x = FollowsAt layout (bare s) (bare_at x) made.found made.got t turn

  -- a step of the machine check
  handler-made : (frame : Frame) (h g : Handler) → Has (at.Handle frame h) → handlers.plan h ≡ Some made.step → Moves (at.Handle frame h) → handlers.Follows layout (handlers.bare h) made.found made.got g turn → Made handler_fits.task layout seat a b h g turn
  handler-made frame h g has e move follows = part-made made handler_fits.task h g has.0.own has.0.handler e move follows

  like : (frame : Frame) (g : Handler) → t ≡ after_handler (bare s) frame g → IsAs s.last frame g t
  like frame g is = subst (IsAs s.last frame g) (sym is) (as-handler (bare s) frame g)

  three : (frame : Frame) → Has (at.LoadBad frame) → length s.banks ≡ bank_count
  three frame has = ap length has.0.banks_are ∙ (left-banks s.before.value has.0.visits made.fits.banks).three

  abbrev Goes : ScrubAt → Type 0
  Goes x = (cost t now < costs x) ⊎ ((failures_left now < failures_left w) × (cost t now < costs x + failure_weight))

  goes-at : (x : ScrubAt) → plan_at x ≡ Some made.step → Has x → Moves x → Next x → is_waits turn ≡ false → Goes x
  goes-at at.LoadStop e has move next goes = inl (subst (λ (x : Scrub). cost x now < rest_cost s.last s.first + 9) (sym next.0) ((plain-stop (bare s) (is_stopped made.found)).cost_is now))
  goes-at (at.LoadBad frame) e has move next goes = inl ((plain-bad layout (bare s) frame next.0.0 t (three frame has) next.0.2).cost_is now)
  goes-at (at.Handle frame h) e has move next goes = let few : cost t now ≤ rest_cost s.last frame + 3 + handlers.cost next.handler now = (like frame next.handler next.next_is).cost_is now in
      elim (handler-ranked.falls layout seat a b h next.handler turn (handler-made frame h next.handler has e move next.follows) goes) [
        | inl falls ↦ let less : handlers.cost next.handler now < handlers.cost h w = falls in inl (omega (arith, few, less))
        | inr failed ↦ let less : handlers.cost next.handler now < handlers.cost h w + failure_weight = failed.bounded in inr (failed.fewer, omega (arith, few, less))
      ]
  goes-at (at.LoadWeak frame) e has move next goes = inl ((plain-weak (bare s) frame next.0.0 t next.0.2).cost_is now)
  goes-at at.GiveUp e has move next goes = inl (let none : cost t now ≡ 0 = ap (λ (x : Scrub). cost x now) next.0 in omega (arith, none))
  goes-at (at.Over answer) e has move next goes = absurd (none-some made.step e)

  falls : is_waits turn ≡ false → CostFalls scrub-task layout a b s t ⊎ HasFailed scrub-task layout a b s t
  falls goes = elim (goes-at s.at made.planned made.fits.at made.move made.follows goes) [
    | inl less ↦ inl less
    | inr failed ↦ inr (record { fewer = failed.0; bounded = failed.1 })
  ]

  waits-at : (x : ScrubAt) → plan_at x ≡ Some made.step → Has x → Moves x → Next x → is_waits turn ≡ true → Quiet (class_at x) layout a seat → (cost t now < costs x) ⊎ ((aborts t ≡ true) × OtherHand a seat)
  waits-at at.LoadStop e has move next is quiet = absurd (both_ways true (sym is ∙ ap is_waits next.1) refl)
  waits-at (at.LoadBad frame) e has move next is quiet = absurd (both_ways true (sym is ∙ ap is_waits next.1) refl)
  waits-at (at.Handle frame h) e has move next is quiet = let few : cost t now ≤ rest_cost s.last frame + 3 + handlers.cost next.handler now = (like frame next.handler next.next_is).cost_is now in
      elim (handler-ranked.waits layout seat a b h next.handler turn (handler-made frame h next.handler has e move next.follows) is quiet) [
        | inl falls ↦ let less : handlers.cost next.handler now < handlers.cost h w = falls in inl (omega (arith, few, less))
        | inr gives ↦ elim (like frame next.handler next.next_is).goes [
          | inl on ↦ inr (ap aborts_at on ∙ gives.0, gives.1)
          | inr over ↦ absurd (both_ways (handlers.aborts next.handler) over.1 gives.0)
        ]
      ]
  waits-at (at.LoadWeak frame) e has move next is quiet = absurd (both_ways true (sym is ∙ ap is_waits next.1) refl)
  waits-at at.GiveUp e has move next is quiet = absurd (both_ways true (sym is ∙ ap is_waits next.1) refl)
  waits-at (at.Over answer) e has move next is quiet = absurd (none-some made.step e)

  leaves-at : (x : ScrubAt) → plan_at x ≡ Some made.step → Has x → Moves x → Next x → aborts_at x ≡ true → (plan t ≡ None) ⊎ (1 < class t)
  leaves-at (at.Handle frame h) e has move next gives = elim (like frame next.handler next.next_is).goes [
    | inl on ↦ elim (handler-ranked.leaves layout seat a b h next.handler turn (handler-made frame h next.handler has e move next.follows) gives) [
      | inl none ↦ inl (ap plan_at on ∙ none)
      | inr above ↦ inr (subst (λ (x : ScrubAt). 1 < class_at x) (sym on) above)
    ]
    | inr over ↦ let four : class t ≡ 4 = over.0 in inr (omega (arith, four))
  ]
  leaves-at at.LoadStop e has move next gives = absurd (both_ways true (sym gives) refl)
  leaves-at (at.LoadBad frame) e has move next gives = absurd (both_ways true (sym gives) refl)
  leaves-at (at.LoadWeak frame) e has move next gives = absurd (both_ways true (sym gives) refl)
  leaves-at at.GiveUp e has move next gives = absurd (both_ways true (sym gives) refl)
  leaves-at (at.Over answer) e has move next gives = absurd (both_ways true (sym gives) refl)

  -- a failure that isn't ended after a step that poisons nothing wasn't before it
  stays-pending : (x : ScrubAt) (step : Step) (frame : Frame) (cycle : ℕ) → Some step ≡ Some made.step → IsMild step → claims_at x ≡ None → Pending now frame cycle → Pending w frame cycle × (claims_at x ≢ Some (frame, cycle))
  stays-pending x step frame cycle e mild none pending = (pending-kept made (subst IsMild (same_Some step made.step e) mild) frame cycle pending, λ claimed. none-some (frame, cycle) (sym none ∙ claimed))

  owns-at : (x : ScrubAt) (frame : Frame) (cycle : ℕ) → plan_at x ≡ Some made.step → Has x → Moves x → Next x → is_refused turn ≡ false → Pending now frame cycle
      → (claims t ≡ Some (frame, cycle)) ⊎ (Pending w frame cycle × (claims_at x ≢ Some (frame, cycle)))
  owns-at at.LoadStop frame cycle e has move next going pending = inr (stays-pending at.LoadStop (steps.Load places.Stop) frame cycle e tt refl pending)
  owns-at (at.LoadBad of) frame cycle e has move next going pending = inr (stays-pending (at.LoadBad of) (steps.Load (places.Bad of)) frame cycle e tt refl pending)
  owns-at (at.Handle of h) frame cycle e has move next going pending = elim (handler-ranked.owns layout seat a b h next.handler turn frame cycle (handler-made of h next.handler has e move next.follows) going pending) [
    | inl claimed ↦ inl ((like of next.handler next.next_is).claims_is ∙ claimed)
    | inr other ↦ inr other
  ]
  owns-at (at.LoadWeak of) frame cycle e has move next going pending = inr (stays-pending (at.LoadWeak of) (steps.Load (places.Weak of)) frame cycle e tt refl pending)
  owns-at at.GiveUp frame cycle e has move next going pending = inr (stays-pending at.GiveUp steps.GiveUp frame cycle e tt refl pending)
  owns-at (at.Over answer) frame cycle e has move next going pending = absurd (none-some made.step e)

pub scrub-ranked : IsRanked scrub-task
scrub-ranked = record {
  classes = scrub-class;
  small = scrub-small;
  falls = λ layout seat a b s t turn made goes. falls made goes;
  waits = λ layout seat a b s t turn made is quiet. waits-at made s.at made.planned made.fits.at made.move made.follows is quiet;
  leaves = λ layout seat a b s t turn made gives. leaves-at made s.at made.planned made.fits.at made.move made.follows gives;
  owns = λ layout seat a b s t turn frame cycle made going pending. owns-at made s.at frame cycle made.planned made.fits.at made.move made.follows going pending;
}

-- ---- what is held

module _ (layout : Layout) (view : View) (s : Scrub) where
  abbrev Fit : ScrubAt → Type 0
  Fit x = FitsAt layout view s x

  -- nothing outside a machine check
  free : (x : ScrubAt) → Fit x → hand_of view ≡ empty ⊎ ((frame : Frame) × (h : Handler) × (x ≡ at.Handle frame h) × handler_fits.Fits layout view h)
  free at.LoadStop has = inl has.rest.hand_is
  free (at.LoadBad frame) has = inl has.0.rest.hand_is
  free (at.Handle frame h) has = inr (frame, h, refl, has.0.handler)
  free (at.LoadWeak frame) has = inl has.rest.hand_is
  free at.GiveUp has = inl has
  free (at.Over None) has = inl has
  free (at.Over (Some answers.Scrubbed)) has = inl has.rest.hand_is
  free (at.Over (Some answers.Stopped)) (inl has) = inl has.0.rest.hand_is
  free (at.Over (Some answers.Stopped)) (inr has) = inl has.1.rest.hand_is

  frame-told : (x : ScrubAt) → Fit x → HasFrame view → (class_at x ≡ 1) × (plan_at x ≢ None)
  frame-told x has some = elim (free x has) [
    | inl none ↦ absurd (no-frame view none refl refl refl some)
    | inr checks ↦ subst (λ (y : ScrubAt). (class_at y ≡ 1) × (plan_at y ≢ None)) (sym checks.2) (handler-tells.frame layout view checks.1 checks.3 some)
  ]

  page-told : (x : ScrubAt) → Fit x → HasPage view → (class_at x ≤ 2) × (plan_at x ≢ None)
  page-told x has some = elim (free x has) [
    | inl none ↦ absurd (no-page view none refl some)
    | inr checks ↦ subst (λ (y : ScrubAt). (class_at y ≤ 2) × (plan_at y ≢ None)) (sym checks.2) (handler-tells.page layout view checks.1 checks.3 some)
  ]

  claim-told : (x : ScrubAt) (of : Frame) (cycle : ℕ) → Fit x → claims_at x ≡ Some (of, cycle) → (class_at x ≤ 3) × (plan_at x ≢ None)
  claim-told (at.Handle frame h) of cycle has claimed = handler-tells.claim layout view h of cycle has.0.handler claimed
  claim-told at.LoadStop of cycle has claimed = absurd (none-some (of, cycle) claimed)
  claim-told (at.LoadBad frame) of cycle has claimed = absurd (none-some (of, cycle) claimed)
  claim-told (at.LoadWeak frame) of cycle has claimed = absurd (none-some (of, cycle) claimed)
  claim-told at.GiveUp of cycle has claimed = absurd (none-some (of, cycle) claimed)
  claim-told (at.Over answer) of cycle has claimed = absurd (none-some (of, cycle) claimed)

pub scrub-tells : TellsClass scrub-task
scrub-tells = record {
  frame = λ layout view s fits some. frame-told layout view s s.at fits.at some;
  page = λ layout view s fits some. page-told layout view s s.at fits.at some;
  claim = λ layout view s frame cycle fits claimed. claim-told layout view s s.at frame cycle fits.at claimed;
}

-- none of its steps takes a frame's poison back
pub scrub-lasting : (s : Scrub) (step : Step) → plan s ≡ Some step → LeavesPoison step
scrub-lasting s step is = which s.at is
  where
    which : (x : ScrubAt) → plan_at x ≡ Some step → LeavesPoison step
    which at.LoadStop e = subst LeavesPoison (same_Some (steps.Load places.Stop) step e) tt
    which (at.LoadBad frame) e = subst LeavesPoison (same_Some (steps.Load (places.Bad frame)) step e) tt
    which (at.Handle frame h) e = handler-lasting h step e
    which (at.LoadWeak frame) e = subst LeavesPoison (same_Some (steps.Load (places.Weak frame)) step e) tt
    which at.GiveUp e = subst LeavesPoison (same_Some steps.GiveUp step e) tt
    which (at.Over answer) e = absurd (none-some step e)
