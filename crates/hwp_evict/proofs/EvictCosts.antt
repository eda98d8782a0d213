-- Each turn of `Evict` that doesn't wait lowers its cost, and its class tells what it holds.
use Rattle.std.proofs.Common.{◌≡◌, ◌≢◌, ◌⊎◌, inl, inr, ℕ, ◌+◌, ◌<◌, ◌≤◌, ◌==◌, Bool, true, false, cond, Option, Some, None, is_none, MatchBool, refl, sym, ap, ◌∙◌, subst, arith}
use Rattle.std.proofs.lemmas.Bool.{both_ways}
use Rattle.std.proofs.lemmas.Option.{none-some, same_Some}
use Rattle.std.specs.FinSet as set
use Rattle.std.specs.Ordering.{nat_cmp}
use Rattle.hwp_core.specs.hwp_geom.declared.Frame.{Frame}
use Rattle.hwp_core.specs.hwp_geom.declared.Layout.{Layout}
use Rattle.hwp_core.specs.hwp_geom.declared.Page.{Page}
use Rattle.hwp_core.specs.hwp_geom.declared.Who.{Who}
use Rattle.hwp_core.specs.hwp_page.declared.At.{At}
use Rattle.hwp_core.specs.hwp_page.History.{BodyValue}
use Rattle.hwp_core.specs.hwp_words.declared.Pte.TheVariants as ptes
use Rattle.hwp_core.specs.hwp_words.Stops.{is_stopped}
use Rattle.hwp_core.specs.hwp_core_rule.declared.SharedWord.TheVariants as places
use Rattle.hwp_core.specs.hwp_core_rule.declared.State.{State}
use Rattle.hwp_core.specs.hwp_core_rule.declared.Step.{Step}
use Rattle.hwp_core.specs.hwp_core_rule.declared.Step.TheVariants as steps
use Rattle.hwp_core.specs.hwp_core_rule.declared.View.{View}
use Rattle.hwp_core.specs.hwp_core_rule.Lasting.{IsMild}
use Rattle.hwp_core.specs.hwp_core_rule.Steps.{place_of, word_after}
use Rattle.hwp_core.specs.hwp_core_rule.Words.{Words, read}
use Rattle.hwp_core.specs.hwp_core_rule.declared.Turn.{Turn}
use Rattle.hwp_core.specs.hwp_core_rule.Moves.{Move}
use Rattle.hwp_core.specs.hwp_core_rule.Boards.{view_of}
use Rattle.hwp_core.specs.hwp_core_rule.Calls.{rec_of}
use Rattle.hwp_core.specs.hwp_core_rule.Hands.{hand_of, empty}
use Rattle.hwp_core.specs.hwp_core_rule.Classes.{TellsClass}
use Rattle.hwp_core.specs.hwp_core_rule.Ranks.{CostFalls, HasFrame, HasPage, IsRanked, Made, OtherHand, Quiet, failure_weight, is_waits, pass, stale_weight, translation_room, words_at}
use Rattle.hwp_core.proofs.of_hwp_core_rule.tasks.StepRanks.{met, words-kept, steps-on, rank-of}
use Rattle.hwp_core.specs.declared.give_up.GiveUp.{GiveUp}
use Rattle.hwp_core.specs.declared.give_up.GiveUpAt.{GiveUpAt}
use Rattle.hwp_core.specs.declared.give_up.GiveUpAt.TheVariants as give_up_at
use Rattle.hwp_core.specs.declared.hold.Hold.{Hold}
use Rattle.hwp_core.specs.declared.hold.HoldAt.{HoldAt}
use Rattle.hwp_core.specs.declared.hold.HoldAt.TheVariants as hold_at
use Rattle.hwp_core.specs.declared.unhold.Unhold.{Unhold}
use Rattle.hwp_core.specs.GiveUps as give_ups
use Rattle.hwp_core.specs.Holds as holds
use Rattle.hwp_core.specs.Unholds as unholds
use Rattle.hwp_core.specs.Unlocks as unlocks
use Rattle.hwp_core.proofs.GiveUpCosts.{give-up-falls, give-up-goes, give-up-mild, give-up-ranked, give-up-small}
use Rattle.hwp_core.proofs.TaskCosts.{hold-falls, hold-mild, hold-small, hold-class, hold-ranked, unhold-falls, unhold-mild, unhold-small, unhold-class}
use Rattle.hwp_core.proofs.TaskTells.{Tells, hold-tells, unhold-tells, give-up-tells, frame-tells, no-frame, no-page}
use Rattle.hwp_core.specs.declared.clear.Clear.{Clear}
use Rattle.hwp_evict.specs.declared.evict.Evict.{Evict}
use Rattle.hwp_evict.specs.declared.evict.EvictAnswer.{EvictAnswer}
use Rattle.hwp_evict.specs.declared.evict.EvictAnswer.TheVariants as answers
use Rattle.hwp_evict.specs.declared.evict.EvictAt.{EvictAt}
use Rattle.hwp_evict.specs.declared.evict.EvictAt.TheVariants as at
use Rattle.hwp_evict.specs.declared.evict.Eviction.{Eviction}
use Rattle.hwp_evict.specs.declared.evict.Eviction.TheVariants as evictions
use Rattle.hwp_evict.specs.declared.evict.Refusal.{Refusal}
use Rattle.hwp_evict.specs.declared.evict.Refusal.TheVariants as refusals
use Rattle.hwp_core.specs.declared.vacate.Vacate.{Vacate}
use Rattle.hwp_evict.specs.Evictions.{copies, absence}
use Rattle.hwp_evict.specs.Evicts.{AfterBad, AfterHeld, AfterHold, AfterHoldAt, Enters, Fits, FitsAt, Follows, FollowsAt, Shows, ShowsAt, after_clear, after_stop, after_unhold, after_vacate, bare, bare_at, class, class_at, cost, cost_at, GoesOut, place, plan, plan_at, refused, turn_after, task as evict-task}
use Rattle.hwp_core.specs.Clears as clears
use Rattle.hwp_core.specs.Vacates as vacates
use Rattle.hwp_core.proofs.ClearLaws.{clear-mild, clear-small, clears-fall}
use Rattle.hwp_evict.proofs.EvictLaws.{both}
use Rattle.hwp_core.proofs.VacateCosts.{vacate-falls, vacate-mild, vacate-small, vacate-class, vacate-tells}

-- ---- what the next states cost

begun-cost : (who : Who) (page : Page) (frame : Option Frame) (count : ℕ) (body : BodyValue) (w : Words) → unholds.cost (unholds.begin who page frame count body) w ≤ 5
begun-cost who page frame count body w = unhold-small w (unholds.begin who page frame count body)

clear-cost : (who : Who) (page : Page) (c : Clear) (body : BodyValue) (done : At) (w : Words) → cost_at (after_clear who page c body done) w < clears.cost c w + 9
clear-cost who page c body done w = which (is_none c.next)
  where
    which : (b : Bool) → cost_at (cond b (at.Vacate (vacates.begin who page c.frame c.count body) done) (at.Clear c body done)) w < clears.cost c w + 9
    which true = omega arith
    which false = omega arith

out-cost : (who : Who) (page : Page) (what : Eviction) (frame : Frame) (maps : set.FinSet nat_cmp) (body : BodyValue) (done : At) (w : Words) (y : EvictAt) → GoesOut who page what frame maps body done y → cost_at y w ≤ pass
out-cost who page (evictions.Free slot) frame maps body done w y is = subst (λ (x : EvictAt). cost_at x w ≤ pass) (sym is) (omega arith)
out-cost who page evictions.Sync frame maps body done w y is = subst (λ (x : EvictAt). cost_at x w ≤ pass) (sym is) (let few : _ = begun-cost who page (Some frame) 1 body w in omega (arith, few))
out-cost who page evictions.Drop frame maps body done w y is = subst (λ (x : EvictAt). cost_at x w ≤ pass) (sym is) (omega arith)
out-cost who page evictions.Out frame maps body done w y is = subst (λ (x : EvictAt). cost_at x w ≤ pass) (sym is.next_is)
    (let few : _ = clear-cost who page is.clear body done w in let small : _ = clear-small w is.clear in omega (arith, few, small))

refused-cost : (who : Who) (page : Page) (frame : Option Frame) (body : BodyValue) (refusal : Refusal) (w : Words) → cost_at (refused who page frame body refusal) w ≤ 7
refused-cost who page frame body refusal w = let few : _ = begun-cost who page frame 1 body w in omega (arith, few)

enters-cost : (who : Who) (page : Page) (what : Eviction) (frame : Frame) (body : BodyValue) (w : Words) (y : EvictAt) → Enters who page what frame body y → cost_at y w ≤ pass
enters-cost who page what frame body w y (inl is) = subst (λ (x : EvictAt). cost_at x w ≤ pass) (sym is) (let few : _ = give-up-small w (give_ups.with_page who page (Some frame) 1 body) in omega (arith, few))
enters-cost who page what frame body w y (inr is) = out-cost who page what frame body.state.maps is.now (place page body) w y is.next_is

held-cost : (who : Who) (page : Page) (what : Eviction) (frame : Option Frame) (body : BodyValue) (w : Words) (y : EvictAt) → AfterHeld who page what frame body y → cost_at y w ≤ pass + 1
held-cost who page what None body w y is = subst (λ (x : EvictAt). cost_at x w ≤ pass + 1) (sym is) (let few : _ = refused-cost who page None body (absence what) w in omega (arith, few))
held-cost who page what (Some frame) body w y (inr is) = subst (λ (x : EvictAt). cost_at x w ≤ pass + 1) (sym is.next_is) (let few : _ = refused-cost who page (Some frame) body is.refusal w in omega (arith, few))
held-cost who page what (Some frame) body w y (inl (passes, goes)) = which (copies what) goes
  where
    which : (b : Bool) → MatchBool b (y ≡ at.LoadBad frame body) (Enters who page what frame body y) → cost_at y w ≤ pass + 1
    which true is = subst (λ (x : EvictAt). cost_at x w ≤ pass + 1) (sym is) (omega arith)
    which false is = let few : _ = enters-cost who page what frame body w y is in omega (arith, few)

-- what follows a step of the hold costs at most so much more than the hold
hold-cost : (who : Who) (page : Page) (what : Eviction) (h : Hold) (w : Words) (y : EvictAt) → AfterHold who page what h y → cost_at y w ≤ holds.cost h w + (pass + 2)
hold-cost who page what h w y follows = which h.at follows
  where
    still : (x : HoldAt) → y ≡ at.Hold (record h { at = x }) → cost_at y w ≤ holds.cost_at x w + (pass + 2)
    still x is = subst (λ (z : EvictAt). cost_at z w ≤ holds.cost_at x w + (pass + 2)) (sym is) (omega arith)

    which : (x : HoldAt) → AfterHoldAt who page what (record h { at = x }) x y → cost_at y w ≤ holds.cost_at x w + (pass + 2)
    which hold_at.LockPage is = still hold_at.LockPage is
    which (hold_at.LoadCache body) is = still (hold_at.LoadCache body) is
    which (hold_at.Pin p) is = still (hold_at.Pin p) is
    which (hold_at.LockFrame frame) is = still (hold_at.LockFrame frame) is
    which (hold_at.Held frame body) is = let few : _ = held-cost who page what frame body w y is in omega (arith, few)

bad-cost : (who : Who) (page : Page) (what : Eviction) (frame : Frame) (body : BodyValue) (found : ℕ) (w : Words) (y : EvictAt) → AfterBad who page what frame body found y → cost_at y w ≤ pass
bad-cost who page what frame body found w y is = which (found == 0) is
  where
    which : (b : Bool) → MatchBool b (Enters who page what frame body y) (y ≡ refused who page (Some frame) body (refusals.BadLines (record { 0 = found }))) → cost_at y w ≤ pass
    which true is = enters-cost who page what frame body w y is
    which false is = subst (λ (x : EvictAt). cost_at x w ≤ pass) (sym is) (let few : _ = refused-cost who page (Some frame) body (refusals.BadLines (record { 0 = found })) w in omega (arith, few))

unhold-cost : (u : Unhold) (answer : EvictAnswer) (w : Words) → cost_at (after_unhold u answer) w ≤ unholds.cost u w
unhold-cost u answer w = which (is_none (unholds.plan u))
  where
    which : (b : Bool) → cost_at (cond b (at.Over answer) (at.Unhold u answer)) w ≤ unholds.cost u w
    which true = omega arith
    which false = omega arith

vacate-cost : (v : Vacate) (done : At) (w : Words) → cost_at (after_vacate v done) w ≤ vacates.cost v w
vacate-cost v done w = which (is_none (vacates.plan v))
  where
    which : (b : Bool) → cost_at (cond b (at.Over (answers.Done done)) (at.Vacate v done)) w ≤ vacates.cost v w
    which true = omega arith
    which false = omega arith

stop-cost : (who : Who) (page : Page) (found : ℕ) (w : Words) → cost_at (after_stop who page found) w < pass + 8
stop-cost who page found w = which (is_stopped found)
  where
    which : (b : Bool) → cost_at (cond b (at.Over answers.Stopped) (at.Hold (holds.begin who page))) w < pass + 8
    which true = omega arith
    which false = omega arith

-- ---- the law

pub evict-falls : (w now : Words) (e : Evict) (step : Step) (found : ℕ) (got : Option BodyValue) (after : Evict) (turn : Turn) → plan e ≡ Some step → Shows (bare e) found got → read (place_of step) w ≡ found → (word_after step found ≡ found → now ≡ w)
    → Follows (bare e) found got after turn → is_waits turn ≡ false → cost after now < cost e w
evict-falls w now e step found got after turn is shows met kept follows goes = which e.at is shows follows.1
  where
    y : EvictAt
    y = after.at

    which : (x : EvictAt) → plan_at x ≡ Some step → ShowsAt e.what (bare_at x) found got → FollowsAt e.who e.page e.what (bare_at x) found got after.at turn → cost_at after.at now < cost_at x w
    which at.LoadStop p shows follows = subst (λ (z : EvictAt). cost_at z now < pass + 8) (sym follows.0) (stop-cost e.who e.page found now)
    which (at.Hold h) p shows follows =
        let less : holds.cost (holds.next h found got) now < holds.cost h w = hold-falls w now h step found got p shows.0 met kept (sym (ap is_waits follows.1) ∙ goes) in
        let more : cost_at after.at now ≤ holds.cost (holds.next h found got) now + (pass + 2) = hold-cost e.who e.page e.what (holds.next h found got) now after.at follows.0 in
        omega (arith, less, more)
    which (at.LoadBad frame body) p shows follows = let few : cost_at after.at now ≤ pass = bad-cost e.who e.page e.what frame body found now after.at follows.0 in omega (arith, few)
    which (at.SetPte slot frame body done) p shows follows = subst (λ (z : EvictAt). cost_at z now < 6) (sym follows.0) (let few : _ = begun-cost e.who e.page (Some frame) 2 body now in omega (arith, few))
    which (at.Clear c body done) p shows follows = subst (λ (z : EvictAt). cost_at z now < clears.cost c w + 8) (sym follows.0.next_is)
        (let less : clears.cost follows.0.after now < clears.cost c w = clears-fall c follows.0.after w now p follows.0.follows shows in
        let more : _ = clear-cost e.who e.page follows.0.after body done now in omega (arith, less, more))
    which (at.Vacate v done) p shows follows = subst (λ (z : EvictAt). cost_at z now < vacates.cost v w) (sym follows.0)
        (let less : vacates.cost (vacates.next (vacates.bare v) found) now < vacates.cost v w = vacate-falls w now v step found p in
        let more : _ = vacate-cost (vacates.next (vacates.bare v) found) done now in omega (arith, less, more))
    which (at.Unhold u answer) p shows follows = subst (λ (z : EvictAt). cost_at z now < unholds.cost u w) (sym follows.0)
        (let less : unholds.cost (unholds.next (unholds.bare u) found) now < unholds.cost u w = unhold-falls w now u step found p in
        let more : _ = unhold-cost (unholds.next (unholds.bare u) found) answer now in omega (arith, less, more))
    which (at.GiveUp g) p shows follows = subst (λ (z : EvictAt). cost_at z now < give_ups.cost g w) (sym follows.0) (give-up-falls w now g step found p)
    which (at.Over answer) p shows follows = absurd (none-some step p)

-- every cost is small
pub evict-below : (w : Words) (e : Evict) → cost e w < failure_weight
evict-below w e = which e.at
  where
    which : (x : EvictAt) → cost_at x w < failure_weight
    which at.LoadStop = omega arith
    which (at.Hold h) = let few : holds.cost h w ≤ stale_weight + 2 = hold-small w h in omega (arith, few)
    which (at.LoadBad frame body) = omega arith
    which (at.SetPte slot frame body done) = omega arith
    which (at.Clear c body done) = let few : clears.cost c w ≤ translation_room = clear-small w c in omega (arith, few)
    which (at.Vacate v done) = let few : vacates.cost v w ≤ 7 = vacate-small w v in omega (arith, few)
    which (at.Unhold u answer) = let few : unholds.cost u w ≤ 5 = unhold-small w u in omega (arith, few)
    which (at.GiveUp g) = let few : give_ups.cost g w ≤ 6 = give-up-small w g in omega (arith, few)
    which (at.Over answer) = omega arith

pub evict-class : (e : Evict) → (1 ≤ class e) × (class e ≤ 4)
evict-class e = which e.at
  where
    which : (x : EvictAt) → (1 ≤ class_at x) × (class_at x ≤ 4)
    which at.LoadStop = (omega arith, omega arith)
    which (at.Hold h) = hold-class h
    which (at.LoadBad frame body) = (omega arith, omega arith)
    which (at.SetPte slot frame body done) = (omega arith, omega arith)
    which (at.Clear c body done) = (omega arith, omega arith)
    which (at.Vacate v done) = vacate-class v
    which (at.Unhold u answer) = unhold-class u
    which (at.GiveUp g) = give-up-ranked.classes g
    which (at.Over answer) = (omega arith, omega arith)

-- only a page that is being held waits
after-goes : (x : EvictAt) → is_waits (turn_after x) ≡ false
after-goes at.LoadStop = refl
after-goes (at.Hold h) = refl
after-goes (at.LoadBad frame body) = refl
after-goes (at.SetPte slot frame body done) = refl
after-goes (at.Clear c body done) = refl
after-goes (at.Vacate v done) = refl
after-goes (at.Unhold u answer) = refl
after-goes (at.GiveUp g) = refl
after-goes (at.Over answer) = refl

module _ {layout : Layout} {seat : ℕ} {a b : State} {s t : Evict} {turn : Turn} (made : Made evict-task layout seat a b s t turn) where
  cost-falls : is_waits turn ≡ false → CostFalls evict-task layout a b s t
  cost-falls goes = evict-falls (words_at layout a) (words_at layout b) s made.step made.found made.got t turn made.planned
      (both layout (view_of a seat) _ s made.step made.found made.got made.fits.1 made.planned (steps-on made)).0 (met made) (words-kept made) made.follows goes

  waits-falls : is_waits turn ≡ true → Quiet (class s) layout a seat → CostFalls evict-task layout a b s t
  waits-falls is quiet = which s.at made quiet
    where
      never : {x : Turn} {n m : ℕ} → turn ≡ x → is_waits x ≡ false → n < m
      never same goes = absurd (both_ways true (sym is ∙ ap is_waits same ∙ goes) refl)

      which : (x : EvictAt) → Made evict-task layout seat a b (record s { at = x }) t turn → Quiet (class_at x) layout a seat → cost_at t.at (words_at layout b) < cost_at x (words_at layout a)
      which at.LoadStop m quiet = never m.follows.1.1 (after-goes (after_stop s.who s.page m.found))
      which (at.Hold h) m quiet = by (hold-ranked.waits layout seat a b h (holds.next h m.found m.got) turn (record {
        step = m.step;
        found = m.found;
        got = m.got;
        rule = m.rule;
        kept = m.kept;
        fits = m.fits.1.at.hold;
        planned = m.planned;
        move = subst (λ (w : Who). Move layout seat (rec_of layout w m.step None m.found m.got) a b) (sym m.fits.1.at.own) m.move;
        brings = m.brings;
        follows = (refl, m.follows.1.1);
      }) is quiet)
        where
          by : (holds.cost (holds.next h m.found m.got) (words_at layout b) < holds.cost h (words_at layout a)) ⊎ ((false ≡ true) × OtherHand a seat) → cost_at t.at (words_at layout b) < holds.cost h (words_at layout a) + (pass + 2)
          by (inl less) = let more : _ = hold-cost s.who s.page s.what (holds.next h m.found m.got) (words_at layout b) t.at m.follows.1.0 in omega (arith, less, more)
          by (inr aborts) = absurd (both_ways true (sym aborts.0) refl)
      which (at.LoadBad frame body) m quiet = never m.follows.1.1 refl
      which (at.SetPte slot frame body done) m quiet = never m.follows.1.1 refl
      which (at.Clear c body done) m quiet = never m.follows.1.1 refl
      which (at.Vacate v done) m quiet = never m.follows.1.1 (after-goes (after_vacate (vacates.next (vacates.bare v) m.found) done))
      which (at.Unhold u answer) m quiet = never m.follows.1.1 (after-goes (after_unhold (unholds.next (unholds.bare u) m.found) answer))
      which (at.GiveUp g) m quiet = never m.follows.1.1 (give-up-goes (give_ups.bare g))
      which (at.Over answer) m quiet = never m.follows.1.1 refl

-- none of its steps poisons a frame or takes its poison back
pub evict-mild : (s : Evict) (step : Step) → plan s ≡ Some step → IsMild step
evict-mild s step is = which s.at is
  where
    which : (x : EvictAt) → plan_at x ≡ Some step → IsMild step
    which at.LoadStop e = subst IsMild (same_Some (steps.Load places.Stop) step e) tt
    which (at.Hold h) e = hold-mild h step e
    which (at.LoadBad frame body) e = subst IsMild (same_Some (steps.Load (places.Bad frame)) step e) tt
    which (at.SetPte slot frame body done) e = subst IsMild (same_Some (steps.SetPte slot ptes.Empty) step e) tt
    which (at.Clear c body done) e = clear-mild c step e
    which (at.Vacate v done) e = vacate-mild v step e
    which (at.Unhold u answer) e = unhold-mild u step e
    which (at.GiveUp g) e = give-up-mild g step e
    which (at.Over answer) e = absurd (none-some step e)

pub evict-ranked : IsRanked evict-task
evict-ranked = rank-of evict-task (λ s. refl) evict-class (λ layout a seat s rule fits. let few : _ = evict-below (words_at layout a) s in omega (arith, few))
    (λ layout seat a b s t turn made goes. cost-falls made goes) (λ layout seat a b s t turn made is quiet. waits-falls made is quiet)
    (λ s. refl) evict-mild

-- ---- the class

-- a task that has a frame or a page is under way, and its class tells
abbrev TellsAt : View → EvictAt → Type 0
TellsAt view x = (HasFrame view → (class_at x ≡ 1) × (plan_at x ≢ None)) × (HasPage view → (class_at x ≤ 2) × (plan_at x ≢ None))

under-way : (view : View) (x : EvictAt) → Tells view (class_at x) → (plan_at x ≢ None) → TellsAt view x
under-way view x tells on = ((λ some. (tells.0 some, on)), (λ some. (tells.1 some, on)))

goes : (p : Option Step) → is_none p ≡ false → p ≢ None
goes p on none = both_ways (is_none p) on (ap (λ (q : Option Step). is_none q) none)

nothing-tells : (view : View) (x : EvictAt) → hand_of view ≡ empty → TellsAt view x
nothing-tells view x is = ((λ some. absurd (no-frame view is refl refl refl some)), (λ some. absurd (no-page view is refl some)))

gave-up : (layout : Layout) (view : View) (g : GiveUp) → give_ups.Fits layout view g → is_none (give_ups.plan g) ≡ true → hand_of view ≡ empty
gave-up layout view g fits over = which g.at fits.at over
  where
    which : (x : GiveUpAt) → give_ups.FitsAt layout view g.who x → is_none (give_ups.plan_at x) ≡ true → hand_of view ≡ empty
    which (give_up_at.Unhold u) has over = absurd (both_ways (is_none (unholds.plan u)) has.under_way over)
    which (give_up_at.Unlock u) has over = absurd (both_ways (is_none (unlocks.plan u)) has.under_way over)
    which give_up_at.GiveUp has over = has
    which give_up_at.Over has over = has

tells-at : (layout : Layout) (view : View) (e : Evict) → Fits layout view e → TellsAt view e.at
tells-at layout view e fits = which e.at fits.1.at
  where
    which : (x : EvictAt) → FitsAt fits.0 layout view e.who e.page e.what x → TellsAt view x
    which at.LoadStop has = nothing-tells view at.LoadStop has.0
    which (at.Hold h) has = under-way view (at.Hold h) (hold-tells layout view h has.hold has.under_way) (goes (holds.plan h) has.under_way)
    which (at.LoadBad frame body) has = under-way view (at.LoadBad frame body) (frame-tells view) (goes (plan_at (at.LoadBad frame body)) refl)
    which (at.SetPte slot frame body done) has = under-way view (at.SetPte slot frame body done) (frame-tells view) (goes (plan_at (at.SetPte slot frame body done)) refl)
    which (at.Clear c body done) has = under-way view (at.Clear c body done) (frame-tells view) (goes (clears.plan c) has.under_way)
    which (at.Vacate v done) has = under-way view (at.Vacate v done) (vacate-tells layout view v has.vacate has.under_way) (goes (vacates.plan v) has.under_way)
    which (at.Unhold u answer) has = under-way view (at.Unhold u answer) (unhold-tells layout view u has.unhold has.under_way) (goes (unholds.plan u) has.under_way)
    which (at.GiveUp g) has = by (is_none (give_ups.plan g)) refl
      where
        by : (b : Bool) → is_none (give_ups.plan g) ≡ b → TellsAt view (at.GiveUp g)
        by true over = nothing-tells view (at.GiveUp g) (gave-up layout view g has.give_up over)
        by false on = under-way view (at.GiveUp g) (give-up-tells layout view g has.give_up on) (goes (give_ups.plan g) on)
    which (at.Over answer) has = nothing-tells view (at.Over answer) has.0

pub evict-tells : TellsClass evict-task
evict-tells = record {
  frame = λ layout view s fits some. (tells-at layout view s fits).0 some;
  page = λ layout view s fits some. (tells-at layout view s fits).1 some;
  claim = λ layout view s frame cycle fits none. absurd (none-some (frame, cycle) none);
}
