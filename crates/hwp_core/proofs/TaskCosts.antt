-- Each turn of a task lowers its cost.
use Rattle.std.proofs.Common.{◌≡◌, ℕ, ◌+◌, ◌*◌, ◌%◌, ◌^◌, ◌<◌, ◌≤◌, ◌==◌, Bool, true, false, cond, Option, Some, None, is_some, slice_index, refl, sym, ap, ◌∙◌, subst, arith}
use Rattle.std.proofs.lemmas.Bool.{both_ways}
use Rattle.std.proofs.lemmas.Option.{none-some, same_Some}
use Rattle.hwp_core_rule.specs.hwp_geom.declared.Frame.{Frame}
use Rattle.hwp_core_rule.specs.hwp_geom.declared.Layout.{Layout}
use Rattle.hwp_core_rule.specs.hwp_geom.declared.Who.{Who}
use Rattle.hwp_core_rule.specs.hwp_page.History.{BodyValue}
use Rattle.hwp_core_rule.specs.hwp_words.Frames.{lock_of, is_poisoned}
use Rattle.hwp_core_rule.specs.declared.SharedWord.TheVariants as places
use Rattle.hwp_core_rule.specs.declared.State.{State}
use Rattle.hwp_core_rule.specs.declared.Step.{Step}
use Rattle.hwp_core_rule.specs.declared.Step.TheVariants as steps
use Rattle.hwp_core_rule.specs.Lasting.{IsMild}
use Rattle.hwp_core_rule.specs.Steps.{place_of, word_after, is_last}
use Rattle.hwp_core_rule.specs.Views.{frame_in}
use Rattle.hwp_core_rule.specs.Words.{Words, read, index}
use Rattle.hwp_core_rule.proofs.Lists.{same-number}
use Rattle.hwp_core_rule.proofs.MetWords.{held-word, page-free, frame-free}
use Rattle.hwp_core_rule.proofs.tasks.MadeEntries.{ListsNone}
use Rattle.hwp_core_rule.specs.declared.Turn.{Turn}
use Rattle.hwp_core_rule.specs.declared.Turn.TheVariants.{Moved, Changed, Waits}
use Rattle.hwp_core_rule.specs.Boards.{view_of}
use Rattle.hwp_core_rule.specs.Hands.{Hand}
use Rattle.hwp_core_rule.specs.Ranks.{CostFalls, IsRanked, Made, Quiet, is_waits, stale, stale_weight, words_at}
use Rattle.hwp_core_rule.proofs.tasks.StepRanks.{met, words-kept, steps-on, no-page, no-lock, rank-of}
use Rattle.hwp_core.specs.declared.hold.Hold.{Hold}
use Rattle.hwp_core.specs.declared.hold.HoldAt.{HoldAt}
use Rattle.hwp_core.specs.declared.hold.HoldAt.TheVariants as hold_at
use Rattle.hwp_core.specs.declared.pin.Pin.{Pin}
use Rattle.hwp_core.specs.declared.pin.PinAt.{PinAt}
use Rattle.hwp_core.specs.declared.pin.PinAt.TheVariants as pin_at
use Rattle.hwp_core.specs.declared.release.Release.{Release}
use Rattle.hwp_core.specs.declared.release.ReleaseAt.{ReleaseAt}
use Rattle.hwp_core.specs.declared.release.ReleaseAt.TheVariants as release_at
use Rattle.hwp_core.specs.declared.unhold.Unhold.{Unhold}
use Rattle.hwp_core.specs.declared.unhold.UnholdAt.{UnholdAt}
use Rattle.hwp_core.specs.declared.unhold.UnholdAt.TheVariants as unhold_at
use Rattle.hwp_core.specs.Holds as holds
use Rattle.hwp_core.specs.Holds.{is_free}
use Rattle.hwp_core.specs.Pins as pins
use Rattle.hwp_core.specs.Releases as releases
use Rattle.hwp_core.specs.Unholds as unholds
use Rattle.hwp_core.proofs.HoldLaws as holding

-- ---- a reference

-- a word just shown isn't stale
fresh : (frame : Frame) (found : ℕ) (w : Words) (gone : Bool) → slice_index w.frames frame.0 ≡ found → pins.cost_at frame (cond gone (pin_at.Gone found) (pin_at.Get found)) w ≤ 1
fresh frame found w true met = omega arith
fresh frame found w false met = let same : stale (slice_index w.frames frame.0 == found) ≡ 0 = ap stale (same-number (slice_index w.frames frame.0) found met) in omega arith

-- of the step that was planned
pub met-own : {step other : Step} (w : Words) (found : ℕ) → Some other ≡ Some step → read (place_of step) w ≡ found → read (place_of other) w ≡ found
met-own {step} {other} w found is met = subst (λ (s : Step). read (place_of s) w ≡ found) (sym (same_Some other step is)) met

pub left-own : {step other : Step} (w now : Words) (found : ℕ) → Some other ≡ Some step → (word_after step found ≡ found → now ≡ w) → word_after other found ≡ found → now ≡ w
left-own {step} {other} w now found is kept = subst (λ (s : Step). word_after s found ≡ found → now ≡ w) (sym (same_Some other step is)) kept

-- once the word was shown, at most one turn is left of it
shown : (frame : Frame) (found : ℕ) (w now : Words) → slice_index w.frames frame.0 ≡ found → now ≡ w → pins.cost_at frame (pins.at_word found) now ≤ 1
shown frame found w now met same = subst (λ (x : Words). pins.cost_at frame (pins.at_word found) x ≤ 1) (sym same) (fresh frame found w (pins.is_gone found) met)

pub pin-falls : (w now : Words) (p : Pin) (step : Step) (found : ℕ) → pins.plan p ≡ Some step → read (place_of step) w ≡ found → (word_after step found ≡ found → now ≡ w) → pins.cost (pins.next p found) now < pins.cost p w
pin-falls w now p step found is met kept = which p.at is
  where
    which : (x : PinAt) → pins.plan_at p.frame x ≡ Some step → pins.cost_at p.frame (pins.next_at x found) now < pins.cost_at p.frame x w
    which pin_at.Load e = let few : pins.cost_at p.frame (pins.at_word found) now ≤ 1 = shown p.frame found w now (met-own w found e met) (left-own w now found e kept refl) in omega arith
    which (pin_at.Get seen) e = by (found == seen) refl
      where
        by : (b : Bool) → (found == seen) ≡ b → pins.cost_at p.frame (cond b (pin_at.Held seen) (pins.at_word found)) now < 1 + stale (slice_index w.frames p.frame.0 == seen)
        by true same = omega arith
        by false other =
            let there : slice_index w.frames p.frame.0 ≡ found = met-own w found e met in
            let few : pins.cost_at p.frame (pins.at_word found) now ≤ 1 = shown p.frame found w now there (left-own w now found e kept (ap (λ (b : Bool). cond b ((seen + 1 * 16) % 2 ^ 64) found) other)) in
            let costly : stale (slice_index w.frames p.frame.0 == seen) ≡ stale_weight = ap (λ (n : ℕ). stale (n == seen)) there ∙ ap stale other in
            omega arith
    which (pin_at.Held word) e = absurd (none-some step e)
    which (pin_at.Gone word) e = absurd (none-some step e)

pub stale-most : (b : Bool) → stale b ≤ stale_weight
stale-most true = omega arith
stale-most false = omega arith

pub pin-small : (w : Words) (p : Pin) → pins.cost p w ≤ stale_weight + 1
pin-small w p = which p.at
  where
    which : (x : PinAt) → pins.cost_at p.frame x w ≤ stale_weight + 1
    which pin_at.Load = omega arith
    which (pin_at.Get seen) = let most : stale (slice_index w.frames p.frame.0 == seen) ≤ stale_weight = stale-most (slice_index w.frames p.frame.0 == seen) in omega arith
    which (pin_at.Held word) = omega arith
    which (pin_at.Gone word) = omega arith

-- it never waits
pub pin-goes : (p : Pin) (found : ℕ) → is_waits (pins.turn p found) ≡ false
pin-goes p found = which p.at
  where
    by : (b : Bool) → is_waits (cond b Moved (Changed found)) ≡ false
    by true = refl
    by false = refl

    which : (x : PinAt) → is_waits (pins.turn_at x found) ≡ false
    which pin_at.Load = refl
    which (pin_at.Get seen) = by (found == seen)
    which (pin_at.Held word) = refl
    which (pin_at.Gone word) = refl

-- none of its steps poisons a frame or takes its poison back
pub pin-mild : (s : Pin) (step : Step) → pins.plan s ≡ Some step → IsMild step
pin-mild s step is = which s.at is
  where
    which : (x : PinAt) → pins.plan_at s.frame x ≡ Some step → IsMild step
    which pin_at.Load e = subst IsMild (same_Some (steps.Load (places.Frame s.frame)) step e) tt
    which (pin_at.Get seen) e = subst IsMild (same_Some (steps.GetRef s.frame seen 1) step e) tt
    which (pin_at.Held word) e = absurd (none-some step e)
    which (pin_at.Gone word) e = absurd (none-some step e)

-- none of its steps lists an entry by itself
pub pin-lists : (s : Pin) (step : Step) → pins.plan s ≡ Some step → ListsNone step
pin-lists s step is = which s.at is
  where
    which : (x : PinAt) → pins.plan_at s.frame x ≡ Some step → ListsNone step
    which pin_at.Load e = subst ListsNone (same_Some (steps.Load (places.Frame s.frame)) step e) tt
    which (pin_at.Get seen) e = subst ListsNone (same_Some (steps.GetRef s.frame seen 1) step e) tt
    which (pin_at.Held word) e = absurd (none-some step e)
    which (pin_at.Gone word) e = absurd (none-some step e)

pub pin-ranked : IsRanked pins.task
pin-ranked = rank-of pins.task (λ s. refl) (λ s. (omega arith, omega arith)) (λ layout a seat s rule fits. let few : pins.cost s (words_at layout a) ≤ stale_weight + 1 = pin-small (words_at layout a) s in omega arith)
    (λ layout seat a b s t turn made goes. subst (λ (x : Pin). pins.cost x (words_at layout b) < pins.cost s (words_at layout a)) (sym made.follows.0)
    (pin-falls (words_at layout a) (words_at layout b) s made.step made.found made.planned (met made) (words-kept made)))
    (λ layout seat a b s t turn made is quiet. absurd (both_ways true (sym is ∙ ap is_waits made.follows.1 ∙ pin-goes s made.found) refl))
    (λ s. refl) pin-mild

-- ---- references given back

pub release-falls : (w now : Words) (r : Release) (step : Step) (found : ℕ) → releases.plan r ≡ Some step → releases.cost (releases.next r found) now < releases.cost r w
release-falls w now r step found is = which r.at is
  where
    by : (b p : Bool) → releases.cost_at (cond b (cond p (release_at.Adopt found) (release_at.Give found)) (release_at.Back found)) < 3
    by true true = omega arith
    by true false = omega arith
    by false p = omega arith

    which : (x : ReleaseAt) → releases.plan_at r.frame r.count x ≡ Some step → releases.cost_at (releases.next_at r.count x found) < releases.cost_at x
    which release_at.Put e = by (is_last r.count found) (is_poisoned found)
    which (release_at.Give word) e = omega arith
    which (release_at.Unreserve word) e = omega arith
    which (release_at.Adopt word) e = omega arith
    which (release_at.Retire word) e = omega arith
    which (release_at.Back word) e = absurd (none-some step e)

pub release-small : (w : Words) (r : Release) → releases.cost r w ≤ 3
release-small w r = which r.at
  where
    which : (x : ReleaseAt) → releases.cost_at x ≤ 3
    which release_at.Put = omega arith
    which (release_at.Give word) = omega arith
    which (release_at.Unreserve word) = omega arith
    which (release_at.Adopt word) = omega arith
    which (release_at.Retire word) = omega arith
    which (release_at.Back word) = omega arith

pub release-class : (r : Release) → (1 ≤ releases.class r) × (releases.class r ≤ 4)
release-class r = which r.at
  where
    which : (x : ReleaseAt) → (1 ≤ releases.class_at x) × (releases.class_at x ≤ 4)
    which release_at.Put = (omega arith, omega arith)
    which (release_at.Give word) = (omega arith, omega arith)
    which (release_at.Unreserve word) = (omega arith, omega arith)
    which (release_at.Adopt word) = (omega arith, omega arith)
    which (release_at.Retire word) = (omega arith, omega arith)
    which (release_at.Back word) = (omega arith, omega arith)

-- none of its steps poisons a frame or takes its poison back
pub release-mild : (s : Release) (step : Step) → releases.plan s ≡ Some step → IsMild step
release-mild s step is = which s.at is
  where
    which : (x : ReleaseAt) → releases.plan_at s.frame s.count x ≡ Some step → IsMild step
    which release_at.Put e = subst IsMild (same_Some (steps.PutRef s.frame s.count) step e) tt
    which (release_at.Give word) e = subst IsMild (same_Some (steps.GiveBit s.frame) step e) tt
    which (release_at.Unreserve word) e = subst IsMild (same_Some (steps.Unreserve) step e) tt
    which (release_at.Adopt word) e = subst IsMild (same_Some (steps.Adopt s.frame) step e) tt
    which (release_at.Retire word) e = subst IsMild (same_Some (steps.Retire s.frame) step e) tt
    which (release_at.Back word) e = absurd (none-some step e)

-- none of its steps lists an entry by itself
pub release-lists : (s : Release) (step : Step) → releases.plan s ≡ Some step → ListsNone step
release-lists s step is = which s.at is
  where
    which : (x : ReleaseAt) → releases.plan_at s.frame s.count x ≡ Some step → ListsNone step
    which release_at.Put e = subst ListsNone (same_Some (steps.PutRef s.frame s.count) step e) tt
    which (release_at.Give word) e = subst ListsNone (same_Some (steps.GiveBit s.frame) step e) tt
    which (release_at.Unreserve word) e = subst ListsNone (same_Some (steps.Unreserve) step e) tt
    which (release_at.Adopt word) e = subst ListsNone (same_Some (steps.Adopt s.frame) step e) tt
    which (release_at.Retire word) e = subst ListsNone (same_Some (steps.Retire s.frame) step e) tt
    which (release_at.Back word) e = absurd (none-some step e)

pub release-ranked : IsRanked releases.task
release-ranked = rank-of releases.task (λ s. refl) release-class (λ layout a seat s rule fits. let few : releases.cost s (words_at layout a) ≤ 3 = release-small (words_at layout a) s in omega arith)
    (λ layout seat a b s t turn made goes. subst (λ (x : Release). releases.cost x (words_at layout b) < releases.cost s (words_at layout a)) (sym made.follows.0)
    (release-falls (words_at layout a) (words_at layout b) s made.step made.found made.planned))
    (λ layout seat a b s t turn made is quiet. absurd (both_ways true (sym is ∙ ap is_waits made.follows.1) refl))
    (λ s. refl) release-mild

-- ---- a page held

-- the state after a pin costs one more than the pin
pinned-cost : (p : Pin) (w : Words) → holds.cost_at (holds.pinned p) w ≡ pins.cost p w + 1
pinned-cost p w = which p.at
  where
    which : (x : PinAt) → holds.cost_at (holds.pinned (record p { at = x })) w ≡ pins.cost_at p.frame x w + 1
    which pin_at.Load = refl
    which (pin_at.Get seen) = refl
    which (pin_at.Held word) = refl
    which (pin_at.Gone word) = refl

named-cost : (who : Who) (body : Option BodyValue) (frame : Option Frame) (w : Words) → (frame ≡ None → is_some body ≡ true) → holds.cost_at (holds.named_at who body frame) w < 4
named-cost who body (Some frame) w some = omega arith
named-cost who (Some body) None w some = omega arith
named-cost who None None w some = absurd (both_ways true (sym (some refl)) refl)

locked-cost : (frame : Frame) (got : Option BodyValue) (w : Words) → is_some got ≡ true → holds.cost_at (holds.locked_at frame got) w < 1
locked-cost frame (Some body) w some = omega arith
locked-cost frame None w some = absurd (both_ways true (sym some) refl)

pub hold-falls : (w now : Words) (h : Hold) (step : Step) (found : ℕ) (got : Option BodyValue) → holds.plan h ≡ Some step → holds.Shows h found got → read (place_of step) w ≡ found → (word_after step found ≡ found → now ≡ w)
    → is_waits (holds.turn h found) ≡ false → holds.cost (holds.next h found got) now < holds.cost h w
hold-falls w now h step found got is shows met kept goes = which h.at is shows goes
  where
    which : (x : HoldAt) → holds.plan_at h.page x ≡ Some step → holds.ShowsAt x found got → is_waits (holds.turn_at x found) ≡ false → holds.cost_at (holds.next_at h.who x found got) now < holds.cost_at x w
    which hold_at.LockPage e shows goes = by (is_free found) goes
      where
        by : (b : Bool) → is_waits (cond b Moved (Waits found)) ≡ false → holds.cost_at (cond b (hold_at.LoadCache got) hold_at.LockPage) now < 5
        by true goes = omega arith
        by false goes = absurd (both_ways true goes refl)
    which (hold_at.LoadCache body) e shows goes = named-cost h.who body (frame_in found) now shows
    which (hold_at.Pin p) e shows goes =
        let less : pins.cost (pins.next p found) now < pins.cost p w = pin-falls w now p step found e met kept in
        let more : holds.cost_at (holds.pinned (pins.next p found)) now ≡ pins.cost (pins.next p found) now + 1 = pinned-cost (pins.next p found) now in
        omega arith
    which (hold_at.LockFrame frame) e shows goes = by (is_free found) goes shows
      where
        by : (b : Bool) → is_waits (cond b Moved (Waits found)) ≡ false → (b ≡ true → is_some got ≡ true) → holds.cost_at (cond b (holds.locked_at frame got) (hold_at.LockFrame frame)) now < 1
        by true goes shows = locked-cost frame got now (shows refl)
        by false goes shows = absurd (both_ways true goes refl)
    which (hold_at.Held frame body) e shows goes = absurd (none-some step e)

pub hold-small : (w : Words) (h : Hold) → holds.cost h w ≤ stale_weight + 2
hold-small w h = which h.at
  where
    which : (x : HoldAt) → holds.cost_at x w ≤ stale_weight + 2
    which hold_at.LockPage = omega arith
    which (hold_at.LoadCache body) = omega arith
    which (hold_at.Pin p) = let most : pins.cost p w ≤ stale_weight + 1 = pin-small w p in omega arith
    which (hold_at.LockFrame frame) = omega arith
    which (hold_at.Held frame body) = omega arith

pub hold-class : (h : Hold) → (1 ≤ holds.class h) × (holds.class h ≤ 4)
hold-class h = which h.at
  where
    which : (x : HoldAt) → (1 ≤ holds.class_at x) × (holds.class_at x ≤ 4)
    which hold_at.LockPage = (omega arith, omega arith)
    which (hold_at.LoadCache body) = (omega arith, omega arith)
    which (hold_at.Pin p) = (omega arith, omega arith)
    which (hold_at.LockFrame frame) = (omega arith, omega arith)
    which (hold_at.Held None body) = (omega arith, omega arith)
    which (hold_at.Held (Some frame) body) = (omega arith, omega arith)

-- none of its steps poisons a frame or takes its poison back
pub hold-mild : (s : Hold) (step : Step) → holds.plan s ≡ Some step → IsMild step
hold-mild s step is = which s.at is
  where
    which : (x : HoldAt) → holds.plan_at s.page x ≡ Some step → IsMild step
    which hold_at.LockPage e = subst IsMild (same_Some (steps.LockPage s.page) step e) tt
    which (hold_at.LoadCache body) e = subst IsMild (same_Some (steps.Load (places.Cache s.page)) step e) tt
    which (hold_at.Pin p) e = pin-mild p step e
    which (hold_at.LockFrame frame) e = subst IsMild (same_Some (steps.LockFrame frame) step e) tt
    which (hold_at.Held frame body) e = absurd (none-some step e)

-- none of its steps lists an entry by itself
pub hold-lists : (s : Hold) (step : Step) → holds.plan s ≡ Some step → ListsNone step
hold-lists s step is = which s.at is
  where
    which : (x : HoldAt) → holds.plan_at s.page x ≡ Some step → ListsNone step
    which hold_at.LockPage e = subst ListsNone (same_Some (steps.LockPage s.page) step e) tt
    which (hold_at.LoadCache body) e = subst ListsNone (same_Some (steps.Load (places.Cache s.page)) step e) tt
    which (hold_at.Pin p) e = pin-lists p step e
    which (hold_at.LockFrame frame) e = subst ListsNone (same_Some (steps.LockFrame frame) step e) tt
    which (hold_at.Held frame body) e = absurd (none-some step e)

module _ {layout : Layout} {seat : ℕ} {a b : State} {s t : Hold} {turn : Turn} (made : Made holds.task layout seat a b s t turn) where
  held-cost-falls : is_waits turn ≡ false → CostFalls holds.task layout a b s t
  held-cost-falls goes = subst (λ (x : Hold). holds.cost x (words_at layout b) < holds.cost s (words_at layout a)) (sym made.follows.0)
      (hold-falls (words_at layout a) (words_at layout b) s made.step made.found made.got made.planned (holding.both layout (view_of a seat) _ s made.step made.found made.got made.fits made.planned (steps-on made)).0 (met made) (words-kept made)
      (sym (ap is_waits made.follows.1) ∙ goes))

  -- a lock is held by nobody, where nobody lists one
  never-waits : is_waits turn ≡ true → Quiet (holds.class s) layout a seat → ⊥
  never-waits waits quiet = which s.at made.planned made.fits.at (sym (ap is_waits made.follows.1) ∙ waits) quiet
    where
      free : (word : ℕ) → lock_of word ≡ 0 → is_waits (cond (is_free word) Moved (Waits word)) ≡ true → ⊥
      free word unlocked = by (is_free word) refl
        where
          by : (c : Bool) → is_free word ≡ c → is_waits (cond c Moved (Waits word)) ≡ true → ⊥
          by true is waits = both_ways true (sym waits) refl
          by false is waits = absurd (let locked : lock_of word ≡ 1 = held-word word is in omega arith)

      which : (x : HoldAt) → holds.plan_at s.page x ≡ Some made.step → holds.FitsAt layout (view_of a seat) s.who s.page x → is_waits (holds.turn_at x made.found) ≡ true → Quiet (holds.class_at x) layout a seat → ⊥
      which hold_at.LockPage e fits waits quiet = free made.found
          (page-free layout a made.rule s.page made.found made.fits.page (met-at e) (no-page quiet (omega arith) (ap (λ (h : Hand). h.pages) fits))) waits
        where
          met-at : Some (steps.LockPage s.page) ≡ Some made.step → made.found ≡ slice_index a.words (index layout (places.Page s.page))
          met-at e = made.move.met ∙ ap (λ (x : Step). slice_index a.words (index layout (place_of x))) (sym (same_Some (steps.LockPage s.page) made.step e))
      which (hold_at.LoadCache body) e fits waits quiet = both_ways true (sym waits) refl
      which (hold_at.Pin p) e fits waits quiet = both_ways true (sym waits ∙ pin-goes p made.found) refl
      which (hold_at.LockFrame frame) e fits waits quiet = free made.found
          (frame-free layout a made.rule frame made.found fits.1 (met-at e) (no-lock quiet (omega arith) (ap (λ (h : Hand). h.locks) fits.0))) waits
        where
          met-at : Some (steps.LockFrame frame) ≡ Some made.step → made.found ≡ slice_index a.words (index layout (places.Frame frame))
          met-at e = made.move.met ∙ ap (λ (x : Step). slice_index a.words (index layout (place_of x))) (sym (same_Some (steps.LockFrame frame) made.step e))
      which (hold_at.Held frame body) e fits waits quiet = none-some made.step e

pub hold-ranked : IsRanked holds.task
hold-ranked = rank-of holds.task (λ s. refl) hold-class (λ layout a seat s rule fits. let few : holds.cost s (words_at layout a) ≤ stale_weight + 2 = hold-small (words_at layout a) s in omega arith)
    (λ layout seat a b s t turn made goes. held-cost-falls made goes) (λ layout seat a b s t turn made waits quiet. absurd (never-waits made waits quiet))
    (λ s. refl) hold-mild

-- ---- a page let go

released-cost : (r : Release) (w : Words) → unholds.cost_at (unholds.after_release r) w ≡ releases.cost r w + 1
released-cost r w = which r.at
  where
    which : (x : ReleaseAt) → unholds.cost_at (unholds.after_release (record r { at = x })) w ≡ releases.cost_at x + 1
    which release_at.Put = refl
    which (release_at.Give word) = refl
    which (release_at.Unreserve word) = refl
    which (release_at.Adopt word) = refl
    which (release_at.Retire word) = refl
    which (release_at.Back word) = refl

pub unhold-falls : (w now : Words) (u : Unhold) (step : Step) (found : ℕ) → unholds.plan u ≡ Some step → unholds.cost (unholds.next (unholds.bare u) found) now < unholds.cost u w
unhold-falls w now u step found is = which u.at is
  where
    which : (x : UnholdAt) → unholds.plan_at u.page x ≡ Some step → unholds.cost_at (unholds.next_at u.who (unholds.bare_at x) found) now < unholds.cost_at x w
    which (unhold_at.UnlockFrame frame count body) e = omega arith
    which (unhold_at.Release r) e =
        let less : releases.cost (releases.next r found) now < releases.cost r w = release-falls w now r step found e in
        let more : unholds.cost_at (unholds.after_release (releases.next r found)) now ≡ releases.cost (releases.next r found) now + 1 = released-cost (releases.next r found) now in
        omega arith
    which (unhold_at.UnlockPage body) e = omega arith
    which unhold_at.Over e = absurd (none-some step e)

pub unhold-small : (w : Words) (u : Unhold) → unholds.cost u w ≤ 5
unhold-small w u = which u.at
  where
    which : (x : UnholdAt) → unholds.cost_at x w ≤ 5
    which (unhold_at.UnlockFrame frame count body) = omega arith
    which (unhold_at.Release r) = let most : releases.cost r w ≤ 3 = release-small w r in omega arith
    which (unhold_at.UnlockPage body) = omega arith
    which unhold_at.Over = omega arith

pub unhold-class : (u : Unhold) → (1 ≤ unholds.class u) × (unholds.class u ≤ 4)
unhold-class u = which u.at
  where
    which : (x : UnholdAt) → (1 ≤ unholds.class_at x) × (unholds.class_at x ≤ 4)
    which (unhold_at.UnlockFrame frame count body) = (omega arith, omega arith)
    which (unhold_at.Release r) = let some : 1 ≤ releases.class r = (release-class r).0 in (omega arith, omega arith)
    which (unhold_at.UnlockPage body) = (omega arith, omega arith)
    which unhold_at.Over = (omega arith, omega arith)

-- none of its steps poisons a frame or takes its poison back
pub unhold-mild : (s : Unhold) (step : Step) → unholds.plan s ≡ Some step → IsMild step
unhold-mild s step is = which s.at is
  where
    which : (x : UnholdAt) → unholds.plan_at s.page x ≡ Some step → IsMild step
    which (unhold_at.UnlockFrame frame count body) e = subst IsMild (same_Some (steps.UnlockFrame frame) step e) tt
    which (unhold_at.Release r) e = release-mild r step e
    which (unhold_at.UnlockPage body) e = subst IsMild (same_Some (steps.UnlockPage s.page) step e) tt
    which unhold_at.Over e = absurd (none-some step e)

pub unhold-ranked : IsRanked unholds.task
unhold-ranked = rank-of unholds.task (λ s. refl) unhold-class (λ layout a seat s rule fits. let few : unholds.cost s (words_at layout a) ≤ 5 = unhold-small (words_at layout a) s in omega arith)
    (λ layout seat a b s t turn made goes. subst (λ (x : Unhold). unholds.cost x (words_at layout b) < unholds.cost s (words_at layout a)) (sym made.follows.0)
    (unhold-falls (words_at layout a) (words_at layout b) s made.step made.found made.planned))
    (λ layout seat a b s t turn made is quiet. absurd (both_ways true (sym is ∙ ap is_waits made.follows.1) refl))
    (λ s. refl) unhold-mild
