-- Each turn of an access lowers its cost, and its class tells what it holds.
use Rattle.std.proofs.Common.{◌≡◌, ◌≢◌, ℕ, ◌+◌, ◌*◌, ◌/◌, ◌<◌, ◌≤◌, ◌==◌, ◌||◌, ◌⊎◌, inl, inr, Bool, true, false, cond, List, [], Option, Some, None, is_none, is_some, length, slice_get, slice_index, refl, sym, ap, ◌∙◌, subst, arith}
use Rattle.std.proofs.lemmas.Bool.{both_ways, eqb-true, ne_eqb}
use Rattle.std.proofs.lemmas.List.{length-set}
use Rattle.std.proofs.lemmas.Option.{none-some, same_Some, slice_get-get_or}
use Rattle.hwp_page.specs.hwp_geom.declared.Frame.{Frame}
use Rattle.hwp_page.specs.hwp_geom.declared.Layout.{Layout}
use Rattle.hwp_page.specs.hwp_geom.declared.Page.{Page}
use Rattle.hwp_page.specs.hwp_geom.declared.VSlot.{VSlot}
use Rattle.hwp_page.specs.hwp_geom.declared.Who.{Who}
use Rattle.hwp_page.specs.hwp_geom.Limits.{frame_limit}
use Rattle.hwp_page.specs.History.{BodyValue}
use Rattle.hwp_core.specs.hwp_words.Frames.{is_locked, lock_of, count_of, is_handled}
use Rattle.hwp_core.specs.hwp_words.Names.{page_named}
use Rattle.hwp_core.specs.hwp_words.Stops.{is_stopped}
use Rattle.hwp_core.specs.hwp_core_rule.declared.Made.{Made as Deed}
use Rattle.hwp_core.specs.hwp_core_rule.declared.SharedWord.{SharedWord}
use Rattle.hwp_core.specs.hwp_core_rule.declared.SharedWord.TheVariants as places
use Rattle.hwp_core.specs.hwp_core_rule.declared.State.{State}
use Rattle.hwp_core.specs.hwp_core_rule.declared.Step.{Step}
use Rattle.hwp_core.specs.hwp_core_rule.declared.Step.TheVariants as steps
use Rattle.hwp_core.specs.hwp_core_rule.declared.View.{View}
use Rattle.hwp_core.specs.hwp_core_rule.Moves.{Move}
use Rattle.hwp_core.specs.hwp_core_rule.Rule.{Holds}
use Rattle.hwp_core.specs.hwp_core_rule.Lasting.{IsMild}
use Rattle.hwp_core.specs.hwp_core_rule.Steps.{place_of, word_after}
use Rattle.hwp_core.specs.hwp_core_rule.Views.{frame_in}
use Rattle.hwp_core.specs.hwp_core_rule.Words.{Words, read, put as put_word, index, free_words}
use Rattle.hwp_core.proofs.of_hwp_core_rule.Lists.{same-number}
use Rattle.hwp_core.proofs.of_hwp_core_rule.MetWords.{frame-free, same-frame}
use Rattle.hwp_core.proofs.of_hwp_core_rule.MoveKeeps.{shaped}
use Rattle.hwp_core.specs.hwp_core_rule.declared.Turn.{Turn}
use Rattle.hwp_core.specs.hwp_core_rule.declared.Turn.TheVariants.{Moved, Waits}
use Rattle.hwp_core.specs.hwp_core_rule.Boards.{view_of}
use Rattle.hwp_core.specs.hwp_core_rule.Calls.{logs, rec_of}
use Rattle.hwp_core.specs.hwp_core_rule.Classes.{TellsClass}
use Rattle.hwp_core.specs.hwp_core_rule.Hands.{Hand, hand_of}
use Rattle.hwp_core.specs.hwp_core_rule.Ranks.{CostFalls, HasFailed, HasFrame, HasPage, IsRanked, Made, OtherHand, Quiet, access_most, again_most, failure_weight, failures_left, free_room, is_waits, stale, stale_weight, words_at}
use Rattle.hwp_core.proofs.of_hwp_core_rule.tasks.StepRanks.{met, words-after, words-kept, no-lock, failed, rank-failing}
use Rattle.hwp_core.specs.declared.GiveUp.{GiveUp}
use Rattle.hwp_core.specs.declared.give_up.GiveUpAt.{GiveUpAt}
use Rattle.hwp_core.specs.declared.give_up.GiveUpAt.TheVariants as give_up_at
use Rattle.hwp_core.specs.declared.Pin.{Pin}
use Rattle.hwp_core.specs.declared.pin.PinAt.{PinAt}
use Rattle.hwp_core.specs.declared.pin.PinAt.TheVariants as pin_at
use Rattle.hwp_core.specs.declared.Release.{Release}
use Rattle.hwp_core.specs.declared.release.ReleaseAt.{ReleaseAt}
use Rattle.hwp_core.specs.declared.release.ReleaseAt.TheVariants as release_at
use Rattle.hwp_core.specs.declared.Unlock.{Unlock}
use Rattle.hwp_core.specs.declared.unlock.UnlockAt.{UnlockAt}
use Rattle.hwp_core.specs.declared.unlock.UnlockAt.TheVariants as unlock_at
use Rattle.hwp_core.specs.GiveUps as give_ups
use Rattle.hwp_core.specs.Pins as pins
use Rattle.hwp_core.specs.Pins.{is_gone}
use Rattle.hwp_core.specs.Releases as releases
use Rattle.hwp_core.specs.Unlocks as unlocks
use Rattle.hwp_core.proofs.GiveUpCosts.{give-up-falls, give-up-goes, give-up-mild, give-up-ranked, give-up-small}
use Rattle.hwp_core.proofs.PinLaws as pinning
use Rattle.hwp_core.proofs.TaskCosts.{met-own, left-own, pin-falls, pin-mild, pin-small, pin-goes, stale-most}
use Rattle.hwp_core.proofs.UnlockLaws.{mild as unlock-mild, unlock-falls, unlock-small, unlock-class}
use Rattle.hwp_fault.specs.declared.access.Access.{Access}
use Rattle.hwp_fault.specs.declared.access.Request.{Request}
use Rattle.hwp_fault.specs.declared.access.AccessAt.{AccessAt}
use Rattle.hwp_fault.specs.declared.access.AccessAt.TheVariants as at
use Rattle.hwp_fault.specs.declared.access.AccessAnswer.{AccessAnswer}
use Rattle.hwp_fault.specs.declared.access.AccessAnswer.TheVariants as answers
use Rattle.hwp_fault.specs.declared.fault.Fault.{Fault}
use Rattle.hwp_fault.specs.declared.fault.FaultAt.{FaultAt}
use Rattle.hwp_fault.specs.declared.fault.FaultAt.TheVariants as fault_at
use Rattle.hwp_fault.specs.declared.fault.FaultAnswer.TheVariants as fault_answers
use Rattle.hwp_fault.specs.Accesses.{plan, plan_at, put, put_at, bare, bare_at, at_start, after_process, at_process, leading, at_translation, pinned, ended, unlocked, after_fault, is_frame, leads_to, Prepares, LooksOf, LooksAgain, NextAt, FaultStepped, IsPinned, IsFaulting, IsOfFrame, Fits, FitsAt, class, class_at, moved_away, then_cost, cost, cost_at, task as access-task}
use Rattle.hwp_fault.specs.Faults as faults
use Rattle.hwp_fault.proofs.AccessLaws.{slot-within}
use Rattle.hwp_fault.proofs.FaultCosts.{fault-mild, fault-ranked, fault-small, fault-class}
use Rattle.hwp_fault.proofs.FaultLaws as faulting
use Rattle.hwp_fault.proofs.TranslationWords.{named-referenced}

-- ---- costs

-- what is left of an access that starts over, with few words of free frames
pub again-few : (slot : VSlot) (w : Words) → length w.frees ≤ free_room → faults.again slot w ≤ again_most
again-few slot w few = let most : stale (is_some (frame_in (slice_index w.trans slot.0))) ≤ stale_weight = stale-most (is_some (frame_in (slice_index w.trans slot.0))) in omega arith

moved-few : (slot : VSlot) (frame : Frame) (w : Words) → moved_away slot frame w ≤ 2 * stale_weight
moved-few slot frame w =
    let most : stale (is_some (frame_in (slice_index w.trans slot.0))) ≤ stale_weight = stale-most (is_some (frame_in (slice_index w.trans slot.0))) in
    let too : stale (leads_to frame (slice_index w.trans slot.0)) ≤ stale_weight = stale-most (leads_to frame (slice_index w.trans slot.0)) in
    omega arith

-- each cost is small, where the words of free frames are at most four
pub access-small : (w : Words) (a : Access) → length w.frees ≤ free_room → cost a w ≤ access_most
access-small w a few = which a.at
  where
    then-few : (then : Option AccessAnswer) → then_cost a.request.slot then w ≤ again_most
    then-few None = again-few a.request.slot w few
    then-few (Some answer) = omega arith

    which : (x : AccessAt) → cost_at a.request.slot x w ≤ access_most
    which at.LoadStop = let most : faults.again a.request.slot w ≤ again_most = again-few a.request.slot w few in omega arith
    which at.LoadProcess = let most : faults.again a.request.slot w ≤ again_most = again-few a.request.slot w few in omega arith
    which at.LoadTranslation = let most : faults.again a.request.slot w ≤ again_most = again-few a.request.slot w few in omega arith
    which (at.Pin p) = let most : pins.cost p w ≤ stale_weight + 1 = pin-small w p in let too : moved_away a.request.slot p.frame w ≤ 2 * stale_weight = moved-few a.request.slot p.frame w in omega arith
    which (at.LockFrame frame) = let too : moved_away a.request.slot frame w ≤ 2 * stale_weight = moved-few a.request.slot frame w in omega arith
    which (at.LoadAgain frame body) = let too : moved_away a.request.slot frame w ≤ 2 * stale_weight = moved-few a.request.slot frame w in omega arith
    which (at.LoadBad frame body) = omega arith
    which (at.Unlock u then) = let most : unlocks.cost u w ≤ 4 = unlock-small w u in let rest : then_cost a.request.slot then w ≤ again_most = then-few then in omega (arith, most, rest)
    which (at.Fault f) = fault-small w f few
    which (at.GiveUp g) = let most : give_ups.cost g w ≤ 6 = give-up-small w g in omega (arith, most)
    which (at.Over answer) = omega arith

pub access-below : (w : Words) (a : Access) → length w.frees ≤ free_room → cost a w < failure_weight
access-below w a few = let some : cost a w ≤ access_most = access-small w a few in omega (arith, some)

pub access-class : (a : Access) → (1 ≤ class a) × (class a ≤ 4)
access-class a = which a.at
  where
    which : (x : AccessAt) → (1 ≤ class_at x) × (class_at x ≤ 4)
    which at.LoadStop = (omega arith, omega arith)
    which at.LoadProcess = (omega arith, omega arith)
    which at.LoadTranslation = (omega arith, omega arith)
    which (at.Pin p) = (omega arith, omega arith)
    which (at.LockFrame frame) = (omega arith, omega arith)
    which (at.LoadAgain frame body) = (omega arith, omega arith)
    which (at.LoadBad frame body) = (omega arith, omega arith)
    which (at.Unlock u then) = unlock-class u
    which (at.Fault f) = fault-class f
    which (at.GiveUp g) = give-up-ranked.classes g
    which (at.Over answer) = (omega arith, omega arith)

-- the words of free frames of a board
few-frees : (layout : Layout) (s : State) → Holds layout s → length (words_at layout s).frees ≤ free_room
few-frees layout s h =
    let all : length (words_at layout s).frees ≡ free_words layout = (shaped layout s h).frees in
    let few : layout.frames ≤ frame_limit = h.sound.frames in
    omega arith

-- ---- words that a step leaves

-- the places of a release's words: it leaves the translations, and the number of the words of free frames
release-leaves : (slot : VSlot) (w : Words) (x : ℕ) (r : Release) (step : Step) → releases.plan r ≡ Some step → faults.again slot (put_word (place_of step) x w) ≡ faults.again slot w
release-leaves slot w x r step is = which r.at is
  where
    of : {other : Step} → Some other ≡ Some step → faults.again slot (put_word (place_of other) x w) ≡ faults.again slot w → faults.again slot (put_word (place_of step) x w) ≡ faults.again slot w
    of {other} e same = subst (λ (s : Step). faults.again slot (put_word (place_of s) x w) ≡ faults.again slot w) (same_Some other step e) same

    which : (y : ReleaseAt) → releases.plan_at r.frame r.count y ≡ Some step → faults.again slot (put_word (place_of step) x w) ≡ faults.again slot w
    which release_at.Put e = of e refl
    which (release_at.Give word) e = of e (ap (λ (n : ℕ). n + 20 + stale (is_some (frame_in (slice_index w.trans slot.0)))) (length-set w.frees (r.frame.0 / 64) x))
    which (release_at.Unreserve word) e = of e refl
    which (release_at.Adopt word) e = of e refl
    which (release_at.Retire word) e = of e refl
    which (release_at.Back word) e = absurd (none-some step e)

unlock-leaves : (slot : VSlot) (w : Words) (x : ℕ) (u : Unlock) (step : Step) → unlocks.plan u ≡ Some step → faults.again slot (put_word (place_of step) x w) ≡ faults.again slot w
unlock-leaves slot w x u step is = which u.at is
  where
    which : (y : UnlockAt) → unlocks.plan_at y ≡ Some step → faults.again slot (put_word (place_of step) x w) ≡ faults.again slot w
    which (unlock_at.UnlockFrame frame body) e = subst (λ (s : Step). faults.again slot (put_word (place_of s) x w) ≡ faults.again slot w) (same_Some (steps.UnlockFrame frame) step e) refl
    which (unlock_at.Release r) e = release-leaves slot w x r step e
    which unlock_at.Over e = absurd (none-some step e)

then-leaves : (slot : VSlot) (then : Option AccessAnswer) (w now : Words) → faults.again slot now ≡ faults.again slot w → then_cost slot then now ≡ then_cost slot then w
then-leaves slot None w now same = same
then-leaves slot (Some answer) w now same = refl

unlocked-cost : (slot : VSlot) (u : Unlock) (then : Option AccessAnswer) (w : Words) → cost_at slot (unlocked u then) w ≤ unlocks.cost u w + then_cost slot then w
unlocked-cost slot u then w = by (is_none (unlocks.plan u)) then
  where
    by : (over : Bool) (then : Option AccessAnswer) → cost_at slot (cond over (ended then) (at.Unlock u then)) w ≤ unlocks.cost u w + then_cost slot then w
    by true None = omega arith
    by true (Some answer) = omega arith
    by false then = omega arith

-- a fault that is over costs what follows it
fault-ended : (g : Fault) (w : Words) → cost_at g.slot (after_fault g) w ≤ faults.cost g w
fault-ended g w = which g.at
  where
    which : (x : FaultAt) → cost_at g.slot (after_fault (record g { at = x })) w ≤ faults.cost_at g.slot x w
    which (fault_at.Over None) = omega arith
    which (fault_at.Over (Some fault_answers.Again)) = omega arith
    which (fault_at.Over (Some (fault_answers.NoFrame place))) = omega arith
    which (fault_at.Over (Some (fault_answers.Sigbus place))) = omega arith
    which (fault_at.Hold h) = omega arith
    which (fault_at.LoadPte frame body) = omega arith
    which (fault_at.Kill frame body place) = omega arith
    which (fault_at.Fill f) = omega arith
    which (fault_at.MapIn m) = omega arith
    which (fault_at.Unhold u answer) = omega arith
    which (fault_at.GiveUp h) = omega arith

-- a frame that is named by a number
named-now : (frame : Frame) (word : ℕ) → leads_to frame word ≡ true → frame_in word ≡ Some frame
named-now frame word is = which (frame_in word) is
  where
    which : (f : Option Frame) → is_frame frame f ≡ true → f ≡ Some frame
    which None is = absurd (both_ways true (sym is) refl)
    which (Some named) is = ap Some (same-frame named frame (eqb-true named.0 frame.0 is))

-- a frame with references that isn't handled isn't gone
not-gone : (found : ℕ) → (1 ≤ count_of found) × (is_handled found ≡ false) → is_gone found ≡ false
not-gone found has = let counted : (count_of found == 0) ≡ false = ne_eqb (count_of found) 0 (λ e. omega (arith, e, has.0)) in ap (λ (b : Bool). b || is_handled found) counted ∙ has.1

module _ {layout : Layout} {seat : ℕ} {a b : State} {s t : Access} {turn : Turn} (made : Made access-task layout seat a b s t turn) where
  abbrev w : Words
  w = words_at layout a

  abbrev now : Words
  now = words_at layout b

  abbrev r : Request
  r = s.request

  few : length w.frees ≤ free_room
  few = few-frees layout a made.rule

  -- a load leaves all words
  load-kept : {place : SharedWord} → Some (steps.Load place) ≡ Some made.step → now ≡ w
  load-kept e = left-own w now made.found e (words-kept made) refl

  -- other steps leave all words but theirs
  puts : {other : Step} → Some other ≡ Some made.step → now ≡ put_word (place_of other) (word_after made.step made.found) w
  puts {other} e = words-after made ∙ ap (λ (x : Step). put_word (place_of x) (word_after made.step made.found) w) (sym (same_Some other made.step e))

  trans-there : slice_get w.trans r.slot.0 ≡ Some (slice_index w.trans r.slot.0)
  trans-there = slice_get-get_or w.trans r.slot.0 0 (subst (λ (n : ℕ). r.slot.0 < n) (sym (shaped layout a made.rule).trans) (slot-within layout r made.fits.1.names))

  -- a frame that is gone isn't where the translation leads
  gone-away : (frame : Frame) → frame.0 < layout.frames → read (places.Frame frame) w ≡ made.found → is_gone made.found ≡ true → leads_to frame (slice_index w.trans r.slot.0) ≡ false
  gone-away frame inside is gone = which (leads_to frame (slice_index w.trans r.slot.0)) refl
    where
      which : (c : Bool) → leads_to frame (slice_index w.trans r.slot.0) ≡ c → leads_to frame (slice_index w.trans r.slot.0) ≡ false
      which false e = e
      which true e = absurd (both_ways (is_gone made.found) (not-gone made.found
          (named-referenced layout a made.rule r.slot made.fits.1.names.decl made.fits.1.names.declared (slice_index w.trans r.slot.0) trans-there frame (named-now frame (slice_index w.trans r.slot.0) e) made.found frame-there)) gone)
        where
          frame-there : slice_get w.frames frame.0 ≡ Some made.found
          frame-there = slice_get-get_or w.frames frame.0 0 (subst (λ (n : ℕ). frame.0 < n) (sym (shaped layout a made.rule).frames) inside) ∙ ap (λ (n : ℕ). Some n) is

  -- what is left once a word was loaded
  after-stop : cost_at r.slot (at_start made.found) w < faults.again r.slot w + 2
  after-stop = which (is_stopped made.found)
    where
      which : (c : Bool) → cost_at r.slot (cond c (at.Over answers.Stopped) at.LoadProcess) w < faults.again r.slot w + 2
      which true = omega arith
      which false = omega arith

  after-proc : cost_at r.slot (at_process made.found) w < faults.again r.slot w + 1
  after-proc = which (page_named made.found)
    where
      which : (p : Option Page) → cost_at r.slot (after_process p) w < faults.again r.slot w + 1
      which None = omega arith
      which (Some page) = omega arith

  -- the word of the translation, just loaded, is what the next state takes it for
  after-pte : slice_index w.trans r.slot.0 ≡ made.found → cost_at r.slot (at_translation r made.found) w < faults.again r.slot w
  after-pte is = which (frame_in made.found) (ap frame_in is)
    where
      which : (f : Option Frame) → frame_in (slice_index w.trans r.slot.0) ≡ f → cost_at r.slot (leading r f) w < faults.again r.slot w
      which None none = let owed : stale (is_some (frame_in (slice_index w.trans r.slot.0))) ≡ stale_weight = ap (λ (g : Option Frame). stale (is_some g)) none in omega (arith, owed)
      which (Some frame) some =
          let met : stale (is_some (frame_in (slice_index w.trans r.slot.0))) ≡ 0 = ap (λ (g : Option Frame). stale (is_some g)) some in
          let here : stale (leads_to frame (slice_index w.trans r.slot.0)) ≡ 0 = ap (λ (g : Option Frame). stale (is_frame frame g)) some ∙ ap stale (same-number frame.0 frame.0 refl) in
          omega (arith, met, here)

  -- the reference
  after-pin : (p : Pin) (step : Step) → p.frame.0 < layout.frames → pins.plan p ≡ Some step → step ≡ made.step → cost_at r.slot (pinned (pins.next p made.found)) now < pins.cost p w + (12 + moved_away r.slot p.frame w)
  after-pin p step inside is same = subst (λ (n : Words). cost_at r.slot (pinned (pins.next p made.found)) n < pins.cost p w + (12 + moved_away r.slot p.frame w)) (sym now-is)
      (which (pins.next_at p.at made.found) gone-at (subst (λ (n : Words). pins.cost (pins.next p made.found) n < pins.cost p w) now-is (pin-falls w now p step made.found is (subst (λ (x : Step). read (place_of x) w ≡ made.found) (sym same) (met made)) (subst (λ (x : Step). word_after x made.found ≡ made.found → now ≡ w) (sym same) (words-kept made)))))
    where
      here : place_of made.step ≡ places.Frame p.frame
      here = ap place_of (sym same) ∙ pinning.place-is p is

      then : Words
      then = put_word (places.Frame p.frame) (word_after made.step made.found) w

      now-is : now ≡ put_word (places.Frame p.frame) (word_after made.step made.found) w
      now-is = words-after made ∙ ap (λ (q : SharedWord). put_word q (word_after made.step made.found) w) here

      met-here : read (places.Frame p.frame) w ≡ made.found
      met-here = ap (λ (q : SharedWord). read q w) (sym here) ∙ met made

      IsGone : PinAt → Type 0
      IsGone (pin_at.Gone word) = is_gone made.found ≡ true
      IsGone x = Unit {0}

      shown-gone : (c : Bool) → is_gone made.found ≡ c → IsGone (cond c (pin_at.Gone made.found) (pin_at.Get made.found))
      shown-gone true e = e
      shown-gone false e = tt

      gone-at : IsGone (pins.next_at p.at made.found)
      gone-at = by p.at is
        where
          by : (x : PinAt) → pins.plan_at p.frame x ≡ Some step → IsGone (pins.next_at x made.found)
          by pin_at.Load e = shown-gone (is_gone made.found) refl
          by (pin_at.Get seen) e = got (made.found == seen)
            where
              got : (c : Bool) → IsGone (cond c (pin_at.Held seen) (pins.at_word made.found))
              got true = tt
              got false = shown-gone (is_gone made.found) refl
          by (pin_at.Held word) e = absurd (none-some step e)
          by (pin_at.Gone word) e = absurd (none-some step e)

      which : (x : PinAt) → IsGone x → pins.cost_at p.frame x (put_word (places.Frame p.frame) (word_after made.step made.found) w) < pins.cost p w
          → cost_at r.slot (pinned (record p { at = x })) (put_word (places.Frame p.frame) (word_after made.step made.found) w) < pins.cost p w + (12 + moved_away r.slot p.frame w)
      which pin_at.Load gone less = omega (arith, less)
      which (pin_at.Get seen) gone less = omega (arith, less)
      which (pin_at.Held word) gone less = omega (arith, less)
      which (pin_at.Gone word) gone less =
          let away : stale (leads_to p.frame (slice_index w.trans r.slot.0)) ≡ stale_weight = ap stale (gone-away p.frame inside met-here gone) in
          omega (arith, less, away, few)

  -- the frame's lock
  after-lock : (frame : Frame) (y : AccessAt) → Some (steps.LockFrame frame) ≡ Some made.step → NextAt layout r (at.LockFrame frame) made.found made.got y turn → is_waits turn ≡ false → cost_at r.slot y now < 12 + moved_away r.slot frame w
  after-lock frame y e next goes = which (is_locked made.found) next.0 (sym (ap is_waits next.1) ∙ goes)
    where
      which : (c : Bool) → y ≡ cond c (at.LockFrame frame) (at.LoadAgain frame made.got) → is_waits (cond c (Waits made.found) Moved) ≡ false → cost_at r.slot y now < 12 + moved_away r.slot frame w
      which true is goes = absurd (both_ways true goes refl)
      which false is goes = subst (λ (x : AccessAt). cost_at r.slot x now < 12 + moved_away r.slot frame w) (sym is) (subst (λ (n : Words). 11 + moved_away r.slot frame n < 12 + moved_away r.slot frame w) (sym (puts e)) (omega arith))

  -- another look
  after-look : (frame : Frame) (body : Option BodyValue) (y : AccessAt) → slice_index w.trans r.slot.0 ≡ made.found → LooksAgain r frame body made.found y → cost_at r.slot y w < 11 + moved_away r.slot frame w
  after-look frame body y is looks = which (leads_to frame made.found) (ap (leads_to frame) is) body looks
    where
      ready : (x : BodyValue) (y : AccessAt) → Prepares r frame x y → cost_at r.slot y w < 11 + moved_away r.slot frame w
      ready x (at.LoadBad of b) is = omega arith
      ready x (at.GiveUp g) is = subst (λ (h : GiveUp). give_ups.cost h w < 11 + moved_away r.slot frame w) (sym is) (omega arith)
      ready x at.LoadStop is = absurd is
      ready x at.LoadProcess is = absurd is
      ready x at.LoadTranslation is = absurd is
      ready x (at.Pin p) is = absurd is
      ready x (at.LockFrame of) is = absurd is
      ready x (at.LoadAgain of other) is = absurd is
      ready x (at.Unlock u then) is = absurd is
      ready x (at.Fault f) is = absurd is
      ready x (at.Over answer) is = absurd is

      which : (c : Bool) → leads_to frame (slice_index w.trans r.slot.0) ≡ c → (b : Option BodyValue) → LooksOf c r frame b y → cost_at r.slot y w < 11 + moved_away r.slot frame w
      which true leads None next = absurd next
      which true leads (Some x) next = ready x y next
      which false leads b next = subst (λ (x : AccessAt). cost_at r.slot x w < 11 + moved_away r.slot frame w) (sym next)
          (let away : stale (leads_to frame (slice_index w.trans r.slot.0)) ≡ stale_weight = ap stale leads in omega (arith, away, few))

  -- the frame let go
  after-unlock : (u : Unlock) (then : Option AccessAnswer) → unlocks.plan u ≡ Some made.step → cost_at r.slot (unlocked (unlocks.next (unlocks.bare u) made.found) then) now < unlocks.cost u w + then_cost r.slot then w
  after-unlock u then e =
      let less : unlocks.cost (unlocks.next (unlocks.bare u) made.found) now < unlocks.cost u w = unlock-falls w now u made.step made.found e in
      let most : cost_at r.slot (unlocked (unlocks.next (unlocks.bare u) made.found) then) now ≤ unlocks.cost (unlocks.next (unlocks.bare u) made.found) now + then_cost r.slot then now = unlocked-cost r.slot (unlocks.next (unlocks.bare u) made.found) then now in
      let same : then_cost r.slot then now ≡ then_cost r.slot then w = then-leaves r.slot then w now (ap (faults.again r.slot) (words-after made) ∙ unlock-leaves r.slot w (word_after made.step made.found) u made.step e) in
      omega (arith, less, most, same)

  -- ---- every state

  -- a step of the fault
  fault-made : (f g : Fault) → IsFaulting made.fits.0 layout (view_of a seat) r f → faults.plan f ≡ Some made.step → Move layout seat (rec_of layout r.who made.step (logs (faults.put f)) made.found made.got) a b
      → faults.Follows layout (faults.bare f) made.found made.got g turn → Made faults.task layout seat a b f g turn
  fault-made f g has e move follows = record {
    step = made.step;
    found = made.found;
    got = made.got;
    rule = made.rule;
    kept = made.kept;
    fits = (made.fits.0, has.fault);
    planned = e;
    move = subst (λ (by : Who). Move layout seat (rec_of layout by made.step (logs (faults.put f)) made.found made.got) a b) (sym has.own) move;
    brings = made.brings;
    follows = follows;
  }

  after-step : (f : Fault) (y : AccessAt) → IsFaulting made.fits.0 layout (view_of a seat) r f → (next : FaultStepped layout (faults.bare f) made.found made.got y turn) → faults.cost next.after now < faults.cost f w → cost_at r.slot y now < faults.cost f w
  after-step f y has next less =
      let most : cost_at r.slot y now ≤ faults.cost next.after now =
      subst (λ (x : AccessAt). cost_at r.slot x now ≤ faults.cost next.after now) (sym next.next_is)
      (subst (λ (slot : VSlot). cost_at slot (after_fault next.after) now ≤ faults.cost next.after now) (ap (λ (x : Fault). x.slot) next.follows.after_is ∙ has.slot_is) (fault-ended next.after now)) in
      omega (arith, less, most)

  falls-at : (x y : AccessAt) → plan_at r x ≡ Some made.step → FitsAt made.fits.0 layout (view_of a seat) r x → Move layout seat (rec_of layout r.who made.step (logs (put_at x)) made.found made.got) a b
      → NextAt layout r (bare_at x) made.found made.got y turn → is_waits turn ≡ false → (cost_at r.slot y now < cost_at r.slot x w) ⊎ (failures_left now < failures_left w)
  falls-at at.LoadStop y e has move next goes = inl (subst (λ (z : AccessAt). cost_at r.slot z now < faults.again r.slot w + 2) (sym next.0) (subst (λ (n : Words). cost_at r.slot (at_start made.found) n < faults.again r.slot w + 2) (sym (load-kept e)) after-stop))
  falls-at at.LoadProcess y e has move next goes = inl (subst (λ (z : AccessAt). cost_at r.slot z now < faults.again r.slot w + 1) (sym next.0) (subst (λ (n : Words). cost_at r.slot (at_process made.found) n < faults.again r.slot w + 1) (sym (load-kept e)) after-proc))
  falls-at at.LoadTranslation y e has move next goes = inl (subst (λ (z : AccessAt). cost_at r.slot z now < faults.again r.slot w) (sym next.0)
      (subst (λ (n : Words). cost_at r.slot (at_translation r made.found) n < faults.again r.slot w) (sym (load-kept e)) (after-pte (met-own w made.found e (met made)))))
  falls-at (at.Pin p) y e has move next goes = inl (subst (λ (z : AccessAt). cost_at r.slot z now < pins.cost p w + (12 + moved_away r.slot p.frame w)) (sym next.0) (after-pin p made.step has.pin.frame e refl))
  falls-at (at.LockFrame frame) y e has move next goes = inl (after-lock frame y e next goes)
  falls-at (at.LoadAgain frame body) y e has move next goes = inl (subst (λ (n : Words). cost_at r.slot y n < 11 + moved_away r.slot frame w) (sym (load-kept e)) (after-look frame body y (met-own w made.found e (met made)) next.0))
  falls-at (at.LoadBad frame body) y e has move next goes = inl (subst (λ (z : AccessAt). cost_at r.slot z now < 10) (sym next.0) (omega arith))
  falls-at (at.Unlock u then) y e has move next goes = inl (subst (λ (z : AccessAt). cost_at r.slot z now < unlocks.cost u w + then_cost r.slot then w) (sym next.0) (after-unlock u then e))
  falls-at (at.Fault f) y e has move next goes = elim (fault-ranked.falls layout seat a b f next.after turn (fault-made f next.after has e move next.follows) goes) [
    | inl less ↦ inl (after-step f y has next less)
    | inr fails ↦ inr fails.fewer
  ]
  falls-at (at.GiveUp g) y e has move next goes = inl (subst (λ (z : AccessAt). cost_at r.slot z now < give_ups.cost g w) (sym next.0) (give-up-falls w now g made.step made.found e))
  falls-at (at.Over answer) y e has move next goes = absurd (none-some made.step e)

  request-is : t.request ≡ r
  request-is = ap (λ (x : Access). x.request) made.follows.rest

  pub cost-falls : is_waits turn ≡ false → CostFalls access-task layout a b s t ⊎ HasFailed access-task layout a b s t
  cost-falls goes = elim (falls-at s.at t.at made.planned made.fits.1.at made.move made.follows.at goes) [
    | inl less ↦ inl (subst (λ (q : Request). cost_at q.slot t.at now < cost s w) (sym request-is) less)
    | inr fewer ↦ inr (failed fewer (access-below now t (few-frees layout b made.kept)))
  ]

  -- ---- waiting

  unmoved : (other : Turn) → is_waits other ≡ false → turn ≡ other → is_waits turn ≡ true → ⊥
  unmoved other goes is waits = both_ways (is_waits turn) (ap is_waits is ∙ goes) waits

  lock-free : (frame : Frame) (y : AccessAt) → Some (steps.LockFrame frame) ≡ Some made.step → IsPinned made.fits.0 layout (view_of a seat) r frame → turn ≡ cond (is_locked made.found) (Waits made.found) Moved → is_waits turn ≡ true → Quiet 4 layout a seat → ⊥
  lock-free frame y e has is waits quiet = which (is_locked made.found) refl
    where
      unlocked-word : lock_of made.found ≡ 0
      unlocked-word = frame-free layout a made.rule frame made.found has.within (made.move.met ∙ ap (λ (x : Step). slice_index a.words (index layout (place_of x))) (sym (same_Some (steps.LockFrame frame) made.step e)))
          (no-lock quiet (omega arith) (ap (λ (h : Hand). h.locks) has.hand_is))

      which : (c : Bool) → is_locked made.found ≡ c → ⊥
      which true e = let one : lock_of made.found ≡ 1 = eqb-true (lock_of made.found) 1 e in absurd (omega (arith, one, unlocked-word))
      which false e = unmoved Moved refl (is ∙ ap (λ (c : Bool). cond c (Waits made.found) Moved) e) waits

  waits-at : (x y : AccessAt) → plan_at r x ≡ Some made.step → FitsAt made.fits.0 layout (view_of a seat) r x → Move layout seat (rec_of layout r.who made.step (logs (put_at x)) made.found made.got) a b
      → NextAt layout r (bare_at x) made.found made.got y turn → is_waits turn ≡ true → Quiet (class_at x) layout a seat → cost_at r.slot y now < cost_at r.slot x w
  waits-at at.LoadStop y e has move next waits quiet = absurd (unmoved Moved refl next.1 waits)
  waits-at at.LoadProcess y e has move next waits quiet = absurd (unmoved Moved refl next.1 waits)
  waits-at at.LoadTranslation y e has move next waits quiet = absurd (unmoved Moved refl next.1 waits)
  waits-at (at.Pin p) y e has move next waits quiet = absurd (unmoved (pins.turn p made.found) (pin-goes p made.found) next.1 waits)
  waits-at (at.LockFrame frame) y e has move next waits quiet = absurd (lock-free frame y e has next.1 waits quiet)
  waits-at (at.LoadAgain frame body) y e has move next waits quiet = absurd (unmoved Moved refl next.1 waits)
  waits-at (at.LoadBad frame body) y e has move next waits quiet = absurd (unmoved Moved refl next.1 waits)
  waits-at (at.Unlock u then) y e has move next waits quiet = absurd (unmoved Moved refl next.1 waits)
  waits-at (at.Fault f) y e has move next waits quiet = after-step f y has next (only (fault-ranked.waits layout seat a b f next.after turn (fault-made f next.after has e move next.follows) waits quiet))
    where
      only : CostFalls faults.task layout a b f next.after ⊎ ((false ≡ true) × OtherHand a seat) → faults.cost next.after now < faults.cost f w
      only (inl less) = less
      only (inr gives) = absurd (both_ways true (sym gives.0) refl)
  waits-at (at.GiveUp g) y e has move next waits quiet = absurd (unmoved (give_ups.turn (give_ups.bare g)) (give-up-goes (give_ups.bare g)) next.1 waits)
  waits-at (at.Over answer) y e has move next waits quiet = absurd (none-some made.step e)

  pub cost-waits : is_waits turn ≡ true → Quiet (class s) layout a seat → CostFalls access-task layout a b s t
  cost-waits waits quiet = subst (λ (q : Request). cost_at q.slot t.at now < cost s w) (sym request-is) (waits-at s.at t.at made.planned made.fits.1.at made.move made.follows.at waits quiet)

-- none of its steps poisons a frame or takes its poison back
pub access-mild : (a : Access) (step : Step) → plan a ≡ Some step → IsMild step
access-mild a step is = which a.at is
  where
    which : (x : AccessAt) → plan_at a.request x ≡ Some step → IsMild step
    which at.LoadStop e = subst IsMild (same_Some (steps.Load places.Stop) step e) tt
    which at.LoadProcess e = subst IsMild (same_Some (steps.Load (places.Process a.request.process)) step e) tt
    which at.LoadTranslation e = subst IsMild (same_Some (steps.Load (places.Trans a.request.slot)) step e) tt
    which (at.Pin p) e = pin-mild p step e
    which (at.LockFrame frame) e = subst IsMild (same_Some (steps.LockFrame frame) step e) tt
    which (at.LoadAgain frame body) e = subst IsMild (same_Some (steps.Load (places.Trans a.request.slot)) step e) tt
    which (at.LoadBad frame body) e = subst IsMild (same_Some (steps.Load (places.Bad frame)) step e) tt
    which (at.Unlock u then) e = unlock-mild u step e
    which (at.Fault f) e = fault-mild f step e
    which (at.GiveUp g) e = give-up-mild g step e
    which (at.Over answer) e = absurd (none-some step e)

pub access-ranked : IsRanked access-task
access-ranked = rank-failing access-task (λ s. refl) access-class (λ layout a seat s rule fits. let few : cost s (words_at layout a) < failure_weight = access-below (words_at layout a) s (few-frees layout a rule) in omega arith)
    (λ layout seat a b s t turn made goes. cost-falls made goes)
    (λ layout seat a b s t turn made waits quiet. cost-waits made waits quiet)
    (λ s. refl) access-mild

-- ---- the class

-- nothing is locked, in hand or reserved
no-frame : (view : View) (h : Hand) → hand_of view ≡ h → h.locks ≡ [] → h.hands ≡ [] → h.reserved ≡ 0 → HasFrame view → ⊥
no-frame view h is locks hands reserved (inl some) = some (ap (λ (x : Hand). x.locks) is ∙ locks)
no-frame view h is locks hands reserved (inr (inl some)) = some (ap (λ (x : Hand). x.hands) is ∙ hands)
no-frame view h is locks hands reserved (inr (inr some)) = some (ap (λ (x : Hand). x.reserved) is ∙ reserved)

planned : (step : Step) (plan : Option Step) → plan ≡ Some step → plan ≢ None
planned step plan some is = none-some step (sym is ∙ some)

going : (plan : Option Step) → is_none plan ≡ false → plan ≢ None
going plan on is = both_ways (is_none plan) on (ap is_none is)

unlock-tells : (layout : Layout) (view : View) (u : Unlock) → unlocks.Fits layout view u → is_none (unlocks.plan u) ≡ false → (HasFrame view → unlocks.class u ≡ 1) × (view.pages ≡ [])
unlock-tells layout view u fits on = which u.at fits.at on
  where
    released : (r : Release) (x : ReleaseAt) → hand_of view ≡ unlocks.releasing r.frame x → is_none (releases.plan_at r.frame r.count x) ≡ false → (HasFrame view → releases.class_at x ≡ 1) × (view.pages ≡ [])
    released r release_at.Put hand on = (λ has. absurd (no-frame view _ hand refl refl refl has), ap (λ (h : Hand). h.pages) hand)
    released r (release_at.Give word) hand on = (λ has. refl, ap (λ (h : Hand). h.pages) hand)
    released r (release_at.Unreserve word) hand on = (λ has. refl, ap (λ (h : Hand). h.pages) hand)
    released r (release_at.Adopt word) hand on = (λ has. refl, ap (λ (h : Hand). h.pages) hand)
    released r (release_at.Retire word) hand on = (λ has. refl, ap (λ (h : Hand). h.pages) hand)
    released r (release_at.Back word) hand on = absurd (both_ways true on refl)

    which : (x : UnlockAt) → unlocks.FitsAt layout view u.who x → is_none (unlocks.plan_at x) ≡ false → (HasFrame view → unlocks.class_at x ≡ 1) × (view.pages ≡ [])
    which (unlock_at.UnlockFrame frame None) has on = (λ some. refl, ap (λ (h : Hand). h.pages) has.hand_is)
    which (unlock_at.UnlockFrame frame (Some body)) has on = (λ some. refl, ap (λ (h : Hand). h.pages) has.hand_is)
    which (unlock_at.Release r) has on = released r r.at has.hand_is has.under_way
    which unlock_at.Over has on = absurd (both_ways true on refl)

-- what a state tells: its class while a frame is held, and that no page is
abbrev Tells : View → Option Step → ℕ → Type 0
Tells view plan class = (HasFrame view → (class ≡ 1) × (plan ≢ None)) × (HasPage view → (class ≤ 2) × (plan ≢ None))

-- nothing is held
tells-none : (view : View) (plan : Option Step) (class : ℕ) (h : Hand) → hand_of view ≡ h → h.locks ≡ [] → h.hands ≡ [] → h.reserved ≡ 0 → h.pages ≡ [] → Tells view plan class
tells-none view plan class h is locks hands reserved pages = (λ has. absurd (no-frame view h is locks hands reserved has), λ has. absurd (has (ap (λ (x : Hand). x.pages) is ∙ pages)))

-- a frame is held, and no page
tells-frame : (view : View) (step : Step) (pages : view.pages ≡ []) → Tells view (Some step) 1
tells-frame view step pages = (λ has. (refl, planned step (Some step) refl), λ has. absurd (has pages))

unlocking : (layout : Layout) (view : View) (u : Unlock) → unlocks.Fits layout view u → is_none (unlocks.plan u) ≡ false → Tells view (unlocks.plan u) (unlocks.class u)
unlocking layout view u fits on = let told = unlock-tells layout view u fits on in (λ has. (told.0 has, going (unlocks.plan u) on), λ has. absurd (has told.1))

tells-at : (base : List Deed) (layout : Layout) (view : View) (r : Request) (x : AccessAt) → FitsAt base layout view r x → Tells view (plan_at r x) (class_at x)
tells-at base layout view r at.LoadStop has = tells-none view _ _ _ has.hand_is refl refl refl refl
tells-at base layout view r at.LoadProcess has = tells-none view _ _ _ has.hand_is refl refl refl refl
tells-at base layout view r at.LoadTranslation has = tells-none view _ _ _ has.hand_is refl refl refl refl
tells-at base layout view r (at.Pin p) has = tells-none view _ _ _ has.hand_is refl refl refl refl
tells-at base layout view r (at.LockFrame frame) has = tells-none view _ _ _ has.hand_is refl refl refl refl
tells-at base layout view r (at.LoadAgain frame None) has = tells-frame view _ (ap (λ (h : Hand). h.pages) has.locked.hand_is)
tells-at base layout view r (at.LoadAgain frame (Some body)) has = tells-frame view _ (ap (λ (h : Hand). h.pages) has.locked.hand_is)
tells-at base layout view r (at.LoadBad frame body) has = tells-frame view _ (ap (λ (h : Hand). h.pages) has.taken.hand_is)
tells-at base layout view r (at.Unlock u then) has = unlocking layout view u has.unlock has.under_way
tells-at base layout view r (at.Fault f) has = faulting.tells layout view f has.fault
tells-at base layout view r (at.GiveUp g) has = which g.at has.give_up.at has.of_frame
  where
    which : (x : GiveUpAt) → give_ups.FitsAt layout view g.who x → IsOfFrame x → Tells view (give_ups.plan_at x) (give_ups.class_at x)
    which (give_up_at.Unhold u) has of = absurd of
    which (give_up_at.Unlock u) has of = unlocking layout view u has.unlock has.under_way
    which give_up_at.GiveUp has of = tells-none view _ _ _ has refl refl refl refl
    which give_up_at.Over has of = tells-none view _ _ _ has refl refl refl refl
tells-at base layout view r (at.Over answer) has = tells-none view _ _ _ has.hand_is refl refl refl refl

pub access-tells : TellsClass access-task
access-tells = record {
  frame = λ layout view s fits has. (tells-at fits.0 layout view s.request s.at fits.1.at).0 has;
  page = λ layout view s fits has. (tells-at fits.0 layout view s.request s.at fits.1.at).1 has;
  claim = λ layout view s frame cycle fits none. absurd (none-some (frame, cycle) none);
}
