-- What a turn of an access comes to that an instruction makes: its cost falls, with what its machine check may cost, or a failure
-- fewer is left.
use Rattle.std.proofs.Common.{◌≡◌, ◌⊎◌, inl, inr, ℕ, ◌+◌, ◌<◌, ◌≤◌, Bool, true, false, cond, Option, Some, None, is_none, slice_get, refl, sym, ap, ◌∙◌, subst, arith}
use Rattle.std.proofs.lemmas.Bool.{both_ways, eqb-true}
use Rattle.std.proofs.lemmas.Option.{none-some, slice_get-get_or}
use Rattle.hwp_fault.specs.hwp_geom.declared.Frame.{Frame}
use Rattle.hwp_fault.specs.hwp_geom.declared.Layout.{Layout}
use Rattle.hwp_fault.specs.hwp_geom.declared.Page.{Page}
use Rattle.hwp_fault.specs.hwp_page.History.{BodyValue}
use Rattle.hwp_fault.specs.hwp_words.Frames.{is_locked}
use Rattle.hwp_fault.specs.hwp_words.Names.{page_named}
use Rattle.hwp_fault.specs.hwp_words.Stops.{is_stopped}
use Rattle.hwp_fault.specs.hwp_core_rule.declared.SharedWord.{SharedWord}
use Rattle.hwp_fault.specs.hwp_core_rule.declared.SharedWord.TheVariants as places
use Rattle.hwp_fault.specs.hwp_core_rule.declared.State.{State}
use Rattle.hwp_fault.specs.hwp_core_rule.declared.Step.TheVariants as steps
use Rattle.hwp_fault.specs.hwp_core_rule.Views.{frame_in}
use Rattle.hwp_fault.specs.hwp_core_rule.Words.{Words}
use Rattle.hwp_fault.proofs.of_hwp_core_rule.MetWords.{same-frame}
use Rattle.hwp_fault.proofs.of_hwp_core_rule.MoveKeeps.{shaped}
use Rattle.hwp_fault.specs.hwp_core_rule.declared.Turn.{Turn}
use Rattle.hwp_fault.specs.hwp_core_rule.Boards.{view_of}
use Rattle.hwp_fault.specs.hwp_core_rule.Ranks.{CostFalls, HasFailed, Made, is_waits, words_at}
use Rattle.hwp_fault.proofs.of_hwp_core_rule.tasks.StepRanks.{met, words-kept}
use Rattle.hwp_fault.specs.hwp_core.declared.Pin.{Pin}
use Rattle.hwp_fault.specs.hwp_core.declared.pin.PinAt.{PinAt}
use Rattle.hwp_fault.specs.hwp_core.declared.pin.PinAt.TheVariants as pin_at
use Rattle.hwp_fault.specs.hwp_core.declared.Unlock.{Unlock}
use Rattle.hwp_fault.specs.hwp_core.Pins as pins
use Rattle.hwp_fault.specs.hwp_core.Unlocks as unlocks
use Rattle.hwp_fault.proofs.of_hwp_core.TaskCosts.{left-own, met-own}
use Rattle.hwp_fault.specs.declared.Access.{Access}
use Rattle.hwp_fault.specs.declared.AccessAnswer.{AccessAnswer}
use Rattle.hwp_fault.specs.declared.AccessAnswer.TheVariants as answers
use Rattle.hwp_fault.specs.declared.AccessKind.{AccessKind}
use Rattle.hwp_fault.specs.declared.AccessKind.TheVariants as kinds
use Rattle.hwp_fault.specs.declared.Fault.{Fault}
use Rattle.hwp_fault.specs.declared.FaultAnswer.{FaultAnswer}
use Rattle.hwp_fault.specs.declared.FaultAnswer.TheVariants as fault_answers
use Rattle.hwp_fault.specs.declared.Request.{Request}
use Rattle.hwp_fault.specs.declared.access.AccessAt.{AccessAt}
use Rattle.hwp_fault.specs.declared.access.AccessAt.TheVariants as at
use Rattle.hwp_fault.specs.Accesses.{FitsAt, LooksOf, NextAt, Prepares, after_fault_at, after_process, at_start, bare_at, cost, cost_at, ended, is_bad, is_frame, leading, leads_to, pinned_at, place_in, plan_at, reached, reply_by, reply_where, unlocked, word_in}
use Rattle.hwp_fault.specs.Accesses as accesses
use Rattle.hwp_fault.specs.Faults as faults
use Rattle.hwp_fault.proofs.AccessLaws.{slot-within}
use Rattle.hwp_fault.proofs.FaultCosts.{Lowered}
use Rattle.hwp_cpu_access.specs.Costs.{check_cost, past_cost, word_of}
use Rattle.hwp_cpu_access.proofs.FailureWords.{none-past, unlock-past}

-- ---- states that have met no bad line

abbrev IsPlain : AccessAt → Words → Type 0
IsPlain x w = check_cost x w ≡ 0

start-plain : (found : ℕ) (w : Words) → IsPlain (at_start found) w
start-plain found w = which (is_stopped found)
  where
    which : (b : Bool) → IsPlain (cond b (at.Over answers.Stopped) at.LoadProcess) w
    which true = refl
    which false = refl

process-plain : (p : Option Page) (w : Words) → IsPlain (after_process p) w
process-plain None w = refl
process-plain (Some page) w = refl

leading-plain : (a : Request) (f : Option Frame) (w : Words) → IsPlain (leading a f) w
leading-plain a None w = refl
leading-plain a (Some frame) w = refl

pin-plain : (p : Pin) (x : PinAt) (w : Words) → IsPlain (pinned_at p x) w
pin-plain p pin_at.Load w = refl
pin-plain p (pin_at.Get seen) w = refl
pin-plain p (pin_at.Held word) w = refl
pin-plain p (pin_at.Gone word) w = refl

lock-plain : (b : Bool) (frame : Frame) (got : Option BodyValue) (w : Words) → IsPlain (cond b (at.LockFrame frame) (at.LoadAgain frame got)) w
lock-plain true frame got w = refl
lock-plain false frame got w = refl

fault-plain : (f : Fault) (x : Option FaultAnswer) (w : Words) → IsPlain (after_fault_at f x) w
fault-plain f None w = refl
fault-plain f (Some fault_answers.Again) w = refl
fault-plain f (Some (fault_answers.NoFrame place)) w = refl
fault-plain f (Some (fault_answers.Sigbus place)) w = refl

-- a frame that is named by a number
named-now : (frame : Frame) (word : ℕ) → leads_to frame word ≡ true → frame_in word ≡ Some frame
named-now frame word is = which (frame_in word) is
  where
    which : (f : Option Frame) → is_frame frame f ≡ true → f ≡ Some frame
    which None is = absurd (both_ways true (sym is) refl)
    which (Some named) is = ap Some (same-frame named frame (eqb-true named.0 frame.0 is))

module _ {layout : Layout} {seat : ℕ} {a b : State} {s t : Access} {turn : Turn} (made : Made accesses.task layout seat a b s t turn) where
  abbrev w : Words
  w = words_at layout a

  abbrev now : Words
  now = words_at layout b

  abbrev r : Request
  r = s.request

  abbrev Lowers : Type 0
  Lowers = Lowered turn layout a b (cost t now + check_cost t.at now) (cost s w + check_cost s.at w)

  -- the access's own cost falls
  abbrev OwnFalls : Type 0
  OwnFalls = CostFalls accesses.task layout a b s t ⊎ ((is_waits turn ≡ false) × HasFailed accesses.task layout a b s t)

  abbrev Next_to : AccessAt → Type 0
  Next_to x = NextAt layout r (bare_at x) made.found made.got t.at turn

  -- a load leaves all words
  load-kept : {place : SharedWord} → Some (steps.Load place) ≡ Some made.step → now ≡ w
  load-kept e = left-own w now made.found e (words-kept made) refl

  -- where nothing is met, or nothing more than before, the access's own cost decides
  by-own : OwnFalls → check_cost t.at now ≤ check_cost s.at w → Lowers
  by-own goes le = elim goes [
    | inl less ↦ let falls : cost t now < cost s w = less in inl (omega (arith, falls, le))
    | inr failed ↦ inr (failed.0, failed.1.fewer)
  ]

  plainly : OwnFalls → IsPlain t.at now → Lowers
  plainly goes plain = by-own goes (omega (arith, plain))

  -- under its lock, no failure of the frame to which the translation leads has ended
  look-plain : (frame : Frame) (body : Option BodyValue) → Some (steps.Load (places.Trans r.slot)) ≡ Some made.step → LooksOf (leads_to frame made.found) r frame body t.at → IsPlain t.at now
  look-plain frame body e looks = which (leads_to frame made.found) refl body looks
    where
      there : slice_get w.trans r.slot.0 ≡ Some made.found
      there = slice_get-get_or w.trans r.slot.0 0 (subst (λ (n : ℕ). r.slot.0 < n) (sym (shaped layout a made.rule).trans) (slot-within layout r made.fits.1.names)) ∙ ap Some (met-own w made.found e (met made))

      ready : leads_to frame made.found ≡ true → (x : BodyValue) (y : AccessAt) → Prepares r frame x y → IsPlain y now
      ready leads x (at.LoadBad of b) is = ap (λ (f : Frame). past_cost (word_of f now)) is.0 ∙ ap (λ (n : Words). past_cost (word_of frame n)) (load-kept e)
          ∙ none-past layout a made.rule r.slot made.fits.1.names.decl made.fits.1.names.declared made.found there frame (named-now frame made.found leads)
      ready leads x (at.GiveUp g) is = refl
      ready leads x at.LoadStop is = absurd is
      ready leads x at.LoadProcess is = absurd is
      ready leads x at.LoadTranslation is = absurd is
      ready leads x (at.Pin p) is = absurd is
      ready leads x (at.LockFrame of) is = absurd is
      ready leads x (at.LoadAgain of other) is = absurd is
      ready leads x (at.Unlock u then) is = absurd is
      ready leads x (at.Fault f) is = absurd is
      ready leads x (at.Over answer) is = absurd is

      which : (c : Bool) → leads_to frame made.found ≡ c → (o : Option BodyValue) → LooksOf c r frame o t.at → IsPlain t.at now
      which true leads None next = absurd next
      which true leads (Some x) next = ready leads x t.at next
      which false leads o next = ap (λ (y : AccessAt). check_cost y now) next

  -- the bad lines of the frame
  bad-lowers : (frame : Frame) (body : BodyValue) → s.at ≡ at.LoadBad frame body → Some (steps.Load (places.Bad frame)) ≡ Some made.step → Next_to (at.LoadBad frame body) → Lowers
  bad-lowers frame body own e next = inl (subst (λ (y : AccessAt). cost_at t.request.slot y now + check_cost y now < cost_at r.slot s.at w + check_cost s.at w) (sym next.0)
      (subst (λ (x : AccessAt). cost_at t.request.slot reply_at now + check_cost reply_at now < cost_at r.slot x w + check_cost x w) (sym own) (omega (arith, most (is_bad made.found r.line), same))))
    where
      reply_at : AccessAt
      reply_at = at.Unlock (unlocks.begin r.who frame (Some (reached r made.found body))) (Some (accesses.reply r frame made.found body))

      same : past_cost (word_of frame now) ≡ past_cost (word_of frame w)
      same = ap (λ (n : Words). past_cost (word_of frame n)) (load-kept e)

      by-kind : (kind : AccessKind) (u : Unlock) → check_cost (at.Unlock u (Some (reply_by kind (word_in r body) (place_in r body)))) now ≡ 0
      by-kind kinds.Load u = refl
      by-kind (kinds.Store word) u = refl

      most : (bad : Bool) → check_cost (at.Unlock (unlocks.begin r.who frame (Some (reached r made.found body))) (Some (reply_where bad r frame body))) now ≤ 5 + past_cost (word_of frame now)
      most true = omega arith
      most false = let none : check_cost (at.Unlock (unlocks.begin r.who frame (Some (reached r made.found body))) (Some (reply_by r.kind (word_in r body) (place_in r body)))) now ≡ 0 = by-kind r.kind (unlocks.begin r.who frame (Some (reached r made.found body))) in omega (arith, none)

  -- the frame let go
  unlock-lowers : (u : Unlock) (then : Option AccessAnswer) → s.at ≡ at.Unlock u then → FitsAt made.fits.0 layout (view_of a seat) r (at.Unlock u then) → unlocks.plan u ≡ Some made.step → Next_to (at.Unlock u then) → OwnFalls → Lowers
  unlock-lowers u then own has e next goes = which then own next.0
    where
      after : Unlock
      after = unlocks.next (unlocks.bare u) made.found

      none-plain : (over : Bool) → IsPlain (cond over (ended None) (at.Unlock after None)) now
      none-plain true = refl
      none-plain false = refl

      other-plain : (answer : AccessAnswer) → ((v : Unlock) → IsPlain (at.Unlock v (Some answer)) now) → IsPlain (at.Over answer) now → t.at ≡ unlocked after (Some answer) → Lowers
      other-plain answer unlocking over is = plainly goes (ap (λ (y : AccessAt). check_cost y now) is ∙ by (is_none (unlocks.plan after)))
        where
          by : (b : Bool) → IsPlain (cond b (at.Over answer) (at.Unlock after (Some answer))) now
          by true = over
          by false = unlocking after

      which : (o : Option AccessAnswer) → s.at ≡ at.Unlock u o → t.at ≡ unlocked after o → Lowers
      which None at_is is = plainly goes (ap (λ (y : AccessAt). check_cost y now) is ∙ none-plain (is_none (unlocks.plan after)))
      which (Some (answers.Value word place)) at_is is = other-plain (answers.Value word place) (λ v. refl) refl is
      which (Some (answers.Stored place)) at_is is = other-plain (answers.Stored place) (λ v. refl) refl is
      which (Some (answers.Sigbus place)) at_is is = other-plain (answers.Sigbus place) (λ v. refl) refl is
      which (Some answers.NoFrame) at_is is = other-plain answers.NoFrame (λ v. refl) refl is
      which (Some (answers.Gone page)) at_is is = other-plain (answers.Gone page) (λ v. refl) refl is
      which (Some answers.Stopped) at_is is = other-plain answers.Stopped (λ v. refl) refl is
      which (Some (answers.Checked frame place)) at_is is = elim (unlock-past made frame u has.unlock e) [
        | inl same ↦ by-own goes (omega (arith, now-is, was, same))
        | inr fewer ↦ inr (ap is_waits next.1, fewer)
      ]
        where
          by : (b : Bool) → check_cost (cond b (at.Over (answers.Checked frame place)) (at.Unlock after (Some (answers.Checked frame place)))) now ≡ 5 + past_cost (word_of frame now)
          by true = refl
          by false = refl

          now-is : check_cost t.at now ≡ 5 + past_cost (word_of frame now)
          now-is = ap (λ (y : AccessAt). check_cost y now) is ∙ by (is_none (unlocks.plan after))

          was : check_cost s.at w ≡ 5 + past_cost (word_of frame w)
          was = ap (λ (x : AccessAt). check_cost x w) at_is

  pub access-lowers : OwnFalls → Lowers
  access-lowers goes = which s.at refl made.fits.1.at made.planned made.follows.at
    where
      by-next : (y : AccessAt) → t.at ≡ y → IsPlain y now → Lowers
      by-next y is plain = plainly goes (ap (λ (x : AccessAt). check_cost x now) is ∙ plain)

      which : (x : AccessAt) → s.at ≡ x → FitsAt made.fits.0 layout (view_of a seat) r x → plan_at r x ≡ Some made.step → Next_to x → Lowers
      which at.LoadStop own has e next = by-next (at_start made.found) next.0 (start-plain made.found now)
      which at.LoadProcess own has e next = by-next (after_process (page_named made.found)) next.0 (process-plain (page_named made.found) now)
      which at.LoadTranslation own has e next = by-next (leading r (frame_in made.found)) next.0 (leading-plain r (frame_in made.found) now)
      which (at.Pin p) own has e next = by-next (pinned_at (pins.next p made.found) (pins.next p made.found).at) next.0 (pin-plain (pins.next p made.found) (pins.next p made.found).at now)
      which (at.LockFrame frame) own has e next = by-next (cond (is_locked made.found) (at.LockFrame frame) (at.LoadAgain frame made.got)) next.0 (lock-plain (is_locked made.found) frame made.got now)
      which (at.LoadAgain frame body) own has e next = plainly goes (look-plain frame body e next.0)
      which (at.LoadBad frame body) own has e next = bad-lowers frame body own e next
      which (at.Unlock u then) own has e next = unlock-lowers u then own has e next goes
      which (at.Fault f) own has e next = by-next (after_fault_at next.after (faults.answer next.after)) next.next_is (fault-plain next.after (faults.answer next.after) now)
      which (at.GiveUp g) own has e next = plainly goes (ap (λ (x : AccessAt). check_cost x now) next.0)
      which (at.Over answer) own has e next = absurd (none-some made.step e)
