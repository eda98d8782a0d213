-- Each turn of an `Instruction` lowers its cost, or leaves a failure fewer, and its class tells what it holds.
use Rattle.std.proofs.Common.{◌≡◌, ◌≢◌, ◌⊎◌, inl, inr, ℕ, ◌+◌, ◌&&◌, ◌<◌, ◌≤◌, ◌==◌, Bool, true, false, cond, List, [], ◌++◌, Option, Some, None, is_some, length, refl, sym, ap, ◌∙◌, subst, arith}
use Rattle.std.specs.List.{list_any}
use Rattle.std.proofs.lemmas.Bool.{both_ways}
use Rattle.std.proofs.lemmas.Option.{none-some, same_Some}
use Rattle.hwp_fault.specs.hwp_geom.Limits.{line_limit}
use Rattle.hwp_fault.specs.hwp_geom.declared.Frame.{Frame}
use Rattle.hwp_fault.specs.hwp_geom.declared.Layout.{Layout}
use Rattle.hwp_fault.specs.hwp_geom.declared.Who.{Who}
use Rattle.hwp_claim.specs.hwp_banks.declared.Event.{Event}
use Rattle.hwp_claim.specs.hwp_banks.Events.{bank_count}
use Rattle.hwp_fault.specs.hwp_page.declared.At.{At}
use Rattle.hwp_fault.specs.hwp_page.History.{BodyValue}
use Rattle.hwp_fault.specs.hwp_words.Stops.{has_no_memory, is_stopped}
use Rattle.hwp_fault.specs.hwp_core_rule.declared.Made.{Made as Deed}
use Rattle.hwp_fault.specs.hwp_core_rule.declared.SharedWord.{SharedWord}
use Rattle.hwp_fault.specs.hwp_core_rule.declared.SharedWord.TheVariants as places
use Rattle.hwp_fault.specs.hwp_core_rule.declared.State.{State}
use Rattle.hwp_fault.specs.hwp_core_rule.declared.Step.{Step}
use Rattle.hwp_fault.specs.hwp_core_rule.declared.Step.TheVariants as steps
use Rattle.hwp_fault.specs.hwp_core_rule.declared.View.{View}
use Rattle.hwp_fault.specs.hwp_core_rule.Moves.{Move}
use Rattle.hwp_fault.specs.hwp_core_rule.Lasting.{IsMild, LeavesPoison}
use Rattle.hwp_fault.specs.hwp_core_rule.Views.{view_after}
use Rattle.hwp_fault.specs.hwp_core_rule.Words.{Words}
use Rattle.hwp_fault.specs.hwp_core_rule.declared.Turn.{Turn}
use Rattle.hwp_fault.specs.hwp_core_rule.declared.Turn.TheVariants.{Moved, Waits}
use Rattle.hwp_fault.specs.hwp_core_rule.Boards.{view_of}
use Rattle.hwp_fault.specs.hwp_core_rule.Calls.{logs, rec_of}
use Rattle.hwp_fault.specs.hwp_core_rule.Classes.{TellsClass}
use Rattle.hwp_fault.specs.hwp_core_rule.Ranks.{CostFalls, HasFailed, HasFrame, HasPage, IsRanked, Made, OtherHand, Pending, Quiet, is_refused, is_waits, words_at, again_most, failure_weight, free_room}
use Rattle.hwp_fault.proofs.of_hwp_core_rule.tasks.Failures.{mild-leaves}
use Rattle.hwp_fault.proofs.of_hwp_core_rule.tasks.StepRanks.{failed, met, pending-kept, steps-on, words-kept}
use Rattle.hwp_fault.proofs.of_hwp_core.TaskCosts.{left-own, met-own}
use Rattle.hwp_fault.proofs.of_hwp_core.TaskTells.{no-frame, no-page}
use Rattle.hwp_fault.specs.declared.Access.{Access}
use Rattle.hwp_fault.specs.declared.AccessAnswer.{AccessAnswer}
use Rattle.hwp_fault.specs.declared.AccessAnswer.TheVariants as access_answers
use Rattle.hwp_fault.specs.declared.Request.{Request}
use Rattle.hwp_fault.specs.declared.access.AccessAt.{AccessAt}
use Rattle.hwp_fault.specs.declared.access.AccessAt.TheVariants as access_at
use Rattle.hwp_fault.specs.Accesses as accesses
use Rattle.hwp_fault.proofs.AccessCosts.{access-mild, access-ranked, access-tells}
use Rattle.hwp_fault.proofs.FaultCosts.{Lowered}
use Rattle.hwp_fault.proofs.AccessLaws.{answered as access-answered, stays as access-stays}
use Rattle.hwp_claim.specs.declared.Fail.{Fail}
use Rattle.hwp_claim.specs.hwp_banks.Banks.{Banks, empty_banks}
use Rattle.hwp_claim.specs.hwp_severity.Handling.{has_stop}
use Rattle.hwp_claim.specs.declared.Handler.{Handler}
use Rattle.hwp_claim.specs.declared.Held.{Held}
use Rattle.hwp_claim.specs.declared.handler.HandlerAt.{HandlerAt}
use Rattle.hwp_claim.specs.declared.handler.HandlerAt.TheVariants as handler_at
use Rattle.hwp_claim.specs.Events.{held_in}
use Rattle.hwp_claim.specs.Fits as handler_fits
use Rattle.hwp_claim.specs.Handlers as handlers
use Rattle.hwp_claim.specs.Told.{first_signal, has_kept, was_poisoned}
use Rattle.hwp_claim.proofs.BankGrades.{found-in}
use Rattle.hwp_claim.proofs.HandlerRank.{handler-lasting, handler-ranked, handler-tells}
use Rattle.hwp_claim.proofs.EventTells.{tell-cost}
use Rattle.hwp_claim.specs.Checks.{Check, restarting, with_own}
use Rattle.hwp_cpu_access.specs.Costs.{aborts, aborts_at, anew, paused_cost, check_cost, claims, claims_at, class, class_at, cost, cost_at, ended_cost, held_cost, is_alone, past_cost, rest_at, word_of}
use Rattle.hwp_cpu_access.specs.Fits.{FitsAt, FitsBehind, IsOfAccess, banks_at, task as instruction-task}
use Rattle.hwp_cpu_access.specs.Instructions.{AfterAccessBy, BeginsCheck, FollowsAt, after_handler, after_handler_by, after_load, after_stop, answered, bare, bare_at, emptied, going_on, handler_of, is_pending, left_to_do, plan, plan_at, put, put_at, restarted, turn_of_load}
use Rattle.hwp_cpu_access.specs.declared.instruction.Instruction.{Instruction}
use Rattle.hwp_cpu_access.specs.declared.instruction.InstructionAnswer.{InstructionAnswer}
use Rattle.hwp_cpu_access.specs.declared.instruction.InstructionAnswer.TheVariants as answers
use Rattle.hwp_cpu_access.specs.declared.instruction.InstructionAt.{InstructionAt}
use Rattle.hwp_cpu_access.specs.declared.instruction.InstructionAt.TheVariants as at
use Rattle.hwp_cpu_access.proofs.AccessTurns.{access-lowers}
use Rattle.hwp_cpu_access.proofs.AloneTurns.{alone-goes}
use Rattle.hwp_cpu_access.proofs.CheckLaws.{hold-nothing}
use Rattle.hwp_cpu_access.proofs.InstructionCosts.{after-cost, after-same, again-cost, few-frees, instruction-below}
use Rattle.hwp_cpu_access.proofs.FailureWords.{pending-now}
use Rattle.hwp_cpu_access.proofs.InstructionLaws.{left-three, own-three, stays}
use Rattle.hwp_cpu_access.proofs.OwnEvents.{IsBriefly, own-briefly}

-- ---- a machine check that begins

-- where other events are held, they pay for what follows; where none is, the machine's own event is the only one
begins-cost : (layout : Layout) (i after : Instruction) (frame : Frame) (w : Words) → IsOfAccess i.origin → i.request.line < line_limit → frame.0 < layout.frames → length i.banks ≡ bank_count → length w.frees ≤ free_room → BeginsCheck layout i frame after
    → cost after w ≤ held_cost i.banks + (5 + past_cost (word_of frame w))
begins-cost layout i after frame w of_access line inside three few (inl refused) = let one : cost after w ≡ 1 = ap (λ (x : Instruction). cost x w) refused in omega (arith, one)
begins-cost layout i after frame w of_access line inside three few (inr (spare, room, next)) = which (list_any (λ (b : Option Event). is_some b) i.banks) refl
  where
    h : Handler
    h = handler_of layout i frame

    held : List Held
    held = held_in (restarting i.mode) (with_own i.origin frame i.request.line i.banks)

    first : handlers.cost h w ≤ 4
    first =
        let told : handlers.cost h w ≤ length held + 1 = tell-cost layout i.alloc i.request.who (Some i.request.thread) (has_stop (restarting i.mode) (with_own i.origin frame i.request.line i.banks)) held [] w in
        let most : length held ≤ bank_count = (found-in (restarting i.mode) (with_own i.origin frame i.request.line i.banks) (own-three i frame i.banks three)).few in
        omega (arith, told, most)

    briefly : i.banks ≡ empty_banks → IsBriefly frame h
    briefly none = subst (λ (b : Banks). IsBriefly frame (handlers.begin layout i.alloc i.request.who (Some i.request.thread) (restarting i.mode) (with_own i.origin frame i.request.line b))) (sym none)
        (own-briefly layout i.alloc i.request.who (Some i.request.thread) i.origin i.mode frame i.request.line of_access line inside)

    which : (b : Bool) → list_any (λ (e : Option Event). is_some e) i.banks ≡ b → cost after w ≤ held_cost i.banks + (5 + past_cost (word_of frame w))
    which true some =
        let all : cost (after_handler (emptied i spare) frame h) w ≤ handlers.cost h w + paused_cost = after-cost (emptied i spare) frame h w refl few in
        let same : cost after w ≡ cost (after_handler (emptied i spare) frame h) w = ap (λ (x : Instruction). cost x w) next in
        let paid : held_cost i.banks ≡ paused_cost = ap (λ (c : Bool). cond c paused_cost 0) some in
        omega (arith, all, same, paid, first)
    which false none =
        let brief : IsBriefly frame h = briefly (hold-nothing i.banks three none) in
        let same : cost after w ≡ handlers.cost h w + rest_at frame h.events h.at w = ap (λ (x : Instruction). cost x w) (next ∙ ap (after_handler_by (emptied i spare) frame h) brief.unanswered) in
        let most : handlers.cost h w + rest_at frame h.events h.at w ≤ 2 + past_cost (word_of frame w) = brief.few w in
        omega (arith, same, most)

-- an access that has its answer is over
over-at : (x : AccessAt) (answer : AccessAnswer) → accesses.answer_at x ≡ Some answer → x ≡ access_at.Over answer
over-at (access_at.Over of) answer is = ap access_at.Over (same_Some of answer is)
over-at access_at.LoadStop answer is = absurd (none-some answer is)
over-at access_at.LoadProcess answer is = absurd (none-some answer is)
over-at access_at.LoadTranslation answer is = absurd (none-some answer is)
over-at (access_at.Pin p) answer is = absurd (none-some answer is)
over-at (access_at.LockFrame frame) answer is = absurd (none-some answer is)
over-at (access_at.LoadAgain frame body) answer is = absurd (none-some answer is)
over-at (access_at.LoadBad frame body) answer is = absurd (none-some answer is)
over-at (access_at.Unlock u then) answer is = absurd (none-some answer is)
over-at (access_at.Fault f) answer is = absurd (none-some answer is)
over-at (access_at.GiveUp g) answer is = absurd (none-some answer is)

-- a machine check that has given up a failure leaves the class of those that do
left-after : (i : Instruction) (frame : Frame) (g : Handler) → (handlers.plan g ≡ None) ⊎ (1 < handlers.class g) → (plan (after_handler i frame g) ≡ None) ⊎ (1 < class (after_handler i frame g))
left-after i frame g left = which g.at refl
  where
    free : (stopped : Bool) (o : Option At) (kept c : Bool) → 1 < class_at (cond stopped (at.Over (Some answers.Stopped)) (going_on i.request kept (left_to_do o frame c)))
    free true o kept c = omega arith
    free false o true c = omega arith
    free false (Some place) false c = omega arith
    free false None false true = omega arith
    free false None false false = omega arith

    which : (x : HandlerAt) → g.at ≡ x → (plan (after_handler_by i frame g (handlers.answer_at x)) ≡ None) ⊎ (1 < class (after_handler_by i frame g (handlers.answer_at x)))
    which handler_at.Stop is = left
    which (handler_at.Fail f) is = left
    which handler_at.GaveUp is = left
    which (handler_at.Over stopped) is = inr (free stopped (first_signal g.events.told) (has_kept g.events.told && i.collects) (was_poisoned frame g.events.told))

-- ---- the turns

module _ {layout : Layout} {seat : ℕ} {a b : State} {s t : Instruction} {turn : Turn} (made : Made instruction-task layout seat a b s t turn) where
  abbrev w : Words
  w = words_at layout a

  abbrev now : Words
  now = words_at layout b

  abbrev Moves : Option BodyValue → Type 0
  Moves logged = Move layout seat (rec_of layout s.request.who made.step (logs logged) made.found made.got) a b

  -- a step of the access
  access-made : (x y : Access) → accesses.FitsFrom made.fits.0 layout (view_of a seat) x → x.request ≡ s.request → accesses.plan x ≡ Some made.step → Moves (accesses.put x) → accesses.Next layout (accesses.bare x) made.found made.got y turn
      → Made accesses.task layout seat a b x y turn
  access-made x y fits own e move follows = record {
    step = made.step;
    found = made.found;
    got = made.got;
    rule = made.rule;
    kept = made.kept;
    fits = (made.fits.0, fits);
    planned = e;
    move = subst (λ (r : Request). Move layout seat (rec_of layout r.who made.step (logs (accesses.put x)) made.found made.got) a b) (sym own) move;
    brings = made.brings;
    follows = follows;
  }

  -- a step of the machine check
  handler-made : (h g : Handler) → handler_fits.Fits layout (view_of a seat) h → h.who ≡ s.request.who → handlers.plan h ≡ Some made.step → Moves (handlers.put h) → handlers.Follows layout (handlers.bare h) made.found made.got g turn
      → Made handler_fits.task layout seat a b h g turn
  handler-made h g fits own e move follows = record {
    step = made.step;
    found = made.found;
    got = made.got;
    rule = made.rule;
    kept = made.kept;
    fits = fits;
    planned = e;
    move = subst (λ (by : Who). Move layout seat (rec_of layout by made.step (logs (handlers.put h)) made.found made.got) a b) (sym own) move;
    brings = made.brings;
    follows = follows;
  }

  few : length now.frees ≤ free_room
  few = few-frees layout b made.kept

  -- a load leaves all words
  load-kept : {place : SharedWord} → Some (steps.Load place) ≡ Some made.step → now ≡ w
  load-kept e = left-own w now made.found e (words-kept made) refl

  abbrev Falls : InstructionAt → Type 0
  Falls x = Lowered turn layout a b (cost t now) (cost_at s.banks x w)

  -- what follows an access
  access-goes : (x y : Access) → s.at ≡ at.Access x → (stepped : Made accesses.task layout seat a b x y turn) → (CostFalls accesses.task layout a b x y ⊎ ((is_waits turn ≡ false) × HasFailed accesses.task layout a b x y)) → AfterAccessBy layout (bare s) y (accesses.answer y) t → Falls (at.Access x)
  access-goes x y own stepped falls next = elim (access-lowers stepped falls) [
    | inl less ↦ inl (which (accesses.answer y) refl next less)
    | inr fewer ↦ inr fewer
  ]
    where
      Less : Type 0
      Less = accesses.cost y now + check_cost y.at now < accesses.cost x w + check_cost x.at w

      over : (o : InstructionAnswer) → t ≡ answered (bare s) o → Less → cost t now < cost_at s.banks (at.Access x) w
      over o is less = let none : cost t now ≡ 0 = ap (λ (z : Instruction). cost z now) is in omega (arith, none, less)

      three : length s.banks ≡ bank_count
      three = ap (λ (bs : Banks). length bs) (made.fits.2.banks_are ∙ ap (banks_at s.before.value (made.fits.1 ++ made.fits.2.checks)) own) ∙ left-three s.before.value (made.fits.1 ++ made.fits.2.checks) made.fits.2.three

      after-fits : accesses.FitsFrom stepped.fits.0 layout (view_after layout (rec_of layout x.request.who stepped.step (logs (accesses.put x)) stepped.found stepped.got) (view_of a seat)) y
      after-fits = ((access-stays layout (view_of a seat) (view_after layout (rec_of layout x.request.who stepped.step (logs (accesses.put x)) stepped.found stepped.got) (view_of a seat)) x stepped.step stepped.found stepped.got stepped.fits.1 stepped.planned (steps-on stepped)).1 y turn stepped.follows).0

      which : (o : Option AccessAnswer) → accesses.answer y ≡ o → AfterAccessBy layout (bare s) y o t → Less → cost t now < cost_at s.banks (at.Access x) w
      which None is then less = let same : cost t now ≡ accesses.cost y now + held_cost s.banks + check_cost y.at now = ap (λ (z : Instruction). cost z now) then in omega (arith, same, less)
      which (Some (access_answers.Checked frame place)) is then less =
          let checked : check_cost y.at now ≡ 5 + past_cost (word_of frame now) = ap (λ (z : AccessAt). check_cost z now) (over-at y.at (access_answers.Checked frame place) is) in
          let ended = access-answered layout (view_after layout (rec_of layout x.request.who stepped.step (logs (accesses.put x)) stepped.found stepped.got) (view_of a seat)) y (access_answers.Checked frame place) after-fits is in
          let begun : cost t now ≤ held_cost s.banks + (5 + past_cost (word_of frame now)) = begins-cost layout (bare s) t frame now made.fits.2.origin made.fits.2.names.line ended.answered.1.within three few then in
          omega (arith, checked, begun, less)
      which (Some (access_answers.Value word place)) is then less = over (answers.Value word place) then less
      which (Some (access_answers.Stored place)) is then less = over (answers.Stored place) then less
      which (Some (access_answers.Sigbus place)) is then less = over (answers.Sigbus place) then less
      which (Some access_answers.NoFrame) is then less = over answers.NoFrame then less
      which (Some (access_answers.Gone page)) is then less = over (answers.Gone page) then less
      which (Some access_answers.Stopped) is then less = over answers.Stopped then less

  -- the frame of the machine check is looked at
  frame-goes : (frame : Frame) → Some (steps.Load (places.Frame frame)) ≡ Some made.step → s.banks ≡ empty_banks → t ≡ after_load (bare s) frame made.found → turn ≡ turn_of_load made.found → is_waits turn ≡ false → cost t now < 1 + ended_cost (word_of frame w)
  frame-goes frame e none next turn_is goes = which (is_pending made.found) refl
    where
      found_is : word_of frame w ≡ made.found
      found_is = met-own w made.found e (met made)

      which : (c : Bool) → is_pending made.found ≡ c → cost t now < 1 + ended_cost (word_of frame w)
      which true is = absurd (both_ways (is_waits turn) goes (ap is_waits turn_is ∙ ap (λ (c : Bool). is_waits (cond c (Waits made.found) Moved)) is))
      which false is =
          let same : cost t now ≡ accesses.cost (accesses.again s.request) now + held_cost s.banks + 0 = ap (λ (i : Instruction). cost i now) next ∙ ap (λ (c : Bool). cost_at s.banks (cond c (at.LoadStop frame) (restarted s)) now) is in
          let free : held_cost s.banks ≡ 0 = ap held_cost none in
          let most : accesses.cost (accesses.again s.request) now ≤ again_most + 1 = again-cost s now few in
          let paid : ended_cost (word_of frame w) ≡ anew = ap ended_cost found_is ∙ ap (λ (c : Bool). cond c 0 anew) is in
          omega (arith, same, free, most, paid)

  -- another processor's giving up is looked at
  stop-goes : (frame : Frame) → Some (steps.Load places.Stop) ≡ Some made.step → t ≡ after_stop (bare s) frame made.found → cost t now < 2 + ended_cost (word_of frame w)
  stop-goes frame e next = which (has_no_memory made.found) refl
    where
      which : (c : Bool) → has_no_memory made.found ≡ c → cost t now < 2 + ended_cost (word_of frame w)
      which true is = let same : cost t now ≡ 0 = ap (λ (i : Instruction). cost i now) next ∙ ap (λ (c : Bool). cost_at s.banks (cond c (at.Over None) (at.LoadFrame frame)) now) is in omega (arith, same)
      which false is =
          let same : cost t now ≡ 1 + ended_cost (word_of frame now) = ap (λ (i : Instruction). cost i now) next ∙ ap (λ (c : Bool). cost_at s.banks (cond c (at.Over None) (at.LoadFrame frame)) now) is in
          let kept : ended_cost (word_of frame now) ≡ ended_cost (word_of frame w) = ap (λ (n : Words). ended_cost (word_of frame n)) (load-kept e) in
          omega (arith, same, kept)

  -- a machine check goes on, or is over
  handler-goes : (frame : Frame) (h g : Handler) → s.banks ≡ empty_banks → (stepped : Made handler_fits.task layout seat a b h g turn) → t ≡ after_handler (bare s) frame g → (CostFalls handler_fits.task layout a b h g ⊎ ((is_waits turn ≡ false) × HasFailed handler_fits.task layout a b h g)) → Falls (at.Handle frame h)
  handler-goes frame h g none stepped next falls = elim falls [
    | inl less ↦ which h.at refl less
    | inr failed ↦ inr (failed.0, failed.1.fewer)
  ]
    where
      total : cost t now ≤ handlers.cost g now + paused_cost
      total = subst (λ (z : Instruction). cost z now ≤ handlers.cost g now + paused_cost) (sym next) (after-cost (bare s) frame g now none few)

      by : (c : Bool) (f : Fail) → is_alone frame h.events f ≡ c → h.at ≡ handler_at.Fail f → handlers.cost g now < handlers.cost h w → Falls (at.Handle frame h)
      by false f apart is less =
          let rest : rest_at frame h.events h.at w ≡ paused_cost = ap (λ (x : HandlerAt). rest_at frame h.events x w) is ∙ ap (λ (c : Bool). cond c (past_cost (word_of frame w)) paused_cost) apart in
          let falls : handlers.cost g now < handlers.cost h w = less in
          inl (omega (arith, total, rest, falls))
      by true f alone is less =
          let rest : rest_at frame h.events h.at w ≡ past_cost (word_of frame w) = ap (λ (x : HandlerAt). rest_at frame h.events x w) is ∙ ap (λ (c : Bool). cond c (past_cost (word_of frame w)) paused_cost) alone in
          elim (alone-goes stepped frame f is alone (bare s) t next) [
            | inl few ↦ let falls : cost t now < handlers.cost h w + past_cost (word_of frame w) = few in inl (omega (arith, rest, falls))
            | inr fewer ↦ inr fewer
          ]

      stopped-is : h.at ≡ handler_at.Stop → g ≡ record (handlers.bare h) { at = handlers.after_stop stepped.found }
      stopped-is is = (subst (λ (x : HandlerAt). handlers.FollowsAt layout (handlers.bare h) (handlers.bare_at x) stepped.found stepped.got g turn) is stepped.follows).0

      free : (b c : Bool) → cost (after_handler (bare s) frame (record (handlers.bare h) { at = cond b (handler_at.Over true) (cond c (handler_at.Over true) handler_at.GaveUp) })) now ≡ 0
      free true c = refl
      free false true = refl
      free false false = refl

      which : (x : HandlerAt) → h.at ≡ x → handlers.cost g now < handlers.cost h w → Falls (at.Handle frame h)
      which handler_at.Stop is less =
          let none : cost t now ≡ 0 = ap (λ (z : Instruction). cost z now) (next ∙ ap (after_handler (bare s) frame) (stopped-is is)) ∙ free (stepped.found == 0) (is_stopped stepped.found) in
          let falls : handlers.cost g now < handlers.cost h w = less in
          inl (omega (arith, none, falls))
      which (handler_at.Fail f) is less = by (is_alone frame h.events f) f refl is less
      which handler_at.GaveUp is less = absurd (none-some stepped.step (sym (ap (handlers.plan_at h.who) is) ∙ stepped.planned))
      which (handler_at.Over stopped) is less = absurd (none-some stepped.step (sym (ap (handlers.plan_at h.who) is) ∙ stepped.planned))

  -- a turn that doesn't wait may leave a failure fewer
  unwaiting : {P Q : Type 0} → is_waits turn ≡ false → P ⊎ Q → P ⊎ ((is_waits turn ≡ false) × Q)
  unwaiting goes (inl less) = inl less
  unwaiting goes (inr fails) = inr (goes, fails)

  falls-at : (x : InstructionAt) → s.at ≡ x → plan_at x ≡ Some made.step → FitsAt made.fits.0 layout (view_of a seat) s (made.fits.1 ++ made.fits.2.checks) x → Moves (put_at x) → FollowsAt layout (bare s) (bare_at x) made.found made.got t turn → is_waits turn ≡ false → Falls x
  falls-at (at.Access x) own e has move next goes =
      let stepped = access-made x next.access has.access has.own e move next.follows in
      access-goes x next.access own stepped (unwaiting goes (access-ranked.falls layout seat a b x next.access turn stepped goes)) next.next_is
  falls-at (at.Handle frame h) own e has move next goes =
      let stepped = handler-made h next.handler has.has.handler has.has.own e move next.follows in
      handler-goes frame h next.handler (made.fits.2.banks_are ∙ ap (banks_at s.before.value (made.fits.1 ++ made.fits.2.checks)) own) stepped next.next_is (unwaiting goes (handler-ranked.falls layout seat a b h next.handler turn stepped goes))
  falls-at (at.LoadFrame frame) own e has move next goes = inl (frame-goes frame e has.empty_are next.0 next.1 goes)
  falls-at (at.LoadStop frame) own e has move next goes = inl (stop-goes frame e next.0)
  falls-at at.GiveUp own e has move next goes = let none : cost t now ≡ 0 = ap (λ (i : Instruction). cost i now) next.0 in inl (omega (arith, none))
  falls-at (at.Paused pause) own e has move next goes = absurd (none-some made.step e)
  falls-at (at.Over answer) own e has move next goes = absurd (none-some made.step e)

  owns-at : (x : InstructionAt) (of : Frame) (cycle : ℕ) → s.at ≡ x → plan_at x ≡ Some made.step → FitsAt made.fits.0 layout (view_of a seat) s (made.fits.1 ++ made.fits.2.checks) x → Moves (put_at x) → FollowsAt layout (bare s) (bare_at x) made.found made.got t turn → is_refused turn ≡ false → Pending now of cycle
      → (claims t ≡ Some (of, cycle)) ⊎ (Pending w of cycle × (claims_at x ≢ Some (of, cycle)))
  owns-at (at.Access x) of cycle own e has move next going pending = inr (pending-kept made (access-mild x made.step e) of cycle pending, λ claimed. none-some (of, cycle) claimed)
  owns-at (at.Handle frame h) of cycle own e has move next going pending = elim (handler-ranked.owns layout seat a b h next.handler turn of cycle (handler-made h next.handler has.has.handler has.has.own e move next.follows) going pending) [
    | inl claimed ↦ inl (ap claims next.next_is ∙ (after-same (bare s) frame next.handler).0 ∙ claimed)
    | inr other ↦ inr other
  ]
  owns-at (at.LoadFrame frame) of cycle own e has move next going pending = inr (pending-kept made (subst IsMild (same_Some (steps.Load (places.Frame frame)) made.step e) tt) of cycle pending, λ claimed. none-some (of, cycle) claimed)
  owns-at (at.LoadStop frame) of cycle own e has move next going pending = inr (pending-kept made (subst IsMild (same_Some (steps.Load places.Stop) made.step e) tt) of cycle pending, λ claimed. none-some (of, cycle) claimed)
  owns-at at.GiveUp of cycle own e has move next going pending = inr (pending-kept made (subst IsMild (same_Some steps.GiveUp made.step e) tt) of cycle pending, λ claimed. none-some (of, cycle) claimed)
  owns-at (at.Paused pause) of cycle own e has move next going pending = absurd (none-some made.step e)
  owns-at (at.Over answer) of cycle own e has move next going pending = absurd (none-some made.step e)

  unmoved : is_waits turn ≡ true → {other : Turn} → turn ≡ other → is_waits other ≡ false → ⊥
  unmoved waits is never = both_ways (is_waits turn) (ap is_waits is ∙ never) waits

  -- a turn that waits has to lower the cost
  strictly : (x : InstructionAt) → is_waits turn ≡ true → Falls x → cost t now < cost_at s.banks x w
  strictly x is (inl less) = less
  strictly x is (inr fails) = absurd (both_ways (is_waits turn) fails.0 is)

  abbrev Lowers-at : InstructionAt → Type 0
  Lowers-at x = (cost t now < cost_at s.banks x w) ⊎ ((aborts t ≡ true) × OtherHand a seat)

  waits-at : (x : InstructionAt) → s.at ≡ x → plan_at x ≡ Some made.step → FitsAt made.fits.0 layout (view_of a seat) s (made.fits.1 ++ made.fits.2.checks) x → Moves (put_at x) → FollowsAt layout (bare s) (bare_at x) made.found made.got t turn → is_waits turn ≡ true → Quiet (class_at x) layout a seat
      → Lowers-at x
  waits-at (at.Access x) own e has move next is quiet =
      let stepped = access-made x next.access has.access has.own e move next.follows in
      elim (access-ranked.waits layout seat a b x next.access turn stepped is quiet) [
        | inl less ↦ inl (strictly (at.Access x) is (access-goes x next.access own stepped (inl less) next.next_is))
        | inr gives ↦ absurd (both_ways false refl gives.0)
      ]
  waits-at (at.Handle frame h) own e has move next is quiet =
      let stepped = handler-made h next.handler has.has.handler has.has.own e move next.follows in
      elim (handler-ranked.waits layout seat a b h next.handler turn stepped is quiet) [
        | inl less ↦ inl (strictly (at.Handle frame h) is (handler-goes frame h next.handler (made.fits.2.banks_are ∙ ap (banks_at s.before.value (made.fits.1 ++ made.fits.2.checks)) own) stepped next.next_is (inl less)))
        | inr gives ↦ inr (ap aborts next.next_is ∙ (after-same (bare s) frame next.handler).1 ∙ gives.0, gives.1)
      ]
  waits-at (at.LoadFrame frame) own e has move next is quiet = which (is_pending made.found) refl
    where
      which : (c : Bool) → is_pending made.found ≡ c → Lowers-at (at.LoadFrame frame)
      which true going = let pending = pending-now w frame (ap is_pending (met-own w made.found e (met made)) ∙ going) in absurd (quiet.failures (omega arith) frame pending.0 pending.1)
      which false ended = absurd (unmoved is (next.1 ∙ ap (λ (c : Bool). cond c (Waits made.found) Moved) ended) refl)
  waits-at (at.LoadStop frame) own e has move next is quiet = inl (stop-goes frame e next.0)
  waits-at at.GiveUp own e has move next is quiet = absurd (unmoved is next.1 refl)
  waits-at (at.Paused pause) own e has move next is quiet = absurd (none-some made.step e)
  waits-at (at.Over answer) own e has move next is quiet = absurd (none-some made.step e)

  leaves-at : (x : InstructionAt) → plan_at x ≡ Some made.step → FitsAt made.fits.0 layout (view_of a seat) s (made.fits.1 ++ made.fits.2.checks) x → Moves (put_at x) → FollowsAt layout (bare s) (bare_at x) made.found made.got t turn → aborts_at x ≡ true → (plan t ≡ None) ⊎ (1 < class t)
  leaves-at (at.Handle frame h) e has move next gives = subst (λ (z : Instruction). (plan z ≡ None) ⊎ (1 < class z)) (sym next.next_is)
      (left-after (bare s) frame next.handler (handler-ranked.leaves layout seat a b h next.handler turn (handler-made h next.handler has.has.handler has.has.own e move next.follows) gives))
  leaves-at (at.Access x) e has move next gives = absurd (both_ways false refl gives)
  leaves-at (at.LoadFrame frame) e has move next gives = absurd (both_ways false refl gives)
  leaves-at (at.LoadStop frame) e has move next gives = absurd (both_ways false refl gives)
  leaves-at at.GiveUp e has move next gives = absurd (both_ways false refl gives)
  leaves-at (at.Paused pause) e has move next gives = absurd (none-some made.step e)
  leaves-at (at.Over answer) e has move next gives = absurd (none-some made.step e)

  -- what follows fits what its processor then knows
  after-fits : FitsBehind made.fits.0 made.fits.1 layout (view_after layout (rec_of layout s.request.who made.step (logs (put s)) made.found made.got) (view_of a seat)) t
  after-fits = ((stays layout (view_of a seat) (view_after layout (rec_of layout s.request.who made.step (logs (put s)) made.found made.got) (view_of a seat)) s made.step made.found made.got made.fits.2 made.planned (steps-on made)).1 t turn made.follows).0

  fell : Falls s.at → CostFalls instruction-task layout a b s t ⊎ HasFailed instruction-task layout a b s t
  fell (inl less) = inl less
  fell (inr fails) = inr (failed fails.1 (instruction-below layout b (view_after layout (rec_of layout s.request.who made.step (logs (put s)) made.found made.got) (view_of a seat)) t made.kept after-fits))

  falls : is_waits turn ≡ false → CostFalls instruction-task layout a b s t ⊎ HasFailed instruction-task layout a b s t
  falls goes = fell (falls-at s.at refl made.planned made.fits.2.at made.move made.follows goes)

instruction-class : (i : Instruction) → (1 ≤ class i) × (class i ≤ 4)
instruction-class i = which i.at
  where
    which : (x : InstructionAt) → (1 ≤ class_at x) × (class_at x ≤ 4)
    which (at.Access x) = access-ranked.classes x
    which (at.Handle frame h) = handler-ranked.classes h
    which (at.LoadFrame frame) = (omega arith, omega arith)
    which (at.LoadStop frame) = (omega arith, omega arith)
    which at.GiveUp = (omega arith, omega arith)
    which (at.Paused pause) = (omega arith, omega arith)
    which (at.Over answer) = (omega arith, omega arith)

pub instruction-ranked : IsRanked instruction-task
instruction-ranked = record {
  classes = instruction-class;
  small = λ layout a seat s rule fits. let below : cost s (words_at layout a) < failure_weight = instruction-below layout a (view_of a seat) s rule fits.2 in omega (arith, below);
  falls = λ layout seat a b s t turn made goes. falls made goes;
  waits = λ layout seat a b s t turn made is quiet. waits-at made s.at refl made.planned made.fits.2.at made.move made.follows is quiet;
  leaves = λ layout seat a b s t turn made gives. leaves-at made s.at made.planned made.fits.2.at made.move made.follows gives;
  owns = λ layout seat a b s t turn frame cycle made going pending. owns-at made s.at frame cycle refl made.planned made.fits.2.at made.move made.follows going pending;
}

-- ---- what is held

module _ {past : List Deed} {earlier : List Check} (layout : Layout) (view : View) (i : Instruction) (fits : FitsBehind past earlier layout view i) where
  abbrev Fit : InstructionAt → Type 0
  Fit x = FitsAt past layout view i (earlier ++ fits.checks) x

  frame-told : (x : InstructionAt) → Fit x → HasFrame view → (class_at x ≡ 1) × (plan_at x ≢ None)
  frame-told (at.Access x) has some = access-tells.frame layout view x (past, has.access) some
  frame-told (at.Handle frame h) has some = handler-tells.frame layout view h has.has.handler some
  frame-told (at.LoadFrame frame) has some = absurd (no-frame view has.hand_is refl refl refl some)
  frame-told (at.LoadStop frame) has some = absurd (no-frame view has.hand_is refl refl refl some)
  frame-told at.GiveUp has some = absurd (no-frame view has refl refl refl some)
  frame-told (at.Paused pause) has some = absurd (no-frame view has.hand_is refl refl refl some)
  frame-told (at.Over None) has some = absurd (no-frame view has refl refl refl some)
  frame-told (at.Over (Some answer)) has some = absurd (no-frame view has.hand_is refl refl refl some)

  page-told : (x : InstructionAt) → Fit x → HasPage view → (class_at x ≤ 2) × (plan_at x ≢ None)
  page-told (at.Access x) has some = access-tells.page layout view x (past, has.access) some
  page-told (at.Handle frame h) has some = handler-tells.page layout view h has.has.handler some
  page-told (at.LoadFrame frame) has some = absurd (no-page view has.hand_is refl some)
  page-told (at.LoadStop frame) has some = absurd (no-page view has.hand_is refl some)
  page-told at.GiveUp has some = absurd (no-page view has refl some)
  page-told (at.Paused pause) has some = absurd (no-page view has.hand_is refl some)
  page-told (at.Over None) has some = absurd (no-page view has refl some)
  page-told (at.Over (Some answer)) has some = absurd (no-page view has.hand_is refl some)

  claim-told : (x : InstructionAt) (of : Frame) (cycle : ℕ) → Fit x → claims_at x ≡ Some (of, cycle) → (class_at x ≤ 3) × (plan_at x ≢ None)
  claim-told (at.Handle frame h) of cycle has claimed = handler-tells.claim layout view h of cycle has.has.handler claimed
  claim-told (at.Access x) of cycle has claimed = absurd (none-some (of, cycle) claimed)
  claim-told (at.LoadFrame frame) of cycle has claimed = absurd (none-some (of, cycle) claimed)
  claim-told (at.LoadStop frame) of cycle has claimed = absurd (none-some (of, cycle) claimed)
  claim-told at.GiveUp of cycle has claimed = absurd (none-some (of, cycle) claimed)
  claim-told (at.Paused pause) of cycle has claimed = absurd (none-some (of, cycle) claimed)
  claim-told (at.Over answer) of cycle has claimed = absurd (none-some (of, cycle) claimed)

pub instruction-tells : TellsClass instruction-task
instruction-tells = record {
  frame = λ layout view i fits some. frame-told layout view i fits.2 i.at fits.2.at some;
  page = λ layout view i fits some. page-told layout view i fits.2 i.at fits.2.at some;
  claim = λ layout view i frame cycle fits claimed. claim-told layout view i fits.2 i.at frame cycle fits.2.at claimed;
}

-- none of its steps takes a frame's poison back
pub instruction-lasting : (i : Instruction) (step : Step) → plan i ≡ Some step → LeavesPoison step
instruction-lasting i step is = which i.at is
  where
    which : (x : InstructionAt) → plan_at x ≡ Some step → LeavesPoison step
    which (at.Access a) e = mild-leaves step (access-mild a step e)
    which (at.Handle frame h) e = handler-lasting h step e
    which (at.LoadFrame frame) e = subst LeavesPoison (same_Some (steps.Load (places.Frame frame)) step e) tt
    which (at.LoadStop frame) e = subst LeavesPoison (same_Some (steps.Load places.Stop) step e) tt
    which at.GiveUp e = subst LeavesPoison (same_Some steps.GiveUp step e) tt
    which (at.Paused pause) e = absurd (none-some step e)
    which (at.Over answer) e = absurd (none-some step e)
