-- What a step of a `Raise` adds: the mark of a frame, the count of that, and the entry of a failure.
use Rattle.std.proofs.Common.{◌≡◌, inl, inr, ℕ, ◌+◌, Bool, true, false, List, [], ◌++◌, Option, Some, None, filter_map, refl, sym, ap, ◌∙◌, subst}
use Rattle.std.proofs.lemmas.Option.{none-some}
use Rattle.hwp_cpu_control.specs.hwp_geom.declared.Layout.{Layout}
use Rattle.hwp_cpu_control.specs.hwp_geom.declared.Page.{Page}
use Rattle.hwp_cpu_control.specs.hwp_geom.declared.Thread.{Thread}
use Rattle.hwp_cpu_control.specs.hwp_geom.declared.Who.{Who}
use Rattle.hwp_cpu_control.specs.hwp_page.History.{BodyValue}
use Rattle.hwp_cpu_control.specs.hwp_words.Names.{page_named}
use Rattle.hwp_cpu_control.specs.hwp_words.Stops.{is_stopped}
use Rattle.hwp_cpu_control.specs.hwp_core_rule.declared.Mark.{Mark}
use Rattle.hwp_cpu_control.specs.hwp_core_rule.declared.Step.{Step}
use Rattle.hwp_cpu_control.specs.hwp_core_rule.declared.View.{View}
use Rattle.hwp_cpu_control.specs.hwp_core_rule.declared.Turn.{Turn}
use Rattle.hwp_cpu_control.specs.hwp_core_rule.Calls.{Steps, logs}
use Rattle.hwp_cpu_control.proofs.of_hwp_core_rule.tasks.StepLeaves.{steps-planned}
use Rattle.hwp_cpu_control.proofs.of_hwp_core_rule.tasks.MadeEntries.{ListsNone, deeds-same}
use Rattle.hwp_claim.specs.hwp_claim_act.declared.Failed.{Failed}
use Rattle.hwp_claim.specs.hwp_claim_act.Abandoned.{AddsFailure}
use Rattle.hwp_claim.specs.hwp_claim_frame.Done.{Grows, Marking, counts_owed, marking_of}
use Rattle.hwp_claim.specs.hwp_severity.Handling.{has_stop}
use Rattle.hwp_claim.specs.declared.Handler.{Handler}
use Rattle.hwp_claim.specs.declared.EventOutcome.{EventOutcome}
use Rattle.hwp_claim.specs.declared.handler.HandlerAt.{HandlerAt}
use Rattle.hwp_claim.specs.declared.handler.HandlerAt.TheVariants as handler_at
use Rattle.hwp_claim.specs.CheckDone as handler_done
use Rattle.hwp_claim.specs.CheckDone.{failed_in, marked_in}
use Rattle.hwp_claim.specs.Events.{held_in}
use Rattle.hwp_claim.specs.Handlers as handlers
use Rattle.hwp_claim.proofs.HandlerAdds.{handler-adds}
use Rattle.hwp_claim.proofs.EventTells.{kept, tell-done, tell-idle}
use Rattle.hwp_scrub.specs.RaiseDone.{Adds, failed_at, failed_now, marked_at, marked_now, owed_at, owed_now}
use Rattle.hwp_scrub.specs.RaiseFits.{Fits, FitsAt, HasHandler}
use Rattle.hwp_scrub.specs.Raises.{AfterProcessBy, AfterStopBy, BeginsCheck, Follows, FollowsAt, after_handler, after_handler_by, bare, bare_at, emptied, handler_of, how_of, plan, plan_at, put, put_at, thread_of}
use Rattle.hwp_scrub.specs.declared.raise.Raise.{Raise}
use Rattle.hwp_scrub.specs.declared.raise.RaiseAt.{RaiseAt}
use Rattle.hwp_scrub.specs.declared.raise.RaiseAt.TheVariants as at
use Rattle.hwp_scrub.specs.declared.raise.Raiser.{Raiser}

-- the command has done this
record IsDone (marked : List Marking) (failed : List Failed) (owed : ℕ) (after : Raise) : Type 0 where
  marked_is : marked_now after ≡ marked
  failed_is : failed_now after ≡ failed
  owed_is : owed_now after ≡ owed

-- as much as the machine check, which goes on or is over
handler-done : (r : Raise) (h : Handler) → r.lines.told ≡ [] → h.thread ≡ thread_of r.raiser → IsDone (handler_done.marked_now h) (handler_done.failed_now h) (handler_done.owed_now h) (after_handler r h)
handler-done r h none thread = which h.at refl
  where
    going : IsDone (handler_done.marked_now h) (handler_done.failed_now h) (handler_done.owed_now h) (record r { at = at.Handle h })
    going = record {
      marked_is = ap (λ (l : List EventOutcome). filter_map marked_in l ++ handler_done.marked_now h) none;
      failed_is = ap (λ (l : List EventOutcome). filter_map (failed_in (thread_of r.raiser)) l ++ handler_done.failed_now h) none;
      owed_is = refl;
    }

    over : (stopped : Bool) → h.at ≡ handler_at.Over stopped → IsDone (handler_done.marked_now h) (handler_done.failed_now h) (handler_done.owed_now h) (after_handler_by r h (Some stopped))
    over stopped is = record {
      marked_is = ap (λ (l : List EventOutcome). filter_map marked_in (l ++ h.events.told) ++ []) none ∙ ap (λ (l : List Marking). filter_map marked_in h.events.told ++ l) (sym (ap handler_done.marked_at is));
      failed_is = ap (λ (l : List EventOutcome). filter_map (failed_in (thread_of r.raiser)) (l ++ h.events.told) ++ []) none
          ∙ ap (λ (l : List Failed). filter_map (failed_in (thread_of r.raiser)) h.events.told ++ l) (sym (ap handler_done.failed_at is))
          ∙ ap (λ (t : Option Thread). filter_map (failed_in t) h.events.told ++ handler_done.failed_at h.at) (sym thread);
      owed_is = sym (ap handler_done.owed_at is);
    }

    which : (x : HandlerAt) → h.at ≡ x → IsDone (handler_done.marked_now h) (handler_done.failed_now h) (handler_done.owed_now h) (after_handler_by r h (handlers.answer_at x))
    which handler_at.Stop is = going
    which (handler_at.Fail f) is = going
    which handler_at.GaveUp is = going
    which (handler_at.Over stopped) is = over stopped is

-- one that begins has done nothing
begun-done : (layout : Layout) (r after : Raise) → r.lines.told ≡ [] → BeginsCheck layout r after → IsDone [] [] 0 after
begun-done layout r after none (inl refused) = record {
  marked_is = ap marked_now refused ∙ ap (λ (l : List EventOutcome). filter_map marked_in l ++ []) none;
  failed_is = ap failed_now refused ∙ ap (λ (l : List EventOutcome). filter_map (failed_in (thread_of r.raiser)) l ++ []) none;
  owed_is = ap owed_now refused;
}
begun-done layout r after none (inr (spare, room, is)) =
    let how = how_of r in
    let done = tell-done layout r.alloc r.who (thread_of r.raiser) (has_stop how r.banks) (held_in how r.banks) [] in
    let idle = tell-idle layout r.alloc r.who (thread_of r.raiser) (has_stop how r.banks) (held_in how r.banks) [] in
    let all = handler-done (emptied r spare) (handler_of layout r) none refl in record {
      marked_is = ap marked_now is ∙ all.marked_is ∙ ap (λ (l : List Marking). l ++ handler_done.marked_at (handler_of layout r).at) done.0 ∙ idle.marked;
      failed_is = ap failed_now is ∙ all.failed_is ∙ ap (λ (l : List Failed). l ++ handler_done.failed_at (handler_of layout r).at) done.1 ∙ idle.failed;
      owed_is = ap owed_now is ∙ all.owed_is ∙ idle.owed;
    }

-- ---- each step

abbrev IsIdle : RaiseAt → Type 0
IsIdle x = (marked_at x ≡ []) × (failed_at x ≡ []) × (owed_at x ≡ 0)

module _ (layout : Layout) (r after : Raise) where
  plain-done : (x : RaiseAt) → r.lines.told ≡ [] → IsIdle x → after ≡ record r { at = x } → IsDone [] [] 0 after
  plain-done x none idle is = record {
    marked_is = ap marked_now is ∙ ap (λ (l : List EventOutcome). filter_map marked_in l ++ marked_at x) none ∙ idle.0;
    failed_is = ap failed_now is ∙ ap (λ (l : List EventOutcome). filter_map (failed_in (thread_of r.raiser)) l ++ failed_at x) none ∙ idle.1;
    owed_is = ap owed_now is ∙ idle.2;
  }

  stop-done : r.lines.told ≡ [] → (b : Bool) (o : Option Raiser) → AfterStopBy layout r b o after → IsDone [] [] 0 after
  stop-done none true o next = plain-done (at.Over _) none (refl, refl, refl) next
  stop-done none false (Some raiser) next = plain-done (at.LoadProcess raiser) none (refl, refl, refl) next
  stop-done none false None next = begun-done layout r after none next

  process-done : r.lines.told ≡ [] → (o : Option Page) → AfterProcessBy layout r o after → IsDone [] [] 0 after
  process-done none (Some page) next = plain-done (at.Over _) none (refl, refl, refl) next
  process-done none None next = begun-done layout r after none next

-- what it has done so far, where it has told nothing
done-so-far : (r : Raise) (x : RaiseAt) → r.at ≡ x → r.lines.told ≡ [] → IsDone (marked_at x) (failed_at x) (owed_at x) r
done-so-far r x is none = record {
  marked_is = ap (λ (l : List EventOutcome). filter_map marked_in l ++ marked_at r.at) none ∙ ap marked_at is;
  failed_is = ap (λ (l : List EventOutcome). filter_map (failed_in (thread_of r.raiser)) l ++ failed_at r.at) none ∙ ap failed_at is;
  owed_is = ap owed_at is;
}

module _ (layout : Layout) (old new : View) (r after : Raise) (found : ℕ) (got : Option BodyValue) where
  -- a step that lists and marks nothing, and owes as much as before, adds nothing
  nothing : {step : Step} {marked : List Marking} {failed : List Failed} {owed : ℕ} → ListsNone step → Steps layout r.who step None old new found got → new.marks ≡ old.marks → counts_owed new ≡ counts_owed old
      → IsDone marked failed owed r → IsDone marked failed owed after → Adds old new r after
  nothing lists made marks counts before done = record {
    marked = inl (marks, done.marked_is ∙ sym before.marked_is);
    failed = inl (deeds-same r.who lists made, done.failed_is ∙ sym before.failed_is);
    counted = ap (λ (n : ℕ). n + owed_now r) counts ∙ ap (λ (n : ℕ). counts_owed old + n) (before.owed_is ∙ sym done.owed_is);
  }

  handler-step : {step : Step} {turn : Turn} (h : Handler) → r.at ≡ at.Handle h → HasHandler layout old r h → handlers.plan h ≡ Some step → Steps layout r.who step (logs (handlers.put h)) old new found got → FollowsAt layout (bare r) (at.Handle (handlers.bare h)) found got after turn → Adds old new r after
  handler-step {step} {turn} h is has e made next = record {
    marked = subst (λ (l : List Marking). Grows (λ (m : Mark). m.stamp.who) marking_of old.marks new.marks r.who l (marked_now after)) (sym before.marked_is)
        (subst (Grows (λ (m : Mark). m.stamp.who) marking_of old.marks new.marks r.who (handler_done.marked_now h)) (sym (ap marked_now next.next_is ∙ done.marked_is))
        (subst (λ (w : Who). Grows (λ (m : Mark). m.stamp.who) marking_of old.marks new.marks w (handler_done.marked_now h) (handler_done.marked_now next.handler)) has.own adds.marked));
    failed = subst (λ (l : List Failed). AddsFailure r.who old new l (failed_now after)) (sym before.failed_is)
        (subst (AddsFailure r.who old new (handler_done.failed_now h)) (sym (ap failed_now next.next_is ∙ done.failed_is))
        (subst (λ (w : Who). AddsFailure w old new (handler_done.failed_now h) (handler_done.failed_now next.handler)) has.own adds.failed));
    counted = ap (λ (n : ℕ). counts_owed new + n) before.owed_is ∙ adds.counted ∙ ap (λ (n : ℕ). counts_owed old + n) (sym (ap owed_now next.next_is ∙ done.owed_is));
  }
    where
      adds : handler_done.Adds old new h next.handler
      adds = handler-adds layout old new h step found got has.handler e (subst (λ (w : Who). Steps layout w step (logs (handlers.put h)) old new found got) (sym has.own) made) next.handler turn next.follows

      before : IsDone (handler_done.marked_now h) (handler_done.failed_now h) (handler_done.owed_now h) r
      before = done-so-far r (at.Handle h) is has.told_none

      done : IsDone (handler_done.marked_now next.handler) (handler_done.failed_now next.handler) (handler_done.owed_now next.handler) (after_handler (bare r) next.handler)
      done = handler-done (bare r) next.handler has.told_none ((kept layout (handlers.bare h) found got next.handler turn next.follows).thread ∙ has.thread_is)

pub raise-adds : (layout : Layout) (old new : View) (r : Raise) (step : Step) (found : ℕ) (got : Option BodyValue) → Fits layout old r → plan r ≡ Some step → Steps layout r.who step (logs (put r)) old new found got
    → (after : Raise) (turn : Turn) → Follows layout (bare r) found got after turn → Adds old new r after
raise-adds layout old new r step found got fits is made after turn follows = which r.at refl fits.at is made follows
  where
    which : (x : RaiseAt) → r.at ≡ x → FitsAt layout old r x → plan_at x ≡ Some step → Steps layout r.who step (logs (put_at x)) old new found got → FollowsAt layout (bare r) (bare_at x) found got after turn → Adds old new r after
    which at.LoadStop own has e made next = let load = steps-planned e made in
        nothing layout old new r after found got tt load (ap (λ (v : View). v.marks) load.told.next) (ap counts_owed load.told.next)
        (done-so-far r at.LoadStop own has.unchecked.told_none) (stop-done layout (bare r) after has.unchecked.told_none (is_stopped found) r.raiser next.0)
    which (at.LoadProcess raiser) own has e made next = let load = steps-planned e made in
        nothing layout old new r after found got tt load (ap (λ (v : View). v.marks) load.told.next) (ap counts_owed load.told.next)
        (done-so-far r (at.LoadProcess raiser) own has.1.unchecked.told_none) (process-done layout (bare r) after has.1.unchecked.told_none (page_named found) next.0)
    which (at.Handle h) own has e made next = handler-step layout old new r after found got h own has.0 e made next
    which at.GiveUp own has e made next = let gives = steps-planned e made in
        nothing layout old new r after found got tt gives (ap (λ (v : View). v.marks) gives.told.next) (ap counts_owed gives.told.next) (record { marked_is = refl; failed_is = refl; owed_is = refl }) (record {
          marked_is = ap marked_now next.0 ∙ sym (ap (λ (x : RaiseAt). filter_map marked_in r.lines.told ++ marked_at x) own);
          failed_is = ap failed_now next.0 ∙ sym (ap (λ (x : RaiseAt). filter_map (failed_in (thread_of r.raiser)) r.lines.told ++ failed_at x) own);
          owed_is = ap owed_now next.0 ∙ sym (ap owed_at own);
        })
    which (at.Over answer) own has e made next = absurd (none-some step e)
