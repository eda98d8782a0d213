-- What a step of a `Scrub` adds: the mark of a frame, the count of that, and the entry of a failure.
use Rattle.std.proofs.Common.{◌≡◌, inl, inr, ℕ, ◌+◌, nat_lt, Bool, true, false, cond, List, [], ◌∷◌, ◌++◌, Option, Some, None, filter_map, slice_index_or, append-nil, append_assoc, refl, sym, ap, ◌∙◌, subst}
use Rattle.std.proofs.lemmas.List.Elements.{filter_map-append}
use Rattle.std.proofs.lemmas.Option.{none-some}
use Rattle.hwp_claim.specs.hwp_geom.declared.Frame.{Frame}
use Rattle.hwp_claim.specs.hwp_geom.declared.Layout.{Layout}
use Rattle.hwp_claim.specs.hwp_geom.declared.Thread.{Thread}
use Rattle.hwp_claim.specs.hwp_geom.declared.Who.{Who}
use Rattle.hwp_claim.specs.hwp_banks.declared.Event.{Event}
use Rattle.hwp_claim.specs.hwp_banks.declared.Origin.TheVariants as origins
use Rattle.hwp_claim.specs.hwp_banks.Events.{own_event}
use Rattle.hwp_claim.specs.hwp_banks.Logged.{logged}
use Rattle.hwp_claim.specs.hwp_page.History.{BodyValue}
use Rattle.hwp_claim.specs.hwp_words.Stops.{is_stopped}
use Rattle.hwp_claim.specs.hwp_core_rule.declared.Mark.{Mark}
use Rattle.hwp_claim.specs.hwp_core_rule.declared.Step.{Step}
use Rattle.hwp_claim.specs.hwp_core_rule.declared.View.{View}
use Rattle.hwp_claim.specs.hwp_core_rule.declared.Turn.{Turn}
use Rattle.hwp_claim.specs.hwp_core_rule.Calls.{Steps, logs}
use Rattle.hwp_claim.proofs.of_hwp_core_rule.tasks.StepLeaves.{steps-planned}
use Rattle.hwp_claim.proofs.of_hwp_core_rule.tasks.MadeEntries.{ListsNone, deeds-same}
use Rattle.hwp_claim.specs.hwp_claim_act.declared.Failed.{Failed}
use Rattle.hwp_claim.specs.hwp_claim_act.Abandoned.{AddsFailure}
use Rattle.hwp_claim.specs.hwp_claim_frame.Done.{Grows, Marking, counts_owed, marking_of}
use Rattle.hwp_claim.specs.hwp_banks.Banks.{Banks}
use Rattle.hwp_claim.specs.hwp_severity.Handling.{has_stop}
use Rattle.hwp_claim.specs.declared.Handler.{Handler}
use Rattle.hwp_claim.specs.declared.EventOutcome.{EventOutcome}
use Rattle.hwp_claim.specs.declared.handler.HandlerAt.{HandlerAt}
use Rattle.hwp_claim.specs.declared.handler.HandlerAt.TheVariants as handler_at
use Rattle.hwp_claim.specs.CheckDone as handler_done
use Rattle.hwp_claim.specs.CheckDone.{failed_in, marked_in}
use Rattle.hwp_claim.specs.Events.{held_in}
use Rattle.hwp_claim.specs.Handlers as handlers
use Rattle.hwp_claim.proofs.HandlerAdds.{grows-behind, handler-adds}
use Rattle.hwp_claim.proofs.EventTells.{kept as handler-kept, tell-done, tell-idle}
use Rattle.hwp_scrub.specs.Done.{Adds, failed_at, failed_now, marked_at, marked_now, owed_at, owed_now}
use Rattle.hwp_scrub.specs.Fits.{Fits, FitsAt, HasHandler}
use Rattle.hwp_scrub.specs.Scrubs.{AfterBadBy, AfterWeakBy, BeginsCheck, Follows, FollowsAt, after_handler, after_handler_by, bare, bare_at, emptied, gone_on, handler_of, kept, kept_line, kept_lines, plan, plan_at, put, put_at, with_room}
use Rattle.hwp_scrub.specs.Visits.{scrub_bank, scrubbing, with_bad}
use Rattle.hwp_scrub.specs.declared.scrub.Scrub.{Scrub}
use Rattle.hwp_scrub.specs.declared.scrub.ScrubAnswer.TheVariants as answers
use Rattle.hwp_scrub.specs.declared.scrub.ScrubAt.{ScrubAt}
use Rattle.hwp_scrub.specs.declared.scrub.ScrubAt.TheVariants as at

-- behind the lines that the command had, it has done this
record IsDone (told : List EventOutcome) (marked : List Marking) (failed : List Failed) (owed : ℕ) (after : Scrub) : Type 0 where
  marked_is : marked_now after ≡ filter_map marked_in told ++ marked
  failed_is : failed_now after ≡ filter_map (failed_in None) told ++ failed
  owed_is : owed_now after ≡ owed

-- nothing of a machine check under way
abbrev IsIdle : ScrubAt → Type 0
IsIdle x = (marked_at x ≡ []) × (failed_at x ≡ []) × (owed_at x ≡ 0)

idle-done : (told : List EventOutcome) (after : Scrub) (x : ScrubAt) → IsIdle x → filter_map marked_in after.lines.told ≡ filter_map marked_in told → filter_map (failed_in None) after.lines.told ≡ filter_map (failed_in None) told → IsDone told [] [] 0 (record after { at = x })
idle-done told after x idle marked failed = record {
  marked_is = ap (λ (l : List Marking). filter_map marked_in after.lines.told ++ l) idle.0 ∙ ap (λ (l : List Marking). l ++ []) marked;
  failed_is = ap (λ (l : List Failed). filter_map (failed_in None) after.lines.told ++ l) idle.1 ∙ ap (λ (l : List Failed). l ++ []) failed;
  owed_is = idle.2;
}

-- ---- a machine check

-- as much as the machine check, which goes on or is over
handler-done : (s : Scrub) (frame : Frame) (h : Handler) → h.thread ≡ None → IsDone s.lines.told (handler_done.marked_now h) (handler_done.failed_now h) (handler_done.owed_now h) (after_handler s frame h)
handler-done s frame h thread = which h.at refl
  where
    going : IsDone s.lines.told (handler_done.marked_now h) (handler_done.failed_now h) (handler_done.owed_now h) (record s { at = at.Handle frame h })
    going = record { marked_is = refl; failed_is = refl; owed_is = refl }

    idle : (stopped : Bool) → IsIdle (cond stopped (at.Over (Some answers.Stopped)) (at.LoadWeak frame))
    idle true = (refl, refl, refl)
    idle false = (refl, refl, refl)

    over : (stopped : Bool) → h.at ≡ handler_at.Over stopped → IsDone s.lines.told (handler_done.marked_now h) (handler_done.failed_now h) (handler_done.owed_now h) (after_handler_by s frame h (Some stopped))
    over stopped is = record {
      marked_is = ap (λ (l : List Marking). filter_map marked_in (s.lines.told ++ h.events.told) ++ l) (idle stopped).0 ∙ append-nil (filter_map marked_in (s.lines.told ++ h.events.told)) ∙ filter_map-append marked_in s.lines.told h.events.told
          ∙ ap (λ (l : List Marking). filter_map marked_in s.lines.told ++ l) (sym (ap (λ (l : List Marking). filter_map marked_in h.events.told ++ l) (ap handler_done.marked_at is) ∙ append-nil (filter_map marked_in h.events.told)));
      failed_is = ap (λ (l : List Failed). filter_map (failed_in None) (s.lines.told ++ h.events.told) ++ l) (idle stopped).1 ∙ append-nil (filter_map (failed_in None) (s.lines.told ++ h.events.told)) ∙ filter_map-append (failed_in None) s.lines.told h.events.told
          ∙ ap (λ (l : List Failed). filter_map (failed_in None) s.lines.told ++ l) (sym (ap (λ (l : List Failed). filter_map (failed_in h.thread) h.events.told ++ l) (ap handler_done.failed_at is) ∙ append-nil (filter_map (failed_in h.thread) h.events.told)
          ∙ ap (λ (t : Option Thread). filter_map (failed_in t) h.events.told) thread));
      owed_is = (idle stopped).2 ∙ sym (ap handler_done.owed_at is);
    }

    which : (x : HandlerAt) → h.at ≡ x → IsDone s.lines.told (handler_done.marked_now h) (handler_done.failed_now h) (handler_done.owed_now h) (after_handler_by s frame h (handlers.answer_at x))
    which handler_at.Stop is = going
    which (handler_at.Fail f) is = going
    which handler_at.GaveUp is = going
    which (handler_at.Over stopped) is = over stopped is

-- one that begins has done nothing
begun-done : (layout : Layout) (s : Scrub) (frame : Frame) (line : ℕ) (after : Scrub) → BeginsCheck layout s frame line after → IsDone s.lines.told [] [] 0 after
begun-done layout s frame line after (inl refused) = subst (IsDone s.lines.told [] [] 0) (sym refused) (idle-done s.lines.told s at.GiveUp (refl, refl, refl) refl refl)
begun-done layout s frame line after (inr (spare, room, is)) =
    let banks : Banks = with_bad frame line s.banks in
    let done = tell-done layout s.alloc s.who None (has_stop scrubbing banks) (held_in scrubbing banks) [] in
    let idle = tell-idle layout s.alloc s.who None (has_stop scrubbing banks) (held_in scrubbing banks) [] in
    let all = handler-done (emptied s spare) frame (handler_of layout s frame line) refl in record {
      marked_is = ap marked_now is ∙ all.marked_is ∙ ap (λ (l : List Marking). filter_map marked_in s.lines.told ++ l) (ap (λ (l : List Marking). l ++ handler_done.marked_at (handler_of layout s frame line).at) done.0 ∙ idle.marked);
      failed_is = ap failed_now is ∙ all.failed_is ∙ ap (λ (l : List Failed). filter_map (failed_in None) s.lines.told ++ l) (ap (λ (l : List Failed). l ++ handler_done.failed_at (handler_of layout s frame line).at) done.1 ∙ idle.failed);
      owed_is = ap owed_now is ∙ all.owed_is ∙ idle.owed;
    }

-- ---- a weak line

-- what is kept on record is no failure
kept-marked : (told : List EventOutcome) (o : Option Event) → filter_map marked_in (told ++ kept_lines o) ≡ filter_map marked_in told
kept-marked told None = ap (filter_map marked_in) (append-nil told)
kept-marked told (Some event) = filter_map-append marked_in told (kept_line event ∷ []) ∙ append-nil (filter_map marked_in told)

kept-failed : (told : List EventOutcome) (o : Option Event) → filter_map (failed_in None) (told ++ kept_lines o) ≡ filter_map (failed_in None) told
kept-failed told None = ap (filter_map (failed_in None)) (append-nil told)
kept-failed told (Some event) = filter_map-append (failed_in None) told (kept_line event ∷ []) ∙ append-nil (filter_map (failed_in None) told)

gone-idle : (s : Scrub) (frame : Frame) (b : Bool) → IsIdle (cond b (at.LoadBad (record { 0 = frame.0 + 1 })) (at.Over (Some answers.Scrubbed)))
gone-idle s frame true = (refl, refl, refl)
gone-idle s frame false = (refl, refl, refl)

weak-done : (s : Scrub) (frame : Frame) (line : Option ℕ) (after : Scrub) → AfterWeakBy s frame line after → IsDone s.lines.told [] [] 0 after
weak-done s frame None after next = subst (IsDone s.lines.told [] [] 0) (sym next) (idle-done s.lines.told s (gone_on s frame).at (gone-idle s frame (nat_lt frame.0 s.last.0)) refl refl)
weak-done s frame (Some line) after (inl refused) = subst (IsDone s.lines.told [] [] 0) (sym refused) (idle-done s.lines.told s at.GiveUp (refl, refl, refl) refl refl)
weak-done s frame (Some line) after (inr (spare, room, is)) =
    let held : Option Event = logged (slice_index_or s.banks scrub_bank None) (own_event origins.WeakLine frame line) in
    subst (IsDone s.lines.told [] [] 0) (sym is) (idle-done s.lines.told (kept (with_room s spare) frame line) (gone_on s frame).at (gone-idle s frame (nat_lt frame.0 s.last.0)) (kept-marked s.lines.told held) (kept-failed s.lines.told held))

-- ---- each step

bad-done : (layout : Layout) (s : Scrub) (frame : Frame) (line : Option ℕ) (after : Scrub) → AfterBadBy layout s frame line after → IsDone s.lines.told [] [] 0 after
bad-done layout s frame None after next = subst (IsDone s.lines.told [] [] 0) (sym next) (idle-done s.lines.told s (at.LoadWeak frame) (refl, refl, refl) refl refl)
bad-done layout s frame (Some line) after next = begun-done layout s frame line after next

stop-done : (s : Scrub) (b : Bool) → IsDone s.lines.told [] [] 0 (record s { at = cond b (at.Over (Some answers.Stopped)) (at.LoadBad s.first) })
stop-done s true = idle-done s.lines.told s (at.Over (Some answers.Stopped)) (refl, refl, refl) refl refl
stop-done s false = idle-done s.lines.told s (at.LoadBad s.first) (refl, refl, refl) refl refl

failure-behind : (who : Who) (old new : View) (front : List Failed) {before after : List Failed} → AddsFailure who old new before after → AddsFailure who old new (front ++ before) (front ++ after)
failure-behind who old new front {before} (inl same) = inl (same.0, ap (λ (l : List Failed). front ++ l) same.1)
failure-behind who old new front {before} (inr grown) = inr (grown.0, grown.1, grown.2, grown.3, ap (λ (l : List Failed). front ++ l) grown.4 ∙ sym (append_assoc front before (grown.1 ∷ [])))

module _ (layout : Layout) (old new : View) (s after : Scrub) (found : ℕ) (got : Option BodyValue) where
  -- a step that lists and marks nothing, and owes as much as before, adds nothing
  nothing : {step : Step} (x : ScrubAt) → s.at ≡ x → IsIdle x → ListsNone step → Steps layout s.who step None old new found got → new.marks ≡ old.marks → counts_owed new ≡ counts_owed old → IsDone s.lines.told [] [] 0 after → Adds old new s after
  nothing x is idle lists made marks counts done = record {
    marked = inl (marks, done.marked_is ∙ sym (ap (λ (l : List Marking). filter_map marked_in s.lines.told ++ l) (ap marked_at is ∙ idle.0)));
    failed = inl (deeds-same s.who lists made, done.failed_is ∙ sym (ap (λ (l : List Failed). filter_map (failed_in None) s.lines.told ++ l) (ap failed_at is ∙ idle.1)));
    counted = ap (λ (n : ℕ). n + owed_now s) counts ∙ ap (λ (n : ℕ). counts_owed old + n) (ap owed_at is ∙ idle.2 ∙ sym done.owed_is);
  }

  handler-step : {step : Step} {turn : Turn} (frame : Frame) (h : Handler) → s.at ≡ at.Handle frame h → HasHandler layout old s frame h → handlers.plan h ≡ Some step → Steps layout s.who step (logs (handlers.put h)) old new found got
      → FollowsAt layout (bare s) (at.Handle frame (handlers.bare h)) found got after turn → Adds old new s after
  handler-step {step} {turn} frame h is has e made next = record {
    marked = subst (λ (l : List Marking). Grows (λ (m : Mark). m.stamp.who) marking_of old.marks new.marks s.who l (marked_now after)) (sym (ap (λ (l : List Marking). marks ++ l) (ap marked_at is)))
        (subst (Grows (λ (m : Mark). m.stamp.who) marking_of old.marks new.marks s.who (marks ++ handler_done.marked_now h)) (sym (ap marked_now next.next_is ∙ done.marked_is))
        (grows-behind marking_of marks (subst (λ (w : Who). Grows (λ (m : Mark). m.stamp.who) marking_of old.marks new.marks w (handler_done.marked_now h) (handler_done.marked_now next.handler)) has.own adds.marked)));
    failed = subst (λ (l : List Failed). AddsFailure s.who old new l (failed_now after)) (sym (ap (λ (l : List Failed). failures ++ l) (ap failed_at is)))
        (subst (AddsFailure s.who old new (failures ++ handler_done.failed_now h)) (sym (ap failed_now next.next_is ∙ done.failed_is))
        (failure-behind s.who old new failures (subst (λ (w : Who). AddsFailure w old new (handler_done.failed_now h) (handler_done.failed_now next.handler)) has.own adds.failed)));
    counted = ap (λ (n : ℕ). counts_owed new + n) (ap owed_at is) ∙ adds.counted ∙ ap (λ (n : ℕ). counts_owed old + n) (sym (ap owed_now next.next_is ∙ done.owed_is));
  }
    where
      marks : List Marking
      marks = filter_map marked_in s.lines.told

      failures : List Failed
      failures = filter_map (failed_in None) s.lines.told

      adds : handler_done.Adds old new h next.handler
      adds = handler-adds layout old new h step found got has.handler e (subst (λ (w : Who). Steps layout w step (logs (handlers.put h)) old new found got) (sym has.own) made) next.handler turn next.follows

      done : IsDone s.lines.told (handler_done.marked_now next.handler) (handler_done.failed_now next.handler) (handler_done.owed_now next.handler) (after_handler (bare s) frame next.handler)
      done = handler-done (bare s) frame next.handler ((handler-kept layout (handlers.bare h) found got next.handler turn next.follows).thread ∙ has.thread_is)

pub scrub-adds : (layout : Layout) (old new : View) (s : Scrub) (step : Step) (found : ℕ) (got : Option BodyValue) → Fits layout old s → plan s ≡ Some step → Steps layout s.who step (logs (put s)) old new found got
    → (after : Scrub) (turn : Turn) → Follows layout (bare s) found got after turn → Adds old new s after
scrub-adds layout old new s step found got fits is made after turn follows = which s.at refl fits.at is made follows
  where
    which : (x : ScrubAt) → s.at ≡ x → FitsAt layout old s x → plan_at x ≡ Some step → Steps layout s.who step (logs (put_at x)) old new found got → FollowsAt layout (bare s) (bare_at x) found got after turn → Adds old new s after
    which at.LoadStop own has e made next = let load = steps-planned e made in
        nothing layout old new s after found got at.LoadStop own (refl, refl, refl) tt load (ap (λ (v : View). v.marks) load.told.next) (ap counts_owed load.told.next) (subst (IsDone s.lines.told [] [] 0) (sym next.0) (stop-done (bare s) (is_stopped found)))
    which (at.LoadBad frame) own has e made next = let load = steps-planned e made in
        nothing layout old new s after found got (at.LoadBad frame) own (refl, refl, refl) tt load (ap (λ (v : View). v.marks) load.told.next) (ap counts_owed load.told.next) (bad-done layout (bare s) frame next.0.0 after next.0.2)
    which (at.Handle frame h) own has e made next = handler-step layout old new s after found got frame h own has.0 e made next
    which (at.LoadWeak frame) own has e made next = let load = steps-planned e made in
        nothing layout old new s after found got (at.LoadWeak frame) own (refl, refl, refl) tt load (ap (λ (v : View). v.marks) load.told.next) (ap counts_owed load.told.next) (weak-done (bare s) frame next.0.0 after next.0.2)
    which at.GiveUp own has e made next = let gives = steps-planned e made in
        nothing layout old new s after found got at.GiveUp own (refl, refl, refl) tt gives (ap (λ (v : View). v.marks) gives.told.next) (ap counts_owed gives.told.next)
        (subst (IsDone s.lines.told [] [] 0) (sym next.0) (idle-done s.lines.told s (at.Over None) (refl, refl, refl) refl refl))
    which (at.Over answer) own has e made next = absurd (none-some step e)
