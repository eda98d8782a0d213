-- What a step of an `Instruction` adds to what its processor lists of the command: the marks of frames, the counts of those, and
-- the entries of failures.
use Rattle.std.proofs.Common.{◌≡◌, inl, inr, ℕ, ◌+◌, ◌&&◌, Bool, true, false, cond, List, [], ◌∷◌, ◌++◌, Option, Some, None, filter_map, append-nil, append_assoc, refl, sym, ap, ◌∙◌, subst}
use Rattle.std.proofs.lemmas.List.Elements.{filter_map-append}
use Rattle.std.proofs.lemmas.Option.{none-some}
use Rattle.hwp_fault.specs.hwp_geom.declared.Frame.{Frame}
use Rattle.hwp_fault.specs.hwp_geom.declared.Layout.{Layout}
use Rattle.hwp_fault.specs.hwp_geom.declared.Thread.{Thread}
use Rattle.hwp_fault.specs.hwp_geom.declared.Who.{Who}
use Rattle.hwp_fault.specs.hwp_page.declared.At.{At}
use Rattle.hwp_fault.specs.hwp_page.History.{BodyValue}
use Rattle.hwp_fault.specs.hwp_words.Stops.{has_no_memory}
use Rattle.hwp_fault.specs.hwp_core_rule.declared.Mark.{Mark}
use Rattle.hwp_fault.specs.hwp_core_rule.declared.Made.{Made}
use Rattle.hwp_fault.specs.hwp_core_rule.declared.SharedWord.TheVariants as places
use Rattle.hwp_fault.specs.hwp_core_rule.declared.Step.{Step}
use Rattle.hwp_fault.specs.hwp_core_rule.declared.Step.TheVariants as steps
use Rattle.hwp_fault.specs.hwp_core_rule.declared.View.{View}
use Rattle.hwp_fault.specs.hwp_core_rule.declared.Turn.{Turn}
use Rattle.hwp_fault.specs.hwp_core_rule.Calls.{Steps, logs}
use Rattle.hwp_fault.proofs.of_hwp_core_rule.tasks.StepLeaves.{steps-planned}
use Rattle.hwp_fault.proofs.of_hwp_core_rule.tasks.MadeEntries.{deeds-same}
use Rattle.hwp_claim.specs.hwp_claim_act.declared.Failed.{Failed}
use Rattle.hwp_claim.specs.hwp_claim_act.Abandoned.{failed_in as failed_of_entry}
use Rattle.hwp_claim.specs.hwp_claim_frame.Done.{Grows, Marking, counts_owed, marking_of}
use Rattle.hwp_claim.proofs.of_hwp_claim_frame.Quiet.{Alike}
use Rattle.hwp_fault.specs.declared.Access.{Access}
use Rattle.hwp_fault.specs.declared.AccessAnswer.{AccessAnswer}
use Rattle.hwp_fault.specs.declared.AccessAnswer.TheVariants as access_answers
use Rattle.hwp_fault.specs.declared.Request.{Request}
use Rattle.hwp_fault.specs.Accesses as accesses
use Rattle.hwp_fault.specs.Adds.{has_checked}
use Rattle.hwp_fault.proofs.FaultAdds.{access-adds}
use Rattle.hwp_claim.specs.declared.Handler.{Handler}
use Rattle.hwp_claim.specs.declared.handler.HandlerAt.{HandlerAt}
use Rattle.hwp_claim.specs.declared.handler.HandlerAt.TheVariants as handler_at
use Rattle.hwp_claim.specs.CheckDone as handler_done
use Rattle.hwp_claim.specs.CheckDone.{failed_in, marked_in}
use Rattle.hwp_claim.specs.Events.{held_in}
use Rattle.hwp_claim.specs.Handlers as handlers
use Rattle.hwp_claim.specs.Told.{first_signal, has_kept, was_poisoned}
use Rattle.hwp_claim.proofs.HandlerAdds.{grows-behind, handler-adds}
use Rattle.hwp_claim.proofs.EventTells.{kept, tell-done, tell-idle}
use Rattle.hwp_claim.specs.hwp_severity.Handling.{has_stop}
use Rattle.hwp_claim.specs.Checks.{Check, restarting, with_own}
use Rattle.hwp_cpu_access.specs.Done.{Adds, FailuresGrow, failed_at, failed_by, failed_now, failures_by, marked_at, marked_by, marked_now, owed_at, owed_now}
use Rattle.hwp_cpu_access.specs.Fits.{FitsAt, FitsBehind, IsAccessing, IsHandling}
use Rattle.hwp_cpu_access.specs.Instructions.{AfterAccess, AfterAccessBy, Follows, FollowsAt, after_handler, after_handler_by, bare, bare_at, emptied, going_on, handler_of, is_pending, left_to_do, plan, plan_at, put, put_at, restarted}
use Rattle.hwp_cpu_access.specs.declared.instruction.Instruction.{Instruction}
use Rattle.hwp_cpu_access.specs.declared.instruction.InstructionAnswer.TheVariants as answers
use Rattle.hwp_cpu_access.specs.declared.instruction.InstructionAt.{InstructionAt}
use Rattle.hwp_cpu_access.specs.declared.instruction.InstructionAt.TheVariants as at
use Rattle.hwp_cpu_access.proofs.CommandGrows.{access-alike, failures-grow, failures-same}

-- ---- what has been done

-- by the failures of machine checks that are over, and of one that goes on
record IsDone (i : Instruction) (marked : List Marking) (failed : List Failed) (owed : ℕ) (after : Instruction) : Type 0 where
  marked_is : marked_now after ≡ marked_by i.lines.told ++ marked
  failed_is : failed_now after ≡ failed_by (Some i.request.thread) i.lines.told ++ failed
  owed_is : owed_now after ≡ owed

-- no machine check goes on
abbrev IsIdle : InstructionAt → Type 0
IsIdle x = (marked_at x ≡ []) × (failed_at x ≡ []) × (owed_at x ≡ 0)

idle-after : (i : Instruction) (stopped : Bool) (frame : Frame) (o : Option At) (kept b : Bool) → IsIdle (cond stopped (at.Over (Some answers.Stopped)) (going_on i.request kept (left_to_do o frame b)))
idle-after i true frame o kept b = (refl, refl, refl)
idle-after i false frame o true b = (refl, refl, refl)
idle-after i false frame (Some place) false b = (refl, refl, refl)
idle-after i false frame None false true = (refl, refl, refl)
idle-after i false frame None false false = (refl, refl, refl)

-- a machine check that goes on, or is over
handler-done : (i : Instruction) (frame : Frame) (h : Handler) → h.thread ≡ Some i.request.thread → IsDone i (handler_done.marked_now h) (handler_done.failed_now h) (handler_done.owed_now h) (after_handler i frame h)
handler-done i frame h thread = which h.at refl
  where
    going : IsDone i (handler_done.marked_now h) (handler_done.failed_now h) (handler_done.owed_now h) (record i { at = at.Handle frame h })
    going = record { marked_is = refl; failed_is = refl; owed_is = refl }

    over : (stopped : Bool) → h.at ≡ handler_at.Over stopped → IsDone i (handler_done.marked_now h) (handler_done.failed_now h) (handler_done.owed_now h) (after_handler_by i frame h (Some stopped))
    over stopped is = let idle = idle-after i stopped frame (first_signal h.events.told) (has_kept h.events.told && i.collects) (was_poisoned frame h.events.told) in record {
      marked_is = ap (λ (l : List Marking). marked_by (i.lines.told ++ h.events.told) ++ l) idle.0 ∙ append-nil (marked_by (i.lines.told ++ h.events.told)) ∙ filter_map-append marked_in i.lines.told h.events.told
          ∙ ap (λ (l : List Marking). marked_by i.lines.told ++ l) (sym (ap (λ (l : List Marking). filter_map marked_in h.events.told ++ l) (ap handler_done.marked_at is) ∙ append-nil (filter_map marked_in h.events.told)));
      failed_is = ap (λ (l : List Failed). failed_by (Some i.request.thread) (i.lines.told ++ h.events.told) ++ l) idle.1 ∙ append-nil (failed_by (Some i.request.thread) (i.lines.told ++ h.events.told)) ∙ filter_map-append (failed_in (Some i.request.thread)) i.lines.told h.events.told
          ∙ ap (λ (l : List Failed). failed_by (Some i.request.thread) i.lines.told ++ l) (sym (ap (λ (l : List Failed). filter_map (failed_in h.thread) h.events.told ++ l) (ap handler_done.failed_at is) ∙ append-nil (filter_map (failed_in h.thread) h.events.told)
          ∙ ap (λ (t : Option Thread). filter_map (failed_in t) h.events.told) thread));
      owed_is = idle.2 ∙ sym (ap handler_done.owed_at is);
    }

    which : (x : HandlerAt) → h.at ≡ x → IsDone i (handler_done.marked_now h) (handler_done.failed_now h) (handler_done.owed_now h) (after_handler_by i frame h (handlers.answer_at x))
    which handler_at.Stop is = going
    which (handler_at.Fail f) is = going
    which handler_at.GaveUp is = going
    which (handler_at.Over stopped) is = over stopped is

-- one that begins has done nothing
begun-done : (layout : Layout) (i : Instruction) (frame : Frame) → (handler_done.marked_now (handler_of layout i frame) ≡ []) × (handler_done.failed_now (handler_of layout i frame) ≡ []) × (handler_done.owed_now (handler_of layout i frame) ≡ 0)
begun-done layout i frame =
    let how = restarting i.mode in
    let banks = with_own i.origin frame i.request.line i.banks in
    let done = tell-done layout i.alloc i.request.who (Some i.request.thread) (has_stop how banks) (held_in how banks) [] in
    let idle = tell-idle layout i.alloc i.request.who (Some i.request.thread) (has_stop how banks) (held_in how banks) [] in (
      ap (λ (l : List Marking). l ++ handler_done.marked_at (handler_of layout i frame).at) done.0 ∙ idle.marked,
      ap (λ (l : List Failed). l ++ handler_done.failed_at (handler_of layout i frame).at) done.1 ∙ idle.failed,
      idle.owed,
    )

-- an access that goes on, or has its answer
access-done : (layout : Layout) (i : Instruction) (a : Access) (after : Instruction) → AfterAccess layout i a after → IsDone i [] [] 0 after
access-done layout i a after = which (accesses.answer a)
  where
    plain : (x : InstructionAt) → IsIdle x → after ≡ record i { at = x } → IsDone i [] [] 0 after
    plain x idle is = record {
      marked_is = ap marked_now is ∙ ap (λ (l : List Marking). marked_by i.lines.told ++ l) idle.0;
      failed_is = ap failed_now is ∙ ap (λ (l : List Failed). failed_by (Some i.request.thread) i.lines.told ++ l) idle.1;
      owed_is = ap owed_now is ∙ idle.2;
    }

    which : (o : Option AccessAnswer) → AfterAccessBy layout i a o after → IsDone i [] [] 0 after
    which None next = plain (at.Access a) (refl, refl, refl) next
    which (Some (access_answers.Checked frame place)) (inl refused) = plain at.GiveUp (refl, refl, refl) refused
    which (Some (access_answers.Checked frame place)) (inr (spare, room, is)) = let none = begun-done layout i frame in let done = handler-done (emptied i spare) frame (handler_of layout i frame) refl in record {
      marked_is = ap marked_now is ∙ done.marked_is ∙ ap (λ (l : List Marking). marked_by i.lines.told ++ l) none.0;
      failed_is = ap failed_now is ∙ done.failed_is ∙ ap (λ (l : List Failed). failed_by (Some i.request.thread) i.lines.told ++ l) none.1;
      owed_is = ap owed_now is ∙ done.owed_is ∙ none.2;
    }
    which (Some (access_answers.Value word place)) next = plain (at.Over (Some (answers.Value word place))) (refl, refl, refl) next
    which (Some (access_answers.Stored place)) next = plain (at.Over (Some (answers.Stored place))) (refl, refl, refl) next
    which (Some (access_answers.Sigbus place)) next = plain (at.Over (Some (answers.Sigbus place))) (refl, refl, refl) next
    which (Some access_answers.NoFrame) next = plain (at.Over (Some answers.NoFrame)) (refl, refl, refl) next
    which (Some (access_answers.Gone page)) next = plain (at.Over (Some (answers.Gone page))) (refl, refl, refl) next
    which (Some access_answers.Stopped) next = plain (at.Over (Some answers.Stopped)) (refl, refl, refl) next

-- ---- each step

fails-behind : (front : List Failed) {old new before after : List Failed} → FailuresGrow old new before after → FailuresGrow old new (front ++ before) (front ++ after)
fails-behind front (inl same) = inl (same.0, ap (λ (l : List Failed). front ++ l) same.1)
fails-behind front {old} {new} {before} (inr grown) = inr (grown.0, grown.1, ap (λ (l : List Failed). front ++ l) grown.2 ∙ sym (append_assoc front before (grown.0 ∷ [])))

module _ {past : List Made} {earlier : List Check} (layout : Layout) (old new : View) (i after : Instruction) (step : Step) (found : ℕ) (got : Option BodyValue) (turn : Turn) (fits : FitsBehind past earlier layout old i) where
  -- what leaves the marks, the counts and the failures, where the command has done nothing more
  nothing : (x : InstructionAt) → i.at ≡ x → IsIdle x → new.marks ≡ old.marks → counts_owed new ≡ counts_owed old → failures_by i.request.who new ≡ failures_by i.request.who old → IsDone i [] [] 0 after → Adds old new i after
  nothing x is idle marks counts failures done = record {
    marked = inl (marks, done.marked_is ∙ sym (ap (λ (l : List Marking). marked_by i.lines.told ++ l) (ap marked_at is ∙ idle.0)));
    failed = inl (failures, done.failed_is ∙ sym (ap (λ (l : List Failed). failed_by (Some i.request.thread) i.lines.told ++ l) (ap failed_at is ∙ idle.1)));
    counted = ap (λ (n : ℕ). n + owed_now i) counts ∙ ap (λ (n : ℕ). counts_owed old + n) (ap owed_at is ∙ idle.2 ∙ sym done.owed_is);
  }

  plain-done : (x : InstructionAt) → IsIdle x → after ≡ record i { at = x } → IsDone i [] [] 0 after
  plain-done x idle is = record {
    marked_is = ap marked_now is ∙ ap (λ (l : List Marking). marked_by i.lines.told ++ l) idle.0;
    failed_is = ap failed_now is ∙ ap (λ (l : List Failed). failed_by (Some i.request.thread) i.lines.told ++ l) idle.1;
    owed_is = ap owed_now is ∙ idle.2;
  }

  access-step : (a : Access) → i.at ≡ at.Access a → IsAccessing past layout old i (earlier ++ fits.checks) a → accesses.plan a ≡ Some step → Steps layout i.request.who step (logs (accesses.put a)) old new found got → FollowsAt layout (bare i) (at.Access (accesses.bare a)) found got after turn → Adds old new i after
  access-step a is has e made next = nothing (at.Access a) is (refl, refl, refl) alike.marks alike.owed
      (subst (λ (r : Request). failures_by r.who new ≡ failures_by r.who old) has.own (failures-same a.request old new (has_checked a.at) (has_checked next.access.at) (access-adds layout old new a step found got has.access e own next.access turn next.follows)))
      (access-done layout i next.access after next.next_is)
    where
      own : Steps layout a.request.who step (logs (accesses.put a)) old new found got
      own = subst (λ (r : Request). Steps layout r.who step (logs (accesses.put a)) old new found got) (sym has.own) made

      alike : Alike old new
      alike = access-alike a e own

  handler-step : (frame : Frame) (h : Handler) → i.at ≡ at.Handle frame h → IsHandling past layout old i (earlier ++ fits.checks) frame h → handlers.plan h ≡ Some step → Steps layout i.request.who step (logs (handlers.put h)) old new found got
      → FollowsAt layout (bare i) (at.Handle frame (handlers.bare h)) found got after turn → Adds old new i after
  handler-step frame h is going e made next = record {
    marked = subst (λ (l : List Marking). Grows (λ (m : Mark). m.stamp.who) marking_of old.marks new.marks i.request.who l (marked_now after)) (sym (ap (λ (l : List Marking). marked_by i.lines.told ++ l) (ap marked_at is)))
        (subst (Grows (λ (m : Mark). m.stamp.who) marking_of old.marks new.marks i.request.who (marked_by i.lines.told ++ handler_done.marked_now h)) (sym (ap marked_now next.next_is ∙ done.marked_is))
        (grows-behind marking_of (marked_by i.lines.told) (subst (λ (w : Who). Grows (λ (m : Mark). m.stamp.who) marking_of old.marks new.marks w (handler_done.marked_now h) (handler_done.marked_now next.handler)) going.has.own adds.marked)));
    failed = subst (λ (l : List Failed). FailuresGrow (failures_by i.request.who old) (failures_by i.request.who new) l (failed_now after)) (sym (ap (λ (l : List Failed). failed_by (Some i.request.thread) i.lines.told ++ l) (ap failed_at is)))
        (subst (FailuresGrow (failures_by i.request.who old) (failures_by i.request.who new) (failed_by (Some i.request.thread) i.lines.told ++ handler_done.failed_now h)) (sym (ap failed_now next.next_is ∙ done.failed_is))
        (fails-behind (failed_by (Some i.request.thread) i.lines.told) (subst (λ (w : Who). FailuresGrow (failures_by w old) (failures_by w new) (handler_done.failed_now h) (handler_done.failed_now next.handler)) going.has.own (failures-grow h.who old new adds.failed))));
    counted = ap (λ (n : ℕ). counts_owed new + n) (ap owed_at is) ∙ adds.counted ∙ ap (λ (n : ℕ). counts_owed old + n) (sym (ap owed_now next.next_is ∙ done.owed_is));
  }
    where
      adds : handler_done.Adds old new h next.handler
      adds = handler-adds layout old new h step found got going.has.handler e (subst (λ (w : Who). Steps layout w step (logs (handlers.put h)) old new found got) (sym going.has.own) made) next.handler turn next.follows

      done : IsDone i (handler_done.marked_now next.handler) (handler_done.failed_now next.handler) (handler_done.owed_now next.handler) (after_handler i frame next.handler)
      done = handler-done i frame next.handler ((kept layout (handlers.bare h) found got next.handler turn next.follows).thread ∙ going.has.thread_is)

  frame-step : (frame : Frame) → i.at ≡ at.LoadFrame frame → Some (steps.Load (places.Frame frame)) ≡ Some step → Steps layout i.request.who step None old new found got → (b : Bool) → after ≡ record i { at = cond b (at.LoadStop frame) (restarted i) } → Adds old new i after
  frame-step frame is e made b next = let own = steps-planned e made in
      nothing (at.LoadFrame frame) is (refl, refl, refl) (ap (λ (v : View). v.marks) own.told.next) (ap counts_owed own.told.next) (ap (filter_map failed_of_entry) (deeds-same i.request.who tt own)) (plain-done (cond b (at.LoadStop frame) (restarted i)) (idle b) next)
    where
      idle : (c : Bool) → IsIdle (cond c (at.LoadStop frame) (restarted i))
      idle true = (refl, refl, refl)
      idle false = (refl, refl, refl)

  stop-step : (frame : Frame) → i.at ≡ at.LoadStop frame → Some (steps.Load places.Stop) ≡ Some step → Steps layout i.request.who step None old new found got → (b : Bool) → after ≡ record i { at = cond b (at.Over None) (at.LoadFrame frame) } → Adds old new i after
  stop-step frame is e made b next = let own = steps-planned e made in
      nothing (at.LoadStop frame) is (refl, refl, refl) (ap (λ (v : View). v.marks) own.told.next) (ap counts_owed own.told.next) (ap (filter_map failed_of_entry) (deeds-same i.request.who tt own)) (plain-done (cond b (at.Over None) (at.LoadFrame frame)) (idle b) next)
    where
      idle : (c : Bool) → IsIdle (cond c (at.Over None) (at.LoadFrame frame))
      idle true = (refl, refl, refl)
      idle false = (refl, refl, refl)

  give-up-step : i.at ≡ at.GiveUp → Some steps.GiveUp ≡ Some step → Steps layout i.request.who step None old new found got → after ≡ record i { at = at.Over None } → Adds old new i after
  give-up-step is e made next = let own = steps-planned e made in
      nothing at.GiveUp is (refl, refl, refl) (ap (λ (v : View). v.marks) own.told.next) (ap counts_owed own.told.next) (ap (filter_map failed_of_entry) (deeds-same i.request.who tt own)) (plain-done (at.Over None) (refl, refl, refl) next)

pub instruction-adds : {past : List Made} {earlier : List Check} (layout : Layout) (old new : View) (i : Instruction) (step : Step) (found : ℕ) (got : Option BodyValue) → FitsBehind past earlier layout old i → plan i ≡ Some step → Steps layout i.request.who step (logs (put i)) old new found got
    → (after : Instruction) (turn : Turn) → Follows layout (bare i) found got after turn → Adds old new i after
instruction-adds {past} {earlier} layout old new i step found got fits is made after turn follows = which i.at refl fits.at is made follows
  where
    which : (x : InstructionAt) → i.at ≡ x → FitsAt past layout old i (earlier ++ fits.checks) x → plan_at x ≡ Some step → Steps layout i.request.who step (logs (put_at x)) old new found got → FollowsAt layout (bare i) (bare_at x) found got after turn → Adds old new i after
    which (at.Access a) own has e made next = access-step layout old new i after step found got turn fits a own has e made next
    which (at.Handle frame h) own has e made next = handler-step layout old new i after step found got turn fits frame h own has e made next
    which (at.LoadFrame frame) own has e made next = frame-step layout old new i after step found got turn fits frame own e made (is_pending found) next.0
    which (at.LoadStop frame) own has e made next = stop-step layout old new i after step found got turn fits frame own e made (has_no_memory found) next.0
    which at.GiveUp own has e made next = give-up-step layout old new i after step found got turn fits own e made next.0
    which (at.Paused pause) own has e made next = absurd (none-some step e)
    which (at.Over answer) own has e made next = absurd (none-some step e)
