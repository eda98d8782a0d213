-- The laws of `Instruction`: its steps can be made, and what follows them fits.
use Rattle.std.proofs.Common.{◌≡◌, inl, inr, ℕ, ◌+◌, ◌≤◌, ◌&&◌, Bool, true, false, cond, List, [], ◌∷◌, ◌++◌, Option, Some, None, filter, length, map, append-nil, refl, sym, ap, ◌∙◌, subst, arith}
use Rattle.std.specs.Int.{from_bool}
use Rattle.std.specs.List.{list_any}
use Rattle.std.proofs.lemmas.List.{append_assoc, length-set}
use Rattle.std.proofs.lemmas.Bool.{and_parts, both_ways}
use Rattle.std.proofs.lemmas.Option.{none-some, same_Some}
use Rattle.hwp_fault.specs.hwp_geom.declared.Frame.{Frame}
use Rattle.hwp_fault.specs.hwp_geom.declared.Layout.{Layout}
use Rattle.hwp_fault.specs.hwp_geom.declared.Thread.{Thread}
use Rattle.hwp_fault.specs.hwp_geom.declared.Who.{Who}
use Rattle.hwp_fault.specs.hwp_geom.Layout.{IsSound}
use Rattle.hwp_claim.specs.hwp_banks.Events.{bank_count, bank_of}
use Rattle.hwp_fault.specs.hwp_page.declared.At.{At}
use Rattle.hwp_fault.specs.hwp_page.History.{BodyValue}
use Rattle.hwp_fault.specs.hwp_words.Stops.{has_no_memory}
use Rattle.hwp_fault.specs.hwp_core_rule.declared.SharedWord.TheVariants as places
use Rattle.hwp_fault.specs.hwp_core_rule.declared.Step.{Step}
use Rattle.hwp_fault.specs.hwp_core_rule.declared.Step.TheVariants as steps
use Rattle.hwp_fault.specs.hwp_core_rule.declared.View.{View}
use Rattle.hwp_fault.specs.hwp_core_rule.declared.Turn.{Turn}
use Rattle.hwp_fault.specs.hwp_core_rule.Calls.{CanMake, IsOnTurn, Steps, logs}
use Rattle.hwp_fault.specs.hwp_core_rule.Hands.{hand_of, empty}
use Rattle.hwp_fault.proofs.of_hwp_core_rule.tasks.StepLeaves.{can-make, hand-planned, on-turn-after, steps-planned}
use Rattle.hwp_claim.specs.hwp_claim_act.Abandoned.{AddsFailure}
use Rattle.hwp_fault.specs.hwp_core_rule.declared.Made.{Made}
use Rattle.hwp_fault.specs.hwp_core_rule.Known.{HasMadeNoneBeside, deeds}
use Rattle.hwp_fault.specs.hwp_core_rule.Turns.{IsTask}
use Rattle.hwp_fault.proofs.of_hwp_core_rule.tasks.MadeEntries.{deeds-same, only-beside-stays}
use Rattle.hwp_fault.proofs.of_hwp_core_rule.tasks.SightKeeps.{saw-stays}
use Rattle.hwp_fault.specs.declared.Access.{Access}
use Rattle.hwp_fault.specs.declared.AccessAnswer.{AccessAnswer}
use Rattle.hwp_fault.specs.declared.AccessAnswer.TheVariants as access_answers
use Rattle.hwp_fault.specs.declared.Request.{Request}
use Rattle.hwp_fault.specs.declared.access.AccessAt.{AccessAt}
use Rattle.hwp_fault.specs.declared.access.AccessAt.TheVariants as access_at
use Rattle.hwp_fault.specs.Accesses as accesses
use Rattle.hwp_fault.specs.Adds.{has_checked, is_checked}
use Rattle.hwp_fault.proofs.AccessLaws.{answered as access-answered, begins as access-begins, begins-again, can as access-can, stays as access-stays}
use Rattle.hwp_fault.proofs.FaultAdds.{access-adds, access-owes}
use Rattle.hwp_claim.specs.hwp_banks.Banks.{Banks, empty_banks}
use Rattle.hwp_claim.specs.hwp_severity.Handling.{has_stop}
use Rattle.hwp_claim.specs.hwp_law.Commands.{is_check}
use Rattle.hwp_claim.specs.declared.Handler.{Handler}
use Rattle.hwp_claim.specs.declared.Held.{Held}
use Rattle.hwp_claim.specs.declared.EventOutcome.{EventOutcome}
use Rattle.hwp_claim.specs.declared.handler.HandlerAt.{HandlerAt}
use Rattle.hwp_claim.specs.declared.handler.HandlerAt.TheVariants as handler_at
use Rattle.hwp_claim.specs.CheckDone as handler_done
use Rattle.hwp_claim.specs.Events.{held_in}
use Rattle.hwp_claim.specs.Fits as handler_fits
use Rattle.hwp_claim.specs.Fits.{AreTold}
use Rattle.hwp_claim.specs.Handlers as handlers
use Rattle.hwp_claim.specs.Told.{first_signal, has_kept, stops_machine, was_poisoned}
use Rattle.hwp_claim.proofs.HandlerAdds.{handler-adds}
use Rattle.hwp_claim.proofs.BankGrades.{found-in}
use Rattle.hwp_claim.proofs.HandlerLaws.{begins-fit, can as handler-can, stays as handler-stays}
use Rattle.hwp_claim.proofs.FailureKeeps.{Stay, fail-stay, quiet-stay}
use Rattle.hwp_claim.proofs.CheckRoom.{shows-within}
use Rattle.hwp_claim.proofs.EventTells.{events-stay, kept}
use Rattle.hwp_claim.specs.Lines.{with_lines}
use Rattle.hwp_claim.specs.Checks.{Check, left_by, lines_of, restarting, with_own}
use Rattle.hwp_cpu_access.specs.Checks.{AreChecks, IsCheck, SawBad}
use Rattle.hwp_cpu_access.specs.Fits.{FitsAt, FitsBehind, FitsFrom, HasHandler, HasOnlyBefore, IsAccessing, IsEnd, IsGoing, IsLeft, IsOfAccess, IsOwnEnd, IsPaused, IsSignalled, IsWaiting, LetsGoOn, banks_at, checks_in, checks_made, task as instruction-task}
use Rattle.hwp_cpu_access.specs.Instructions.{AfterAccess, AfterAccessBy, BeginsCheck, Follows, FollowsAt, Shows, ShowsAt, after_handler, after_handler_by, after_load, after_stop, again_with, bare, bare_at, begin, emptied, going_on, handler_of, is_pending, left_to_do, pause, pause_at, plan, plan_at, put, put_at, restarted}
use Rattle.hwp_cpu_access.specs.declared.instruction.Instruction.{Instruction}
use Rattle.hwp_cpu_access.specs.declared.instruction.InstructionAnswer.{InstructionAnswer}
use Rattle.hwp_cpu_access.specs.declared.instruction.InstructionAnswer.TheVariants as answers
use Rattle.hwp_cpu_access.specs.declared.instruction.InstructionAt.{InstructionAt}
use Rattle.hwp_cpu_access.specs.declared.instruction.InstructionAt.TheVariants as at
use Rattle.hwp_cpu_access.specs.declared.instruction.Pause.{Pause}
use Rattle.hwp_cpu_access.specs.declared.instruction.Pause.TheVariants as pauses
use Rattle.hwp_cpu_access.proofs.CheckLaws.{checks-more, count-more, halts-more, left-behind, left-more, lets-more, lines-more, signal-more}
use Rattle.hwp_cpu_access.proofs.CommandGrows.{access-stay, bad-stays, checks-stay, count-after, count-kept, only-checked, only-kept}

-- ---- the steps can be made

pub can : {past : List Made} {earlier : List Check} (layout : Layout) (view : View) (i : Instruction) (step : Step) → FitsBehind past earlier layout view i → plan i ≡ Some step → CanMake layout i.request.who step (put i) view
can {past} {earlier} layout view i step fits is = which i.at fits.at is
  where
    which : (x : InstructionAt) → FitsAt past layout view i (earlier ++ fits.checks) x → plan_at x ≡ Some step → CanMake layout i.request.who step (put_at x) view
    which (at.Access a) has e = subst (λ (r : Request). CanMake layout r.who step (accesses.put a) view) has.own (access-can layout view a step has.access e)
    which (at.Handle frame h) has e = subst (λ (w : Who). CanMake layout w step (handlers.put h) view) has.has.own (handler-can layout view h step has.has.handler e)
    which (at.LoadFrame frame) has e = can-make fits.on_turn e has.within tt
    which (at.LoadStop frame) has e = can-make fits.on_turn e tt tt
    which at.GiveUp has e = can-make fits.on_turn e tt tt
    which (at.Paused pause) has e = absurd (none-some step e)
    which (at.Over answer) has e = absurd (none-some step e)

-- ---- what stays whatever the state

-- the command, its names, and the machine checks so far
pub record Base (earlier : List Check) (layout : Layout) (view : View) (i : Instruction) (checks : List Check) : Type 0 where
  pub on_turn : IsOnTurn view i.request.who
  pub sound : IsSound layout
  pub names : accesses.IsDeclared layout i.request
  pub origin : IsOfAccess i.origin
  pub three : length i.before.value ≡ bank_count
  pub checked : AreChecks layout view i.request i.origin i.mode (left_by i.before.value earlier) checks
  pub told_is : i.lines.told ≡ lines_of (earlier ++ checks)

module _ {past : List Made} {earlier : List Check} {layout : Layout} {old new : View} {i : Instruction} {step : Step} {found : ℕ} {got : Option BodyValue} (fits : FitsBehind past earlier layout old i) (made : Steps layout i.request.who step (logs (put i)) old new found got) where
  base-after : Stay i.request.who old new → Base earlier layout new i fits.checks
  base-after stay = record {
    on_turn = on-turn-after fits.on_turn made;
    sound = fits.sound;
    names = fits.names;
    origin = fits.origin;
    three = fits.three;
    checked = checks-stay layout i.request i.origin i.mode stay (λ place word saw. saw-stays made saw) (left_by i.before.value earlier) fits.checks fits.checked;
    told_is = fits.told_is;
  }

-- the same in another state
still-handler : {past : List Made} {layout : Layout} {view : View} {checks : List Check} {frame : Frame} {h : Handler} (i : Instruction) (x : InstructionAt) → HasHandler past layout view i checks frame h → HasHandler past layout view (record i { at = x }) checks frame h
still-handler i x has = record { handler = has.handler; own = has.own; thread_is = has.thread_is; going = has.going; bad = has.bad; events = has.events; room = has.room; lets = has.lets; only = has.only; made = has.made }

still-waiting : {past : List Made} {layout : Layout} {view : View} {checks : List Check} {frame : Frame} (i : Instruction) (x : InstructionAt) → IsWaiting past layout view i checks frame → IsWaiting past layout view (record i { at = x }) checks frame
still-waiting i x has = record { hand_is = has.hand_is; paid = has.paid; lets = has.lets; only = has.only; made = has.made; within = has.within; empty_are = has.empty_are }

-- the banks after each machine check are three
pub left-three : (banks : Banks) (checks : List Check) → length banks ≡ bank_count → length (left_by banks checks) ≡ bank_count
left-three banks [] three = three
left-three banks (c ∷ cs) three = refl

pub own-three : (i : Instruction) (frame : Frame) (banks : Banks) → length banks ≡ bank_count → length (with_own i.origin frame i.request.line banks) ≡ bank_count
own-three i frame banks three = length-set banks (bank_of i.origin) _ ∙ three

-- ---- a machine check that is over

module _ {past : List Made} {earlier : List Check} {layout : Layout} {view : View} {i : Instruction} {own : List Check} {frame : Frame} {h : Handler} (base : Base earlier layout view i own) (empty_are : i.banks ≡ empty_banks) (has : HasHandler past layout view i (earlier ++ own) frame h) where
  -- those before it
  abbrev checks : List Check
  checks = earlier ++ own

  abbrev now-banks : Banks
  now-banks = with_own i.origin frame i.request.line (left_by i.before.value checks)

  -- this one
  abbrev latest : Check
  latest = record { frame = frame; lines = h.events.told }

  abbrev all : List Check
  all = checks ++ latest ∷ []

  all-behind : all ≡ earlier ++ (own ++ latest ∷ [])
  all-behind = append_assoc earlier own (latest ∷ [])

  stops-now : h.stops ≡ has_stop (restarting i.mode) now-banks
  stops-now = has.handler.found.stops_is ∙ ap (list_any stops_machine) has.events ∙ sym (found-in (restarting i.mode) now-banks (own-three i frame (left_by i.before.value checks) (left-three i.before.value checks base.three))).stops_is

  is-check : h.events.left ≡ [] → IsCheck layout view i.request i.origin i.mode (left_by i.before.value checks) latest
  is-check none = record {
    bad = has.bad;
    acted_on = record {
      events = sym (append-nil (map (λ (t : EventOutcome). t.held) h.events.told)) ∙ ap (λ (l : List Held). map (λ (t : EventOutcome). t.held) h.events.told ++ l) (sym none) ∙ has.events;
      told = subst (λ (w : Who). AreTold layout view w (Some i.request.thread) (has_stop (restarting i.mode) now-banks) h.events.told) has.own
          (subst (λ (t : Option Thread). AreTold layout view h.who t (has_stop (restarting i.mode) now-banks) h.events.told) has.thread_is
          (subst (λ (b : Bool). AreTold layout view h.who h.thread b h.events.told) stops-now has.handler.told));
    };
  }

  -- the lines of all machine checks
  told-all : i.lines.told ++ h.events.told ≡ lines_of all
  told-all = ap (λ (l : List EventOutcome). l ++ h.events.told) base.told_is ∙ sym (lines-more checks latest)

  count-all : checks_made i.request.who view ≡ length all
  count-all =
      let made : checks_made i.request.who view ≡ length checks + 1 = has.made in
      let more : length all ≡ length checks + 1 = count-more checks latest in
      omega (arith, made, more)

  -- what follows, where nothing is held any more
  over-fits : h.events.left ≡ [] → (x : InstructionAt) → banks_at i.before.value all x ≡ left_by i.before.value all → FitsAt past layout view (record i { lines = with_lines i.lines h.events.told; at = x }) all x
      → FitsBehind past earlier layout view (record i { lines = with_lines i.lines h.events.told; at = x })
  over-fits none x held fits = record {
    on_turn = base.on_turn;
    sound = base.sound;
    names = base.names;
    origin = base.origin;
    three = base.three;
    checks = own ++ latest ∷ [];
    checked = checks-more (left_by i.before.value earlier) own latest base.checked (subst (λ (b : Banks). IsCheck layout view i.request i.origin i.mode b latest) (left-behind i.before.value earlier own) (is-check none));
    told_is = told-all ∙ ap lines_of all-behind;
    banks_are = empty_are ∙ sym (left-more i.before.value checks latest) ∙ sym held ∙ ap (λ (l : List Check). banks_at i.before.value l x) all-behind;
    at = subst (λ (l : List Check). FitsAt past layout view (record i { lines = with_lines i.lines h.events.told; at = x }) l x) all-behind fits;
  }

  stopped-fits : handler_fits.IsAllTold view h.events true → handler_fits.IsStoppedIf true view h.who → FitsBehind past earlier layout view (after_handler_by i frame h (Some true))
  stopped-fits told stopped = over-fits told.none_left (at.Over (Some answers.Stopped)) refl (record {
    hand_is = told.rest.hand_is;
    paid = told.rest.paid;
    made = count-all;
    ended = inr (record {
      halted = halts-more i.lines.told h.events.told has.lets.halts_none ∙ told.halts_is;
      stopped = subst (λ (w : Who). handler_fits.IsStoppedIf true view w) has.own stopped;
      only = has.only;
    });
  })

  module _ (told : handler_fits.IsAllTold view h.events false) where
    signalled-now : (place : At) → first_signal h.events.told ≡ Some place → IsSignalled past view i.request (i.lines.told ++ h.events.told) place
    signalled-now place is = record {
      first = signal-more i.lines.told h.events.told has.lets.signals_none ∙ is;
      halts_none = halts-more i.lines.told h.events.told has.lets.halts_none ∙ told.halts_is;
      going = has.going;
      only = has.only;
    }

    lets-now : first_signal h.events.told ≡ None → LetsGoOn (i.lines.told ++ h.events.told)
    lets-now none = lets-more i.lines.told h.events.told has.lets told.halts_is none

    signalled-fits : (place : At) → first_signal h.events.told ≡ Some place → FitsBehind past earlier layout view (record i { lines = with_lines i.lines h.events.told; at = at.Over (Some (answers.Sigbus place)) })
    signalled-fits place is = over-fits told.none_left (at.Over (Some (answers.Sigbus place))) refl (record {
      hand_is = told.rest.hand_is;
      paid = told.rest.paid;
      made = count-all;
      ended = inr (signalled-now place is);
    })

    waiting-fits : first_signal h.events.told ≡ None → FitsBehind past earlier layout view (record i { lines = with_lines i.lines h.events.told; at = at.LoadFrame frame })
    waiting-fits none = over-fits told.none_left (at.LoadFrame frame) refl (record {
      hand_is = told.rest.hand_is;
      paid = told.rest.paid;
      lets = lets-now none;
      only = has.only;
      made = count-all;
      within = has.bad.within;
      empty_are = empty_are;
    })

    again-fits : first_signal h.events.told ≡ None → FitsBehind past earlier layout view (record i { lines = with_lines i.lines h.events.told; at = restarted i })
    again-fits none = over-fits told.none_left (restarted i) refl (record {
      access = begins-again layout view i.request base.on_turn base.names told.rest.hand_is has.only;
      own = refl;
      unanswered = refl;
      paid = told.rest.paid;
      lets = lets-now none;
      made = let count : checks_made i.request.who view ≡ length all = count-all in omega (arith, count);
    })

    paused-fits : (pause : Pause) → IsLeft past layout view i.request (i.lines.told ++ h.events.told) pause → i.collects ≡ true → FitsBehind past earlier layout view (record i { lines = with_lines i.lines h.events.told; at = at.Paused pause })
    paused-fits pause left collects = over-fits told.none_left (at.Paused pause) refl (record {
      hand_is = told.rest.hand_is;
      paid = told.rest.paid;
      made = count-all;
      left = left;
      collects = collects;
      empty_are = empty_are;
    })

    goes-fits : FitsBehind past earlier layout view (after_handler_by i frame h (Some false))
    goes-fits = which (first_signal h.events.told) refl (has_kept h.events.told && i.collects) refl (was_poisoned frame h.events.told)
      where
        collects : has_kept h.events.told && i.collects ≡ true → i.collects ≡ true
        collects kept_now = (and_parts (has_kept h.events.told) i.collects kept_now).1

        which : (o : Option At) → first_signal h.events.told ≡ o → (kept : Bool) → has_kept h.events.told && i.collects ≡ kept → (b : Bool) → FitsBehind past earlier layout view (record i { lines = with_lines i.lines h.events.told; at = going_on i.request kept (left_to_do o frame b) })
        which (Some place) is true kept_now b = paused-fits (pauses.Sigbus place) (signalled-now place is) (collects kept_now)
        which (Some place) is false goes b = signalled-fits place is
        which None is true kept_now true = paused-fits (pauses.Wait frame) (lets-now is, has.only, has.bad.within) (collects kept_now)
        which None is true kept_now false = paused-fits pauses.Again (lets-now is, has.only, tt) (collects kept_now)
        which None is false goes true = waiting-fits is
        which None is false goes false = again-fits is

  going-fits : handlers.answer h ≡ None → FitsBehind past earlier layout view (record i { at = at.Handle frame h })
  going-fits none = record {
    on_turn = base.on_turn;
    sound = base.sound;
    names = base.names;
    origin = base.origin;
    three = base.three;
    checks = own;
    checked = base.checked;
    told_is = base.told_is;
    banks_are = empty_are;
    at = record { has = still-handler i (at.Handle frame h) has; unanswered = none };
  }

  -- the machine check goes on, or is over
  pub after-handler-fits : FitsBehind past earlier layout view (after_handler i frame h)
  after-handler-fits = which h.at refl has.handler.at
    where
      which : (x : HandlerAt) → h.at ≡ x → handler_fits.FitsAt layout view h.who h.thread h.stops h.events x → FitsBehind past earlier layout view (after_handler_by i frame h (handlers.answer_at x))
      which handler_at.Stop is told = going-fits (ap handlers.answer_at is)
      which (handler_at.Fail f) is told = going-fits (ap handlers.answer_at is)
      which handler_at.GaveUp is told = going-fits (ap handlers.answer_at is)
      which (handler_at.Over true) is told = stopped-fits told.0 told.1
      which (handler_at.Over false) is told = goes-fits told.0

-- ---- an access that went on, or has its answer

module _ (past : List Made) {earlier : List Check} {layout : Layout} {view : View} {i : Instruction} {checks : List Check} (base : Base earlier layout view i checks) (banks_are : i.banks ≡ left_by i.before.value (earlier ++ checks)) where
  -- in each state but that of a machine check
  plain-fits : (x : InstructionAt) → banks_at i.before.value (earlier ++ checks) x ≡ left_by i.before.value (earlier ++ checks) → FitsAt past layout view (record i { at = x }) (earlier ++ checks) x → FitsBehind past earlier layout view (record i { at = x })
  plain-fits x held fits = record {
    on_turn = base.on_turn;
    sound = base.sound;
    names = base.names;
    origin = base.origin;
    three = base.three;
    checks = checks;
    checked = base.checked;
    told_is = base.told_is;
    banks_are = banks_are ∙ sym held;
    at = fits;
  }

  module _ (paid : view.owed.losses ≡ []) (lets : LetsGoOn i.lines.told) where
    -- the machine check of a line that was bad in the frame
    module _ (frame : Frame) (going : IsGoing view i.request) (bad : SawBad layout view i.request frame) (hand_is : hand_of view ≡ empty) (only : HasOnlyBefore past view i.request) (made : checks_made i.request.who view ≡ length (earlier ++ checks) + 1) where
      begun : (spare : ℕ) → bank_count ≤ spare → HasHandler past layout view (emptied i spare) (earlier ++ checks) frame (handler_of layout i frame)
      begun spare room = record {
        handler = begins-fit layout view i.alloc i.request.who (Some i.request.thread) (restarting i.mode) (with_own i.origin frame i.request.line i.banks) (own-three i frame i.banks (ap length banks_are ∙ left-three i.before.value (earlier ++ checks) base.three)) base.on_turn base.sound (record { hand_is = hand_is; paid = paid });
        own = refl;
        thread_is = refl;
        going = going;
        bad = bad;
        events = events-stay layout i.alloc i.request.who (Some i.request.thread) (has_stop (restarting i.mode) (with_own i.origin frame i.request.line i.banks)) (held_in (restarting i.mode) (with_own i.origin frame i.request.line i.banks)) []
            ∙ ap (λ (b : Banks). held_in (restarting i.mode) (with_own i.origin frame i.request.line b)) banks_are;
        room = room;
        lets = lets;
        only = only;
        made = made;
      }

      emptied-base : (spare : ℕ) → Base earlier layout view (emptied i spare) checks
      emptied-base spare = record { on_turn = base.on_turn; sound = base.sound; names = base.names; origin = base.origin; three = base.three; checked = base.checked; told_is = base.told_is }

      check-fits : (after : Instruction) → BeginsCheck layout i frame after → FitsBehind past earlier layout view after
      check-fits after (inl refused) = subst (FitsBehind past earlier layout view) (sym refused) (plain-fits at.GiveUp refl hand_is)
      check-fits after (inr (spare, room, is)) = subst (FitsBehind past earlier layout view) (sym is) (after-handler-fits (emptied-base spare) refl (begun spare room))

    module _ (a : Access) (fits : accesses.FitsFrom past layout view a) (own : a.request ≡ i.request) (made : checks_made i.request.who view ≡ length (earlier ++ checks) + from_bool (has_checked a.at)) where
      -- its answer
      module _ (x : AccessAnswer) (is : accesses.answer a ≡ Some x) where
        ended : accesses.IsAnswered past layout view i.request x
        ended = subst (λ (r : Request). accesses.IsAnswered past layout view r x) own (access-answered layout view a x fits is)

        own-end : IsOwnEnd past layout view i.request i.lines.told x
        own-end = record { answered = ended.answered; lets = lets }

        checked-is : has_checked a.at ≡ is_checked x
        checked-is = which a.at is
          where
            which : (y : AccessAt) → accesses.answer_at y ≡ Some x → has_checked y ≡ is_checked x
            which (access_at.Over answer) e = ap is_checked (same_Some answer x e)
            which access_at.LoadStop e = absurd (none-some x e)
            which access_at.LoadProcess e = absurd (none-some x e)
            which access_at.LoadTranslation e = absurd (none-some x e)
            which (access_at.Pin p) e = absurd (none-some x e)
            which (access_at.LockFrame frame) e = absurd (none-some x e)
            which (access_at.LoadAgain frame body) e = absurd (none-some x e)
            which (access_at.LoadBad frame body) e = absurd (none-some x e)
            which (access_at.Unlock u then) e = absurd (none-some x e)
            which (access_at.Fault f) e = absurd (none-some x e)
            which (access_at.GiveUp g) e = absurd (none-some x e)

        answer-fits : (answer : InstructionAnswer) → is_checked x ≡ false → IsEnd past layout view i.request i.lines.told answer → FitsBehind past earlier layout view (record i { at = at.Over (Some answer) })
        answer-fits answer unchecked end = plain-fits (at.Over (Some answer)) refl (record {
          hand_is = ended.hand_is;
          paid = paid;
          made = let none : from_bool (has_checked a.at) ≡ 0 = ap from_bool (checked-is ∙ unchecked) in omega (arith, made, none);
          ended = end;
        })

      after-access-fits : (after : Instruction) → AfterAccess layout i a after → FitsBehind past earlier layout view after
      after-access-fits after = which (accesses.answer a) refl
        where
          which : (o : Option AccessAnswer) → accesses.answer a ≡ o → AfterAccessBy layout i a o after → FitsBehind past earlier layout view after
          which None is next = subst (FitsBehind past earlier layout view) (sym next) (plain-fits (at.Access a) refl (record { access = fits; own = own; unanswered = is; paid = paid; lets = lets; made = made }))
          which (Some (access_answers.Checked frame place)) is next =
              let end = ended (access_answers.Checked frame place) is in let has = end.answered.1 in
              check-fits frame has.alive (record { mask = has.mask; bad = has.bad; saw = has.saw; within = has.within }) end.hand_is (only-checked i.request view place.entry has.mask has.made)
              (made ∙ ap (λ (b : Bool). length (earlier ++ checks) + from_bool b) (checked-is (access_answers.Checked frame place) is)) after next
          which (Some (access_answers.Value word place)) is next = subst (FitsBehind past earlier layout view) (sym next) (answer-fits (access_answers.Value word place) is (answers.Value word place) refl (own-end (access_answers.Value word place) is))
          which (Some (access_answers.Stored place)) is next = subst (FitsBehind past earlier layout view) (sym next) (answer-fits (access_answers.Stored place) is (answers.Stored place) refl (own-end (access_answers.Stored place) is))
          which (Some (access_answers.Sigbus place)) is next = subst (FitsBehind past earlier layout view) (sym next) (answer-fits (access_answers.Sigbus place) is (answers.Sigbus place) refl (inl (own-end (access_answers.Sigbus place) is)))
          which (Some access_answers.NoFrame) is next = subst (FitsBehind past earlier layout view) (sym next) (answer-fits access_answers.NoFrame is answers.NoFrame refl (own-end access_answers.NoFrame is))
          which (Some (access_answers.Gone page)) is next = subst (FitsBehind past earlier layout view) (sym next) (answer-fits (access_answers.Gone page) is (answers.Gone page) refl (own-end (access_answers.Gone page) is))
          which (Some access_answers.Stopped) is next = subst (FitsBehind past earlier layout view) (sym next) (answer-fits access_answers.Stopped is answers.Stopped refl (inl (own-end access_answers.Stopped is)))

-- ---- each step

module _ {past : List Made} {earlier : List Check} (layout : Layout) (old new : View) (i : Instruction) (step : Step) (found : ℕ) (got : Option BodyValue) (fits : FitsBehind past earlier layout old i) where
  abbrev Then : InstructionAt → Type 0
  Then x = ShowsAt i.lines.spare (bare_at x) found got × ((after : Instruction) (turn : Turn) → FollowsAt layout (bare i) (bare_at x) found got after turn → FitsBehind past earlier layout new after)

  -- a step of the access
  access-moved : (a : Access) → i.at ≡ at.Access a → IsAccessing past layout old i (earlier ++ fits.checks) a → accesses.plan a ≡ Some step → Steps layout i.request.who step (logs (accesses.put a)) old new found got → Then (at.Access a)
  access-moved a is has e made = (
    moved.0,
    λ after turn next. after-access-fits past (base-after fits (subst (λ (x : InstructionAt). Steps layout i.request.who step (logs (put_at x)) old new found got) (sym is) made) stay)
        (fits.banks_are ∙ ap (banks_at i.before.value (earlier ++ fits.checks)) is)
        (access-owes layout old new a step found got has.access e own ∙ has.paid) has.lets next.access (moved.1 next.access turn next.follows).0 (ap (λ (x : Access). x.request) next.follows.rest ∙ has.own)
        (subst (λ (r : Request). checks_made r.who new ≡ length (earlier ++ fits.checks) + from_bool (has_checked next.access.at)) has.own
        (count-after a.request old new (has_checked a.at) (has_checked next.access.at) (access-adds layout old new a step found got has.access e own next.access turn next.follows) (length (earlier ++ fits.checks)) (subst (λ (r : Request). checks_made r.who old ≡ length (earlier ++ fits.checks) + from_bool (has_checked a.at)) (sym has.own) has.made)))
        after next.next_is,
  )
    where
      own : Steps layout a.request.who step (logs (accesses.put a)) old new found got
      own = subst (λ (r : Request). Steps layout r.who step (logs (accesses.put a)) old new found got) (sym has.own) made

      moved : accesses.Shows (accesses.bare a) found got × ((after : Access) (result : Turn) → accesses.Next layout (accesses.bare a) found got after result → accesses.FitsFrom past layout new after × (after.request.who.cpu ≡ a.request.who.cpu))
      moved = access-stays layout old new a step found got has.access e own

      stay : Stay i.request.who old new
      stay = subst (λ (r : Request). Stay r.who old new) has.own (access-stay a e own)

  -- a step of the machine check
  module _ (frame : Frame) (h : Handler) (has : HasHandler past layout old i (earlier ++ fits.checks) frame h) (e : handlers.plan h ≡ Some step) (made : Steps layout i.request.who step (logs (handlers.put h)) old new found got) where
    handler-own : Steps layout h.who step (logs (handlers.put h)) old new found got
    handler-own = subst (λ (w : Who). Steps layout w step (logs (handlers.put h)) old new found got) (sym has.own) made

    module _ (after : Handler) (turn : Turn) (next : handlers.Follows layout (handlers.bare h) found got after turn) where
      handler-done : handler_done.Adds old new h after
      handler-done = handler-adds layout old new h step found got has.handler e handler-own after turn next

      handler-stay : Stay i.request.who old new
      handler-stay = subst (λ (w : Who). Stay w old new) has.own (fail-stay handler-own handler-done.marked handler-done.failed)

      failure-added : AddsFailure i.request.who old new (handler_done.failed_now h) (handler_done.failed_now after)
      failure-added = subst (λ (w : Who). AddsFailure w old new (handler_done.failed_now h) (handler_done.failed_now after)) has.own handler-done.failed

      handler-goes : HasHandler past layout new i (earlier ++ fits.checks) frame after
      handler-goes = let left = kept layout (handlers.bare h) found got after turn next in record {
        handler = ((handler-stays layout old new h step found got has.handler e handler-own).1 after turn next).0;
        own = left.who ∙ has.own;
        thread_is = left.thread ∙ has.thread_is;
        going = saw-stays made has.going;
        bad = bad-stays layout i.request i.origin i.mode handler-stay (λ place word saw. saw-stays made saw) frame has.bad;
        events = left.events ∙ has.events;
        room = has.room;
        lets = has.lets;
        only = only-kept i.request old new failure-added has.only;
        made = count-kept i.request.who old new failure-added ∙ has.made;
      }

    handler-moved : i.at ≡ at.Handle frame h → Then (at.Handle frame h)
    handler-moved is = (
      shows-within h i.lines.spare found got has.handler.found has.room (handler-stays layout old new h step found got has.handler e handler-own).0,
      λ after turn next. subst (FitsBehind past earlier layout new) (sym next.next_is)
          (after-handler-fits (base-after fits (subst (λ (x : InstructionAt). Steps layout i.request.who step (logs (put_at x)) old new found got) (sym is) made) (handler-stay next.handler turn next.follows))
          (fits.banks_are ∙ ap (banks_at i.before.value (earlier ++ fits.checks)) is) (handler-goes next.handler turn next.follows)),
    )

  -- a step that neither marks nor lists, and takes nothing
  record Leaves : Type 0 where
    marks : new.marks ≡ old.marks
    losses : new.owed.losses ≡ old.owed.losses
    entries : deeds i.request.who new ≡ deeds i.request.who old

  module _ (x : InstructionAt) (is : i.at ≡ x) (none : put_at x ≡ None) (made : Steps layout i.request.who step None old new found got) (leaves : Leaves) where
    here : Steps layout i.request.who step (logs (put i)) old new found got
    here = subst (λ (b : Option BodyValue). Steps layout i.request.who step (logs b) old new found got) (sym (ap put_at is ∙ none)) made

    quiet-base : Base earlier layout new i fits.checks
    quiet-base = base-after fits here (quiet-stay made leaves.marks leaves.entries)

    module _ (frame : Frame) (has : IsWaiting past layout old i (earlier ++ fits.checks) frame) (hand_is : hand_of new ≡ empty) where
      waits-on : IsWaiting past layout new i (earlier ++ fits.checks) frame
      waits-on = record {
        hand_is = hand_is;
        paid = leaves.losses ∙ has.paid;
        lets = has.lets;
        only = only-beside-stays i.request.who old new leaves.entries has.only;
        made = ap (λ (l : List Made). length (filter (λ (m : Made). is_check m.entry.what) l)) leaves.entries ∙ has.made;
        within = has.within;
        empty_are = has.empty_are;
      }

      restarts : IsAccessing past layout new (record i { at = restarted i }) (earlier ++ fits.checks) (accesses.again i.request)
      restarts = record {
        access = begins-again layout new i.request quiet-base.on_turn quiet-base.names hand_is waits-on.only;
        own = refl;
        unanswered = refl;
        paid = waits-on.paid;
        lets = has.lets;
        made = let count : checks_made i.request.who new ≡ length (earlier ++ fits.checks) = waits-on.made in omega (arith, count);
      }

  frame-leaves : (frame : Frame) → Steps layout i.request.who (steps.Load (places.Frame frame)) None old new found got → Leaves
  frame-leaves frame made = record { marks = ap (λ (v : View). v.marks) made.told.next; losses = ap (λ (v : View). v.owed.losses) made.told.next; entries = deeds-same i.request.who tt made }

  stop-leaves : Steps layout i.request.who (steps.Load places.Stop) None old new found got → Leaves
  stop-leaves made = record { marks = ap (λ (v : View). v.marks) made.told.next; losses = ap (λ (v : View). v.owed.losses) made.told.next; entries = deeds-same i.request.who tt made }

  give-up-leaves : Steps layout i.request.who steps.GiveUp None old new found got → Leaves
  give-up-leaves made = record { marks = ap (λ (v : View). v.marks) made.told.next; losses = ap (λ (v : View). v.owed.losses) made.told.next; entries = deeds-same i.request.who tt made }

  banks-now : (x : InstructionAt) → i.at ≡ x → i.banks ≡ banks_at i.before.value (earlier ++ fits.checks) x
  banks-now x is = fits.banks_are ∙ ap (banks_at i.before.value (earlier ++ fits.checks)) is

  frame-loaded : (frame : Frame) → i.at ≡ at.LoadFrame frame → IsWaiting past layout old i (earlier ++ fits.checks) frame → Some (steps.Load (places.Frame frame)) ≡ Some step → Steps layout i.request.who step None old new found got → FitsBehind past earlier layout new (after_load i frame found)
  frame-loaded frame is has e made = which (is_pending found)
    where
      leaves : Leaves
      leaves = frame-leaves frame (steps-planned e made)

      base : Base earlier layout new i fits.checks
      base = quiet-base (at.LoadFrame frame) is refl made leaves

      hand : hand_of new ≡ empty
      hand = hand-planned made e has.hand_is

      which : (b : Bool) → FitsBehind past earlier layout new (record i { at = cond b (at.LoadStop frame) (restarted i) })
      which true = plain-fits past base (banks-now (at.LoadFrame frame) is) (at.LoadStop frame) refl (still-waiting i (at.LoadStop frame) (waits-on (at.LoadFrame frame) is refl made leaves frame has hand))
      which false = plain-fits past base (banks-now (at.LoadFrame frame) is) (restarted i) refl (restarts (at.LoadFrame frame) is refl made leaves frame has hand)

  stop-loaded : (frame : Frame) → i.at ≡ at.LoadStop frame → IsWaiting past layout old i (earlier ++ fits.checks) frame → Some (steps.Load places.Stop) ≡ Some step → Steps layout i.request.who step None old new found got → FitsBehind past earlier layout new (after_stop i frame found)
  stop-loaded frame is has e made = which (has_no_memory found)
    where
      leaves : Leaves
      leaves = stop-leaves (steps-planned e made)

      base : Base earlier layout new i fits.checks
      base = quiet-base (at.LoadStop frame) is refl made leaves

      hand : hand_of new ≡ empty
      hand = hand-planned made e has.hand_is

      which : (b : Bool) → FitsBehind past earlier layout new (record i { at = cond b (at.Over None) (at.LoadFrame frame) })
      which true = plain-fits past base (banks-now (at.LoadStop frame) is) (at.Over None) refl hand
      which false = plain-fits past base (banks-now (at.LoadStop frame) is) (at.LoadFrame frame) refl (still-waiting i (at.LoadFrame frame) (waits-on (at.LoadStop frame) is refl made leaves frame has hand))

  given-up : i.at ≡ at.GiveUp → hand_of old ≡ empty → Some steps.GiveUp ≡ Some step → Steps layout i.request.who step None old new found got → FitsBehind past earlier layout new (record i { at = at.Over None })
  given-up is has e made = plain-fits past (quiet-base at.GiveUp is refl made (give-up-leaves (steps-planned e made))) (banks-now at.GiveUp is) (at.Over None) refl (hand-planned made e has)

both : {past : List Made} {earlier : List Check} (layout : Layout) (old new : View) (i : Instruction) (step : Step) (found : ℕ) (got : Option BodyValue) → FitsBehind past earlier layout old i → plan i ≡ Some step → Steps layout i.request.who step (logs (put i)) old new found got
    → Shows (bare i) found got × ((after : Instruction) (turn : Turn) → Follows layout (bare i) found got after turn → FitsBehind past earlier layout new after)
both {past} {earlier} layout old new i step found got fits is made = which i.at refl fits.at is made
  where
    which : (x : InstructionAt) → i.at ≡ x → FitsAt past layout old i (earlier ++ fits.checks) x → plan_at x ≡ Some step → Steps layout i.request.who step (logs (put_at x)) old new found got → Then layout old new i step found got fits x
    which (at.Access a) at_is has e made = access-moved layout old new i step found got fits a at_is has e made
    which (at.Handle frame h) at_is has e made = handler-moved layout old new i step found got fits frame h has.has e made at_is
    which (at.LoadFrame frame) at_is has e made = (tt, λ after turn next. subst (FitsBehind past earlier layout new) (sym next.0) (frame-loaded layout old new i step found got fits frame at_is has e made))
    which (at.LoadStop frame) at_is has e made = (tt, λ after turn next. subst (FitsBehind past earlier layout new) (sym next.0) (stop-loaded layout old new i step found got fits frame at_is has e made))
    which at.GiveUp at_is has e made = (tt, λ after turn next. subst (FitsBehind past earlier layout new) (sym next.0) (given-up layout old new i step found got fits at_is has e made))
    which (at.Paused pause) at_is has e made = absurd (none-some step e)
    which (at.Over answer) at_is has e made = absurd (none-some step e)

-- an instruction stays of its command
own-handler : (i : Instruction) (frame : Frame) (h : Handler) → (after_handler i frame h).request ≡ i.request
own-handler i frame h = which h.at
  where
    which : (x : HandlerAt) → (after_handler_by i frame h (handlers.answer_at x)).request ≡ i.request
    which handler_at.Stop = refl
    which (handler_at.Fail f) = refl
    which handler_at.GaveUp = refl
    which (handler_at.Over stopped) = refl

own-access : (layout : Layout) (i : Instruction) (a : Access) (o : Option AccessAnswer) (after : Instruction) → AfterAccessBy layout i a o after → after.request ≡ i.request
own-access layout i a None after next = ap (λ (x : Instruction). x.request) next
own-access layout i a (Some (access_answers.Checked frame place)) after (inl refused) = ap (λ (x : Instruction). x.request) refused
own-access layout i a (Some (access_answers.Checked frame place)) after (inr (spare, room, is)) = ap (λ (x : Instruction). x.request) is ∙ own-handler (emptied i spare) frame (handler_of layout i frame)
own-access layout i a (Some (access_answers.Value word place)) after next = ap (λ (x : Instruction). x.request) next
own-access layout i a (Some (access_answers.Stored place)) after next = ap (λ (x : Instruction). x.request) next
own-access layout i a (Some (access_answers.Sigbus place)) after next = ap (λ (x : Instruction). x.request) next
own-access layout i a (Some access_answers.NoFrame) after next = ap (λ (x : Instruction). x.request) next
own-access layout i a (Some (access_answers.Gone page)) after next = ap (λ (x : Instruction). x.request) next
own-access layout i a (Some access_answers.Stopped) after next = ap (λ (x : Instruction). x.request) next

pub own-after : (layout : Layout) (i : Instruction) (found : ℕ) (got : Option BodyValue) (after : Instruction) (turn : Turn) → Follows layout i found got after turn → after.request ≡ i.request
own-after layout i found got after turn follows = which i.at follows
  where
    which : (x : InstructionAt) → FollowsAt layout i x found got after turn → after.request ≡ i.request
    which (at.Access a) next = own-access layout i next.access (accesses.answer next.access) after next.next_is
    which (at.Handle frame h) next = ap (λ (x : Instruction). x.request) next.next_is ∙ own-handler i frame next.handler
    which (at.LoadFrame frame) next = ap (λ (x : Instruction). x.request) next.0
    which (at.LoadStop frame) next = ap (λ (x : Instruction). x.request) next.0
    which at.GiveUp next = ap (λ (x : Instruction). x.request) next.0
    which (at.Paused pause) next = ap (λ (x : Instruction). x.request) next.0
    which (at.Over answer) next = ap (λ (x : Instruction). x.request) next.0

pub stays : {past : List Made} {earlier : List Check} (layout : Layout) (old new : View) (i : Instruction) (step : Step) (found : ℕ) (got : Option BodyValue) → FitsBehind past earlier layout old i → plan i ≡ Some step → Steps layout i.request.who step (logs (put i)) old new found got
    → Shows (bare i) found got × ((after : Instruction) (turn : Turn) → Follows layout (bare i) found got after turn → FitsBehind past earlier layout new after × (after.request.who.cpu ≡ i.request.who.cpu))
stays {past} layout old new i step found got fits is made = let all = both layout old new i step found got fits is made in
    (all.0, λ after turn follows. (all.1 after turn follows, ap (λ (r : Request). r.who.cpu) (own-after layout (bare i) found got after turn follows)))

-- the law of the task, whatever its command had made before
pub law : IsTask instruction-task
law = record {
  can = λ layout view s step fits is. can layout view s step fits.2 is;
  stays = λ layout old new s step found got fits is made. let all = stays layout old new s step found got fits.2 is made in (all.0, λ after turn follows. let kept = all.1 after turn follows in ((fits.0, fits.1, kept.0), kept.1));
}

-- ---- before it

-- an instruction fits at its beginning, where its processor holds and owes nothing, and its command has made nothing beside entries
-- that are of no machine check
pub begins : {past : List Made} (layout : Layout) (view : View) (i : Instruction) → i ≡ begin i.alloc i.request i.origin i.mode i.banks i.collects → IsOnTurn view i.request.who → IsSound layout → accesses.IsDeclared layout i.request → IsOfAccess i.origin → length i.banks ≡ bank_count
    → hand_of view ≡ empty → view.owed.losses ≡ [] → HasMadeNoneBeside past view i.request.who → checks_in past ≡ 0 → FitsFrom past layout view i
begins {past} layout view i is on sound names origin three hand paid none unchecked = subst (FitsFrom past layout view) (sym is) (record {
  on_turn = on;
  sound = sound;
  names = names;
  origin = origin;
  three = three;
  checks = [];
  checked = tt;
  told_is = refl;
  banks_are = refl;
  at = record {
    access = access-begins layout view i.request on names hand none;
    own = refl;
    unanswered = refl;
    paid = paid;
    lets = record { halts_none = refl; signals_none = refl };
    made = let same : checks_made i.request.who view ≡ 0 = ap checks_in none ∙ unchecked in omega (arith, same);
  };
})

-- and so does another access of the same command, where it lets the command go on: behind the machine checks of those before it
pub begins-behind : {past : List Made} (earlier : List Check) (layout : Layout) (view : View) (i : Instruction) (request : Request) → IsOnTurn view request.who → IsSound layout → accesses.IsDeclared layout request → IsOfAccess i.origin
    → length i.before.value ≡ bank_count → i.lines.told ≡ lines_of earlier → i.banks ≡ left_by i.before.value earlier → LetsGoOn i.lines.told → hand_of view ≡ empty → view.owed.losses ≡ [] → HasMadeNoneBeside past view request.who
    → checks_in past ≡ length earlier → FitsBehind past earlier layout view (again_with i request)
begins-behind {past} earlier layout view i request on sound names origin three told banks lets hand paid none unchecked = record {
  on_turn = on;
  sound = sound;
  names = names;
  origin = origin;
  three = three;
  checks = [];
  checked = tt;
  told_is = told ∙ ap lines_of all;
  banks_are = banks ∙ ap (left_by i.before.value) all;
  at = record {
    access = access-begins layout view request on names hand none;
    own = refl;
    unanswered = refl;
    paid = paid;
    lets = lets;
    made =
        let same : checks_made request.who view ≡ length earlier = ap checks_in none ∙ unchecked in
        let long : length earlier ≡ length (earlier ++ []) = ap length all in
        omega (arith, same, long);
  };
}
  where
    all : earlier ≡ earlier ++ []
    all = sym (append-nil earlier)

-- where an instruction pauses
pub paused : {past : List Made} {earlier : List Check} {layout : Layout} {view : View} (i : Instruction) (p : Pause) (fits : FitsBehind past earlier layout view i) → pause i ≡ Some p → IsPaused past layout view i (earlier ++ fits.checks) p
paused {past} {earlier} {layout} {view} i p fits is = which i.at fits.at is
  where
    which : (x : InstructionAt) → FitsAt past layout view i (earlier ++ fits.checks) x → pause_at x ≡ Some p → IsPaused past layout view i (earlier ++ fits.checks) p
    which (at.Paused other) has some = subst (IsPaused past layout view i (earlier ++ fits.checks)) (same_Some other p some) has
    which _ has none = absurd (none-some p none)
