-- The laws of `Raise`: its steps can be made, and what follows them fits.
use Rattle.std.proofs.Common.{◌≡◌, inl, inr, ℕ, ◌≤◌, Bool, true, false, List, [], ◌++◌, ◌-◌, Option, Some, None, length, map, append-nil, refl, sym, ap, ◌∙◌, subst}
use Rattle.std.proofs.lemmas.Option.{none-some}
use Rattle.hwp_cpu_control.specs.hwp_geom.declared.Layout.{Layout}
use Rattle.hwp_cpu_control.specs.hwp_geom.declared.Page.{Page}
use Rattle.hwp_cpu_control.specs.hwp_geom.declared.Thread.{Thread}
use Rattle.hwp_cpu_control.specs.hwp_geom.declared.Who.{Who}
use Rattle.hwp_cpu_control.specs.hwp_geom.Layout.{IsSound}
use Rattle.hwp_cpu_control.specs.hwp_geom.Limits.{page_limit}
use Rattle.hwp_claim.specs.hwp_banks.Events.{bank_count}
use Rattle.hwp_cpu_control.specs.hwp_page.History.{BodyValue}
use Rattle.hwp_cpu_control.specs.hwp_words.Names.{page_named}
use Rattle.hwp_cpu_control.specs.hwp_words.Stops.{is_stopped}
use Rattle.hwp_cpu_control.specs.hwp_core_rule.declared.Made.{Made}
use Rattle.hwp_cpu_control.specs.hwp_core_rule.declared.SharedWord.TheVariants as places
use Rattle.hwp_cpu_control.specs.hwp_core_rule.declared.Step.{Step}
use Rattle.hwp_cpu_control.specs.hwp_core_rule.declared.Step.TheVariants as steps
use Rattle.hwp_cpu_control.specs.hwp_core_rule.declared.View.{View}
use Rattle.hwp_cpu_control.specs.hwp_core_rule.Lists.{EachMember}
use Rattle.hwp_cpu_control.specs.hwp_core_rule.declared.Turn.{Turn}
use Rattle.hwp_cpu_control.specs.hwp_core_rule.Calls.{CanMake, IsOnTurn, Steps, logs}
use Rattle.hwp_cpu_control.specs.hwp_core_rule.Hands.{hand_of, empty}
use Rattle.hwp_cpu_control.proofs.of_hwp_core_rule.tasks.StepLeaves.{can-make, hand-planned, on-turn-after, steps-planned}
use Rattle.hwp_cpu_control.specs.hwp_core_rule.Known.{HasMadeNone, Saw, is_failure}
use Rattle.hwp_cpu_control.proofs.of_hwp_core_rule.tasks.MadeEntries.{ListsNone, deeds-same}
use Rattle.hwp_cpu_control.proofs.of_hwp_core_rule.tasks.StepOwes.{losses-same}
use Rattle.hwp_cpu_control.proofs.of_hwp_core_rule.tasks.SightKeeps.{saw-load, saw-stays}
use Rattle.hwp_claim.specs.hwp_claim_act.Abandoned.{AddsFailure}
use Rattle.hwp_claim.proofs.of_hwp_claim_act.ActAdds.{only-failed-stays}
use Rattle.hwp_cpu_control.proofs.PrctlLaws.{ended-by, no-page-back, page-back}
use Rattle.hwp_cpu_control.proofs.EmptyHands.{saw-stop}
use Rattle.hwp_claim.specs.hwp_severity.Handling.{has_stop}
use Rattle.hwp_claim.specs.declared.Handler.{Handler}
use Rattle.hwp_claim.specs.declared.Held.{Held}
use Rattle.hwp_claim.specs.declared.EventOutcome.{EventOutcome}
use Rattle.hwp_claim.specs.declared.handler.HandlerAt.{HandlerAt}
use Rattle.hwp_claim.specs.declared.handler.HandlerAt.TheVariants as handler_at
use Rattle.hwp_claim.specs.Checks.{IsActedOn}
use Rattle.hwp_claim.specs.CheckDone as handler_done
use Rattle.hwp_claim.specs.Events.{held_in}
use Rattle.hwp_claim.specs.Fits as handler_fits
use Rattle.hwp_claim.specs.Fits.{AreTold, IsAllTold, IsAtRest, IsStoppedIf}
use Rattle.hwp_claim.specs.Handlers as handlers
use Rattle.hwp_claim.specs.Told.{halts}
use Rattle.hwp_claim.proofs.HandlerAdds.{handler-adds}
use Rattle.hwp_claim.proofs.HandlerLaws.{begins-fit, can as handler-can, stays as handler-stays}
use Rattle.hwp_claim.proofs.EventTells.{events-stay, kept}
use Rattle.hwp_claim.proofs.CheckRoom.{shows-within}
use Rattle.hwp_scrub.specs.RaiseFits.{Fits, FitsAt, GoesOn, HasHandler, HasOnlyFailed, IsChecked, IsGone, IsRaiser, IsUnbegun, IsUnchecked}
use Rattle.hwp_scrub.specs.Raises.{AfterProcess, AfterProcessBy, AfterStop, AfterStopBy, BeginsCheck, Follows, FollowsAt, Shows, ShowsAt, after_handler, after_handler_by, bare, bare_at, begin, emptied, handler_of, how_of, plan, plan_at, put, put_at, thread_of}
use Rattle.hwp_scrub.specs.declared.raise.Raise.{Raise}
use Rattle.hwp_scrub.specs.declared.raise.RaiseAnswer.TheVariants as answers
use Rattle.hwp_scrub.specs.declared.raise.RaiseAt.{RaiseAt}
use Rattle.hwp_scrub.specs.declared.raise.RaiseAt.TheVariants as at
use Rattle.hwp_scrub.specs.declared.raise.Raiser.{Raiser}

-- ---- the steps can be made

pub can : (layout : Layout) (view : View) (r : Raise) (step : Step) → Fits layout view r → plan r ≡ Some step → CanMake layout r.who step (put r) view
can layout view r step fits is = which r.at fits.at is
  where
    which : (x : RaiseAt) → FitsAt layout view r x → plan_at x ≡ Some step → CanMake layout r.who step (put_at x) view
    which at.LoadStop has e = can-make fits.on_turn e tt tt
    which (at.LoadProcess raiser) has e = can-make fits.on_turn e (subst (IsRaiser layout) has.0 fits.raiser).process tt
    which (at.Handle h) has e = subst (λ (w : Who). CanMake layout w step (handlers.put h) view) has.0.own (handler-can layout view h step has.0.handler e)
    which at.GiveUp has e = can-make fits.on_turn e tt tt
    which (at.Over answer) has e = absurd (none-some step e)

-- ---- what stays whatever the state

pub record Base (layout : Layout) (view : View) (r : Raise) : Type 0 where
  pub on_turn : IsOnTurn view r.who
  pub sound : IsSound layout
  pub raiser : IsRaiser layout r.raiser
  pub three : length r.before.value ≡ bank_count

base-of : {layout : Layout} {old new : View} {r : Raise} → Fits layout old r → IsOnTurn new r.who → Base layout new r
base-of fits on = record { on_turn = on; sound = fits.sound; raiser = fits.raiser; three = fits.three }

fits-at : {layout : Layout} {view : View} {r : Raise} → Base layout view r → (x : RaiseAt) → FitsAt layout view (record r { at = x }) x → Fits layout view (record r { at = x })
fits-at base x has = record { on_turn = base.on_turn; sound = base.sound; raiser = base.raiser; three = base.three; at = has }

-- the same in another state
still-unchecked : {view : View} {r : Raise} (x : RaiseAt) → IsUnchecked view r → IsUnchecked view (record r { at = x })
still-unchecked x has = record { told_none = has.told_none; banks_are = has.banks_are; made = has.made }

still-unbegun : {view : View} {r : Raise} (x : RaiseAt) → IsUnbegun view r → IsUnbegun view (record r { at = x })
still-unbegun x has = record { rest = has.rest; unchecked = still-unchecked x has.unchecked }

still-handler : {layout : Layout} {view : View} {r : Raise} {h : Handler} (x : RaiseAt) → HasHandler layout view r h → HasHandler layout view (record r { at = x }) h
still-handler x has = record {
  handler = has.handler;
  own = has.own;
  thread_is = has.thread_is;
  stops_is = has.stops_is;
  events = has.events;
  room = has.room;
  told_none = has.told_none;
  emptied = has.emptied;
  going = has.going;
  only = has.only;
}

-- ---- a machine check that goes on, or is over

module _ {layout : Layout} {view : View} {r : Raise} {h : Handler} (base : Base layout view r) (has : HasHandler layout view r h) where
  acted-on : h.events.left ≡ [] → IsActedOn layout view r.who (thread_of r.raiser) (how_of r) r.before.value h.events.told
  acted-on none = record {
    events = sym (append-nil (map (λ (t : EventOutcome). t.held) h.events.told)) ∙ ap (λ (l : List Held). map (λ (t : EventOutcome). t.held) h.events.told ++ l) (sym none) ∙ has.events;
    told = subst (λ (w : Who). AreTold layout view w (thread_of r.raiser) (has_stop (how_of r) r.before.value) h.events.told) has.own
        (subst (λ (t : Option Thread). AreTold layout view h.who t (has_stop (how_of r) r.before.value) h.events.told) has.thread_is
        (subst (λ (b : Bool). AreTold layout view h.who h.thread b h.events.told) has.stops_is has.handler.told));
  }

  -- once it is over
  abbrev over : RaiseAt → Raise
  over x = record r { lines = record { told = r.lines.told ++ h.events.told; spare = r.lines.spare - length h.events.told }; at = x }

  same-told : r.lines.told ++ h.events.told ≡ h.events.told
  same-told = ap (λ (l : List EventOutcome). l ++ h.events.told) has.told_none

  checked : (stopped : Bool) (x : RaiseAt) → IsAllTold view h.events stopped → IsStoppedIf stopped view h.who → IsChecked layout view (over x) stopped
  checked stopped x told stops = record {
    going = has.going;
    acted_on = subst (IsActedOn layout view r.who (thread_of r.raiser) (how_of r) r.before.value) (sym same-told) (acted-on told.none_left);
    emptied = has.emptied;
    only = has.only;
    halts_is = ap halts same-told ∙ told.halts_is;
    stops = subst (IsStoppedIf stopped view) has.own stops;
  }

  over-fits : (stopped : Bool) → IsAllTold view h.events stopped → IsStoppedIf stopped view h.who → Fits layout view (after_handler_by r h (Some stopped))
  over-fits true told stops = record { on_turn = base.on_turn; sound = base.sound; raiser = base.raiser; three = base.three; at = (told.rest, inr (checked true (at.Over (Some answers.Stopped)) told stops)) }
  over-fits false told stops = record { on_turn = base.on_turn; sound = base.sound; raiser = base.raiser; three = base.three; at = (told.rest, checked false (at.Over (Some answers.Raised)) told stops) }

  pub after-handler-fits : Fits layout view (after_handler r h)
  after-handler-fits = which h.at refl
    where
      going : handlers.answer h ≡ None → Fits layout view (record r { at = at.Handle h })
      going none = fits-at base (at.Handle h) (still-handler (at.Handle h) has, none)

      which : (x : HandlerAt) → h.at ≡ x → Fits layout view (after_handler_by r h (handlers.answer_at x))
      which handler_at.Stop is = going (ap handlers.answer_at is)
      which (handler_at.Fail f) is = going (ap handlers.answer_at is)
      which handler_at.GaveUp is = going (ap handlers.answer_at is)
      which (handler_at.Over stopped) is = let end = subst (handler_fits.FitsAt layout view h.who h.thread h.stops h.events) is has.handler.at in over-fits stopped end.0 end.1

-- ---- a machine check that begins

module _ {layout : Layout} {view : View} {r : Raise} (base : Base layout view r) (has : IsUnbegun view r) (going : GoesOn view r.who r.raiser) where
  only-none : HasOnlyFailed view r.who
  only-none = subst (EachMember (λ (m : Made). is_failure m.entry.what ≡ true)) (sym has.unchecked.made) (λ i m e. absurd (none-some m e))

  begun : (spare : ℕ) → bank_count ≤ spare → HasHandler layout view (emptied r spare) (handler_of layout r)
  begun spare room = record {
    handler = begins-fit layout view r.alloc r.who (thread_of r.raiser) (how_of r) r.banks (ap length has.unchecked.banks_are ∙ base.three) base.on_turn base.sound has.rest;
    own = refl;
    thread_is = refl;
    stops_is = ap (has_stop (how_of r)) has.unchecked.banks_are;
    events = events-stay layout r.alloc r.who (thread_of r.raiser) (has_stop (how_of r) r.banks) (held_in (how_of r) r.banks) [] ∙ ap (held_in (how_of r)) has.unchecked.banks_are;
    room = room;
    told_none = has.unchecked.told_none;
    emptied = refl;
    going = going;
    only = only-none;
  }

  pub begins-check : (after : Raise) → BeginsCheck layout r after → Fits layout view after
  begins-check after (inl refused) = subst (Fits layout view) (sym refused) (fits-at base at.GiveUp has.rest.hand_is)
  begins-check after (inr (spare, room, is)) = subst (Fits layout view) (sym is)
      (after-handler-fits (record { on_turn = base.on_turn; sound = base.sound; raiser = base.raiser; three = base.three }) (begun spare room))

-- ---- each step

module _ (layout : Layout) (old new : View) (r : Raise) (step : Step) (found : ℕ) (got : Option BodyValue) (fits : Fits layout old r) where
  abbrev Then : RaiseAt → Type 0
  Then x = ShowsAt r.lines.spare (bare_at x) found got × ((after : Raise) (turn : Turn) → FollowsAt layout (bare r) (bare_at x) found got after turn → Fits layout new after)

  -- a step that lists nothing
  unbegun-stays : {other : Step} → ListsNone other → Steps layout r.who other None old new found got → hand_of new ≡ empty → IsUnbegun old r → IsUnbegun new r
  unbegun-stays none made hand has = record {
    rest = record { hand_is = hand; paid = losses-same none made ∙ has.rest.paid };
    unchecked = record { told_none = has.unchecked.told_none; banks_are = has.unchecked.banks_are; made = deeds-same r.who none made ∙ has.unchecked.made };
  }

  stop-loaded : IsUnbegun old r → Some (steps.Load places.Stop) ≡ Some step → Steps layout r.who step None old new found got → (b : Bool) → is_stopped found ≡ b → (o : Option Raiser) → r.raiser ≡ o → (after : Raise) → AfterStopBy layout r b o after → Fits layout new after
  stop-loaded has e made = which
    where
      base : Base layout new r
      base = base-of fits (on-turn-after fits.on_turn made)

      now : IsUnbegun new r
      now = unbegun-stays tt (steps-planned e made) (hand-planned made e has.rest.hand_is) has

      which : (b : Bool) → is_stopped found ≡ b → (o : Option Raiser) → r.raiser ≡ o → (after : Raise) → AfterStopBy layout r b o after → Fits layout new after
      which true stopped o of after next = subst (Fits layout new) (sym next) (fits-at base (at.Over (Some answers.Stopped)) (now.rest, inl (still-unchecked (at.Over (Some answers.Stopped)) now.unchecked, saw-stop (steps-planned e made) stopped)))
      which false goes (Some raiser) of after next = subst (Fits layout new) (sym next) (fits-at base (at.LoadProcess raiser) (of, still-unbegun (at.LoadProcess raiser) now))
      which false goes None of after next = begins-check base now (subst (GoesOn new r.who) (sym of) tt) after next

  process-loaded : (raiser : Raiser) → r.raiser ≡ Some raiser → IsUnbegun old r → Some (steps.Load (places.Process raiser.process)) ≡ Some step → Steps layout r.who step None old new found got
      → (o : Option Page) → page_named found ≡ o → (after : Raise) → AfterProcessBy layout r o after → Fits layout new after
  process-loaded raiser of has e made = which
    where
      base : Base layout new r
      base = base-of fits (on-turn-after fits.on_turn made)

      own : Steps layout r.who (steps.Load (places.Process raiser.process)) None old new found got
      own = steps-planned e made

      now : IsUnbegun new r
      now = unbegun-stays tt own (hand-planned made e has.rest.hand_is) has

      few : found ≤ page_limit
      few = ended-by layout own.told.board own.told.rule raiser.process found (subst (IsRaiser layout) of fits.raiser).process own.told.met

      which : (o : Option Page) → page_named found ≡ o → (after : Raise) → AfterProcessBy layout r o after → Fits layout new after
      which (Some page) named after next = subst (Fits layout new) (sym next) (fits-at base (at.Over (Some (answers.Gone page))) (now.rest, (still-unchecked (at.Over (Some (answers.Gone page))) now.unchecked, subst (λ (x : Option Raiser). IsGone new r.who x page) (sym of) (subst (Saw new r.who (places.Process raiser.process)) (page-back found page few named) (saw-load own)))))
      which None named after next = begins-check base now (subst (GoesOn new r.who) (sym of) (subst (Saw new r.who (places.Process raiser.process)) (no-page-back found named) (saw-load own))) after next

  -- a step of the machine check
  module _ (h : Handler) (has : HasHandler layout old r h) (e : handlers.plan h ≡ Some step) (made : Steps layout r.who step (logs (handlers.put h)) old new found got) where
    handler-own : Steps layout h.who step (logs (handlers.put h)) old new found got
    handler-own = subst (λ (w : Who). Steps layout w step (logs (handlers.put h)) old new found got) (sym has.own) made

    going-stays : (o : Option Raiser) → GoesOn old r.who o → GoesOn new r.who o
    going-stays None going = tt
    going-stays (Some raiser) going = saw-stays made going

    handler-goes : (after : Handler) (turn : Turn) → handlers.Follows layout (handlers.bare h) found got after turn → HasHandler layout new r after
    handler-goes after turn next =
        let left = kept layout (handlers.bare h) found got after turn next in
        let added : AddsFailure h.who old new (handler_done.failed_now h) (handler_done.failed_now after) = (handler-adds layout old new h step found got has.handler e handler-own after turn next).failed in record {
          handler = ((handler-stays layout old new h step found got has.handler e handler-own).1 after turn next).0;
          own = left.who ∙ has.own;
          thread_is = left.thread ∙ has.thread_is;
          stops_is = left.stops ∙ has.stops_is;
          events = left.events ∙ has.events;
          room = has.room;
          told_none = has.told_none;
          emptied = has.emptied;
          going = going-stays r.raiser has.going;
          only = only-failed-stays r.who old new (subst (λ (w : Who). AddsFailure w old new (handler_done.failed_now h) (handler_done.failed_now after)) has.own added) has.only;
        }

    handler-moved : Then (at.Handle h)
    handler-moved = (
      shows-within h r.lines.spare found got has.handler.found has.room (handler-stays layout old new h step found got has.handler e handler-own).0,
      λ after turn next. subst (Fits layout new) (sym next.next_is) (after-handler-fits (base-bare (base-of fits (on-turn-after fits.on_turn made))) (bare-handler (handler-goes next.handler turn next.follows))),
    )
      where
        base-bare : Base layout new r → Base layout new (bare r)
        base-bare base = record { on_turn = base.on_turn; sound = base.sound; raiser = base.raiser; three = base.three }

        bare-handler : {after : Handler} → HasHandler layout new r after → HasHandler layout new (bare r) after
        bare-handler now = still-handler (bare_at r.at) now

  gives-up : hand_of old ≡ empty → Some steps.GiveUp ≡ Some step → Steps layout r.who step None old new found got → Fits layout new (record r { at = at.Over None })
  gives-up hand e made = fits-at (base-of fits (on-turn-after fits.on_turn made)) (at.Over None) (hand-planned made e hand)

both : (layout : Layout) (old new : View) (r : Raise) (step : Step) (found : ℕ) (got : Option BodyValue) → Fits layout old r → plan r ≡ Some step → Steps layout r.who step (logs (put r)) old new found got
    → Shows (bare r) found got × ((after : Raise) (turn : Turn) → Follows layout (bare r) found got after turn → Fits layout new after)
both layout old new r step found got fits is made = which r.at refl fits.at is made
  where
    -- a state that gives no body is itself without it
    same : (x : RaiseAt) → r.at ≡ x → bare_at x ≡ x → bare r ≡ r
    same x at_is plain = ap (λ (y : RaiseAt). record r { at = y }) (ap bare_at at_is ∙ plain ∙ sym at_is)

    which : (x : RaiseAt) → r.at ≡ x → FitsAt layout old r x → plan_at x ≡ Some step → Steps layout r.who step (logs (put_at x)) old new found got → Then layout old new r step found got fits x
    which at.LoadStop at_is has e made = (tt, λ after turn next. stop-loaded layout old new r step found got fits has e made (is_stopped found) refl r.raiser refl after (subst (λ (x : Raise). AfterStop layout x found after) (same at.LoadStop at_is refl) next.0))
    which (at.LoadProcess raiser) at_is has e made =
        (tt, λ after turn next. process-loaded layout old new r step found got fits raiser has.0 has.1 e made (page_named found) refl after (subst (λ (x : Raise). AfterProcess layout x found after) (same (at.LoadProcess raiser) at_is refl) next.0))
    which (at.Handle h) at_is has e made = handler-moved layout old new r step found got fits h has.0 e made
    which at.GiveUp at_is has e made = (tt, λ after turn next. subst (Fits layout new) (sym next.0) (gives-up layout old new r step found got fits has e made))
    which (at.Over answer) at_is has e made = absurd (none-some step e)

-- ---- it stays of its command

own-handler : (r : Raise) (h : Handler) → (after_handler r h).who ≡ r.who
own-handler r h = which h.at
  where
    which : (x : HandlerAt) → (after_handler_by r h (handlers.answer_at x)).who ≡ r.who
    which handler_at.Stop = refl
    which (handler_at.Fail f) = refl
    which handler_at.GaveUp = refl
    which (handler_at.Over stopped) = refl

own-begun : (layout : Layout) (r after : Raise) → BeginsCheck layout r after → after.who ≡ r.who
own-begun layout r after (inl refused) = ap (λ (x : Raise). x.who) refused
own-begun layout r after (inr (spare, room, is)) = ap (λ (x : Raise). x.who) is ∙ own-handler (emptied r spare) (handler_of layout r)

own-stop : (layout : Layout) (r after : Raise) (b : Bool) (o : Option Raiser) → AfterStopBy layout r b o after → after.who ≡ r.who
own-stop layout r after true o next = ap (λ (x : Raise). x.who) next
own-stop layout r after false (Some raiser) next = ap (λ (x : Raise). x.who) next
own-stop layout r after false None next = own-begun layout r after next

own-process : (layout : Layout) (r after : Raise) (o : Option Page) → AfterProcessBy layout r o after → after.who ≡ r.who
own-process layout r after (Some page) next = ap (λ (x : Raise). x.who) next
own-process layout r after None next = own-begun layout r after next

pub own-after : (layout : Layout) (r : Raise) (found : ℕ) (got : Option BodyValue) (after : Raise) (turn : Turn) → Follows layout r found got after turn → after.who ≡ r.who
own-after layout r found got after turn follows = which r.at follows
  where
    which : (x : RaiseAt) → FollowsAt layout r x found got after turn → after.who ≡ r.who
    which at.LoadStop next = own-stop layout r after (is_stopped found) r.raiser next.0
    which (at.LoadProcess raiser) next = own-process layout r after (page_named found) next.0
    which (at.Handle h) next = ap (λ (x : Raise). x.who) next.next_is ∙ own-handler r next.handler
    which at.GiveUp next = ap (λ (x : Raise). x.who) next.0
    which (at.Over answer) next = ap (λ (x : Raise). x.who) next.0

pub stays : (layout : Layout) (old new : View) (r : Raise) (step : Step) (found : ℕ) (got : Option BodyValue) → Fits layout old r → plan r ≡ Some step → Steps layout r.who step (logs (put r)) old new found got
    → Shows (bare r) found got × ((after : Raise) (turn : Turn) → Follows layout (bare r) found got after turn → Fits layout new after × (after.who.cpu ≡ r.who.cpu))
stays layout old new r step found got fits is made =
    let all = both layout old new r step found got fits is made in (all.0, λ after turn follows. (all.1 after turn follows, ap (λ (w : Who). w.cpu) (own-after layout (bare r) found got after turn follows)))

-- ---- before it

-- it fits at its beginning, where its processor holds and owes nothing, and its command has made nothing
pub begins : (layout : Layout) (view : View) (r : Raise) → r ≡ begin r.alloc r.who r.raiser r.mcg r.banks → IsOnTurn view r.who → IsSound layout → IsRaiser layout r.raiser → length r.banks ≡ bank_count → IsAtRest view → HasMadeNone view r.who → Fits layout view r
begins layout view r is on sound raiser three rest none = subst (Fits layout view) (sym is)
    (record { on_turn = on; sound = sound; raiser = raiser; three = three; at = record { rest = rest; unchecked = record { told_none = refl; banks_are = refl; made = none } } })
