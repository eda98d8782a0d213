-- The laws of `Handler`: its steps can be made, and what follows them fits.
use Rattle.std.proofs.Common.{◌≡◌, inl, inr, ℕ, ◌<◌, ◌==◌, nat_le, Bool, true, false, cond, List, [], ◌∷◌, ◌++◌, Option, Some, None, length, map, refl, sym, ap, ◌∙◌, subst}
use Rattle.std.specs.declared.alloc.Global.{Global}
use Rattle.std.proofs.lemmas.Bool.{both_ways, leb-false}
use Rattle.std.proofs.lemmas.Option.{none-some}
use Rattle.hwp_banks.specs.hwp_geom.declared.Frame.{Frame}
use Rattle.hwp_banks.specs.hwp_geom.declared.Layout.{Layout}
use Rattle.hwp_banks.specs.hwp_geom.declared.Thread.{Thread}
use Rattle.hwp_banks.specs.hwp_geom.declared.Who.{Who}
use Rattle.hwp_banks.specs.hwp_geom.Layout.{IsSound}
use Rattle.hwp_banks.specs.Addresses.{frame_at}
use Rattle.hwp_banks.specs.Events.{bank_count}
use Rattle.hwp_claim_frame.specs.hwp_page.History.{BodyValue}
use Rattle.hwp_claim_frame.specs.hwp_words.Stops.{is_stopped}
use Rattle.hwp_claim_frame.specs.hwp_core_rule.declared.SharedWord.TheVariants as places
use Rattle.hwp_claim_frame.specs.hwp_core_rule.declared.Step.{Step}
use Rattle.hwp_claim_frame.specs.hwp_core_rule.declared.Step.TheVariants as steps
use Rattle.hwp_claim_frame.specs.hwp_core_rule.declared.View.{View}
use Rattle.hwp_claim_frame.specs.hwp_core_rule.Views.{noted, sighted}
use Rattle.hwp_law.specs.hwp_severity.declared.Severity.{Severity}
use Rattle.hwp_law.specs.hwp_severity.declared.Severity.TheVariants as severities
use Rattle.hwp_claim_frame.specs.hwp_core_rule.declared.Turn.{Turn}
use Rattle.hwp_claim_frame.specs.hwp_core_rule.Calls.{CanMake, IsOnTurn, Steps, logs}
use Rattle.hwp_claim_frame.specs.hwp_core_rule.Hands.{hand_of, empty}
use Rattle.hwp_claim_frame.proofs.of_hwp_core_rule.tasks.StepLeaves.{can-make, hand-planned, on-turn-after, steps-planned}
use Rattle.hwp_claim_frame.proofs.of_hwp_core_rule.tasks.MadeEntries.{deeds-same}
use Rattle.hwp_claim_frame.proofs.of_hwp_core_rule.tasks.SightKeeps.{saw-stopped, stop-listed}
use Rattle.hwp_law.specs.hwp_report_text.declared.Acted.{Acted}
use Rattle.hwp_law.specs.hwp_report_text.declared.Acted.TheVariants as acts
use Rattle.hwp_banks.specs.Banks.{Banks}
use Rattle.hwp_law.specs.hwp_severity.Handling.{has_stop}
use Rattle.hwp_law.specs.hwp_severity.declared.Arrival.{Arrival}
use Rattle.hwp_claim.specs.declared.fail.Fail.{Fail}
use Rattle.hwp_claim.specs.declared.fail.FailAt.{FailAt}
use Rattle.hwp_claim.specs.declared.fail.FailAt.TheVariants as fail_at
use Rattle.hwp_claim.specs.declared.fail.FailAnswer.{FailAnswer}
use Rattle.hwp_claim.specs.Done as fail_done
use Rattle.hwp_claim.specs.Fails as fails
use Rattle.hwp_claim.specs.Injects.{recovers_at}
use Rattle.hwp_claim.proofs.FailAdds.{fail-adds}
use Rattle.hwp_claim.proofs.FailLaws as failing
use Rattle.hwp_claim.proofs.InjectLaws.{fail-recovers}
use Rattle.hwp_claim.specs.Events.{held_in}
use Rattle.hwp_claim.specs.Fits.{AreFound, AreTold, Fits, FitsAt, IsAllTold, IsAtRest, IsDone, IsFailing, events_of}
use Rattle.hwp_claim.specs.Handlers.{Follows, FollowsAt, Shows, ShowsAt, after_fail, after_fail_by, after_stop, at_end, bare, bare_at, begin, ended_by, go_on, plan, plan_at, put, put_at, tell_on}
use Rattle.hwp_claim.specs.Handlers as handlers
use Rattle.hwp_claim.specs.Queue.{Queue}
use Rattle.hwp_claim.specs.Told.{are_held_back, at_once, failure_at_once, frame_of, halts, required_by, severity_at_once, told_at_once, told_by}
use Rattle.hwp_claim.specs.declared.handler.Handler.{Handler}
use Rattle.hwp_claim.specs.declared.handler.HandlerAt.{HandlerAt}
use Rattle.hwp_claim.specs.declared.handler.HandlerAt.TheVariants as at
use Rattle.hwp_claim.specs.declared.told.Held.{Held}
use Rattle.hwp_claim.specs.declared.told.EventOutcome.{EventOutcome}
use Rattle.hwp_claim.proofs.BankGrades.{found-in}
use Rattle.hwp_claim.proofs.FailureKeeps.{Stay, fail-stay, failed-is, quiet-stay, told-stays}
use Rattle.hwp_claim.proofs.EventTells.{event_in, events-stay, kept, one-told, tell-on, told-more}

pub can : (layout : Layout) (view : View) (h : Handler) (step : Step) → Fits layout view h → plan h ≡ Some step → CanMake layout h.who step (put h) view
can layout view h step fits is = which h.at fits.at is
  where
    which : (x : HandlerAt) → FitsAt layout view h.who h.thread h.stops h.events x → plan_at h.who x ≡ Some step → CanMake layout h.who step (put_at x) view
    which at.Stop has e = can-make fits.on_turn e tt refl
    which (at.Fail f) has e = subst (λ (w : Who). CanMake layout w step (fails.put f) view) has.own (failing.can layout view f step has.fail e)
    which at.GaveUp has e = absurd (none-some step e)
    which (at.Over stopped) has e = absurd (none-some step e)

-- ---- a failure that takes place

-- its frame is of the machine, and the machine recovers
pub record TakesPlace (layout : Layout) (frame : ℕ) : Type 0 where
  pub inside : frame < layout.frames
  pub recovery : layout.recovery ≡ true

takes-place : (layout : Layout) (b : Bool) (frame : ℕ) → failure_at_once layout b frame ≡ None → TakesPlace layout frame
takes-place layout b frame none = which b (nat_le layout.frames frame) refl layout.recovery refl none
  where
    which : (b c : Bool) → nat_le layout.frames frame ≡ c → (d : Bool) → layout.recovery ≡ d → cond b (Some acts.Held) (cond c (Some acts.Outside) (cond d None (Some acts.Panic))) ≡ None → TakesPlace layout frame
    which true c outside d recovery is = absurd (none-some acts.Held (sym is))
    which false true outside d recovery is = absurd (none-some acts.Outside (sym is))
    which false false outside false recovery is = absurd (none-some acts.Panic (sym is))
    which false false outside true recovery is = record { inside = leb-false layout.frames frame outside; recovery = recovery }

pub due-takes-place : (layout : Layout) (b : Bool) (held : Held) → at_once layout b held ≡ None → TakesPlace layout (frame_at held.event.addr)
due-takes-place layout b held none = which held.grade.severity none
  where
    which : (s : Severity) → severity_at_once layout b (frame_at held.event.addr) s ≡ None → TakesPlace layout (frame_at held.event.addr)
    which severities.Optional is = takes-place layout b (frame_at held.event.addr) is
    which severities.Required is = takes-place layout b (frame_at held.event.addr) is
    which severities.Stop is = absurd (none-some acts.Stop (sym is))
    which severities.None is = absurd (none-some acts.None (sym is))
    which severities.Keep is = absurd (none-some acts.Keep (sym is))
    which severities.Deferred is = absurd (none-some acts.Deferred (sym is))
    which severities.Logged is = absurd (none-some acts.Logged (sym is))

-- ---- what goes on

module _ {layout : Layout} {view : View} (h : Handler) (on : IsOnTurn view h.who) (sound : IsSound layout) (rest : IsAtRest view) where
  abbrev FitsNext : List Held → List EventOutcome → Queue × HandlerAt → Type 0
  FitsNext left told next = AreTold layout view h.who h.thread h.stops told → AreTold layout view h.who h.thread h.stops next.0.told × FitsAt layout view h.who h.thread h.stops next.0 next.1

  at-the-end : (told : List EventOutcome) → FitsAt layout view h.who h.thread h.stops (record { told = told; left = [] }) (at_end told)
  at-the-end told = which (halts told) refl
    where
      which : (b : Bool) → halts told ≡ b → FitsAt layout view h.who h.thread h.stops (record { told = told; left = [] }) (cond b at.Stop (at.Over false))
      which true is = record { rest = rest; none_left = refl; halts_is = is }
      which false is = (record { rest = rest; none_left = refl; halts_is = is }, tt)

  begins : (held : Held) (left : List Held) (told : List EventOutcome) → at_once layout (are_held_back h.stops told) held ≡ None
      → FitsAt layout view h.who h.thread h.stops (record { told = told; left = held ∷ left }) (handlers.failing layout h.alloc h.who h.thread held)
  begins held left told due = which layout.recovery place.recovery
    where
      place : TakesPlace layout (frame_at held.event.addr)
      place = due-takes-place layout (are_held_back h.stops told) held due

      which : (b : Bool) → b ≡ true → IsFailing layout view h.who h.thread h.stops (record { told = told; left = held ∷ left }) (fails.begin h.alloc h.who (frame_of held) (required_by h.thread held.grade.severity) true b)
      which true recovers = record {
        fail = record {
          on_turn = on;
          sound = sound;
          frame = place.inside;
          at = record {
            claim = record { on_turn = on; frame = place.inside; paid = rest.paid; at = rest.hand_is };
            own = refl;
            frame_is = refl;
            hardware_is = refl;
            unanswered = refl;
          };
        };
        own = refl;
        hardware = refl;
        recovers = refl;
        held = held;
        rest = left;
        next_is = refl;
        due = due;
        frame_is = refl;
        required_is = refl;
      }
      which false recovers = absurd (both_ways true (sym recovers) refl)

  tells-at-once : (held : Held) (told : List EventOutcome) (acted : Acted) → at_once layout (are_held_back h.stops told) held ≡ Some acted → AreTold layout view h.who h.thread h.stops told → AreTold layout view h.who h.thread h.stops (told ++ told_at_once held acted ∷ [])
  tells-at-once held told acted is all = told-more layout view h.who h.thread h.stops told (told_at_once held acted) all
      (subst (IsDone layout view h.who (required_by h.thread held.grade.severity) (told_at_once held acted)) (sym is) (refl, refl))

  fits-next : (left : List Held) (told : List EventOutcome) → FitsNext left told (tell_on layout h.alloc h.who h.thread h.stops left told)
  fits-next = tell-on layout h.alloc h.who h.thread h.stops FitsNext (record {
    ends = λ told all. (all, at-the-end told);
    fails = λ held left told due all. (all, begins held left told due);
    tells = λ held left told acted is next fits all. fits (tells-at-once held told acted is all);
  })

  -- a machine check that goes on from what is told fits
  pub goes-on : AreFound h.stops (events_of h.events) → AreTold layout view h.who h.thread h.stops h.events.told → Fits layout view (go_on layout h)
  goes-on found all = let next = fits-next h.events.left h.events.told all in record {
    on_turn = on;
    sound = sound;
    found = subst (AreFound h.stops) (sym (events-stay layout h.alloc h.who h.thread h.stops h.events.left h.events.told)) found;
    told = next.0;
    at = next.1;
  }

-- a machine check begins where nothing is held or owed
pub begins-fit : (layout : Layout) (view : View) (alloc : Global) (who : Who) (thread : Option Thread) (how : Arrival) (banks : Banks) → length banks ≡ bank_count → IsOnTurn view who → IsSound layout → IsAtRest view → Fits layout view (begin layout alloc who thread how banks)
begins-fit layout view alloc who thread how banks all on sound rest = goes-on (record { alloc = alloc; who = who; thread = thread; stops = has_stop how banks; events = record { told = []; left = held_in how banks }; at = at.Over false }) on sound rest (found-in how banks all) tt

-- ---- the stop

module _ {layout : Layout} {who : Who} {old new : View} {found : ℕ} {got : Option BodyValue} (made : Steps layout who (steps.Stop who.cpu) None old new found got) where
  pub stop-leaves : {A : Type 0} (g : View → A) → g (record (noted who old) { stops = old.stops ++ who ∷ [] }) ≡ g old → g (sighted who places.Stop found (noted who old)) ≡ g old → g new ≡ g old
  stop-leaves g stops sights = ap g made.told.next ∙ which (found == 0)
    where
      which : (b : Bool) → g (cond b (record (noted who old) { stops = old.stops ++ who ∷ [] }) (sighted who places.Stop found (noted who old))) ≡ g old
      which true = stops
      which false = sights

  stop-stays : Stay who old new
  stop-stays = quiet-stay made (stop-leaves (λ (v : View). v.marks) refl refl) (deeds-same who tt made)

  stop-rests : IsAtRest old → IsAtRest new
  stop-rests rest = record { hand_is = hand-planned made refl rest.hand_is; paid = stop-leaves (λ (v : View). v.owed.losses) refl refl ∙ rest.paid }

  stop-fits : (thread : Option Thread) (stops : Bool) (q : Queue) → IsAllTold old q true → FitsAt layout new who thread stops q (after_stop found)
  stop-fits thread stops q has = which (found == 0) refl (is_stopped found) refl
    where
      all : IsAllTold new q true
      all = record { rest = stop-rests has.rest; none_left = has.none_left; halts_is = has.halts_is }

      which : (b : Bool) → (found == 0) ≡ b → (c : Bool) → is_stopped found ≡ c → FitsAt layout new who thread stops q (cond b (at.Over true) (cond c (at.Over true) at.GaveUp))
      which true zero c is = (all, inr (stop-listed made zero))
      which false other true is = (all, inl (saw-stopped made other is))
      which false other false is = stop-rests has.rest

-- ---- a failure that goes on, or has ended

module _ {layout : Layout} {new : View} (h : Handler) (on : IsOnTurn new h.who) (sound : IsSound layout) (found : AreFound h.stops (events_of h.events)) (all : AreTold layout new h.who h.thread h.stops h.events.told) where
  module _ (f : Fail) (has : IsFailing layout new h.who h.thread h.stops h.events f) where
    ended : (answer : FailAnswer) → f.at ≡ fail_at.Over answer → Fits layout new (ended_by layout (record h { at = at.Fail f }) answer (has.held ∷ has.rest))
    ended answer over = goes-on (record h { at = at.Fail f; events = record { told = h.events.told ++ told_by has.held answer ∷ []; left = has.rest } }) on sound rest
        (subst (AreFound h.stops) (ap (λ (l : List Held). map event_in h.events.told ++ l) has.next_is ∙ sym (one-told has.held (told_by has.held answer) refl h.events.told has.rest)) found)
        (told-more layout new h.who h.thread h.stops h.events.told (told_by has.held answer) all
        (subst (IsDone layout new h.who (required_by h.thread has.held.grade.severity) (told_by has.held answer)) (sym has.due) (failed-is layout new h.who (frame_of has.held) (required_by h.thread has.held.grade.severity) answer (sym (ap recovers_at over) ∙ has.recovers) known)))
      where
        over-fits : (hand_of new ≡ empty) × (new.owed.losses ≡ []) × fails.FitsOver layout new f.who f.frame f.required f.hardware answer
        over-fits = subst (fails.FitsAt layout new f.who f.frame f.required f.hardware) over has.fail.at

        rest : IsAtRest new
        rest = record { hand_is = over-fits.0; paid = over-fits.1 }

        known : fails.FitsOver layout new h.who (frame_of has.held) (required_by h.thread has.held.grade.severity) true answer
        known = subst (λ (w : Who). fails.FitsOver layout new w (frame_of has.held) (required_by h.thread has.held.grade.severity) true answer) has.own
            (subst (λ (g : Frame). fails.FitsOver layout new f.who g (required_by h.thread has.held.grade.severity) true answer) has.frame_is
            (subst (λ (r : Option Thread). fails.FitsOver layout new f.who f.frame r true answer) has.required_is
            (subst (λ (b : Bool). fails.FitsOver layout new f.who f.frame f.required b answer) has.hardware over-fits.2)))

    pub after-fail-fits : Fits layout new (after_fail layout h f)
    after-fail-fits = which f.at refl
      where
        which : (x : FailAt) → f.at ≡ x → Fits layout new (after_fail_by layout (record h { at = at.Fail f }) (fails.answer_at x))
        which (fail_at.Over answer) over = subst (λ (l : List Held). Fits layout new (ended_by layout (record h { at = at.Fail f }) answer l)) (sym has.next_is) (ended answer over)
        which (fail_at.Claim c) going = record { on_turn = on; sound = sound; found = found; told = all; at = has }
        which (fail_at.Act cycle a) going = record { on_turn = on; sound = sound; found = found; told = all; at = has }

-- ---- each step

-- the failure of the same event
fails-on : {layout : Layout} {old new : View} (f after : Fail) (found : ℕ) (got : Option BodyValue) (turn : Turn) → fails.Follows (fails.bare f) found got after turn
    → {who : Who} {thread : Option Thread} {stops : Bool} {q : Queue} → fails.Fits layout new after → IsFailing layout old who thread stops q f → IsFailing layout new who thread stops q after
fails-on f after found got turn follows fits has = record {
  fail = fits;
  own = ap (λ (g : Fail). g.who) follows.0 ∙ has.own;
  hardware = ap (λ (g : Fail). g.hardware) follows.0 ∙ has.hardware;
  recovers = fail-recovers f after found got turn follows ∙ has.recovers;
  held = has.held;
  rest = has.rest;
  next_is = has.next_is;
  due = has.due;
  frame_is = ap (λ (g : Fail). g.frame) follows.0 ∙ has.frame_is;
  required_is = ap (λ (g : Fail). g.required) follows.0 ∙ has.required_is;
}

fail-step-stays : {layout : Layout} {old new : View} {step : Step} {found : ℕ} {got : Option BodyValue} (f after : Fail) (turn : Turn) → fails.Follows (fails.bare f) found got after turn
    → fails.Fits layout old f → fails.plan f ≡ Some step → Steps layout f.who step (logs (fails.put f)) old new found got → Stay f.who old new
fail-step-stays {layout} {old} {new} {step} {found} {got} f after turn follows fits is made =
    let adds : fail_done.Adds old new f.who f.frame f.hardware f.required f.at after.at = fail-adds layout old new f step found got fits is made after turn follows in fail-stay made adds.marked adds.failed

both : (layout : Layout) (old new : View) (h : Handler) (step : Step) (found : ℕ) (got : Option BodyValue) → Fits layout old h → plan h ≡ Some step → Steps layout h.who step (logs (put h)) old new found got
    → Shows (bare h) found got × ((after : Handler) (turn : Turn) → Follows layout (bare h) found got after turn → Fits layout new after)
both layout old new h step found got fits is made = which h.at fits.at is made
  where
    on : IsOnTurn new h.who
    on = on-turn-after fits.on_turn made

    which : (x : HandlerAt) → FitsAt layout old h.who h.thread h.stops h.events x → plan_at h.who x ≡ Some step → Steps layout h.who step (logs (put_at x)) old new found got
        → ShowsAt (bare_at x) found got × ((after : Handler) (turn : Turn) → FollowsAt layout (bare h) (bare_at x) found got after turn → Fits layout new after)
    which at.Stop has e made = let stop = steps-planned e made in (
      tt,
      λ after turn follows. subst (Fits layout new) (sym follows.0) (record {
        on_turn = on;
        sound = fits.sound;
        found = fits.found;
        told = told-stays layout h.who h.thread (stop-stays stop) h.stops h.events.told fits.told;
        at = stop-fits stop h.thread h.stops h.events has;
      }),
    )
    which (at.Fail f) has e made =
        let own : Steps layout f.who step (logs (fails.put f)) old new found got = subst (λ (w : Who). Steps layout w step (logs (fails.put f)) old new found got) (sym has.own) made in
        let all = failing.stays layout old new f step found got has.fail e own in (
          all.0,
          λ after turn next. subst (Fits layout new) (sym next.next_is) (after-fail-fits h on fits.sound fits.found
              (told-stays layout h.who h.thread (subst (λ (w : Who). Stay w old new) has.own (fail-step-stays f next.fail turn next.follows has.fail e own)) h.stops h.events.told fits.told)
              next.fail (fails-on f next.fail found got turn next.follows (all.1 next.fail turn next.follows).0 has)),
        )
    which at.GaveUp has e made = absurd (none-some step e)
    which (at.Over stopped) has e made = absurd (none-some step e)

pub stays : (layout : Layout) (old new : View) (h : Handler) (step : Step) (found : ℕ) (got : Option BodyValue) → Fits layout old h → plan h ≡ Some step → Steps layout h.who step (logs (put h)) old new found got
    → Shows (bare h) found got × ((after : Handler) (turn : Turn) → Follows layout (bare h) found got after turn → Fits layout new after × (after.who.cpu ≡ h.who.cpu))
stays layout old new h step found got fits is made = let all = both layout old new h step found got fits is made in (all.0, λ after turn follows. (all.1 after turn follows, ap (λ (w : Who). w.cpu) (kept layout (bare h) found got after turn follows).who))
