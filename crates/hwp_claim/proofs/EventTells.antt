-- What is told at once: the events stay, what is told is right, and what goes on has poisoned and entered nothing yet.
use Rattle.std.proofs.Common.{◌≡◌, ℕ, ◌+◌, ◌≤◌, Bool, true, false, cond, ◌||◌, List, [], ◌∷◌, ◌++◌, Option, Some, None, length, map, filter_map, slice_get, option_map, unwrap_or, refl, sym, ap, ◌∙◌, subst, arith}
use Rattle.std.specs.List.{list_any}
use Rattle.std.specs.declared.alloc.Global.{Global}
use Rattle.std.proofs.lemmas.List.{append_assoc, append-nil, map-append}
use Rattle.std.proofs.lemmas.List.Elements.{filter_map-append}
use Rattle.std.proofs.lemmas.Option.{none-some, same_Some}
use Rattle.hwp_banks.specs.hwp_geom.declared.Layout.{Layout}
use Rattle.hwp_banks.specs.hwp_geom.declared.Thread.{Thread}
use Rattle.hwp_banks.specs.hwp_geom.declared.Who.{Who}
use Rattle.hwp_claim_frame.specs.hwp_page.History.{BodyValue}
use Rattle.hwp_claim_frame.specs.hwp_core_rule.declared.View.{View}
use Rattle.hwp_claim_frame.specs.hwp_core_rule.Words.{Words}
use Rattle.hwp_claim_frame.specs.hwp_core_rule.declared.Turn.{Turn}
use Rattle.hwp_law.specs.hwp_report_text.declared.Acted.{Acted}
use Rattle.hwp_law.specs.hwp_report_text.Acts.{is_panic}
use Rattle.hwp_banks.specs.Banks.{Banks}
use Rattle.hwp_law.specs.hwp_severity.Handling.{has_stop}
use Rattle.hwp_law.specs.hwp_severity.declared.Arrival.{Arrival}
use Rattle.hwp_claim.specs.declared.fail.FailAnswer.{FailAnswer}
use Rattle.hwp_claim.specs.Fails as fails
use Rattle.hwp_claim.specs.CheckDone.{failed_at, failed_in, marked_at, marked_in, owed_at}
use Rattle.hwp_claim.specs.Events.{held_in}
use Rattle.hwp_claim.specs.Fits.{AreTold, IsTold, events_of}
use Rattle.hwp_claim.specs.Handlers.{Follows, FollowsAt, aborts_at, after_fail_by, at_end, begin, claims_at, class_at, cost_with, ended_by, failing, tell_on}
use Rattle.hwp_claim.specs.Queue.{Queue}
use Rattle.hwp_claim.specs.Told.{are_held_back, at_once, halts, told_at_once, told_by}
use Rattle.hwp_claim.specs.declared.handler.Handler.{Handler}
use Rattle.hwp_claim.specs.declared.handler.HandlerAt.{HandlerAt}
use Rattle.hwp_claim.specs.declared.handler.HandlerAt.TheVariants as at
use Rattle.hwp_claim.specs.declared.told.Held.{Held}
use Rattle.hwp_claim.specs.declared.told.EventOutcome.{EventOutcome}

-- a law of what follows, by the next event: at the end, at a failure, and behind what is told at once
pub record TellsOn (layout : Layout) (alloc : Global) (who : Who) (thread : Option Thread) (stops : Bool) (P : List Held → List EventOutcome → Queue × HandlerAt → Type 0) : Type 0 where
  pub ends : (told : List EventOutcome) → P [] told (record { told = told; left = [] }, at_end told)
  pub fails : (held : Held) (left : List Held) (told : List EventOutcome) → at_once layout (are_held_back stops told) held ≡ None → P (held ∷ left) told (record { told = told; left = held ∷ left }, failing layout alloc who thread held)
  pub tells : (held : Held) (left : List Held) (told : List EventOutcome) (acted : Acted) → at_once layout (are_held_back stops told) held ≡ Some acted → (next : Queue × HandlerAt) → P left (told ++ told_at_once held acted ∷ []) next → P (held ∷ left) told next

pub tell-on : (layout : Layout) (alloc : Global) (who : Who) (thread : Option Thread) (stops : Bool) (P : List Held → List EventOutcome → Queue × HandlerAt → Type 0) → TellsOn layout alloc who thread stops P
    → (left : List Held) (told : List EventOutcome) → P left told (tell_on layout alloc who thread stops left told)
tell-on layout alloc who thread stops P by [] told = by.ends told
tell-on layout alloc who thread stops P by (held ∷ left) told = which (at_once layout (are_held_back stops told) held) refl (tell-on layout alloc who thread stops P by left)
  where
    which : (o : Option Acted) → at_once layout (are_held_back stops told) held ≡ o → ((more : List EventOutcome) → P left more (tell_on layout alloc who thread stops left more))
        → P (held ∷ left) told (unwrap_or (option_map (λ (acted : Acted). tell_on layout alloc who thread stops left (told ++ told_at_once held acted ∷ [])) o) (record { told = told; left = held ∷ left }, failing layout alloc who thread held))
    which None is again = by.fails held left told is
    which (Some acted) is again = by.tells held left told acted is (tell_on layout alloc who thread stops left (told ++ told_at_once held acted ∷ [])) (again (told ++ told_at_once held acted ∷ []))

-- ---- the next event

module _ (layout : Layout) (alloc : Global) (who : Who) (thread : Option Thread) (stops : Bool) (told : List EventOutcome) where
  abbrev step_by : Held → List Held → Option Acted → Queue × HandlerAt
  step_by held left o = unwrap_or (option_map (λ (acted : Acted). tell_on layout alloc who thread stops left (told ++ told_at_once held acted ∷ [])) o) (record { told = told; left = held ∷ left }, failing layout alloc who thread held)

  -- it is a failure that takes place
  pub step_fails : (left : List Held) (held : Held) → slice_get left 0 ≡ Some held → at_once layout (are_held_back stops told) held ≡ None → tell_on layout alloc who thread stops left told ≡ (record { told = told; left = left }, failing layout alloc who thread held)
  step_fails [] held is due = absurd (none-some held is)
  step_fails (x ∷ xs) held is due =
      subst (λ (h : Held). tell_on layout alloc who thread stops (h ∷ xs) told ≡ (record { told = told; left = h ∷ xs }, failing layout alloc who thread held)) (sym (same_Some x held is)) (ap (step_by held xs) due)

  -- there is none
  pub step_ends : (left : List Held) → slice_get left 0 ≡ None → tell_on layout alloc who thread stops left told ≡ (record { told = told; left = left }, at_end told)
  step_ends [] is = refl
  step_ends (x ∷ xs) is = absurd (none-some x (sym is))

-- the machine check at its beginning
pub begun : (layout : Layout) (alloc : Global) (who : Who) (thread : Option Thread) (how : Arrival) (banks : Banks) (stops : Bool) (left : List Held) (told : List EventOutcome) (events : Queue) (x : HandlerAt)
    → stops ≡ has_stop how banks → left ≡ held_in how banks → told ≡ [] → events ≡ (tell_on layout alloc who thread stops left told).0 → x ≡ (tell_on layout alloc who thread stops left told).1
    → record { alloc = alloc; who = who; thread = thread; stops = stops; events = events; at = x } ≡ begin layout alloc who thread how banks
begun layout alloc who thread how banks stops left told events x stops_is left_is told_is events_is x_is =
    (λ i. record { alloc = alloc; who = who; thread = thread; stops = stops; events = events_is i; at = x_is i })
    ∙ (λ i. record { alloc = alloc; who = who; thread = thread; stops = stops_is i; events = (tell_on layout alloc who thread (stops_is i) (left_is i) (told_is i)).0; at = (tell_on layout alloc who thread (stops_is i) (left_is i) (told_is i)).1 })

-- the event of what is told
abbrev pub event_in : EventOutcome → Held
event_in t = t.held

-- what is told of the first event that is left
pub one-told : (held : Held) (t : EventOutcome) → t.held ≡ held → (told : List EventOutcome) (left : List Held) → map event_in (told ++ t ∷ []) ++ left ≡ map event_in told ++ held ∷ left
one-told held t own told left = ap (λ (l : List Held). l ++ left) (map-append event_in told (t ∷ [])) ∙ append_assoc (map event_in told) (t.held ∷ []) left ∙ ap (λ (h : Held). map event_in told ++ h ∷ left) own

module _ (layout : Layout) (alloc : Global) (who : Who) (thread : Option Thread) (stops : Bool) where
  -- ---- the events stay

  abbrev Keeps : List Held → List EventOutcome → Queue × HandlerAt → Type 0
  Keeps left told next = events_of next.0 ≡ map event_in told ++ left

  pub events-stay : (left : List Held) (told : List EventOutcome) → Keeps left told (tell_on layout alloc who thread stops left told)
  events-stay = tell-on layout alloc who thread stops Keeps (record {
    ends = λ told. refl;
    fails = λ held left told due. refl;
    tells = λ held left told acted done next kept. kept ∙ one-told held (told_at_once held acted) refl told left;
  })

  -- ---- the rank

  abbrev Cheap : List Held → List EventOutcome → Queue × HandlerAt → Type 0
  Cheap left told next = (w : Words) → cost_with (length next.0.left) next.1 w ≤ length left + 1

  pub tell-cost : (left : List Held) (told : List EventOutcome) → Cheap left told (tell_on layout alloc who thread stops left told)
  tell-cost = tell-on layout alloc who thread stops Cheap (record {
    ends = λ told w. by-end (halts told) w;
    fails = λ held left told due w. by-recovery layout.recovery (length (held ∷ left)) held w;
    tells = λ held left told acted done next few w. let less : cost_with (length next.0.left) next.1 w ≤ length left + 1 = few w in omega (arith, less);
  })
    where
      by-end : (b : Bool) (w : Words) → cost_with 0 (cond b at.Stop (at.Over false)) w ≤ 0 + 1
      by-end true w = omega arith
      by-end false w = omega arith

      by-recovery : (b : Bool) (n : ℕ) (held : Held) (w : Words) → cost_with n (failing (record layout { recovery = b }) alloc who thread held) w ≤ n + 1
      by-recovery true n held w = omega arith
      by-recovery false n held w = omega arith

  -- what goes on is at rest
  pub record IsIdle (x : HandlerAt) : Type 0 where
    pub class : class_at x ≡ 4
    pub claims : claims_at x ≡ None
    pub aborts : aborts_at x ≡ false
    pub marked : marked_at x ≡ []
    pub failed : failed_at x ≡ []
    pub owed : owed_at x ≡ 0

  abbrev Idle : List Held → List EventOutcome → Queue × HandlerAt → Type 0
  Idle left told next = IsIdle next.1

  pub tell-idle : (left : List Held) (told : List EventOutcome) → Idle left told (tell_on layout alloc who thread stops left told)
  tell-idle = tell-on layout alloc who thread stops Idle (record {
    ends = λ told. by-end (halts told);
    fails = λ held left told due. by-recovery layout.recovery held;
    tells = λ held left told acted done next idle. idle;
  })
    where
      by-end : (b : Bool) → IsIdle (cond b at.Stop (at.Over false))
      by-end true = record { class = refl; claims = refl; aborts = refl; marked = refl; failed = refl; owed = refl }
      by-end false = record { class = refl; claims = refl; aborts = refl; marked = refl; failed = refl; owed = refl }

      by-recovery : (b : Bool) (held : Held) → IsIdle (failing (record layout { recovery = b }) alloc who thread held)
      by-recovery true held = record { class = refl; claims = refl; aborts = refl; marked = refl; failed = refl; owed = refl }
      by-recovery false held = record { class = refl; claims = refl; aborts = refl; marked = refl; failed = refl; owed = refl }

  -- ---- what the failures have done

  abbrev SameDone : List Held → List EventOutcome → Queue × HandlerAt → Type 0
  SameDone left told next = (filter_map marked_in next.0.told ≡ filter_map marked_in told) × (filter_map (failed_in thread) next.0.told ≡ filter_map (failed_in thread) told)

  pub tell-done : (left : List Held) (told : List EventOutcome) → SameDone left told (tell_on layout alloc who thread stops left told)
  tell-done = tell-on layout alloc who thread stops SameDone (record {
    ends = λ told. (refl, refl);
    fails = λ held left told due. (refl, refl);
    tells = λ held left told acted done next same. (
      same.0 ∙ filter_map-append marked_in told (told_at_once held acted ∷ []) ∙ append-nil (filter_map marked_in told),
      same.1 ∙ filter_map-append (failed_in thread) told (told_at_once held acted ∷ []) ∙ append-nil (filter_map (failed_in thread) told),
    );
  })

-- ---- what a step leaves as it was

pub record IsKept (h after : Handler) : Type 0 where
  pub who : after.who ≡ h.who
  pub thread : after.thread ≡ h.thread
  pub stops : after.stops ≡ h.stops
  pub events : events_of after.events ≡ events_of h.events

kept-ended : (layout : Layout) (h : Handler) (answer : FailAnswer) (left : List Held) → h.events.left ≡ left → IsKept h (ended_by layout h answer left)
kept-ended layout h answer [] is = record { who = refl; thread = refl; stops = refl; events = refl }
kept-ended layout h answer (held ∷ left) is = record {
  who = refl;
  thread = refl;
  stops = refl;
  events = events-stay layout h.alloc h.who h.thread h.stops left (h.events.told ++ told_by held answer ∷ []) ∙ one-told held (told_by held answer) refl h.events.told left ∙ ap (λ (l : List Held). map event_in h.events.told ++ l) (sym is);
}

kept-after : (layout : Layout) (h : Handler) (o : Option FailAnswer) → IsKept h (after_fail_by layout h o)
kept-after layout h None = record { who = refl; thread = refl; stops = refl; events = refl }
kept-after layout h (Some answer) = kept-ended layout h answer h.events.left refl

pub kept : (layout : Layout) (h : Handler) (found : ℕ) (got : Option BodyValue) (after : Handler) (turn : Turn) → Follows layout h found got after turn → IsKept h after
kept layout h found got after turn follows = which h.at follows
  where
    same : after ≡ h → IsKept h after
    same is = record { who = ap (λ (x : Handler). x.who) is; thread = ap (λ (x : Handler). x.thread) is; stops = ap (λ (x : Handler). x.stops) is; events = ap (λ (x : Handler). events_of x.events) is }

    which : (x : HandlerAt) → FollowsAt layout h x found got after turn → IsKept h after
    which at.Stop next = record { who = ap (λ (x : Handler). x.who) next.0; thread = ap (λ (x : Handler). x.thread) next.0; stops = ap (λ (x : Handler). x.stops) next.0; events = ap (λ (x : Handler). events_of x.events) next.0 }
    which (at.Fail f) next = let left = kept-after layout (record h { at = at.Fail next.fail }) (fails.answer next.fail) in record {
      who = ap (λ (x : Handler). x.who) next.next_is ∙ left.who;
      thread = ap (λ (x : Handler). x.thread) next.next_is ∙ left.thread;
      stops = ap (λ (x : Handler). x.stops) next.next_is ∙ left.stops;
      events = ap (λ (x : Handler). events_of x.events) next.next_is ∙ left.events;
    }
    which at.GaveUp next = same next.0
    which (at.Over stopped) next = same next.0

-- ---- that what is told is right

or-assoc : (a b c : Bool) → (a || (b || c)) ≡ ((a || b) || c)
or-assoc true b c = refl
or-assoc false b c = refl

or-false : (a : Bool) → (a || false) ≡ a
or-false true = refl
or-false false = refl

-- one more
pub told-more : (layout : Layout) (view : View) (who : Who) (thread : Option Thread) (b : Bool) (ts : List EventOutcome) (t : EventOutcome) → AreTold layout view who thread b ts → IsTold layout view who thread (are_held_back b ts) t → AreTold layout view who thread b (ts ++ t ∷ [])
told-more layout view who thread b [] t all is = (subst (λ (c : Bool). IsTold layout view who thread c t) (or-false b) is, tt)
told-more layout view who thread b (x ∷ xs) t all is =
    (all.0, told-more layout view who thread (b || is_panic x.acted) xs t all.1 (subst (λ (c : Bool). IsTold layout view who thread c t) (or-assoc b (is_panic x.acted) (list_any (λ (y : EventOutcome). is_panic y.acted) xs)) is))
