-- The laws of `Scrub`: its steps can be made, and what follows them fits.
use Rattle.std.proofs.Common.{◌≡◌, inl, inr, ℕ, ◌+◌, ◌<◌, ◌≤◌, Bool, true, false, cond, nat_lt, List, [], ◌∷◌, ◌++◌, Option, Some, None, length, map, slice_index_or, slice_set, append-nil, append_assoc, refl, sym, ap, ◌∙◌, subst, arith}
use Rattle.std.proofs.lemmas.Bool.{ltb-false, ltb-true}
use Rattle.std.proofs.lemmas.List.{length-set}
use Rattle.std.proofs.lemmas.Option.{none-some}
use Rattle.hwp_claim.specs.hwp_geom.declared.Frame.{Frame}
use Rattle.hwp_claim.specs.hwp_geom.declared.Layout.{Layout}
use Rattle.hwp_claim.specs.hwp_geom.declared.Thread.{Thread}
use Rattle.hwp_claim.specs.hwp_geom.declared.Who.{Who}
use Rattle.hwp_claim.specs.hwp_geom.Layout.{IsSound}
use Rattle.hwp_claim.specs.hwp_banks.declared.Origin.TheVariants as origins
use Rattle.hwp_claim.specs.hwp_banks.Events.{bank_count, bank_of, own_event}
use Rattle.hwp_claim.specs.hwp_banks.Logged.{logged}
use Rattle.hwp_claim.specs.hwp_page.History.{BodyValue}
use Rattle.hwp_claim.specs.hwp_words.Stops.{is_stopped}
use Rattle.hwp_claim.specs.hwp_core_rule.declared.Made.{Made}
use Rattle.hwp_claim.specs.hwp_core_rule.declared.SharedWord.{SharedWord}
use Rattle.hwp_claim.specs.hwp_core_rule.declared.SharedWord.TheVariants as places
use Rattle.hwp_claim.specs.hwp_core_rule.declared.Step.{Step}
use Rattle.hwp_claim.specs.hwp_core_rule.declared.Step.TheVariants as steps
use Rattle.hwp_claim.specs.hwp_core_rule.declared.View.{View}
use Rattle.hwp_claim.specs.hwp_core_rule.Lists.{EachMember}
use Rattle.hwp_claim.specs.hwp_core_rule.declared.Turn.{Turn}
use Rattle.hwp_claim.specs.hwp_core_rule.Calls.{CanMake, IsOnTurn, Steps, logs}
use Rattle.hwp_claim.specs.hwp_core_rule.Hands.{hand_of, empty}
use Rattle.hwp_claim.proofs.of_hwp_core_rule.tasks.StepLeaves.{can-make, hand-planned, on-turn-after, steps-planned}
use Rattle.hwp_claim.specs.hwp_core_rule.Known.{HasMadeNone, is_failure}
use Rattle.hwp_claim.proofs.of_hwp_core_rule.tasks.MadeEntries.{deeds-same}
use Rattle.hwp_claim.proofs.of_hwp_core_rule.tasks.StepOwes.{losses-same}
use Rattle.hwp_claim.proofs.of_hwp_core_rule.tasks.SightKeeps.{saw-load, saw-stays}
use Rattle.hwp_claim.specs.hwp_claim_act.Abandoned.{AddsFailure}
use Rattle.hwp_claim.proofs.of_hwp_claim_act.ActAdds.{only-failed-stays}
use Rattle.hwp_claim.specs.hwp_banks.Banks.{Banks}
use Rattle.hwp_claim.specs.hwp_severity.Handling.{has_stop}
use Rattle.hwp_claim.specs.declared.Handler.{Handler}
use Rattle.hwp_claim.specs.declared.Held.{Held}
use Rattle.hwp_claim.specs.declared.EventOutcome.{EventOutcome}
use Rattle.hwp_claim.specs.declared.handler.HandlerAt.{HandlerAt}
use Rattle.hwp_claim.specs.declared.handler.HandlerAt.TheVariants as handler_at
use Rattle.hwp_claim.specs.Checks.{IsActedOn}
use Rattle.hwp_claim.specs.CheckDone as handler_done
use Rattle.hwp_claim.specs.Events.{held_in}
use Rattle.hwp_claim.specs.Fits as handler_fits
use Rattle.hwp_claim.specs.Fits.{AreTold, IsAllTold, IsAtRest, IsStoppedIf}
use Rattle.hwp_claim.specs.Handlers as handlers
use Rattle.hwp_claim.specs.Lines.{with_lines}
use Rattle.hwp_claim.specs.Told.{halts}
use Rattle.hwp_claim.proofs.HandlerAdds.{handler-adds}
use Rattle.hwp_claim.proofs.HandlerLaws.{begins-fit, can as handler-can, stays as handler-stays}
use Rattle.hwp_claim.proofs.FailureKeeps.{Stay, fail-stay, quiet-stay}
use Rattle.hwp_claim.proofs.EventTells.{events-stay, kept as handler-kept}
use Rattle.hwp_claim.proofs.CheckRoom.{shows-within}
use Rattle.hwp_scrub.specs.Fits.{AreFrames, Fits, FitsAt, HasHandler, HasVisited, IsBefore, IsHalfway, IsUnbegun}
use Rattle.hwp_scrub.specs.Scrubs.{AfterBad, AfterBadBy, AfterWeak, AfterWeakBy, BeginsCheck, Follows, FollowsAt, MeetsWeak, Shows, ShowsAt, after_handler, after_handler_by, bare, bare_at, begin, emptied, gone_on, handler_of, kept, kept_line, kept_lines, plan, plan_at, put, put_at, with_room}
use Rattle.hwp_scrub.specs.Visits.{AreBanks, Find, IsLowest, IsVisit, SawLowest, Visit, left_by, left_by_bad, left_by_visit, lines_of, lines_of_visit, scrub_bank, scrubbing, with_bad}
use Rattle.hwp_scrub.specs.declared.scrub.Scrub.{Scrub}
use Rattle.hwp_scrub.specs.declared.scrub.ScrubAnswer.TheVariants as answers
use Rattle.hwp_scrub.specs.declared.scrub.ScrubAt.{ScrubAt}
use Rattle.hwp_scrub.specs.declared.scrub.ScrubAt.TheVariants as at
use Rattle.hwp_scrub.proofs.VisitLaws.{bad-leaves, bad-stays, count-more, halts-both, is-kept, kept-goes-on, kept-is, left-banks, left-more, lines-more, visits-more, visits-stay, weak_event}

-- ---- the steps can be made

pub can : (layout : Layout) (view : View) (s : Scrub) (step : Step) → Fits layout view s → plan s ≡ Some step → CanMake layout s.who step (put s) view
can layout view s step fits is = which s.at fits.at is
  where
    inside : (frame : Frame) → frame.0 ≤ s.last.0 → frame.0 < layout.frames
    inside frame below = let within : s.last.0 < layout.frames = fits.frames.within in omega (arith, below, within)

    which : (x : ScrubAt) → FitsAt layout view s x → plan_at x ≡ Some step → CanMake layout s.who step (put_at x) view
    which at.LoadStop has e = can-make fits.on_turn e tt tt
    which (at.LoadBad frame) has e = can-make fits.on_turn e (inside frame has.1) tt
    which (at.Handle frame h) has e = subst (λ (w : Who). CanMake layout w step (handlers.put h) view) has.0.own (handler-can layout view h step has.0.handler e)
    which (at.LoadWeak frame) has e = can-make fits.on_turn e (inside frame has.inside) tt
    which at.GiveUp has e = can-make fits.on_turn e tt tt
    which (at.Over answer) has e = absurd (none-some step e)

-- ---- what stays whatever the state

pub record Base (layout : Layout) (view : View) (who : Who) (first last : Frame) (before : Banks) : Type 0 where
  pub on_turn : IsOnTurn view who
  pub sound : IsSound layout
  pub frames : AreFrames layout first last
  pub banks : AreBanks before

fits-of : {layout : Layout} {view : View} (s : Scrub) → Base layout view s.who s.first s.last s.before.value → FitsAt layout view s s.at → Fits layout view s
fits-of s base has = record { on_turn = base.on_turn; sound = base.sound; frames = base.frames; banks = base.banks; at = has }

-- the same in another state
still-handler : {layout : Layout} {view : View} {s : Scrub} {frame : Frame} {h : Handler} (x : ScrubAt) → HasHandler layout view s frame h → HasHandler layout view (record s { at = x }) frame h
still-handler x has = record {
  visits = has.visits;
  visited = has.visited;
  told_is = has.told_is;
  line = has.line;
  saw = has.saw;
  handler = has.handler;
  own = has.own;
  thread_is = has.thread_is;
  stops_is = has.stops_is;
  events = has.events;
  room = has.room;
  emptied = has.emptied;
}

-- ---- a machine check that goes on, or is over

module _ {layout : Layout} {view : View} {s : Scrub} {frame : Frame} {h : Handler} (base : Base layout view s.who s.first s.last s.before.value) (inside : frame.0 ≤ s.last.0) (has : HasHandler layout view s frame h) where
  abbrev found-banks : Banks
  found-banks = with_bad frame has.line (left_by s.before.value has.visits)

  acted-on : h.events.left ≡ [] → IsActedOn layout view s.who None scrubbing found-banks h.events.told
  acted-on none = record {
    events = sym (append-nil (map (λ (t : EventOutcome). t.held) h.events.told)) ∙ ap (λ (l : List Held). map (λ (t : EventOutcome). t.held) h.events.told ++ l) (sym none) ∙ has.events;
    told = subst (λ (w : Who). AreTold layout view w None (has_stop scrubbing found-banks) h.events.told) has.own
        (subst (λ (t : Option Thread). AreTold layout view h.who t (has_stop scrubbing found-banks) h.events.told) has.thread_is
        (subst (λ (b : Bool). AreTold layout view h.who h.thread b h.events.told) has.stops_is has.handler.told));
  }

  -- once it is over
  abbrev over : ScrubAt → Scrub
  over x = record s { lines = with_lines s.lines h.events.told; at = x }

  halfway : (stopped : Bool) (x : ScrubAt) → IsAllTold view h.events stopped → IsStoppedIf stopped view h.who → IsHalfway layout view (over x) frame stopped
  halfway stopped x told stops = record {
    rest = told.rest;
    visits = has.visits;
    visited = has.visited;
    inside = inside;
    bad = record { line = Some has.line; lines = h.events.told };
    found = record { saw = has.saw; met = acted-on told.none_left };
    told_is = ap (λ (l : List EventOutcome). l ++ h.events.told) has.told_is;
    banks_are = has.emptied;
    halts_is = told.halts_is;
    stops = subst (IsStoppedIf stopped view) has.own stops;
  }

  over-fits : (stopped : Bool) → IsAllTold view h.events stopped → IsStoppedIf stopped view h.who → Fits layout view (after_handler_by s frame h (Some stopped))
  over-fits true told stops = fits-of (over (at.Over (Some answers.Stopped))) base (inr (frame, halfway true (at.Over (Some answers.Stopped)) told stops))
  over-fits false told stops = fits-of (over (at.LoadWeak frame)) base (halfway false (at.LoadWeak frame) told stops)

  pub after-handler-fits : Fits layout view (after_handler s frame h)
  after-handler-fits = which h.at refl
    where
      going : handlers.answer h ≡ None → Fits layout view (record s { at = at.Handle frame h })
      going none = fits-of (record s { at = at.Handle frame h }) base (still-handler (at.Handle frame h) has, inside, none)

      which : (x : HandlerAt) → h.at ≡ x → Fits layout view (after_handler_by s frame h (handlers.answer_at x))
      which handler_at.Stop is = going (ap handlers.answer_at is)
      which (handler_at.Fail f) is = going (ap handlers.answer_at is)
      which handler_at.GaveUp is = going (ap handlers.answer_at is)
      which (handler_at.Over stopped) is = let end = subst (handler_fits.FitsAt layout view h.who h.thread h.stops h.events) is has.handler.at in over-fits stopped end.0 end.1

-- ---- the next frame, or the end

module _ {layout : Layout} {view : View} (s : Scrub) {frame : Frame} {visits : List Visit} {v : Visit} (base : Base layout view s.who s.first s.last s.before.value) (rest : IsAtRest view) (inside : frame.0 ≤ s.last.0)
    (visited : HasVisited layout view s.who s.first s.before.value frame.0 visits) (is : IsVisit layout view s.who frame (left_by s.before.value visits) v) (goes : halts (lines_of_visit v) ≡ false)
    (told_is : s.lines.told ≡ lines_of visits ++ lines_of_visit v) (banks_are : s.banks ≡ left_by_visit v (left_by s.before.value visits)) where
  one-more : HasVisited layout view s.who s.first s.before.value (frame.0 + 1) (visits ++ v ∷ [])
  one-more = record {
    visited = visits-more s.first.0 s.before.value visits v frame.0 visited.next_is visited.visited is;
    next_is = count-more s.first.0 visits v frame.0 visited.next_is;
    halts_none = ap halts (lines-more visits v) ∙ halts-both (lines_of visits) (lines_of_visit v) visited.halts_none ∙ goes;
    only = visited.only;
  }

  before : (x : ScrubAt) (n : ℕ) → frame.0 + 1 ≡ n → IsBefore layout view (record s { at = x }) n
  before x n next = record {
    rest = rest;
    visits = visits ++ v ∷ [];
    visited = subst (λ (m : ℕ). HasVisited layout view s.who s.first s.before.value m (visits ++ v ∷ [])) next one-more;
    told_is = told_is ∙ sym (lines-more visits v);
    banks_are = banks_are ∙ sym (left-more s.before.value visits v);
  }

  pub gone-on-fits : Fits layout view (gone_on s frame)
  gone-on-fits = which (nat_lt frame.0 s.last.0) refl
    where
      next : Frame
      next = record { 0 = frame.0 + 1 }

      which : (b : Bool) → nat_lt frame.0 s.last.0 ≡ b → Fits layout view (record s { at = cond b (at.LoadBad next) (at.Over (Some answers.Scrubbed)) })
      which true is = let below : frame.0 < s.last.0 = ltb-true frame.0 s.last.0 is in fits-of (record s { at = at.LoadBad next }) base (before (at.LoadBad next) (frame.0 + 1) refl, omega (arith, below))
      which false is = let above : s.last.0 ≤ frame.0 = ltb-false frame.0 s.last.0 is in
          fits-of (record s { at = at.Over (Some answers.Scrubbed) }) base (before (at.Over (Some answers.Scrubbed)) (s.last.0 + 1) (omega (arith, above, inside)))

-- ---- the machine check of a bad line that begins

module _ {layout : Layout} {view : View} {s : Scrub} {frame : Frame} (base : Base layout view s.who s.first s.last s.before.value) (has : IsBefore layout view s frame.0) (inside : frame.0 ≤ s.last.0) (line : ℕ) (saw : SawLowest view s.who (places.Bad frame) (Some line)) where
  three : length (with_bad frame line s.banks) ≡ bank_count
  three = length-set s.banks (bank_of origins.BadLine) _ ∙ ap length has.banks_are ∙ (left-banks s.before.value has.visits base.banks).three

  begun : (spare : ℕ) → bank_count ≤ spare → HasHandler layout view (emptied s spare) frame (handler_of layout s frame line)
  begun spare room = record {
    visits = has.visits;
    visited = has.visited;
    told_is = has.told_is;
    line = line;
    saw = saw;
    handler = begins-fit layout view s.alloc s.who None scrubbing (with_bad frame line s.banks) three base.on_turn base.sound has.rest;
    own = refl;
    thread_is = refl;
    stops_is = ap (λ (b : Banks). has_stop scrubbing (with_bad frame line b)) has.banks_are;
    events = events-stay layout s.alloc s.who None (has_stop scrubbing (with_bad frame line s.banks)) (held_in scrubbing (with_bad frame line s.banks)) []
        ∙ ap (λ (b : Banks). held_in scrubbing (with_bad frame line b)) has.banks_are;
    room = room;
    emptied = refl;
  }

  pub check-fits : (after : Scrub) → BeginsCheck layout s frame line after → Fits layout view after
  check-fits after (inl refused) = subst (Fits layout view) (sym refused) (fits-of (record s { at = at.GiveUp }) base has.rest.hand_is)
  check-fits after (inr (spare, room, is)) = subst (Fits layout view) (sym is) (after-handler-fits {s = emptied s spare} base inside (begun spare room))

-- ---- a weak line that is met

module _ {layout : Layout} {view : View} {s : Scrub} {frame : Frame} (base : Base layout view s.who s.first s.last s.before.value) (has : IsHalfway layout view s frame false) where
  abbrev half-banks : Banks
  half-banks = left_by_bad has.bad.line (left_by s.before.value has.visits)

  half-free : AreBanks half-banks
  half-free = bad-leaves has.bad.line (left_by s.before.value has.visits) (left-banks s.before.value has.visits base.banks)

  abbrev visit_with : Find → Visit
  visit_with weak = record { bad = has.bad; weak = weak }

  none-fits : SawLowest view s.who (places.Weak frame) None → Fits layout view (gone_on s frame)
  none-fits saw = gone-on-fits s {v = visit_with (record { line = None; lines = [] })} base has.rest has.inside has.visited (record { bad = has.found; weak = record { saw = saw; met = refl } })
      (ap halts (append-nil has.bad.lines) ∙ has.halts_is) (has.told_is ∙ ap (λ (l : List EventOutcome). lines_of has.visits ++ l) (sym (append-nil has.bad.lines))) has.banks_are

  module _ (line : ℕ) (saw : SawLowest view s.who (places.Weak frame) (Some line)) where
    abbrev told : List EventOutcome
    told = kept_line (weak_event frame line) ∷ []

    told-now : s.lines.told ++ kept_lines (logged (slice_index_or s.banks scrub_bank None) (own_event origins.WeakLine frame line)) ≡ lines_of has.visits ++ (has.bad.lines ++ told)
    told-now = ap (λ (l : List EventOutcome). s.lines.told ++ l) (kept-is frame line s.banks (subst AreBanks (sym has.banks_are) half-free)) ∙ ap (λ (l : List EventOutcome). l ++ told) has.told_is ∙ append_assoc (lines_of has.visits) has.bad.lines told

    some-fits : (spare : ℕ) → Fits layout view (gone_on (kept (with_room s spare) frame line) frame)
    some-fits spare = gone-on-fits (kept (with_room s spare) frame line) {v = visit_with (record { line = Some line; lines = told })} base has.rest has.inside has.visited
        (record { bad = has.found; weak = record { saw = saw; met = is-kept frame line half-banks half-free layout view s.who } })
        (halts-both has.bad.lines told has.halts_is ∙ kept-goes-on frame line) told-now (ap (λ (b : Banks). slice_set b scrub_bank None) has.banks_are)

    meets-fits : (after : Scrub) → MeetsWeak s frame line after → Fits layout view after
    meets-fits after (inl refused) = subst (Fits layout view) (sym refused) (fits-of (record s { at = at.GiveUp }) base has.rest.hand_is)
    meets-fits after (inr (spare, room, is)) = subst (Fits layout view) (sym is) (some-fits spare)

  pub weak-fits : (line : Option ℕ) → SawLowest view s.who (places.Weak frame) line → (after : Scrub) → AfterWeakBy s frame line after → Fits layout view after
  weak-fits None saw after next = subst (Fits layout view) (sym next) (none-fits saw)
  weak-fits (Some line) saw after next = meets-fits line saw after next

-- ---- each step

module _ (layout : Layout) (old new : View) (s : Scrub) (step : Step) (found : ℕ) (got : Option BodyValue) (fits : Fits layout old s) where
  abbrev Then : ScrubAt → Type 0
  Then x = ShowsAt s.lines.spare (bare_at x) found got × ((after : Scrub) (turn : Turn) → FollowsAt layout (bare s) (bare_at x) found got after turn → Fits layout new after)

  base-on : IsOnTurn new s.who → Base layout new s.who s.first s.last s.before.value
  base-on on = record { on_turn = on; sound = fits.sound; frames = fits.frames; banks = fits.banks }

  -- a look at a word, which marks and lists nothing
  module _ {place : SharedWord} (e : Some (steps.Load place) ≡ Some step) (made : Steps layout s.who step None old new found got) (marks : new.marks ≡ old.marks) (hand : hand_of old ≡ empty → hand_of new ≡ empty) where
    look : Steps layout s.who (steps.Load place) None old new found got
    look = steps-planned e made

    base : Base layout new s.who s.first s.last s.before.value
    base = base-on (on-turn-after fits.on_turn made)

    rests : IsAtRest old → IsAtRest new
    rests rest = record { hand_is = hand rest.hand_is; paid = losses-same tt look ∙ rest.paid }

    stay : Stay s.who old new
    stay = quiet-stay look marks (deeds-same s.who tt look)

    visited-on : {n : ℕ} {visits : List Visit} → HasVisited layout old s.who s.first s.before.value n visits → HasVisited layout new s.who s.first s.before.value n visits
    visited-on {n} {visits} has = record {
      visited = visits-stay layout s.who stay (λ at_place word saw. saw-stays made saw) s.first.0 s.before.value visits has.visited;
      next_is = has.next_is;
      halts_none = has.halts_none;
      only = subst (EachMember (λ (m : Made). is_failure m.entry.what ≡ true)) (sym (deeds-same s.who tt look)) has.only;
    }

    saw-lowest : (line : Option ℕ) → IsLowest found line → SawLowest new s.who place line
    saw-lowest line lowest = record { word = found; saw = saw-load look; lowest = lowest }

    unbegun-on : IsUnbegun old s → IsUnbegun new s
    unbegun-on has = record { rest = rests has.rest; told_none = has.told_none; banks_are = has.banks_are; made = deeds-same s.who tt look ∙ has.made }

    before-on : {n : ℕ} → IsBefore layout old s n → IsBefore layout new s n
    before-on has = record { rest = rests has.rest; visits = has.visits; visited = visited-on has.visited; told_is = has.told_is; banks_are = has.banks_are }

    halfway-on : {frame : Frame} → IsHalfway layout old s frame false → IsHalfway layout new s frame false
    halfway-on {frame} has = record {
      rest = rests has.rest;
      visits = has.visits;
      visited = visited-on has.visited;
      inside = has.inside;
      bad = has.bad;
      found = bad-stays layout s.who stay (λ at_place word saw. saw-stays made saw) frame (left_by s.before.value has.visits) has.bad has.found;
      told_is = has.told_is;
      banks_are = has.banks_are;
      halts_is = has.halts_is;
      stops = tt;
    }

  stop-loaded : IsUnbegun old s → Some (steps.Load places.Stop) ≡ Some step → Steps layout s.who step None old new found got → (b : Bool) → is_stopped found ≡ b → Fits layout new (record s { at = cond b (at.Over (Some answers.Stopped)) (at.LoadBad s.first) })
  stop-loaded has e made = which
    where
      marks : new.marks ≡ old.marks
      marks = ap (λ (v : View). v.marks) (steps-planned e made).told.next

      now : IsUnbegun new s
      now = unbegun-on e made marks (hand-planned made e) has

      which : (b : Bool) → is_stopped found ≡ b → Fits layout new (record s { at = cond b (at.Over (Some answers.Stopped)) (at.LoadBad s.first) })
      which true stopped = fits-of (record s { at = at.Over (Some answers.Stopped) }) (base e made marks (hand-planned made e)) (inl (
        record { rest = now.rest; told_none = now.told_none; banks_are = now.banks_are; made = now.made },
        record { word = found; stopped = stopped; saw = saw-load (steps-planned e made) },
      ))
      which false goes = fits-of (record s { at = at.LoadBad s.first }) (base e made marks (hand-planned made e)) (
        record {
          rest = now.rest;
          visits = [];
          visited = record { visited = tt; next_is = omega arith; halts_none = refl; only = subst (EachMember (λ (m : Made). is_failure m.entry.what ≡ true)) (sym now.made) (λ i m there. absurd (none-some m there)) };
          told_is = now.told_none;
          banks_are = now.banks_are;
        },
        fits.frames.rising,
      )

  bad-loaded : (frame : Frame) → IsBefore layout old s frame.0 → frame.0 ≤ s.last.0 → Some (steps.Load (places.Bad frame)) ≡ Some step → Steps layout s.who step None old new found got → (after : Scrub) → AfterBad layout s frame found after → Fits layout new after
  bad-loaded frame has inside e made after (line, lowest, next) = which line (saw-lowest e made marks (hand-planned made e) line lowest) next
    where
      marks : new.marks ≡ old.marks
      marks = ap (λ (v : View). v.marks) (steps-planned e made).told.next

      now : IsBefore layout new s frame.0
      now = before-on e made marks (hand-planned made e) has

      which : (o : Option ℕ) → SawLowest new s.who (places.Bad frame) o → AfterBadBy layout s frame o after → Fits layout new after
      which None saw next = subst (Fits layout new) (sym next) (fits-of (record s { at = at.LoadWeak frame }) (base e made marks (hand-planned made e)) (record {
        rest = now.rest;
        visits = now.visits;
        visited = now.visited;
        inside = inside;
        bad = record { line = None; lines = [] };
        found = record { saw = saw; met = refl };
        told_is = now.told_is ∙ sym (append-nil (lines_of now.visits));
        banks_are = now.banks_are;
        halts_is = refl;
        stops = tt;
      }))
      which (Some n) saw next = check-fits (base e made marks (hand-planned made e)) now inside n saw after next

  weak-loaded : (frame : Frame) → IsHalfway layout old s frame false → Some (steps.Load (places.Weak frame)) ≡ Some step → Steps layout s.who step None old new found got → (after : Scrub) → AfterWeak s frame found after → Fits layout new after
  weak-loaded frame has e made after (line, lowest, next) = weak-fits (base e made marks (hand-planned made e)) (halfway-on e made marks (hand-planned made e) has) line (saw-lowest e made marks (hand-planned made e) line lowest) after next
    where
      marks : new.marks ≡ old.marks
      marks = ap (λ (v : View). v.marks) (steps-planned e made).told.next

  -- a step of the machine check
  module _ (frame : Frame) (h : Handler) (has : HasHandler layout old s frame h) (inside : frame.0 ≤ s.last.0) (e : handlers.plan h ≡ Some step) (made : Steps layout s.who step (logs (handlers.put h)) old new found got) where
    handler-own : Steps layout h.who step (logs (handlers.put h)) old new found got
    handler-own = subst (λ (w : Who). Steps layout w step (logs (handlers.put h)) old new found got) (sym has.own) made

    handler-goes : (after : Handler) (turn : Turn) → handlers.Follows layout (handlers.bare h) found got after turn → HasHandler layout new (bare s) frame after
    handler-goes after turn next =
        let left = handler-kept layout (handlers.bare h) found got after turn next in
        let added : handler_done.Adds old new h after = handler-adds layout old new h step found got has.handler e handler-own after turn next in
        let stays : Stay s.who old new = subst (λ (w : Who). Stay w old new) has.own (fail-stay handler-own added.marked added.failed) in record {
          visits = has.visits;
          visited = record {
            visited = visits-stay layout s.who stays (λ place word saw. saw-stays made saw) s.first.0 s.before.value has.visits has.visited.visited;
            next_is = has.visited.next_is;
            halts_none = has.visited.halts_none;
            only = only-failed-stays s.who old new (subst (λ (w : Who). AddsFailure w old new (handler_done.failed_now h) (handler_done.failed_now after)) has.own added.failed) has.visited.only;
          };
          told_is = has.told_is;
          line = has.line;
          saw = record { word = has.saw.word; saw = saw-stays made has.saw.saw; lowest = has.saw.lowest };
          handler = ((handler-stays layout old new h step found got has.handler e handler-own).1 after turn next).0;
          own = left.who ∙ has.own;
          thread_is = left.thread ∙ has.thread_is;
          stops_is = left.stops ∙ has.stops_is;
          events = left.events ∙ has.events;
          room = has.room;
          emptied = has.emptied;
        }

    handler-moved : Then (at.Handle frame h)
    handler-moved = (
      shows-within h s.lines.spare found got has.handler.found has.room (handler-stays layout old new h step found got has.handler e handler-own).0,
      λ after turn next. subst (Fits layout new) (sym next.next_is) (after-handler-fits {s = bare s} (base-on (on-turn-after fits.on_turn made)) inside (handler-goes next.handler turn next.follows)),
    )

  gives-up : hand_of old ≡ empty → Some steps.GiveUp ≡ Some step → Steps layout s.who step None old new found got → Fits layout new (record s { at = at.Over None })
  gives-up hand e made = fits-of (record s { at = at.Over None }) (base-on (on-turn-after fits.on_turn made)) (hand-planned made e hand)

both : (layout : Layout) (old new : View) (s : Scrub) (step : Step) (found : ℕ) (got : Option BodyValue) → Fits layout old s → plan s ≡ Some step → Steps layout s.who step (logs (put s)) old new found got
    → Shows (bare s) found got × ((after : Scrub) (turn : Turn) → Follows layout (bare s) found got after turn → Fits layout new after)
both layout old new s step found got fits is made = which s.at refl fits.at is made
  where
    -- a state that gives no body is itself without it
    same : (x : ScrubAt) → s.at ≡ x → bare_at x ≡ x → bare s ≡ s
    same x at_is plain = ap (λ (y : ScrubAt). record s { at = y }) (ap bare_at at_is ∙ plain ∙ sym at_is)

    which : (x : ScrubAt) → s.at ≡ x → FitsAt layout old s x → plan_at x ≡ Some step → Steps layout s.who step (logs (put_at x)) old new found got → Then layout old new s step found got fits x
    which at.LoadStop at_is has e made = (tt, λ after turn next. subst (Fits layout new) (sym next.0) (stop-loaded layout old new s step found got fits has e made (is_stopped found) refl))
    which (at.LoadBad frame) at_is has e made =
        (tt, λ after turn next. bad-loaded layout old new s step found got fits frame has.0 has.1 e made after (subst (λ (x : Scrub). AfterBad layout x frame found after) (same (at.LoadBad frame) at_is refl) next.0))
    which (at.Handle frame h) at_is has e made = handler-moved layout old new s step found got fits frame h has.0 has.1 e made
    which (at.LoadWeak frame) at_is has e made =
        (tt, λ after turn next. weak-loaded layout old new s step found got fits frame has e made after (subst (λ (x : Scrub). AfterWeak x frame found after) (same (at.LoadWeak frame) at_is refl) next.0))
    which at.GiveUp at_is has e made = (tt, λ after turn next. subst (Fits layout new) (sym next.0) (gives-up layout old new s step found got fits has e made))
    which (at.Over answer) at_is has e made = absurd (none-some step e)

-- ---- it stays of its command

own-handler : (s : Scrub) (frame : Frame) (h : Handler) → (after_handler s frame h).who ≡ s.who
own-handler s frame h = which h.at
  where
    which : (x : HandlerAt) → (after_handler_by s frame h (handlers.answer_at x)).who ≡ s.who
    which handler_at.Stop = refl
    which (handler_at.Fail f) = refl
    which handler_at.GaveUp = refl
    which (handler_at.Over stopped) = refl

own-bad : (layout : Layout) (s : Scrub) (frame : Frame) (line : Option ℕ) (after : Scrub) → AfterBadBy layout s frame line after → after.who ≡ s.who
own-bad layout s frame None after next = ap (λ (x : Scrub). x.who) next
own-bad layout s frame (Some line) after (inl refused) = ap (λ (x : Scrub). x.who) refused
own-bad layout s frame (Some line) after (inr (spare, room, is)) = ap (λ (x : Scrub). x.who) is ∙ own-handler (emptied s spare) frame (handler_of layout s frame line)

own-weak : (s : Scrub) (frame : Frame) (line : Option ℕ) (after : Scrub) → AfterWeakBy s frame line after → after.who ≡ s.who
own-weak s frame None after next = ap (λ (x : Scrub). x.who) next
own-weak s frame (Some line) after (inl refused) = ap (λ (x : Scrub). x.who) refused
own-weak s frame (Some line) after (inr (spare, room, is)) = ap (λ (x : Scrub). x.who) is

pub own-after : (layout : Layout) (s : Scrub) (found : ℕ) (got : Option BodyValue) (after : Scrub) (turn : Turn) → Follows layout s found got after turn → after.who ≡ s.who
own-after layout s found got after turn follows = which s.at follows
  where
    which : (x : ScrubAt) → FollowsAt layout s x found got after turn → after.who ≡ s.who
    which at.LoadStop next = ap (λ (x : Scrub). x.who) next.0
    which (at.LoadBad frame) next = own-bad layout s frame next.0.0 after next.0.2
    which (at.Handle frame h) next = ap (λ (x : Scrub). x.who) next.next_is ∙ own-handler s frame next.handler
    which (at.LoadWeak frame) next = own-weak s frame next.0.0 after next.0.2
    which at.GiveUp next = ap (λ (x : Scrub). x.who) next.0
    which (at.Over answer) next = ap (λ (x : Scrub). x.who) next.0

pub stays : (layout : Layout) (old new : View) (s : Scrub) (step : Step) (found : ℕ) (got : Option BodyValue) → Fits layout old s → plan s ≡ Some step → Steps layout s.who step (logs (put s)) old new found got
    → Shows (bare s) found got × ((after : Scrub) (turn : Turn) → Follows layout (bare s) found got after turn → Fits layout new after × (after.who.cpu ≡ s.who.cpu))
stays layout old new s step found got fits is made =
    let all = both layout old new s step found got fits is made in (all.0, λ after turn follows. (all.1 after turn follows, ap (λ (w : Who). w.cpu) (own-after layout (bare s) found got after turn follows)))

-- ---- before it

-- it fits at its beginning, where its processor holds and owes nothing, and its command has made nothing
pub begins : (layout : Layout) (view : View) (s : Scrub) → s ≡ begin s.alloc s.who s.first s.last s.banks → IsOnTurn view s.who → IsSound layout → AreFrames layout s.first s.last → AreBanks s.banks → IsAtRest view → HasMadeNone view s.who → Fits layout view s
begins layout view s is on sound frames banks rest none = subst (Fits layout view) (sym is)
    (record { on_turn = on; sound = sound; frames = frames; banks = banks; at = record { rest = rest; told_none = refl; banks_are = refl; made = none } })
