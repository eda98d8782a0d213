-- Each part of the frame rule, and each group of parts, stays where the step changes nothing that it reads of the seat's view.
use Rattle.std.proofs.Common.{◌≡◌, ℕ, Bool, List, Some, map, set, slice_get, sym, subst}
use Rattle.hwp_page.specs.hwp_geom.declared.Who.{Who}
use Rattle.hwp_core_rule.specs.declared.view.FrameLock.{FrameLock}
use Rattle.hwp_core_rule.specs.declared.view.InHand.{InHand}
use Rattle.hwp_core_rule.specs.declared.view.Length.{Length}
use Rattle.hwp_core_rule.specs.declared.view.Spoiled.{Spoiled}
use Rattle.hwp_core_rule.specs.declared.view.Made.{Made}
use Rattle.hwp_core_rule.specs.declared.view.Mark.{Mark}
use Rattle.hwp_core_rule.specs.declared.view.Part.{Part}
use Rattle.hwp_core_rule.specs.declared.view.Setting.{Setting}
use Rattle.hwp_core_rule.specs.declared.view.Sight.{Sight}
use Rattle.hwp_page.specs.hwp_geom.declared.Layout.{Layout}
use Rattle.hwp_page.specs.hwp_geom.declared.ThreadDecl.{ThreadDecl}
use Rattle.hwp_core_rule.specs.declared.view.View.{View}
use Rattle.hwp_core_rule.specs.Lists.{Homes, EachMember}
use Rattle.hwp_core_rule.specs.parts.Counts.{CountsBalance}
use Rattle.hwp_core_rule.specs.parts.Places.{HasOnePlace}
use Rattle.hwp_core_rule.specs.parts.Locks.{FrameLocksHeld, PageLocksHeld}
use Rattle.hwp_core_rule.specs.parts.Owners.{CacheWordsOwned}
use Rattle.hwp_core_rule.specs.parts.Bodies.{BodiesAtHome}
use Rattle.hwp_core_rule.specs.parts.Counter.{CounterAgrees, CountDebts}
use Rattle.hwp_core_rule.specs.parts.Free.{FreeBitsAgree}
use Rattle.hwp_core_rule.specs.parts.Damage.{DamageListed}
use Rattle.hwp_core_rule.specs.parts.Entries.{EntriesListed}
use Rattle.hwp_core_rule.specs.parts.Endings.{EndingsAgree}
use Rattle.hwp_core_rule.specs.parts.Marks.{MarksAlternate}
use Rattle.hwp_core_rule.specs.parts.Holdings.{Holdings, HoldingsBounded, ProcessorsApart, CommandsOwn, AreOwn, IsPast, IsBounded}
use Rattle.hwp_core_rule.specs.parts.Losses.{Losing, LossesBalance}
use Rattle.hwp_core_rule.specs.parts.Policies.{PoliciesListed}
use Rattle.hwp_core_rule.specs.parts.Exhaustion.{ExhaustionExplained}
use Rattle.hwp_core_rule.specs.parts.Stops.{EndingsAndStopsStay}
use Rattle.hwp_core_rule.specs.parts.Fits.{PageFits}
use Rattle.hwp_core_rule.specs.Rule.{holder_of, holdings_of, losing_of, FrameParts, PageParts, HistoryParts, FailureParts, ProcessorParts, count_debts_of}
use Rattle.hwp_core_rule.proofs.Lists.{keep, each-set, change}

-- what each group of parts reads of a view
abbrev frames_read : View → Holdings × List FrameLock
frames_read v = (holdings_of v, v.locks)

abbrev histories_read : View → List InHand × List Sight × List Length × Losing
histories_read v = (v.bodies, v.sights, v.lengths, losing_of v)

abbrev failures_read : View → CountDebts × List Spoiled × List Sight × List InHand
failures_read v = (count_debts_of v, v.spoiled, v.sights, v.bodies)

abbrev pub Lists : Type 0
Lists = List Part × List Made × List Mark × List Sight × List Length × List Setting × List Who

abbrev pub lists_read : View → Lists
lists_read v = (v.parts, v.made, v.marks, v.sights, v.lengths, v.settings, v.stops)

abbrev processors_read : View → List InHand × List Part × List Made × List Mark × List Sight × List Length × List Setting × List Who
processors_read v = (v.bodies, v.parts, v.made, v.marks, v.sights, v.lengths, v.settings, v.stops)

-- the view v of a seat becomes u
module _ (views : List View) (seat : ℕ) (v u : View) (me : slice_get views seat ≡ Some v) where
  pub kept-counts : {frames trans caches : List ℕ} → (u.refs) ≡ (v.refs) → CountsBalance frames trans caches (map (λ (v : View). v.refs) views) → CountsBalance frames trans caches (map (λ (v : View). v.refs) (set views seat u))
  kept-counts {frames} {trans} {caches} e0 h = keep (λ (v : View). v.refs) (CountsBalance frames trans caches) views seat v u me e0 (h)

  pub kept-places : {kernel : List Bool} {frames frees : List ℕ} → (u.hands) ≡ (v.hands) → HasOnePlace kernel frames frees (map (λ (v : View). v.hands) views) → HasOnePlace kernel frames frees (map (λ (v : View). v.hands) (set views seat u))
  kept-places {kernel} {frames} {frees} e0 h = keep (λ (v : View). v.hands) (HasOnePlace kernel frames frees) views seat v u me e0 (h)

  pub kept-frame-locks : {frames : List ℕ} → u.refs ≡ v.refs → u.locks ≡ v.locks → FrameLocksHeld frames (map (λ (v : View). (v.refs, v.locks)) views) → FrameLocksHeld frames (map (λ (v : View). (v.refs, v.locks)) (set views seat u))
  kept-frame-locks {frames} e0a e0b h = keep (λ (v : View). (v.refs, v.locks)) (FrameLocksHeld frames) views seat v u me (λ i. (e0a i, e0b i)) (h)

  pub kept-caches : {frames caches : List ℕ} → u.locks ≡ v.locks → u.pages ≡ v.pages → CacheWordsOwned frames caches (map (λ (v : View). (v.locks, v.pages)) views) → CacheWordsOwned frames caches (map (λ (v : View). (v.locks, v.pages)) (set views seat u))
  kept-caches {frames} {caches} e0a e0b h = keep (λ (v : View). (v.locks, v.pages)) (CacheWordsOwned frames caches) views seat v u me (λ i. (e0a i, e0b i)) (h)

  pub kept-bodies : {layout : Layout} {frames caches pages : List ℕ} {homes : Homes} → (holder_of u) ≡ (holder_of v) → BodiesAtHome layout frames caches pages homes (map (λ (v : View). holder_of v) views) → BodiesAtHome layout frames caches pages homes (map (λ (v : View). holder_of v) (set views seat u))
  kept-bodies {layout} {frames} {caches} {pages} {homes} e0 h = keep (λ (v : View). holder_of v) (BodiesAtHome layout frames caches pages homes) views seat v u me e0 (h)

  pub kept-free : {count : ℕ} {frees : List ℕ} {available : ℕ} → (u.reserved) ≡ (v.reserved) → FreeBitsAgree count frees available (map (λ (v : View). v.reserved) views) → FreeBitsAgree count frees available (map (λ (v : View). v.reserved) (set views seat u))
  kept-free {count} {frees} {available} e0 h = keep (λ (v : View). v.reserved) (FreeBitsAgree count frees available) views seat v u me e0 (h)

  pub kept-holdings : {layout : Layout} → (holdings_of u) ≡ (holdings_of v) → HoldingsBounded layout (map (λ (v : View). holdings_of v) views) → HoldingsBounded layout (map (λ (v : View). holdings_of v) (set views seat u))
  kept-holdings {layout} e0 h = keep (λ (v : View). holdings_of v) (HoldingsBounded layout) views seat v u me e0 (h)

  pub kept-fits : {layout : Layout} {trans caches : List ℕ} {homes : Homes} → u.pages ≡ v.pages → u.bodies ≡ v.bodies → PageFits layout trans caches homes (map (λ (v : View). (v.pages, v.bodies)) views) → PageFits layout trans caches homes (map (λ (v : View). (v.pages, v.bodies)) (set views seat u))
  kept-fits {layout} {trans} {caches} {homes} e0a e0b h = keep (λ (v : View). (v.pages, v.bodies)) (PageFits layout trans caches homes) views seat v u me (λ i. (e0a i, e0b i)) (h)

  pub kept-processors : {layout : Layout} → (u.parts) ≡ (v.parts) → ProcessorsApart layout (map (λ (v : View). v.parts) views) → ProcessorsApart layout (map (λ (v : View). v.parts) (set views seat u))
  kept-processors {layout} e0 h = keep (λ (v : View). v.parts) (ProcessorsApart layout) views seat v u me e0 (h)

  pub kept-page-locks : {pages : List ℕ} → (u.pages) ≡ (v.pages) → (u.locks) ≡ (v.locks) → PageLocksHeld pages (map (λ (v : View). v.pages) views) (map (λ (v : View). v.locks) views) → PageLocksHeld pages (map (λ (v : View). v.pages) (set views seat u)) (map (λ (v : View). v.locks) (set views seat u))
  kept-page-locks {pages} e0 e1 h = keep (λ (v : View). v.locks) (λ l. PageLocksHeld pages (map (λ (v : View). v.pages) (set views seat u)) l) views seat v u me e1 (keep (λ (v : View). v.pages) (λ l. PageLocksHeld pages l (map (λ (v : View). v.locks) views)) views seat v u me e0 (h))

  pub kept-counter : {frames : List ℕ} {counter : ℕ} → count_debts_of u ≡ count_debts_of v → (u.sights) ≡ (v.sights) → CounterAgrees frames counter (map count_debts_of views) (map (λ (v : View). v.sights) views) → CounterAgrees frames counter (map count_debts_of (set views seat u)) (map (λ (v : View). v.sights) (set views seat u))
  kept-counter {frames} {counter} e0 e1 h = keep (λ (v : View). v.sights) (λ l. CounterAgrees frames counter (map count_debts_of (set views seat u)) l) views seat v u me e1 (keep count_debts_of (λ l. CounterAgrees frames counter l (map (λ (v : View). v.sights) views)) views seat v u me e0 (h))

  pub kept-damage : {bads weaks : List ℕ} → (u.spoiled) ≡ (v.spoiled) → (u.sights) ≡ (v.sights) → DamageListed bads weaks (map (λ (v : View). v.spoiled) views) (map (λ (v : View). v.sights) views) → DamageListed bads weaks (map (λ (v : View). v.spoiled) (set views seat u)) (map (λ (v : View). v.sights) (set views seat u))
  kept-damage {bads} {weaks} e0 e1 h = keep (λ (v : View). v.sights) (λ l. DamageListed bads weaks (map (λ (v : View). v.spoiled) (set views seat u)) l) views seat v u me e1 (keep (λ (v : View). v.spoiled) (λ l. DamageListed bads weaks l (map (λ (v : View). v.sights) views)) views seat v u me e0 (h))

  pub kept-entries : {homes : Homes} → (u.bodies) ≡ (v.bodies) → u.made ≡ v.made → u.sights ≡ v.sights → (u.lengths) ≡ (v.lengths) → EntriesListed homes (map (λ (v : View). v.bodies) views) (map (λ (v : View). (v.made, v.sights)) views) (map (λ (v : View). v.lengths) views) → EntriesListed homes (map (λ (v : View). v.bodies) (set views seat u)) (map (λ (v : View). (v.made, v.sights)) (set views seat u)) (map (λ (v : View). v.lengths) (set views seat u))
  kept-entries {homes} e0 e1a e1b e2 h = keep (λ (v : View). v.lengths) (λ l. EntriesListed homes (map (λ (v : View). v.bodies) (set views seat u)) (map (λ (v : View). (v.made, v.sights)) (set views seat u)) l) views seat v u me e2 (keep (λ (v : View). (v.made, v.sights)) (λ l. EntriesListed homes (map (λ (v : View). v.bodies) (set views seat u)) l (map (λ (v : View). v.lengths) views)) views seat v u me (λ i. (e1a i, e1b i)) (keep (λ (v : View). v.bodies) (λ l. EntriesListed homes l (map (λ (v : View). (v.made, v.sights)) views) (map (λ (v : View). v.lengths) views)) views seat v u me e0 (h)))

  pub kept-endings : {layout : Layout} {processes : List ℕ} {homes : Homes} → (u.bodies) ≡ (v.bodies) → (u.sights) ≡ (v.sights) → EndingsAgree layout processes homes (map (λ (v : View). v.bodies) views) (map (λ (v : View). v.sights) views) → EndingsAgree layout processes homes (map (λ (v : View). v.bodies) (set views seat u)) (map (λ (v : View). v.sights) (set views seat u))
  kept-endings {layout} {processes} {homes} e0 e1 h = keep (λ (v : View). v.sights) (λ l. EndingsAgree layout processes homes (map (λ (v : View). v.bodies) (set views seat u)) l) views seat v u me e1 (keep (λ (v : View). v.bodies) (λ l. EndingsAgree layout processes homes l (map (λ (v : View). v.sights) views)) views seat v u me e0 (h))

  pub kept-marks : {frames : List ℕ} → (u.marks) ≡ (v.marks) → (u.sights) ≡ (v.sights) → MarksAlternate frames (map (λ (v : View). v.marks) views) (map (λ (v : View). v.sights) views) → MarksAlternate frames (map (λ (v : View). v.marks) (set views seat u)) (map (λ (v : View). v.sights) (set views seat u))
  kept-marks {frames} e0 e1 h = keep (λ (v : View). v.sights) (λ l. MarksAlternate frames (map (λ (v : View). v.marks) (set views seat u)) l) views seat v u me e1 (keep (λ (v : View). v.marks) (λ l. MarksAlternate frames l (map (λ (v : View). v.sights) views)) views seat v u me e0 (h))

  pub kept-losses : {layout : Layout} {losses : List ℕ} {homes : Homes} → (u.bodies) ≡ (v.bodies) → (losing_of u) ≡ (losing_of v) → (u.sights) ≡ (v.sights) → LossesBalance layout losses homes (map (λ (v : View). v.bodies) views) (map losing_of views) (map (λ (v : View). v.sights) views) → LossesBalance layout losses homes (map (λ (v : View). v.bodies) (set views seat u)) (map losing_of (set views seat u)) (map (λ (v : View). v.sights) (set views seat u))
  kept-losses {layout} {losses} {homes} e0 e1 e2 h = keep (λ (v : View). v.sights) (λ l. LossesBalance layout losses homes (map (λ (v : View). v.bodies) (set views seat u)) (map losing_of (set views seat u)) l) views seat v u me e2 (keep losing_of (λ l. LossesBalance layout losses homes (map (λ (v : View). v.bodies) (set views seat u)) l (map (λ (v : View). v.sights) views)) views seat v u me e1 (keep (λ (v : View). v.bodies) (λ l. LossesBalance layout losses homes l (map losing_of views) (map (λ (v : View). v.sights) views)) views seat v u me e0 (h)))

  pub kept-policies : {threads : List ThreadDecl} {policies : List ℕ} → u.parts ≡ v.parts → u.settings ≡ v.settings → (u.sights) ≡ (v.sights) → PoliciesListed threads policies (map (λ (v : View). (v.parts, v.settings)) views) (map (λ (v : View). v.sights) views) → PoliciesListed threads policies (map (λ (v : View). (v.parts, v.settings)) (set views seat u)) (map (λ (v : View). v.sights) (set views seat u))
  kept-policies {threads} {policies} e0a e0b e1 h = keep (λ (v : View). v.sights) (λ l. PoliciesListed threads policies (map (λ (v : View). (v.parts, v.settings)) (set views seat u)) l) views seat v u me e1 (keep (λ (v : View). (v.parts, v.settings)) (λ l. PoliciesListed threads policies l (map (λ (v : View). v.sights) views)) views seat v u me (λ i. (e0a i, e0b i)) (h))

  pub kept-exhaustion : {layout : Layout} → (u.marks) ≡ (v.marks) → (u.sights) ≡ (v.sights) → ExhaustionExplained layout (map (λ (v : View). v.marks) views) (map (λ (v : View). v.sights) views) → ExhaustionExplained layout (map (λ (v : View). v.marks) (set views seat u)) (map (λ (v : View). v.sights) (set views seat u))
  kept-exhaustion {layout} e0 e1 h = keep (λ (v : View). v.sights) (λ l. ExhaustionExplained layout (map (λ (v : View). v.marks) (set views seat u)) l) views seat v u me e1 (keep (λ (v : View). v.marks) (λ l. ExhaustionExplained layout l (map (λ (v : View). v.sights) views)) views seat v u me e0 (h))

  pub kept-stops : {processes : List ℕ} {stop : ℕ} → (u.bodies) ≡ (v.bodies) → (u.sights) ≡ (v.sights) → (u.stops) ≡ (v.stops) → EndingsAndStopsStay processes stop (map (λ (v : View). v.bodies) views) (map (λ (v : View). v.sights) views) (map (λ (v : View). v.stops) views) → EndingsAndStopsStay processes stop (map (λ (v : View). v.bodies) (set views seat u)) (map (λ (v : View). v.sights) (set views seat u)) (map (λ (v : View). v.stops) (set views seat u))
  kept-stops {processes} {stop} e0 e1 e2 h = keep (λ (v : View). v.stops) (λ l. EndingsAndStopsStay processes stop (map (λ (v : View). v.bodies) (set views seat u)) (map (λ (v : View). v.sights) (set views seat u)) l) views seat v u me e2 (keep (λ (v : View). v.sights) (λ l. EndingsAndStopsStay processes stop (map (λ (v : View). v.bodies) (set views seat u)) l (map (λ (v : View). v.stops) views)) views seat v u me e1 (keep (λ (v : View). v.bodies) (λ l. EndingsAndStopsStay processes stop l (map (λ (v : View). v.sights) views) (map (λ (v : View). v.stops) views)) views seat v u me e0 (h)))

  pub kept-bounded : {layout : Layout} → IsBounded layout (holdings_of u) → HoldingsBounded layout (map holdings_of views) → HoldingsBounded layout (map holdings_of (set views seat u))
  kept-bounded {layout} bounded h = change holdings_of (HoldingsBounded layout) views seat u (record { bounded = each-set (IsBounded layout) (map holdings_of views) seat (holdings_of u) bounded h.bounded })

  pub kept-commands : AreOwn u → CommandsOwn views → CommandsOwn (set views seat u)
  kept-commands own h = record { own = each-set AreOwn views seat u own h.own }

  -- the same of all parts of a group
  pub same-frames : {layout : Layout} {frames trans caches frees : List ℕ} {available : ℕ} → frames_read u ≡ frames_read v
      → FrameParts layout frames trans caches frees available views → FrameParts layout frames trans caches frees available (set views seat u)
  same-frames e h = record {
    counts = kept-counts (λ i. (e i).0.refs) h.counts;
    places = kept-places (λ i. (e i).0.hands) h.places;
    frame_locks = kept-frame-locks (λ i. (e i).0.refs) (λ i. (e i).1) h.frame_locks;
    free = kept-free (λ i. (e i).0.reserved) h.free;
    holdings = kept-holdings (λ i. (e i).0) h.holdings;
  }

  pub same-pages : {layout : Layout} {frames trans caches pages : List ℕ} {homes : Homes} → holder_of u ≡ holder_of v
      → PageParts layout frames trans caches pages homes views → PageParts layout frames trans caches pages homes (set views seat u)
  same-pages e h = record {
    page_locks = kept-page-locks (λ i. (e i).pages) (λ i. (e i).locks) h.page_locks;
    translations = h.translations;
    caches = kept-caches (λ i. (e i).locks) (λ i. (e i).pages) h.caches;
    bodies = kept-bodies e h.bodies;
    fits = kept-fits (λ i. (e i).pages) (λ i. (e i).bodies) h.fits;
  }

  pub same-histories : {layout : Layout} {processes losses : List ℕ} {homes : Homes} → histories_read u ≡ histories_read v
      → HistoryParts layout processes losses homes views → HistoryParts layout processes losses homes (set views seat u)
  same-histories e h = record {
    entries = kept-entries (λ i. (e i).0) (λ i. (e i).3.made) (λ i. (e i).1) (λ i. (e i).2) h.entries;
    endings = kept-endings (λ i. (e i).0) (λ i. (e i).1) h.endings;
    losses = kept-losses (λ i. (e i).0) (λ i. (e i).3) (λ i. (e i).1) h.losses;
  }

  pub same-failures : {layout : Layout} {frames : List ℕ} {counter : ℕ} {bads weaks : List ℕ} {homes : Homes} → failures_read u ≡ failures_read v
      → FailureParts layout frames counter bads weaks homes views → FailureParts layout frames counter bads weaks homes (set views seat u)
  same-failures e h = record {
    handled = h.handled;
    counter = kept-counter (λ i. (e i).0) (λ i. (e i).2) h.counter;
    damage = kept-damage (λ i. (e i).1) (λ i. (e i).2) h.damage;
    marks = kept-marks (λ i. (e i).0.marks) (λ i. (e i).2) h.marks;
    exhaustion = kept-exhaustion (λ i. (e i).0.marks) (λ i. (e i).2) h.exhaustion;
  }

  -- what a view lists that its processors did
  pub own-same : lists_read u ≡ lists_read v → AreOwn v → AreOwn u
  own-same e own = record {
    made = subst (λ (r : Lists). EachMember (λ (m : Made). IsPast r.0 m.entry.who) r.1) (sym e) own.made;
    marks = subst (λ (r : Lists). EachMember (λ (m : Mark). IsPast r.0 m.stamp.who) r.2) (sym e) own.marks;
    sights = subst (λ (r : Lists). EachMember (λ (s : Sight). IsPast r.0 s.stamp.who) r.3) (sym e) own.sights;
    lengths = subst (λ (r : Lists). EachMember (λ (l : Length). IsPast r.0 l.stamp.who) r.4) (sym e) own.lengths;
    settings = subst (λ (r : Lists). EachMember (λ (s : Setting). IsPast r.0 s.stamp.who) r.5) (sym e) own.settings;
    stops = subst (λ (r : Lists). EachMember (IsPast r.0) r.6) (sym e) own.stops;
  }

  pub same-processors : {layout : Layout} {processes policies : List ℕ} {stop : ℕ}
      → processors_read u ≡ processors_read v
      → ProcessorParts layout processes policies stop views → ProcessorParts layout processes policies stop (set views seat u)
  same-processors e h = record {
    policies = kept-policies (λ i. (e i).1) (λ i. (e i).6) (λ i. (e i).4) h.policies;
    stops = kept-stops (λ i. (e i).0) (λ i. (e i).4) (λ i. (e i).7) h.stops;
    processors = kept-processors (λ i. (e i).1) h.processors;
    commands = kept-commands (own-same (λ i. ((e i).1, (e i).2, (e i).3, (e i).4, (e i).5, (e i).6, (e i).7)) (h.commands.own seat v me)) h.commands;
  }
