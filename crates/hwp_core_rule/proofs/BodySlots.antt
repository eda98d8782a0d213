-- A seat takes a body in hand, or puts one home, or has a slot that is empty: the parts of the frame rule that read slots and bodies.
use Rattle.std.proofs.Common.{◌≡◌, ◌≢◌, ℕ, ◌+◌, ◌<◌, ◌≤◌, ◌==◌, true, false, List, [], ◌∷◌, ◌++◌, Option, Some, None, map, set, take, length, slice_get, append-nil, inl, inr, refl, sym, ap, ◌∙◌, subst, arith}
use Rattle.std.proofs.Math.Seq.{take-length}
use Rattle.std.proofs.lemmas.List.{map-set}
use Rattle.std.proofs.lemmas.Option.{none-some, same_Some}
use Rattle.std.specs.Int.{from_bool}
use Rattle.std.specs.List.{sum_by}
use Rattle.hwp_page.specs.hwp_geom.declared.Frame.{Frame}
use Rattle.hwp_page.specs.hwp_geom.declared.Layout.{Layout}
use Rattle.hwp_page.specs.hwp_geom.declared.Page.{Page}
use Rattle.hwp_page.specs.hwp_geom.declared.Proc.{Proc}
use Rattle.hwp_page.specs.declared.Entry.{Entry}
use Rattle.hwp_page.specs.Endings.{has_ending, is_ending}
use Rattle.hwp_page.specs.Orders.{IsNotLater}
use Rattle.hwp_core_rule.specs.declared.log.Log.{Log}
use Rattle.hwp_core_rule.specs.declared.view.FrameLock.{FrameLock}
use Rattle.hwp_core_rule.specs.declared.view.InHand.{InHand}
use Rattle.hwp_core_rule.specs.declared.view.Length.{Length}
use Rattle.hwp_core_rule.specs.declared.view.PageLock.{PageLock}
use Rattle.hwp_core_rule.specs.declared.view.Stamp.{Stamp}
use Rattle.hwp_core_rule.specs.declared.view.View.{View}
use Rattle.hwp_core_rule.specs.Lists.{Homes, EachBody, EachMember, SomeMember, StartsWith, of_home, sum_all, sum_bodies}
use Rattle.hwp_core_rule.specs.Logs.{losses_of}
use Rattle.hwp_core_rule.specs.Rule.{FrameRule, holder_of, losing_of, HistoryParts, FailureParts, ProcessorParts}
use Rattle.hwp_core_rule.specs.Views.{page_locks_on, without, is_body_of}
use Rattle.hwp_core_rule.specs.Words.{Words}
use Rattle.hwp_core_rule.specs.parts.Bodies.{Holder}
use Rattle.hwp_core_rule.specs.parts.Endings.{EndingsAgree, AreEnded}
use Rattle.hwp_core_rule.specs.parts.Entries.{EntriesListed, AreInOrder, weigh, Reaches}
use Rattle.hwp_core_rule.specs.parts.Fits.{PageFits, Fits, KnowsWords, KnowsOwn}
use Rattle.hwp_core_rule.specs.parts.Holdings.{CommandsOwn, AreOwn, IsPast}
use Rattle.hwp_core_rule.specs.parts.Losses.{LossesBalance}
use Rattle.hwp_core_rule.specs.parts.Stops.{EndingsAndStopsStay}
use Rattle.hwp_core_rule.proofs.Lists.{change, keep, at_map, at_set, same-number, set_again, sum-set, term-le, each-set, each-push, each-weaken, not-both, same-or, terms-le}
use Rattle.hwp_core_rule.proofs.ListDrops.{each-without, others-unfound, sum-without-one}
use Rattle.hwp_core_rule.proofs.EmptySlots.{is_bodiless, bodies-sum, bodies-each}
use Rattle.std.proofs.lemmas.List.Sums.{sum_by_push}
use Rattle.hwp_core_rule.proofs.PartKeeps

module _ (homes : Homes) (bodies : List (List InHand)) (f seat : ℕ) (log : Log) (mine : List InHand) (b : InHand) (there : slice_get homes f ≡ Some (Some (Some log))) (me : slice_get bodies seat ≡ Some mine) (is : b.log ≡ log) where
  sum-taken : (g : Log → ℕ) → sum_bodies g (set homes f None) (set bodies seat (mine ++ b ∷ [])) ≡ sum_bodies g homes bodies
  sum-taken g =
      let out : sum_by (of_home g) (set homes f None) + g log ≡ sum_by (of_home g) homes + 0 = sum-set (of_home g) homes f (Some (Some log)) None there in
      let in_hand : sum_all (λ (b : InHand). g b.log) (set bodies seat (mine ++ b ∷ [])) + sum_by (λ (b : InHand). g b.log) mine ≡ sum_all (λ (b : InHand). g b.log) bodies + sum_by (λ (b : InHand). g b.log) (mine ++ b ∷ []) =
      sum-set (sum_by (λ (b : InHand). g b.log)) bodies seat mine (mine ++ b ∷ []) me in
      let pushed : sum_by (λ (b : InHand). g b.log) (mine ++ b ∷ []) ≡ sum_by (λ (b : InHand). g b.log) mine + g b.log = sum_by_push (λ (b : InHand). g b.log) mine b in
      let same : g b.log ≡ g log = ap g is in
      omega arith

  each-taken : (P : Log → Type 0) → EachBody P homes bodies → EachBody P (set homes f None) (set bodies seat (mine ++ b ∷ []))
  each-taken P each = record {
    at_home = λ i x e. elim (at_set homes f i None (Some (Some x)) e) [
      | inl t ↦ absurd (none-some (Some x) t.1)
      | inr t ↦ each.at_home i x t.1
    ];
    in_hand = each-set (EachMember (λ (b : InHand). P b.log)) bodies seat (mine ++ b ∷ [])
        (each-push (λ (b : InHand). P b.log) mine b (subst P (sym is) (each.at_home f log there)) (each.in_hand seat mine me)) each.in_hand;
  }

-- where all bodies together count one, a second one that counts is no other than the first
only-at-home : (g : Log → ℕ) (homes : Homes) (bodies : List (List InHand)) (f : ℕ) (log : Log) → slice_get homes f ≡ Some (Some (Some log)) → sum_bodies g homes bodies ≡ 1 → g log ≡ 1
    → EachBody (λ (x : Log). g x ≡ 1 → x ≡ log) homes bodies
only-at-home g homes bodies f log there one counts = record {
  at_home = λ i x e is. elim (same-or i f) [
    | inl same ↦
        let equal : Some (Some x) ≡ Some (Some log) = same_Some (Some (Some x)) (Some (Some log)) (sym e ∙ ap (slice_get homes) same ∙ there) in
        same_Some x log (same_Some (Some x) (Some log) equal)
    | inr differs ↦
        let two : g x + g log ≤ sum_by (of_home g) homes = terms-le (of_home g) homes i f (Some (Some x)) (Some (Some log)) differs e there in
        absurd (omega (arith, one, counts, is))
  ];
  in_hand = λ i list at j b e is.
      let home : g log ≤ sum_by (of_home g) homes = term-le (of_home g) homes f (Some (Some log)) there in
      let inner : g b.log ≤ sum_by (λ (b : InHand). g b.log) list = term-le (λ (b : InHand). g b.log) list j b e in
      let outer : sum_by (λ (b : InHand). g b.log) list ≤ sum_all (λ (b : InHand). g b.log) bodies = term-le (sum_by (λ (b : InHand). g b.log)) bodies i list at in
      absurd (omega (arith, one, counts, is));
}

-- the same of one in hand
pub only-in-hand : (g : Log → ℕ) (homes : Homes) (bodies : List (List InHand)) (seat place : ℕ) (mine : List InHand) (body : InHand) → slice_get bodies seat ≡ Some mine → slice_get mine place ≡ Some body
    → sum_bodies g homes bodies ≡ 1 → g body.log ≡ 1 → EachBody (λ (x : Log). g x ≡ 1 → x ≡ body.log) homes bodies
only-in-hand g homes bodies seat place mine body me there one counts = record {
  at_home = λ i x e is.
      let home : g x ≤ sum_by (of_home g) homes = term-le (of_home g) homes i (Some (Some x)) e in
      absurd (omega (arith, one, counts, is, within, all));
  in_hand = λ i list at j b e is.
      let inner : g b.log ≤ sum_by (λ (b : InHand). g b.log) list = term-le (λ (b : InHand). g b.log) list j b e in
      elim (same-or i seat) [
        | inl same ↦
            let list_is : list ≡ mine = same_Some list mine (sym at ∙ ap (slice_get bodies) same ∙ me) in
            let mine_at : slice_get mine j ≡ Some b = ap (λ (l : List InHand). slice_get l j) (sym list_is) ∙ e in
            elim (same-or j place) [
              | inl equal ↦ ap (λ (b : InHand). b.log) (same_Some b body (sym mine_at ∙ ap (slice_get mine) equal ∙ there))
              | inr differs ↦
                  let two : g b.log + g body.log ≤ sum_by (λ (b : InHand). g b.log) mine = terms-le (λ (b : InHand). g b.log) mine j place b body differs mine_at there in
                  absurd (omega (arith, one, counts, is, all))
            ]
        | inr differs ↦
            let two : sum_by (λ (b : InHand). g b.log) list + sum_by (λ (b : InHand). g b.log) mine ≤ sum_all (λ (b : InHand). g b.log) bodies = terms-le (sum_by (λ (b : InHand). g b.log)) bodies i seat list mine differs at me in
            absurd (omega (arith, one, counts, is, within))
      ];
}
  where
    within : g body.log ≤ sum_by (λ (b : InHand). g b.log) mine
    within = term-le (λ (b : InHand). g b.log) mine place body there

    all : sum_by (λ (b : InHand). g b.log) mine ≤ sum_all (λ (b : InHand). g b.log) bodies
    all = term-le (sum_by (λ (b : InHand). g b.log)) bodies seat mine me

abbrev pub all_bodies : List View → List (List InHand)
all_bodies views = map (λ (v : View). v.bodies) views

pub held-bodies : (views : List View) → map (λ (o : Holder). o.bodies) (map holder_of views) ≡ all_bodies views
held-bodies [] = refl
held-bodies (v ∷ vs) = ap (λ (l : List (List InHand)). v.bodies ∷ l) (held-bodies vs)

-- A slot becomes y, and of a view v the page locks, the bodies in hand and the lengths become these: of y, and of each new
-- member, what the parts ask of it.
pub record Carries (layout : Layout) (w : Words) (homes : Homes) (views : List View) (seat : ℕ) (v : View) (slot : ℕ) (y : Option (Option Log)) (pages : List PageLock) (bodies : List InHand) (lengths : List Length) : Type 1 where
  -- the bodies are the same, wherever they are
  pub sums : (g : Log → ℕ) → sum_bodies g (set homes slot y) (set (all_bodies views) seat bodies) ≡ sum_bodies g homes (all_bodies views)
  pub eachs : (P : Log → Type 0) → EachBody P homes (all_bodies views) → EachBody P (set homes slot y) (set (all_bodies views) seat bodies)
  pub home : (log : Log) → y ≡ Some (Some log) → AreEnded layout w.processes log.entries × Fits layout w.trans w.caches log
  -- the bodies in hand
  pub reached : EachMember (λ (l : Length). EachBody (Reaches l) homes (all_bodies views)) lengths
  pub before : EachMember (λ (b : InHand). AreEnded layout w.processes (take b.since b.log.entries)) bodies
  pub taken : EachMember (λ (b : InHand). b.since ≤ length b.log.entries) bodies
  pub killed : EachMember (λ (b : InHand). EachMember (λ (p : Proc). (x : ℕ) → slice_get w.processes p.0 ≡ Some x → x ≢ 0) b.killed) bodies
  pub fits : EachMember (λ (b : InHand). page_locks_on b.log.page.0 pages ≡ 0 → Fits layout w.trans w.caches b.log) bodies
  pub knows : EachMember (KnowsWords layout w.trans w.caches) pages
  pub own : EachMember (λ (b : InHand). 0 < page_locks_on b.log.page.0 pages → KnowsOwn pages b) bodies
  pub past : EachMember (λ (l : Length). IsPast v.parts l.stamp.who) lengths

module _ (layout : Layout) (w : Words) (homes : Homes) (views : List View) (seat : ℕ) (v : View) (me : slice_get views seat ≡ Some v) (h : FrameRule layout w homes views) where
  pub my_bodies : slice_get (all_bodies views) seat ≡ Some v.bodies
  my_bodies = at_map (λ (v : View). v.bodies) views seat v me

  my_fit : slice_get {X = List PageLock × List InHand} (map (λ (v : View). (v.pages, v.bodies)) views) seat ≡ Some (v.pages, v.bodies)
  my_fit = at_map (λ (v : View). (v.pages, v.bodies)) views seat v me

  pub one-body : (q : ℕ) → q < length layout.pages → sum_bodies (λ (x : Log). from_bool (x.page.0 == q)) homes (all_bodies views) ≡ 1
  one-body q within = subst (λ (l : List (List InHand)). sum_bodies (λ (x : Log). from_bool (x.page.0 == q)) homes l ≡ 1) (held-bodies views) (h.pages.bodies.one q within)

  -- ---- the parts, after the step

  module _ (slot : ℕ) (y : Option (Option Log)) (locks : List FrameLock) (pages : List PageLock) (bodies : List InHand) (lengths : List Length) (x : Carries layout w homes views seat v slot y pages bodies lengths) where
    abbrev u : View
    u = record v { locks = locks; pages = pages; bodies = bodies; lengths = lengths }

    abbrev after : Homes
    after = set homes slot y

    pub one-carried : (q : ℕ) → q < length layout.pages → sum_bodies (λ (log : Log). from_bool (log.page.0 == q)) after (map (λ (o : Holder). o.bodies) (set (map holder_of views) seat (holder_of u))) ≡ 1
    one-carried q within =
        let lists : map (λ (o : Holder). o.bodies) (set (map holder_of views) seat (holder_of u)) ≡ set (all_bodies views) seat bodies =
        map-set (λ (o : Holder). o.bodies) (map holder_of views) seat (holder_of u) ∙ ap (λ (l : List (List InHand)). set l seat bodies) (held-bodies views) in
        subst (λ (l : List (List InHand)). sum_bodies (λ (log : Log). from_bool (log.page.0 == q)) after l ≡ 1) (sym lists) (x.sums (λ (log : Log). from_bool (log.page.0 == q)) ∙ one-body q within)

    entries-changed : EntriesListed after (set (all_bodies views) seat bodies) (map (λ (v : View). (v.made, v.sights)) views) (set (map (λ (v : View). v.lengths) views) seat lengths)
    entries-changed = record {
      balance = λ g. x.sums (weigh g) ∙ h.histories.entries.balance g;
      ordered = x.eachs (λ (log : Log). AreInOrder log.entries) h.histories.entries.ordered;
      shown = h.histories.entries.shown;
      lengths_reached = each-set (EachMember Reached) (map (λ (v : View). v.lengths) views) seat lengths (again lengths x.reached)
          (each-weaken (EachMember Was) (EachMember Reached) (map (λ (v : View). v.lengths) views) (λ list each. again list each) h.histories.entries.lengths_reached);
    }
      where
        Was : Length → Type 0
        Was l = EachBody (Reaches l) homes (all_bodies views)

        Reached : Length → Type 0
        Reached l = EachBody (Reaches l) after (set (all_bodies views) seat bodies)

        again : (list : List Length) → EachMember Was list → EachMember Reached list
        again list each i l e = x.eachs (Reaches l) (each i l e)

    entries-carried : EntriesListed after (map (λ (v : View). v.bodies) (set views seat u)) (map (λ (v : View). (v.made, v.sights)) (set views seat u)) (map (λ (v : View). v.lengths) (set views seat u))
    entries-carried = change (λ (v : View). v.lengths) (λ l. EntriesListed after (map (λ (v : View). v.bodies) (set views seat u)) (map (λ (v : View). (v.made, v.sights)) (set views seat u)) l) views seat u
        (keep (λ (v : View). (v.made, v.sights)) (λ l. EntriesListed after (map (λ (v : View). v.bodies) (set views seat u)) l (set (map (λ (v : View). v.lengths) views) seat lengths)) views seat v u me refl
        (change (λ (v : View). v.bodies) (λ l. EntriesListed after l (map (λ (v : View). (v.made, v.sights)) views) (set (map (λ (v : View). v.lengths) views) seat lengths)) views seat u entries-changed))

    endings-changed : EndingsAgree layout w.processes after (set (all_bodies views) seat bodies) (map (λ (v : View). v.sights) views)
    endings-changed = record {
      named = h.histories.endings.named;
      caused = λ process p at. x.eachs (λ (log : Log). p ≡ log.page.0 + 1 → has_ending layout process log.entries ≡ true) (h.histories.endings.caused process p at);
      ended = λ i log at. elim (at_set homes slot i y (Some (Some log)) at) [
        | inl t ↦ (x.home log t.1).0
        | inr t ↦ h.histories.endings.ended i log t.1
      ];
      ended_before = each-set (EachMember (λ (b : InHand). AreEnded layout w.processes (take b.since b.log.entries))) (all_bodies views) seat bodies x.before h.histories.endings.ended_before;
      taken = each-set (EachMember (λ (b : InHand). b.since ≤ length b.log.entries)) (all_bodies views) seat bodies x.taken h.histories.endings.taken;
      shown = λ i list at j s is process place.
          x.eachs (λ (log : Log). s.word ≡ log.page.0 + 1 → SomeMember (λ (e : Entry). (is_ending layout process e.what ≡ true) × IsNotLater e.who s.stamp.who) log.entries)
          (h.histories.endings.shown i list at j s is process place);
    }

    endings-carried : EndingsAgree layout w.processes after (map (λ (v : View). v.bodies) (set views seat u)) (map (λ (v : View). v.sights) (set views seat u))
    endings-carried = keep (λ (v : View). v.sights) (λ l. EndingsAgree layout w.processes after (map (λ (v : View). v.bodies) (set views seat u)) l) views seat v u me refl
        (change (λ (v : View). v.bodies) (λ l. EndingsAgree layout w.processes after l (map (λ (v : View). v.sights) views)) views seat u endings-changed)

    losses-carried : LossesBalance layout w.losses after (map (λ (v : View). v.bodies) (set views seat u)) (map losing_of (set views seat u)) (map (λ (v : View). v.sights) (set views seat u))
    losses-carried = keep (λ (v : View). v.sights) (λ l. LossesBalance layout w.losses after (map (λ (v : View). v.bodies) (set views seat u)) (map losing_of (set views seat u)) l) views seat v u me refl
        (keep losing_of (λ l. LossesBalance layout w.losses after (map (λ (v : View). v.bodies) (set views seat u)) l (map (λ (v : View). v.sights) views)) views seat v u me refl
        (change (λ (v : View). v.bodies) (λ l. LossesBalance layout w.losses after l (map losing_of views) (map (λ (v : View). v.sights) views)) views seat u (record {
          balance = λ file p at. h.histories.losses.balance file p at ∙ sym (x.sums (losses_of layout file));
          owing = h.histories.losses.owing;
          shown = h.histories.losses.shown;
          declared = h.histories.losses.declared;
          poisoned = h.histories.losses.poisoned;
        })))

    stops-changed : EndingsAndStopsStay w.processes w.stop (set (all_bodies views) seat bodies) (map (λ (v : View). v.sights) views) (map (λ (v : View). v.stops) views)
    stops-changed = record {
      killed = each-set (EachMember (λ (b : InHand). EachMember (λ (p : Proc). (x : ℕ) → slice_get w.processes p.0 ≡ Some x → x ≢ 0) b.killed)) (all_bodies views) seat bodies x.killed h.processors.stops.killed;
      ended_stays = h.processors.stops.ended_stays;
      stop_stays = h.processors.stops.stop_stays;
      one = h.processors.stops.one;
      named = h.processors.stops.named;
    }

    stops-carried : EndingsAndStopsStay w.processes w.stop (map (λ (v : View). v.bodies) (set views seat u)) (map (λ (v : View). v.sights) (set views seat u)) (map (λ (v : View). v.stops) (set views seat u))
    stops-carried = keep (λ (v : View). v.stops) (λ l. EndingsAndStopsStay w.processes w.stop (map (λ (v : View). v.bodies) (set views seat u)) (map (λ (v : View). v.sights) (set views seat u)) l) views seat v u me refl
        (keep (λ (v : View). v.sights) (λ l. EndingsAndStopsStay w.processes w.stop (map (λ (v : View). v.bodies) (set views seat u)) l (map (λ (v : View). v.stops) views)) views seat v u me refl
        (change (λ (v : View). v.bodies) (λ l. EndingsAndStopsStay w.processes w.stop l (map (λ (v : View). v.sights) views) (map (λ (v : View). v.stops) views)) views seat u stops-changed))

    pub fits-carried : PageFits layout w.trans w.caches after (map (λ (v : View). (v.pages, v.bodies)) (set views seat u))
    fits-carried = change (λ (v : View). (v.pages, v.bodies)) (PageFits layout w.trans w.caches after) views seat u (record {
      at_home = λ i log at. elim (at_set homes slot i y (Some (Some log)) at) [
        | inl t ↦ (x.home log t.1).1
        | inr t ↦ h.pages.fits.at_home i log t.1
      ];
      in_hand = each-set (λ (o : List PageLock × List InHand). EachMember (λ (b : InHand). page_locks_on b.log.page.0 o.0 ≡ 0 → Fits layout w.trans w.caches b.log) o.1) (map (λ (v : View). (v.pages, v.bodies)) views) seat (pages, bodies) x.fits h.pages.fits.in_hand;
      known = each-set (λ (o : List PageLock × List InHand). EachMember (KnowsWords layout w.trans w.caches) o.0) (map (λ (v : View). (v.pages, v.bodies)) views) seat (pages, bodies) x.knows h.pages.fits.known;
      own = each-set (λ (o : List PageLock × List InHand). EachMember (λ (b : InHand). 0 < page_locks_on b.log.page.0 o.0 → KnowsOwn o.0 b) o.1) (map (λ (v : View). (v.pages, v.bodies)) views) seat (pages, bodies) x.own h.pages.fits.own;
    })

    commands-carried : CommandsOwn (set views seat u)
    commands-carried = PartKeeps.kept-commands views seat v u me (record { made = own.made; marks = own.marks; sights = own.sights; lengths = x.past; settings = own.settings; stops = own.stops }) h.processors.commands
      where
        own : AreOwn v
        own = h.processors.commands.own seat v me

    -- all parts of a group
    pub histories-carried : HistoryParts layout w.processes w.losses after (set views seat u)
    histories-carried = record { entries = entries-carried; endings = endings-carried; losses = losses-carried }

    pub failures-carried : FailureParts layout w.frames w.counter w.bads w.weaks after (set views seat u)
    failures-carried = record {
      handled = h.failures.handled;
      counter = PartKeeps.kept-counter views seat v u me refl refl h.failures.counter;
      damage = PartKeeps.kept-damage views seat v u me refl refl h.failures.damage;
      marks = PartKeeps.kept-marks views seat v u me refl refl h.failures.marks;
      exhaustion = PartKeeps.kept-exhaustion views seat v u me refl refl h.failures.exhaustion;
    }

    pub processors-carried : ProcessorParts layout w.processes w.policies w.stop (set views seat u)
    processors-carried = record {
      policies = PartKeeps.kept-policies views seat v u me refl refl refl h.processors.policies;
      stops = stops-carried;
      processors = PartKeeps.kept-processors views seat v u me refl h.processors.processors;
      commands = commands-carried;
    }

  -- ---- a slot without a body, before and after

  pub carry-none : (slot : ℕ) (was y : Option (Option Log)) (pages : List PageLock) → slice_get homes slot ≡ Some was → is_bodiless was ≡ true → is_bodiless y ≡ true
      → EachMember (λ (b : InHand). page_locks_on b.log.page.0 pages ≡ 0 → Fits layout w.trans w.caches b.log) v.bodies
      → EachMember (KnowsWords layout w.trans w.caches) pages
      → EachMember (λ (b : InHand). 0 < page_locks_on b.log.page.0 pages → KnowsOwn pages b) v.bodies
      → Carries layout w homes views seat v slot y pages v.bodies v.lengths
  carry-none slot was y pages there empty still fits knows own = record {
    sums = λ g. subst (λ (l : List (List InHand)). sum_bodies g (set homes slot y) l ≡ sum_bodies g homes (all_bodies views)) (sym same) (bodies-sum homes slot was y there empty still g (all_bodies views));
    eachs = λ P each. subst (λ (l : List (List InHand)). EachBody P (set homes slot y) l) (sym same) (bodies-each homes slot was y there empty still P (all_bodies views) each);
    home = λ log e. absurd (none-body log (ap is_bodiless (sym e) ∙ still));
    reached = h.histories.entries.lengths_reached seat v.lengths (at_map (λ (v : View). v.lengths) views seat v me);
    before = h.histories.endings.ended_before seat v.bodies my_bodies;
    taken = h.histories.endings.taken seat v.bodies my_bodies;
    killed = h.processors.stops.killed seat v.bodies my_bodies;
    fits = fits;
    knows = knows;
    own = own;
    past = (h.processors.commands.own seat v me).lengths;
  }
    where
      same : set (all_bodies views) seat v.bodies ≡ all_bodies views
      same = set_again (all_bodies views) seat v.bodies my_bodies

      none-body : (log : Log) → is_bodiless (Some (Some log)) ≡ true → ⊥
      none-body log e = not-both false e refl

  -- ---- a body that is taken

  module _ (log : Log) (slot : ℕ) (inside : slice_get homes slot ≡ Some (Some (Some log))) (within : log.page.0 < length layout.pages) (frame : Option Frame) (stamp : Stamp) (past : IsPast v.parts stamp.who) where
    abbrev body : InHand
    body = record { log = log; since = length log.entries; frame = frame; from = length v.sights; killed = [] }

    abbrev seen : Length
    seen = record { stamp = stamp; log = log }

    -- the page has no other body
    alone : EachBody (λ (x : Log). from_bool (x.page.0 == log.page.0) ≡ 1 → x ≡ log) homes (all_bodies views)
    alone = only-at-home (λ (x : Log). from_bool (x.page.0 == log.page.0)) homes (all_bodies views) slot log inside (one-body log.page.0 within) (ap from_bool (same-number log.page.0 log.page.0 refl))

    reached-now : EachBody (Reaches seen) homes (all_bodies views)
    reached-now = record {
      at_home = λ i x e page. longer x (alone.at_home i x e) page;
      in_hand = λ i list at j b e page. longer b.log (alone.in_hand i list at j b e) page;
    }
      where
        longer : (x : Log) → (from_bool (x.page.0 == log.page.0) ≡ 1 → x ≡ log) → x.page ≡ log.page → StartsWith log.entries x.entries
        longer x only page =
            let same : x ≡ log = only (ap from_bool (same-number x.page.0 log.page.0 (ap (λ (p : Page). p.0) page))) in
            ([], ap (λ (y : Log). y.entries) same ∙ sym (append-nil log.entries))

    pub carry-out : (pages : List PageLock)
        → EachMember (λ (b : InHand). page_locks_on b.log.page.0 pages ≡ 0 → Fits layout w.trans w.caches b.log) v.bodies
        → EachMember (KnowsWords layout w.trans w.caches) pages
        → EachMember (λ (b : InHand). 0 < page_locks_on b.log.page.0 pages → KnowsOwn pages b) v.bodies
        → (0 < page_locks_on log.page.0 pages → KnowsOwn pages body)
        → Carries layout w homes views seat v slot None pages (v.bodies ++ body ∷ []) (v.lengths ++ seen ∷ [])
    carry-out pages fits knows own own-new = record {
      sums = sum-taken homes (all_bodies views) slot seat log v.bodies body inside my_bodies refl;
      eachs = each-taken homes (all_bodies views) slot seat log v.bodies body inside my_bodies refl;
      home = λ x e. absurd (none-some (Some x) e);
      reached = each-push (λ (l : Length). EachBody (Reaches l) homes (all_bodies views)) v.lengths seen reached-now
          (h.histories.entries.lengths_reached seat v.lengths (at_map (λ (v : View). v.lengths) views seat v me));
      before = each-push (λ (b : InHand). AreEnded layout w.processes (take b.since b.log.entries)) v.bodies body
          (subst (AreEnded layout w.processes) (sym (take-length log.entries)) (h.histories.endings.ended slot log inside)) (h.histories.endings.ended_before seat v.bodies my_bodies);
      taken = each-push (λ (b : InHand). b.since ≤ length b.log.entries) v.bodies body (omega arith) (h.histories.endings.taken seat v.bodies my_bodies);
      killed = each-push (λ (b : InHand). EachMember (λ (p : Proc). (x : ℕ) → slice_get w.processes p.0 ≡ Some x → x ≢ 0) b.killed) v.bodies body (λ i p e. absurd (none-some p e)) (h.processors.stops.killed seat v.bodies my_bodies);
      fits = each-push (λ (b : InHand). page_locks_on b.log.page.0 pages ≡ 0 → Fits layout w.trans w.caches b.log) v.bodies body (λ none. h.pages.fits.at_home slot log inside) fits;
      knows = knows;
      own = each-push (λ (b : InHand). 0 < page_locks_on b.log.page.0 pages → KnowsOwn pages b) v.bodies body own-new own;
      past = each-push (λ (l : Length). IsPast v.parts l.stamp.who) v.lengths seen past (h.processors.commands.own seat v me).lengths;
    }

  -- ---- a body that goes home

  module _ (log : Log) (place : ℕ) (body : InHand) (there : slice_get v.bodies place ≡ Some body) (test : is_body_of log.page body ≡ true) (within : log.page.0 < length layout.pages) where
    abbrev left : List InHand
    left = without (is_body_of log.page) v.bodies

    -- the page's body is in hand once
    pub once : sum_by (λ (b : InHand). from_bool (is_body_of log.page b)) v.bodies ≡ 1
    once =
        let all : sum_bodies (λ (x : Log). from_bool (x.page.0 == log.page.0)) homes (all_bodies views) ≡ 1 = one-body log.page.0 within in
        let mine : sum_by (λ (b : InHand). from_bool (b.log.page.0 == log.page.0)) v.bodies ≤ sum_all (λ (b : InHand). from_bool (b.log.page.0 == log.page.0)) (all_bodies views) =
        term-le (sum_by (λ (b : InHand). from_bool (b.log.page.0 == log.page.0))) (all_bodies views) seat v.bodies my_bodies in
        let this : from_bool (body.log.page.0 == log.page.0) ≤ sum_by (λ (b : InHand). from_bool (b.log.page.0 == log.page.0)) v.bodies = term-le (λ (b : InHand). from_bool (b.log.page.0 == log.page.0)) v.bodies place body there in
        omega (arith, ap from_bool test)

    -- the bodies that are left are of other pages
    pub another : EachMember (λ (b : InHand). is_body_of log.page b ≡ false) left
    another = others-unfound (is_body_of log.page) v.bodies once

    pub carry-home : body.log ≡ log → (slot : ℕ) (pages : List PageLock) → slice_get homes slot ≡ Some None → AreEnded layout w.processes log.entries → Fits layout w.trans w.caches log
        → EachMember (λ (b : InHand). page_locks_on b.log.page.0 pages ≡ 0 → Fits layout w.trans w.caches b.log) left
        → EachMember (KnowsWords layout w.trans w.caches) pages
        → EachMember (λ (b : InHand). 0 < page_locks_on b.log.page.0 pages → KnowsOwn pages b) left
        → Carries layout w homes views seat v slot (Some (Some log)) pages left v.lengths
    carry-home log_is slot pages out ended fit fits knows own = record {
      sums = λ g.
          let home : sum_by (of_home g) (set homes slot (Some (Some log))) + 0 ≡ sum_by (of_home g) homes + g log = sum-set (of_home g) homes slot None (Some (Some log)) out in
          let hand : sum_all (λ (b : InHand). g b.log) (set (all_bodies views) seat left) + sum_by (λ (b : InHand). g b.log) v.bodies ≡ sum_all (λ (b : InHand). g b.log) (all_bodies views) + sum_by (λ (b : InHand). g b.log) left =
          sum-set (sum_by (λ (b : InHand). g b.log)) (all_bodies views) seat v.bodies left my_bodies in
          let gone : sum_by (λ (b : InHand). g b.log) left + g body.log ≡ sum_by (λ (b : InHand). g b.log) v.bodies =
          sum-without-one (is_body_of log.page) (λ (b : InHand). g b.log) v.bodies place body once there test in
          let same : g body.log ≡ g log = ap g log_is in
          omega arith;
      eachs = λ P each. record {
        at_home = λ i x e. elim (at_set homes slot i (Some (Some log)) (Some (Some x)) e) [
          | inl t ↦ subst P (log_is ∙ same_Some log x (same_Some (Some log) (Some x) t.1)) (each.in_hand seat v.bodies my_bodies place body there)
          | inr t ↦ each.at_home i x t.1
        ];
        in_hand = each-set (EachMember (λ (b : InHand). P b.log)) (all_bodies views) seat left (each-without (λ (b : InHand). P b.log) (is_body_of log.page) v.bodies (each.in_hand seat v.bodies my_bodies)) each.in_hand;
      };
      home = λ x e. let same : log ≡ x = same_Some log x (same_Some (Some log) (Some x) e) in (subst (λ (y : Log). AreEnded layout w.processes y.entries) same ended, subst (Fits layout w.trans w.caches) same fit);
      reached = h.histories.entries.lengths_reached seat v.lengths (at_map (λ (v : View). v.lengths) views seat v me);
      before = each-without (λ (b : InHand). AreEnded layout w.processes (take b.since b.log.entries)) (is_body_of log.page) v.bodies (h.histories.endings.ended_before seat v.bodies my_bodies);
      taken = each-without (λ (b : InHand). b.since ≤ length b.log.entries) (is_body_of log.page) v.bodies (h.histories.endings.taken seat v.bodies my_bodies);
      killed = each-without (λ (b : InHand). EachMember (λ (p : Proc). (x : ℕ) → slice_get w.processes p.0 ≡ Some x → x ≢ 0) b.killed) (is_body_of log.page) v.bodies (h.processors.stops.killed seat v.bodies my_bodies);
      fits = fits;
      knows = knows;
      own = own;
      past = (h.processors.commands.own seat v me).lengths;
    }
