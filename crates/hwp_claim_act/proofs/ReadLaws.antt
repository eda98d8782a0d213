-- The laws of `ReadPolicies`.
use Rattle.std.proofs.Common.{◌≡◌, ℕ, ◌+◌, ◌-◌, ◌^◌, ◌<◌, ◌≤◌, true, List, [], ◌∷◌, ◌++◌, Option, Some, None, length, drop, slice_get, option_map, inl, refl, sym, ap, ◌∙◌, subst, arith}
use Rattle.std.proofs.lemmas.Bool.{both_ways}
use Rattle.std.proofs.lemmas.List.{drop-append-le, length-append, length_push}
use Rattle.std.proofs.lemmas.Option.{none-some, same_Some}
use Rattle.hwp_core.specs.hwp_geom.declared.Layout.{Layout}
use Rattle.hwp_core.specs.hwp_geom.declared.Thread.{Thread}
use Rattle.hwp_core.specs.hwp_geom.declared.Who.{Who}
use Rattle.hwp_core.specs.hwp_geom.Limits.{thread_limit}
use Rattle.hwp_core.specs.hwp_kill.declared.Seen.{Seen}
use Rattle.hwp_core.specs.hwp_kill.Next.{IsNextToRead, IsReadSoFar}
use Rattle.hwp_core.proofs.of_hwp_kill.PolicyOwners.{within_threads}
use Rattle.hwp_core.proofs.of_hwp_kill.PolicyReads.{next-few, read-more}
use Rattle.hwp_core.specs.hwp_page.declared.Situation.TheVariants as situations
use Rattle.hwp_core.specs.hwp_page.declared.What.TheVariants as entries
use Rattle.hwp_core.specs.hwp_page.History.{BodyValue}
use Rattle.hwp_core.specs.hwp_core_rule.declared.FrameLock.{FrameLock}
use Rattle.hwp_core.specs.hwp_core_rule.declared.SharedWord.TheVariants as places
use Rattle.hwp_core.specs.hwp_core_rule.declared.Sight.{Sight}
use Rattle.hwp_core.specs.hwp_core_rule.declared.Step.{Step}
use Rattle.hwp_core.specs.hwp_core_rule.declared.Step.TheVariants as steps
use Rattle.hwp_core.specs.hwp_core_rule.declared.View.{View}
use Rattle.hwp_core.specs.hwp_core_rule.Lists.{EachMember, SomeMember}
use Rattle.hwp_core.specs.hwp_core_rule.Lasting.{IsMild}
use Rattle.hwp_core.specs.hwp_core_rule.Steps.{policy_at}
use Rattle.hwp_core.specs.hwp_core_rule.Views.{noted, stamp_of}
use Rattle.hwp_core.specs.hwp_core_rule.parts.Entries.{HasPolicy, Shows as ShowsWord}
use Rattle.hwp_core.proofs.of_hwp_core_rule.Lists.{each-push, some-last}
use Rattle.hwp_core.proofs.of_hwp_core_rule.Sights.{seen-more}
use Rattle.hwp_core.specs.hwp_core_rule.declared.Turn.{Turn}
use Rattle.hwp_core.specs.hwp_core_rule.declared.Turn.TheVariants.{Moved}
use Rattle.hwp_core.specs.hwp_core_rule.Boards.{view_of}
use Rattle.hwp_core.specs.hwp_core_rule.Calls.{CanMake, Steps}
use Rattle.hwp_core.specs.hwp_core_rule.Hands.{Hand}
use Rattle.hwp_core.specs.hwp_core_rule.Ranks.{IsRanked, is_waits}
use Rattle.hwp_core.proofs.of_hwp_core_rule.tasks.StepRanks.{rank-of}
use Rattle.hwp_core.proofs.of_hwp_core_rule.tasks.StepLeaves.{can-make, hand-planned, on-turn-after, steps-planned}
use Rattle.hwp_core.proofs.of_hwp_core_rule.tasks.MadeEntries.{ListsNone}
use Rattle.hwp_core.specs.Holds.{HoldsPage}
use Rattle.hwp_claim_act.specs.declared.read_policies.ReadPolicies.{ReadPolicies}
use Rattle.hwp_claim_act.specs.Reads.{CanReadMore, Fits, Follows, FollowsAt, HoldsFailed, IsNextOf, ReadsMore, Shows, ShowsAt, cost, cost_at, plan, plan_at, seen_in, task as read-policies-task}
use Rattle.hwp_claim_act.proofs.PolicyWords.{IsPolicyWord, policy-word, reads-back, small-word}

-- the body is of the machine's layout
layout-is : {layout : Layout} {view : View} {r : ReadPolicies} → Fits layout view r → r.body.layout ≡ layout
layout-is fits = fits.held.holds.body_is.layout_is

pub can : (layout : Layout) (view : View) (r : ReadPolicies) (step : Step) → Fits layout view r → plan r ≡ Some step → CanMake layout r.who step None view
can layout view r step fits is = which r.next fits.next is
  where
    which : (n : Option Thread) → IsNextOf r.body r.required r.seen.items n → plan_at n ≡ Some step → CanMake layout r.who step None view
    which (Some thread) next e = can-make fits.on_turn e (subst (λ (l : Layout). thread.0 < length l.threads) (layout-is fits) (within_threads r.body.layout thread next.process next.asked.own)) tt
    which None all e = absurd (none-some step e)

-- ---- what follows

module _ {layout : Layout} {old new : View} (r : ReadPolicies) (thread : Thread) (fits : Fits layout old r) (next : IsNextToRead r.body.layout r.body.state.maps r.required r.seen.items thread) {found : ℕ} {got : Option BodyValue} (made : Steps layout r.who (steps.Load (places.Policy thread)) None old new found got) where
  abbrev has : HoldsPage layout old r.body.page (Some r.frame) r.body
  has = fits.held.holds

  inside : thread.0 < length layout.threads
  inside = subst (λ (l : Layout). thread.0 < length l.threads) (layout-is fits) (within_threads r.body.layout thread next.process next.asked.own)

  word : IsPolicyWord found
  word = policy-word layout made.told.board made.told.rule thread found inside made.told.met

  -- the sight of it
  abbrev sight : Sight
  sight = record { stamp = stamp_of r.who (noted r.who old); place = places.Policy thread; word = found }

  more : new.sights ≡ old.sights ++ sight ∷ []
  more = ap (λ (v : View). v.sights) made.told.next

  abbrev now : Seen
  now = seen_in thread found

  few-threads : length r.seen.items < length layout.threads
  few-threads = subst (λ (l : Layout). length r.seen.items < length l.threads) (layout-is fits) (next-few fits.read thread next)

  pub can-read-more : CanReadMore r thread found
  can-read-more = record {
    few = subst (λ (n : ℕ). n < 2 ^ 34) (sym word.is) (small-word word.settings word.policy word.few);
    room = let below = few-threads in let room = fits.room in omega (arith, below, room);
    read = read-more fits.read now next;
  }

  abbrev held-still : HoldsFailed layout new r.body.page r.frame r.body
  held-still = record {
    holds = record {
      seen = has.seen;
      handled = has.handled;
      poisoned = has.poisoned;
      hand_is = hand-planned made refl has.hand_is;
      within = has.within;
      body_is = has.body_is;
    };
    unhandled = fits.held.unhandled;
    poisoned = fits.held.poisoned;
    few = let all : length new.sights ≡ length old.sights + 1 = ap (λ (l : List Sight). length l) more ∙ length-append old.sights _ in let few : _ = fits.held.few in omega (arith, all, few);
    inside = fits.held.inside;
  }

  late : drop has.seen new.sights ≡ drop has.seen old.sights ++ sight ∷ []
  late = ap (λ (l : List Sight). drop has.seen l) more ∙ drop-append-le has.seen old.sights (sight ∷ []) fits.held.few

  -- the new entry's policy is the one that was shown
  shows-now : HasPolicy (drop has.seen new.sights) r.who (Some r.frame) now
  shows-now = subst (SomeMember (ShowsWord r.who r.frame (places.Policy thread) (policy_at now.n now.policy))) (sym late)
      (some-last (ShowsWord r.who r.frame (places.Policy thread) (policy_at now.n now.policy)) (drop has.seen old.sights) sight (record {
        own = refl;
        under = inl (ap (λ (h : Hand). option_map (λ (l : FrameLock). l.frame) (slice_get h.locks 0)) has.hand_is);
        place_is = refl;
        word_is = sym (reads-back found word);
      }))

  shown-still : EachMember (HasPolicy (drop has.seen new.sights) r.who (Some r.frame)) r.seen.items
  shown-still = subst (λ (l : List Sight). EachMember (HasPolicy l r.who (Some r.frame)) r.seen.items) (sym late)
      (seen-more (drop has.seen old.sights) sight r.who (Some r.frame) (entries.Fail situations.Free None r.seen.items []) fits.shown)

  pub reads-on : (after : ReadPolicies) → ReadsMore r thread found after → Fits layout new after
  reads-on after follows = subst (Fits layout new) (sym follows.is) (record {
    on_turn = on-turn-after fits.on_turn made;
    sound = fits.sound;
    held = held-still;
    read = subst (IsReadSoFar r.body.layout r.body.state.maps r.required) (sym follows.items) (read-more fits.read now next);
    shown = subst (EachMember (HasPolicy (drop has.seen new.sights) r.who (Some r.frame))) (sym follows.items)
        (each-push (HasPolicy (drop has.seen new.sights) r.who (Some r.frame)) r.seen.items now shows-now shown-still);
    next = follows.next;
    room = subst (λ (n : ℕ). length layout.threads ≤ n) (sym follows.room) fits.room;
  })

pub both : (layout : Layout) (old new : View) (r : ReadPolicies) (step : Step) (found : ℕ) (got : Option BodyValue) → Fits layout old r → plan r ≡ Some step → Steps layout r.who step None old new found got
    → Shows r found × ((after : ReadPolicies) → Follows r found after → Fits layout new after)
both layout old new r step found got fits is made = which r.next fits.next is
  where
    which : (n : Option Thread) → IsNextOf r.body r.required r.seen.items n → plan_at n ≡ Some step → ShowsAt r n found × ((after : ReadPolicies) → FollowsAt r n found after → Fits layout new after)
    which (Some thread) next e = (can-read-more r thread fits next (steps-planned e made), reads-on r thread fits next (steps-planned e made))
    which None all e = absurd (none-some step e)

pub own : (r after : ReadPolicies) (found : ℕ) → Follows r found after → after.who ≡ r.who
own r after found follows = which r.next follows
  where
    which : (n : Option Thread) → FollowsAt r n found after → after.who ≡ r.who
    which (Some thread) is = ap (λ (x : ReadPolicies). x.who) is.is
    which None is = ap (λ (x : ReadPolicies). x.who) is

pub stays : (layout : Layout) (old new : View) (r : ReadPolicies) (step : Step) (found : ℕ) (got : Option BodyValue) → Fits layout old r → plan r ≡ Some step → Steps layout r.who step None old new found got
    → Shows r found × ((after : ReadPolicies) (turn : Turn) → Follows r found after × (turn ≡ Moved) → Fits layout new after × (after.who.cpu ≡ r.who.cpu))
stays layout old new r step found got fits is made =
    let all = both layout old new r step found got fits is made in (all.0, λ after turn follows. (all.1 after follows.0, ap (λ (w : Who). w.cpu) (own r after found follows.0)))

-- ---- the law of the rank

pub reads-fall : (layout : Layout) (view : View) (r after : ReadPolicies) (found : ℕ) {step : Step} → Fits layout view r → plan r ≡ Some step → Follows r found after → cost after < cost r
reads-fall layout view r after found {step} fits is follows = which r.next fits.next is follows
  where
    which : (n : Option Thread) → IsNextOf r.body r.required r.seen.items n → plan_at n ≡ Some step → FollowsAt r n found after → cost after < cost_at r.seen.items n
    which (Some thread) next e follows = by after.next
      where
        below : length r.seen.items < thread_limit
        below = let few = next-few fits.read thread next in let all : length layout.threads ≤ thread_limit = fits.sound.threads in let same = ap (λ (l : Layout). length l.threads) (layout-is fits) in omega (arith, few, all, same)

        longer : length after.seen.items ≡ length r.seen.items + 1
        longer = ap (λ (l : List Seen). length l) follows.items ∙ length_push r.seen.items (seen_in thread found)

        by : (m : Option Thread) → cost_at after.seen.items m < thread_limit + 1 - length r.seen.items
        by (Some other) = let l = longer in let b = below in omega (arith, l, b)
        by None = let b = below in omega (arith, b)
    which None all e follows = absurd (none-some step e)

pub reads-small : (r : ReadPolicies) → cost r ≤ 33
reads-small r = which r.next
  where
    which : (n : Option Thread) → cost_at r.seen.items n ≤ 33
    which (Some thread) = omega arith
    which None = omega arith

-- a load neither poisons a frame nor takes its poison back
pub reads-mild : (r : ReadPolicies) (step : Step) → plan r ≡ Some step → IsMild step
reads-mild r step is = which r.next is
  where
    which : (n : Option Thread) → plan_at n ≡ Some step → IsMild step
    which (Some thread) e = subst IsMild (same_Some (steps.Load (places.Policy thread)) step e) tt
    which None e = absurd (none-some step e)

-- and lists no entry
pub reads-list-none : (r : ReadPolicies) (step : Step) → plan r ≡ Some step → ListsNone step
reads-list-none r step is = which r.next is
  where
    which : (n : Option Thread) → plan_at n ≡ Some step → ListsNone step
    which (Some thread) e = subst ListsNone (same_Some (steps.Load (places.Policy thread)) step e) tt
    which None e = absurd (none-some step e)

pub reads-ranked : IsRanked read-policies-task
reads-ranked = rank-of read-policies-task (λ s. refl) (λ s. (omega arith, omega arith)) (λ layout a seat s rule fits. let few : _ = reads-small s in omega (arith, few))
    (λ layout seat a b s t turn made goes. reads-fall layout (view_of a seat) s t made.found made.fits made.planned made.follows.0)
    (λ layout seat a b s t turn made is quiet. absurd (both_ways true (sym is ∙ ap is_waits made.follows.1) refl))
    (λ s. refl) reads-mild
