-- What a view lists of its page's lock may change while the lock stays: the frame rule stays where the lists are right.
use Rattle.std.proofs.Common.{◌≡◌, ℕ, ◌+◌, ◌<◌, ◌≤◌, ◌==◌, Bool, List, Some, map, set, length, slice_get, inl, inr, refl, sym, ap, ◌∙◌, subst, arith}
use Rattle.std.specs.Int.{from_bool}
use Rattle.std.specs.List.{sum_by}
use Rattle.hwp_page.specs.hwp_geom.declared.Layout.{Layout}
use Rattle.hwp_page.specs.hwp_geom.declared.Page.{Page}
use Rattle.hwp_core_rule.specs.declared.log.Log.{Log}
use Rattle.hwp_core_rule.specs.declared.view.FrameLock.{FrameLock}
use Rattle.hwp_core_rule.specs.declared.view.InHand.{InHand}
use Rattle.hwp_core_rule.specs.declared.view.PageLock.{PageLock}
use Rattle.hwp_core_rule.specs.declared.view.View.{View}
use Rattle.hwp_core_rule.specs.Lists.{Homes, EachMember, sum_bodies}
use Rattle.hwp_core_rule.specs.Rule.{FrameRule, holder_of}
use Rattle.hwp_core_rule.specs.Views.{changed, page_locks_on}
use Rattle.hwp_core_rule.specs.Words.{Words}
use Rattle.hwp_core_rule.specs.parts.Bodies.{Holder, IsHolding, BodiesAtHome}
use Rattle.hwp_core_rule.specs.parts.Fits.{Fits, KnowsWords, KnowsOwn, PageFits}
use Rattle.hwp_core_rule.specs.parts.Locks.{PageLocksHeld}
use Rattle.hwp_core_rule.specs.parts.Owners.{CacheWordsOwned, HoldsBoth}
use Rattle.hwp_core_rule.proofs.Lists.{change, keep, at_map, each-set, each-weaken, some-set, sum-set, sum-changed, length-changed}
use Rattle.hwp_core_rule.proofs.PartKeeps

-- a change of locks that leaves their pages
module _ (test : PageLock → Bool) (to : PageLock → PageLock) (same : (l : PageLock) → (to l).page ≡ l.page) where
  pub same-locks : (locks : List PageLock) (q : ℕ) → page_locks_on q (changed test to locks) ≡ page_locks_on q locks
  same-locks locks q = sum-changed (λ (l : PageLock). from_bool (l.page.0 == q)) test to locks (λ l. ap (λ (p : Page). from_bool (p.0 == q)) (same l))

module _ (layout : Layout) (w : Words) (homes : Homes) (views : List View) (seat : ℕ) (v : View) (me : slice_get views seat ≡ Some v) (h : FrameRule layout w homes views)
    (test : PageLock → Bool) (to : PageLock → PageLock) (same : (l : PageLock) → (to l).page ≡ l.page) where
  abbrev listing : View
  listing = record v { pages = changed test to v.pages }

  abbrev pages : List (List PageLock)
  pages = map (λ (v : View). v.pages) views

  abbrev both : List (List FrameLock × List PageLock)
  both = map (λ (v : View). (v.locks, v.pages)) views

  abbrev holders : List Holder
  holders = map holder_of views

  abbrev fitting : List (List PageLock × List InHand)
  fitting = map (λ (v : View). (v.pages, v.bodies)) views

  pub locks-listed : PageLocksHeld w.pages (set pages seat listing.pages) (map (λ (v : View). v.locks) views)
  locks-listed = record {
    one = λ q word there.
        let total : sum_by (page_locks_on q) (set pages seat listing.pages) + page_locks_on q v.pages ≡ sum_by (page_locks_on q) pages + page_locks_on q listing.pages =
        sum-set (page_locks_on q) pages seat v.pages listing.pages (at_map (λ (v : View). v.pages) views seat v me) in
        let kept : page_locks_on q listing.pages ≡ page_locks_on q v.pages = same-locks test to same v.pages q in
        let before : sum_by (page_locks_on q) pages ≡ sum_by (page_locks_on q) pages = refl in
        let gone : sum_by (page_locks_on q) (set pages seat listing.pages) ≡ sum_by (page_locks_on q) pages = omega arith in
        gone ∙ h.pages.page_locks.one q word there;
    page_once = each-set (λ (l : List PageLock). length l ≤ 1) pages seat listing.pages
        (let wide : length listing.pages ≡ length v.pages = length-changed test to v.pages in
        let once : length v.pages ≤ 1 = h.pages.page_locks.page_once seat v.pages (at_map (λ (v : View). v.pages) views seat v me) in
        omega arith) h.pages.page_locks.page_once;
    frames_twice = h.pages.page_locks.frames_twice;
  }

  pub caches-listed : CacheWordsOwned w.frames w.caches (set both seat (v.locks, listing.pages))
  caches-listed = record {
    owned = h.pages.caches.owned;
    named = λ f word q there owner. elim (h.pages.caches.named f word q there owner) [
      | inl cached ↦ inl cached
      | inr some ↦ inr (some-set (HoldsBoth f q) both seat (v.locks, v.pages) (v.locks, listing.pages) (at_map (λ (v : View). (v.locks, v.pages)) views seat v me)
          (λ holds. record { frame = holds.frame; page = subst (λ (n : ℕ). 0 < n) (sym (same-locks test to same v.pages q)) holds.page }) some)
    ];
    within = h.pages.caches.within;
  }

  still-holding : (b : InHand) → IsHolding b (holder_of v) → IsHolding b (holder_of listing)
  still-holding b (inl locked) = inl (subst (λ (n : ℕ). 0 < n) (sym (same-locks test to same v.pages b.log.page.0)) locked)
  still-holding b (inr some) = inr some

  pub bodies-listed : BodiesAtHome layout w.frames w.caches w.pages homes (set holders seat (holder_of listing))
  bodies-listed = record {
    frame_home = h.pages.bodies.frame_home;
    frame_out = h.pages.bodies.frame_out;
    shelf_home = h.pages.bodies.shelf_home;
    shelf_out = h.pages.bodies.shelf_out;
    one = λ q declared.
        keep (λ (x : Holder). x.bodies) (λ l. OneBody q l) holders seat (holder_of v) (holder_of listing) there refl (h.pages.bodies.one q declared);
    in_hand = each-set (λ (x : Holder). EachMember (λ (b : InHand). IsHolding b x) x.bodies) holders seat (holder_of listing)
        (each-weaken (λ (b : InHand). IsHolding b (holder_of v)) (λ (b : InHand). IsHolding b (holder_of listing)) v.bodies (λ b holding. still-holding b holding)
        (h.pages.bodies.in_hand seat (holder_of v) there)) h.pages.bodies.in_hand;
  }
    where
      OneBody : ℕ → List (List InHand) → Type 0
      OneBody q l = sum_bodies (λ (log : Log). from_bool (log.page.0 == q)) homes l ≡ 1

      there : slice_get holders seat ≡ Some (holder_of v)
      there = at_map holder_of views seat v me

  fits-listed : EachMember (KnowsWords layout w.trans w.caches) listing.pages → ((b : InHand) → KnowsOwn v.pages b → KnowsOwn listing.pages b) → PageFits layout w.trans w.caches homes (set fitting seat (listing.pages, v.bodies))
  fits-listed knows own = record {
    at_home = h.pages.fits.at_home;
    in_hand = each-set (λ (x : List PageLock × List InHand). EachMember (λ (b : InHand). page_locks_on b.log.page.0 x.0 ≡ 0 → Fits layout w.trans w.caches b.log) x.1) fitting seat (listing.pages, v.bodies)
        (each-weaken (λ (b : InHand). page_locks_on b.log.page.0 v.pages ≡ 0 → Fits layout w.trans w.caches b.log) (λ (b : InHand). page_locks_on b.log.page.0 listing.pages ≡ 0 → Fits layout w.trans w.caches b.log) v.bodies
        (λ b fits none. fits (sym (same-locks test to same v.pages b.log.page.0) ∙ none)) (h.pages.fits.in_hand seat (v.pages, v.bodies) there)) h.pages.fits.in_hand;
    known = each-set (λ (x : List PageLock × List InHand). EachMember (KnowsWords layout w.trans w.caches) x.0) fitting seat (listing.pages, v.bodies) knows h.pages.fits.known;
    own = each-set (λ (x : List PageLock × List InHand). EachMember (λ (b : InHand). 0 < page_locks_on b.log.page.0 x.0 → KnowsOwn x.0 b) x.1) fitting seat (listing.pages, v.bodies)
        (each-weaken (λ (b : InHand). 0 < page_locks_on b.log.page.0 v.pages → KnowsOwn v.pages b) (λ (b : InHand). 0 < page_locks_on b.log.page.0 listing.pages → KnowsOwn listing.pages b) v.bodies
        (λ b knows some. own b (knows (subst (λ (n : ℕ). 0 < n) (same-locks test to same v.pages b.log.page.0) some))) (h.pages.fits.own seat (v.pages, v.bodies) there)) h.pages.fits.own;
  }
    where
      there : slice_get fitting seat ≡ Some (v.pages, v.bodies)
      there = at_map (λ (v : View). (v.pages, v.bodies)) views seat v me

  -- the view may list so of its page's lock
  pub keeps-listing : EachMember (KnowsWords layout w.trans w.caches) listing.pages → ((b : InHand) → KnowsOwn v.pages b → KnowsOwn listing.pages b) → FrameRule layout w homes (set views seat listing)
  keeps-listing knows own = record {
    frames = PartKeeps.same-frames views seat v u me refl h.frames;
    pages = record {
      page_locks = keep (λ (v : View). v.locks) (λ l. PageLocksHeld w.pages (map (λ (v : View). v.pages) (set views seat u)) l) views seat v u me refl
          (change (λ (v : View). v.pages) (λ l. PageLocksHeld w.pages l (map (λ (v : View). v.locks) views)) views seat u locks-listed);
      translations = h.pages.translations;
      caches = change (λ (v : View). (v.locks, v.pages)) (CacheWordsOwned w.frames w.caches) views seat u caches-listed;
      bodies = change holder_of (BodiesAtHome layout w.frames w.caches w.pages homes) views seat u bodies-listed;
      fits = change (λ (v : View). (v.pages, v.bodies)) (PageFits layout w.trans w.caches homes) views seat u (fits-listed knows own);
    };
    histories = PartKeeps.same-histories views seat v u me refl h.histories;
    failures = PartKeeps.same-failures views seat v u me refl h.failures;
    processors = PartKeeps.same-processors views seat v u me refl h.processors;
  }
    where
      u : View
      u = listing
