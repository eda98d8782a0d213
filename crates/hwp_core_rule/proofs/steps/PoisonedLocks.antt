-- A lock lists that its frame is poisoned, as the frame's word says: the frame rule stays.
use Rattle.std.proofs.Common.{◌≡◌, ℕ, ◌+◌, ◌<◌, ◌≤◌, ◌==◌, eqb-true, true, List, Some, map, set, length, slice_get, inl, inr, refl, sym, ap, ◌∙◌, subst, arith}
use Rattle.std.specs.Int.{from_bool}
use Rattle.std.specs.List.{sum_by}
use Rattle.std.proofs.lemmas.Option.{same_Some}
use Rattle.hwp_page.specs.hwp_geom.declared.Frame.{Frame}
use Rattle.hwp_page.specs.hwp_geom.declared.Layout.{Layout}
use Rattle.hwp_words.specs.Frames.{is_poisoned}
use Rattle.hwp_core_rule.specs.declared.log.Log.{Log}
use Rattle.hwp_core_rule.specs.declared.view.FrameLock.{FrameLock}
use Rattle.hwp_core_rule.specs.declared.view.InHand.{InHand}
use Rattle.hwp_core_rule.specs.declared.view.PageLock.{PageLock}
use Rattle.hwp_core_rule.specs.declared.view.Ref.{Ref}
use Rattle.hwp_core_rule.specs.declared.view.View.{View}
use Rattle.hwp_core_rule.specs.Lists.{Homes, EachMember, sum_bodies}
use Rattle.hwp_core_rule.specs.Rule.{FrameRule, holder_of}
use Rattle.hwp_core_rule.specs.Views.{is_lock_of, locks_on, poison_listed}
use Rattle.hwp_core_rule.specs.Words.{Words}
use Rattle.hwp_core_rule.specs.parts.Bodies.{BodiesAtHome, Holder, IsHolding, IsLockFor}
use Rattle.hwp_core_rule.specs.parts.Locks.{FrameLocksHeld, PageLocksHeld, IsLocked}
use Rattle.hwp_core_rule.specs.parts.Owners.{CacheWordsOwned, HoldsBoth}
use Rattle.hwp_core_rule.proofs.Lists.{change, keep, at_map, each-set, each-weaken, each-changed, some-set, some-changed, sum-changed, length-changed, sum-set}
use Rattle.hwp_core_rule.proofs.PartKeeps

module _ (layout : Layout) (w : Words) (homes : Homes) (views : List View) (seat : ℕ) (v : View) (frame : Frame) (word : ℕ)
    (me : slice_get views seat ≡ Some v) (there : slice_get w.frames frame.0 ≡ Some word) (poisoned : is_poisoned word ≡ true) (h : FrameRule layout w homes views) where
  abbrev to : FrameLock → FrameLock
  to l = record l { poisoned = true }

  abbrev u : View
  u = poison_listed frame v

  abbrev held : List (List Ref × List FrameLock)
  held = map (λ (v : View). (v.refs, v.locks)) views

  abbrev both : List (List FrameLock × List PageLock)
  both = map (λ (v : View). (v.locks, v.pages)) views

  same-locks : (g : ℕ) → locks_on g u.locks ≡ locks_on g v.locks
  same-locks g = sum-changed (λ (l : FrameLock). from_bool (l.frame.0 == g)) (is_lock_of frame) to v.locks (λ l. refl)

  my-held : slice_get {X = List Ref × List FrameLock} held seat ≡ Some (v.refs, v.locks)
  my-held = at_map (λ (v : View). (v.refs, v.locks)) views seat v me

  my-both : slice_get {X = List FrameLock × List PageLock} both seat ≡ Some (v.locks, v.pages)
  my-both = at_map (λ (v : View). (v.locks, v.pages)) views seat v me

  locks-listed : FrameLocksHeld w.frames (set held seat (v.refs, u.locks))
  locks-listed = record {
    one = λ g x at.
        let moved : sum_by (λ (o : List Ref × List FrameLock). locks_on g o.1) (set held seat (v.refs, u.locks)) + locks_on g v.locks ≡ sum_by (λ (o : List Ref × List FrameLock). locks_on g o.1) held + locks_on g u.locks =
        sum-set (λ (o : List Ref × List FrameLock). locks_on g o.1) held seat (v.refs, v.locks) (v.refs, u.locks) my-held in
        let same : sum_by (λ (o : List Ref × List FrameLock). locks_on g o.1) (set held seat (v.refs, u.locks)) ≡ sum_by (λ (o : List Ref × List FrameLock). locks_on g o.1) held = omega (arith, moved, same-locks g) in
        same ∙ h.frames.frame_locks.one g x at;
    known = each-set (λ (o : List Ref × List FrameLock). EachMember (IsLocked w.frames o.0) o.1) held seat (v.refs, u.locks)
        (each-changed (IsLocked w.frames v.refs) (is_lock_of frame) to v.locks known-still (h.frames.frame_locks.known seat (v.refs, v.locks) my-held)) h.frames.frame_locks.known;
  }
    where
      known-still : (l : FrameLock) → is_lock_of frame l ≡ true → IsLocked w.frames v.refs l → IsLocked w.frames v.refs (to l)
      known-still l is k =
          let same : word ≡ k.word = same_Some word k.word (sym there ∙ ap (slice_get w.frames) (sym (eqb-true l.frame.0 frame.0 is)) ∙ k.there) in
          record { word = k.word; there = k.there; owner = k.owner; handled = k.handled; poisoned = λ e. ap is_poisoned (sym same) ∙ poisoned; referenced = k.referenced }

  page-locks-listed : PageLocksHeld w.pages (map (λ (v : View). v.pages) views) (set (map (λ (v : View). v.locks) views) seat u.locks)
  page-locks-listed = record {
    one = h.pages.page_locks.one;
    page_once = h.pages.page_locks.page_once;
    frames_twice = each-set (λ (l : List FrameLock). length l ≤ 2) (map (λ (v : View). v.locks) views) seat u.locks
        (let wide : length u.locks ≡ length v.locks = length-changed (is_lock_of frame) to v.locks in
        let few : length v.locks ≤ 2 = h.pages.page_locks.frames_twice seat v.locks (at_map (λ (v : View). v.locks) views seat v me) in
        omega (arith, wide, few)) h.pages.page_locks.frames_twice;
  }

  caches-listed : CacheWordsOwned w.frames w.caches (set both seat (u.locks, v.pages))
  caches-listed = record {
    owned = h.pages.caches.owned;
    named = λ g x q at owner. elim (h.pages.caches.named g x q at owner) [
      | inl cached ↦ inl cached
      | inr some ↦ inr (some-set (HoldsBoth g q) both seat (v.locks, v.pages) (u.locks, v.pages) my-both
          (λ x. record { frame = subst (λ (n : ℕ). 0 < n) (sym (same-locks g)) x.frame; page = x.page }) some)
    ];
    within = h.pages.caches.within;
  }

  bodies-listed : BodiesAtHome layout w.frames w.caches w.pages homes (set (map holder_of views) seat (holder_of u))
  bodies-listed = record {
    frame_home = h.pages.bodies.frame_home;
    frame_out = h.pages.bodies.frame_out;
    shelf_home = h.pages.bodies.shelf_home;
    shelf_out = h.pages.bodies.shelf_out;
    one = λ q declared. keep (λ (x : Holder). x.bodies) (one-body q) (map holder_of views) seat (holder_of v) (holder_of u) my-holder refl (h.pages.bodies.one q declared);
    in_hand = each-set (λ (x : Holder). EachMember (λ (b : InHand). IsHolding b x) x.bodies) (map holder_of views) seat (holder_of u)
        (each-weaken (λ (b : InHand). IsHolding b (holder_of v)) (λ (b : InHand). IsHolding b (holder_of u)) v.bodies still (h.pages.bodies.in_hand seat (holder_of v) my-holder)) h.pages.bodies.in_hand;
  }
    where
      my-holder : slice_get (map holder_of views) seat ≡ Some (holder_of v)
      my-holder = at_map holder_of views seat v me

      one-body : ℕ → List (List InHand) → Type 0
      one-body q l = sum_bodies (λ (log : Log). from_bool (log.page.0 == q)) homes l ≡ 1

      still : (b : InHand) → IsHolding b (holder_of v) → IsHolding b (holder_of u)
      still b (inl page) = inl page
      still b (inr some) = inr (some-changed (IsLockFor b) (is_lock_of frame) to v.locks (λ l is so. so) some)

  pub keeps-poison-listed : FrameRule layout w homes (set views seat u)
  keeps-poison-listed = record {
    frames = record {
      counts = PartKeeps.kept-counts views seat v u me refl h.frames.counts;
      places = PartKeeps.kept-places views seat v u me refl h.frames.places;
      frame_locks = change (λ (v : View). (v.refs, v.locks)) (FrameLocksHeld w.frames) views seat u locks-listed;
      free = PartKeeps.kept-free views seat v u me refl h.frames.free;
      holdings = PartKeeps.kept-holdings views seat v u me refl h.frames.holdings;
    };
    pages = record {
      page_locks = keep (λ (v : View). v.pages) (λ l. PageLocksHeld w.pages l (map (λ (v : View). v.locks) (set views seat u))) views seat v u me refl
          (change (λ (v : View). v.locks) (PageLocksHeld w.pages (map (λ (v : View). v.pages) views)) views seat u page-locks-listed);
      translations = h.pages.translations;
      caches = change (λ (v : View). (v.locks, v.pages)) (CacheWordsOwned w.frames w.caches) views seat u caches-listed;
      bodies = change holder_of (BodiesAtHome layout w.frames w.caches w.pages homes) views seat u bodies-listed;
      fits = PartKeeps.kept-fits views seat v u me refl refl h.pages.fits;
    };
    histories = PartKeeps.same-histories views seat v u me refl h.histories;
    failures = PartKeeps.same-failures views seat v u me refl h.failures;
    processors = PartKeeps.same-processors views seat v u me refl h.processors;
  }
