-- A step on a frame's lock keeps the frame rule: what is to be known of the locks, of the slot and of the bodies in hand.
use Rattle.std.proofs.Common.{◌≡◌, ◌≢◌, ℕ, ◌+◌, ◌<◌, ◌≤◌, ◌==◌, ◌⊎◌, min, Bool, true, false, cond, List, Option, Some, None, map, set, length, slice_get, inl, inr, refl, sym, ap, ◌∙◌, subst, arith}
use Rattle.std.proofs.lemmas.Option.{same_Some}
use Rattle.std.specs.List.{sum_by}
use Rattle.hwp_page.specs.hwp_geom.declared.Layout.{Layout}
use Rattle.hwp_words.specs.Frames.{lock_of, count_of, owner_of, handled_of, is_kernel}
use Rattle.hwp_core_rule.specs.declared.log.Log.{Log}
use Rattle.hwp_core_rule.specs.declared.view.FrameLock.{FrameLock}
use Rattle.hwp_core_rule.specs.declared.view.InHand.{InHand}
use Rattle.hwp_core_rule.specs.declared.view.Length.{Length}
use Rattle.hwp_core_rule.specs.declared.view.PageLock.{PageLock}
use Rattle.hwp_core_rule.specs.declared.view.View.{View}
use Rattle.hwp_core_rule.specs.Lists.{Homes, EachMember}
use Rattle.hwp_core_rule.specs.Rule.{FrameRule, holder_of}
use Rattle.hwp_core_rule.specs.Views.{refs_on, locks_on, page_locks_on}
use Rattle.hwp_core_rule.specs.Words.{Words, free_bit}
use Rattle.hwp_core_rule.specs.parts.Bodies.{BodiesAtHome, Holder, IsAtHome, IsHolding}
use Rattle.hwp_core_rule.specs.parts.Counts.{CountsBalance, named}
use Rattle.hwp_core_rule.specs.parts.Locks.{FrameLocksHeld, PageLocksHeld, IsLocked}
use Rattle.hwp_core_rule.specs.parts.Owners.{CacheWordsOwned, HoldsBoth}
use Rattle.hwp_core_rule.specs.parts.Places.{HasOnePlace, in_hand}
use Rattle.hwp_core_rule.proofs.Lists.{change, at_map, at_set, set_here, set_else, same-or, set_again, sum-set, term-le, each-set}
use Rattle.hwp_core_rule.proofs.FrameWordLaws.{IsLike, word-was, like-translations, like-caches, placed-again, like-handed-all, counted-again, locked-again, like-failures}
use Rattle.hwp_core_rule.proofs.BodySlots.{Carries}
use Rattle.hwp_core_rule.proofs.BodySlots
use Rattle.hwp_core_rule.proofs.PartKeeps

-- The word of frame f becomes `now`, its slot y; of a view v with references to the frame the locks, the page locks, the
-- bodies in hand and the lengths become these. Of y, and of each new member, what the parts ask of it.
pub record Locking (layout : Layout) (w : Words) (homes : Homes) (views : List View) (seat : ℕ) (v : View) (f word now : ℕ) (y : Option (Option Log)) (locks : List FrameLock) (pages : List PageLock) (bodies : List InHand) (lengths : List Length) : Type 1 where
  pub like : IsLike word now
  pub count : count_of now ≡ count_of word
  pub carries : Carries layout w homes views seat v f y pages bodies lengths
  -- the locks
  pub here : lock_of now + locks_on f v.locks ≡ lock_of word + locks_on f locks
  pub others : (g : ℕ) → g ≢ f → locks_on g locks ≡ locks_on g v.locks
  pub known : EachMember (IsLocked (set w.frames f now) v.refs) locks
  pub twice : length locks ≤ 2
  pub page_locks : (q : ℕ) → page_locks_on q pages ≡ page_locks_on q v.pages
  pub page_once : length pages ≡ length v.pages
  pub cached : (g x q : ℕ) → slice_get w.frames g ≡ Some x → owner_of x ≡ q + 1 → HoldsBoth g q (v.locks, v.pages) → (slice_get w.caches q ≡ Some (g + 1)) ⊎ HoldsBoth g q (locks, v.pages)
  -- the slot
  pub free_home : lock_of now ≡ 0 → IsAtHome (set homes f y) f (owner_of now)
  pub out : lock_of now ≡ 1 → slice_get (set homes f y) f ≡ Some None
  pub in_hand : EachMember (λ (b : InHand). IsHolding b (record { locks = locks; pages = pages; bodies = bodies })) bodies

module _ (layout : Layout) (w : Words) (homes : Homes) (views : List View) (seat : ℕ) (v : View) (f word now : ℕ) (y : Option (Option Log)) (locks : List FrameLock) (pages : List PageLock) (bodies : List InHand) (lengths : List Length) where
  abbrev u : View
  u = record v { locks = locks; pages = pages; bodies = bodies; lengths = lengths }

  abbrev frames : List ℕ
  frames = set w.frames f now

  module _ (me : slice_get views seat ≡ Some v) (h : FrameRule layout w homes views) (there : slice_get w.frames f ≡ Some word) (some : 0 < refs_on f v.refs)
      (x : Locking layout w homes views seat v f word now y locks pages bodies lengths) where
    -- the frame is counted, so it is in none of the other places
    counted : 0 < count_of word
    counted =
        let balance : count_of word ≡ named f w.trans + named f w.caches + sum_by (refs_on f) (map (λ (v : View). v.refs) views) + handled_of word = h.frames.counts.balance f word there in
        let mine : refs_on f v.refs ≤ sum_by (refs_on f) (map (λ (v : View). v.refs) views) = term-le (refs_on f) (map (λ (v : View). v.refs) views) seat v.refs (at_map (λ (v : View). v.refs) views seat v me) in
        omega (arith, some)

    not-idle : 0 < free_bit w.frees f + in_hand f (map (λ (v : View). v.hands) views) → ⊥
    not-idle idle = which (is_kernel word) refl
      where
        which : (b : Bool) → is_kernel word ≡ b → ⊥
        which true e = omega (arith, counted, (h.frames.places.kernels f word there e).uncounted)
        which false e = omega (arith, counted, idle, h.frames.places.placed f word there e)

    counts-locking : CountsBalance frames w.trans w.caches (map (λ (v : View). v.refs) views)
    counts-locking = subst (CountsBalance frames w.trans w.caches) (set_again (map (λ (v : View). v.refs) views) seat v.refs my_refs)
        (counted-again w.frames f word now there x.like w.trans w.caches (map (λ (v : View). v.refs) views) seat v.refs v.refs my_refs (ap (λ (n : ℕ). n + refs_on f v.refs) x.count) (λ g differs. refl) h.frames.counts)
      where
        my_refs : slice_get (map (λ (v : View). v.refs) views) seat ≡ Some v.refs
        my_refs = at_map (λ (v : View). v.refs) views seat v me

    places-locking : HasOnePlace layout.kernel frames w.frees (map (λ (v : View). v.hands) views)
    places-locking = placed-again w.frames f word now there x.like layout.kernel w.frees (map (λ (v : View). v.hands) views) (map (λ (v : View). v.hands) views) counted (λ g differs. refl)
        (λ usable. subst (λ (n : ℕ). free_bit w.frees f + in_hand f (map (λ (v : View). v.hands) views) + min n 1 ≡ 1) (sym x.count) (h.frames.places.placed f word there usable))
        (λ idle. absurd (not-idle idle)) (like-handed-all w.frames f word now there x.like (map (λ (v : View). v.hands) views) h.frames.places.handed) h.frames.places

    page-locks-locking : PageLocksHeld w.pages (set (map (λ (v : View). v.pages) views) seat pages) (set (map (λ (v : View). v.locks) views) seat locks)
    page-locks-locking = record {
      one = λ q p there'.
          let was : sum_by (page_locks_on q) (map (λ (v : View). v.pages) views) ≡ lock_of p = h.pages.page_locks.one q p there' in
          let moved : sum_by (page_locks_on q) (set (map (λ (v : View). v.pages) views) seat pages) + page_locks_on q v.pages ≡ sum_by (page_locks_on q) (map (λ (v : View). v.pages) views) + page_locks_on q pages =
          sum-set (page_locks_on q) (map (λ (v : View). v.pages) views) seat v.pages pages (at_map (λ (v : View). v.pages) views seat v me) in
          let same : page_locks_on q pages ≡ page_locks_on q v.pages = x.page_locks q in
          omega arith;
      page_once = each-set (λ (l : List PageLock). length l ≤ 1) (map (λ (v : View). v.pages) views) seat pages
          (subst (λ (n : ℕ). n ≤ 1) (sym x.page_once) (h.pages.page_locks.page_once seat v.pages (at_map (λ (v : View). v.pages) views seat v me))) h.pages.page_locks.page_once;
      frames_twice = each-set (λ (l : List FrameLock). length l ≤ 2) (map (λ (v : View). v.locks) views) seat locks x.twice h.pages.page_locks.frames_twice;
    }

    caches-locking : CacheWordsOwned frames w.caches (set (map (λ (v : View). (v.locks, v.pages)) views) seat (locks, pages))
    caches-locking = record {
      owned = still.owned;
      named = λ g z q at owner.
          let was : (a : ℕ) × (slice_get w.frames g ≡ Some a) × IsLike a z = word-was w.frames f word now there x.like g z at in
          let owned : owner_of was.0 ≡ q + 1 = sym was.2.owner ∙ owner in
          elim (h.pages.caches.named g was.0 q was.1 owned) [
            | inl cached ↦ inl cached
            | inr both ↦ elim (same-or both.0 seat) [
              | inl same ↦
                  let mine : both.1 ≡ (v.locks, v.pages) = same_Some both.1 (v.locks, v.pages) (sym both.2 ∙ ap (slice_get (map (λ (v : View). (v.locks, v.pages)) views)) same ∙ my_locks) in
                  elim (x.cached g was.0 q was.1 owned (subst (HoldsBoth g q) mine both.3)) [
                    | inl cached ↦ inl cached
                    | inr holds ↦ inr (
                      seat,
                      (locks, pages),
                      set_here (map (λ (v : View). (v.locks, v.pages)) views) seat (locks, pages) (v.locks, v.pages) my_locks,
                      record { frame = holds.frame; page = subst (λ (n : ℕ). 0 < n) (sym (x.page_locks q)) holds.page },
                    )
                  ]
              | inr differs ↦ inr (both.0, both.1, set_else (map (λ (v : View). (v.locks, v.pages)) views) seat both.0 (locks, pages) differs ∙ both.2, both.3)
            ]
          ];
      within = still.within;
    }
      where
        still : CacheWordsOwned frames w.caches (map (λ (v : View). (v.locks, v.pages)) views)
        still = like-caches w.frames f word now there x.like w.caches (map (λ (v : View). (v.locks, v.pages)) views) h.pages.caches

        my_locks : slice_get {X = List FrameLock × List PageLock} (map (λ (v : View). (v.locks, v.pages)) views) seat ≡ Some (v.locks, v.pages)
        my_locks = at_map (λ (v : View). (v.locks, v.pages)) views seat v me

    bodies-locking : f < layout.frames → BodiesAtHome layout frames w.caches w.pages (set homes f y) (set (map holder_of views) seat (holder_of u))
    bodies-locking less = record {
      frame_home = λ g z at free. elim (at_set w.frames f g now z at) [
        | inl t ↦ subst (λ (p : ℕ × ℕ). IsAtHome (set homes f y) p.0 (owner_of p.1)) (λ i. (sym t.0 i, t.1 i)) (x.free_home (ap lock_of t.1 ∙ free))
        | inr t ↦
            let was : IsAtHome homes g (owner_of z) = h.pages.bodies.frame_home g z t.1 free in
            record { content = was.content; there = set_else homes f g y t.0 ∙ was.there; named = was.named }
      ];
      frame_out = λ g z at locked. elim (at_set w.frames f g now z at) [
        | inl t ↦ ap (slice_get (set homes f y)) t.0 ∙ x.out (ap lock_of t.1 ∙ locked)
        | inr t ↦ set_else homes f g y t.0 ∙ h.pages.bodies.frame_out g z t.1 locked
      ];
      shelf_home = λ q p c at cache free.
          let was : IsAtHome homes (layout.frames + q) (cond (c == 0) (q + 1) 0) = h.pages.bodies.shelf_home q p c at cache free in
          record { content = was.content; there = set_else homes f (layout.frames + q) y (λ e. absurd (omega (arith, less, e))) ∙ was.there; named = was.named };
      shelf_out = λ q p at locked. set_else homes f (layout.frames + q) y (λ e. absurd (omega (arith, less, e))) ∙ h.pages.bodies.shelf_out q p at locked;
      one = BodySlots.one-carried layout w homes views seat v me h f y locks pages bodies lengths x.carries;
      in_hand = each-set (λ (o : Holder). EachMember (λ (b : InHand). IsHolding b o) o.bodies) (map holder_of views) seat (holder_of u) x.in_hand h.pages.bodies.in_hand;
    }

    pub keeps-locking : f < layout.frames → FrameRule layout (record w { frames = set w.frames f now }) (set homes f y) (set views seat u)
    keeps-locking less = record {
      frames = record {
        counts = PartKeeps.kept-counts views seat v u me refl counts-locking;
        places = PartKeeps.kept-places views seat v u me refl places-locking;
        frame_locks = change (λ (v : View). (v.refs, v.locks)) (FrameLocksHeld frames) views seat u
            (locked-again w.frames f word now there x.like (map (λ (v : View). (v.refs, v.locks)) views) seat (v.refs, v.locks) (v.refs, locks) (at_map (λ (v : View). (v.refs, v.locks)) views seat v me) x.here x.others x.known h.frames.frame_locks);
        free = PartKeeps.kept-free views seat v u me refl h.frames.free;
        holdings = PartKeeps.kept-holdings views seat v u me refl h.frames.holdings;
      };
      pages = record {
        page_locks = change (λ (v : View). v.locks) (PageLocksHeld w.pages (map (λ (v : View). v.pages) (set views seat u))) views seat u
            (change (λ (v : View). v.pages) (λ l. PageLocksHeld w.pages l (set (map (λ (v : View). v.locks) views) seat locks)) views seat u page-locks-locking);
        translations = like-translations w.frames f word now there x.like layout.trans w.trans h.pages.translations;
        caches = change (λ (v : View). (v.locks, v.pages)) (CacheWordsOwned frames w.caches) views seat u caches-locking;
        bodies = change holder_of (BodiesAtHome layout frames w.caches w.pages (set homes f y)) views seat u (bodies-locking less);
        fits = BodySlots.fits-carried layout w homes views seat v me h f y locks pages bodies lengths x.carries;
      };
      histories = BodySlots.histories-carried layout w homes views seat v me h f y locks pages bodies lengths x.carries;
      failures = like-failures w.frames f word now there x.like (BodySlots.failures-carried layout w homes views seat v me h f y locks pages bodies lengths x.carries);
      processors = BodySlots.processors-carried layout w homes views seat v me h f y locks pages bodies lengths x.carries;
    }
