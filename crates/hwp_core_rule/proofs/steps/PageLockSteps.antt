-- A step on a page's lock keeps the frame rule: what is to be known of the lock, of the shelf and of the bodies in hand.
use Rattle.std.proofs.Common.{◌≡◌, ◌≢◌, ℕ, ◌+◌, ◌≤◌, ◌==◌, ◌⊎◌, cond, List, Option, Some, None, map, set, length, slice_get, inl, inr, refl, sym, ap, ◌∙◌, subst, arith}
use Rattle.std.proofs.lemmas.Option.{same_Some, slice_get_within}
use Rattle.std.specs.List.{sum_by}
use Rattle.hwp_page.specs.hwp_geom.declared.Layout.{Layout}
use Rattle.hwp_words.specs.Frames.{lock_of, owner_of}
use Rattle.hwp_core_rule.specs.declared.log.Log.{Log}
use Rattle.hwp_core_rule.specs.declared.view.FrameLock.{FrameLock}
use Rattle.hwp_core_rule.specs.declared.view.InHand.{InHand}
use Rattle.hwp_core_rule.specs.declared.view.Length.{Length}
use Rattle.hwp_core_rule.specs.declared.view.PageLock.{PageLock}
use Rattle.hwp_core_rule.specs.declared.view.View.{View}
use Rattle.hwp_core_rule.specs.Lists.{Homes, EachMember}
use Rattle.hwp_core_rule.specs.Rule.{FrameRule, holder_of}
use Rattle.hwp_core_rule.specs.Views.{page_locks_on}
use Rattle.hwp_core_rule.specs.Words.{Words}
use Rattle.hwp_core_rule.specs.parts.Bodies.{BodiesAtHome, Holder, IsAtHome, IsHolding}
use Rattle.hwp_core_rule.specs.parts.Locks.{PageLocksHeld}
use Rattle.hwp_core_rule.specs.parts.Owners.{CacheWordsOwned, HoldsBoth}
use Rattle.hwp_core_rule.proofs.Lists.{change, keep, at_map, at_set, set_here, set_else, same-or, sum-set, each-set}
use Rattle.hwp_core_rule.proofs.Keeps.{IsShaped}
use Rattle.hwp_core_rule.proofs.BodySlots.{Carries}
use Rattle.hwp_core_rule.proofs.BodySlots
use Rattle.hwp_core_rule.proofs.PartKeeps

-- The word of page p becomes `now`, its shelf y; of a view v the page locks, the bodies in hand and the lengths become
-- these. Of y, and of each new member, what the parts ask of it.
pub record Paging (layout : Layout) (w : Words) (homes : Homes) (views : List View) (seat : ℕ) (v : View) (p word now : ℕ) (y : Option (Option Log)) (pages : List PageLock) (bodies : List InHand) (lengths : List Length) : Type 1 where
  pub carries : Carries layout w homes views seat v (layout.frames + p) y pages bodies lengths
  -- the lock
  pub here : lock_of now + page_locks_on p v.pages ≡ lock_of word + page_locks_on p pages
  pub others : (q : ℕ) → q ≢ p → page_locks_on q pages ≡ page_locks_on q v.pages
  pub once : length pages ≤ 1
  pub cached : (f x q : ℕ) → slice_get w.frames f ≡ Some x → owner_of x ≡ q + 1 → HoldsBoth f q (v.locks, v.pages) → (slice_get w.caches q ≡ Some (f + 1)) ⊎ HoldsBoth f q (v.locks, pages)
  -- the shelf
  pub free_home : lock_of now ≡ 0 → (c : ℕ) → slice_get w.caches p ≡ Some c → IsAtHome (set homes (layout.frames + p) y) (layout.frames + p) (cond (c == 0) (p + 1) 0)
  pub out : lock_of now ≡ 1 → slice_get (set homes (layout.frames + p) y) (layout.frames + p) ≡ Some None
  pub in_hand : EachMember (λ (b : InHand). IsHolding b (record { locks = v.locks; pages = pages; bodies = bodies })) bodies

module _ (layout : Layout) (w : Words) (homes : Homes) (views : List View) (seat : ℕ) (v : View) (p word now : ℕ) (y : Option (Option Log)) (pages : List PageLock) (bodies : List InHand) (lengths : List Length) where
  abbrev u : View
  u = record v { pages = pages; bodies = bodies; lengths = lengths }

  abbrev words : List ℕ
  words = set w.pages p now

  abbrev shelf : ℕ
  shelf = layout.frames + p

  abbrev after : Homes
  after = set homes (layout.frames + p) y

  module _ (me : slice_get views seat ≡ Some v) (h : FrameRule layout w homes views) (shaped : IsShaped layout w homes) (there : slice_get w.pages p ≡ Some word)
      (x : Paging layout w homes views seat v p word now y pages bodies lengths) where
    page-locks-paging : PageLocksHeld words (set (map (λ (v : View). v.pages) views) seat pages) (map (λ (v : View). v.locks) views)
    page-locks-paging = record {
      one = λ q z at.
          let moved : sum_by (page_locks_on q) (set (map (λ (v : View). v.pages) views) seat pages) + page_locks_on q v.pages ≡ sum_by (page_locks_on q) (map (λ (v : View). v.pages) views) + page_locks_on q pages =
          sum-set (page_locks_on q) (map (λ (v : View). v.pages) views) seat v.pages pages (at_map (λ (v : View). v.pages) views seat v me) in
          elim (at_set w.pages p q now z at) [
            | inl t ↦
                let was : sum_by (page_locks_on q) (map (λ (v : View). v.pages) views) ≡ lock_of word = h.pages.page_locks.one q word (ap (slice_get w.pages) t.0 ∙ there) in
                let both : lock_of now + page_locks_on q v.pages ≡ lock_of word + page_locks_on q pages = subst (λ (n : ℕ). lock_of now + page_locks_on n v.pages ≡ lock_of word + page_locks_on n pages) (sym t.0) x.here in
                let is : lock_of now ≡ lock_of z = ap lock_of t.1 in
                omega arith
            | inr t ↦
                let was : sum_by (page_locks_on q) (map (λ (v : View). v.pages) views) ≡ lock_of z = h.pages.page_locks.one q z t.1 in
                let same : page_locks_on q pages ≡ page_locks_on q v.pages = x.others q t.0 in
                omega arith
          ];
      page_once = each-set (λ (l : List PageLock). length l ≤ 1) (map (λ (v : View). v.pages) views) seat pages x.once h.pages.page_locks.page_once;
      frames_twice = h.pages.page_locks.frames_twice;
    }

    caches-paging : CacheWordsOwned w.frames w.caches (set (map (λ (v : View). (v.locks, v.pages)) views) seat (v.locks, pages))
    caches-paging = record {
      owned = h.pages.caches.owned;
      named = λ f z q at owner. elim (h.pages.caches.named f z q at owner) [
        | inl cached ↦ inl cached
        | inr both ↦ elim (same-or both.0 seat) [
          | inl same ↦
              let mine : both.1 ≡ (v.locks, v.pages) = same_Some both.1 (v.locks, v.pages) (sym both.2 ∙ ap (slice_get (map (λ (v : View). (v.locks, v.pages)) views)) same ∙ my_locks) in
              elim (x.cached f z q at owner (subst (HoldsBoth f q) mine both.3)) [
                | inl cached ↦ inl cached
                | inr holds ↦ inr (seat, (v.locks, pages), set_here (map (λ (v : View). (v.locks, v.pages)) views) seat (v.locks, pages) (v.locks, v.pages) my_locks, holds)
              ]
          | inr differs ↦ inr (both.0, both.1, set_else (map (λ (v : View). (v.locks, v.pages)) views) seat both.0 (v.locks, pages) differs ∙ both.2, both.3)
        ]
      ];
      within = h.pages.caches.within;
    }
      where
        my_locks : slice_get {X = List FrameLock × List PageLock} (map (λ (v : View). (v.locks, v.pages)) views) seat ≡ Some (v.locks, v.pages)
        my_locks = at_map (λ (v : View). (v.locks, v.pages)) views seat v me

    at-home : (slot name : ℕ) → slot ≢ layout.frames + p → IsAtHome homes slot name → IsAtHome after slot name
    at-home slot name differs was = record { content = was.content; there = set_else homes (layout.frames + p) slot y differs ∙ was.there; named = was.named }

    not-frame : (f z : ℕ) → slice_get w.frames f ≡ Some z → f ≢ layout.frames + p
    not-frame f z at same = omega (arith, slice_get_within w.frames f z at, shaped.frames, same)

    bodies-paging : BodiesAtHome layout w.frames w.caches words after (set (map holder_of views) seat (holder_of u))
    bodies-paging = record {
      frame_home = λ f z at free. at-home f (owner_of z) (not-frame f z at) (h.pages.bodies.frame_home f z at free);
      frame_out = λ f z at locked. set_else homes (layout.frames + p) f y (not-frame f z at) ∙ h.pages.bodies.frame_out f z at locked;
      shelf_home = λ q z c at cache free. elim (at_set w.pages p q now z at) [
        | inl t ↦ subst (λ (n : ℕ). IsAtHome after (layout.frames + n) (cond (c == 0) (n + 1) 0)) (sym t.0) (x.free_home (ap lock_of t.1 ∙ free) c (ap (slice_get w.caches) (sym t.0) ∙ cache))
        | inr t ↦ at-home (layout.frames + q) (cond (c == 0) (q + 1) 0) (λ e. t.0 (omega (arith, e))) (h.pages.bodies.shelf_home q z c t.1 cache free)
      ];
      shelf_out = λ q z at locked. elim (at_set w.pages p q now z at) [
        | inl t ↦ ap (λ (n : ℕ). slice_get after (layout.frames + n)) t.0 ∙ x.out (ap lock_of t.1 ∙ locked)
        | inr t ↦ set_else homes (layout.frames + p) (layout.frames + q) y (λ e. t.0 (omega (arith, e))) ∙ h.pages.bodies.shelf_out q z t.1 locked
      ];
      one = BodySlots.one-carried layout w homes views seat v me h (layout.frames + p) y v.locks pages bodies lengths x.carries;
      in_hand = each-set (λ (o : Holder). EachMember (λ (b : InHand). IsHolding b o) o.bodies) (map holder_of views) seat (holder_of u) x.in_hand h.pages.bodies.in_hand;
    }

    pub keeps-paging : FrameRule layout (record w { pages = set w.pages p now }) (set homes (layout.frames + p) y) (set views seat u)
    keeps-paging = record {
      frames = PartKeeps.same-frames views seat v u me refl h.frames;
      pages = record {
        page_locks = keep (λ (v : View). v.locks) (PageLocksHeld words (map (λ (v : View). v.pages) (set views seat u))) views seat v u me refl
            (change (λ (v : View). v.pages) (λ l. PageLocksHeld words l (map (λ (v : View). v.locks) views)) views seat u page-locks-paging);
        translations = h.pages.translations;
        caches = change (λ (v : View). (v.locks, v.pages)) (CacheWordsOwned w.frames w.caches) views seat u caches-paging;
        bodies = change holder_of (BodiesAtHome layout w.frames w.caches words after) views seat u bodies-paging;
        fits = BodySlots.fits-carried layout w homes views seat v me h (layout.frames + p) y v.locks pages bodies lengths x.carries;
      };
      histories = BodySlots.histories-carried layout w homes views seat v me h (layout.frames + p) y v.locks pages bodies lengths x.carries;
      failures = BodySlots.failures-carried layout w homes views seat v me h (layout.frames + p) y v.locks pages bodies lengths x.carries;
      processors = BodySlots.processors-carried layout w homes views seat v me h (layout.frames + p) y v.locks pages bodies lengths x.carries;
    }
