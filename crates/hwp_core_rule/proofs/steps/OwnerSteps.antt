-- The owner of a locked frame changes: the parts that don't speak of owners stay.
use Rattle.std.proofs.Common.{◌≡◌, ◌≢◌, ℕ, ◌+◌, ◌<◌, ◌≤◌, ◌==◌, min, eqb-true, Bool, true, false, cond, List, Some, None, map, set, length, slice_get, inl, inr, refl, sym, ap, ◌∙◌, subst, arith}
use Rattle.std.specs.Int.{from_bool}
use Rattle.std.specs.List.{sum_by}
use Rattle.std.proofs.lemmas.Bool.{eqb-false}
use Rattle.std.proofs.lemmas.Option.{same_Some}
use Rattle.hwp_page.specs.hwp_geom.declared.Frame.{Frame}
use Rattle.hwp_page.specs.hwp_geom.declared.Layout.{Layout}
use Rattle.hwp_words.specs.Frames.{lock_of, poison_of, handled_of, kernel_of, count_of, owner_of, cycle_of, is_kernel}
use Rattle.hwp_words.proofs.FrameSteps.{FieldsAre}
use Rattle.hwp_core_rule.specs.declared.log.Log.{Log}
use Rattle.hwp_core_rule.specs.declared.view.FrameLock.{FrameLock}
use Rattle.hwp_core_rule.specs.declared.view.InHand.{InHand}
use Rattle.hwp_core_rule.specs.declared.view.Ref.{Ref}
use Rattle.hwp_core_rule.specs.declared.view.View.{View}
use Rattle.hwp_core_rule.specs.Lists.{Homes, EachMember, sum_bodies}
use Rattle.hwp_core_rule.specs.Rule.{FrameRule, holder_of}
use Rattle.hwp_core_rule.specs.Views.{changed, is_lock_of, refs_on, locks_on}
use Rattle.hwp_core_rule.specs.Words.{Words, free_bit}
use Rattle.hwp_core_rule.specs.parts.Bodies.{BodiesAtHome, Holder, IsAtHome, IsHolding}
use Rattle.hwp_core_rule.specs.parts.Counts.{CountsBalance, named}
use Rattle.hwp_core_rule.specs.parts.Handled.{HandledIsPoisoned, IsOutOfUse}
use Rattle.hwp_core_rule.specs.parts.Locks.{FrameLocksHeld, PageLocksHeld, IsLocked}
use Rattle.hwp_core_rule.specs.parts.Owners.{TranslationsOwned, CacheWordsOwned}
use Rattle.hwp_core_rule.specs.parts.Places.{HasOnePlace, IsApart, IsBare, in_hand}
use Rattle.hwp_core_rule.proofs.Lists.{change, keep, at_map, at_set, at_changed, map-was, same-number, set_here, set_else, each-set, length-changed, sum-changed, sum-set, term-le, terms-le}
use Rattle.hwp_core_rule.proofs.PartKeeps
use Rattle.hwp_core_rule.proofs.FrameFields.{failures-kept, handed-kept}

module _ (layout : Layout) (w : Words) (homes : Homes) (views : List View) (seat : ℕ) (v : View) (frame : Frame) (word now b : ℕ) where
  abbrev to : FrameLock → FrameLock
  to l = record l { owner = b }

  abbrev pub owning : View
  owning = record v { locks = changed (is_lock_of frame) to v.locks }

  abbrev frames : List ℕ
  frames = set w.frames frame.0 now

  abbrev held : List (List Ref × List FrameLock)
  held = map (λ (v : View). (v.refs, v.locks)) views

  pub same-locks : (g : ℕ) → locks_on g owning.locks ≡ locks_on g v.locks
  same-locks g = sum-changed (λ (l : FrameLock). from_bool (l.frame.0 == g)) (is_lock_of frame) to v.locks (λ l. refl)

  module _ (me : slice_get views seat ≡ Some v) (h : FrameRule layout w homes views) (there : slice_get w.frames frame.0 ≡ Some word)
      (are : FieldsAre now (lock_of word) (poison_of word) (handled_of word) (kernel_of word) (count_of word) b (cycle_of word)) (mine : 0 < locks_on frame.0 v.locks) (unhandled : handled_of word ≡ 0) where
    locked : lock_of word ≡ 1
    locked =
        let one : sum_by (λ (x : List Ref × List FrameLock). locks_on frame.0 x.1) held ≡ lock_of word = h.frames.frame_locks.one frame.0 word there in
        let more : locks_on frame.0 v.locks ≤ sum_by (λ (x : List Ref × List FrameLock). locks_on frame.0 x.1) held = term-le (λ (x : List Ref × List FrameLock). locks_on frame.0 x.1) held seat (v.refs, v.locks) (at_map (λ (v : View). (v.refs, v.locks)) views seat v me) in
        let bit : lock_of word < 2 = omega arith in
        omega (arith, mine, one, more, bit)

    counts-owning : CountsBalance frames w.trans w.caches (map (λ (v : View). v.refs) views)
    counts-owning = record {
      balance = at_changed (λ g x. count_of x ≡ named g w.trans + named g w.caches + sum_by (refs_on g) (map (λ (v : View). v.refs) views) + handled_of x) w.frames frame.0 now
          (are.count ∙ h.frames.counts.balance frame.0 word there ∙ ap (λ (n : ℕ). named frame.0 w.trans + named frame.0 w.caches + sum_by (refs_on frame.0) (map (λ (v : View). v.refs) views) + n) (sym are.handled))
          (λ g x differs at. h.frames.counts.balance g x at);
    }

    kernel-same : is_kernel now ≡ is_kernel word
    kernel-same = ap (λ (n : ℕ). n == 1) are.kernel

    places-owning : HasOnePlace layout.kernel frames w.frees (map (λ (v : View). v.hands) views)
    places-owning = record {
      declared = λ g x k at is. at_changed (λ g x. slice_get layout.kernel g ≡ Some k → is_kernel x ≡ k) w.frames frame.0 now (λ is. kernel-same ∙ h.frames.places.declared frame.0 word k there is) (λ g x differs at is. h.frames.places.declared g x k at is) g x at is;
      placed = at_changed (λ g x. is_kernel x ≡ false → free_bit w.frees g + in_hand g (map (λ (v : View). v.hands) views) + min (count_of x) 1 ≡ 1) w.frames frame.0 now
          (λ usable. ap (λ (n : ℕ). free_bit w.frees frame.0 + in_hand frame.0 (map (λ (v : View). v.hands) views) + min n 1) are.count ∙ h.frames.places.placed frame.0 word there (sym kernel-same ∙ usable))
          (λ g x differs at usable. h.frames.places.placed g x at usable);
      idle = at_changed (λ g x. 0 < free_bit w.frees g + in_hand g (map (λ (v : View). v.hands) views) → IsBare x) w.frames frame.0 now
          (λ idle. let free : lock_of word ≡ 0 = (h.frames.places.idle frame.0 word there idle).unlocked in absurd (omega (arith, free, locked)))
          (λ g x differs at idle. h.frames.places.idle g x at idle);
      handed = handed-kept w.frames frame.0 word now there are.poison (map (λ (v : View). v.hands) views) h.frames.places.handed;
      kernels = at_changed (λ g x. is_kernel x ≡ true → IsApart w.frees (map (λ (v : View). v.hands) views) g x) w.frames frame.0 now
          (λ kernel. let free : lock_of word ≡ 0 = (h.frames.places.kernels frame.0 word there (sym kernel-same ∙ kernel)).bare.unlocked in absurd (omega (arith, free, locked)))
          (λ g x differs at kernel. h.frames.places.kernels g x at kernel);
    }

    -- a lock of another frame, and that of this one
    still-locked : (refs : List Ref) (l : FrameLock) → l.frame.0 ≢ frame.0 → IsLocked w.frames refs l → IsLocked frames refs l
    still-locked refs l differs k = record {
      word = k.word;
      there = set_else w.frames frame.0 l.frame.0 now differs ∙ k.there;
      owner = k.owner;
      handled = k.handled;
      poisoned = k.poisoned;
      referenced = k.referenced;
    }

    now-locked : (l : FrameLock) → l.frame.0 ≡ frame.0 → IsLocked w.frames v.refs l → IsLocked frames v.refs (to l)
    now-locked l same k = record {
      word = now;
      there = ap (slice_get frames) same ∙ set_here w.frames frame.0 now word there;
      owner = are.owner;
      handled = ap (λ (n : ℕ). n == 1) (are.handled ∙ ap handled_of was) ∙ k.handled;
      poisoned = λ e. ap (λ (n : ℕ). n == 1) (are.poison ∙ ap poison_of was) ∙ k.poisoned e;
      referenced = k.referenced;
    }
      where
        was : word ≡ k.word
        was = same_Some word k.word (sym there ∙ ap (slice_get w.frames) (sym same) ∙ k.there)

    locks-owning : FrameLocksHeld frames (set held seat (v.refs, owning.locks))
    locks-owning = record {
      one = at_changed (λ g x. sum_by (λ (x : List Ref × List FrameLock). locks_on g x.1) (set held seat (v.refs, owning.locks)) ≡ lock_of x) w.frames frame.0 now
          (total frame.0 ∙ h.frames.frame_locks.one frame.0 word there ∙ sym are.lock) (λ g x differs at. total g ∙ h.frames.frame_locks.one g x at);
      known = λ i x is j l at. elim (at_set held seat i (v.refs, owning.locks) x is) [
        | inl t ↦ subst (λ (x : List Ref × List FrameLock). IsLocked frames x.0 l) t.1 (own j l (subst (λ (x : List Ref × List FrameLock). slice_get x.1 j ≡ Some l) (sym t.1) at))
        | inr t ↦ still-locked x.0 l (λ same. another i x t.0 t.1 j l at same) (h.frames.frame_locks.known i x t.1 j l at)
      ];
    }
      where
        here : slice_get held seat ≡ Some (v.refs, v.locks)
        here = at_map (λ (v : View). (v.refs, v.locks)) views seat v me

        on : ℕ → (List Ref × List FrameLock) → ℕ
        on g x = locks_on g x.1

        total : (g : ℕ) → sum_by (on g) (set held seat (v.refs, owning.locks)) ≡ sum_by (on g) held
        total g =
            let moved : sum_by (on g) (set held seat (v.refs, owning.locks)) + locks_on g v.locks ≡ sum_by (on g) held + locks_on g owning.locks = sum-set (on g) held seat (v.refs, v.locks) (v.refs, owning.locks) here in
            let same : locks_on g owning.locks ≡ locks_on g v.locks = same-locks g in
            omega arith

        own : (j : ℕ) (l : FrameLock) → slice_get owning.locks j ≡ Some l → IsLocked frames v.refs l
        own j l at = subst (IsLocked frames v.refs) was.2 (which (is_lock_of frame was.0) refl)
          where
            was : (x : FrameLock) × (slice_get v.locks j ≡ Some x) × (cond (is_lock_of frame x) (to x) x ≡ l)
            was = map-was (λ (x : FrameLock). cond (is_lock_of frame x) (to x) x) v.locks j l at

            which : (c : Bool) → is_lock_of frame was.0 ≡ c → IsLocked frames v.refs (cond c (to was.0) was.0)
            which true is = now-locked was.0 (eqb-true was.0.frame.0 frame.0 is) (h.frames.frame_locks.known seat (v.refs, v.locks) here j was.0 was.1)
            which false is = still-locked v.refs was.0 (eqb-false was.0.frame.0 frame.0 is) (h.frames.frame_locks.known seat (v.refs, v.locks) here j was.0 was.1)

        another : (i : ℕ) (x : List Ref × List FrameLock) → i ≢ seat → slice_get held i ≡ Some x → (j : ℕ) (l : FrameLock) → slice_get x.1 j ≡ Some l → l.frame.0 ≡ frame.0 → ⊥
        another i x differs is j l at same =
            let one : sum_by (on frame.0) held ≡ lock_of word = h.frames.frame_locks.one frame.0 word there in
            let two : locks_on frame.0 x.1 + locks_on frame.0 v.locks ≤ sum_by (on frame.0) held = terms-le (on frame.0) held i seat x (v.refs, v.locks) differs is here in
            let first : from_bool (l.frame.0 == frame.0) ≤ locks_on frame.0 x.1 = term-le (λ (l : FrameLock). from_bool (l.frame.0 == frame.0)) x.1 j l at in
            let it : from_bool (l.frame.0 == frame.0) ≡ 1 = ap from_bool (same-number l.frame.0 frame.0 same) in
            omega (arith, mine, locked, one, two, first, it)

    bodies-owning : EachMember (λ (b : InHand). IsHolding b (holder_of owning)) v.bodies → BodiesAtHome layout frames w.caches w.pages homes (set (map holder_of views) seat (holder_of owning))
    bodies-owning holding = record {
      frame_home = at_changed (λ g x. lock_of x ≡ 0 → IsAtHome homes g (owner_of x)) w.frames frame.0 now (λ free. absurd (omega (arith, free, locked, are.lock))) (λ g x differs at free. h.pages.bodies.frame_home g x at free);
      frame_out = at_changed (λ g x. lock_of x ≡ 1 → slice_get homes g ≡ Some None) w.frames frame.0 now (λ is. h.pages.bodies.frame_out frame.0 word there locked) (λ g x differs at is. h.pages.bodies.frame_out g x at is);
      shelf_home = h.pages.bodies.shelf_home;
      shelf_out = h.pages.bodies.shelf_out;
      one = λ q declared. keep (λ (x : Holder). x.bodies) (OneBody q) (map holder_of views) seat (holder_of v) (holder_of owning) (at_map holder_of views seat v me) refl (h.pages.bodies.one q declared);
      in_hand = each-set (λ (x : Holder). EachMember (λ (b : InHand). IsHolding b x) x.bodies) (map holder_of views) seat (holder_of owning) holding h.pages.bodies.in_hand;
    }
      where
        OneBody : ℕ → List (List InHand) → Type 0
        OneBody q l = sum_bodies (λ (log : Log). from_bool (log.page.0 == q)) homes l ≡ 1

    handled-owning : HandledIsPoisoned frames
    handled-owning = record {
      out = at_changed (λ g x. handled_of x ≡ 1 → IsOutOfUse x) w.frames frame.0 now (λ is. absurd (omega (arith, is, unhandled, are.handled))) (λ g x differs at is. h.failures.handled.out g x at is);
    }

    page-locks-owning : PageLocksHeld w.pages (map (λ (v : View). v.pages) views) (set (map (λ (v : View). v.locks) views) seat owning.locks)
    page-locks-owning = record {
      one = h.pages.page_locks.one;
      page_once = h.pages.page_locks.page_once;
      frames_twice = each-set (λ (l : List FrameLock). length l ≤ 2) (map (λ (v : View). v.locks) views) seat owning.locks
          (let wide : length owning.locks ≡ length v.locks = length-changed (is_lock_of frame) to v.locks in
          let few : length v.locks ≤ 2 = h.pages.page_locks.frames_twice seat v.locks (at_map (λ (v : View). v.locks) views seat v me) in
          omega arith) h.pages.page_locks.frames_twice;
    }

    -- the rule stays, where the parts on owners do
    pub kept-owning : TranslationsOwned layout.trans frames w.trans
        → CacheWordsOwned frames w.caches (set (map (λ (v : View). (v.locks, v.pages)) views) seat (owning.locks, v.pages))
        → EachMember (λ (b : InHand). IsHolding b (holder_of owning)) v.bodies
        → FrameRule layout (record w { frames = frames }) homes (set views seat owning)
    kept-owning translations caches holding = record {
      frames = record {
        counts = PartKeeps.kept-counts views seat v owning me refl counts-owning;
        places = PartKeeps.kept-places views seat v owning me refl places-owning;
        frame_locks = change (λ (v : View). (v.refs, v.locks)) (FrameLocksHeld frames) views seat owning locks-owning;
        free = PartKeeps.kept-free views seat v owning me refl h.frames.free;
        holdings = PartKeeps.kept-holdings views seat v owning me refl h.frames.holdings;
      };
      pages = record {
        page_locks = keep (λ (v : View). v.pages) (λ l. PageLocksHeld w.pages l (map (λ (v : View). v.locks) (set views seat owning))) views seat v owning me refl
            (change (λ (v : View). v.locks) (PageLocksHeld w.pages (map (λ (v : View). v.pages) views)) views seat owning page-locks-owning);
        translations = translations;
        caches = change (λ (v : View). (v.locks, v.pages)) (CacheWordsOwned frames w.caches) views seat owning caches;
        bodies = change holder_of (BodiesAtHome layout frames w.caches w.pages homes) views seat owning (bodies-owning holding);
        fits = PartKeeps.kept-fits views seat v owning me refl refl h.pages.fits;
      };
      histories = PartKeeps.same-histories views seat v owning me refl h.histories;
      failures = PartKeeps.same-failures views seat v owning me refl (failures-kept w.frames frame.0 word now there are.poison are.cycle handled-owning h.failures);
      processors = PartKeeps.same-processors views seat v owning me refl h.processors;
    }
