-- A frame in hand that gets its first reference and is locked keeps the frame rule.
use Rattle.std.proofs.Common.{◌≡◌, ◌≢◌, ℕ, ◌+◌, ◌%◌, ◌^◌, ◌<◌, ◌≤◌, ◌==◌, min, Bool, true, false, cond, List, [], ◌∷◌, ◌++◌, Some, None, map, length, set, get_or, slice_get, inl, inr, refl, sym, ap, ◌∙◌, subst, arith}
use Rattle.std.specs.Int.{from_bool}
use Rattle.std.specs.List.{sum_by}
use Rattle.std.proofs.lemmas.List.{length-append}
use Rattle.std.proofs.lemmas.Option.{slice_get-get_or}
use Rattle.hwp_page.specs.hwp_geom.declared.Frame.{Frame}
use Rattle.hwp_page.specs.hwp_geom.declared.Layout.{Layout}
use Rattle.hwp_words.specs.Frames.{count_of, owner_of, lock_of, handled_of, poison_of, kernel_of, cycle_of, is_kernel}
use Rattle.hwp_words.proofs.FrameSteps.{FieldsAre, fields-adopt}
use Rattle.hwp_core_rule.specs.declared.log.Log.{Log}
use Rattle.hwp_core_rule.specs.declared.view.FrameLock.{FrameLock}
use Rattle.hwp_core_rule.specs.declared.view.InHand.{InHand}
use Rattle.hwp_core_rule.specs.declared.view.Ref.{Ref}
use Rattle.hwp_core_rule.specs.declared.view.Sight.{Sight}
use Rattle.hwp_core_rule.specs.declared.view.View.{View}
use Rattle.hwp_core_rule.specs.Asks.{HasInHand}
use Rattle.hwp_core_rule.specs.Lists.{Homes, EachMember, sum_bodies}
use Rattle.hwp_core_rule.specs.Rule.{FrameRule, holder_of, holdings_of}
use Rattle.hwp_core_rule.specs.Views.{adopting, without, is_hand_of, with_refs, refs_on, lock_found, stamp_of, locks_on}
use Rattle.hwp_core_rule.specs.Words.{Words, free_bit}
use Rattle.hwp_core_rule.specs.parts.Bodies.{BodiesAtHome, Holder, IsAtHome, IsHolding, IsLockFor}
use Rattle.hwp_core_rule.specs.parts.Counts.{CountsBalance, named}
use Rattle.hwp_core_rule.specs.parts.Holdings.{IsBounded}
use Rattle.hwp_core_rule.specs.parts.Locks.{FrameLocksHeld, PageLocksHeld, IsLocked}
use Rattle.hwp_core_rule.specs.parts.Owners.{CacheWordsOwned, HoldsBoth}
use Rattle.hwp_core_rule.specs.parts.Places.{HasOnePlace, IsApart, IsBare, in_hand, IsHanded}
use Rattle.hwp_core_rule.proofs.Lists.{change, keep, at_map, at_set, set_here, set_else, set-set, each-set, each-push, each-weaken, some-set, term-le, same-or, not-both, from_bool-same, from_bool-other, some-push}
use Rattle.hwp_core_rule.proofs.FrameWordLaws.{IsLike, like-fields, word-was, like-translations, like-caches, like-locked, counted-again, locked-again, like-handed-all, like-failures}
use Rattle.hwp_core_rule.proofs.ListDrops.{each-without, length-without}
use Rattle.hwp_core_rule.proofs.FramesInHand.{in_hand-mine, in_hand-without, is-of}
use Rattle.hwp_core_rule.proofs.Refs.{refs-with, refs-with-other, length-with}
use Rattle.hwp_core_rule.proofs.Sights.{kept-sight, explained-frame}
use Rattle.hwp_core_rule.proofs.EmptySlots.{is_bodiless, bodiless-name, bodies-sum, slot-fits, slot-histories, slot-failures}
use Rattle.hwp_core_rule.proofs.Keeps.{IsShaped, Keeps}
use Rattle.std.proofs.lemmas.List.Sums.{sum_by_push}
use Rattle.hwp_core_rule.specs.declared.view.PageLock.{PageLock}
use Rattle.hwp_core_rule.specs.declared.shared_word.SharedWord.TheVariants as places
use Rattle.hwp_core_rule.specs.declared.step.Step.TheVariants as steps
use Rattle.hwp_core_rule.proofs.PartKeeps
use Rattle.hwp_core_rule.specs.declared.view.FrameInHand.{FrameInHand}

-- one lock more on a list
locks-push : (f : ℕ) (locks : List FrameLock) (lock : FrameLock) → locks_on f (locks ++ lock ∷ []) ≡ locks_on f locks + from_bool (lock.frame.0 == f)
locks-push f locks lock = sum_by_push (λ (l : FrameLock). from_bool (l.frame.0 == f)) locks lock

-- a view that holds both locks still does
both-push : (f q : ℕ) (locks : List FrameLock) (pages : List PageLock) (lock : FrameLock) → HoldsBoth f q (locks, pages) → HoldsBoth f q (locks ++ lock ∷ [], pages)
both-push f q locks pages lock both = record { frame = omega (arith, both.frame, locks-push f locks lock); page = both.page }

-- a view that holds a lock for a body in hand still does
holding-push : (b : InHand) (locks : List FrameLock) (pages : List PageLock) (bodies : List InHand) (lock : FrameLock)
    → IsHolding b (record { locks = locks; pages = pages; bodies = bodies }) → IsHolding b (record { locks = locks ++ lock ∷ []; pages = pages; bodies = bodies })
holding-push b locks pages bodies lock holding = elim holding [
  | inl page ↦ inl page
  | inr frame ↦ inr (some-push (IsLockFor b) locks lock frame)
]

module _ (layout : Layout) (w : Words) (homes : Homes) (views : List View) (seat : ℕ) (v : View) (me : slice_get views seat ≡ Some v) (h : FrameRule layout w homes views)
    (frame : Frame) (inside : frame.0 < layout.frames) (shaped : IsShaped layout w homes) (has : HasInHand v frame) where
  abbrev word : ℕ
  word = get_or w.frames frame.0 0

  abbrev new : ℕ
  new = (word + 17) % 2 ^ 64

  abbrev frames : List ℕ
  frames = set w.frames frame.0 new

  abbrev out : Homes
  out = set homes frame.0 None

  abbrev u : View
  u = record v { hands = without (is_hand_of frame) v.hands; refs = with_refs frame 1 v.refs; locks = v.locks ++ lock_found frame word ∷ [] }

  abbrev hands : List (List FrameInHand)
  hands = map (λ (v : View). v.hands) views

  abbrev refs : List (List Ref)
  refs = map (λ (v : View). v.refs) views

  there : slice_get w.frames frame.0 ≡ Some word
  there = slice_get-get_or w.frames frame.0 0 (omega (arith, inside, shaped.frames))

  my-hands : slice_get hands seat ≡ Some v.hands
  my-hands = at_map (λ (v : View). v.hands) views seat v me

  my-refs : slice_get refs seat ≡ Some v.refs
  my-refs = at_map (λ (v : View). v.refs) views seat v me

  some : 1 ≤ in_hand frame.0 hands
  some = in_hand-mine hands seat v.hands my-hands has.1 frame has.3 has.0 has.2

  -- the frame is in a hand, and so neither free nor counted, and bare
  user : is_kernel word ≡ false
  user = which (is_kernel word) refl
    where
      which : (b : Bool) → is_kernel word ≡ b → is_kernel word ≡ false
      which true is = let none : in_hand frame.0 hands ≡ 0 = (h.frames.places.kernels frame.0 word there is).unhanded in absurd (omega (arith, some))
      which false isnt = isnt

  placed : free_bit w.frees frame.0 + in_hand frame.0 hands + min (count_of word) 1 ≡ 1
  placed = h.frames.places.placed frame.0 word there user

  bare : IsBare word
  bare = h.frames.places.idle frame.0 word there (omega (arith, some))

  uncounted : count_of word ≡ 0
  uncounted = omega (arith, some, placed)

  pub unreferenced : refs_on frame.0 v.refs ≡ 0
  unreferenced =
      let balance : count_of word ≡ named frame.0 w.trans + named frame.0 w.caches + sum_by (refs_on frame.0) refs + handled_of word = h.frames.counts.balance frame.0 word there in
      let part : refs_on frame.0 v.refs ≤ sum_by (refs_on frame.0) refs = term-le (refs_on frame.0) refs seat v.refs my-refs in
      omega (arith, uncounted)

  module _ (fits : word < 2 ^ 64) where
    are : FieldsAre new 1 (poison_of word) (handled_of word) (kernel_of word) (count_of word + 1) (owner_of word) (cycle_of word)
    are = fields-adopt word fits bare.unlocked (omega (arith, uncounted))

    like : IsLike word new
    like = like-fields word new 1 (count_of word + 1) are

    counts-adopted : CountsBalance frames w.trans w.caches (set refs seat u.refs)
    counts-adopted = counted-again w.frames frame.0 word new there like w.trans w.caches refs seat v.refs u.refs my-refs
        (omega (arith, are.count, refs-with frame 1 v.refs)) (λ g other. refs-with-other frame 1 g v.refs other) h.frames.counts

    places-adopted : HasOnePlace layout.kernel frames w.frees (set hands seat u.hands)
    places-adopted = record {
      declared = λ g x k a b.
          let was : (y : ℕ) × (slice_get w.frames g ≡ Some y) × IsLike y x = word-was w.frames frame.0 word new there like g x a in
          ap (λ (n : ℕ). n == 1) was.2.kernel ∙ h.frames.places.declared g was.0 k was.1 b;
      placed = λ g x a usable. elim (at_set w.frames frame.0 g new x a) [
        | inl t ↦ subst (λ (p : ℕ × ℕ). free_bit w.frees p.0 + in_hand p.0 (set hands seat u.hands) + min (count_of p.1) 1 ≡ 1) (λ i. (sym t.0 i, t.1 i)) here
        | inr t ↦
            let was : free_bit w.frees g + in_hand g hands + min (count_of x) 1 ≡ 1 = h.frames.places.placed g x t.1 usable in
            let same : in_hand g (set hands seat u.hands) ≡ in_hand g hands = others g t.0 in
            omega arith
      ];
      idle = λ g x a more. elim (at_set w.frames frame.0 g new x a) [
        | inl t ↦
            let none : free_bit w.frees g + in_hand g (set hands seat u.hands) ≡ 0 = subst (λ (n : ℕ). free_bit w.frees n + in_hand n (set hands seat u.hands) ≡ 0) (sym t.0) nowhere in
            absurd (omega (arith, more))
        | inr t ↦ h.frames.places.idle g x t.1 (subst (λ (n : ℕ). 0 < free_bit w.frees g + n) (others g t.0) more)
      ];
      kernels = λ g x a is. elim (at_set w.frames frame.0 g new x a) [
        | inl t ↦ absurd (not-both (is_kernel word) (ap (λ (n : ℕ). n == 1) (sym like.kernel) ∙ ap is_kernel t.1 ∙ is) user)
        | inr t ↦
            let apart : IsApart w.frees hands g x = h.frames.places.kernels g x t.1 is in
            record { bare = apart.bare; uncounted = apart.uncounted; taken = apart.taken; unhanded = others g t.0 ∙ apart.unhanded }
      ];
      handed = like-handed-all w.frames frame.0 word new there like (set hands seat u.hands)
          (each-set (EachMember (IsHanded w.frames)) hands seat u.hands (each-without (IsHanded w.frames) (is_hand_of frame) v.hands (h.frames.places.handed seat v.hands my-hands)) h.frames.places.handed);
    }
      where
        others : (g : ℕ) → g ≢ frame.0 → in_hand g (set hands seat u.hands) ≡ in_hand g hands
        others g other =
            let less : in_hand g (set hands seat u.hands) + from_bool (frame.0 == g) ≡ in_hand g hands = in_hand-without hands seat v.hands my-hands has.1 frame has.3 g has.0 has.2 in
            let none : from_bool (frame.0 == g) ≡ 0 = from_bool-other frame.0 g (λ e. other (sym e)) in
            omega arith

        nowhere : free_bit w.frees frame.0 + in_hand frame.0 (set hands seat u.hands) ≡ 0
        nowhere =
            let less : in_hand frame.0 (set hands seat u.hands) + from_bool (frame.0 == frame.0) ≡ in_hand frame.0 hands = in_hand-without hands seat v.hands my-hands has.1 frame has.3 frame.0 has.0 has.2 in
            let one : from_bool (frame.0 == frame.0) ≡ 1 = from_bool-same frame.0 frame.0 refl in
            omega (arith, some, placed)

        here : free_bit w.frees frame.0 + in_hand frame.0 (set hands seat u.hands) + min (count_of new) 1 ≡ 1
        here = omega (arith, nowhere, are.count)

    locks-adopted : FrameLocksHeld frames (set (map (λ (v : View). (v.refs, v.locks)) views) seat (u.refs, u.locks))
    locks-adopted = locked-again w.frames frame.0 word new there like (map (λ (v : View). (v.refs, v.locks)) views) seat (v.refs, v.locks) (u.refs, u.locks) held
        (omega (arith, are.lock, bare.unlocked, locks-push frame.0 v.locks (lock_found frame word), from_bool-same frame.0 frame.0 refl))
        (λ g other. omega (arith, locks-push g v.locks (lock_found frame word), from_bool-other frame.0 g (λ e. other (sym e))))
        (each-push (IsLocked frames u.refs) v.locks (lock_found frame word) found
        (each-weaken (IsLocked w.frames v.refs) (IsLocked frames u.refs) v.locks (λ l k. like-locked w.frames frame.0 word new there like v.refs u.refs l (more l.frame.0 k.referenced) k)
        (h.frames.frame_locks.known seat (v.refs, v.locks) held)))
        h.frames.frame_locks
      where
        held : slice_get {X = List Ref × List FrameLock} (map (λ (v : View). (v.refs, v.locks)) views) seat ≡ Some (v.refs, v.locks)
        held = at_map (λ (v : View). (v.refs, v.locks)) views seat v me

        more : (f : ℕ) → 0 < refs_on f v.refs → 0 < refs_on f u.refs
        more f before = elim (same-or f frame.0) [
          | inl same ↦ subst (λ (n : ℕ). 0 < refs_on n u.refs) (sym same) (omega (arith, refs-with frame 1 v.refs))
          | inr other ↦ omega (arith, refs-with-other frame 1 f v.refs other, before)
        ]

        found : IsLocked frames u.refs (lock_found frame word)
        found = record {
          word = new;
          there = set_here w.frames frame.0 new word there;
          owner = like.owner;
          handled = ap (λ (n : ℕ). n == 1) like.handled;
          poisoned = λ e. ap (λ (n : ℕ). n == 1) like.poison ∙ e;
          referenced = omega (arith, refs-with frame 1 v.refs);
        }

    caches-adopted : CacheWordsOwned frames w.caches (set (map (λ (v : View). (v.locks, v.pages)) views) seat (u.locks, v.pages))
    caches-adopted = record {
      owned = still.owned;
      named = λ g x q a owner. elim (still.named g x q a owner) [
        | inl cached ↦ inl cached
        | inr held ↦ inr (some-set (HoldsBoth g q) (map (λ (v : View). (v.locks, v.pages)) views) seat (v.locks, v.pages) (u.locks, v.pages) (at_map (λ (v : View). (v.locks, v.pages)) views seat v me)
            (both-push g q v.locks v.pages (lock_found frame word)) held)
      ];
      within = still.within;
    }
      where
        still : CacheWordsOwned frames w.caches (map (λ (v : View). (v.locks, v.pages)) views)
        still = like-caches w.frames frame.0 word new there like w.caches (map (λ (v : View). (v.locks, v.pages)) views) h.pages.caches

    -- the frame's slot was at home, empty
    slot : IsAtHome homes frame.0 (owner_of word)
    slot = h.pages.bodies.frame_home frame.0 word there bare.unlocked

    empty : is_bodiless (Some slot.content) ≡ true
    empty = bodiless-name slot.content (slot.named ∙ bare.unowned)

    bodies-adopted : BodiesAtHome layout frames w.caches w.pages out (set (map holder_of views) seat (holder_of u))
    bodies-adopted = record {
      frame_home = λ g x a free. elim (at_set w.frames frame.0 g new x a) [
        | inl t ↦ let locked : lock_of x ≡ 1 = ap lock_of (sym t.1) ∙ are.lock in absurd (omega (arith, free))
        | inr t ↦ at-home g (owner_of x) t.0 (h.pages.bodies.frame_home g x t.1 free)
      ];
      frame_out = λ g x a locked. elim (at_set w.frames frame.0 g new x a) [
        | inl t ↦ ap (slice_get out) t.0 ∙ set_here homes frame.0 None (Some slot.content) slot.there
        | inr t ↦ set_else homes frame.0 g None t.0 ∙ h.pages.bodies.frame_out g x t.1 locked
      ];
      shelf_home = λ q x c a b free. at-home (layout.frames + q) (cond (c == 0) (q + 1) 0) (λ e. absurd (omega (arith, inside))) (h.pages.bodies.shelf_home q x c a b free);
      shelf_out = λ q x a locked. set_else homes frame.0 (layout.frames + q) None (λ e. absurd (omega (arith, inside))) ∙ h.pages.bodies.shelf_out q x a locked;
      one = λ q less. keep (λ (o : Holder). o.bodies) (λ l. sum_bodies (λ (log : Log). from_bool (log.page.0 == q)) out l ≡ 1) (map holder_of views) seat (holder_of v) (holder_of u) holder refl
          (bodies-sum homes frame.0 (Some slot.content) None slot.there empty refl (λ (log : Log). from_bool (log.page.0 == q)) (map (λ (o : Holder). o.bodies) (map holder_of views)) ∙ h.pages.bodies.one q less);
      in_hand = each-set (λ (o : Holder). EachMember (λ (b : InHand). IsHolding b o) o.bodies) (map holder_of views) seat (holder_of u)
          (each-weaken (λ (b : InHand). IsHolding b (holder_of v)) (λ (b : InHand). IsHolding b (holder_of u)) v.bodies
          (λ b holding. holding-push b v.locks v.pages v.bodies (lock_found frame word) holding) (h.pages.bodies.in_hand seat (holder_of v) holder))
          h.pages.bodies.in_hand;
    }
      where
        holder : slice_get (map holder_of views) seat ≡ Some (holder_of v)
        holder = at_map holder_of views seat v me

        at-home : (s name : ℕ) → s ≢ frame.0 → IsAtHome homes s name → IsAtHome out s name
        at-home s name other home = record { content = home.content; there = set_else homes frame.0 s None other ∙ home.there; named = home.named }

    bounded-adopted : IsBounded layout (holdings_of u)
    bounded-adopted =
        let was : IsBounded layout (holdings_of v) = h.frames.holdings.bounded seat (holdings_of v) (at_map holdings_of views seat v me) in
        let fewer : length u.hands + 1 ≡ length v.hands = length-without (is_hand_of frame) v.hands has.0 has.1 has.2 (is-of has.1 frame has.3) in
        let more : length u.refs ≤ length v.refs + 1 = length-with frame 1 v.refs in
        record {
          few = omega (arith, was.few);
          shares = λ f. elim (same-or f frame.0) [
            | inl same ↦ subst (λ (n : ℕ). refs_on n u.refs ≤ length layout.trans + 2) (sym same) (omega (arith, refs-with frame 1 v.refs, unreferenced))
            | inr other ↦ omega (arith, refs-with-other frame 1 f v.refs other, was.shares f)
          ];
        }

    adopted : length v.locks < 2 → FrameRule layout (record w { frames = frames }) out (set views seat u)
    adopted room = record {
      frames = record {
        counts = change (λ (v : View). v.refs) (CountsBalance frames w.trans w.caches) views seat u counts-adopted;
        places = change (λ (v : View). v.hands) (HasOnePlace layout.kernel frames w.frees) views seat u places-adopted;
        frame_locks = change (λ (v : View). (v.refs, v.locks)) (FrameLocksHeld frames) views seat u locks-adopted;
        free = PartKeeps.kept-free views seat v u me refl h.frames.free;
        holdings = PartKeeps.kept-bounded views seat v u me bounded-adopted h.frames.holdings;
      };
      pages = record {
        page_locks = keep (λ (v : View). v.pages) (λ l. PageLocksHeld w.pages l (map (λ (v : View). v.locks) (set views seat u))) views seat v u me refl
            (change (λ (v : View). v.locks) (λ l. PageLocksHeld w.pages (map (λ (v : View). v.pages) views) l) views seat u (record {
              one = h.pages.page_locks.one;
              page_once = h.pages.page_locks.page_once;
              frames_twice = each-set (λ (l : List FrameLock). length l ≤ 2) (map (λ (v : View). v.locks) views) seat u.locks (omega (arith, room, length-append v.locks (lock_found frame word ∷ []))) h.pages.page_locks.frames_twice;
            }));
        translations = like-translations w.frames frame.0 word new there like layout.trans w.trans h.pages.translations;
        caches = change (λ (v : View). (v.locks, v.pages)) (CacheWordsOwned frames w.caches) views seat u caches-adopted;
        bodies = change holder_of (BodiesAtHome layout frames w.caches w.pages out) views seat u bodies-adopted;
        fits = PartKeeps.kept-fits views seat v u me refl refl
            (slot-fits homes frame.0 (Some slot.content) None slot.there empty refl layout w.trans w.caches (map (λ (v : View). (v.pages, v.bodies)) views) h.pages.fits);
      };
      histories = PartKeeps.same-histories views seat v u me refl (slot-histories homes frame.0 (Some slot.content) None slot.there empty refl h.histories);
      failures = PartKeeps.same-failures views seat v u me refl
          (slot-failures homes frame.0 (Some slot.content) None slot.there empty refl (like-failures w.frames frame.0 word new there like h.failures));
      processors = PartKeeps.same-processors views seat v u me refl h.processors;
    }

pub keeps-adopt : (frame : Frame) → Keeps (steps.Adopt frame)
keeps-adopt frame layout w homes views seat v who content given =
    subst (FrameRule layout (record w { frames = set w.frames frame.0 ((read + 17) % 2 ^ 64) }) (set homes frame.0 None)) (set-set views seat shown u)
    (adopted layout w homes (set views seat shown) seat shown (set_here views seat shown v given.me) rule frame given.place given.shaped given.asks.0 given.fits given.asks.1)
  where
    read : ℕ
    read = get_or w.frames frame.0 0

    there : slice_get w.frames frame.0 ≡ Some read
    there = slice_get-get_or w.frames frame.0 0 (omega (arith, given.place, given.shaped.frames))

    sight : Sight
    sight = record { stamp = stamp_of who (adopting frame read v); place = places.Frame frame; word = read }

    shown : View
    shown = record v { sights = v.sights ++ sight ∷ [] }

    u : View
    u = adopting frame read shown

    rule : FrameRule layout w homes (set views seat shown)
    rule = kept-sight layout w homes views seat v sight given.me given.rule given.past (explained-frame layout w homes views sight.stamp frame read there)
