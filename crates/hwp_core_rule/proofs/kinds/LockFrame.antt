-- A frame's lock taken keeps the frame rule.
use Rattle.std.proofs.Common.{◌≡◌, ◌≢◌, ℕ, ◌+◌, ◌%◌, ◌<◌, ◌≤◌, ◌==◌, Bool, true, false, not, cond, List, [], ◌∷◌, ◌++◌, Option, Some, None, map, set, length, slice_get, slice_index, slice_set, bit_or, length-append, inl, inr, refl, sym, ap, ◌∙◌, subst, arith}
use Rattle.std.proofs.lemmas.Bool.{eqb-true, eqb-false, ne_eqb}
use Rattle.std.proofs.lemmas.List.Sums.{sum_by_push}
use Rattle.std.proofs.lemmas.Option.{same_Some, slice_get_within}
use Rattle.std.specs.Int.{from_bool}
use Rattle.std.specs.List.{sum_by}
use Rattle.hwp_page.specs.hwp_geom.declared.Frame.{Frame}
use Rattle.hwp_page.specs.hwp_geom.declared.Layout.{Layout}
use Rattle.hwp_page.specs.hwp_geom.declared.Who.{Who}
use Rattle.hwp_words.specs.Frames.{lock_of, count_of, owner_of, is_locked}
use Rattle.hwp_words.proofs.FrameSteps.{fields-lock}
use Rattle.hwp_core_rule.specs.declared.log.Log.{Log}
use Rattle.hwp_core_rule.specs.declared.view.FrameLock.{FrameLock}
use Rattle.hwp_core_rule.specs.declared.view.InHand.{InHand}
use Rattle.hwp_core_rule.specs.declared.view.Length.{Length}
use Rattle.hwp_core_rule.specs.declared.view.PageLock.{PageLock}
use Rattle.hwp_core_rule.specs.declared.view.Ref.{Ref}
use Rattle.hwp_core_rule.specs.declared.view.View.{View}
use Rattle.hwp_core_rule.specs.Asks.{CanLockFrame}
use Rattle.hwp_core_rule.specs.Lists.{Homes, EachMember}
use Rattle.hwp_core_rule.specs.Logs.{state_of, fitting}
use Rattle.hwp_core_rule.specs.SlotMoves.{IsIn, MeetsSlot, homes_moved, moved_out}
use Rattle.hwp_core_rule.specs.Rule.{FrameRule, holder_of}
use Rattle.hwp_core_rule.specs.Views.{locks_on, page_locks_on, lock_found, taken, knowing, changed, is_page_lock_of, stamp_of}
use Rattle.hwp_core_rule.specs.Words.{Words}
use Rattle.hwp_core_rule.specs.parts.Bodies.{Holder, IsAtHome, IsHolding, IsLockFor, content_name}
use Rattle.hwp_core_rule.specs.parts.Fits.{Fits, KnowsWords, KnowsOwn}
use Rattle.hwp_core_rule.specs.parts.Holdings.{IsPast}
use Rattle.hwp_core_rule.specs.parts.Locks.{IsLocked}
use Rattle.hwp_core_rule.specs.parts.Owners.{HoldsBoth}
use Rattle.hwp_core_rule.proofs.Lists.{at_map, map-was, same-number, set_again, set_here, term-le, each-push, each-weaken, each-changed, some-push, some-last, sum-changed, length-changed}
use Rattle.hwp_core_rule.proofs.FrameWordLaws.{IsLike, like-fields, like-locked}
use Rattle.hwp_core_rule.proofs.Keeps.{Keeps, IsShaped}
use Rattle.hwp_core_rule.proofs.BodySlots.{carry-none, carry-out}
use Rattle.hwp_core_rule.proofs.steps.FrameLockSteps.{keeps-locking}
use Rattle.hwp_core_rule.proofs.PageWords.{or-odd, not-is, first-lock, knows-knowing}
use Rattle.hwp_core_rule.proofs.WordsByKind.{word-there}
use Rattle.hwp_core_rule.specs.declared.step.Step.TheVariants as steps

-- a free lock that is taken, of the frame that the view has a reference to
module _ (layout : Layout) (w : Words) (homes : Homes) (views : List View) (seat : ℕ) (v : View) (who : Who) (frame : Frame) (found : ℕ)
    (shaped : IsShaped layout w homes) (me : slice_get views seat ≡ Some v) (past : IsPast v.parts who) (less : frame.0 < layout.frames) (can : CanLockFrame v frame)
    (there : slice_get w.frames frame.0 ≡ Some found) (free : lock_of found ≡ 0) (h : FrameRule layout w homes views) where
  abbrev now : ℕ
  now = bit_or found 1

  abbrev lock : FrameLock
  lock = lock_found frame found

  abbrev locks : List FrameLock
  locks = v.locks ++ lock ∷ []

  like : IsLike found now
  like = like-fields found now 1 (count_of found) (fields-lock found)

  pushed : (g : ℕ) → locks_on g locks ≡ locks_on g v.locks + from_bool (frame.0 == g)
  pushed g = sum_by_push (λ (l : FrameLock). from_bool (l.frame.0 == g)) v.locks lock

  here : lock_of now + locks_on frame.0 v.locks ≡ lock_of found + locks_on frame.0 locks
  here =
      let one : from_bool (frame.0 == frame.0) ≡ 1 = ap from_bool (same-number frame.0 frame.0 refl) in
      omega (arith, pushed frame.0, (fields-lock found).lock, free)

  others : (g : ℕ) → g ≢ frame.0 → locks_on g locks ≡ locks_on g v.locks
  others g differs = omega (arith, pushed g, ap from_bool (ne_eqb frame.0 g (λ e. differs (sym e))))

  known : EachMember (IsLocked (set w.frames frame.0 now) v.refs) locks
  known = each-push (IsLocked (set w.frames frame.0 now) v.refs) v.locks lock (record {
    word = now;
    there = set_here w.frames frame.0 now found there;
    owner = like.owner;
    handled = ap (λ (n : ℕ). n == 1) like.handled;
    poisoned = λ e. ap (λ (n : ℕ). n == 1) like.poison ∙ e;
    referenced = can.referenced;
  })
      (each-weaken (IsLocked w.frames v.refs) (IsLocked (set w.frames frame.0 now) v.refs) v.locks
      (λ l k. like-locked w.frames frame.0 found now there like v.refs v.refs l k.referenced k)
      (h.frames.frame_locks.known seat (v.refs, v.locks) (at_map (λ (v : View). (v.refs, v.locks)) views seat v me)))

  twice : length locks ≤ 2
  twice = omega (arith, can.second, length-append v.locks (lock ∷ []))

  both-more : (g q : ℕ) → HoldsBoth g q (v.locks, v.pages) → HoldsBoth g q (locks, v.pages)
  both-more g q both = record { frame = omega (arith, both.frame, pushed g); page = both.page }

  locked-now : lock_of now ≡ 0 → ⊥
  locked-now none = omega (arith, none, (fields-lock found).lock)

  abbrev holder : List PageLock → List InHand → Holder
  holder pages bodies = record { locks = locks; pages = pages; bodies = bodies }

  -- what a view holds it still holds
  holding-more : (b : InHand) (pages : List PageLock) (bodies : List InHand) → page_locks_on b.log.page.0 pages ≡ page_locks_on b.log.page.0 v.pages → IsHolding b (holder_of v) → IsHolding b (holder pages bodies)
  holding-more b pages bodies same holds = elim holds [
    | inl page ↦ inl (subst (λ (n : ℕ). 0 < n) (sym same) page)
    | inr some ↦ inr (some-push (IsLockFor b) v.locks lock some)
  ]

  my_fit : slice_get {X = List PageLock × List InHand} (map (λ (v : View). (v.pages, v.bodies)) views) seat ≡ Some (v.pages, v.bodies)
  my_fit = at_map (λ (v : View). (v.pages, v.bodies)) views seat v me

  old-in_hand : EachMember (λ (b : InHand). IsHolding b (holder_of v)) v.bodies
  old-in_hand = h.pages.bodies.in_hand seat (holder_of v) (at_map holder_of views seat v me)

  pub keeps-lock-empty : IsIn homes frame.0 None → FrameRule layout (record w { frames = set w.frames frame.0 now }) (set homes frame.0 None) (set views seat (record v { locks = locks }))
  keeps-lock-empty empty = keeps-locking layout w homes views seat v frame.0 found now None locks v.pages v.bodies v.lengths me h there can.referenced (record {
    like = like;
    count = (fields-lock found).count;
    carries = carry-none layout w homes views seat v me h frame.0 (Some None) None v.pages empty refl refl (h.pages.fits.in_hand seat (v.pages, v.bodies) my_fit) (h.pages.fits.known seat (v.pages, v.bodies) my_fit) (h.pages.fits.own seat (v.pages, v.bodies) my_fit);
    here = here;
    others = others;
    known = known;
    twice = twice;
    page_locks = λ q. refl;
    page_once = refl;
    cached = λ g x q at owner both. inr (both-more g q both);
    free_home = λ none. absurd (locked-now none);
    out = λ locked. set_here homes frame.0 None (Some None) empty;
    in_hand = each-weaken (λ (b : InHand). IsHolding b (holder_of v)) (λ (b : InHand). IsHolding b (holder v.pages v.bodies)) v.bodies (λ b holds. holding-more b v.pages v.bodies refl holds) old-in_hand;
  }) less

  -- ---- with the owner's body
  module _ (log : Log) (inside : IsIn homes frame.0 (Some log)) where
    abbrev body : InHand
    body = record { log = log; since = length log.entries; frame = Some frame; from = length v.sights; killed = [] }

    abbrev bodies : List InHand
    bodies = v.bodies ++ body ∷ []

    abbrev seen : Length
    seen = record { stamp = stamp_of who (record v { locks = locks }); log = log }

    abbrev pages : List PageLock
    pages = changed (is_page_lock_of log.page) (knowing layout log (Some frame)) v.pages

    owner : owner_of found ≡ log.page.0 + 1
    owner =
        let home : IsAtHome homes frame.0 (owner_of found) = h.pages.bodies.frame_home frame.0 found there free in
        let same : home.content ≡ Some log = same_Some home.content (Some log) (same_Some (Some home.content) (Some (Some log)) (sym home.there ∙ inside)) in
        sym home.named ∙ ap content_name same

    cached : slice_get w.caches log.page.0 ≡ Some (frame.0 + 1)
    cached = elim (h.pages.caches.named frame.0 found log.page.0 there owner) [
      | inl named ↦ named
      | inr both ↦
          let was : (x : View) × (slice_get views both.0 ≡ Some x) × ((x.locks, x.pages) ≡ both.1) = map-was (λ (v : View). (v.locks, v.pages)) views both.0 both.1 both.2 in
          let holds : HoldsBoth frame.0 log.page.0 (was.0.locks, was.0.pages) = subst (HoldsBoth frame.0 log.page.0) (sym was.2) both.3 in
          let one : sum_by (λ (o : List Ref × List FrameLock). locks_on frame.0 o.1) (map (λ (v : View). (v.refs, v.locks)) views) ≡ lock_of found = h.frames.frame_locks.one frame.0 found there in
          let term : locks_on frame.0 was.0.locks ≤ sum_by (λ (o : List Ref × List FrameLock). locks_on frame.0 o.1) (map (λ (v : View). (v.refs, v.locks)) views) =
          term-le (λ (o : List Ref × List FrameLock). locks_on frame.0 o.1) (map (λ (v : View). (v.refs, v.locks)) views) both.0 (was.0.refs, was.0.locks) (at_map (λ (v : View). (v.refs, v.locks)) views both.0 was.0 was.1) in
          absurd (omega (arith, holds.frame, free))
    ]

    within : log.page.0 < length layout.pages
    within = subst (λ (n : ℕ). log.page.0 < n) shaped.caches (slice_get_within w.caches log.page.0 (frame.0 + 1) cached)

    page_locks : (q : ℕ) → page_locks_on q pages ≡ page_locks_on q v.pages
    page_locks q = sum-changed (λ (l : PageLock). from_bool (l.page.0 == q)) (is_page_lock_of log.page) (knowing layout log (Some frame)) v.pages (λ l. refl)

    fits-home : Fits layout w.trans w.caches log
    fits-home = h.pages.fits.at_home frame.0 log inside

    knows-new : (l : PageLock) → is_page_lock_of log.page l ≡ true → KnowsWords layout w.trans w.caches l → KnowsWords layout w.trans w.caches (knowing layout log (Some frame) l)
    knows-new l is knows = knows-knowing layout w.trans w.caches log (Some frame) l shaped.trans number cached fits-home (knows.resident (frame.0 + 1) (ap (slice_get w.caches) number ∙ cached))
      where
        number : l.page.0 ≡ log.page.0
        number = eqb-true l.page.0 log.page.0 is

    own-changed : (b : InHand) → KnowsOwn v.pages b → KnowsOwn pages b
    own-changed b own = which (is_page_lock_of log.page own.lock)
      where
        at : slice_get pages 0 ≡ Some (cond (is_page_lock_of log.page own.lock) (knowing layout log (Some frame) own.lock) own.lock)
        at = at_map (λ (l : PageLock). cond (is_page_lock_of log.page l) (knowing layout log (Some frame) l) l) v.pages 0 own.lock own.there

        at-is : (b : Bool) → is_page_lock_of log.page own.lock ≡ b → slice_get pages 0 ≡ Some (cond b (knowing layout log (Some frame) own.lock) own.lock)
        at-is b e = at ∙ ap (λ (b : Bool). Some (cond b (knowing layout log (Some frame) own.lock) own.lock)) e

        by : (b' : Bool) → is_page_lock_of log.page own.lock ≡ b' → KnowsOwn pages b
        by true e = record { lock = knowing layout log (Some frame) own.lock; there = at-is true e; cache = frame.0 + 1; cache_is = refl; trans = fitting layout log.page (state_of layout log) (frame.0 + 1); trans_is = refl }
        by false e = record { lock = own.lock; there = at-is false e; cache = own.cache; cache_is = own.cache_is; trans = own.trans; trans_is = own.trans_is }

        which : Bool → KnowsOwn pages b
        which b' = by (is_page_lock_of log.page own.lock) refl

    own-new : 0 < page_locks_on log.page.0 pages → KnowsOwn pages body
    own-new some = record { lock = knowing layout log (Some frame) first.0; there = at; cache = frame.0 + 1; cache_is = refl; trans = fitting layout log.page (state_of layout log) (frame.0 + 1); trans_is = refl }
      where
        first : (l : PageLock) × (slice_get v.pages 0 ≡ Some l) × (l.page.0 ≡ log.page.0)
        first = first-lock log.page.0 v.pages (h.pages.page_locks.page_once seat v.pages (at_map (λ (v : View). v.pages) views seat v me)) (subst (λ (n : ℕ). 0 < n) (page_locks log.page.0) some)

        at : slice_get pages 0 ≡ Some (knowing layout log (Some frame) first.0)
        at = at_map (λ (l : PageLock). cond (is_page_lock_of log.page l) (knowing layout log (Some frame) l) l) v.pages 0 first.0 first.1
            ∙ ap (λ (b : Bool). Some (cond b (knowing layout log (Some frame) first.0) first.0)) (same-number first.0.page.0 log.page.0 first.2)

    pub keeps-lock-body : FrameRule layout (record w { frames = set w.frames frame.0 now }) (set homes frame.0 None) (set views seat (taken layout who (Some frame) (Some log) (record v { locks = locks })))
    keeps-lock-body = keeps-locking layout w homes views seat v frame.0 found now None locks pages bodies (v.lengths ++ seen ∷ []) me h there can.referenced (record {
      like = like;
      count = (fields-lock found).count;
      carries = carry-out layout w homes views seat v me h log frame.0 inside within (Some frame) (stamp_of who (record v { locks = locks })) past pages
          (each-weaken (λ (b : InHand). page_locks_on b.log.page.0 v.pages ≡ 0 → Fits layout w.trans w.caches b.log) (λ (b : InHand). page_locks_on b.log.page.0 pages ≡ 0 → Fits layout w.trans w.caches b.log) v.bodies
          (λ b fits none. fits (sym (page_locks b.log.page.0) ∙ none)) (h.pages.fits.in_hand seat (v.pages, v.bodies) my_fit))
          (each-changed (KnowsWords layout w.trans w.caches) (is_page_lock_of log.page) (knowing layout log (Some frame)) v.pages knows-new (h.pages.fits.known seat (v.pages, v.bodies) my_fit))
          (each-weaken (λ (b : InHand). 0 < page_locks_on b.log.page.0 v.pages → KnowsOwn v.pages b) (λ (b : InHand). 0 < page_locks_on b.log.page.0 pages → KnowsOwn pages b) v.bodies
          (λ b own some. own-changed b (own (subst (λ (n : ℕ). 0 < n) (page_locks b.log.page.0) some))) (h.pages.fits.own seat (v.pages, v.bodies) my_fit))
          own-new;
      here = here;
      others = others;
      known = known;
      twice = twice;
      page_locks = page_locks;
      page_once = length-changed (is_page_lock_of log.page) (knowing layout log (Some frame)) v.pages;
      cached = λ g x q at is both. inr (both-more g q both);
      free_home = λ none. absurd (locked-now none);
      out = λ locked. set_here homes frame.0 None (Some (Some log)) inside;
      in_hand = each-push (λ (b : InHand). IsHolding b (holder pages bodies)) v.bodies body
          (inr (some-last (IsLockFor body) v.locks lock (owner, refl)))
          (each-weaken (λ (b : InHand). IsHolding b (holder_of v)) (λ (b : InHand). IsHolding b (holder pages bodies)) v.bodies
          (λ b holds. holding-more b pages bodies (page_locks b.log.page.0) holds) old-in_hand);
    }) less

pub keeps-lock_frame : (frame : Frame) → Keeps (steps.LockFrame frame)
keeps-lock_frame frame layout w homes views seat v who content given = which (not (is_locked (slice_index w.frames frame.0))) refl
  where
    there : slice_get w.frames frame.0 ≡ Some (slice_index w.frames frame.0)
    there = word-there w.frames frame.0 layout.frames given.shaped.frames given.place

    -- another has the lock: nothing changes
    busy : (slice_index w.frames frame.0 % 2 ≡ 1) → FrameRule layout (record w { frames = set w.frames frame.0 (bit_or (slice_index w.frames frame.0) 1) }) homes (set views seat v)
    busy odd =
        let words : set w.frames frame.0 (bit_or (slice_index w.frames frame.0) 1) ≡ w.frames = ap (set w.frames frame.0) (or-odd (slice_index w.frames frame.0) odd) ∙ set_again w.frames frame.0 (slice_index w.frames frame.0) there in
        subst (λ (l : List ℕ). FrameRule layout (record w { frames = l }) homes (set views seat v)) (sym words)
        (subst (FrameRule layout w homes) (sym (set_again views seat v given.me)) given.rule)

    free-at : (is_locked (slice_index w.frames frame.0) ≡ false) → (content : Option Log) → IsIn homes frame.0 content
        → FrameRule layout (record w { frames = set w.frames frame.0 (bit_or (slice_index w.frames frame.0) 1) }) (set homes frame.0 None)
        (set views seat (taken layout who (Some frame) content (record v { locks = v.locks ++ lock_found frame (slice_index w.frames frame.0) ∷ [] })))
    free-at e None inside = keeps-lock-empty layout w homes views seat v who frame (slice_index w.frames frame.0) given.shaped given.me given.past given.place given.asks there
        (let unset : lock_of (slice_index w.frames frame.0) ≢ 1 = eqb-false (lock_of (slice_index w.frames frame.0)) 1 e in omega arith) given.rule inside
    free-at e (Some log) inside = keeps-lock-body layout w homes views seat v who frame (slice_index w.frames frame.0) given.shaped given.me given.past given.place given.asks there
        (let unset : lock_of (slice_index w.frames frame.0) ≢ 1 = eqb-false (lock_of (slice_index w.frames frame.0)) 1 e in omega arith) given.rule log inside

    which : (b : Bool) → not (is_locked (slice_index w.frames frame.0)) ≡ b
        → FrameRule layout (record w { frames = slice_set w.frames frame.0 (bit_or (slice_index w.frames frame.0) 1) }) (homes_moved (moved_out b frame.0) content homes)
        (set views seat (cond b (taken layout who (Some frame) content (record v { locks = v.locks ++ lock_found frame (slice_index w.frames frame.0) ∷ [] })) v))
    which false e = busy (let set_it : lock_of (slice_index w.frames frame.0) ≡ 1 = eqb-true (lock_of (slice_index w.frames frame.0)) 1 (not-is (is_locked (slice_index w.frames frame.0)) false e) in omega arith)
    which true e = free-at (not-is (is_locked (slice_index w.frames frame.0)) true e) content (subst (λ (b : Bool). MeetsSlot (moved_out b frame.0) homes content) e given.meets)
