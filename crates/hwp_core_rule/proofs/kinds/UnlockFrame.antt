-- A frame's lock freed keeps the frame rule.
use Rattle.std.proofs.Common.{◌≡◌, ◌≢◌, ℕ, ◌+◌, ◌<◌, ◌≤◌, ◌==◌, Bool, true, false, cond, List, Some, None, map, set, length, slice_get, bit_and, inl, inr, refl, sym, ap, ◌∙◌, subst, arith, slice_index}
use Rattle.std.proofs.lemmas.Bool.{eqb-true, eqb-false, ne_eqb}
use Rattle.std.proofs.lemmas.Option.{none-some, same_Some, slice_get_within}
use Rattle.std.specs.Int.{from_bool}
use Rattle.std.specs.List.{sum_by}
use Rattle.hwp_page.specs.hwp_geom.declared.Frame.{Frame}
use Rattle.hwp_page.specs.hwp_geom.declared.Layout.{Layout}
use Rattle.hwp_words.specs.Frames.{lock_of, count_of, owner_of}
use Rattle.hwp_words.proofs.FrameSteps.{fields-unlock}
use Rattle.hwp_core_rule.specs.declared.log.Log.{Log}
use Rattle.hwp_core_rule.specs.declared.view.FrameLock.{FrameLock}
use Rattle.hwp_core_rule.specs.declared.view.InHand.{InHand}
use Rattle.hwp_core_rule.specs.declared.view.PageLock.{PageLock}
use Rattle.hwp_core_rule.specs.declared.view.Ref.{Ref}
use Rattle.hwp_core_rule.specs.declared.view.View.{View}
use Rattle.hwp_core_rule.specs.Lists.{Homes, EachMember, SomeMember}
use Rattle.hwp_core_rule.specs.Rule.{FrameRule, holder_of}
use Rattle.hwp_core_rule.specs.Views.{refs_on, locks_on, page_locks_on, without, changed, is_lock_of, is_page_lock_of, is_body_of, put_home}
use Rattle.hwp_core_rule.specs.Words.{Words}
use Rattle.hwp_core_rule.specs.parts.Bodies.{IsHolding, IsLockFor}
use Rattle.hwp_core_rule.specs.parts.Endings.{AreEnded}
use Rattle.hwp_core_rule.specs.parts.Fits.{Fits, KnowsWords, KnowsOwn}
use Rattle.hwp_core_rule.specs.parts.Locks.{IsLocked}
use Rattle.hwp_core_rule.specs.parts.Owners.{HoldsBoth}
use Rattle.hwp_core_rule.proofs.Lists.{at_map, same-or, same-number, set_here, term-le, each-weaken, each-changed, sum-changed, length-changed, map-was, set-set, terms-le}
use Rattle.hwp_core_rule.proofs.FrameWordLaws.{IsLike, like-fields, like-locked}
use Rattle.hwp_core_rule.proofs.ListDrops.{sum-without, length-without, each-without, some-without}
use Rattle.hwp_core_rule.proofs.PageWords.{first-lock}
use Rattle.hwp_core_rule.proofs.BodySlots.{carry-none, carry-home, another}
use Rattle.hwp_core_rule.proofs.steps.FrameLockSteps.{keeps-locking}
use Rattle.hwp_page.specs.hwp_geom.declared.Who.{Who}
use Rattle.hwp_core_rule.specs.Asks.{CanUnlockFrame, CanGoHome}
use Rattle.hwp_core_rule.proofs.Keeps.{Given, Keeps}
use Rattle.hwp_core_rule.proofs.WordsByKind.{word-there}
use Rattle.hwp_core_rule.specs.declared.step.Step.TheVariants as steps
use Rattle.hwp_core_rule.proofs.BodyHome

-- a lock that the view lists is freed
module _ (layout : Layout) (w : Words) (homes : Homes) (views : List View) (seat : ℕ) (v : View) (frame : Frame) (found place : ℕ) (lock : FrameLock)
    (me : slice_get views seat ≡ Some v) (less : frame.0 < layout.frames) (there : slice_get w.frames frame.0 ≡ Some found)
    (listed : slice_get v.locks place ≡ Some lock) (frame_is : lock.frame ≡ frame) (h : FrameRule layout w homes views) where
  abbrev now : ℕ
  now = bit_and found 18446744073709551614

  abbrev locks : List FrameLock
  locks = without (is_lock_of frame) v.locks

  like : IsLike found now
  like = like-fields found now 0 (count_of found) (fields-unlock found)

  number : lock.frame.0 ≡ frame.0
  number = ap (λ (f : Frame). f.0) frame_is

  test : is_lock_of frame lock ≡ true
  test = same-number lock.frame.0 frame.0 number

  all-known : EachMember (IsLocked w.frames v.refs) v.locks
  all-known = h.frames.frame_locks.known seat (v.refs, v.locks) (at_map (λ (v : View). (v.refs, v.locks)) views seat v me)

  -- a listed lock of the frame has its owner
  owner-of : (i : ℕ) (l : FrameLock) → slice_get v.locks i ≡ Some l → l.frame.0 ≡ frame.0 → owner_of found ≡ l.owner
  owner-of i l at same =
      let known : IsLocked w.frames v.refs l = all-known i l at in
      let word : known.word ≡ found = same_Some known.word found (sym known.there ∙ ap (slice_get w.frames) same ∙ there) in
      ap owner_of (sym word) ∙ known.owner

  pub owner : owner_of found ≡ lock.owner
  owner = owner-of place lock listed number

  pub referenced : 0 < refs_on frame.0 v.refs
  referenced = subst (λ (n : ℕ). 0 < refs_on n v.refs) number (all-known place lock listed).referenced

  pub fewer : (g : ℕ) → locks_on g locks + from_bool (frame.0 == g) ≡ locks_on g v.locks
  fewer g = sum-without (λ (l : FrameLock). from_bool (l.frame.0 == g)) (is_lock_of frame) (from_bool (frame.0 == g)) v.locks place lock listed test
      (λ l is. ap (λ (n : ℕ). from_bool (n == g)) (eqb-true l.frame.0 frame.0 is))

  one : from_bool (frame.0 == frame.0) ≡ 1
  one = ap from_bool (same-number frame.0 frame.0 refl)

  pub locked : lock_of found ≡ 1
  locked =
      let all : sum_by (λ (o : List Ref × List FrameLock). locks_on frame.0 o.1) (map (λ (v : View). (v.refs, v.locks)) views) ≡ lock_of found = h.frames.frame_locks.one frame.0 found there in
      let mine : locks_on frame.0 v.locks ≤ sum_by (λ (o : List Ref × List FrameLock). locks_on frame.0 o.1) (map (λ (v : View). (v.refs, v.locks)) views) =
      term-le (λ (o : List Ref × List FrameLock). locks_on frame.0 o.1) (map (λ (v : View). (v.refs, v.locks)) views) seat (v.refs, v.locks) (at_map (λ (v : View). (v.refs, v.locks)) views seat v me) in
      omega (arith, fewer frame.0, one)

  out : slice_get homes frame.0 ≡ Some None
  out = h.pages.bodies.frame_out frame.0 found there locked

  here : lock_of now + locks_on frame.0 v.locks ≡ lock_of found + locks_on frame.0 locks
  here = omega (arith, fewer frame.0, one, locked, (fields-unlock found).lock)

  others : (g : ℕ) → g ≢ frame.0 → locks_on g locks ≡ locks_on g v.locks
  others g differs = omega (arith, fewer g, ap from_bool (ne_eqb frame.0 g (λ e. differs (sym e))))

  known : EachMember (IsLocked (set w.frames frame.0 now) v.refs) locks
  known = each-without (IsLocked (set w.frames frame.0 now) v.refs) (is_lock_of frame) v.locks
      (each-weaken (IsLocked w.frames v.refs) (IsLocked (set w.frames frame.0 now) v.refs) v.locks (λ l k. like-locked w.frames frame.0 found now there like v.refs v.refs l k.referenced k) all-known)

  twice : length locks ≤ 2
  twice =
      let were : length v.locks ≤ 2 = h.pages.page_locks.frames_twice seat v.locks (at_map (λ (v : View). v.locks) views seat v me) in
      omega (arith, length-without (is_lock_of frame) v.locks place lock listed test)

  unlocked-now : lock_of now ≡ 1 → ⊥
  unlocked-now set_still = omega (arith, set_still, (fields-unlock found).lock)

  -- both locks, of another frame than this
  both-still : (g q : ℕ) → g ≢ frame.0 → HoldsBoth g q (v.locks, v.pages) → HoldsBoth g q (locks, v.pages)
  both-still g q differs both = record { frame = subst (λ (n : ℕ). 0 < n) (sym (others g differs)) both.frame; page = both.page }

  -- the page of another body than the frame's is still held
  holding-still : (b : InHand) (pages : List PageLock) (bodies : List InHand) → page_locks_on b.log.page.0 pages ≡ page_locks_on b.log.page.0 v.pages → lock.owner ≢ b.log.page.0 + 1 → IsHolding b (holder_of v) → IsHolding b (record { locks = locks; pages = pages; bodies = bodies })
  holding-still b pages bodies same other holds = elim holds [
    | inl page ↦ inl (subst (λ (n : ℕ). 0 < n) (sym same) page)
    | inr some ↦
        let mine : SomeMember (λ (l : FrameLock). IsLockFor b l × (is_lock_of frame l ≡ true → ⊥)) v.locks =
        (some.0, some.1, some.2, (some.3, λ is. other (sym owner ∙ owner-of some.0 some.1 some.2 (eqb-true some.1.frame.0 frame.0 is) ∙ some.3.0))) in
        let still : SomeMember (λ (l : FrameLock). IsLockFor b l × (is_lock_of frame l ≡ true → ⊥)) locks = some-without (is_lock_of frame) (λ (l : FrameLock). IsLockFor b l × (is_lock_of frame l ≡ true → ⊥)) v.locks (λ l both is. both.1 is) mine in
        inr (still.0, still.1, still.2, still.3.0)
  ]

  my_fit : slice_get {X = List PageLock × List InHand} (map (λ (v : View). (v.pages, v.bodies)) views) seat ≡ Some (v.pages, v.bodies)
  my_fit = at_map (λ (v : View). (v.pages, v.bodies)) views seat v me

  old-in_hand : EachMember (λ (b : InHand). IsHolding b (holder_of v)) v.bodies
  old-in_hand = h.pages.bodies.in_hand seat (holder_of v) (at_map holder_of views seat v me)

  -- what the page's lock lists of the owner's cache word
  pub both-cached : ((l : PageLock) → slice_get v.pages 0 ≡ Some l → lock.owner ≡ l.page.0 + 1 → l.cache ≡ Some (frame.0 + 1)) → (q : ℕ) → owner_of found ≡ q + 1 → HoldsBoth frame.0 q (v.locks, v.pages) → slice_get w.caches q ≡ Some (frame.0 + 1)
  both-cached cache q is both =
      let few : length v.pages ≤ 1 = h.pages.page_locks.page_once seat v.pages (at_map (λ (v : View). v.pages) views seat v me) in
      let first : (l : PageLock) × (slice_get v.pages 0 ≡ Some l) × (l.page.0 ≡ q) = first-lock q v.pages few both.page in
      let lists : first.0.cache ≡ Some (frame.0 + 1) = cache first.0 first.1 (sym owner ∙ is ∙ ap (λ (n : ℕ). n + 1) (sym first.2)) in
      ap (slice_get w.caches) (sym first.2) ∙ (h.pages.fits.known seat (v.pages, v.bodies) my_fit 0 first.0 first.1).cache (frame.0 + 1) lists

  -- an empty slot, of a frame without owner
  pub keeps-unlock-empty : lock.owner ≡ 0 → FrameRule layout (record w { frames = set w.frames frame.0 now }) (set homes frame.0 (Some None)) (set views seat (record v { locks = locks }))
  keeps-unlock-empty unowned = keeps-locking layout w homes views seat v frame.0 found now (Some None) locks v.pages v.bodies v.lengths me h there referenced (record {
    like = like;
    count = (fields-unlock found).count;
    carries = carry-none layout w homes views seat v me h frame.0 None (Some None) v.pages out refl refl (h.pages.fits.in_hand seat (v.pages, v.bodies) my_fit) (h.pages.fits.known seat (v.pages, v.bodies) my_fit) (h.pages.fits.own seat (v.pages, v.bodies) my_fit);
    here = here;
    others = others;
    known = known;
    twice = twice;
    page_locks = λ q. refl;
    page_once = refl;
    cached = λ g x q at is both. elim (same-or g frame.0) [
      | inl this ↦
          let word : x ≡ found = same_Some x found (sym at ∙ ap (slice_get w.frames) this ∙ there) in
          absurd (omega (arith, sym is ∙ ap owner_of word ∙ owner, unowned))
      | inr differs ↦ inr (both-still g q differs both)
    ];
    free_home = λ free. record { content = None; there = set_here homes frame.0 (Some None) None out; named = sym (like.owner ∙ owner ∙ unowned) };
    out = λ set_still. absurd (unlocked-now set_still);
    in_hand = each-weaken (λ (b : InHand). IsHolding b (holder_of v)) (λ (b : InHand). IsHolding b (record { locks = locks; pages = v.pages; bodies = v.bodies })) v.bodies
        (λ b holds. holding-still b v.pages v.bodies refl (λ e. absurd (omega (arith, e, unowned))) holds) old-in_hand;
  }) less

  -- ---- the owner's body goes home
  module _ (log : Log) (place' : ℕ) (body : InHand) (body_there : slice_get v.bodies place' ≡ Some body) (body_test : is_body_of log.page body ≡ true) (log_is : body.log ≡ log)
      (named : log.page.0 + 1 ≡ lock.owner) (within : log.page.0 < length layout.pages)
      (cache : (l : PageLock) → slice_get v.pages 0 ≡ Some l → lock.owner ≡ l.page.0 + 1 → l.cache ≡ Some (frame.0 + 1))
      (ended : AreEnded layout w.processes log.entries) (fit : Fits layout w.trans w.caches log) where
    abbrev forgetting : PageLock → PageLock
    forgetting l = record l { trans = None }

    abbrev pages : List PageLock
    pages = changed (is_page_lock_of log.page) forgetting v.pages

    abbrev bodies : List InHand
    bodies = without (is_body_of log.page) v.bodies

    page_locks : (q : ℕ) → page_locks_on q pages ≡ page_locks_on q v.pages
    page_locks q = sum-changed (λ (l : PageLock). from_bool (l.page.0 == q)) (is_page_lock_of log.page) forgetting v.pages (λ l. refl)

    others-left : EachMember (λ (b : InHand). is_body_of log.page b ≡ false) bodies
    others-left = another layout w homes views seat v me h log place' body body_there body_test within

    own-still : (b : InHand) → is_body_of log.page b ≡ false → (0 < page_locks_on b.log.page.0 v.pages → KnowsOwn v.pages b) → 0 < page_locks_on b.log.page.0 pages → KnowsOwn pages b
    own-still b other knows some = record { lock = own.lock; there = at; cache = own.cache; cache_is = own.cache_is; trans = own.trans; trans_is = own.trans_is }
      where
        some-before : 0 < page_locks_on b.log.page.0 v.pages
        some-before = subst (λ (n : ℕ). 0 < n) (page_locks b.log.page.0) some

        own : KnowsOwn v.pages b
        own = knows some-before

        first : (l : PageLock) × (slice_get v.pages 0 ≡ Some l) × (l.page.0 ≡ b.log.page.0)
        first = first-lock b.log.page.0 v.pages (h.pages.page_locks.page_once seat v.pages (at_map (λ (v : View). v.pages) views seat v me)) some-before

        same : own.lock.page.0 ≡ b.log.page.0
        same = ap (λ (l : PageLock). l.page.0) (same_Some own.lock first.0 (sym own.there ∙ first.1)) ∙ first.2

        unchanged : is_page_lock_of log.page own.lock ≡ false
        unchanged = ap (λ (n : ℕ). n == log.page.0) same ∙ other

        at : slice_get pages 0 ≡ Some own.lock
        at = at_map (λ (l : PageLock). cond (is_page_lock_of log.page l) (forgetting l) l) v.pages 0 own.lock own.there ∙ ap (λ (b : Bool). Some (cond b (forgetting own.lock) own.lock)) unchanged

    pub keeps-unlock-body : FrameRule layout (record w { frames = set w.frames frame.0 now }) (set homes frame.0 (Some (Some log))) (set views seat (record v { locks = locks; pages = pages; bodies = bodies }))
    keeps-unlock-body = keeps-locking layout w homes views seat v frame.0 found now (Some (Some log)) locks pages bodies v.lengths me h there referenced (record {
      like = like;
      count = (fields-unlock found).count;
      carries = carry-home layout w homes views seat v me h log place' body body_there body_test within log_is frame.0 pages out ended fit
          (each-weaken (λ (b : InHand). page_locks_on b.log.page.0 v.pages ≡ 0 → Fits layout w.trans w.caches b.log) (λ (b : InHand). page_locks_on b.log.page.0 pages ≡ 0 → Fits layout w.trans w.caches b.log) bodies
          (λ b fits none. fits (sym (page_locks b.log.page.0) ∙ none))
          (each-without (λ (b : InHand). page_locks_on b.log.page.0 v.pages ≡ 0 → Fits layout w.trans w.caches b.log) (is_body_of log.page) v.bodies (h.pages.fits.in_hand seat (v.pages, v.bodies) my_fit)))
          (each-changed (KnowsWords layout w.trans w.caches) (is_page_lock_of log.page) forgetting v.pages
          (λ l is knows. record { resident = knows.resident; cache = knows.cache; words = λ ws e n t decl page. absurd (none-some ws e) }) (h.pages.fits.known seat (v.pages, v.bodies) my_fit))
          (λ i b at. own-still b (others-left i b at) (each-without (λ (b : InHand). 0 < page_locks_on b.log.page.0 v.pages → KnowsOwn v.pages b) (is_body_of log.page) v.bodies (h.pages.fits.own seat (v.pages, v.bodies) my_fit) i b at));
      here = here;
      others = others;
      known = known;
      twice = twice;
      page_locks = page_locks;
      page_once = length-changed (is_page_lock_of log.page) forgetting v.pages;
      cached = λ g x q at is both. elim (same-or g frame.0) [
        | inl this ↦
            let word : x ≡ found = same_Some x found (sym at ∙ ap (slice_get w.frames) this ∙ there) in
            inl (both-cached cache q (ap owner_of (sym word) ∙ is) (subst (λ (n : ℕ). HoldsBoth n q (v.locks, v.pages)) this both) ∙ ap (λ (n : ℕ). Some (n + 1)) (sym this))
        | inr differs ↦ inr (both-still g q differs both)
      ];
      free_home = λ free. record { content = Some log; there = set_here homes frame.0 (Some (Some log)) None out; named = named ∙ sym (like.owner ∙ owner) };
      out = λ set_still. absurd (unlocked-now set_still);
      in_hand = λ i b at.
          let was : IsHolding b (holder_of v) = each-without (λ (b : InHand). IsHolding b (holder_of v)) (is_body_of log.page) v.bodies old-in_hand i b at in
          let other : b.log.page.0 ≢ log.page.0 = eqb-false b.log.page.0 log.page.0 (others-left i b at) in
          holding-still b pages bodies (page_locks b.log.page.0) (λ e. other (omega (arith, e, named))) was;
    }) less

-- the body of this history goes home from the hand
module _ (layout : Layout) (w : Words) (homes : Homes) (views : List View) (seat : ℕ) (v : View) (who : Who) (frame : Frame) (log : Log)
    (given : Given layout w homes views seat v who (steps.UnlockFrame frame) (Some log)) where
  abbrev read : ℕ
  read = slice_index w.frames frame.0

  h : FrameRule layout w homes views
  h = given.rule

  asks : CanUnlockFrame layout who v frame (Some log)
  asks = given.asks

  can : CanGoHome layout who v log
  can = asks.put

  there : slice_get w.frames frame.0 ≡ Some (slice_index w.frames frame.0)
  there = word-there w.frames frame.0 layout.frames given.shaped.frames given.place

  listed-lock : slice_get v.locks asks.has.listed.0 ≡ Some asks.has.lock
  listed-lock = asks.has.listed.2 ∙ ap (λ (l : FrameLock). Some l) asks.has.listed.3

  owned : owner_of (slice_index w.frames frame.0) ≡ log.page.0 + 1
  owned = owner layout w homes views seat v frame (slice_index w.frames frame.0) asks.has.listed.0 asks.has.lock given.me given.place there listed-lock asks.has.frame_is h ∙ sym asks.named

  my-lock : 0 < locks_on frame.0 v.locks
  my-lock =
      let fewer : locks_on frame.0 (without (is_lock_of frame) v.locks) + from_bool (frame.0 == frame.0) ≡ locks_on frame.0 v.locks =
      fewer layout w homes views seat v frame (slice_index w.frames frame.0) asks.has.listed.0 asks.has.lock given.me given.place there listed-lock asks.has.frame_is h frame.0 in
      let one : from_bool (frame.0 == frame.0) ≡ 1 = ap from_bool (same-number frame.0 frame.0 refl) in
      omega arith

  cached : slice_get w.caches log.page.0 ≡ Some (frame.0 + 1)
  cached = elim (h.pages.caches.named frame.0 (slice_index w.frames frame.0) log.page.0 there owned) [
    | inl named ↦ named
    | inr both ↦
        let was : (x : View) × (slice_get views both.0 ≡ Some x) × ((x.locks, x.pages) ≡ both.1) = map-was (λ (v : View). (v.locks, v.pages)) views both.0 both.1 both.2 in
        let holds : HoldsBoth frame.0 log.page.0 (was.0.locks, was.0.pages) = subst (HoldsBoth frame.0 log.page.0) (sym was.2) both.3 in
        elim (same-or both.0 seat) [
          | inl same ↦
              let mine : was.0 ≡ v = same_Some was.0 v (sym was.1 ∙ ap (slice_get views) same ∙ given.me) in
              both-cached layout w homes views seat v frame (slice_index w.frames frame.0) asks.has.listed.0 asks.has.lock given.me given.place there listed-lock asks.has.frame_is h
              asks.cached log.page.0 owned (subst (λ (x : View). HoldsBoth frame.0 log.page.0 (x.locks, x.pages)) mine holds)
          | inr differs ↦
              let held : List (List Ref × List FrameLock) = map (λ (v : View). (v.refs, v.locks)) views in
              let one : sum_by (λ (o : List Ref × List FrameLock). locks_on frame.0 o.1) (map (λ (v : View). (v.refs, v.locks)) views) ≡ lock_of (slice_index w.frames frame.0) = h.frames.frame_locks.one frame.0 (slice_index w.frames frame.0) there in
              let two : locks_on frame.0 was.0.locks + locks_on frame.0 v.locks ≤ sum_by (λ (o : List Ref × List FrameLock). locks_on frame.0 o.1) (map (λ (v : View). (v.refs, v.locks)) views) =
              terms-le (λ (o : List Ref × List FrameLock). locks_on frame.0 o.1) (map (λ (v : View). (v.refs, v.locks)) views) both.0 seat (was.0.refs, was.0.locks) (v.refs, v.locks) differs
              (at_map (λ (v : View). (v.refs, v.locks)) views both.0 was.0 was.1) (at_map (λ (v : View). (v.refs, v.locks)) views seat v given.me) in
              let bit : lock_of (slice_index w.frames frame.0) < 2 = omega arith in
              absurd (omega (arith, holds.frame, my-lock))
        ]
  ]

  within : log.page.0 < length layout.pages
  within = subst (λ (n : ℕ). log.page.0 < n) given.shaped.caches (slice_get_within w.caches log.page.0 (frame.0 + 1) cached)

  abbrev renewed : View
  renewed = BodyHome.renewed layout w homes views seat v who log given.me given.past given.turn h can within given.sound

  home : FrameRule layout (record w { frames = set w.frames frame.0 (bit_and (slice_index w.frames frame.0) 18446744073709551614) }) (set homes frame.0 (Some (Some log)))
      (set (set views seat renewed) seat (record renewed {
        locks = without (is_lock_of frame) renewed.locks;
        pages = changed (is_page_lock_of log.page) (λ (l : PageLock). record l { trans = None }) renewed.pages;
        bodies = without (is_body_of log.page) renewed.bodies;
      }))
  home = keeps-unlock-body layout w homes (set views seat renewed) seat renewed frame (slice_index w.frames frame.0) asks.has.listed.0 asks.has.lock (BodyHome.me-renewed layout w homes views seat v who log given.me given.past given.turn h can within given.sound) given.place there listed-lock asks.has.frame_is
      (BodyHome.rule layout w homes views seat v who log given.me given.past given.turn h can within given.sound)
      log (BodyHome.found-body layout w homes views seat v who log given.me given.past given.turn h can within given.sound).0 (record can.body { log = log }) (BodyHome.body-renewed layout w homes views seat v who log given.me given.past given.turn h can within given.sound)
      (same-number log.page.0 log.page.0 refl) refl asks.named within asks.cached (BodyHome.ended layout w homes views seat v who log given.me given.past given.turn h can within given.sound) (BodyHome.fit layout w homes views seat v who log given.me given.past given.turn h can within given.sound)

  keeps-home : FrameRule layout (record w { frames = set w.frames frame.0 (bit_and (slice_index w.frames frame.0) 18446744073709551614) }) (set homes frame.0 (Some (Some log)))
      (set views seat (record (put_home layout who (Some log) v) { locks = without (is_lock_of frame) v.locks }))
  keeps-home = subst (λ (x : View). FrameRule layout (record w { frames = set w.frames frame.0 (bit_and (slice_index w.frames frame.0) 18446744073709551614) }) (set homes frame.0 (Some (Some log)))
      (set views seat (record x {
        bodies = without (is_body_of log.page) x.bodies;
        pages = changed (is_page_lock_of log.page) (λ (l : PageLock). record l { trans = None }) v.pages;
        locks = without (is_lock_of frame) v.locks;
      })))
      (sym (BodyHome.listed-renewed layout w homes views seat v who log given.me given.past given.turn h can within given.sound))
      (subst (FrameRule layout (record w { frames = set w.frames frame.0 (bit_and (slice_index w.frames frame.0) 18446744073709551614) }) (set homes frame.0 (Some (Some log))))
      (set-set views seat renewed (record renewed {
        locks = without (is_lock_of frame) renewed.locks;
        pages = changed (is_page_lock_of log.page) (λ (l : PageLock). record l { trans = None }) renewed.pages;
        bodies = without (is_body_of log.page) renewed.bodies;
      })) home)

pub keeps-unlock_frame : (frame : Frame) → Keeps (steps.UnlockFrame frame)
keeps-unlock_frame frame layout w homes views seat v who None given =
    keeps-unlock-empty layout w homes views seat v frame (slice_index w.frames frame.0) given.asks.has.listed.0 given.asks.has.lock given.me given.place
    (word-there w.frames frame.0 layout.frames given.shaped.frames given.place) (given.asks.has.listed.2 ∙ ap (λ (l : FrameLock). Some l) given.asks.has.listed.3) given.asks.has.frame_is given.rule (sym given.asks.named)
keeps-unlock_frame frame layout w homes views seat v who (Some log) given = keeps-home layout w homes views seat v who frame log given
