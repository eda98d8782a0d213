-- A word of a page whose lock and body a view has begins to name another frame: the frame rule stays, where the parts that
-- read the word do.
use Rattle.std.proofs.Common.{◌≡◌, ◌≢◌, ◌⊎◌, ℕ, ◌+◌, ◌%◌, ◌^◌, ◌<◌, ◌≤◌, ◌==◌, ne_eqb, Bool, true, cond, List, Option, Some, None, map, set, length, slice_get, slice_index, inl, inr, refl, sym, ap, ◌∙◌, subst, arith}
use Rattle.std.specs.Int.{from_bool}
use Rattle.std.specs.List.{sum_by}
use Rattle.std.specs.Option.{IfSome}
use Rattle.std.proofs.lemmas.Option.{same_Some, slice_get_within, slice_get-get_or}
use Rattle.hwp_page.specs.hwp_geom.declared.Frame.{Frame}
use Rattle.hwp_page.specs.hwp_geom.declared.Layout.{Layout}
use Rattle.hwp_page.specs.hwp_geom.declared.Page.{Page}
use Rattle.hwp_page.specs.hwp_geom.declared.TransDecl.{TransDecl}
use Rattle.hwp_page.specs.hwp_geom.Layout.{IsSound}
use Rattle.hwp_page.specs.hwp_geom.Limits.{frame_limit}
use Rattle.hwp_words.specs.Frames.{count_of, lock_of, handled_of}
use Rattle.hwp_words.specs.Names.{frame_name, frame_named}
use Rattle.hwp_words.specs.Translations.{pte_word}
use Rattle.hwp_words.proofs.Packed.{frame_named-frame_name}
use Rattle.hwp_core_rule.specs.declared.log.Log.{Log}
use Rattle.hwp_core_rule.specs.declared.view.FrameLock.{FrameLock}
use Rattle.hwp_core_rule.specs.declared.view.InHand.{InHand}
use Rattle.hwp_core_rule.specs.declared.view.PageLock.{PageLock}
use Rattle.hwp_core_rule.specs.declared.view.Ref.{Ref}
use Rattle.hwp_core_rule.specs.declared.view.View.{View}
use Rattle.hwp_core_rule.specs.Asks.{HasPage, CanName, CanChange}
use Rattle.hwp_core_rule.specs.Lists.{Homes, EachMember, of_home, sum_all, sum_bodies}
use Rattle.hwp_core_rule.specs.Rule.{FrameRule, holder_of, holdings_of}
use Rattle.hwp_core_rule.specs.Views.{frame_in, refs_on, locks_on, page_locks_on, changed, is_body_of}
use Rattle.hwp_core_rule.specs.Words.{Words}
use Rattle.hwp_core_rule.specs.parts.Bodies.{BodiesAtHome, Holder}
use Rattle.hwp_core_rule.specs.parts.Counts.{CountsBalance, named}
use Rattle.hwp_core_rule.specs.parts.Fits.{PageFits, FitsWords, Fits, KnowsWords, KnowsOwn}
use Rattle.hwp_core_rule.specs.parts.Holdings.{IsBounded, frames_held}
use Rattle.hwp_core_rule.specs.parts.Locks.{FrameLocksHeld, PageLocksHeld, IsLocked}
use Rattle.hwp_core_rule.specs.parts.Owners.{TranslationsOwned, CacheWordsOwned, NamesOwn}
use Rattle.hwp_core_rule.proofs.Keeps.{IsShaped}
use Rattle.hwp_core_rule.proofs.KnownByLocks.{page-listed, lock-referenced, lock-names}
use Rattle.hwp_core_rule.proofs.Lists.{change, keep, at_map, at_set, map-was, same-or, same-number, each-set, each-weaken, sum-set, term-le, terms-le, length-changed}
use Rattle.hwp_core_rule.proofs.ListDrops.{find-is}
use Rattle.hwp_core_rule.proofs.steps.PageLockLists.{same-locks, locks-listed}
use Rattle.hwp_core_rule.proofs.Refs.{hits, renamed, refs-renamed, some-renamed, length-renamed, shares-renamed}
use Rattle.hwp_words.specs.declared.Pte.TheVariants as ptes
use Rattle.hwp_core_rule.proofs.PartKeeps

-- ---- the name in a word

-- the word names the frame, and no other that a frame can be
abbrev pub Names : ℕ → Option Frame → Type 0
Names word name = (f : ℕ) → f < 2 ^ 16 → from_bool (word == f + 1) ≡ hits f name

pub names-name : (name : Option Frame) → Names (frame_name name) name
names-name None f less = ap from_bool (ne_eqb 0 (f + 1) (λ e. omega (arith, e)))
names-name (Some frame) f less = elim (same-or frame.0 f) [
  | inl same ↦ ap from_bool (same-number (frame.0 + 1) (f + 1) (ap (λ (n : ℕ). n + 1) same)) ∙ sym (ap from_bool (same-number frame.0 f same))
  | inr differs ↦ ap from_bool (ne_eqb (frame.0 + 1) (f + 1) (λ e. differs (omega arith))) ∙ sym (ap from_bool (ne_eqb frame.0 f differs))
]

-- a poison entry names none
pub names-poison : Names (pte_word ptes.Poison) None
names-poison f less = ap from_bool (ne_eqb (2 ^ 63) (f + 1) (λ e. omega (arith, e, less)))

pub frame_in-name : (name : Option Frame) → IfSome name (λ x. x.0 < 2 ^ 16) → frame_in (frame_name name) ≡ name
frame_in-name None fits = refl
frame_in-name (Some f) fits = let small : (f.0 + 1) % 2 ^ 20 ≡ f.0 + 1 = omega (arith, fits) in ap frame_named small ∙ frame_named-frame_name (Some f) fits

-- a word that is 0, a poison entry, or names a frame of the board
pub names-in : (frames : List ℕ) (q word : ℕ) → length frames ≤ 2 ^ 16 → (word ≡ 0) ⊎ ((word ≡ pte_word ptes.Poison) ⊎ NamesOwn frames q word) → Names word (frame_in word)
names-in frames q word few is = elim is [
  | inl none ↦ subst (λ (n : ℕ). Names n (frame_in n)) (sym none) (names-name None)
  | inr some ↦ elim some [
    | inl poison ↦ subst (λ (n : ℕ). Names n (frame_in n)) (sym poison) names-poison
    | inr names ↦
        let frame : Frame = record { 0 = names.frame } in
        let less : names.frame < length frames = slice_get_within frames names.frame names.owner_word names.there in
        let fits : names.frame < 2 ^ 16 = omega arith in
        subst (λ (n : ℕ). Names n (frame_in n)) (sym names.named) (subst (Names (names.frame + 1)) (sym (frame_in-name (Some frame) fits)) (names-name (Some frame)))
  ]
]

-- another word at one place of a list
pub named-set : (f : ℕ) (words : List ℕ) (i old new : ℕ) → slice_get words i ≡ Some old → named f (set words i new) + from_bool (old == f + 1) ≡ named f words + from_bool (new == f + 1)
named-set f words i old new there = sum-set (λ (w : ℕ). from_bool (w == f + 1)) words i old new there

-- ---- the page is in no other hands

only-member : {A : Type 0} (P : A → Type 0) (l : List A) (a : A) → length l ≤ 1 → slice_get l 0 ≡ Some a → P a → EachMember P l
only-member P l a few at here i x e =
    let within : i < length l = slice_get_within l i x e in
    let first : i ≡ 0 = omega arith in
    subst P (same_Some a x (sym at ∙ ap (slice_get l) (sym first) ∙ e)) here

module _ (layout : Layout) (w : Words) (homes : Homes) (views : List View) (seat : ℕ) (v : View) (page : Page) (has : HasPage v page)
    (sound : IsSound layout) (shaped : IsShaped layout w homes) (within : page.0 < length layout.pages) (me : slice_get views seat ≡ Some v) (h : FrameRule layout w homes views) where
  abbrev of_page : Log → ℕ
  of_page log = from_bool (log.page.0 == page.0)

  abbrev bodies : List (List InHand)
  bodies = map (λ (o : Holder). o.bodies) (map holder_of views)

  bodies-at : (i : ℕ) (x : View) → slice_get views i ≡ Some x → slice_get bodies i ≡ Some x.bodies
  bodies-at i x at = at_map (λ (o : Holder). o.bodies) (map holder_of views) i (holder_of x) (at_map holder_of views i x at)

  body-here : 0 < sum_by (λ (b : InHand). of_page b.log) v.bodies
  body-here =
      let found : (i : ℕ) × (slice_get v.bodies i ≡ Some has.body) × (is_body_of page has.body ≡ true) = find-is (is_body_of page) v.bodies has.body has.body_is in
      let one : of_page has.body.log ≡ 1 = ap from_bool found.2 in
      let more : of_page has.body.log ≤ sum_by (λ (b : InHand). of_page b.log) v.bodies = term-le (λ (b : InHand). of_page b.log) v.bodies found.0 has.body found.1 in
      omega arith

  not-home : (i : ℕ) (log : Log) → slice_get homes i ≡ Some (Some (Some log)) → log.page.0 ≢ page.0
  not-home i log at same =
      let one : sum_bodies of_page homes bodies ≡ 1 = h.pages.bodies.one page.0 within in
      let this : of_page log ≡ 1 = ap from_bool (same-number log.page.0 page.0 same) in
      let home : of_page log ≤ sum_by (of_home of_page) homes = term-le (of_home of_page) homes i (Some (Some log)) at in
      let hand : sum_by (λ (b : InHand). of_page b.log) v.bodies ≤ sum_all (λ (b : InHand). of_page b.log) bodies = term-le (sum_by (λ (b : InHand). of_page b.log)) bodies seat v.bodies (bodies-at seat v me) in
      omega (arith, body-here)

  not-in-hand : (i : ℕ) (x : View) → i ≢ seat → slice_get views i ≡ Some x → EachMember (λ (b : InHand). b.log.page.0 ≢ page.0) x.bodies
  not-in-hand i x differs at j b listed same =
      let one : sum_bodies of_page homes bodies ≡ 1 = h.pages.bodies.one page.0 within in
      let this : of_page b.log ≡ 1 = ap from_bool (same-number b.log.page.0 page.0 same) in
      let theirs : of_page b.log ≤ sum_by (λ (b : InHand). of_page b.log) x.bodies = term-le (λ (b : InHand). of_page b.log) x.bodies j b listed in
      let both : sum_by (λ (b : InHand). of_page b.log) x.bodies + sum_by (λ (b : InHand). of_page b.log) v.bodies ≤ sum_all (λ (b : InHand). of_page b.log) bodies =
      terms-le (sum_by (λ (b : InHand). of_page b.log)) bodies i seat x.bodies v.bodies differs (bodies-at i x at) (bodies-at seat v me) in
      omega (arith, body-here)

  -- the page's word is locked
  pub page-locked : (word : ℕ) → slice_get w.pages page.0 ≡ Some word → lock_of word ≡ 1
  page-locked word there =
      let all : sum_by (page_locks_on page.0) (map (λ (v : View). v.pages) views) ≡ lock_of word = h.pages.page_locks.one page.0 word there in
      let mine : page_locks_on page.0 v.pages ≤ sum_by (page_locks_on page.0) (map (λ (v : View). v.pages) views) = term-le (page_locks_on page.0) (map (λ (v : View). v.pages) views) seat v.pages (at_map (λ (v : View). v.pages) views seat v me) in
      let bit : lock_of word < 2 = omega arith in
      omega (arith, page-listed v page has.lock)

  not-locked : (i : ℕ) (x : View) → i ≢ seat → slice_get views i ≡ Some x → EachMember (λ (l : PageLock). l.page.0 ≢ page.0) x.pages
  not-locked i x differs at j l listed same =
      let there : slice_get w.pages page.0 ≡ Some (slice_index w.pages page.0) = slice_get-get_or w.pages page.0 0 (subst (λ (n : ℕ). page.0 < n) (sym shaped.pages) within) in
      let all : sum_by (page_locks_on page.0) (map (λ (v : View). v.pages) views) ≡ lock_of (slice_index w.pages page.0) = h.pages.page_locks.one page.0 (slice_index w.pages page.0) there in
      let locked : lock_of (slice_index w.pages page.0) ≡ 1 = page-locked (slice_index w.pages page.0) there in
      let this : from_bool (l.page.0 == page.0) ≡ 1 = ap from_bool (same-number l.page.0 page.0 same) in
      let theirs : from_bool (l.page.0 == page.0) ≤ page_locks_on page.0 x.pages = term-le (λ (l : PageLock). from_bool (l.page.0 == page.0)) x.pages j l listed in
      let both : page_locks_on page.0 x.pages + page_locks_on page.0 v.pages ≤ sum_by (page_locks_on page.0) (map (λ (v : View). v.pages) views) =
      terms-le (page_locks_on page.0) (map (λ (v : View). v.pages) views) i seat x.pages v.pages differs (at_map (λ (v : View). v.pages) views i x at) (at_map (λ (v : View). v.pages) views seat v me) in
      omega (arith, page-listed v page has.lock)

  my_fit : slice_get {X = List PageLock × List InHand} (map (λ (v : View). (v.pages, v.bodies)) views) seat ≡ Some (v.pages, v.bodies)
  my_fit = at_map (λ (v : View). (v.pages, v.bodies)) views seat v me

  -- what the page's lock lists
  pub page-knows : KnowsWords layout w.trans w.caches has.lock.lock
  page-knows = h.pages.fits.known seat (v.pages, v.bodies) my_fit 0 has.lock.lock has.lock.listed

  pub frames-few : length w.frames ≤ 2 ^ 16
  frames-few = let limit : layout.frames ≤ frame_limit = sound.frames in subst (λ (n : ℕ). n ≤ 2 ^ 16) (sym shaped.frames) (omega arith)

  pub my-locks : EachMember (IsLocked w.frames v.refs) v.locks
  my-locks = h.frames.frame_locks.known seat (v.refs, v.locks) (at_map (λ (v : View). (v.refs, v.locks)) views seat v me)

  -- a frame that a word begins to name is the page's
  pub names-own : (frame : Frame) → CanName v page frame → NamesOwn w.frames page.0 (frame.0 + 1)
  names-own frame name = lock-names v frame name.has w.frames my-locks page.0 name.owner_is

  -- ---- words of the page that become others, and what its lock lists then
  module _ (test : PageLock → Bool) (to : PageLock → PageLock) (same : (l : PageLock) → (to l).page ≡ l.page) (trans caches : List ℕ) where
    abbrev pages : List PageLock
    pages = changed test to v.pages

    abbrev fitting : List (List PageLock × List InHand)
    fitting = map (λ (v : View). (v.pages, v.bodies)) views

    module _ (is : test has.lock.lock ≡ true)
        (other_caches : (q : ℕ) → q ≢ page.0 → slice_get caches q ≡ slice_get w.caches q)
        (other_words : (s : ℕ) (t : TransDecl) → slice_get layout.trans s ≡ Some t → t.page.0 ≢ page.0 → slice_get trans s ≡ slice_get w.trans s) where
      listed : slice_get pages 0 ≡ Some (to has.lock.lock)
      listed = at_map (λ (l : PageLock). cond (test l) (to l) l) v.pages 0 has.lock.lock has.lock.listed ∙ ap (λ (b : Bool). Some (cond b (to has.lock.lock) has.lock.lock)) is

      fits-else : (log : Log) → log.page.0 ≢ page.0 → Fits layout w.trans w.caches log → Fits layout trans caches log
      fits-else log differs fits cache at = record { cached = before.cached; used = λ s x t declared of there. before.used s x t declared of (sym (other_words s t declared (λ e. differs (ap (λ (p : Page). p.0) (sym of) ∙ e))) ∙ there) }
        where
          before : FitsWords layout log cache w.trans
          before = fits cache (sym (other_caches log.page.0 differs) ∙ at)

      knows-else : (l : PageLock) → l.page.0 ≢ page.0 → KnowsWords layout w.trans w.caches l → KnowsWords layout trans caches l
      knows-else l differs knows = record {
        resident = λ c at. knows.resident c (sym (other_caches l.page.0 differs) ∙ at);
        cache = λ c e. other_caches l.page.0 differs ∙ knows.cache c e;
        words = λ ws e s t declared of. knows.words ws e s t declared of ∙ sym (other_words s t declared (λ e. differs (ap (λ (p : Page). p.0) (sym of) ∙ e)));
      }

      -- the page's words fit no body now, since its only one is in this view's hand; the lock lists them as they are
      pub fits-naming : KnowsWords layout trans caches (to has.lock.lock) → (cache : ℕ) → (to has.lock.lock).cache ≡ Some cache → (ws : List ℕ) → (to has.lock.lock).trans ≡ Some ws
          → PageFits layout trans caches homes (set fitting seat (pages, v.bodies))
      fits-naming knows cache cache_is ws ws_is = record {
        at_home = λ i log at. fits-else log (not-home i log at) (h.pages.fits.at_home i log at);
        in_hand = in-each (λ (x : List PageLock × List InHand). EachMember (λ (b : InHand). page_locks_on b.log.page.0 x.0 ≡ 0 → Fits layout trans caches b.log) x.1)
            (λ j b at none. elim (same-or b.log.page.0 page.0) [
              | inl this ↦
                  let some : 0 < page_locks_on page.0 v.pages = page-listed v page has.lock in
                  let kept : page_locks_on page.0 pages ≡ page_locks_on page.0 v.pages = same-locks test to same v.pages page.0 in
                  let empty : page_locks_on page.0 pages ≡ 0 = subst (λ (n : ℕ). page_locks_on n pages ≡ 0) this none in
                  absurd (omega arith)
              | inr differs ↦ fits-else b.log differs (h.pages.fits.in_hand seat (v.pages, v.bodies) my_fit j b at (sym (same-locks test to same v.pages b.log.page.0) ∙ none))
            ])
            (λ i x differs at j b listed none. fits-else b.log (not-in-hand i x differs at j b listed) (h.pages.fits.in_hand i (x.pages, x.bodies) (at_map (λ (v : View). (v.pages, v.bodies)) views i x at) j b listed none));
        known = in-each (λ (x : List PageLock × List InHand). EachMember (KnowsWords layout trans caches) x.0)
            (only-member (KnowsWords layout trans caches) pages (to has.lock.lock) (subst (λ (n : ℕ). n ≤ 1) (sym (length-changed test to v.pages)) once) listed knows)
            (λ i x differs at j l listed. knows-else l (not-locked i x differs at j l listed) (h.pages.fits.known i (x.pages, x.bodies) (at_map (λ (v : View). (v.pages, v.bodies)) views i x at) j l listed));
        own = each-set (λ (x : List PageLock × List InHand). EachMember (λ (b : InHand). 0 < page_locks_on b.log.page.0 x.0 → KnowsOwn x.0 b) x.1) fitting seat (pages, v.bodies)
            (λ j b at some. record { lock = to has.lock.lock; there = listed; cache = cache; cache_is = cache_is; trans = ws; trans_is = ws_is }) h.pages.fits.own;
      }
        where
          once : length v.pages ≤ 1
          once = h.pages.page_locks.page_once seat v.pages (at_map (λ (v : View). v.pages) views seat v me)

          -- this view, and the others
          in-each : (P : List PageLock × List InHand → Type 0) → P (pages, v.bodies) → ((i : ℕ) (x : View) → i ≢ seat → slice_get views i ≡ Some x → P (x.pages, x.bodies)) → EachMember P (set fitting seat (pages, v.bodies))
          in-each P mine theirs i y at = elim (at_set fitting seat i (pages, v.bodies) y at) [
            | inl t ↦ subst P t.1 mine
            | inr t ↦
                let was : (x : View) × (slice_get views i ≡ Some x) × ((x.pages, x.bodies) ≡ y) = map-was (λ (v : View). (v.pages, v.bodies)) views i y t.1 in
                subst P was.2 (theirs i was.0 t.0 was.1)
          ]

    -- ---- the rule
    module _ (old new : Option Frame) (can : CanChange layout v page old new) where
      abbrev u : View
      u = record v { refs = renamed old new v.refs; pages = pages }

      abbrev refs : List (List Ref)
      refs = map (λ (v : View). v.refs) views

      abbrev held : List (List Ref × List FrameLock)
      held = map (λ (v : View). (v.refs, v.locks)) views

      spare : (frame : Frame) → new ≡ Some frame → 2 ≤ refs_on frame.0 v.refs
      spare frame is = (can.1 frame is).refs

      counts-naming : ((f : ℕ) → f < 2 ^ 16 → named f trans + named f caches + hits f old ≡ named f w.trans + named f w.caches + hits f new) → CountsBalance w.frames trans caches (set refs seat u.refs)
      counts-naming words = record {
        balance = λ f x at.
            let less : f < length w.frames = slice_get_within w.frames f x at in
            let few : length w.frames ≤ 2 ^ 16 = frames-few in
            let was : count_of x ≡ named f w.trans + named f w.caches + sum_by (refs_on f) refs + handled_of x = h.frames.counts.balance f x at in
            let word : named f trans + named f caches + hits f old ≡ named f w.trans + named f w.caches + hits f new = words f (omega arith) in
            let mine : refs_on f u.refs + hits f new ≡ refs_on f v.refs + hits f old = refs-renamed old new v.refs spare f in
            let all : sum_by (refs_on f) (set refs seat u.refs) + refs_on f v.refs ≡ sum_by (refs_on f) refs + refs_on f u.refs = sum-set (refs_on f) refs seat v.refs u.refs (at_map (λ (v : View). v.refs) views seat v me) in
            omega arith;
      }

      locks-naming : FrameLocksHeld w.frames (set held seat (u.refs, v.locks))
      locks-naming = record {
        one = λ f x at.
            let was : sum_by (λ (o : List Ref × List FrameLock). locks_on f o.1) held ≡ lock_of x = h.frames.frame_locks.one f x at in
            let all : sum_by (λ (o : List Ref × List FrameLock). locks_on f o.1) (set held seat (u.refs, v.locks)) + locks_on f v.locks ≡ sum_by (λ (o : List Ref × List FrameLock). locks_on f o.1) held + locks_on f v.locks =
            sum-set (λ (o : List Ref × List FrameLock). locks_on f o.1) held seat (v.refs, v.locks) (u.refs, v.locks) (at_map (λ (v : View). (v.refs, v.locks)) views seat v me) in
            omega arith;
        known = each-set (λ (o : List Ref × List FrameLock). EachMember (IsLocked w.frames o.0) o.1) held seat (u.refs, v.locks)
            (each-weaken (IsLocked w.frames v.refs) (IsLocked w.frames u.refs) v.locks
            (λ l k. record { word = k.word; there = k.there; owner = k.owner; handled = k.handled; poisoned = k.poisoned; referenced = some-renamed old new v.refs spare l.frame.0 k.referenced }) my-locks)
            h.frames.frame_locks.known;
      }

      bounded-naming : IsBounded layout (holdings_of u)
      bounded-naming = record {
        few =
            let few : frames_held (holdings_of v) ≤ 2 = bounded.few in
            let no_more : length u.refs ≤ length v.refs = length-renamed old new v.refs spare (λ frame is. lock-referenced v frame (can.0 frame is).has w.frames my-locks) in
            omega arith;
        shares = shares-renamed old new v.refs spare (length layout.trans + 2) bounded.shares (λ frame is. (can.0 frame is).room);
      }
        where
          bounded : IsBounded layout (holdings_of v)
          bounded = h.frames.holdings.bounded seat (holdings_of v) (at_map holdings_of views seat v me)

      pub keeps-naming : ((f : ℕ) → f < 2 ^ 16 → named f trans + named f caches + hits f old ≡ named f w.trans + named f w.caches + hits f new)
          → TranslationsOwned layout.trans w.frames trans
          → CacheWordsOwned w.frames caches (set (map (λ (v : View). (v.locks, v.pages)) views) seat (v.locks, pages))
          → BodiesAtHome layout w.frames caches w.pages homes (set (map holder_of views) seat (holder_of (record v { pages = pages })))
          → PageFits layout trans caches homes (set fitting seat (pages, v.bodies))
          → FrameRule layout (record w { trans = trans; caches = caches }) homes (set views seat u)
      keeps-naming words translations owned at_home fits = record {
        frames = record {
          counts = change (λ (v : View). v.refs) (CountsBalance w.frames trans caches) views seat u (counts-naming words);
          places = PartKeeps.kept-places views seat v u me refl h.frames.places;
          frame_locks = change (λ (v : View). (v.refs, v.locks)) (FrameLocksHeld w.frames) views seat u locks-naming;
          free = PartKeeps.kept-free views seat v u me refl h.frames.free;
          holdings = PartKeeps.kept-bounded views seat v u me bounded-naming h.frames.holdings;
        };
        pages = record {
          page_locks = keep (λ (v : View). v.locks) (λ l. PageLocksHeld w.pages (map (λ (v : View). v.pages) (set views seat u)) l) views seat v u me refl
              (change (λ (v : View). v.pages) (λ l. PageLocksHeld w.pages l (map (λ (v : View). v.locks) views)) views seat u (locks-listed layout w homes views seat v me h test to same));
          translations = translations;
          caches = change (λ (v : View). (v.locks, v.pages)) (CacheWordsOwned w.frames caches) views seat u owned;
          bodies = change holder_of (BodiesAtHome layout w.frames caches w.pages homes) views seat u at_home;
          fits = change (λ (v : View). (v.pages, v.bodies)) (PageFits layout trans caches homes) views seat u fits;
        };
        histories = PartKeeps.same-histories views seat v u me refl h.histories;
        failures = PartKeeps.same-failures views seat v u me refl h.failures;
        processors = PartKeeps.same-processors views seat v u me refl h.processors;
      }
