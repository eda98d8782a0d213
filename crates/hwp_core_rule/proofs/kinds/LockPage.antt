-- A page's lock taken keeps the frame rule.
use Rattle.std.proofs.Common.{◌≡◌, ◌≢◌, ℕ, ◌+◌, ◌%◌, ◌<◌, ◌≤◌, ◌==◌, Bool, true, false, not, cond, List, [], ◌∷◌, ◌++◌, Option, Some, None, map, set, length, slice_get, slice_index, slice_set, bit_or, inl, inr, refl, sym, ap, ◌∙◌, subst, arith}
use Rattle.std.proofs.lemmas.Bool.{eqb-true, eqb-false}
use Rattle.std.proofs.lemmas.List.{nil_from_length}
use Rattle.std.proofs.lemmas.List.Sums.{sum_by-cons}
use Rattle.std.proofs.lemmas.Option.{none-some, same_Some}
use Rattle.std.specs.Int.{from_bool}
use Rattle.std.specs.List.{sum_by}
use Rattle.hwp_page.specs.hwp_geom.declared.Frame.{Frame}
use Rattle.hwp_page.specs.hwp_geom.declared.Layout.{Layout}
use Rattle.hwp_page.specs.hwp_geom.declared.Page.{Page}
use Rattle.hwp_page.specs.hwp_geom.declared.Who.{Who}
use Rattle.hwp_words.specs.Frames.{lock_of, is_locked}
use Rattle.hwp_words.specs.Names.{frame_name}
use Rattle.hwp_words.proofs.FrameSteps.{fields-lock}
use Rattle.hwp_core_rule.specs.declared.log.Log.{Log}
use Rattle.hwp_core_rule.specs.declared.view.InHand.{InHand}
use Rattle.hwp_core_rule.specs.declared.view.PageLock.{PageLock}
use Rattle.hwp_core_rule.specs.declared.view.Stamp.{Stamp}
use Rattle.hwp_core_rule.specs.declared.view.View.{View}
use Rattle.hwp_core_rule.specs.Lists.{Homes, EachMember}
use Rattle.hwp_core_rule.specs.Logs.{state_of, fitting}
use Rattle.hwp_core_rule.specs.SlotMoves.{IsIn, MeetsSlot, homes_moved, moved_out}
use Rattle.hwp_core_rule.specs.Rule.{FrameRule, holder_of}
use Rattle.hwp_core_rule.specs.Views.{page_locks_on, lock_of_page, body_of, taken, knowing, changed, is_body_of, is_page_lock_of, stamp_of}
use Rattle.hwp_core_rule.specs.Words.{Words}
use Rattle.hwp_core_rule.specs.parts.Bodies.{IsAtHome, IsHolding, content_name}
use Rattle.hwp_core_rule.specs.parts.Fits.{Fits, KnowsWords, KnowsOwn}
use Rattle.hwp_core_rule.specs.parts.Holdings.{IsPast}
use Rattle.hwp_core_rule.specs.parts.Locks.{IsLocked}
use Rattle.hwp_core_rule.specs.parts.Owners.{HoldsBoth}
use Rattle.hwp_core_rule.proofs.Lists.{at_map, map-was, same-number, set_again, set_here, term-le, each-push, each-weaken, from_bool-same, from_bool-other}
use Rattle.hwp_core_rule.proofs.BodySlots.{carry-none, carry-out}
use Rattle.hwp_core_rule.proofs.Keeps.{Keeps, IsShaped}
use Rattle.hwp_core_rule.proofs.PageWords.{or-odd, not-is, knows-knowing}
use Rattle.hwp_core_rule.proofs.ListDrops.{find-is, find-none}
use Rattle.hwp_core_rule.proofs.steps.PageLockSteps.{keeps-paging}
use Rattle.hwp_core_rule.proofs.WordsByKind.{word-there}
use Rattle.hwp_core_rule.specs.declared.step.Step.TheVariants as steps

-- a free lock that is taken, by a view that has no page lock
module _ (layout : Layout) (w : Words) (homes : Homes) (views : List View) (seat : ℕ) (v : View) (page : Page) (found : ℕ)
    (shaped : IsShaped layout w homes) (me : slice_get views seat ≡ Some v) (within : page.0 < length layout.pages) (none : v.pages ≡ [])
    (there : slice_get w.pages page.0 ≡ Some found) (free : lock_of found ≡ 0) (h : FrameRule layout w homes views) where
  abbrev now : ℕ
  now = bit_or found 1

  abbrev shelf : ℕ
  shelf = layout.frames + page.0

  abbrev words : Words
  words = record w { pages = set w.pages page.0 now }

  none-on : (q : ℕ) → page_locks_on q v.pages ≡ 0
  none-on q = ap (page_locks_on q) none

  my_fit : slice_get {X = List PageLock × List InHand} (map (λ (v : View). (v.pages, v.bodies)) views) seat ≡ Some (v.pages, v.bodies)
  my_fit = at_map (λ (v : View). (v.pages, v.bodies)) views seat v me

  -- no view lists the page's lock
  unheld : (i : ℕ) (x : View) → slice_get views i ≡ Some x → page_locks_on page.0 x.pages ≡ 0
  unheld i x at =
      let one : sum_by (page_locks_on page.0) (map (λ (v : View). v.pages) views) ≡ lock_of found = h.pages.page_locks.one page.0 found there in
      let term : page_locks_on page.0 x.pages ≤ sum_by (page_locks_on page.0) (map (λ (v : View). v.pages) views) = term-le (page_locks_on page.0) (map (λ (v : View). v.pages) views) i x.pages (at_map (λ (v : View). v.pages) views i x at) in
      omega (arith, free)

  -- what is on the shelf tells whether the page is in a frame
  shelf-is : (content : Option Log) → IsIn homes shelf content → (c : ℕ) → slice_get w.caches page.0 ≡ Some c → content_name content ≡ cond (c == 0) (page.0 + 1) 0
  shelf-is content inside c at =
      let home : IsAtHome homes (layout.frames + page.0) (cond (c == 0) (page.0 + 1) 0) = h.pages.bodies.shelf_home page.0 found c there at free in
      let same : home.content ≡ content = same_Some home.content content (same_Some (Some home.content) (Some content) (sym home.there ∙ inside)) in
      ap content_name (sym same) ∙ home.named

  -- ---- the lock that is listed
  module _ (new : PageLock) (page_is : new.page ≡ page) where
    abbrev pages : List PageLock
    pages = new ∷ []

    new-on : (q : ℕ) → page_locks_on q (new ∷ []) ≡ from_bool (page.0 == q)
    new-on q =
        let all : page_locks_on q (new ∷ []) ≡ from_bool (new.page.0 == q) + page_locks_on q [] = sum_by-cons (λ (l : PageLock). from_bool (l.page.0 == q)) new [] in
        let rest : page_locks_on q [] ≡ 0 = refl in
        let same : from_bool (new.page.0 == q) ≡ from_bool (page.0 == q) = ap (λ (p : Page). from_bool (p.0 == q)) page_is in
        omega arith

    here : lock_of now + page_locks_on page.0 v.pages ≡ lock_of found + page_locks_on page.0 (new ∷ [])
    here = omega (arith, none-on page.0, new-on page.0, from_bool-same page.0 page.0 refl, free, (fields-lock found).lock)

    others : (q : ℕ) → q ≢ page.0 → page_locks_on q (new ∷ []) ≡ page_locks_on q v.pages
    others q differs = omega (arith, none-on q, new-on q, from_bool-other page.0 q (λ e. differs (sym e)))

    fits-still : EachMember (λ (b : InHand). page_locks_on b.log.page.0 (new ∷ []) ≡ 0 → Fits layout w.trans w.caches b.log) v.bodies
    fits-still = each-weaken (λ (b : InHand). page_locks_on b.log.page.0 v.pages ≡ 0 → Fits layout w.trans w.caches b.log) (λ (b : InHand). page_locks_on b.log.page.0 (new ∷ []) ≡ 0 → Fits layout w.trans w.caches b.log) v.bodies
        (λ b fits unlisted. fits (none-on b.log.page.0)) (h.pages.fits.in_hand seat (v.pages, v.bodies) my_fit)

    still-held : (bodies : List InHand) → EachMember (λ (b : InHand). IsHolding b (record { locks = v.locks; pages = new ∷ []; bodies = bodies })) v.bodies
    still-held bodies i b at = elim (h.pages.bodies.in_hand seat (holder_of v) (at_map holder_of views seat v me) i b at) [
      | inl locked ↦ absurd (omega (arith, locked, none-on b.log.page.0))
      | inr some ↦ inr some
    ]

    pub keeps-lock-empty : KnowsWords layout w.trans w.caches new → EachMember (λ (b : InHand). 0 < page_locks_on b.log.page.0 (new ∷ []) → KnowsOwn (new ∷ []) b) v.bodies → IsIn homes shelf None
        → FrameRule layout words (set homes shelf None) (set views seat (record v { pages = new ∷ [] }))
    keeps-lock-empty knows own empty = keeps-paging layout w homes views seat v page.0 found now None (new ∷ []) v.bodies v.lengths me h shaped there (record {
      carries = carry-none layout w homes views seat v me h shelf (Some None) None (new ∷ []) empty refl refl fits-still (each-push (KnowsWords layout w.trans w.caches) [] new knows (λ i l e. absurd (none-some l e))) own;
      here = here;
      others = others;
      once = omega arith;
      cached = λ f x q at owner both. absurd (omega (arith, both.page, none-on q));
      free_home = λ unset c at. absurd (omega (arith, unset, (fields-lock found).lock));
      out = λ is. set_here homes shelf None (Some None) empty;
      in_hand = still-held v.bodies;
    })

    pub keeps-lock-body : KnowsWords layout w.trans w.caches new → ((b : InHand) → KnowsOwn (new ∷ []) b) → (log : Log) → log.page.0 ≡ page.0 → IsIn homes shelf (Some log) → (stamp : Stamp) → IsPast v.parts stamp.who
        → FrameRule layout words (set homes shelf None) (set views seat (record v {
          pages = new ∷ [];
          bodies = v.bodies ++ (record { log = log; since = length log.entries; frame = None; from = length v.sights; killed = [] }) ∷ [];
          lengths = v.lengths ++ (record { stamp = stamp; log = log }) ∷ [];
        }))
    keeps-lock-body knows own log number inside stamp past = keeps-paging layout w homes views seat v page.0 found now None (new ∷ []) (v.bodies ++ body ∷ []) (v.lengths ++ (record { stamp = stamp; log = log }) ∷ []) me h shaped there (record {
      carries = carry-out layout w homes views seat v me h log shelf inside (subst (λ (n : ℕ). n < length layout.pages) (sym number) within) None stamp past (new ∷ []) fits-still
          (each-push (KnowsWords layout w.trans w.caches) [] new knows (λ i l e. absurd (none-some l e))) (λ i b at some. own b) (λ some. own body);
      here = here;
      others = others;
      once = omega arith;
      cached = λ f x q at owner both. absurd (omega (arith, both.page, none-on q));
      free_home = λ unset c at. absurd (omega (arith, unset, (fields-lock found).lock));
      out = λ is. set_here homes shelf None (Some (Some log)) inside;
      in_hand = each-push (λ (b : InHand). IsHolding b (record { locks = v.locks; pages = new ∷ []; bodies = v.bodies ++ body ∷ [] })) v.bodies body
          (inl (subst (λ (n : ℕ). 0 < page_locks_on n (new ∷ [])) (sym number) (omega (arith, new-on page.0, from_bool-same page.0 page.0 refl)))) (still-held (v.bodies ++ body ∷ []));
    })
      where
        body : InHand
        body = record { log = log; since = length log.entries; frame = None; from = length v.sights; killed = [] }

  -- ---- the shelf is empty, as the page is in a frame
  module _ (empty : IsIn homes shelf None) where
    in-frame : (c : ℕ) → slice_get w.caches page.0 ≡ Some c → not (c == 0) ≡ true
    in-frame c at = which (c == 0) (shelf-is None empty c at)
      where
        which : (b : Bool) → 0 ≡ cond b (page.0 + 1) 0 → not b ≡ true
        which true e = absurd (omega (arith, e))
        which false e = refl

    abbrev bare : PageLock
    bare = record { page = page; resident = true; cache = None; trans = None }

    -- the body is in hand, from the frame that the cache word names
    module _ (place : ℕ) (body : InHand) (at : slice_get v.bodies place ≡ Some body) (number : body.log.page.0 ≡ page.0) where
      cached : slice_get w.caches body.log.page.0 ≡ Some (frame_name body.frame)
      cached = elim (h.pages.bodies.in_hand seat (holder_of v) (at_map holder_of views seat v me) place body at) [
        | inl locked ↦ absurd (omega (arith, locked, none-on body.log.page.0))
        | inr some ↦
            let known : IsLocked w.frames v.refs some.1 = h.frames.frame_locks.known seat (v.refs, v.locks) (at_map (λ (v : View). (v.refs, v.locks)) views seat v me) some.0 some.1 some.2 in
            elim (h.pages.caches.named some.1.frame.0 known.word body.log.page.0 known.there (known.owner ∙ some.3.0)) [
              | inl named ↦ named ∙ ap (λ (f : Option Frame). Some (frame_name f)) (sym some.3.1)
              | inr both ↦
                  let was : (x : View) × (slice_get views both.0 ≡ Some x) × ((x.locks, x.pages) ≡ both.1) = map-was (λ (v : View). (v.locks, v.pages)) views both.0 both.1 both.2 in
                  let holds : HoldsBoth some.1.frame.0 body.log.page.0 (was.0.locks, was.0.pages) = subst (HoldsBoth some.1.frame.0 body.log.page.0) (sym was.2) both.3 in
                  absurd (omega (arith, subst (λ (n : ℕ). 0 < page_locks_on n was.0.pages) number holds.page, unheld both.0 was.0 was.1))
            ]
      ]

      knows-body : KnowsWords layout w.trans w.caches (knowing layout body.log body.frame bare)
      knows-body = knows-knowing layout w.trans w.caches body.log body.frame bare shaped.trans (sym number) cached
          (h.pages.fits.in_hand seat (v.pages, v.bodies) my_fit place body at (none-on body.log.page.0)) (in-frame (frame_name body.frame) (ap (slice_get w.caches) (sym number) ∙ cached))

    keeps-empty : (b : Option InHand) → body_of page v ≡ b → FrameRule layout words (set homes shelf None) (set views seat (record v { pages = lock_of_page layout page None b ∷ [] }))
    keeps-empty None e = keeps-lock-empty bare refl
        (record { resident = λ c at. in-frame c at; cache = λ c is. absurd (none-some c is); words = λ ws is n t decl own. absurd (none-some ws is) })
        (λ i b at some.
        let other : b.log.page.0 ≢ page.0 = eqb-false b.log.page.0 page.0 (find-none (is_body_of page) v.bodies e i b at) in
        absurd (omega (arith, some, new-on bare refl b.log.page.0, from_bool-other page.0 b.log.page.0 (λ same. other (sym same)))))
        empty
    keeps-empty (Some body) e =
        let it : (i : ℕ) × (slice_get v.bodies i ≡ Some body) × (is_body_of page body ≡ true) = find-is (is_body_of page) v.bodies body e in
        keeps-lock-empty (knowing layout body.log body.frame bare) refl (knows-body it.0 body it.1 (eqb-true body.log.page.0 page.0 it.2))
        (λ i b at some. record { lock = knowing layout body.log body.frame bare; there = refl; cache = frame_name body.frame; cache_is = refl; trans = fitting layout body.log.page (state_of layout body.log) (frame_name body.frame); trans_is = refl })
        empty

  -- ---- the page's body is on the shelf
  module _ (who : Who) (past : IsPast v.parts who) (log : Log) (inside : IsIn homes shelf (Some log)) where
    abbrev cache : ℕ
    cache = slice_index w.caches page.0

    cache-there : slice_get w.caches page.0 ≡ Some cache
    cache-there = word-there w.caches page.0 (length layout.pages) shaped.caches within

    on-shelf : (b : Bool) → (cache == 0) ≡ b → log.page.0 + 1 ≡ cond b (page.0 + 1) 0 → (cache ≡ 0) × (log.page.0 ≡ page.0)
    on-shelf true e named = (eqb-true cache 0 e, omega (arith, named))
    on-shelf false e named = absurd (omega (arith, named))

    both : (cache ≡ 0) × (log.page.0 ≡ page.0)
    both = on-shelf (cache == 0) refl (shelf-is (Some log) inside cache cache-there)

    abbrev new : PageLock
    new = record { page = page; resident = false; cache = Some 0; trans = Some (fitting layout log.page (state_of layout log) 0) }

    knows : KnowsWords layout w.trans w.caches new
    knows = knows-knowing layout w.trans w.caches log None (record { page = page; resident = false; cache = None; trans = None }) shaped.trans (sym both.1)
        (ap (slice_get w.caches) both.1 ∙ cache-there ∙ ap (λ (n : ℕ). Some n) both.0) (h.pages.fits.at_home shelf log inside) refl

    lists : (b : Option InHand) → changed (is_page_lock_of log.page) (knowing layout log None) (v.pages ++ lock_of_page layout page (Some log) b ∷ []) ≡ new ∷ []
    lists b = ap (λ (l : List PageLock). changed (is_page_lock_of log.page) (knowing layout log None) (l ++ lock_of_page layout page (Some log) b ∷ [])) none ∙ by b
      where
        by : (b : Option InHand) → changed (is_page_lock_of log.page) (knowing layout log None) (lock_of_page layout page (Some log) b ∷ []) ≡ new ∷ []
        by None = ap (λ (t : Bool). cond t new (lock_of_page layout page (Some log) None) ∷ []) (same-number page.0 log.page.0 (sym both.1))
        by (Some body) = ap (λ (t : Bool). cond t new (lock_of_page layout page (Some log) (Some body)) ∷ []) (same-number page.0 log.page.0 (sym both.1))

    keeps-shelf : FrameRule layout words (set homes shelf None) (set views seat (taken layout who None (Some log) (record v { pages = v.pages ++ lock_of_page layout page (Some log) (body_of page v) ∷ [] })))
    keeps-shelf = subst (λ (l : List PageLock). FrameRule layout words (set homes shelf None) (set views seat (record v {
      pages = l;
      bodies = v.bodies ++ (record { log = log; since = length log.entries; frame = None; from = length v.sights; killed = [] }) ∷ [];
      lengths = v.lengths ++ (record { stamp = stamp; log = log }) ∷ [];
    }))) (sym (lists (body_of page v)))
        (keeps-lock-body new refl knows (λ b. record { lock = new; there = refl; cache = 0; cache_is = refl; trans = fitting layout log.page (state_of layout log) 0; trans_is = refl }) log both.1 inside stamp past)
      where
        stamp : Stamp
        stamp = stamp_of who (record v { pages = v.pages ++ lock_of_page layout page (Some log) (body_of page v) ∷ [] })

  pub keeps-lock : (who : Who) → IsPast v.parts who → (content : Option Log) → IsIn homes shelf content
      → FrameRule layout words (set homes shelf None) (set views seat (taken layout who None content (record v { pages = v.pages ++ lock_of_page layout page content (body_of page v) ∷ [] })))
  keeps-lock who past None inside = subst (λ (l : List PageLock). FrameRule layout words (set homes shelf None) (set views seat (record v { pages = l ++ lock_of_page layout page None (body_of page v) ∷ [] }))) (sym none)
      (keeps-empty inside (body_of page v) refl)
  keeps-lock who past (Some log) inside = keeps-shelf who past log inside

pub keeps-lock_page : (page : Page) → Keeps (steps.LockPage page)
keeps-lock_page page layout w homes views seat v who content given = which (not (is_locked word)) refl
  where
    word : ℕ
    word = slice_index w.pages page.0

    there : slice_get w.pages page.0 ≡ Some (slice_index w.pages page.0)
    there = word-there w.pages page.0 (length layout.pages) given.shaped.pages given.place

    -- another has the lock: nothing changes
    busy : (slice_index w.pages page.0 % 2 ≡ 1) → FrameRule layout (record w { pages = set w.pages page.0 (bit_or (slice_index w.pages page.0) 1) }) homes (set views seat v)
    busy odd =
        let words : set w.pages page.0 (bit_or (slice_index w.pages page.0) 1) ≡ w.pages = ap (set w.pages page.0) (or-odd (slice_index w.pages page.0) odd) ∙ set_again w.pages page.0 (slice_index w.pages page.0) there in
        subst (λ (l : List ℕ). FrameRule layout (record w { pages = l }) homes (set views seat v)) (sym words)
        (subst (FrameRule layout w homes) (sym (set_again views seat v given.me)) given.rule)

    which : (b : Bool) → not (is_locked (slice_index w.pages page.0)) ≡ b
        → FrameRule layout (record w { pages = slice_set w.pages page.0 (bit_or (slice_index w.pages page.0) 1) }) (homes_moved (moved_out b (layout.frames + page.0)) content homes)
        (set views seat (cond b (taken layout who None content (record v { pages = v.pages ++ lock_of_page layout page content (body_of page v) ∷ [] })) v))
    which false e = busy (let set_it : lock_of (slice_index w.pages page.0) ≡ 1 = eqb-true (lock_of (slice_index w.pages page.0)) 1 (not-is (is_locked (slice_index w.pages page.0)) false e) in omega arith)
    which true e = keeps-lock layout w homes views seat v page (slice_index w.pages page.0) given.shaped given.me given.place (nil_from_length v.pages given.asks) there
        (let unset : lock_of (slice_index w.pages page.0) ≢ 1 = eqb-false (lock_of (slice_index w.pages page.0)) 1 (not-is (is_locked (slice_index w.pages page.0)) true e) in omega arith) given.rule who given.past content (subst (λ (b : Bool). MeetsSlot (moved_out b (layout.frames + page.0)) homes content) e given.meets)
