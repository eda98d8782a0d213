-- What the words and slots that a step meets say of a board that keeps the rule: of a frame's word, of a free word, and under a
-- page's lock of the page's cache word, of its body and of its frame.
use Rattle.std.proofs.Common.{◌≡◌, ◌≢◌, ℕ, ◌+◌, ◌-◌, ◌*◌, ◌/◌, ◌%◌, ◌^◌, ◌<◌, ◌≤◌, ◌==◌, Bool, true, false, not, cond, List, [], Option, Some, None, map, length, drop, min, slice_get, slice_index, ◌⊎◌, inl, inr, refl, sym, ap, ◌∙◌, subst, arith, w64}
use Rattle.std.specs.Int.{from_bool, trailing_zeros}
use Rattle.std.proofs.lemmas.Bool.{cases_lt, eqb-true, eqb-false, ne_eqb, false≢true}
use Rattle.std.proofs.lemmas.List.{length-take}
use Rattle.std.proofs.lemmas.Nat.Bits.{bit_at-trailing_zeros}
use Rattle.std.proofs.lemmas.Option.{slice_get-get_or, same_Some, slice_get_within}
use Rattle.hwp_page.specs.hwp_geom.declared.Who.{Who}
use Rattle.hwp_page.specs.hwp_geom.declared.Frame.{Frame}
use Rattle.hwp_page.specs.hwp_geom.declared.Layout.{Layout}
use Rattle.hwp_page.specs.hwp_geom.declared.Page.{Page}
use Rattle.hwp_page.specs.hwp_geom.Limits.{frame_limit}
use Rattle.hwp_words.specs.Frames.{lock_of, count_of, owner_of, handled_of, is_locked, is_handled}
use Rattle.hwp_core_rule.specs.declared.log.Log.{Log}
use Rattle.hwp_core_rule.specs.declared.shared_word.SharedWord.TheVariants as places
use Rattle.hwp_core_rule.specs.declared.record.State.{State}
use Rattle.hwp_core_rule.specs.declared.view.FrameLock.{FrameLock}
use Rattle.hwp_core_rule.specs.declared.view.PageLock.{PageLock}
use Rattle.hwp_core_rule.specs.declared.view.Ref.{Ref}
use Rattle.hwp_core_rule.specs.declared.view.View.{View}
use Rattle.hwp_core_rule.specs.Asks.{HasInHand, Asks, AsksOf}
use Rattle.hwp_core_rule.specs.Lists.{EachMember}
use Rattle.hwp_core_rule.specs.Logs.{state_of}
use Rattle.hwp_core_rule.specs.SlotMoves.{IsIn, frame_slot, shelf_slot, IsWithin, LeavesHome, slot_move, moved_out, takes}
use Rattle.hwp_core_rule.specs.Rule.{Holds}
use Rattle.hwp_core_rule.specs.Views.{frame_in, locks_on, page_locks_on}
use Rattle.hwp_core_rule.specs.Words.{words_of, segment, index, size, free_words, IsPlace}
use Rattle.hwp_core_rule.specs.parts.Bodies.{IsAtHome, content_name}
use Rattle.hwp_core_rule.specs.parts.Counts.{named}
use Rattle.hwp_core_rule.specs.parts.Fits.{KnowsWords}
use Rattle.hwp_core_rule.specs.parts.Owners.{NamesOwn}
use Rattle.hwp_core_rule.specs.parts.Places.{in_hand, IsBare}
use Rattle.hwp_core_rule.specs.declared.step.Step.{Step}
use Rattle.hwp_core_rule.specs.declared.step.Step.TheVariants as steps
use Rattle.hwp_core_rule.specs.Steps.{place_of, goes}
use Rattle.hwp_core_rule.proofs.PageWords.{same-page}
use Rattle.hwp_core_rule.proofs.FramesInHand.{in_hand-mine}
use Rattle.hwp_core_rule.proofs.Lists.{at_map, term-le, same-number, sum-zero, each-map, each-weaken}
use Rattle.hwp_core_rule.proofs.MoveKeeps.{shaped}
use Rattle.hwp_core_rule.proofs.WordsByKind.{words-read}

-- the frame word that a step met, among the words of the board
pub frame-word : (layout : Layout) (s : State) → Holds layout s → (frame : Frame) (found : ℕ) → frame.0 < layout.frames
    → found ≡ slice_index s.words (index layout (places.Frame frame)) → slice_get (words_of layout s.words).frames frame.0 ≡ Some found
frame-word layout s h frame found inside met =
    slice_get-get_or (words_of layout s.words).frames frame.0 0 within ∙ ap (λ (n : ℕ). Some n) (words-read layout s.words (places.Frame frame) inside ∙ sym met)
  where
    within : frame.0 < length (segment 0 layout.frames s.words)
    within =
        let all : length s.words ≡ size layout = h.words in
        let rest : length (drop 0 s.words) ≡ length s.words = refl in
        let both : length (segment 0 layout.frames s.words) ≡ min layout.frames (length (drop 0 s.words)) = length-take layout.frames (drop 0 s.words) in
        omega arith

-- a bit that a free word shows is that of a frame of the layout
pub free-within : (layout : Layout) (s : State) → Holds layout s → (number found : ℕ) → number < free_words layout
    → found ≡ slice_index s.words (index layout (places.Free number)) → 0 < found → found < 2 ^ 64
    → (trailing_zeros w64 found < 64) × (number * 64 + trailing_zeros w64 found < layout.frames)
free-within layout s h number found inside met some fits = (lowest.0, within (cases_lt f layout.frames))
  where
    lowest : (trailing_zeros w64 found < 64) × (found / 2 ^ trailing_zeros w64 found % 2 ≡ 1) × ((i : ℕ) → i < trailing_zeros w64 found → found / 2 ^ i % 2 ≡ 0)
    lowest = bit_at-trailing_zeros w64 found some fits

    f : ℕ
    f = number * 64 + trailing_zeros w64 found

    within : (f < layout.frames) ⊎ (layout.frames ≤ f) → f < layout.frames
    within (inl less) = less
    within (inr past) =
        let below : trailing_zeros w64 found < 64 = lowest.0 in
        let word_is : f / 64 ≡ number = omega arith in
        let bit_is : f % 64 ≡ trailing_zeros w64 found = omega arith in
        let read : slice_index (words_of layout s.words).frees number ≡ found = words-read layout s.words (places.Free number) inside ∙ sym met in
        let none : slice_index (words_of layout s.words).frees (f / 64) / 2 ^ (f % 64) % 2 ≡ 0 = h.rule.frames.free.within f past in
        let none_there : slice_index (words_of layout s.words).frees number / 2 ^ (f % 64) % 2 ≡ 0 = subst (λ (n : ℕ). slice_index (words_of layout s.words).frees n / 2 ^ (f % 64) % 2 ≡ 0) word_is none in
        let none_at : slice_index (words_of layout s.words).frees number / 2 ^ trailing_zeros w64 found % 2 ≡ 0 = subst (λ (k : ℕ). slice_index (words_of layout s.words).frees number / 2 ^ k % 2 ≡ 0) bit_is none_there in
        let none_found : found / 2 ^ trailing_zeros w64 found % 2 ≡ 0 = subst (λ (w : ℕ). w / 2 ^ trailing_zeros w64 found % 2 ≡ 0) read none_at in
        let set : found / 2 ^ trailing_zeros w64 found % 2 ≡ 1 = lowest.1 in
        absurd (omega arith)

module _ (layout : Layout) (s : State) (h : Holds layout s) (seat : ℕ) (view : View) (frame : Frame) where
  -- a frame in hand is bare
  pub hand-bare : (found : ℕ) → slice_get s.views seat ≡ Some view → HasInHand view frame → frame.0 < layout.frames → found ≡ slice_index s.words (index layout (places.Frame frame)) → IsBare found
  hand-bare found me has inside met = h.rule.frames.places.idle frame.0 found (frame-word layout s h frame found inside met) (omega (arith, some))
    where
      some : 1 ≤ in_hand frame.0 (map (λ (v : View). v.hands) s.views)
      some = in_hand-mine (map (λ (v : View). v.hands) s.views) seat view.hands (at_map (λ (v : View). v.hands) s.views seat view me) has.1 frame has.3 has.0 has.2

-- frames of one number are one
pub same-frame : (f g : Frame) → f.0 ≡ g.0 → f ≡ g
same-frame f g e = λ i. record { 0 = e i }

-- a content that has a page's name is that page's body
pub named-body : (content : Option Log) (page : Page) → content_name content ≡ page.0 + 1 → (log : Log) × (content ≡ Some log) × (log.page ≡ page)
named-body None page named = absurd (omega (arith, named))
named-body (Some log) page named = (log, refl, same-page log.page page (omega (arith, named)))

-- a number above 0 names the frame before it
pub frame-named : (f : Frame) → f.0 < 2 ^ 16 → frame_in (f.0 + 1) ≡ Some f
frame-named f less = ap (λ (b : Bool). cond b None (Some (record { 0 = ((f.0 + 1) % 2 ^ 20 - 1) % 2 ^ 16 }))) (ne_eqb ((f.0 + 1) % 2 ^ 20) 0 (λ e. omega (arith, e))) ∙ ap Some (same-frame (record { 0 = ((f.0 + 1) % 2 ^ 20 - 1) % 2 ^ 16 }) f number)
  where
    number : ((f.0 + 1) % 2 ^ 20 - 1) % 2 ^ 16 ≡ f.0
    number = omega arith

-- a lock word whose lock was free
pub free-word : (word : ℕ) → not (is_locked word) ≡ true → lock_of word ≡ 0
free-word word free = which (lock_of word == 1) refl
  where
    which : (b : Bool) → (lock_of word == 1) ≡ b → lock_of word ≡ 0
    which true is = absurd (omega (arith, ap from_bool free, ap (λ (b : Bool). from_bool (not b)) is))
    which false is = let other : lock_of word ≢ 1 = eqb-false (lock_of word) 1 is in let bit : lock_of word < 2 = omega arith in omega arith

-- a lock word whose lock is held
pub held-word : (word : ℕ) → not (is_locked word) ≡ false → lock_of word ≡ 1
held-word word held = which (lock_of word == 1) refl
  where
    which : (b : Bool) → (lock_of word == 1) ≡ b → lock_of word ≡ 1
    which true is = eqb-true (lock_of word) 1 is
    which false is = absurd (omega (arith, ap from_bool held, ap (λ (b : Bool). from_bool (not b)) is))

-- the cache words of a board
abbrev pub cache-words : Layout → List ℕ → List ℕ
cache-words layout words = (words_of layout words).caches

module _ (layout : Layout) (s : State) (h : Holds layout s) where
  pub cache-word : (page : Page) (found : ℕ) → page.0 < length layout.pages → found ≡ slice_index s.words (index layout (places.Cache page)) → slice_get (words_of layout s.words).caches page.0 ≡ Some found
  cache-word page found inside met =
      slice_get-get_or (words_of layout s.words).caches page.0 0 (subst (λ (n : ℕ). page.0 < n) (sym (shaped layout s h).caches) inside) ∙ ap (λ (n : ℕ). Some n) (words-read layout s.words (places.Cache page) inside ∙ sym met)

  pub page-word : (page : Page) (found : ℕ) → page.0 < length layout.pages → found ≡ slice_index s.words (index layout (places.Page page)) → slice_get (words_of layout s.words).pages page.0 ≡ Some found
  page-word page found inside met =
      slice_get-get_or (words_of layout s.words).pages page.0 0 (subst (λ (n : ℕ). page.0 < n) (sym (shaped layout s h).pages) inside) ∙ ap (λ (n : ℕ). Some n) (words-read layout s.words (places.Page page) inside ∙ sym met)

  -- a page's lock is free where no view lists a page's lock, and a frame's where none lists a frame's
  pub page-free : (page : Page) (found : ℕ) → page.0 < length layout.pages → found ≡ slice_index s.words (index layout (places.Page page)) → EachMember (λ (v : View). v.pages ≡ []) s.views → lock_of found ≡ 0
  page-free page found inside met none = sym (h.rule.pages.page_locks.one page.0 found (page-word page found inside met))
      ∙ sum-zero (page_locks_on page.0) (map (λ (v : View). v.pages) s.views)
      (each-map (λ (v : View). v.pages) (λ (l : List PageLock). page_locks_on page.0 l ≡ 0) s.views (each-weaken (λ (v : View). v.pages ≡ []) (λ (v : View). page_locks_on page.0 v.pages ≡ 0) s.views (λ v e. ap (page_locks_on page.0) e) none))

  pub frame-free : (frame : Frame) (found : ℕ) → frame.0 < layout.frames → found ≡ slice_index s.words (index layout (places.Frame frame)) → EachMember (λ (v : View). v.locks ≡ []) s.views → lock_of found ≡ 0
  frame-free frame found inside met none = sym (h.rule.frames.frame_locks.one frame.0 found (frame-word layout s h frame found inside met))
      ∙ sum-zero (λ (l : List Ref × List FrameLock). locks_on frame.0 l.1) (map (λ (v : View). (v.refs, v.locks)) s.views)
      (each-map (λ (v : View). (v.refs, v.locks)) (λ (l : List Ref × List FrameLock). locks_on frame.0 l.1 ≡ 0) s.views (each-weaken (λ (v : View). v.locks ≡ []) (λ (v : View). locks_on frame.0 v.locks ≡ 0) s.views (λ v e. ap (locks_on frame.0) e) none))

  -- a cache word that isn't 0 names a frame of the layout, which the page owns
  pub cached-frame : (page : Page) (found : ℕ) → slice_get (words_of layout s.words).caches page.0 ≡ Some found → found ≢ 0
      → (frame : Frame) × (found ≡ frame.0 + 1) × (frame.0 < layout.frames) × (frame_in found ≡ Some frame)
  cached-frame page found at some = elim (h.rule.pages.caches.owned page.0 found at) [
    | inl none ↦ absurd (some none)
    | inr own ↦ from own
  ]
    where
      from : NamesOwn (words_of layout s.words).frames page.0 found → (frame : Frame) × (found ≡ frame.0 + 1) × (frame.0 < layout.frames) × (frame_in found ≡ Some frame)
      from own = (record { 0 = own.frame }, own.named, within, ap frame_in own.named ∙ frame-named (record { 0 = own.frame }) small)
        where
          within : own.frame < layout.frames
          within = subst (λ (n : ℕ). own.frame < n) (shaped layout s h).frames (slice_get_within (words_of layout s.words).frames own.frame own.owner_word own.there)

          small : own.frame < 2 ^ 16
          small = let few : layout.frames ≤ frame_limit = h.sound.frames in omega (arith, within)

  -- the shelf of an unlocked page has the page's body, if any, and that fits a cache word of 0
  pub on-shelf : (page : Page) (found : ℕ) (log : Log) → page.0 < length layout.pages → found ≡ slice_index s.words (index layout (places.Page page)) → lock_of found ≡ 0
      → IsIn s.homes (shelf_slot layout page) (Some log) → (log.page ≡ page) × (false ≡ (state_of layout log).cached)
  on-shelf page found log inside met free there = which (slice_index (words_of layout s.words).caches page.0 == 0) refl
    where
      cache-at : slice_get (words_of layout s.words).caches page.0 ≡ Some (slice_index (words_of layout s.words).caches page.0)
      cache-at = slice_get-get_or (words_of layout s.words).caches page.0 0 (subst (λ (n : ℕ). page.0 < n) (sym (shaped layout s h).caches) inside)

      home : IsAtHome s.homes (layout.frames + page.0) (cond (slice_index (words_of layout s.words).caches page.0 == 0) (page.0 + 1) 0)
      home = h.rule.pages.bodies.shelf_home page.0 found (slice_index (words_of layout s.words).caches page.0) (page-word page found inside met) cache-at free

      name : log.page.0 + 1 ≡ cond (slice_index (words_of layout s.words).caches page.0 == 0) (page.0 + 1) 0
      name = ap content_name (same_Some (Some log) home.content (same_Some (Some (Some log)) (Some home.content) (sym there ∙ home.there))) ∙ home.named

      which : (b : Bool) → (slice_index (words_of layout s.words).caches page.0 == 0) ≡ b → (log.page ≡ page) × (false ≡ (state_of layout log).cached)
      which false is = absurd (omega (arith, name ∙ ap (λ (b : Bool). cond b (page.0 + 1) 0) is))
      which true is = (page-is, ap not (sym is) ∙ (h.rule.pages.fits.at_home (layout.frames + page.0) log there (slice_index (words_of layout s.words).caches page.0) cache-there).cached)
        where
          number : log.page.0 + 1 ≡ page.0 + 1
          number = name ∙ ap (λ (b : Bool). cond b (page.0 + 1) 0) is

          page-is : log.page ≡ page
          page-is = same-page log.page page (omega (arith, number))

          cache-there : slice_get (words_of layout s.words).caches log.page.0 ≡ Some (slice_index (words_of layout s.words).caches page.0)
          cache-there = ap (λ (p : Page). slice_get (words_of layout s.words).caches p.0) page-is ∙ cache-at

  module _ (seat : ℕ) (view : View) (me : slice_get s.views seat ≡ Some view) where
    -- what the page's lock lists is so
    pub lock-knows : (lock : PageLock) → slice_get view.pages 0 ≡ Some lock → KnowsWords layout (words_of layout s.words).trans (words_of layout s.words).caches lock
    lock-knows lock at = h.rule.pages.fits.known seat (view.pages, view.bodies) (at_map (λ (v : View). (v.pages, v.bodies)) s.views seat view me) 0 lock at

    -- the frame that a page's cache word names is the page's
    cached-owned : (lock : PageLock) (frame : Frame) (found : ℕ) → slice_get (words_of layout s.words).caches lock.page.0 ≡ Some (frame.0 + 1)
        → slice_get (words_of layout s.words).frames frame.0 ≡ Some found → owner_of found ≡ lock.page.0 + 1
    cached-owned lock frame found cached there = elim (h.rule.pages.caches.owned lock.page.0 (frame.0 + 1) cached) [
      | inl none ↦ absurd (omega (arith, none))
      | inr own ↦
          let number : own.frame ≡ frame.0 = omega (arith, own.named) in
          ap owner_of (same_Some found own.owner_word (sym there ∙ ap (slice_get (words_of layout s.words).frames) (sym number) ∙ own.there)) ∙ own.owned
    ]

    -- a frame that the page's lock lists as the page's is referenced, and isn't handled
    pub stays-referenced : (lock : PageLock) (frame : Frame) (found : ℕ) → slice_get view.pages 0 ≡ Some lock → lock.cache ≡ Some (frame.0 + 1) → frame.0 < layout.frames
        → found ≡ slice_index s.words (index layout (places.Frame frame)) → (1 ≤ count_of found) × (is_handled found ≡ false)
    stays-referenced lock frame found at lists inside met = (count, unhandled)
      where
        there : slice_get (words_of layout s.words).frames frame.0 ≡ Some found
        there = frame-word layout s h frame found inside met

        cached : slice_get (words_of layout s.words).caches lock.page.0 ≡ Some (frame.0 + 1)
        cached = (lock-knows lock at).cache (frame.0 + 1) lists

        count : 1 ≤ count_of found
        count =
            let balance = h.rule.frames.counts.balance frame.0 found there in
            let one : from_bool (frame.0 + 1 == frame.0 + 1) ≤ named frame.0 (words_of layout s.words).caches = term-le (λ (c : ℕ). from_bool (c == frame.0 + 1)) (words_of layout s.words).caches lock.page.0 (frame.0 + 1) cached in
            let it : from_bool (frame.0 + 1 == frame.0 + 1) ≡ 1 = ap from_bool (same-number (frame.0 + 1) (frame.0 + 1) refl) in
            omega (arith, balance)

        unhandled : is_handled found ≡ false
        unhandled = ne_eqb (handled_of found) 1 (λ e. let none : owner_of found ≡ 0 = (h.rule.failures.handled.out frame.0 found there e).unowned in let some : owner_of found ≡ lock.page.0 + 1 = cached-owned lock frame found cached there in omega arith)

    -- the slot of the page's frame, when its lock is free, has the page's body, which fits the cache word
    pub in-slot : (lock : PageLock) (frame : Frame) (found : ℕ) (content : Option Log) → slice_get view.pages 0 ≡ Some lock → lock.page.0 < length layout.pages → lock.cache ≡ Some (frame.0 + 1) → frame.0 < layout.frames
        → found ≡ slice_index s.words (index layout (places.Frame frame)) → lock_of found ≡ 0 → IsIn s.homes (frame_slot frame) content
        → (owner_of found ≡ lock.page.0 + 1) × ((log : Log) × (content ≡ Some log) × (log.page ≡ lock.page) × (true ≡ (state_of layout log).cached))
    in-slot lock frame found content at inside-page lists inside met free slot = (owner, (body.0, body.1, body.2, fits))
      where
        there : slice_get (words_of layout s.words).frames frame.0 ≡ Some found
        there = frame-word layout s h frame found inside met

        cached : slice_get (words_of layout s.words).caches lock.page.0 ≡ Some (frame.0 + 1)
        cached = (lock-knows lock at).cache (frame.0 + 1) lists

        owner : owner_of found ≡ lock.page.0 + 1
        owner = cached-owned lock frame found cached there

        home : IsAtHome s.homes frame.0 (owner_of found)
        home = h.rule.pages.bodies.frame_home frame.0 found there free

        name : content_name content ≡ lock.page.0 + 1
        name = ap content_name (same_Some content home.content (same_Some (Some content) (Some home.content) (sym slot ∙ home.there))) ∙ home.named ∙ owner

        body : (log : Log) × (content ≡ Some log) × (log.page ≡ lock.page)
        body = named-body content lock.page name

        fits : true ≡ (state_of layout body.0).cached
        fits =
            let some : not (frame.0 + 1 == 0) ≡ true = ap not (ne_eqb (frame.0 + 1) 0 (λ e. omega (arith, e))) in
            let at_home : slice_get s.homes frame.0 ≡ Some (Some (Some body.0)) = slot ∙ ap (λ (c : Option Log). Some (Some c)) body.1 in
            sym some ∙ (h.rule.pages.fits.at_home frame.0 body.0 at_home (frame.0 + 1) (ap (λ (p : Page). slice_get (words_of layout s.words).caches p.0) body.2 ∙ cached)).cached

-- ---- the slot that a step moves

-- a step that takes a lock asks nothing of a content
pub asks-taken : (layout : Layout) (who : Who) (step : Step) (found : ℕ) (put content : Option Log) (v : View) → takes layout step found ≡ true → AsksOf layout who step put v → AsksOf layout who step content v
asks-taken layout who (steps.Adopt frame) found put content v out asks = asks
asks-taken layout who (steps.LockFrame frame) found put content v out asks = asks
asks-taken layout who (steps.LockPage page) found put content v out asks = asks
asks-taken layout who step found put content v out asks = absurd (false≢true out)

-- a step asks of the content that it brings or puts what it asks of the one that it puts
pub asks-content : (layout : Layout) (who : Who) (step : Step) (found : ℕ) (got put : Option Log) (v : View) (t : Bool) → takes layout step found ≡ t → AsksOf layout who step put v → AsksOf layout who step (cond t got put) v
asks-content layout who step found got put v true is asks = asks-taken layout who step found put got v is asks
asks-content layout who step found got put v false is asks = asks

within-out : (taken : Bool) (slot count : ℕ) → slot < count → IsWithin count (moved_out taken slot)
within-out true slot count less = less
within-out false slot count less = tt

-- the slot that moves is one of the board
pub slot-within : (layout : Layout) (step : Step) (found : ℕ) → IsPlace layout (place_of step) → IsWithin (layout.frames + length layout.pages) (slot_move layout step found)
slot-within layout (steps.Adopt frame) found place = omega (arith, place)
slot-within layout (steps.LockFrame frame) found place = within-out (goes (steps.LockFrame frame) found) frame.0 (layout.frames + length layout.pages) (omega (arith, place))
slot-within layout (steps.UnlockFrame frame) found place = omega (arith, place)
slot-within layout (steps.Retire frame) found place = omega (arith, place)
slot-within layout (steps.LockPage page) found place = within-out (goes (steps.LockPage page) found) (layout.frames + page.0) (layout.frames + length layout.pages) (omega (arith, place))
slot-within layout (steps.UnlockPage page) found place = omega (arith, place)
slot-within layout step found place = tt

module _ (layout : Layout) (s : State) (holds : Holds layout s) (seat : ℕ) (v : View) (me : slice_get s.views seat ≡ Some v) (found : ℕ) where
  frame-home : (frame : Frame) → frame.0 < layout.frames → found ≡ slice_index s.words (index layout (places.Frame frame)) → lock_of found ≡ 0 → (content : Option Log) × IsIn s.homes frame.0 content
  frame-home frame less met free = let home = holds.rule.pages.bodies.frame_home frame.0 found (frame-word layout s holds frame found less met) free in (home.content, home.there)

  page-home : (page : Page) → page.0 < length layout.pages → found ≡ slice_index s.words (index layout (places.Page page)) → lock_of found ≡ 0 → (content : Option Log) × IsIn s.homes (layout.frames + page.0) content
  page-home page less met free =
      let cache = slice_get-get_or (words_of layout s.words).caches page.0 0 (subst (λ (n : ℕ). page.0 < n) (sym (shaped layout s holds).caches) less) in
      let home = holds.rule.pages.bodies.shelf_home page.0 found (slice_index (words_of layout s.words).caches page.0) (page-word layout s holds page found less met) cache free in
      (home.content, home.there)

  home-out : (slot : ℕ) → (lock_of found ≡ 0 → (content : Option Log) × IsIn s.homes slot content) → (b : Bool) → not (is_locked found) ≡ b → LeavesHome (moved_out b slot) s.homes
  home-out slot home true free = home (free-word found free)
  home-out slot home false free = tt

  -- a slot that goes out is at home
  pub slot-home : (who : Who) (step : Step) (put : Option Log) → Asks layout who step put v → found ≡ slice_index s.words (index layout (place_of step)) → LeavesHome (slot_move layout step found) s.homes
  slot-home who (steps.Adopt frame) put asks met = frame-home frame asks.place met (hand-bare layout s holds seat v frame found me asks.kind.0 asks.place met).unlocked
  slot-home who (steps.LockFrame frame) put asks met = home-out frame.0 (frame-home frame asks.place met) (not (is_locked found)) refl
  slot-home who (steps.LockPage page) put asks met = home-out (layout.frames + page.0) (page-home page asks.place met) (not (is_locked found)) refl
  slot-home who step put asks met = tt
