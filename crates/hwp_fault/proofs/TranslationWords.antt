-- What a translation word that a step met says of a board that keeps the rule: of the frame that it names, and of the body
-- that was in that frame; and what a process's word says.
use Rattle.std.proofs.Common.{◌≡◌, ◌≢◌, ℕ, ◌+◌, ◌-◌, ◌%◌, ◌^◌, ◌<◌, ◌≤◌, ◌==◌, Bool, true, false, cond, List, [], Option, Some, None, length, slice_get, slice_index, inl, inr, refl, sym, ap, ◌∙◌, subst, arith}
use Rattle.std.specs.Int.{from_bool}
use Rattle.std.specs.FinSet as set
use Rattle.std.specs.List.{sum_by}
use Rattle.std.proofs.lemmas.Bool.{both_ways, ne_eqb}
use Rattle.std.proofs.lemmas.List.Elements.{All-get_or}
use Rattle.std.proofs.lemmas.Option.{none-some, same_Some, slice_get_within, slice_get-get_or, get_or_from_slice_get}
use Rattle.hwp_page.specs.hwp_geom.declared.Frame.{Frame}
use Rattle.hwp_page.specs.hwp_geom.declared.Layout.{Layout}
use Rattle.hwp_page.specs.hwp_geom.declared.Page.{Page}
use Rattle.hwp_page.specs.hwp_geom.declared.Proc.{Proc}
use Rattle.hwp_page.specs.hwp_geom.declared.TransDecl.{TransDecl}
use Rattle.hwp_page.specs.hwp_geom.declared.VSlot.{VSlot}
use Rattle.hwp_page.specs.hwp_geom.Limits.{frame_limit, page_limit}
use Rattle.hwp_core.specs.hwp_words.declared.Pte.TheVariants as ptes
use Rattle.hwp_core.specs.hwp_words.Frames.{count_of, owner_of, handled_of, is_handled, lock_of}
use Rattle.hwp_core.specs.hwp_words.Names.{page_named}
use Rattle.hwp_core.specs.hwp_words.Translations.{pte_word}
use Rattle.hwp_core.specs.hwp_core_rule.declared.FrameLock.{FrameLock}
use Rattle.hwp_core.specs.hwp_core_rule.declared.InHand.{InHand}
use Rattle.hwp_core.specs.hwp_core_rule.declared.Log.{Log}
use Rattle.hwp_core.specs.hwp_core_rule.declared.PageLock.{PageLock}
use Rattle.hwp_core.specs.hwp_core_rule.declared.SharedWord.TheVariants as places
use Rattle.hwp_core.specs.hwp_core_rule.declared.State.{State}
use Rattle.hwp_core.specs.hwp_core_rule.declared.View.{View}
use Rattle.hwp_core.specs.hwp_core_rule.Logs.{state_of, fitting_word}
use Rattle.hwp_core.specs.hwp_core_rule.Rule.{Holds}
use Rattle.hwp_core.specs.hwp_core_rule.SlotMoves.{IsIn, frame_slot}
use Rattle.hwp_core.specs.hwp_core_rule.Views.{frame_in}
use Rattle.hwp_core.specs.hwp_core_rule.Words.{words_of, index}
use Rattle.hwp_core.specs.hwp_core_rule.parts.Bodies.{IsAtHome, content_name}
use Rattle.hwp_core.specs.hwp_core_rule.parts.Counts.{named}
use Rattle.hwp_core.specs.hwp_core_rule.parts.Fits.{Fits}
use Rattle.hwp_core.specs.hwp_core_rule.parts.Locks.{IsLocked}
use Rattle.hwp_core.specs.hwp_core_rule.parts.Owners.{NamesOwn}
use Rattle.hwp_core.proofs.of_hwp_core_rule.PageWords.{same-page}
use Rattle.hwp_core.proofs.of_hwp_core_rule.Lists.{at_map, term-le, same-number}
use Rattle.hwp_core.proofs.of_hwp_core_rule.MetWords.{frame-word, frame-named}
use Rattle.hwp_core.proofs.of_hwp_core_rule.MoveKeeps.{shaped}
use Rattle.hwp_core.proofs.of_hwp_core_rule.WordsByKind.{words-read}

module _ (layout : Layout) (s : State) (h : Holds layout s) where
  -- the words that a step met, among the words of the board
  pub trans-word : (slot : VSlot) (found : ℕ) → slot.0 < length layout.trans → found ≡ slice_index s.words (index layout (places.Trans slot)) → slice_get (words_of layout s.words).trans slot.0 ≡ Some found
  trans-word slot found inside met =
      slice_get-get_or (words_of layout s.words).trans slot.0 0 (subst (λ (n : ℕ). slot.0 < n) (sym (shaped layout s h).trans) inside) ∙ ap (λ (n : ℕ). Some n) (words-read layout s.words (places.Trans slot) inside ∙ sym met)

  pub process-word : (process : Proc) (found : ℕ) → process.0 < layout.procs → found ≡ slice_index s.words (index layout (places.Process process)) → slice_get (words_of layout s.words).processes process.0 ≡ Some found
  process-word process found inside met =
      slice_get-get_or (words_of layout s.words).processes process.0 0 (subst (λ (n : ℕ). process.0 < n) (sym (shaped layout s h).processes) inside) ∙ ap (λ (n : ℕ). Some n) (words-read layout s.words (places.Process process) inside ∙ sym met)

  -- the page of a translation is one of the layout
  pub page-within : (slot : VSlot) (t : TransDecl) → slice_get layout.trans slot.0 ≡ Some t → t.page.0 < length layout.pages
  page-within slot t decl = subst (λ (d : TransDecl). d.page.0 < length layout.pages) (get_or_from_slice_get layout.trans slot.0 t t decl)
      (All-get_or (λ (d : TransDecl). (d.process.0 < layout.procs) × (d.page.0 < length layout.pages)) layout.trans slot.0 t (slice_get_within layout.trans slot.0 t decl) h.sound.trans_names).1

  -- a process's word is 0 or names a page
  pub ending-named : (process : Proc) (found : ℕ) (page : Page) → process.0 < layout.procs → found ≡ slice_index s.words (index layout (places.Process process)) → page_named found ≡ Some page → found ≡ page.0 + 1
  ending-named process found page inside met names = which (found == 0) refl
    where
      few : found ≤ length layout.pages
      few = h.rule.histories.endings.named process.0 found (process-word process found inside met)

      which : (b : Bool) → (found == 0) ≡ b → found ≡ page.0 + 1
      which true none = absurd (none-some page (sym (ap (λ (c : Bool). cond c None (Some (record { 0 = (found - 1) % 2 ^ 16 }))) none) ∙ names))
      which false some =
          let number : (found - 1) % 2 ^ 16 ≡ page.0 = ap (λ (p : Page). p.0) (same_Some (record { 0 = (found - 1) % 2 ^ 16 }) page (sym (ap (λ (c : Bool). cond c None (Some (record { 0 = (found - 1) % 2 ^ 16 }))) some) ∙ names)) in
          let pages : length layout.pages ≤ page_limit = h.sound.pages in
          let other : found ≢ 0 = λ e. both_ways (found == 0) some (same-number found 0 e) in
          omega (arith, few)

  module _ (slot : VSlot) (t : TransDecl) (decl : slice_get layout.trans slot.0 ≡ Some t) (found : ℕ) (there : slice_get (words_of layout s.words).trans slot.0 ≡ Some found) (frame : Frame) (names : frame_in found ≡ Some frame) where
    -- a word that names a frame names one of the layout, which the translation's page owns
    pub names-own : (found ≡ frame.0 + 1) × (frame.0 < layout.frames) × ((w : ℕ) → slice_get (words_of layout s.words).frames frame.0 ≡ Some w → owner_of w ≡ t.page.0 + 1)
    names-own = elim (h.rule.pages.translations.owned slot.0 found t there decl) [
      | inl none ↦ absurd (none-some frame (sym (ap frame_in none) ∙ names))
      | inr rest ↦ elim rest [
        | inl poison ↦ absurd (none-some frame (sym (ap frame_in poison) ∙ names))
        | inr own ↦ from own
      ]
    ]
      where
        from : NamesOwn (words_of layout s.words).frames t.page.0 found → (found ≡ frame.0 + 1) × (frame.0 < layout.frames) × ((w : ℕ) → slice_get (words_of layout s.words).frames frame.0 ≡ Some w → owner_of w ≡ t.page.0 + 1)
        from own = (
          own.named ∙ ap (λ (n : ℕ). n + 1) same,
          subst (λ (n : ℕ). n < layout.frames) same within,
          λ w at. ap owner_of (same_Some w own.owner_word (sym at ∙ ap (slice_get (words_of layout s.words).frames) (sym same) ∙ own.there)) ∙ own.owned,
        )
          where
            within : own.frame < layout.frames
            within = subst (λ (n : ℕ). own.frame < n) (shaped layout s h).frames (slice_get_within (words_of layout s.words).frames own.frame own.owner_word own.there)

            small : own.frame < 2 ^ 16
            small = let few : layout.frames ≤ frame_limit = h.sound.frames in omega (arith, within)

            same : own.frame ≡ frame.0
            same = ap (λ (f : Frame). f.0) (same_Some (record { 0 = own.frame }) frame (sym (frame-named (record { 0 = own.frame }) small) ∙ sym (ap frame_in own.named) ∙ names))

    -- its frame is referenced, and isn't handled
    pub named-referenced : (w : ℕ) → slice_get (words_of layout s.words).frames frame.0 ≡ Some w → (1 ≤ count_of w) × (is_handled w ≡ false)
    named-referenced w at = (count, unhandled)
      where
        count : 1 ≤ count_of w
        count =
            let balance = h.rule.frames.counts.balance frame.0 w at in
            let one : from_bool (found == frame.0 + 1) ≤ named frame.0 (words_of layout s.words).trans = term-le (λ (x : ℕ). from_bool (x == frame.0 + 1)) (words_of layout s.words).trans slot.0 found there in
            let it : from_bool (found == frame.0 + 1) ≡ 1 = ap from_bool (same-number found (frame.0 + 1) names-own.0) in
            omega (arith, balance, one, it)

        unhandled : is_handled w ≡ false
        unhandled = ne_eqb (handled_of w) 1 (λ e. let none : owner_of w ≡ 0 = (h.rule.failures.handled.out frame.0 w at e).unowned in let some : owner_of w ≡ t.page.0 + 1 = names-own.2 w at in omega (arith, none, some))

    module _ (seat : ℕ) (view : View) (me : slice_get s.views seat ≡ Some view) (lock : FrameLock) (locked : slice_get view.locks 0 ≡ Some lock) (of : lock.frame ≡ frame) where
      -- where its lock is held, the lock lists the translation's page as its owner
      pub lock-owner : lock.owner ≡ t.page.0 + 1
      lock-owner = sym known.owner ∙ names-own.2 known.word (ap (λ (f : Frame). slice_get (words_of layout s.words).frames f.0) (sym of) ∙ known.there)
        where
          known : IsLocked (words_of layout s.words).frames view.refs lock
          known = h.rule.frames.frame_locks.known seat (view.refs, view.locks) (at_map (λ (v : View). (v.refs, v.locks)) s.views seat view me) 0 lock locked

      -- and where the body that was in the frame is in hand, and its page isn't locked, the translation is in use there
      pub in-use : (body : InHand) → slice_get view.bodies 0 ≡ Some body → view.pages ≡ [] → body.log.page.0 + 1 ≡ lock.owner → set.contains (state_of layout body.log).maps slot.0 ≡ true
      in-use body in_hand none owner = which (set.contains (state_of layout body.log).maps slot.0) refl
        where
          page-is : t.page ≡ body.log.page
          page-is = same-page t.page body.log.page (omega (arith, owner, lock-owner))

          cache-at : slice_get (words_of layout s.words).caches body.log.page.0 ≡ Some (slice_index (words_of layout s.words).caches body.log.page.0)
          cache-at = slice_get-get_or (words_of layout s.words).caches body.log.page.0 0 (subst (λ (n : ℕ). body.log.page.0 < n) (sym (shaped layout s h).caches) (subst (λ (p : Page). p.0 < length layout.pages) page-is (page-within slot t decl)))

          fits : Fits layout (words_of layout s.words).trans (words_of layout s.words).caches body.log
          fits = h.rule.pages.fits.in_hand seat (view.pages, view.bodies) (at_map (λ (v : View). (v.pages, v.bodies)) s.views seat view me) 0 body in_hand (ap (λ (l : List PageLock). sum_by (λ (x : PageLock). from_bool (x.page.0 == body.log.page.0)) l) none)

          word : found ≡ fitting_word (state_of layout body.log) (slice_index (words_of layout s.words).caches body.log.page.0) slot.0
          word = (fits (slice_index (words_of layout s.words).caches body.log.page.0) cache-at).used slot.0 found t decl page-is there

          which : (b : Bool) → set.contains (state_of layout body.log).maps slot.0 ≡ b → set.contains (state_of layout body.log).maps slot.0 ≡ true
          which true is = is
          which false is = barred (set.contains (state_of layout body.log).bar slot.0) (word ∙ ap (λ (b : Bool). cond b (slice_index (words_of layout s.words).caches body.log.page.0) (cond (set.contains (state_of layout body.log).bar slot.0) (pte_word ptes.Poison) 0)) is)
            where
              barred : (b : Bool) → found ≡ cond b (pte_word ptes.Poison) 0 → set.contains (state_of layout body.log).maps slot.0 ≡ true
              barred true poison = absurd (none-some frame (sym (ap frame_in poison) ∙ names))
              barred false none = absurd (none-some frame (sym (ap frame_in none) ∙ names))

  -- the slot of a frame, when its lock is free, has its owner's body
  pub owner-in-slot : (frame : Frame) (found : ℕ) (content : Option Log) → frame.0 < layout.frames → found ≡ slice_index s.words (index layout (places.Frame frame)) → lock_of found ≡ 0 → IsIn s.homes (frame_slot frame) content → content_name content ≡ owner_of found
  owner-in-slot frame found content inside met free slot = ap content_name (same_Some content home.content (same_Some (Some content) (Some home.content) (sym slot ∙ home.there))) ∙ home.named
    where
      home : IsAtHome s.homes frame.0 (owner_of found)
      home = h.rule.pages.bodies.frame_home frame.0 found (frame-word layout s h frame found inside met) free
