-- What the word of a frame whose lock was free says of the board that it was met on: of the page in the frame, and of the frame's
-- slot.
use Rattle.std.proofs.Common.{◌≡◌, ◌≢◌, ℕ, ◌+◌, ◌-◌, ◌%◌, ◌^◌, ◌<◌, ◌≤◌, ◌==◌, Bool, true, false, not, cond, List, Option, Some, None, map, length, slice_get, slice_index, inl, inr, refl, sym, ap, ◌∙◌, subst, arith}
use Rattle.std.specs.List.{sum_by}
use Rattle.std.proofs.lemmas.Bool.{both_ways, eqb-true, eqb-false, ne_eqb}
use Rattle.std.proofs.lemmas.Option.{none-some, same_Some, slice_get_within}
use Rattle.hwp_core.specs.hwp_geom.declared.Frame.{Frame}
use Rattle.hwp_core.specs.hwp_geom.declared.Layout.{Layout}
use Rattle.hwp_core.specs.hwp_geom.declared.Page.{Page}
use Rattle.hwp_core.specs.hwp_words.Frames.{lock_of, owner_of, handled_of, is_handled}
use Rattle.hwp_core.specs.hwp_words.Names.{page_named}
use Rattle.hwp_core.specs.hwp_core_rule.declared.FrameLock.{FrameLock}
use Rattle.hwp_core.specs.hwp_core_rule.declared.Log.{Log}
use Rattle.hwp_core.specs.hwp_core_rule.declared.SharedWord.TheVariants as places
use Rattle.hwp_core.specs.hwp_core_rule.declared.Ref.{Ref}
use Rattle.hwp_core.specs.hwp_core_rule.declared.State.{State}
use Rattle.hwp_core.specs.hwp_core_rule.declared.View.{View}
use Rattle.hwp_core.specs.hwp_core_rule.Logs.{state_of}
use Rattle.hwp_core.specs.hwp_core_rule.Rule.{Holds}
use Rattle.hwp_core.specs.hwp_core_rule.SlotMoves.{IsIn, frame_slot}
use Rattle.hwp_core.specs.hwp_core_rule.Views.{locks_on}
use Rattle.hwp_core.specs.hwp_core_rule.Words.{words_of, index}
use Rattle.hwp_core.specs.hwp_core_rule.parts.Bodies.{IsAtHome, content_name}
use Rattle.hwp_core.specs.hwp_core_rule.parts.Owners.{HoldsBoth}
use Rattle.hwp_core.specs.hwp_geom.Limits.{page_limit}
use Rattle.hwp_core.proofs.of_hwp_core_rule.PageWords.{same-page}
use Rattle.hwp_core.proofs.of_hwp_core_rule.Lists.{at_map, map-was, term-le, same-number}
use Rattle.hwp_core.proofs.of_hwp_core_rule.MetWords.{frame-word}
use Rattle.hwp_core.proofs.of_hwp_core_rule.MoveKeeps.{shaped}
use Rattle.hwp_claim_frame.specs.Meets.{owner_in, is_page, is_owner}

-- a number above 0 names the page before it
pub page-named : (page : Page) → page.0 < 2 ^ 16 → page_named (page.0 + 1) ≡ Some page
page-named page small = ap (λ (b : Bool). cond b None (Some (record { 0 = (page.0 + 1 - 1) % 2 ^ 16 }))) (ne_eqb (page.0 + 1) 0 (λ e. omega (arith, e))) ∙ ap Some (same-page (record { 0 = (page.0 + 1 - 1) % 2 ^ 16 }) page number)
  where
    number : (page.0 + 1 - 1) % 2 ^ 16 ≡ page.0
    number = omega arith

-- the page that a frame's word names is one of the layout
pub page-within : (layout : Layout) (s : State) → Holds layout s → (frame : Frame) (found : ℕ) → frame.0 < layout.frames → found ≡ slice_index s.words (index layout (places.Frame frame))
    → (page : Page) → owner_in found ≡ Some page → page.0 < length layout.pages
page-within layout s h frame found inside met page names = which (owner_of found == 0) refl
  where
    few : owner_of found ≤ length layout.pages
    few = subst (λ (n : ℕ). owner_of found ≤ n) (shaped layout s h).caches (h.rule.pages.caches.within frame.0 found (frame-word layout s h frame found inside met))

    which : (b : Bool) → (owner_of found == 0) ≡ b → page.0 < length layout.pages
    which true none = absurd (none-some page (sym (ap (λ (c : Bool). cond c None (Some (record { 0 = (owner_of found - 1) % 2 ^ 16 }))) none) ∙ names))
    which false some =
        let number : (owner_of found - 1) % 2 ^ 16 ≡ page.0 = ap (λ (p : Page). p.0) (same_Some (record { 0 = (owner_of found - 1) % 2 ^ 16 }) page (sym (ap (λ (c : Bool). cond c None (Some (record { 0 = (owner_of found - 1) % 2 ^ 16 }))) some) ∙ names)) in
        let other : owner_of found ≢ 0 = eqb-false (owner_of found) 0 some in
        let pages : length layout.pages ≤ page_limit = h.sound.pages in
        omega (arith, few)

module _ (layout : Layout) (s : State) (h : Holds layout s) (frame : Frame) (found : ℕ) (inside : frame.0 < layout.frames) (met : found ≡ slice_index s.words (index layout (places.Frame frame))) (free : lock_of found ≡ 0) where
  there : slice_get (words_of layout s.words).frames frame.0 ≡ Some found
  there = frame-word layout s h frame found inside met

  -- the cache word of the page in it names the frame
  pub owner-caches : (q : ℕ) → owner_of found ≡ q + 1 → slice_get (words_of layout s.words).caches q ≡ Some (frame.0 + 1)
  owner-caches q owner = elim (h.rule.pages.caches.named frame.0 found q there owner) [
    | inl named ↦ named
    | inr both ↦
        let was : (x : View) × (slice_get s.views both.0 ≡ Some x) × ((x.locks, x.pages) ≡ both.1) = map-was (λ (v : View). (v.locks, v.pages)) s.views both.0 both.1 both.2 in
        let holds : HoldsBoth frame.0 q (was.0.locks, was.0.pages) = subst (HoldsBoth frame.0 q) (sym was.2) both.3 in
        let one : sum_by (λ (o : List Ref × List FrameLock). locks_on frame.0 o.1) (map (λ (v : View). (v.refs, v.locks)) s.views) ≡ lock_of found = h.rule.frames.frame_locks.one frame.0 found there in
        let term : locks_on frame.0 was.0.locks ≤ sum_by (λ (o : List Ref × List FrameLock). locks_on frame.0 o.1) (map (λ (v : View). (v.refs, v.locks)) s.views) =
        term-le (λ (o : List Ref × List FrameLock). locks_on frame.0 o.1) (map (λ (v : View). (v.refs, v.locks)) s.views) both.0 (was.0.refs, was.0.locks) (at_map (λ (v : View). (v.refs, v.locks)) s.views both.0 was.0 was.1) in
        absurd (omega (arith, holds.frame, free))
  ]

  -- and the page is one of the layout
  owner-within : (q : ℕ) → owner_of found ≡ q + 1 → q < length layout.pages
  owner-within q owner = subst (λ (n : ℕ). q < n) (shaped layout s h).caches (slice_get_within (words_of layout s.words).caches q (frame.0 + 1) (owner-caches q owner))

  pub owner-is : (page : Page) → is_owner page found ≡ true → owner_of found ≡ page.0 + 1
  owner-is page is = which (owner_of found == 0) refl
    where
      which : (b : Bool) → (owner_of found == 0) ≡ b → owner_of found ≡ page.0 + 1
      which true none = absurd (both_ways (is_owner page found) (ap (λ (c : Bool). is_page page (cond c None (Some (record { 0 = (owner_of found - 1) % 2 ^ 16 })))) none) is)
      which false some =
          let number : (owner_of found - 1) % 2 ^ 16 ≡ page.0 = eqb-true ((owner_of found - 1) % 2 ^ 16) page.0 (sym (ap (λ (c : Bool). is_page page (cond c None (Some (record { 0 = (owner_of found - 1) % 2 ^ 16 })))) some) ∙ is) in
          let other : owner_of found ≢ 0 = eqb-false (owner_of found) 0 some in
          let within : owner_of found - 1 < length layout.pages = owner-within (owner_of found - 1) (omega (arith, other)) in
          let pages : length layout.pages ≤ page_limit = h.sound.pages in
          omega (arith, other)

  pub owner-other : (page : Page) → is_owner page found ≡ false → owner_of found ≡ page.0 + 1 → ⊥
  owner-other page differs owner = both_ways (is_owner page found) differs (ap (λ (n : ℕ). is_page page (page_named n)) owner ∙ ap (is_page page) (page-named page small) ∙ same-number page.0 page.0 refl)
    where
      small : page.0 < 2 ^ 16
      small = let within : page.0 < length layout.pages = owner-within page.0 owner in let pages : length layout.pages ≤ page_limit = h.sound.pages in omega arith

  -- without a page, the word has no owner's number
  pub owner-none : owner_in found ≡ None → owner_of found ≡ 0
  owner-none none = which (owner_of found == 0) refl
    where
      which : (b : Bool) → (owner_of found == 0) ≡ b → owner_of found ≡ 0
      which true is = eqb-true (owner_of found) 0 is
      which false some = absurd (none-some (record { 0 = (owner_of found - 1) % 2 ^ 16 }) (sym none ∙ ap (λ (c : Bool). cond c None (Some (record { 0 = (owner_of found - 1) % 2 ^ 16 }))) some))

  -- a frame with a page isn't handled
  pub owner-unhandled : (page : Page) → owner_of found ≡ page.0 + 1 → is_handled found ≡ false
  owner-unhandled page owner = ne_eqb (handled_of found) 1 (λ e. let none : owner_of found ≡ 0 = (h.rule.failures.handled.out frame.0 found there e).unowned in omega arith)

  module _ (content : Option Log) (slot : IsIn s.homes (frame_slot frame) content) where
    -- its slot has the body of the page in it, or none
    pub slot-named : content_name content ≡ owner_of found
    slot-named = ap content_name (same_Some content home.content (same_Some (Some content) (Some home.content) (sym slot ∙ home.there))) ∙ home.named
      where
        home : IsAtHome s.homes frame.0 (owner_of found)
        home = h.rule.pages.bodies.frame_home frame.0 found there free

    -- and that body is of a page that is in a frame
    pub slot-cached : (log : Log) → content ≡ Some log → true ≡ (state_of layout log).cached
    slot-cached log is =
        let some : not (frame.0 + 1 == 0) ≡ true = ap not (ne_eqb (frame.0 + 1) 0 (λ e. omega (arith, e))) in
        let at_home : slice_get s.homes frame.0 ≡ Some (Some (Some log)) = slot ∙ ap (λ (c : Option Log). Some (Some c)) is in
        sym some ∙ (h.rule.pages.fits.at_home frame.0 log at_home (frame.0 + 1) (owner-caches log.page.0 (sym slot-named ∙ ap content_name is))).cached
