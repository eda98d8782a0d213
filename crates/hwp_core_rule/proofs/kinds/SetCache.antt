-- A cache word that is written keeps the frame rule.
use Rattle.std.proofs.Common.{◌≡◌, ◌⊎◌, ℕ, ◌+◌, ◌^◌, ◌<◌, ◌≤◌, ◌==◌, ne_eqb, Bool, not, List, Option, Some, None, is_some, map, set, length, slice_get, slice_index, inl, inr, refl, sym, ap, ◌∙◌, subst, arith}
use Rattle.std.specs.Int.{from_bool}
use Rattle.std.proofs.lemmas.List.{length-set}
use Rattle.std.proofs.lemmas.Option.{same_Some, slice_get_within}
use Rattle.hwp_page.specs.hwp_geom.declared.Frame.{Frame}
use Rattle.hwp_page.specs.hwp_geom.declared.Page.{Page}
use Rattle.hwp_words.specs.Frames.{lock_of, owner_of}
use Rattle.hwp_words.specs.Names.{frame_name}
use Rattle.hwp_core_rule.specs.declared.view.FrameLock.{FrameLock}
use Rattle.hwp_core_rule.specs.declared.view.PageLock.{PageLock}
use Rattle.hwp_core_rule.specs.declared.view.View.{View}
use Rattle.hwp_core_rule.specs.Asks.{HasPage, CanName, CanChange}
use Rattle.hwp_core_rule.specs.Lists.{SomeMember}
use Rattle.hwp_core_rule.specs.Rule.{FrameRule, holder_of}
use Rattle.hwp_core_rule.specs.Views.{frame_in, page_locks_on, changed, is_page_lock_of}
use Rattle.hwp_core_rule.specs.parts.Bodies.{BodiesAtHome}
use Rattle.hwp_core_rule.specs.parts.Counts.{named}
use Rattle.hwp_core_rule.specs.parts.Fits.{PageFits, KnowsWords}
use Rattle.hwp_core_rule.specs.parts.Owners.{CacheWordsOwned, NamesOwn, HoldsBoth}
use Rattle.hwp_core_rule.proofs.Keeps.{Keeps}
use Rattle.hwp_core_rule.proofs.KnownByLocks.{lock-listed, page-listed}
use Rattle.hwp_core_rule.proofs.Lists.{at_map, at_set, same-or, same-number, set_here, set_else}
use Rattle.hwp_core_rule.proofs.steps.NameSteps.{names-name, names-in, frame_in-name, named-set, page-locked, page-knows, frames-few, names-own, fits-naming, keeps-naming}
use Rattle.hwp_core_rule.proofs.Refs.{hits}
use Rattle.hwp_core_rule.proofs.steps.PageLockLists.{same-locks, caches-listed, bodies-listed}
use Rattle.hwp_core_rule.proofs.WordsByKind.{word-there}
use Rattle.hwp_core_rule.specs.declared.step.Step.TheVariants as steps

resident-name : (name : Option Frame) → not (frame_name name == 0) ≡ is_some name
resident-name None = refl
resident-name (Some frame) = ap not (ne_eqb (frame.0 + 1) 0 (λ e. omega (arith, e)))

pub keeps-set_cache : (page : Page) (frame : Option Frame) → Keeps (steps.SetCache page frame)
keeps-set_cache page frame layout w homes views seat v who content given =
    keeps-naming layout w homes views seat v page has given.sound given.shaped given.place me h test to (λ l. refl) w.trans caches (frame_in found) frame can words h.pages.translations owned at_home fits
  where
    found : ℕ
    found = slice_index w.caches page.0

    caches : List ℕ
    caches = set w.caches page.0 (frame_name frame)

    me : slice_get views seat ≡ Some v
    me = given.me

    h : FrameRule layout w homes views
    h = given.rule

    has : HasPage v page
    has = given.asks.page_held

    there : slice_get w.caches page.0 ≡ Some found
    there = word-there w.caches page.0 (length layout.pages) given.shaped.caches given.place

    here : slice_get caches page.0 ≡ Some (frame_name frame)
    here = set_here w.caches page.0 (frame_name frame) found there

    test : PageLock → Bool
    test l = is_page_lock_of page l

    to : PageLock → PageLock
    to l = record l { resident = is_some frame; cache = Some (frame_name frame) }

    number : has.lock.lock.page.0 ≡ page.0
    number = ap (λ (p : Page). p.0) has.lock.page_is

    knows : KnowsWords layout w.trans w.caches has.lock.lock
    knows = page-knows layout w homes views seat v page has given.sound given.shaped given.place me h

    -- the word is the one that the page's lock lists
    listed : has.cache ≡ found
    listed = same_Some has.cache found (sym (knows.cache has.cache has.cache_is) ∙ ap (slice_get w.caches) number ∙ there)

    can : CanChange layout v page (frame_in found) frame
    can = subst (λ (n : ℕ). CanChange layout v page (frame_in n) frame) listed given.asks.frames

    few-words : length w.frames ≤ 2 ^ 16
    few-words = frames-few layout w homes views seat v page has given.sound given.shaped given.place me h

    words : (f : ℕ) → f < 2 ^ 16 → named f w.trans + named f caches + hits f (frame_in found) ≡ named f w.trans + named f w.caches + hits f frame
    words f less =
        let moved : named f caches + from_bool (found == f + 1) ≡ named f w.caches + from_bool (frame_name frame == f + 1) = named-set f w.caches page.0 found (frame_name frame) there in
        let before : from_bool (found == f + 1) ≡ hits f (frame_in found) = names-in w.frames page.0 found few-words (elim (h.pages.caches.owned page.0 found there) [ inl none ↦ inl none | inr names ↦ inr (inr names) ]) f less in
        let after : from_bool (frame_name frame == f + 1) ≡ hits f frame = names-name frame f less in
        omega arith

    -- the frame that the word names is the page's
    now-owned : (name : Option Frame) → ((f : Frame) → name ≡ Some f → CanName v page f) → (frame_name name ≡ 0) ⊎ NamesOwn w.frames page.0 (frame_name name)
    now-owned None names = inl refl
    now-owned (Some f) names = inr (names-own layout w homes views seat v page has given.sound given.shaped given.place me h f (names f refl))

    both : List (List FrameLock × List PageLock)
    both = map (λ (v : View). (v.locks, v.pages)) views

    pages : List PageLock
    pages = changed test to v.pages

    -- and one that it stops to name is locked, as the page is
    held : (f x q : ℕ) → slice_get w.frames f ≡ Some x → q ≡ page.0 → slice_get w.caches q ≡ Some (f + 1) → SomeMember (HoldsBoth f q) (set both seat (v.locks, pages))
    held f x q at this cached = (
      seat,
      (v.locks, pages),
      set_here both seat (v.locks, pages) (v.locks, v.pages) (at_map (λ (v : View). (v.locks, v.pages)) views seat v me),
      record {
        frame = lock-listed v freed (can.0 freed names).has;
        page = subst (λ (n : ℕ). 0 < page_locks_on n pages) (sym this) (subst (λ (n : ℕ). 0 < n) (sym (same-locks test to (λ l. refl) v.pages page.0)) (page-listed v page has.lock));
      },
    )
      where
        freed : Frame
        freed = record { 0 = f }

        names : frame_in found ≡ Some freed
        names =
            let less : f < length w.frames = slice_get_within w.frames f x at in
            let fits : f < 2 ^ 16 = omega (arith, few-words) in
            ap frame_in (same_Some found (f + 1) (sym there ∙ ap (slice_get w.caches) (sym this) ∙ cached)) ∙ frame_in-name (Some freed) fits

    owned : CacheWordsOwned w.frames caches (set both seat (v.locks, pages))
    owned = record {
      owned = λ q x at. elim (at_set w.caches page.0 q (frame_name frame) x at) [
        | inl t ↦ subst (λ (p : ℕ × ℕ). (p.1 ≡ 0) ⊎ NamesOwn w.frames p.0 p.1) (λ i. (sym t.0 i, t.1 i)) (now-owned frame can.1)
        | inr t ↦ h.pages.caches.owned q x t.1
      ];
      named = λ f x q at owner. elim ((caches-listed layout w homes views seat v me h test to (λ l. refl)).named f x q at owner) [
        | inl cached ↦ elim (same-or q page.0) [
          | inl this ↦ inr (held f x q at this cached)
          | inr differs ↦ inl (set_else w.caches page.0 q (frame_name frame) differs ∙ cached)
        ]
        | inr some ↦ inr some
      ];
      within = λ f x at. subst (λ (n : ℕ). owner_of x ≤ n) (sym (length-set w.caches page.0 (frame_name frame))) (h.pages.caches.within f x at);
    }

    -- the page is locked, so its shelf is out
    at_home : BodiesAtHome layout w.frames caches w.pages homes (set (map holder_of views) seat (holder_of (record v { pages = pages })))
    at_home = record {
      frame_home = still.frame_home;
      frame_out = still.frame_out;
      shelf_home = λ q x c at word free. elim (at_set w.caches page.0 q (frame_name frame) c word) [
        | inl t ↦
            let locked : lock_of x ≡ 1 = page-locked layout w homes views seat v page has given.sound given.shaped given.place me h x (ap (slice_get w.pages) (sym t.0) ∙ at) in
            absurd (omega (arith, free, locked))
        | inr t ↦ still.shelf_home q x c at t.1 free
      ];
      shelf_out = still.shelf_out;
      one = still.one;
      in_hand = still.in_hand;
    }
      where
        still : BodiesAtHome layout w.frames w.caches w.pages homes (set (map holder_of views) seat (holder_of (record v { pages = pages })))
        still = bodies-listed layout w homes views seat v me h test to (λ l. refl)

    knows-now : KnowsWords layout w.trans caches (to has.lock.lock)
    knows-now = record {
      resident = λ c at. ap (λ (n : ℕ). not (n == 0)) (same_Some c (frame_name frame) (sym at ∙ ap (slice_get caches) number ∙ here)) ∙ resident-name frame;
      cache = λ c e. ap (slice_get caches) number ∙ here ∙ e;
      words = knows.words;
    }

    fits : PageFits layout w.trans caches homes (set (map (λ (v : View). (v.pages, v.bodies)) views) seat (pages, v.bodies))
    fits = fits-naming layout w homes views seat v page has given.sound given.shaped given.place me h test to (λ l. refl) w.trans caches (same-number has.lock.lock.page.0 page.0 number)
        (λ q differs. set_else w.caches page.0 q (frame_name frame) differs) (λ s t declared differs. refl) knows-now (frame_name frame) refl has.trans has.trans_is
