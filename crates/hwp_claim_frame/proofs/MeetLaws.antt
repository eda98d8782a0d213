-- The laws of `Meet`.
use Rattle.std.proofs.Common.{◌≡◌, ◌≢◌, ℕ, ◌+◌, ◌<◌, ◌≤◌, ◌==◌, ◌&&◌, ◌||◌, Bool, true, false, not, cond, List, [], ◌∷◌, ◌++◌, Option, Some, None, is_none, is_some, length, slice_get, refl, sym, ap, ◌∙◌, subst, arith}
use Rattle.std.specs.List.{find}
use Rattle.std.proofs.lemmas.Bool.{both_ways, eqb-true, ne_eqb}
use Rattle.std.proofs.lemmas.Option.{none-some, same_Some}
use Rattle.hwp_core.specs.hwp_geom.declared.Frame.{Frame}
use Rattle.hwp_core.specs.hwp_geom.declared.Layout.{Layout}
use Rattle.hwp_core.specs.hwp_geom.declared.Page.{Page}
use Rattle.hwp_core.specs.hwp_geom.declared.Who.{Who}
use Rattle.hwp_core.specs.hwp_page.History.{BodyValue, IsReplay}
use Rattle.hwp_core.specs.hwp_words.Frames.{cycle_of, is_handled, is_poisoned, owner_of}
use Rattle.hwp_core.specs.hwp_core_rule.declared.FrameLock.{FrameLock}
use Rattle.hwp_core.specs.hwp_core_rule.declared.Log.{Log}
use Rattle.hwp_core.specs.hwp_core_rule.declared.PageLock.{PageLock}
use Rattle.hwp_core.specs.hwp_core_rule.declared.Ref.{Ref}
use Rattle.hwp_core.specs.hwp_core_rule.declared.Step.{Step}
use Rattle.hwp_core.specs.hwp_core_rule.declared.Step.TheVariants as steps
use Rattle.hwp_core.specs.hwp_core_rule.declared.View.{View}
use Rattle.hwp_core.specs.hwp_core_rule.Asks.{CanGoHome, CanLockFrame, CanUnlockPage, HasRefRoom}
use Rattle.hwp_core.specs.hwp_core_rule.Lists.{EachMember}
use Rattle.hwp_core.specs.hwp_core_rule.Logs.{log_of, state_of}
use Rattle.hwp_core.specs.hwp_core_rule.SlotMoves.{IsIn, frame_slot, shelf_slot, is_out, moved_out}
use Rattle.hwp_core.specs.hwp_core_rule.Steps.{goes}
use Rattle.hwp_core.specs.hwp_core_rule.Views.{is_body_of, is_lock_of, is_page_lock_of, knowing, lock_found, locks_on, noted, refs_on, taken, without}
use Rattle.hwp_core.specs.hwp_core_rule.parts.Bodies.{content_name}
use Rattle.hwp_core.proofs.of_hwp_core_rule.Lists.{same-number}
use Rattle.hwp_core.proofs.of_hwp_core_rule.MetWords.{free-word, lock-knows, named-body, on-shelf}
use Rattle.hwp_core.specs.hwp_core_rule.declared.Turn.{Turn}
use Rattle.hwp_core.specs.hwp_core_rule.Calls.{CanMake, FitsLayout, IsOnTurn, Steps, logs}
use Rattle.hwp_core.specs.hwp_core_rule.Hands.{Hand, empty, hand_of, putting, taking}
use Rattle.hwp_core.proofs.of_hwp_core_rule.tasks.StepLeaves.{on-turn-after, content_of, brought, was-home, hand-planned, steps-planned, can-make, can-put}
use Rattle.hwp_core.proofs.of_hwp_core_rule.tasks.SightKeeps.{saw-log-frame}
use Rattle.hwp_core.specs.declared.release.Release.{Release}
use Rattle.hwp_core.specs.declared.release.ReleaseAt.{ReleaseAt}
use Rattle.hwp_core.specs.declared.release.ReleaseAt.TheVariants as release_at
use Rattle.hwp_core.specs.declared.unlock.UnlockAt.TheVariants as unlock_at
use Rattle.hwp_core.specs.Holds.{is_free, held, one_ref, page_lock, words_of, HoldsPage, IsBodyOf}
use Rattle.hwp_core.specs.Releases as releases
use Rattle.hwp_core.specs.Unholds as unholds
use Rattle.hwp_core.specs.Unlocks as unlocks
use Rattle.hwp_core.specs.Unlocks.{IsReleasing, empty_frame}
use Rattle.hwp_core.proofs.HoldEnds.{held-ahead, held-unholds}
use Rattle.hwp_core.proofs.TaskTells.{Tells, empty-tells, frame-tells, no-frame, no-page, page-tells, unlock-tells}
use Rattle.hwp_core.proofs.UnholdLaws as unholding
use Rattle.hwp_core.proofs.UnlockLaws as unlocking
use Rattle.hwp_claim_frame.specs.declared.meet.Meet.{Meet}
use Rattle.hwp_claim_frame.specs.declared.meet.MeetAt.{MeetAt}
use Rattle.hwp_claim_frame.specs.declared.meet.MeetAt.TheVariants as at
use Rattle.hwp_claim_frame.specs.declared.meet.MeetAnswer.{MeetAnswer}
use Rattle.hwp_claim_frame.specs.declared.meet.MeetAnswer.TheVariants as answers
use Rattle.hwp_claim_frame.specs.Meets.{AsTaken, is_ended, has_ended, IsFailed, HoldsMet, is_owner, is_taken, owner_in, plan, plan_at, put, put_at, bare, bare_at, referenced, free_at, owned_at, released_at, next, next_at, ShowsAt, Shows, turn, paged, reference, IsPaged, IsLeaving, Fits, FitsAt, Met, MetAt, answer, answer_at, back, is_owned_at, class, class_at, released_answer}
use Rattle.hwp_claim_frame.proofs.FrameSlots
use Rattle.hwp_claim_frame.proofs.FrameUnlocks

-- a choice by a test that is known
went : {A : Type 0} (b c : Bool) (x y : A) → b ≡ c → cond b x y ≡ cond c x y
went b c x y is = ap (λ (d : Bool). cond d x y) is

-- a word that isn't of an ended failure is poisoned
not-ended : (cycle word : ℕ) → is_ended cycle word ≡ false → is_poisoned word ≡ true
not-ended cycle word is = which (is_poisoned word) refl
  where
    which : (b : Bool) → is_poisoned word ≡ b → is_poisoned word ≡ true
    which true e = e
    which false e = absurd (both_ways (is_ended cycle word) is (ap (λ (b : Bool). not (b && (cycle_of word == cycle))) e))

failed-met : (cycle : Option ℕ) (word : ℕ) → has_ended cycle word ≡ false → IsFailed cycle (is_poisoned word)
failed-met None word is = tt
failed-met (Some cycle) word is = not-ended cycle word is

not-handled : (word : ℕ) → is_taken word ≡ false → is_handled word ≡ false
not-handled word is = which (is_handled word) refl
  where
    which : (b : Bool) → is_handled word ≡ b → is_handled word ≡ false
    which false e = e
    which true e = absurd (both_ways (is_taken word) is (ap (λ (b : Bool). b || is_some (owner_in word)) e))

no-owner : (word : ℕ) → is_taken word ≡ false → owner_in word ≡ None
no-owner word is = which (owner_in word) (sym (ap (λ (b : Bool). b || is_some (owner_in word)) (not-handled word is)) ∙ is)
  where
    which : (o : Option Page) → is_some o ≡ false → o ≡ None
    which None e = refl
    which (Some page) e = absurd (both_ways true e refl)

-- a content without a name is none
unnamed : (g : Option BodyValue) → content_name (logs g) ≡ 0 → g ≡ None
unnamed None e = refl
unnamed (Some b) e = absurd (omega (arith, e))

-- what is held with a page's lock
pub paged-locks : (layout : Layout) (page : Page) (frame : Frame) (cache : Option ℕ) (shelf : Option Log) (seen : ℕ) → (paged layout page frame cache shelf seen).locks ≡ []
paged-locks layout page frame cache None seen = refl
paged-locks layout page frame cache (Some log) seen = refl

paged-refs : (layout : Layout) (page : Page) (frame : Frame) (cache : Option ℕ) (shelf : Option Log) (seen : ℕ) → (paged layout page frame cache shelf seen).refs ≡ one_ref frame
paged-refs layout page frame cache None seen = refl
paged-refs layout page frame cache (Some log) seen = refl

shelf-pages : (layout : Layout) (page : Page) (shelf : Option BodyValue) → ((b : BodyValue) → shelf ≡ Some b → IsBodyOf layout page None b) → (s : Log) → logs shelf ≡ Some s → s.page ≡ page
shelf-pages layout page None is s e = absurd (none-some s e)
shelf-pages layout page (Some b) is s e = sym (ap (λ (l : Log). l.page) (same_Some (log_of b) s e)) ∙ (is b refl).page_is

-- a page let go of its frame alone is still locked
own-left : (layout : Layout) (page : Page) (frame : Frame) (log : Log) (seen : ℕ) (handled poisoned : Bool) → log.page ≡ page
    → record (putting (Some log) (held layout page (Some frame) log seen handled poisoned)) { locks = without (is_lock_of frame) (held layout page (Some frame) log seen handled poisoned).locks } ≡ paged layout page frame (Some (frame.0 + 1)) None 0
own-left layout page frame log seen handled poisoned of_log = grind arith

bare-freed : (layout : Layout) (page : Page) (frame : Frame) (cache : Option ℕ) (seen : ℕ) → record (paged layout page frame cache None seen) { pages = without (is_page_lock_of page) (paged layout page frame cache None seen).pages } ≡ reference frame
bare-freed layout page frame cache seen = grind arith

shelf-freed : (layout : Layout) (page : Page) (frame : Frame) (log : Log) (seen : ℕ) → log.page ≡ page
    → record (putting (Some log) (paged layout page frame None (Some log) seen)) { pages = without (is_page_lock_of page) (paged layout page frame None (Some log) seen).pages } ≡ reference frame
shelf-freed layout page frame log seen of_log = grind arith

counted : (frame : Frame) → 1 + locks_on frame.0 [] ≤ refs_on frame.0 (one_ref frame)
counted frame = let same = same-number frame.0 frame.0 refl in grind arith

module _ (layout : Layout) (old new : View) (who : Who) (frame : Frame) (inside : frame.0 < layout.frames) (cycle : Option ℕ) (found : ℕ) (got : Option BodyValue) (on : IsOnTurn new who) where
  -- ---- the reference

  ref-got : (seen : ℕ) → Steps layout who (steps.GetRef frame seen 1) None old new found got → hand_of old ≡ empty → FitsAt layout new who frame cycle (cond (found == seen) (referenced (owner_in seen)) (at.Back false))
  ref-got seen made none = which (found == seen) refl (hand-planned made refl none)
    where
      with-owner : (o : Option Page) → owner_in found ≡ o → hand_of new ≡ reference frame → FitsAt layout new who frame cycle (referenced o)
      with-owner None is hand = hand
      with-owner (Some page) is hand = (hand, FrameSlots.page-within layout made.told.board made.told.rule frame found inside made.told.met page is)

      which : (b : Bool) → (found == seen) ≡ b → hand_of new ≡ cond b (reference frame) empty → FitsAt layout new who frame cycle (cond b (referenced (owner_in seen)) (at.Back false))
      which true same hand = with-owner (owner_in seen) (ap owner_in (eqb-true found seen same)) hand
      which false other hand = hand

  -- ---- the page's lock

  module _ (page : Page) (within : page.0 < length layout.pages) (made : Steps layout who (steps.LockPage page) None old new found got) (has : hand_of old ≡ reference frame) where
    abbrev shelf-content : Option Log
    shelf-content = content_of layout who (steps.LockPage page) None found got

    abbrev page-bare : Option Log → PageLock
    page-bare content = record { page = page; resident = is_none content; cache = None; trans = None }

    after-page : hand_of new ≡ cond (is_free found) (taking layout None shelf-content (length old.sights) (record (reference frame) { pages = page-bare shelf-content ∷ [] })) (reference frame)
    after-page = hand-planned made refl has

    shelf-flow : is_free found ≡ true → shelf-content ≡ logs got
    shelf-flow free = brought layout who (steps.LockPage page) None found got (ap (λ (b : Bool). is_out (moved_out b (shelf_slot layout page))) free)

    shelf-of : is_free found ≡ true → (b : BodyValue) → got ≡ Some b → IsBodyOf layout page None b
    shelf-of free b is = record {
      page_is = fits.0;
      layout_is = made.brings.layout_is b is;
      cached = fits.1;
      replay = subst (λ (q : Page). IsReplay layout q b.log b.state) fits.0 (subst (λ (l : Layout). IsReplay l b.page b.log b.state) (made.brings.layout_is b is) (made.brings.kept b is));
    }
      where
        fits : (b.page ≡ page) × (false ≡ (state_of layout (log_of b)).cached)
        fits = on-shelf layout made.told.board made.told.rule page found (log_of b) within made.told.met (free-word found free)
            (subst (IsIn made.told.board.homes (shelf_slot layout page)) (shelf-flow free ∙ ap logs is) (was-home (is_free found) (shelf_slot layout page) made.told.board.homes shelf-content free made.told.slot))

    shelf-taken : (b : Option BodyValue) (seen : ℕ) → ((x : BodyValue) → b ≡ Some x → x.page ≡ page) → taking layout None (logs b) seen (record (reference frame) { pages = page-bare (logs b) ∷ [] }) ≡ paged layout page frame None (logs b) seen
    shelf-taken None seen is = refl
    shelf-taken (Some b) seen is = let same : page.0 ≡ b.page.0 = sym (ap (λ (p : Page). p.0) (is b refl)) in grind arith

    page-locked : FitsAt layout new who frame cycle (cond (is_free found) (at.LockOwned page got) (at.LockPage page))
    page-locked = which (is_free found) refl
      where
        which : (free : Bool) → is_free found ≡ free → FitsAt layout new who frame cycle (cond free (at.LockOwned page got) (at.LockPage page))
        which false is = (after-page ∙ went (is_free found) false _ _ is, within)
        which true is = record {
          seen = length old.sights;
          cache = None;
          hand_is = after-page ∙ went (is_free found) true _ _ is ∙ ap (λ (c : Option Log). taking layout None c (length old.sights) (record (reference frame) { pages = page-bare c ∷ [] })) (shelf-flow is)
              ∙ shelf-taken got (length old.sights) (λ x e. (shelf-of is x e).page_is);
          body_is = λ b e. shelf-of is b e;
          inside = within;
        }

  -- ---- the frame's lock

  module _ (made : Steps layout who (steps.LockFrame frame) None old new found got) where
    abbrev slot-content : Option Log
    slot-content = content_of layout who (steps.LockFrame frame) None found got

    module _ (is : is_free found ≡ true) where
      slot-flow : slot-content ≡ logs got
      slot-flow = brought layout who (steps.LockFrame frame) None found got (ap (λ (b : Bool). is_out (moved_out b (frame_slot frame))) is)

      slot : IsIn made.told.board.homes (frame_slot frame) (logs got)
      slot = subst (IsIn made.told.board.homes (frame_slot frame)) slot-flow (was-home (is_free found) (frame_slot frame) made.told.board.homes slot-content is made.told.slot)

      named : content_name (logs got) ≡ owner_of found
      named = FrameSlots.slot-named layout made.told.board made.told.rule frame found inside made.told.met (free-word found is) (logs got) slot

    -- where no page was in the frame
    module _ (has : hand_of old ≡ reference frame) where
      after-free : hand_of new ≡ cond (is_free found) (taking layout (Some frame) slot-content (length old.sights) (record (reference frame) { locks = lock_found frame found ∷ [] })) (reference frame)
      after-free = hand-planned made refl has

      module _ (is : is_free found ≡ true) where
        hand-free : hand_of new ≡ taking layout (Some frame) (logs got) (length old.sights) (record (reference frame) { locks = lock_found frame found ∷ [] })
        hand-free = after-free ∙ went (is_free found) true _ _ is ∙ ap (λ (c : Option Log). taking layout (Some frame) c (length old.sights) (record (reference frame) { locks = lock_found frame found ∷ [] })) (slot-flow is)

        let-go : unlocks.FitsFrame layout new who frame got
        let-go = FrameUnlocks.frame-held layout who new frame found (length old.sights) got hand-free (named is) made.brings.layout_is inside

        goes-as-taken : AsTaken new got
        goes-as-taken = FrameUnlocks.alone-taken layout who new frame found (length old.sights) got hand-free

        bare-lock : is_taken found ≡ false → hand_of new ≡ empty_frame frame false (is_poisoned found)
        bare-lock unused = hand-free ∙ ap (λ (c : Option Log). taking layout (Some frame) c (length old.sights) (record (reference frame) { locks = lock_found frame found ∷ [] })) (ap logs (unnamed got (named is ∙ zero)))
            ∙ ap (λ (o : ℕ). record (reference frame) { locks = record { frame = frame; owner = o; handled = is_handled found; poisoned = is_poisoned found } ∷ [] }) zero
            ∙ ap (λ (b : Bool). empty_frame frame b (is_poisoned found)) (not-handled found unused)
          where
            zero : owner_of found ≡ 0
            zero = FrameSlots.owner-none layout made.told.board made.told.rule frame found inside made.told.met (free-word found is) (no-owner found unused)

      free-locked : FitsAt layout new who frame cycle (cond (is_free found) (free_at got (has_ended cycle found) (is_taken found)) at.LockFree)
      free-locked = which (is_free found) refl
        where
          choose : (e t : Bool) → is_free found ≡ true → has_ended cycle found ≡ e → is_taken found ≡ t → FitsAt layout new who frame cycle (free_at got e t)
          choose true t is ended taken = (let-go is, goes-as-taken is)
          choose false true is ended taken = (let-go is, goes-as-taken is)
          choose false false is ended taken = record { poisoned = is_poisoned found; hand_is = bare-lock is taken; failed = failed-met cycle found ended }

          which : (free : Bool) → is_free found ≡ free → FitsAt layout new who frame cycle (cond free (free_at got (has_ended cycle found) (is_taken found)) at.LockFree)
          which false is = after-free ∙ went (is_free found) false _ _ is
          which true is = choose (has_ended cycle found) (is_taken found) is refl refl

    -- where the page is locked
    module _ (page : Page) (shelf : Option BodyValue) (has : IsPaged layout old page frame shelf) where
      after-paged : hand_of new ≡ cond (is_free found) (taking layout (Some frame) slot-content (length old.sights) (record (paged layout page frame has.cache (logs shelf) has.seen) { locks = lock_found frame found ∷ [] })) (paged layout page frame has.cache (logs shelf) has.seen)
      after-paged = hand-planned made refl has.hand_is
          ∙ ap (λ (l : _). cond (is_free found) (taking layout (Some frame) slot-content (length old.sights) (record (paged layout page frame has.cache (logs shelf) has.seen) { locks = l ++ lock_found frame found ∷ [] })) (paged layout page frame has.cache (logs shelf) has.seen)) (paged-locks layout page frame has.cache (logs shelf) has.seen)

      module _ (is : is_free found ≡ true) where
        hand-both : hand_of new ≡ taking layout (Some frame) (logs got) (length old.sights) (record (paged layout page frame has.cache (logs shelf) has.seen) { locks = lock_found frame found ∷ [] })
        hand-both = after-paged ∙ went (is_free found) true _ _ is ∙ ap (λ (c : Option Log). taking layout (Some frame) c (length old.sights) (record (paged layout page frame has.cache (logs shelf) has.seen) { locks = lock_found frame found ∷ [] })) (slot-flow is)

        -- the page isn't in the frame
        leaves : is_owner page found ≡ false → IsLeaving layout who new page frame shelf got
        leaves differs = record {
          seen = has.seen;
          cache = has.cache;
          can = FrameUnlocks.can-leave layout who new frame found (length old.sights) page has.cache has.seen on inside shelf got hand-both of (named is) made.brings.layout_is elsewhere;
          left = FrameUnlocks.left layout who new frame found (length old.sights) page has.cache has.seen on inside shelf got hand-both of (named is) made.brings.layout_is elsewhere;
          as_taken = FrameUnlocks.both-taken layout who new frame found (length old.sights) page has.cache has.seen on inside shelf got hand-both of (named is) made.brings.layout_is elsewhere;
          body_is = has.body_is;
          inside = has.inside;
        }
          where
            of : (s : Log) → logs shelf ≡ Some s → s.page ≡ page
            of = shelf-pages layout page shelf has.body_is

            elsewhere : owner_of found ≡ page.0 + 1 → ⊥
            elsewhere = FrameSlots.owner-other layout made.told.board made.told.rule frame found inside made.told.met (free-word found is) page differs

        -- the page is in the frame: its body was in the frame's slot, and not on the shelf
        module _ (own : is_owner page found ≡ true) where
          owner : owner_of found ≡ page.0 + 1
          owner = FrameSlots.owner-is layout made.told.board made.told.rule frame found inside made.told.met (free-word found is) page own

          no-shelf : shelf ≡ None
          no-shelf = which shelf has.hand_is
            where
              which : (x : Option BodyValue) → hand_of old ≡ paged layout page frame has.cache (logs x) has.seen → x ≡ None
              which None hand = refl
              which (Some s) hand = absurd (both_ways (not (frame.0 + 1 == 0))
                  ((lock-knows layout made.told.board made.told.rule made.told.seat old made.told.me (page_lock page None (words_of layout None (log_of s))) (ap (λ (h : Hand). slice_get h.pages 0) hand)).resident (frame.0 + 1)
                  (FrameSlots.owner-caches layout made.told.board made.told.rule frame found inside made.told.met (free-word found is) page.0 owner))
                  (ap not (ne_eqb (frame.0 + 1) 0 (λ e. omega (arith, e)))))

          there-is : (b : BodyValue) × (got ≡ Some b) × (b.page ≡ page)
          there-is = which got (named-body (logs got) page (named is ∙ owner))
            where
              which : (g : Option BodyValue) → (log : Log) × (logs g ≡ Some log) × (log.page ≡ page) → (b : BodyValue) × (g ≡ Some b) × (b.page ≡ page)
              which None there = absurd (none-some there.0 there.1)
              which (Some b) there = (b, refl, ap (λ (l : Log). l.page) (same_Some (log_of b) there.0 there.1) ∙ there.2)

          abbrev bare-lock-of : PageLock
          bare-lock-of = record { page = page; resident = true; cache = has.cache; trans = None }

          module _ (b : BodyValue) (brought-is : got ≡ Some b) (page-is : b.page ≡ page) where
            abbrev full : ℕ → Hand
            full o = record (held layout page (Some frame) (log_of b) (length old.sights) (is_handled found) (is_poisoned found)) { locks = record { frame = frame; owner = o; handled = is_handled found; poisoned = is_poisoned found } ∷ [] }

            hand-full : hand_of new ≡ held layout page (Some frame) (log_of b) (length old.sights) (is_handled found) (is_poisoned found)
            hand-full = hand-both
                ∙ ap (λ (g : Option BodyValue). taking layout (Some frame) (logs g) (length old.sights) (record (paged layout page frame has.cache (logs shelf) has.seen) { locks = lock_found frame found ∷ [] })) brought-is
                ∙ ap (λ (x : Option BodyValue). taking layout (Some frame) (Some (log_of b)) (length old.sights) (record (paged layout page frame has.cache (logs x) has.seen) { locks = lock_found frame found ∷ [] })) no-shelf
                ∙ ap (λ (c : Bool). record (full (owner_of found)) { pages = cond c (knowing layout (log_of b) (Some frame) bare-lock-of) bare-lock-of ∷ [] }) (same-number page.0 b.page.0 (sym (ap (λ (p : Page). p.0) page-is)))
                ∙ ap full owner

            holds : HoldsPage layout new page (Some frame) b
            holds = record {
              seen = length old.sights;
              handled = is_handled found;
              poisoned = is_poisoned found;
              hand_is = hand-full;
              within = λ f e. subst (λ (g : Frame). g.0 < layout.frames) (same_Some frame f e) inside;
              body_is = record {
                page_is = page-is;
                layout_is = made.brings.layout_is b brought-is;
                cached = ap not (ne_eqb (frame.0 + 1) 0 (λ e. omega (arith, e))) ∙ FrameSlots.slot-cached layout made.told.board made.told.rule frame found inside made.told.met (free-word found is) (logs got) (slot is) (log_of b) (ap logs brought-is);
                replay = subst (λ (q : Page). IsReplay layout q b.log b.state) page-is (subst (λ (l : Layout). IsReplay l b.page b.log b.state) (made.brings.layout_is b brought-is) (made.brings.kept b brought-is));
              };
            }

            own-leaves : IsLeaving layout who new page frame shelf (Some b)
            own-leaves = record {
              seen = 0;
              cache = Some (frame.0 + 1);
              can = unholding.can layout new (unholds.begin who page (Some frame) 1 b) (steps.UnlockFrame frame) (held-unholds layout new who page (Some frame) b on has.inside holds) refl;
              left = ap (λ (h : Hand). record (putting (Some (log_of b)) h) { locks = without (is_lock_of frame) h.locks }) hand-full
                  ∙ own-left layout page frame (log_of b) (length old.sights) (is_handled found) (is_poisoned found) page-is
                  ∙ ap (λ (x : Option BodyValue). paged layout page frame (Some (frame.0 + 1)) (logs x) 0) (sym no-shelf);
              as_taken = FrameUnlocks.one-taken layout who new (Some frame) b (length old.sights) (ap (λ (h : Hand). h.bodies) hand-full);
              body_is = has.body_is;
              inside = has.inside;
            }

            -- nothing was seen meanwhile
            same-sights : new.sights ≡ old.sights
            same-sights = ap (λ (v : View). v.sights) made.told.next ∙ by (goes (steps.LockFrame frame) found) slot-content
              where
                by : (c : Bool) (content : Option Log) → (cond c (taken layout who (Some frame) content (record (noted who old) { locks = old.locks ++ lock_found frame found ∷ [] })) (noted who old)).sights ≡ old.sights
                by true None = refl
                by true (Some log) = refl
                by false content = refl

            held-met : has_ended cycle found ≡ false → HoldsMet layout new who page frame cycle b
            unfolding holds
            held-met lasts = record {
              holds = holds;
              unhandled = FrameSlots.owner-unhandled layout made.told.board made.told.rule frame found inside made.told.met (free-word found is) page owner;
              failed = failed-met cycle found lasts;
              few = let same : length new.sights ≡ length old.sights = ap (λ (l : List _). length l) same-sights in omega (arith, same);
              saw = saw-log-frame (subst (λ (g : Option BodyValue). Steps layout who (steps.LockFrame frame) None old new found g) brought-is made) is bare-lock-of
                  (ap (λ (h : Hand). slice_get h.pages 0) (has.hand_is ∙ ap (λ (x : Option BodyValue). paged layout page frame has.cache (logs x) has.seen) no-shelf)) (sym page-is);
              inside = has.inside;
            }

          own-fits : (e : Bool) → has_ended cycle found ≡ e → FitsAt layout new who frame cycle (owned_at page shelf got e true)
          own-fits true ended = subst (λ (g : Option BodyValue). FitsAt layout new who frame cycle (owned_at page shelf g true true)) (sym there-is.1) (own-leaves there-is.0 there-is.1 there-is.2)
          own-fits false lasts = subst (λ (g : Option BodyValue). FitsAt layout new who frame cycle (owned_at page shelf g false true)) (sym there-is.1) (held-met there-is.0 there-is.1 there-is.2 lasts)

      owned-locked : ShowsAt cycle (at.LockOwned page shelf) found got × FitsAt layout new who frame cycle (cond (is_free found) (owned_at page shelf got (has_ended cycle found) (is_owner page found)) (at.LockOwned page shelf))
      owned-locked = ((λ free lasts own. ap (λ (g : Option BodyValue). is_some g) (there-is free own).1), which (is_free found) refl)
        where
          choose : (e o : Bool) → is_free found ≡ true → has_ended cycle found ≡ e → is_owner page found ≡ o → FitsAt layout new who frame cycle (owned_at page shelf got e o)
          choose e true is ended own = own-fits is own e ended
          choose true false is ended differs = leaves is differs
          choose false false is ended differs = leaves is differs

          which : (free : Bool) → is_free found ≡ free → FitsAt layout new who frame cycle (cond free (owned_at page shelf got (has_ended cycle found) (is_owner page found)) (at.LockOwned page shelf))
          which false is = record { seen = has.seen; cache = has.cache; hand_is = after-paged ∙ went (is_free found) false _ _ is; body_is = has.body_is; inside = has.inside }
          which true is = choose (has_ended cycle found) (is_owner page found) is refl refl

  -- ---- what is let go

  -- one reference to the frame is left
  reference-left : hand_of new ≡ reference frame → IsReleasing layout new who (releases.begin who frame 1)
  reference-left hand = record {
    hand_is = hand;
    release = record { on_turn = on; frame = inside; at = (omega arith, subst (λ (h : Hand). 1 + locks_on frame.0 h.locks ≤ refs_on frame.0 h.refs) (sym hand) (counted frame), subst (λ (h : Hand). length h.locks < 2) (sym hand) (omega arith)) };
    own = refl;
    count = refl;
    under_way = refl;
  }

  page-let-go : (page : Page) (shelf : Option BodyValue) → IsPaged layout old page frame shelf → Steps layout who (steps.UnlockPage page) (logs shelf) old new found got → hand_of new ≡ reference frame
  page-let-go page None has made = hand-planned made refl has.hand_is ∙ bare-freed layout page frame has.cache has.seen
  page-let-go page (Some b) has made = hand-planned made refl has.hand_is ∙ shelf-freed layout page frame (log_of b) has.seen (has.body_is b refl).page_is

  frame-let-go : (page : Page) (shelf body : Option BodyValue) → IsLeaving layout who old page frame shelf body → Steps layout who (steps.UnlockFrame frame) (logs body) old new found got → IsPaged layout new page frame shelf
  frame-let-go page shelf body has made = record { seen = has.seen; cache = has.cache; hand_is = hand-planned made refl refl ∙ has.left; body_is = has.body_is; inside = has.inside }

  release-goes : (r : Release) (x : ReleaseAt) (ended : Bool) → unlocks.FitsAt layout new who (unlocks.after_release_at (record r { at = x }) x) → FitsAt layout new who frame cycle (released_at (record r { at = x }) ended x)
  release-goes r release_at.Put ended has = has
  release-goes r (release_at.Give word) ended has = has
  release-goes r (release_at.Unreserve word) ended has = has
  release-goes r (release_at.Adopt word) ended has = has
  release-goes r (release_at.Retire word) ended has = has
  release-goes r (release_at.Back word) ended has = has

-- a step shows what is needed, and what follows fits again
pub both : (layout : Layout) (old new : View) (m : Meet) (step : Step) (found : ℕ) (got : Option BodyValue) → Fits layout old m → plan m ≡ Some step → Steps layout m.who step (logs (put m)) old new found got
    → Shows (bare m) found got × Fits layout new (next (bare m) found got)
both layout old new m step found got fits is made = let all = which m.at is fits.at made in (all.0, record { on_turn = on; frame = fits.frame; at = all.1 })
  where
    on : IsOnTurn new m.who
    on = on-turn-after fits.on_turn made

    which : (x : MeetAt) → plan_at m.frame x ≡ Some step → FitsAt layout old m.who m.frame m.cycle x → Steps layout m.who step (logs (put_at x)) old new found got
        → ShowsAt m.cycle (bare_at x) found got × FitsAt layout new m.who m.frame m.cycle (next_at m.who m.frame m.cycle (bare_at x) found got)
    which (at.GetRef seen) e has made = (tt, ref-got layout old new m.who m.frame fits.frame m.cycle found got on seen (steps-planned e made) has.0)
    which at.LockFree e has made = (tt, free-locked layout old new m.who m.frame fits.frame m.cycle found got on (steps-planned e made) has)
    which (at.LockPage page) e has made = (tt, page-locked layout old new m.who m.frame fits.frame m.cycle found got on page has.1 (steps-planned e made) has.0)
    which (at.LockOwned page shelf) e has made = owned-locked layout old new m.who m.frame fits.frame m.cycle found got on (steps-planned e made) page shelf has
    which (at.Unlock body ended) e has made = (tt, (unlocking.moved layout old new (record { who = m.who; at = unlock_at.UnlockFrame m.frame body }) step found got (record { on_turn = fits.on_turn; at = has.0 }) e made).at)
    which (at.UnlockFrame page shelf body ended) e has made = (tt, frame-let-go layout old new m.who m.frame fits.frame m.cycle found got on page shelf body has (steps-planned e made))
    which (at.UnlockPage page shelf ended) e has made =
        (tt, reference-left layout old new m.who m.frame fits.frame m.cycle found got on (page-let-go layout old new m.who m.frame fits.frame m.cycle found got on page shelf has (steps-planned e made)))
    which (at.Release r ended) e has made =
        (tt, release-goes layout old new m.who m.frame fits.frame m.cycle found got on r (releases.next r found).at ended (unlocking.moved layout old new (record { who = m.who; at = unlock_at.Release r }) step found got (record { on_turn = fits.on_turn; at = has }) e made).at)
    which (at.Back ended) e has made = absurd (none-some step e)
    which at.Free e has made = absurd (none-some step e)
    which (at.Owned page body) e has made = absurd (none-some step e)

pub stays : (layout : Layout) (old new : View) (m : Meet) (step : Step) (found : ℕ) (got : Option BodyValue) → Fits layout old m → plan m ≡ Some step → Steps layout m.who step (logs (put m)) old new found got
    → Shows (bare m) found got × ((after : Meet) (result : Turn) → (after ≡ next (bare m) found got) × (result ≡ turn (bare m) found) → Fits layout new after × (after.who.cpu ≡ m.who.cpu))
stays layout old new m step found got fits is made = let all = both layout old new m step found got fits is made in
    (all.0, λ after result follows. (subst (Fits layout new) (sym follows.0) all.1, ap (λ (x : Meet). x.who.cpu) follows.0))

-- ---- the steps can be made

module _ (layout : Layout) (view : View) (who : Who) (frame : Frame) where
  room : hand_of view ≡ empty → HasRefRoom layout view frame 1
  room hand = record {
    shares = subst (λ (h : Hand). refs_on frame.0 h.refs + 1 ≤ length layout.trans + 2) (sym hand) (omega arith);
    first = λ none. subst (λ (h : Hand). h.reserved + length h.hands + length h.refs + 1 ≤ 2) (sym hand) (omega arith);
  }

  can-lock : view.refs ≡ one_ref frame → view.locks ≡ [] → CanLockFrame view frame
  can-lock refs locks = record {
    referenced = subst (λ (l : List Ref). 0 < refs_on frame.0 l) (sym refs) (omega (arith, counted frame));
    unlisted = ap (locks_on frame.0) locks;
    second = subst (λ (l : List FrameLock). length l < 2) (sym locks) (omega arith);
  }

  module _ (page : Page) where
    can-free-page : (shelf : Option BodyValue) → IsPaged layout view page frame shelf → CanUnlockPage layout who view page (logs shelf)
    can-free-page None has = record {
      has = record { lock = record { page = page; resident = true; cache = has.cache; trans = None }; listed = ap (λ (h : Hand). slice_get h.pages 0) has.hand_is; page_is = refl };
      named = refl;
      put_away = λ none. ap (λ (h : Hand). find (is_body_of page) h.bodies) has.hand_is;
      no_frame = subst (λ (h : Hand). EachMember (λ (l : FrameLock). l.owner ≢ page.0 + 1) h.locks) (sym has.hand_is) (λ i x e. absurd (none-some x e));
      put = tt;
    }
    can-free-page (Some b) has = record {
      has = record { lock = page_lock page None (words_of layout None (log_of b)); listed = ap (λ (h : Hand). slice_get h.pages 0) has.hand_is; page_is = refl };
      named = ap (λ (p : Page). p.0 + 1) (has.body_is b refl).page_is;
      put_away = λ none. absurd (none-some (log_of b) (sym none));
      no_frame = subst (λ (h : Hand). EachMember (λ (l : FrameLock). l.owner ≢ page.0 + 1) h.locks) (sym has.hand_is) (λ i x e. absurd (none-some x e));
      put = home;
    }
      where
        -- as if there were no reference
        ahead : unholds.HoldsAhead layout who (record view { refs = [] }) page None 1 (Some b)
        ahead = held-ahead layout (record view { refs = [] }) who page None b (record {
          seen = has.seen;
          handled = false;
          poisoned = false;
          hand_is = ap (λ (h : Hand). record h { refs = [] }) has.hand_is;
          within = λ f e. absurd (none-some f e);
          body_is = has.body_is b refl;
        })

        there : CanGoHome layout who (record view { refs = [] }) (log_of b)
        there = subst (λ (x : BodyValue). CanGoHome layout who (record view { refs = [] }) (log_of x)) (sym (same_Some b ahead.body ahead.given_is)) ahead.home

        home : CanGoHome layout who view (log_of b)
        home = record { body = there.body; body_is = there.body_is; extends = there.extends; fits = record { unlocked = there.fits.unlocked; locked = there.fits.locked }; killed = there.killed }

    shelf-layout : (shelf : Option BodyValue) → IsPaged layout view page frame shelf → FitsLayout layout shelf
    shelf-layout shelf has b is = (has.body_is b is).layout_is

pub can : (layout : Layout) (view : View) (m : Meet) (step : Step) → Fits layout view m → plan m ≡ Some step → CanMake layout m.who step (put m) view
can layout view m step fits is = which m.at fits.at is
  where
    which : (x : MeetAt) → FitsAt layout view m.who m.frame m.cycle x → plan_at m.frame x ≡ Some step → CanMake layout m.who step (put_at x) view
    which (at.GetRef seen) has e = can-make fits.on_turn e fits.frame (has.1.counted, omega arith, room layout view m.who m.frame has.0)
    which at.LockFree has e = can-make fits.on_turn e fits.frame (can-lock layout view m.who m.frame (ap (λ (h : Hand). h.refs) has) (ap (λ (h : Hand). h.locks) has))
    which (at.LockPage page) has e = can-make fits.on_turn e has.1 (ap (λ (h : Hand). length h.pages) has.0)
    which (at.LockOwned page shelf) has e = can-make fits.on_turn e fits.frame (can-lock layout view m.who m.frame
        (ap (λ (h : Hand). h.refs) has.hand_is ∙ paged-refs layout page m.frame has.cache (logs shelf) has.seen)
        (ap (λ (h : Hand). h.locks) has.hand_is ∙ paged-locks layout page m.frame has.cache (logs shelf) has.seen))
    which (at.Unlock body ended) has e = unlocking.can layout view (record { who = m.who; at = unlock_at.UnlockFrame m.frame body }) step (record { on_turn = fits.on_turn; at = has.0 }) e
    which (at.UnlockFrame page shelf body ended) has e = subst (λ (s : Step). CanMake layout m.who s body view) (same_Some (steps.UnlockFrame m.frame) step e) has.can
    which (at.UnlockPage page shelf ended) has e = can-put fits.on_turn e has.inside (can-free-page layout view m.who m.frame page shelf has) (shelf-layout layout view m.who m.frame page shelf has) tt
    which (at.Release r ended) has e = unlocking.can layout view (record { who = m.who; at = unlock_at.Release r }) step (record { on_turn = fits.on_turn; at = has }) e
    which (at.Back ended) has e = absurd (none-some step e)
    which at.Free has e = absurd (none-some step e)
    which (at.Owned page body) has e = absurd (none-some step e)

-- ---- what the parent gets

-- what the task came to is held, or nothing is
pub is-met : (layout : Layout) (view : View) (m : Meet) (x : MeetAnswer) → Fits layout view m → answer m ≡ Some x → Met layout view m x
is-met layout view m x fits answered = which m.at fits.at answered
  where
    which : (y : MeetAt) → FitsAt layout view m.who m.frame m.cycle y → answer_at y ≡ Some x → MetAt layout view m.who m.frame m.cycle y x
    which (at.GetRef seen) has is = absurd (none-some x is)
    which at.LockFree has is = absurd (none-some x is)
    which (at.LockPage page) has is = absurd (none-some x is)
    which (at.LockOwned page shelf) has is = absurd (none-some x is)
    which (at.Unlock body ended) has is = absurd (none-some x is)
    which (at.UnlockFrame page shelf body ended) has is = absurd (none-some x is)
    which (at.UnlockPage page shelf ended) has is = absurd (none-some x is)
    which (at.Release r ended) has is = by r.at has.under_way is
      where
        by : (y : ReleaseAt) → is_none (releases.plan_at r.frame r.count y) ≡ false → released_answer ended y ≡ Some x → MetAt layout view m.who m.frame m.cycle (at.Release r ended) x
        by release_at.Put on is = absurd (none-some x is)
        by (release_at.Give word) on is = absurd (none-some x is)
        by (release_at.Unreserve word) on is = absurd (none-some x is)
        by (release_at.Adopt word) on is = absurd (none-some x is)
        by (release_at.Retire word) on is = absurd (none-some x is)
        by (release_at.Back word) on is = absurd (both_ways true on refl)
    which (at.Back ended) has is = subst (MetAt layout view m.who m.frame m.cycle (at.Back ended)) (same_Some (back ended) x is) (by ended)
      where
        by : (e : Bool) → MetAt layout view m.who m.frame m.cycle (at.Back ended) (back e)
        by true = has
        by false = has
    which at.Free has is = subst (MetAt layout view m.who m.frame m.cycle at.Free) (same_Some answers.Free x is) has
    which (at.Owned page body) has is = subst (MetAt layout view m.who m.frame m.cycle (at.Owned page body)) (same_Some (answers.Owned page) x is) (refl, λ b own. subst (HoldsMet layout view m.who page m.frame m.cycle) (sym own) has)

-- the page that was met is held with a body
pub owned-state : (x : MeetAt) → is_owned_at x ≡ true → (page : Page) × (body : BodyValue) × (x ≡ at.Owned page body)
owned-state (at.Owned page body) is = (page, body, refl)
owned-state (at.GetRef seen) is = absurd (both_ways true (sym is) refl)
owned-state at.LockFree is = absurd (both_ways true (sym is) refl)
owned-state (at.LockPage page) is = absurd (both_ways true (sym is) refl)
owned-state (at.LockOwned page shelf) is = absurd (both_ways true (sym is) refl)
owned-state (at.Unlock body ended) is = absurd (both_ways true (sym is) refl)
owned-state (at.UnlockFrame page shelf body ended) is = absurd (both_ways true (sym is) refl)
owned-state (at.UnlockPage page shelf ended) is = absurd (both_ways true (sym is) refl)
owned-state (at.Release r ended) is = absurd (both_ways true (sym is) refl)
owned-state (at.Back ended) is = absurd (both_ways true (sym is) refl)
owned-state at.Free is = absurd (both_ways true (sym is) refl)

-- a task that has come to nothing yet isn't over
pub goes-on : (layout : Layout) (view : View) (m : Meet) → Fits layout view m → answer m ≡ None → is_none (plan m) ≡ false
goes-on layout view m fits none = which m.at fits.at none
  where
    which : (x : MeetAt) → FitsAt layout view m.who m.frame m.cycle x → answer_at x ≡ None → is_none (plan_at m.frame x) ≡ false
    which (at.GetRef seen) has none = refl
    which at.LockFree has none = refl
    which (at.LockPage page) has none = refl
    which (at.LockOwned page shelf) has none = refl
    which (at.Unlock body ended) has none = refl
    which (at.UnlockFrame page shelf body ended) has none = refl
    which (at.UnlockPage page shelf ended) has none = refl
    which (at.Release r ended) has none = has.under_way
    which (at.Back ended) has none = absurd (none-some _ (sym none))
    which at.Free has none = absurd (none-some _ (sym none))
    which (at.Owned page body) has none = absurd (none-some _ (sym none))

-- its class tells what is held
pub meet-tells : (layout : Layout) (view : View) (m : Meet) → Fits layout view m → Tells view (class m)
meet-tells layout view m fits = which m.at fits.at
  where
    alone : (page : Page) (cache : Option ℕ) (shelf : Option Log) (seen : ℕ) → hand_of view ≡ paged layout page m.frame cache shelf seen → Tells view 2
    alone page cache None seen is = page-tells view is 2 refl refl refl (omega arith)
    alone page cache (Some log) seen is = page-tells view is 2 refl refl refl (omega arith)

    counting : hand_of view ≡ reference m.frame → Tells view 4
    counting is = ((λ some. absurd (no-frame view is refl refl refl some)), (λ some. absurd (no-page view is refl some)))

    which : (x : MeetAt) → FitsAt layout view m.who m.frame m.cycle x → Tells view (class_at x)
    which (at.GetRef seen) has = empty-tells view 4 has.0
    which at.LockFree has = counting has
    which (at.LockPage page) has = counting has.0
    which (at.LockOwned page shelf) has = alone page has.cache (logs shelf) has.seen has.hand_is
    which (at.Unlock body ended) has = frame-tells view
    which (at.UnlockFrame page shelf body ended) has = frame-tells view
    which (at.UnlockPage page shelf ended) has = alone page has.cache (logs shelf) has.seen has.hand_is
    which (at.Release r ended) has = unlock-tells layout view (record { who = m.who; at = unlock_at.Release r }) (record { on_turn = fits.on_turn; at = has }) has.under_way
    which (at.Back ended) has = empty-tells view 4 has
    which at.Free has = frame-tells view
    which (at.Owned page body) has = frame-tells view

-- the bodies that it puts home have the entries that they were taken with
pub puts-as-taken : (layout : Layout) (view : View) (m : Meet) → Fits layout view m → AsTaken view (put m)
puts-as-taken layout view m fits = which m.at fits.at
  where
    shelved : (page : Page) (shelf : Option BodyValue) → IsPaged layout view page m.frame shelf → AsTaken view shelf
    shelved page None has = λ b is. absurd (none-some b is)
    shelved page (Some b) has = FrameUnlocks.one-taken layout m.who view None b has.seen (ap (λ (h : Hand). h.bodies) has.hand_is)

    which : (x : MeetAt) → FitsAt layout view m.who m.frame m.cycle x → AsTaken view (put_at x)
    which (at.GetRef seen) has = λ b is. absurd (none-some b is)
    which at.LockFree has = λ b is. absurd (none-some b is)
    which (at.LockPage page) has = λ b is. absurd (none-some b is)
    which (at.LockOwned page shelf) has = λ b is. absurd (none-some b is)
    which (at.Unlock body ended) has = has.1
    which (at.UnlockFrame page shelf body ended) has = has.as_taken
    which (at.UnlockPage page shelf ended) has = shelved page shelf has
    which (at.Release r ended) has = λ b is. absurd (none-some b is)
    which (at.Back ended) has = λ b is. absurd (none-some b is)
    which at.Free has = λ b is. absurd (none-some b is)
    which (at.Owned page body) has = λ b is. absurd (none-some b is)
