-- The laws of `Hold`.
use Rattle.std.proofs.Common.{◌≡◌, ℕ, ◌+◌, ◌<◌, ◌≤◌, ◌==◌, ◌||◌, Bool, true, false, not, cond, [], ◌∷◌, Option, Some, None, is_none, is_some, length, slice_get, slice_index, refl, sym, ap, ◌∙◌, subst, arith}
use Rattle.std.proofs.lemmas.Bool.{both_ways, eqb-true, ne_eqb}
use Rattle.std.proofs.lemmas.Option.{none-some, same_Some}
use Rattle.hwp_core_rule.specs.hwp_geom.declared.Frame.{Frame}
use Rattle.hwp_core_rule.specs.hwp_geom.declared.Layout.{Layout}
use Rattle.hwp_core_rule.specs.hwp_geom.declared.Page.{Page}
use Rattle.hwp_core_rule.specs.hwp_geom.declared.Who.{Who}
use Rattle.hwp_core_rule.specs.hwp_page.History.{BodyValue, IsReplay}
use Rattle.hwp_core_rule.specs.hwp_words.Frames.{count_of, is_handled, is_poisoned, owner_of}
use Rattle.hwp_core_rule.specs.declared.Log.{Log}
use Rattle.hwp_core_rule.specs.declared.PageLock.{PageLock}
use Rattle.hwp_core_rule.specs.declared.SharedWord.{SharedWord}
use Rattle.hwp_core_rule.specs.declared.SharedWord.TheVariants as places
use Rattle.hwp_core_rule.specs.declared.Step.{Step}
use Rattle.hwp_core_rule.specs.declared.Step.TheVariants as steps
use Rattle.hwp_core_rule.specs.declared.View.{View}
use Rattle.hwp_core_rule.specs.Logs.{log_of, state_of}
use Rattle.hwp_core_rule.specs.SlotMoves.{IsIn, frame_slot, shelf_slot, is_out, moved_out}
use Rattle.hwp_core_rule.specs.Views.{refs_on, locks_on, frame_in, knowing, lock_found}
use Rattle.hwp_core_rule.specs.Words.{index}
use Rattle.hwp_core_rule.proofs.Lists.{same-number}
use Rattle.hwp_core_rule.proofs.MetWords.{free-word, cache-words, cache-word, cached-frame, on-shelf, lock-knows, stays-referenced, in-slot}
use Rattle.hwp_core_rule.specs.declared.Turn.{Turn}
use Rattle.hwp_core_rule.proofs.tasks.SightKeeps.{saw-log-stays, saw-log-shelf, saw-log-frame}
use Rattle.hwp_core.specs.declared.hold.Hold.{Hold}
use Rattle.hwp_core.specs.declared.hold.HoldAt.{HoldAt}
use Rattle.hwp_core.specs.declared.hold.HoldAt.TheVariants as at
use Rattle.hwp_core.specs.declared.pin.Pin.{Pin}
use Rattle.hwp_core.specs.declared.pin.PinAt.{PinAt}
use Rattle.hwp_core.specs.declared.pin.PinAt.TheVariants as pin_at
use Rattle.hwp_core_rule.specs.Calls.{CanMake, Steps, IsOnTurn, logs}
use Rattle.hwp_core_rule.specs.Hands.{Hand, hand_of, empty, taking}
use Rattle.hwp_core.specs.Holds.{is_free, plan, plan_at, named_at, pinned, locked_at, next, next_at, ShowsAt, Shows, turn, page_lock, words_of, one_ref, locked, named, held, IsBodyOf, IsLocked, IsPinning, SawBody, Fits, FitsAt}
use Rattle.hwp_core.specs.Pins as pins
use Rattle.hwp_core.specs.Pins.{is_gone}
use Rattle.hwp_core.proofs.PinLaws as pinning
use Rattle.hwp_core_rule.proofs.tasks.StepLeaves.{on-turn-after, content_of, brought, was-home, hand-planned, steps-planned, can-make}

-- a page's lock, just taken
abbrev bare : Page → Option Log → PageLock
bare page content = record { page = page; resident = is_none content; cache = None; trans = None }

-- a page's lock, when the body that was on its shelf is in hand
abbrev shelved : Layout → Page → BodyValue → PageLock
shelved layout page body = page_lock page None (words_of layout None (log_of body))

-- the state of a page's body is the replay of its history
replay-of : (layout : Layout) (page : Page) (b : BodyValue) → b.page ≡ page → b.layout ≡ layout → IsReplay b.layout b.page b.log b.state → IsReplay layout page b.log b.state
replay-of layout page b own is kept = subst (λ (q : Page). IsReplay layout q b.log b.state) own (subst (λ (l : Layout). IsReplay l b.page b.log b.state) is kept)

-- a choice by a test that is known
went : {A : Type 0} (b c : Bool) (x y : A) → b ≡ c → cond b x y ≡ cond c x y
went b c x y is = ap (λ (d : Bool). cond d x y) is

-- a frame with references that isn't handled isn't gone
counted-there : (found : ℕ) → (1 ≤ count_of found) × (is_handled found ≡ false) → is_gone found ≡ false
counted-there found there = let counted : (count_of found == 0) ≡ false = ne_eqb (count_of found) 0 (λ e. omega (arith, there.0)) in ap (λ (b : Bool). b || is_handled found) counted ∙ there.1

module _ (layout : Layout) (old new : View) (who : Who) (page : Page) (inside : page.0 < length layout.pages) (found : ℕ) (got : Option BodyValue) where
  -- ---- the page's lock
  module _ (made : Steps layout who (steps.LockPage page) None old new found got) (none : hand_of old ≡ empty) where
    abbrev content : Option Log
    content = content_of layout who (steps.LockPage page) None found got

    after : hand_of new ≡ cond (is_free found) (taking layout None content (length old.sights) (record empty { pages = bare page content ∷ [] })) empty
    after = hand-planned made refl none

    flow : is_free found ≡ true → content ≡ logs got
    flow free = brought layout who (steps.LockPage page) None found got (ap (λ (b : Bool). is_out (moved_out b (shelf_slot layout page))) free)

    shelf : is_free found ≡ true → (b : BodyValue) → got ≡ Some b → IsBodyOf layout page None b
    shelf free b is = record {
      page_is = fits.0;
      layout_is = made.brings.layout_is b is;
      cached = fits.1;
      replay = replay-of layout page b fits.0 (made.brings.layout_is b is) (made.brings.kept b is);
    }
      where
        fits : (b.page ≡ page) × (false ≡ (state_of layout (log_of b)).cached)
        fits = on-shelf layout made.told.board made.told.rule page found (log_of b) inside made.told.met (free-word found free)
            (subst (IsIn made.told.board.homes (shelf_slot layout page)) (flow free ∙ ap logs is) (was-home (is_free found) (shelf_slot layout page) made.told.board.homes content free made.told.slot))

    taken : (b : Option BodyValue) (seen : ℕ) → ((x : BodyValue) → b ≡ Some x → x.page ≡ page) → taking layout None (logs b) seen (record empty { pages = bare page (logs b) ∷ [] }) ≡ locked layout page (logs b) seen
    taken None seen is = refl
    taken (Some b) seen is = let same : page.0 ≡ b.page.0 = sym (ap (λ (p : Page). p.0) (is b refl)) in grind arith

    pub page-locked : FitsAt layout new who page (cond (is_free found) (at.LoadCache got) at.LockPage)
    page-locked = which (is_free found) refl
      where
        which : (free : Bool) → is_free found ≡ free → FitsAt layout new who page (cond free (at.LoadCache got) at.LockPage)
        which true is = (
          record {
            seen = length old.sights;
            hand_is = after ∙ went (is_free found) true _ _ is ∙ ap (λ (c : Option Log). taking layout None c (length old.sights) (record empty { pages = bare page c ∷ [] })) (flow is)
                ∙ taken got (length old.sights) (λ x e. (shelf is x e).page_is);
            body_is = λ b e. shelf is b e;
          },
          saw got made,
        )
          where
            saw : (g : Option BodyValue) → Steps layout who (steps.LockPage page) None old new found g → SawBody new who g
            saw None m = tt
            saw (Some b) m = saw-log-shelf m is (ap (λ (h : Hand). h.pages) none) inside
        which false is = after ∙ went (is_free found) false _ _ is

  -- ---- the cache word
  module _ (made : Steps layout who (steps.Load (places.Cache page)) None old new found got) where
    resident-of : (lock : PageLock) → slice_get old.pages 0 ≡ Some lock → lock.page ≡ page → not (found == 0) ≡ lock.resident
    resident-of lock at is = (lock-knows layout made.told.board made.told.rule made.told.seat old made.told.me lock at).resident found
        (ap (λ (q : Page). slice_get (cache-words layout made.told.board.words) q.0) is ∙ cache-word layout made.told.board made.told.rule page found inside made.told.met)

    loaded : (lock : PageLock) → lock.page ≡ page → cond (lock.page.0 == page.0) (record lock { cache = Some found }) lock ≡ record lock { cache = Some found }
    loaded lock is = ap (λ (b : Bool). cond b (record lock { cache = Some found }) lock) (same-number lock.page.0 page.0 (ap (λ (p : Page). p.0) is))

    pub cache-loaded : (body : Option BodyValue) → IsOnTurn new who → IsLocked layout old page body → SawBody old who body → (frame_in found ≡ None → is_some body ≡ true) × FitsAt layout new who page (named_at who body (frame_in found))
    cache-loaded None on has saw = (
      (λ none. absurd (none-some frame.0 (sym none ∙ frame.3))),
      subst (λ (f : Option Frame). FitsAt layout new who page (named_at who None f)) (sym frame.3) (record {
        hand_is = hand;
        pin = record { on_turn = on; frame = frame.2; at = record { shares = subst (λ (h : Hand). refs_on frame.0.0 h.refs + 1 ≤ length layout.trans + 2) (sym hand) (omega arith); first = λ none. subst (λ (h : Hand). h.reserved + length h.hands + length h.refs + 1 ≤ 2) (sym hand) (omega arith) } };
        own = refl;
        under_way = refl;
      }),
    )
      where
        some : not (found == 0) ≡ true
        some = resident-of (bare page None) (ap (λ (h : Hand). slice_get h.pages 0) has.hand_is) refl

        frame : (f : Frame) × (found ≡ f.0 + 1) × (f.0 < layout.frames) × (frame_in found ≡ Some f)
        frame = cached-frame layout made.told.board made.told.rule page found (cache-word layout made.told.board made.told.rule page found inside made.told.met)
            (λ e. both_ways (not (found == 0)) (ap (λ (n : ℕ). not (n == 0)) e) some)

        hand : hand_of new ≡ named page frame.0 []
        hand = hand-planned made refl has.hand_is ∙ ap (λ (l : PageLock). record empty { pages = l ∷ [] }) (loaded (bare page None) refl ∙ ap (λ (n : ℕ). record (bare page None) { cache = Some n }) frame.1)
    cache-loaded (Some body) on has saw = (
      (λ none. refl),
      subst (λ (f : Option Frame). FitsAt layout new who page (named_at who (Some body) f)) (sym (ap frame_in zero)) (
        record {
          seen = has.seen;
          handled = false;
          poisoned = false;
          hand_is = hand-planned made refl has.hand_is ∙ ap (λ (l : PageLock). record (locked layout page (Some (log_of body)) has.seen) { pages = l ∷ [] }) (loaded (shelved layout page body) refl ∙ ap (λ (n : ℕ). record (shelved layout page body) { cache = Some n }) zero);
          within = λ f none. absurd (none-some f none);
          body_is = has.body_is body refl;
        },
        saw-log-stays made saw,
      ),
    )
      where
        none : not (found == 0) ≡ false
        none = resident-of (shelved layout page body) (ap (λ (h : Hand). slice_get h.pages 0) has.hand_is) refl

        zero : found ≡ 0
        zero = which (found == 0) refl
          where
            which : (b : Bool) → (found == 0) ≡ b → found ≡ 0
            which true e = eqb-true found 0 e
            which false e = absurd (both_ways (not (found == 0)) none (ap not e))

  -- ---- the reference
  module _ (p : Pin) (step : Step) (is : pins.plan p ≡ Some step) (made : Steps layout p.who step None old new found got) (has : IsPinning layout old who page p) where
    -- the frame that the page's lock lists is never gone
    pub never-gone : is_gone found ≡ false
    never-gone = counted-there found (stays-referenced layout made.told.board made.told.rule made.told.seat old made.told.me (page_lock page (Some p.frame) None) p.frame found
        (ap (λ (h : Hand). slice_get h.pages 0) has.hand_is) refl has.pin.frame
        (made.told.met ∙ ap (λ (q : SharedWord). slice_index made.told.board.words (index layout q)) (pinning.place-is p is)))

    kept : hand_of new ≡ pins.hand_next p found (named page p.frame [])
    kept = pinning.held-after p (named page p.frame []) is has.hand_is made

    shown : (gone : Bool) → gone ≡ false → hand_of new ≡ named page p.frame [] → pins.Fits layout new (record p { at = cond gone (pin_at.Gone found) (pin_at.Get found) })
        → FitsAt layout new who page (pinned (record p { at = cond gone (pin_at.Gone found) (pin_at.Get found) }))
    shown true not same fits = absurd (both_ways true not refl)
    shown false not same fits = record { hand_is = same; pin = fits; own = has.own; under_way = refl }

    pub pin-moved : pins.Fits layout new (pins.next p found) → FitsAt layout new who page (pinned (pins.next p found))
    pin-moved = which p.at is kept
      where
        which : (x : PinAt) → pins.plan_at p.frame x ≡ Some step → hand_of new ≡ pins.hand_next_at p.frame x found (named page p.frame [])
            → pins.Fits layout new (record p { at = pins.next_at x found }) → FitsAt layout new who page (pinned (record p { at = pins.next_at x found }))
        which pin_at.Load e hand fits = shown (is_gone found) never-gone hand fits
        which (pin_at.Get seen) e hand fits = by (found == seen) hand fits
          where
            by : (b : Bool) → hand_of new ≡ cond b (named page p.frame (one_ref p.frame)) (named page p.frame []) → pins.Fits layout new (record p { at = cond b (pin_at.Held seen) (pins.at_word found) })
                → FitsAt layout new who page (pinned (record p { at = cond b (pin_at.Held seen) (pins.at_word found) }))
            by true hand fits = (hand, fits.frame)
            by false hand fits = shown (is_gone found) never-gone hand fits
        which (pin_at.Held word) e hand fits = absurd (none-some step e)
        which (pin_at.Gone word) e hand fits = absurd (none-some step e)

  -- ---- the frame's lock
  module _ (frame : Frame) (made : Steps layout who (steps.LockFrame frame) None old new found got) (has : FitsAt layout old who page (at.LockFrame frame)) where
    abbrev brought-content : Option Log
    brought-content = content_of layout who (steps.LockFrame frame) None found got

    after-lock : hand_of new ≡ cond (is_free found) (taking layout (Some frame) brought-content (length old.sights) (record (named page frame (one_ref frame)) { locks = lock_found frame found ∷ [] })) (named page frame (one_ref frame))
    after-lock = hand-planned made refl has.0

    abbrev lock-of : PageLock
    lock-of = page_lock page (Some frame) None

    flow-of : is_free found ≡ true → brought-content ≡ logs got
    flow-of free = brought layout who (steps.LockFrame frame) None found got (ap (λ (b : Bool). is_out (moved_out b (frame_slot frame))) free)

    slot : is_free found ≡ true → (owner_of found ≡ page.0 + 1) × ((log : Log) × (brought-content ≡ Some log) × (log.page ≡ page) × (true ≡ (state_of layout log).cached))
    slot free = in-slot layout made.told.board made.told.rule made.told.seat old made.told.me lock-of frame found brought-content (ap (λ (h : Hand). slice_get h.pages 0) has.0)
        inside refl has.1 made.told.met (free-word found free) (was-home (is_free found) (frame_slot frame) made.told.board.homes brought-content free made.told.slot)

    there-is : is_free found ≡ true → (b : BodyValue) × (got ≡ Some b) × ((b.page ≡ page) × (true ≡ (state_of layout (log_of b)).cached))
    there-is free = which got (sym (flow-of free) ∙ (slot free).1.1)
      where
        which : (g : Option BodyValue) → logs g ≡ Some (slot free).1.0 → (b : BodyValue) × (g ≡ Some b) × ((b.page ≡ page) × (true ≡ (state_of layout (log_of b)).cached))
        which None e = absurd (none-some (slot free).1.0 e)
        which (Some b) e = (b, refl, subst (λ (l : Log). (l.page ≡ page) × (true ≡ (state_of layout l).cached)) (sym (same_Some (log_of b) (slot free).1.0 e)) ((slot free).1.2, (slot free).1.3))

    pub frame-locked : (is_free found ≡ true → is_some got ≡ true) × FitsAt layout new who page (cond (is_free found) (locked_at frame got) (at.LockFrame frame))
    frame-locked = ((λ free. ap (λ (g : Option BodyValue). is_some g) (there-is free).1), which (is_free found) refl)
      where
        which : (free : Bool) → is_free found ≡ free → FitsAt layout new who page (cond free (locked_at frame got) (at.LockFrame frame))
        which false is = (after-lock ∙ went (is_free found) false _ _ is, has.1)
        which true is = subst (λ (g : Option BodyValue). FitsAt layout new who page (locked_at frame g)) (sym body.1) (
          record {
            seen = length old.sights;
            handled = is_handled found;
            poisoned = is_poisoned found;
            hand_is = after-lock ∙ went (is_free found) true _ _ is ∙ ap (λ (c : Option Log). taking layout (Some frame) c (length old.sights) (record (named page frame (one_ref frame)) { locks = lock_found frame found ∷ [] })) (flow-of is ∙ ap logs body.1)
                ∙ ap (λ (b : Bool). record (full (lock_found frame found).owner) { pages = cond b (knowing layout log (Some frame) lock-of) lock-of ∷ [] }) (same-number page.0 body.0.page.0 (sym (ap (λ (p : Page). p.0) body.2.0)))
                ∙ ap full (slot is).0;
            within = λ f is. subst (λ (g : Frame). g.0 < layout.frames) (same_Some frame f is) has.1;
            body_is = record {
              page_is = body.2.0;
              layout_is = made.brings.layout_is body.0 body.1;
              cached = ap not (ne_eqb (frame.0 + 1) 0 (λ e. omega (arith, e))) ∙ body.2.1;
              replay = replay-of layout page body.0 body.2.0 (made.brings.layout_is body.0 body.1) (made.brings.kept body.0 body.1);
            };
          },
          saw-log-frame (subst (λ (g : Option BodyValue). Steps layout who (steps.LockFrame frame) None old new found g) body.1 made) is lock-of (ap (λ (h : Hand). slice_get h.pages 0) has.0) (sym body.2.0),
        )
          where
            body : (b : BodyValue) × (got ≡ Some b) × ((b.page ≡ page) × (true ≡ (state_of layout (log_of b)).cached))
            body = there-is is

            log : Log
            log = log_of body.0

            full : ℕ → Hand
            full owner = record (held layout page (Some frame) log (length old.sights) (is_handled found) (is_poisoned found)) { locks = record { frame = frame; owner = owner; handled = is_handled found; poisoned = is_poisoned found } ∷ [] }

-- a step shows what is needed, and what follows fits again
pub both : (layout : Layout) (old new : View) (h : Hold) (step : Step) (found : ℕ) (got : Option BodyValue) → Fits layout old h → plan h ≡ Some step → Steps layout h.who step None old new found got → Shows h found got × Fits layout new (next h found got)
both layout old new h step found got fits is made = let all = which h.at is fits.at in (all.0, record { on_turn = on; page = fits.page; at = all.1 })
  where
    on : IsOnTurn new h.who
    on = on-turn-after fits.on_turn made

    which : (x : HoldAt) → plan_at h.page x ≡ Some step → FitsAt layout old h.who h.page x → ShowsAt x found got × FitsAt layout new h.who h.page (next_at h.who x found got)
    which at.LockPage e at = (tt, page-locked layout old new h.who h.page fits.page found got (steps-planned e made) at)
    which (at.LoadCache body) e at = cache-loaded layout old new h.who h.page fits.page found got (steps-planned e made) body on at.0 at.1
    which (at.Pin p) e at = (tt, pin-moved layout old new h.who h.page fits.page found got p step e own at (pinning.moved layout old new p step found got at.pin e own))
      where
        own : Steps layout p.who step None old new found got
        own = subst (λ (w : Who). Steps layout w step None old new found got) (sym at.own) made
    which (at.LockFrame frame) e at = frame-locked layout old new h.who h.page fits.page found got frame (steps-planned e made) at
    which (at.Held frame body) e at = absurd (none-some step e)

pub stays : (layout : Layout) (old new : View) (h : Hold) (step : Step) (found : ℕ) (got : Option BodyValue) → Fits layout old h → plan h ≡ Some step
    → Steps layout h.who step None old new found got → Shows h found got × ((after : Hold) (result : Turn) → (after ≡ next h found got) × (result ≡ turn h found) → Fits layout new after × (after.who.cpu ≡ h.who.cpu))
stays layout old new h step found got fits is made = let all = both layout old new h step found got fits is made in
    (all.0, λ after result follows. (subst (Fits layout new) (sym follows.0) all.1, ap (λ (x : Hold). x.who.cpu) follows.0))

referenced : (frame : Frame) → 0 < refs_on frame.0 (one_ref frame)
referenced frame = let same = same-number frame.0 frame.0 refl in grind arith

pub can : (layout : Layout) (view : View) (h : Hold) (step : Step) → Fits layout view h → plan h ≡ Some step → CanMake layout h.who step None view
can layout view h step fits is = which h.at fits.at is
  where
    which : (x : HoldAt) → FitsAt layout view h.who h.page x → plan_at h.page x ≡ Some step → CanMake layout h.who step None view
    which at.LockPage at e = can-make fits.on_turn e fits.page (ap (λ (g : Hand). length g.pages) at)
    which (at.LoadCache body) at e = can-make fits.on_turn e fits.page tt
    which (at.Pin p) at e = subst (λ (w : Who). CanMake layout w step None view) at.own (pinning.can layout view p step at.pin e)
    which (at.LockFrame frame) at e = can-make fits.on_turn e at.1 (record {
      referenced = subst (λ (g : Hand). 0 < refs_on frame.0 g.refs) (sym at.0) (referenced frame);
      unlisted = ap (λ (g : Hand). locks_on frame.0 g.locks) at.0;
      second = subst (λ (g : Hand). length g.locks < 2) (sym at.0) (omega arith);
    })
    which (at.Held frame body) at e = absurd (none-some step e)
