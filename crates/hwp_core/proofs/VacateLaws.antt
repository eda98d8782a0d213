-- The laws of `Vacate`.
use Rattle.std.proofs.Common.{◌≡◌, ◌≢◌, inl, inr, ℕ, ◌+◌, ◌-◌, ◌^◌, ◌<◌, ◌≤◌, ◌==◌, Bool, true, false, cond, List, [], ◌∷◌, ◌++◌, Option, Some, None, is_none, length, slice_get, refl, sym, ap, ◌∙◌, subst, arith}
use Rattle.std.proofs.lemmas.Bool.{both_ways}
use Rattle.std.proofs.lemmas.Option.{none-some, same_Some}
use Rattle.std.specs.FinSet as set
use Rattle.std.specs.List.{find}
use Rattle.std.specs.Ordering.{nat_cmp}
use Rattle.hwp_core_rule.specs.hwp_geom.declared.Frame.{Frame}
use Rattle.hwp_core_rule.specs.hwp_geom.declared.Layout.{Layout}
use Rattle.hwp_core_rule.specs.hwp_geom.declared.Page.{Page}
use Rattle.hwp_core_rule.specs.hwp_geom.declared.TransDecl.{TransDecl}
use Rattle.hwp_core_rule.specs.hwp_geom.declared.Who.{Who}
use Rattle.hwp_core_rule.specs.hwp_page.declared.PageState.{PageState}
use Rattle.hwp_core_rule.specs.hwp_page.History.{BodyValue}
use Rattle.hwp_core_rule.specs.hwp_words.Frames.{is_poisoned}
use Rattle.hwp_core_rule.specs.hwp_words.Names.{frame_name}
use Rattle.hwp_core_rule.specs.hwp_words.Translations.{pte_word}
use Rattle.hwp_core_rule.specs.hwp_words.declared.Pte.TheVariants as ptes
use Rattle.hwp_core_rule.specs.declared.FrameLock.{FrameLock}
use Rattle.hwp_core_rule.specs.declared.InHand.{InHand}
use Rattle.hwp_core_rule.specs.declared.Log.{Log}
use Rattle.hwp_core_rule.specs.declared.PageLock.{PageLock}
use Rattle.hwp_core_rule.specs.declared.Ref.{Ref}
use Rattle.hwp_core_rule.specs.declared.Step.{Step}
use Rattle.hwp_core_rule.specs.declared.Step.TheVariants as steps
use Rattle.hwp_core_rule.specs.declared.View.{View}
use Rattle.hwp_core_rule.specs.Asks.{HasLock, HasPage, CanChange, CanFree, CanGoHome, CanUnlockPage, PutFits}
use Rattle.hwp_core_rule.specs.Logs.{log_of, state_of, fitting_word}
use Rattle.hwp_core_rule.specs.Steps.{is_last}
use Rattle.hwp_core_rule.specs.Views.{refs_on, locks_on, is_body_of, is_page_lock_of, without, frame_in, with_named, less_refs, page_locks_on}
use Rattle.hwp_core_rule.specs.parts.Fits.{FitsWords}
use Rattle.hwp_core_rule.proofs.Lists.{same-number}
use Rattle.hwp_core_rule.proofs.MetWords.{cache-word, frame-named, lock-knows}
use Rattle.hwp_core_rule.proofs.Refs.{refs-cons}
use Rattle.hwp_core_rule.specs.declared.Turn.{Turn}
use Rattle.hwp_core_rule.specs.declared.Turn.TheVariants.{Moved}
use Rattle.hwp_core_rule.specs.Calls.{CanMake, FitsLayout, Steps, IsOnTurn, logs}
use Rattle.hwp_core_rule.specs.Hands.{Hand, hand_of, empty, putting}
use Rattle.hwp_core_rule.proofs.tasks.StepLeaves.{on-turn-after, hand-planned, steps-planned, can-make, can-put}
use Rattle.hwp_core.specs.declared.release.Release.{Release}
use Rattle.hwp_core.specs.declared.release.ReleaseAt.{ReleaseAt}
use Rattle.hwp_core.specs.declared.release.ReleaseAt.TheVariants as release_at
use Rattle.hwp_core.specs.Holds.{page_lock}
use Rattle.hwp_core.specs.Releases as releases
use Rattle.hwp_core.proofs.ReleaseLaws as releasing_laws
use Rattle.hwp_core.specs.declared.vacate.Vacate.{Vacate}
use Rattle.hwp_core.specs.declared.vacate.VacateAt.{VacateAt}
use Rattle.hwp_core.specs.declared.vacate.VacateAt.TheVariants as at
use Rattle.hwp_core.specs.Vacates.{plan, plan_at, put, put_at, bare, left_at, after_release, next, next_at, page_held, with_frame, releasing, GoesToShelf, IsLeaving, IsReleasing, Fits, FitsAt}
use Rattle.hwp_core.proofs.BodyGrows.{Grown, extends-grown, length-grown}

-- ---- what is held

-- so many references to a frame, and no other
pub refs-are : (frame : Frame) (count : ℕ) → refs_on frame.0 (record { frame = frame; count = count } ∷ []) ≡ count
refs-are frame count =
    let all : refs_on frame.0 (record { frame = frame; count = count } ∷ []) ≡ cond {A = ℕ} (frame.0 == frame.0) count 0 + refs_on frame.0 [] = refs-cons frame.0 (record { frame = frame; count = count }) [] in
    let this : cond {A = ℕ} (frame.0 == frame.0) count 0 ≡ count = ap (λ (b : Bool). cond {A = ℕ} b count 0) (same-number frame.0 frame.0 refl) in
    let none : refs_on frame.0 [] ≡ 0 = refl in
    omega (arith, all, this, none)

-- given back, none is left
pub refs-gone : (frame : Frame) (count : ℕ) → less_refs frame count (record { frame = frame; count = count } ∷ []) ≡ []
refs-gone frame count = grind arith

pub released : (r : Release) (x : ReleaseAt) (found : ℕ) (page : Page) (trans : List ℕ) (taken : InHand) → is_none (releases.plan_at r.frame r.count x) ≡ false
    → releases.hand_next_at r.frame r.count x found (releasing r.frame r.count x (page_held page None trans taken)) ≡ releasing r.frame r.count (releases.next_at r.count x found) (page_held page None trans taken)
released r release_at.Put found page trans taken on =
    ap (λ (refs : List Ref). record (page_held page None trans taken) { refs = refs; hands = cond (is_last r.count found) ([] ++ (record { frame = r.frame; poisoned = is_poisoned found }) ∷ []) [] }) (refs-gone r.frame r.count)
    ∙ by (is_last r.count found) (is_poisoned found)
  where
    by : (b p : Bool) → record (page_held page None trans taken) { refs = []; hands = cond b ([] ++ (record { frame = r.frame; poisoned = p }) ∷ []) [] }
        ≡ releasing r.frame r.count (cond b (cond p (release_at.Adopt found) (release_at.Give found)) (release_at.Back found)) (page_held page None trans taken)
    by true true = refl
    by true false = refl
    by false p = refl
released r (release_at.Give word) found page trans taken on = grind arith
released r (release_at.Unreserve word) found page trans taken on = grind arith
released r (release_at.Adopt word) found page trans taken on = grind arith
released r (release_at.Retire word) found page trans taken on = grind arith
released r (release_at.Back word) found page trans taken on = absurd (both_ways true on refl)

-- ---- the steps can be made

module _ {view : View} {page : Page} (frame : Option Frame) {trans : List ℕ} {taken : InHand} (pages : view.pages ≡ page_lock page frame (Some trans) ∷ []) (bodies : view.bodies ≡ taken ∷ []) (own : taken.log.page ≡ page) where
  abbrev page-held : HasPage view page
  page-held = record {
    lock = record { lock = page_lock page frame (Some trans); listed = ap (λ l. slice_get l 0) pages; page_is = refl };
    body = taken;
    body_is = ap (find (is_body_of page)) bodies ∙ ap (λ (b : Bool). cond b (Some taken) None) (same-number taken.log.page.0 page.0 (ap (λ (p : Page). p.0) own));
    cache = frame_name frame;
    cache_is = refl;
    trans = trans;
    trans_is = refl;
  }

-- the page's lock is in the first place, and what it lists fits
pub put-fits-of : {layout : Layout} {view : View} {page : Page} (frame : Option Frame) (trans : List ℕ) (taken : InHand) (log : Log) → log.page ≡ page → view.pages ≡ page_lock page frame (Some trans) ∷ [] → FitsWords layout log (frame_name frame) trans
    → PutFits layout view taken log
put-fits-of {layout} {view} {page} frame trans taken log own pages fits = record {
  unlocked = λ none.
      let one : page_locks_on log.page.0 view.pages ≡ cond {A = ℕ} (page.0 == log.page.0) 1 0 + 0 = ap (page_locks_on log.page.0) pages ∙ grind arith in
      let this : cond {A = ℕ} (page.0 == log.page.0) 1 0 ≡ 1 = ap (λ (b : Bool). cond {A = ℕ} b 1 0) (same-number page.0 log.page.0 (sym (ap (λ (p : Page). p.0) own))) in
      absurd (omega (arith, none, one, this));
  locked = λ other cache words at its cache_is trans_is.
      let same : page_lock page frame (Some trans) ≡ other = same_Some (page_lock page frame (Some trans)) other (sym (ap (λ l. slice_get l 0) pages) ∙ at) in
      subst (λ (c : ℕ). FitsWords layout log c words) (same_Some (frame_name frame) cache (ap (λ (l : PageLock). l.cache) same ∙ cache_is))
      (subst (λ (ws : List ℕ). FitsWords layout log (frame_name frame) ws) (same_Some trans words (ap (λ (l : PageLock). l.trans) same ∙ trans_is)) fits);
}

abbrev pub lock-held : {view : View} {frame : Frame} (lock : FrameLock) → view.locks ≡ lock ∷ [] → lock.frame ≡ frame → HasLock view frame
lock-held lock locks is = record { lock = lock; listed = (0, lock, ap (λ l. slice_get l 0) locks, refl); frame_is = is }

-- the cache word of a page can be cleared: of the frame that it names the lock alone is held, and one reference more has room
pub can-uncache : (layout : Layout) (view : View) (page : Page) (frame : Frame) (count : ℕ) (lock : FrameLock) → frame.0 < 2 ^ 16 → view.locks ≡ lock ∷ [] → lock.frame ≡ frame → view.refs ≡ record { frame = frame; count = count } ∷ [] → count + 1 ≤ length layout.trans + 2
    → CanChange layout view page (frame_in (frame_name (Some frame))) None
can-uncache layout view page frame count lock small locks is refs room = (
  λ old named. subst (CanFree layout view) (same_Some frame old (sym (frame-named frame small) ∙ named)) (record {
    has = lock-held lock locks is;
    room = subst (λ (n : ℕ). n + 1 ≤ length layout.trans + 2) (sym (ap (refs_on frame.0) refs ∙ refs-are frame count)) room;
  }),
  λ new none. absurd (none-some new none),
)

-- a frame's name fits a cache word
small-frame : {layout : Layout} {view : View} (v : Vacate) → Fits layout view v → v.frame.0 < 2 ^ 16
small-frame v fits = let few : _ = fits.sound.frames in let inside : _ = fits.frame in omega (arith, few, inside)

module _ {layout : Layout} {who : Who} {view : View} {page : Page} {given : Option BodyValue} {trans : List ℕ} {taken : InHand} (goes : GoesToShelf layout who view page given trans taken) where
  -- no translation of the page names a frame
  names-none : (frame : Frame) → frame.0 < 2 ^ 16 → (slot : ℕ) (t : TransDecl) → slice_get layout.trans slot ≡ Some t → t.page ≡ page → slice_get trans slot ≢ Some (frame.0 + 1)
  names-none frame small slot t declared own there = which (set.contains state.bar slot) (word ∙ ap (λ (b : Bool). cond b 0 (cond (set.contains state.bar slot) (pte_word ptes.Poison) 0)) unused)
    where
      state : PageState
      state = state_of layout (log_of goes.body)

      word : frame.0 + 1 ≡ fitting_word state 0 slot
      word = goes.fits.used slot (frame.0 + 1) t declared (own ∙ sym goes.page_is) there

      unused : set.contains state.maps slot ≡ false
      unused = ap (λ m. set.contains m slot) goes.unmapped ∙ set.contains-empty nat_cmp slot

      which : (b : Bool) → frame.0 + 1 ≡ cond b (pte_word ptes.Poison) 0 → ⊥
      which true e = let far : pte_word ptes.Poison ≡ 2 ^ 63 = refl in omega (arith, e, far, small)
      which false e = omega (arith, e)

  -- the body goes onto the shelf
  module _ (pages : view.pages ≡ page_lock page None (Some trans) ∷ []) (bodies : view.bodies ≡ taken ∷ []) (locks : view.locks ≡ []) where
    abbrev lock : PageLock
    lock = page_lock page None (Some trans)

    own : goes.body.page.0 ≡ page.0
    own = ap (λ (p : Page). p.0) goes.page_is

    put-fits : PutFits layout view taken (log_of goes.body)
    put-fits = record {
      unlocked = λ none.
          let one : page_locks_on goes.body.page.0 view.pages ≡ cond {A = ℕ} (page.0 == goes.body.page.0) 1 0 + 0 = ap (page_locks_on goes.body.page.0) pages ∙ grind arith in
          let this : cond {A = ℕ} (page.0 == goes.body.page.0) 1 0 ≡ 1 = ap (λ (b : Bool). cond {A = ℕ} b 1 0) (same-number page.0 goes.body.page.0 (sym own)) in
          absurd (omega (arith, none, one, this));
      locked = λ other cache words at its cache_is trans_is.
          let same : lock ≡ other = same_Some lock other (sym (ap (λ l. slice_get l 0) pages) ∙ at) in
          subst (λ (c : ℕ). FitsWords layout (log_of goes.body) c words) (same_Some 0 cache (ap (λ (l : PageLock). l.cache) same ∙ cache_is))
          (subst (λ (ws : List ℕ). FitsWords layout (log_of goes.body) 0 ws) (same_Some trans words (ap (λ (l : PageLock). l.trans) same ∙ trans_is)) goes.fits);
    }

    goes-home : CanGoHome layout who view (log_of goes.body)
    goes-home = record {
      body = taken;
      body_is = ap (find (is_body_of goes.body.page)) bodies ∙ ap (λ (b : Bool). cond b (Some taken) None) (same-number taken.log.page.0 goes.body.page.0 (ap (λ (p : Page). p.0) goes.taken_is ∙ sym own));
      extends = goes.extends;
      fits = put-fits;
      killed = goes.killed;
    }

    can-shelve : CanUnlockPage layout who view page (logs given)
    can-shelve = subst (λ (b : Option BodyValue). CanUnlockPage layout who view page (logs b)) (sym goes.given_is) (record {
      has = record { lock = lock; listed = ap (λ l. slice_get l 0) pages; page_is = refl };
      named = ap (λ (p : Page). p.0 + 1) goes.page_is;
      put_away = λ none. absurd (none-some (log_of goes.body) (sym none));
      no_frame = λ i l there. absurd (none-some l (sym (ap (λ ls. slice_get ls i) locks) ∙ there));
      put = goes-home;
    })

  body-fits : FitsLayout layout given
  body-fits b is = ap (λ (x : BodyValue). x.layout) (same_Some b goes.body (sym is ∙ goes.given_is)) ∙ goes.layout_is

pub can : (layout : Layout) (view : View) (v : Vacate) (step : Step) → Fits layout view v → plan v ≡ Some step → CanMake layout v.who step (put v) view
can layout view v step fits is = which v.at fits.at is
  where
    small : v.frame.0 < 2 ^ 16
    small = small-frame v fits

    which : (x : VacateAt) → FitsAt layout view (record v { at = x }) x → plan_at v.page v.frame x ≡ Some step → CanMake layout v.who step (put_at v.body x) view
    which at.SetCache has e = can-make fits.on_turn e fits.page (record {
      page_held = page-held (Some v.frame) (ap (λ (h : Hand). h.pages) has.hand_is) (ap (λ (h : Hand). h.bodies) has.hand_is) has.goes.taken_is;
      frames = can-uncache layout view v.page v.frame (v.count - 1) _ small (ap (λ (h : Hand). h.locks) has.hand_is) refl (ap (λ (h : Hand). h.refs) has.hand_is) (omega (arith, fits.some, fits.room));
    })
    which at.SetOwner has e = can-make fits.on_turn e fits.frame (
      fits.page,
      record {
        has = lock-held _ (ap (λ (h : Hand). h.locks) has.hand_is) refl;
        owned = refl;
        page_held = page-held None (ap (λ (h : Hand). h.pages) has.hand_is) (ap (λ (h : Hand). h.bodies) has.hand_is) has.goes.taken_is;
        uncached = λ zero. omega (arith, zero);
        unmapped = names-none has.goes v.frame small;
      },
    )
    which at.UnlockFrame has e = can-make fits.on_turn e fits.frame (record {
      has = lock-held _ (ap (λ (h : Hand). h.locks) has.hand_is) refl;
      named = refl;
      cached = λ lock listed owner. absurd (omega (arith, owner));
      put = tt;
    })
    which (at.Release r) has e = subst (λ (w : Who). CanMake layout w step None view) has.own (releasing_laws.can layout view r step has.release e)
    which at.UnlockPage has e = can-put fits.on_turn e fits.page
        (can-shelve has.goes (ap (λ (h : Hand). h.pages) has.hand_is) (ap (λ (h : Hand). h.bodies) has.hand_is) (ap (λ (h : Hand). h.locks) has.hand_is)) (body-fits has.goes) tt
    which at.Over has e = absurd (none-some step e)

-- ---- what follows fits

-- the body stays on its way
goes-on : {layout : Layout} {who : Who} {old new : View} {page : Page} {given : Option BodyValue} {trans : List ℕ} {taken : InHand} → Grown old.sights new.sights → GoesToShelf layout who old page given trans taken → GoesToShelf layout who new page given trans taken
goes-on more goes = record {
  body = goes.body;
  given_is = goes.given_is;
  page_is = goes.page_is;
  taken_is = goes.taken_is;
  layout_is = goes.layout_is;
  from = length-grown more goes.from;
  extends = extends-grown more goes.from goes.extends;
  killed = goes.killed;
  fits = goes.fits;
  unmapped = goes.unmapped;
}

-- what is held when the cache word is written, with these references
abbrev uncached : Page → Frame → List ℕ → InHand → Bool → Bool → List Ref → Bool → Hand
uncached page frame trans taken handled poisoned refs same = record (with_frame frame (page.0 + 1) handled poisoned 0 (page_held page None trans taken)) {
  refs = refs;
  pages = cond same (page_lock page None (Some trans)) (page_lock page (Some frame) (Some trans)) ∷ [];
}

abbrev freed-lock : Frame → ℕ → Bool → Bool → FrameLock
freed-lock frame owner handled poisoned = record { frame = frame; owner = owner; handled = handled; poisoned = poisoned }

page-freed : (page : Page) (trans : List ℕ) (taken : InHand) (log : Log) → log.page ≡ page → taken.log.page ≡ page
    → record (putting (Some log) (page_held page None trans taken)) { pages = without (is_page_lock_of page) (page_held page None trans taken).pages } ≡ empty
page-freed page trans taken log of_log of_taken = grind arith

module _ {layout : Layout} {old new : View} (v : Vacate) {found : ℕ} {got : Option BodyValue} (fits : Fits layout old v) (on : IsOnTurn new v.who) where
  cache-cleared : Steps layout v.who (steps.SetCache v.page None) None old new found got → IsLeaving layout old (record v { at = at.SetCache }) → IsLeaving layout new (record v { at = at.SetOwner })
  cache-cleared made has = record {
    trans = has.trans;
    taken = has.taken;
    handled = has.handled;
    poisoned = has.poisoned;
    hand_is = hand-planned made refl has.hand_is
        ∙ ap (λ (n : Option Frame). uncached v.page v.frame has.trans has.taken has.handled has.poisoned (with_named n (record { frame = v.frame; count = v.count - 1 } ∷ [])) (v.page.0 == v.page.0)) named
        ∙ ap (λ (b : Bool). uncached v.page v.frame has.trans has.taken has.handled has.poisoned (cond b (record { frame = v.frame; count = v.count - 1 + 1 } ∷ []) (record { frame = v.frame; count = v.count - 1 } ∷ record { frame = v.frame; count = 1 } ∷ [])) (v.page.0 == v.page.0)) (same-number v.frame.0 v.frame.0 refl)
        ∙ ap (λ (b : Bool). uncached v.page v.frame has.trans has.taken has.handled has.poisoned (record { frame = v.frame; count = v.count - 1 + 1 } ∷ []) b) (same-number v.page.0 v.page.0 refl)
        ∙ ap (λ (n : ℕ). uncached v.page v.frame has.trans has.taken has.handled has.poisoned (record { frame = v.frame; count = n } ∷ []) true) count;
    goes = goes-on (inl (ap (λ (x : View). x.sights) made.told.next)) has.goes;
  }
    where
      count : v.count - 1 + 1 ≡ v.count
      count = let some : _ = fits.some in omega (arith, some)

      word : found ≡ v.frame.0 + 1
      word = same_Some found (v.frame.0 + 1) (sym (cache-word layout made.told.board made.told.rule v.page found fits.page made.told.met)
          ∙ (lock-knows layout made.told.board made.told.rule made.told.seat old made.told.me (page_lock v.page (Some v.frame) (Some has.trans)) (ap (λ (h : Hand). slice_get h.pages 0) has.hand_is)).cache (v.frame.0 + 1) refl)

      named : frame_in found ≡ Some v.frame
      named = ap frame_in word ∙ frame-named v.frame (small-frame v fits)

  owner-cleared : Steps layout v.who (steps.SetOwner v.frame v.page false) None old new found got → IsLeaving layout old (record v { at = at.SetOwner }) → IsLeaving layout new (record v { at = at.UnlockFrame })
  owner-cleared made has = record {
    trans = has.trans;
    taken = has.taken;
    handled = has.handled;
    poisoned = has.poisoned;
    hand_is = hand-planned made refl has.hand_is
        ∙ ap (λ (b : Bool). record (with_frame v.frame 0 has.handled has.poisoned v.count (page_held v.page None has.trans has.taken)) { locks = cond b (freed-lock v.frame 0 has.handled has.poisoned) (freed-lock v.frame (v.page.0 + 1) has.handled has.poisoned) ∷ [] }) (same-number v.frame.0 v.frame.0 refl);
    goes = goes-on (inl (ap (λ (x : View). x.sights) made.told.next)) has.goes;
  }

  frame-unlocked : Steps layout v.who (steps.UnlockFrame v.frame) None old new found got → IsLeaving layout old (record v { at = at.UnlockFrame }) → FitsAt layout new (record v { at = at.Release (releases.begin v.who v.frame v.count) }) (at.Release (releases.begin v.who v.frame v.count))
  frame-unlocked made has = record {
    leaving = record {
      trans = has.trans;
      taken = has.taken;
      handled = has.handled;
      poisoned = has.poisoned;
      hand_is = hand;
      goes = goes-on (inl (ap (λ (x : View). x.sights) made.told.next)) has.goes;
    };
    release = record {
      on_turn = on;
      frame = fits.frame;
      at = (
        let some : _ = fits.some in omega (arith, some),
        subst (λ (h : Hand). v.count + locks_on v.frame.0 h.locks ≤ refs_on v.frame.0 h.refs) (sym hand) (let all : _ = refs-are v.frame v.count in let none : locks_on v.frame.0 [] ≡ 0 = refl in omega (arith, all, none)),
        subst (λ (h : Hand). length h.locks < 2) (sym hand) (omega arith),
      );
    };
    own = refl;
    under_way = refl;
  }
    where
      hand : hand_of new ≡ releasing v.frame v.count release_at.Put (page_held v.page None has.trans has.taken)
      hand = hand-planned made refl has.hand_is
          ∙ ap (λ (b : Bool). record (releasing v.frame v.count release_at.Put (page_held v.page None has.trans has.taken)) { locks = cond b [] (record { frame = v.frame; owner = 0; handled = has.handled; poisoned = has.poisoned } ∷ []) }) (same-number v.frame.0 v.frame.0 refl)

  module _ (r : Release) (step : Step) (is : releases.plan r ≡ Some step) (made : Steps layout r.who step None old new found got) (has : IsReleasing layout old (record v { at = at.Release r }) r) where
    -- a frame that is adopted shows its word
    grown : Grown old.sights new.sights
    grown = by r.at is
      where
        by : (x : ReleaseAt) → releases.plan_at r.frame r.count x ≡ Some step → Grown old.sights new.sights
        by release_at.Put e = inl (ap (λ (x : View). x.sights) (steps-planned e made).told.next)
        by (release_at.Give word) e = inl (ap (λ (x : View). x.sights) (steps-planned e made).told.next)
        by (release_at.Unreserve word) e = inl (ap (λ (x : View). x.sights) (steps-planned e made).told.next)
        by (release_at.Adopt word) e = inr (_, ap (λ (x : View). x.sights) (steps-planned e made).told.next)
        by (release_at.Retire word) e = inl (ap (λ (x : View). x.sights) (steps-planned e made).told.next)
        by (release_at.Back word) e = absurd (none-some step e)

    abbrev held : ReleaseAt → Hand
    held x = releasing r.frame r.count x (page_held v.page None has.leaving.trans has.leaving.taken)

    hand-released : hand_of new ≡ held (releases.next_at r.count r.at found)
    hand-released = releasing_laws.held-after r is made has.release (held r.at) has.leaving.hand_is ∙ released r r.at found v.page has.leaving.trans has.leaving.taken has.under_way

    goes-new : GoesToShelf layout v.who new v.page v.body has.leaving.trans has.leaving.taken
    goes-new = goes-on grown has.leaving.goes

    goes-still : (x : ReleaseAt) → hand_of new ≡ held x → releases.Fits layout new (record r { at = x }) → is_none (releases.plan_at r.frame r.count x) ≡ false
        → IsReleasing layout new (record v { at = at.Release (record r { at = x }) }) (record r { at = x })
    goes-still x hand fit on = record {
      leaving = record { trans = has.leaving.trans; taken = has.leaving.taken; handled = has.leaving.handled; poisoned = has.leaving.poisoned; hand_is = hand; goes = goes-new };
      release = fit;
      own = has.own;
      under_way = on;
    }

    release-moved : releases.Fits layout new (releases.next r found) → FitsAt layout new (record v { at = after_release (releases.next r found) }) (after_release (releases.next r found))
    release-moved fit = by (releases.next_at r.count r.at found) hand-released fit
      where
        by : (x : ReleaseAt) → hand_of new ≡ held x → releases.Fits layout new (record r { at = x }) → FitsAt layout new (record v { at = after_release (record r { at = x }) }) (after_release (record r { at = x }))
        by release_at.Put hand fit = goes-still release_at.Put hand fit refl
        by (release_at.Give word) hand fit = goes-still (release_at.Give word) hand fit refl
        by (release_at.Unreserve word) hand fit = goes-still (release_at.Unreserve word) hand fit refl
        by (release_at.Adopt word) hand fit = goes-still (release_at.Adopt word) hand fit refl
        by (release_at.Retire word) hand fit = goes-still (release_at.Retire word) hand fit refl
        by (release_at.Back word) hand fit = record { trans = has.leaving.trans; taken = has.leaving.taken; handled = has.leaving.handled; poisoned = has.leaving.poisoned; hand_is = hand; goes = goes-new }

  page-unlocked : Steps layout v.who (steps.UnlockPage v.page) (logs v.body) old new found got → IsLeaving layout old (record v { at = at.UnlockPage }) → hand_of new ≡ empty
  page-unlocked made has = hand-planned made refl has.hand_is
      ∙ ap (λ (b : Option BodyValue). record (putting (logs b) (page_held v.page None has.trans has.taken)) { pages = without (is_page_lock_of v.page) (page_held v.page None has.trans has.taken).pages }) has.goes.given_is
      ∙ page-freed v.page has.trans has.taken (log_of has.goes.body) has.goes.page_is has.goes.taken_is

-- what follows a step fits again
pub moved : (layout : Layout) (old new : View) (v : Vacate) (step : Step) (found : ℕ) (got : Option BodyValue) → Fits layout old v → plan v ≡ Some step → Steps layout v.who step (logs (put v)) old new found got → Fits layout new (next (bare v) found)
moved layout old new v step found got fits is made = record { on_turn = on; sound = fits.sound; page = fits.page; frame = fits.frame; some = fits.some; room = fits.room; at = which v.at is fits.at made }
  where
    on : IsOnTurn new v.who
    on = on-turn-after fits.on_turn made

    which : (x : VacateAt) → plan_at v.page v.frame x ≡ Some step → FitsAt layout old (record v { at = x }) x → Steps layout v.who step (logs (put_at v.body x)) old new found got
        → FitsAt layout new (record v { body = left_at v.body x; at = next_at v.who v.frame v.count x found }) (next_at v.who v.frame v.count x found)
    which at.SetCache e has made = cache-cleared v fits on (steps-planned e made) has
    which at.SetOwner e has made = owner-cleared v fits on (steps-planned e made) has
    which at.UnlockFrame e has made = frame-unlocked v fits on (steps-planned e made) has
    which (at.Release r) e has made = release-moved v fits on r step e own has (releasing_laws.moved r e own has.release)
      where
        own : Steps layout r.who step None old new found got
        own = subst (λ (w : Who). Steps layout w step None old new found got) (sym has.own) made
    which at.UnlockPage e has made = page-unlocked v fits on (steps-planned e made) has
    which at.Over e has made = absurd (none-some step e)

pub stays : (layout : Layout) (old new : View) (v : Vacate) (step : Step) (found : ℕ) (got : Option BodyValue) → Fits layout old v → plan v ≡ Some step → Steps layout v.who step (logs (put v)) old new found got
    → Unit {0} × ((after : Vacate) (result : Turn) → (after ≡ next (bare v) found) × (result ≡ Moved) → Fits layout new after × (after.who.cpu ≡ v.who.cpu))
stays layout old new v step found got fits is made = (tt, λ after result follows. (subst (Fits layout new) (sym follows.0) (moved layout old new v step found got fits is made), ap (λ (x : Vacate). x.who.cpu) follows.0))
