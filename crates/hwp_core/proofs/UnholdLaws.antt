-- The laws of `Unhold`.
use Rattle.std.proofs.Common.{◌≡◌, ◌≢◌, length, ℕ, ◌+◌, ◌-◌, ◌<◌, ◌≤◌, ◌==◌, nat_le, Bool, true, false, cond, List, [], ◌∷◌, ◌++◌, Option, Some, None, is_none, slice_get, refl, sym, ap, ◌∙◌, subst, arith}
use Rattle.std.proofs.lemmas.Bool.{both_ways, le-leb}
use Rattle.std.proofs.lemmas.Option.{none-some, same_Some}
use Rattle.hwp_core_rule.specs.hwp_geom.declared.Frame.{Frame}
use Rattle.hwp_core_rule.specs.hwp_geom.declared.Layout.{Layout}
use Rattle.hwp_core_rule.specs.hwp_geom.declared.Page.{Page}
use Rattle.hwp_core_rule.specs.hwp_geom.declared.Who.{Who}
use Rattle.hwp_core_rule.specs.hwp_page.History.{BodyValue}
use Rattle.hwp_core_rule.specs.hwp_words.Frames.{is_poisoned}
use Rattle.hwp_core_rule.specs.declared.FrameLock.{FrameLock}
use Rattle.hwp_core_rule.specs.declared.InHand.{InHand}
use Rattle.hwp_core_rule.specs.declared.Log.{Log}
use Rattle.hwp_core_rule.specs.declared.PageLock.{PageLock}
use Rattle.hwp_core_rule.specs.declared.Ref.{Ref}
use Rattle.hwp_core_rule.specs.declared.Step.{Step}
use Rattle.hwp_core_rule.specs.declared.Step.TheVariants as steps
use Rattle.hwp_core_rule.specs.declared.View.{View}
use Rattle.hwp_core_rule.specs.Lists.{EachMember}
use Rattle.hwp_core_rule.specs.Asks.{CanUnlockFrame, CanUnlockPage}
use Rattle.hwp_core_rule.specs.Steps.{is_last}
use Rattle.hwp_core_rule.specs.Views.{without, is_lock_of, is_page_lock_of, is_body_of, hand_found, less_refs, refs_on, locks_on}
use Rattle.std.specs.List.{find}
use Rattle.hwp_core_rule.proofs.Lists.{same-number}
use Rattle.hwp_core_rule.proofs.Refs.{refs-cons}
use Rattle.hwp_core_rule.specs.declared.Turn.{Turn}
use Rattle.hwp_core_rule.specs.declared.Turn.TheVariants.{Moved}
use Rattle.hwp_core_rule.specs.Logs.{log_of}
use Rattle.hwp_core.specs.declared.release.Release.{Release}
use Rattle.hwp_core.specs.declared.release.ReleaseAt.{ReleaseAt}
use Rattle.hwp_core.specs.declared.release.ReleaseAt.TheVariants as release_at
use Rattle.hwp_core.specs.declared.unhold.Unhold.{Unhold}
use Rattle.hwp_core.specs.declared.unhold.UnholdAt.{UnholdAt}
use Rattle.hwp_core.specs.declared.unhold.UnholdAt.TheVariants as at
use Rattle.hwp_core_rule.specs.Calls.{CanMake, Steps, IsOnTurn, logs}
use Rattle.hwp_core_rule.specs.Hands.{Hand, hand_of, empty, putting}
use Rattle.hwp_core.specs.Holds.{page_lock, named, refs_to}
use Rattle.hwp_core.specs.Releases as releases
use Rattle.hwp_core.specs.Unholds.{plan, plan_at, put, put_at, bare, bare_at, next, next_at, after_release, holding, HoldsAhead, releasing, IsReleasing, FitsPage, Fits, FitsAt}
use Rattle.hwp_core.proofs.ReleaseLaws as releasing-laws
use Rattle.hwp_core_rule.proofs.tasks.StepLeaves.{on-turn-after, hand-planned, steps-planned, can-put}

-- ---- what is held after each step

frame-freed : (page : Page) (frame : Frame) (count : ℕ) (trans : List ℕ) (taken : InHand) (log : Log) (handled poisoned : Bool) → log.page ≡ page → taken.log.page ≡ page
    → record (putting (Some log) (holding page (Some frame) count trans taken handled poisoned)) { locks = without (is_lock_of frame) (holding page (Some frame) count trans taken handled poisoned).locks } ≡ named page frame (refs_to frame count)
frame-freed page frame count trans taken log handled poisoned of_log of_taken = grind arith

page-freed : (page : Page) (trans : List ℕ) (taken : InHand) (log : Log) → log.page ≡ page → taken.log.page ≡ page
    → record (putting (Some log) (holding page None 1 trans taken false false)) { pages = without (is_page_lock_of page) (holding page None 1 trans taken false false).pages } ≡ empty
page-freed page trans taken log of_log of_taken = grind arith

emptied-freed : (page : Page) (frame : Frame) → record (named page frame []) { pages = without (is_page_lock_of page) (named page frame []).pages } ≡ empty
emptied-freed page frame = grind arith

-- all references to a frame given back
none-left : (frame : Frame) (count : ℕ) → less_refs frame count (refs_to frame count) ≡ []
none-left frame count =
    ap (λ (b : Bool). cond b (cond (nat_le count count) [] (record { frame = frame; count = count - count } ∷ [])) (record { frame = frame; count = count } ∷ [])) (same-number frame.0 frame.0 refl)
    ∙ ap (λ (b : Bool). cond b [] (record { frame = frame; count = count - count } ∷ [])) (le-leb count count (omega arith))

released : (page : Page) (r : Release) (x : ReleaseAt) (found : ℕ) → is_none (releases.plan_at r.frame r.count x) ≡ false
    → releases.hand_next_at r.frame r.count x found (releasing page r.frame r.count x) ≡ releasing page r.frame r.count (releases.next_at r.count x found)
released page r release_at.Put found on = ap (λ (l : List Ref). record (named page r.frame l) { hands = cond (is_last r.count found) ([] ++ hand_found r.frame found ∷ []) [] }) (none-left r.frame r.count) ∙ by (is_last r.count found) (is_poisoned found)
  where
    by : (b p : Bool) → record (named page r.frame []) { hands = cond b ([] ++ (record { frame = r.frame; poisoned = p }) ∷ []) [] } ≡ releasing page r.frame r.count (cond b (cond p (release_at.Adopt found) (release_at.Give found)) (release_at.Back found))
    by true true = refl
    by true false = refl
    by false p = refl
released page r (release_at.Give word) found on = grind arith
released page r (release_at.Unreserve word) found on = grind arith
released page r (release_at.Adopt word) found on = grind arith
released page r (release_at.Retire word) found on = grind arith
released page r (release_at.Back word) found on = absurd (both_ways true on refl)

-- so many references to a frame, and no other
pub refs-are : (frame : Frame) (count : ℕ) → refs_on frame.0 (refs_to frame count) ≡ count
refs-are frame count =
    let all : refs_on frame.0 (refs_to frame count) ≡ cond {A = ℕ} (frame.0 == frame.0) count 0 + refs_on frame.0 [] = refs-cons frame.0 (record { frame = frame; count = count }) [] in
    let this : cond {A = ℕ} (frame.0 == frame.0) count 0 ≡ count = ap (λ (b : Bool). cond {A = ℕ} b count 0) (same-number frame.0 frame.0 refl) in
    let none : refs_on frame.0 [] ≡ 0 = refl in
    omega (arith, all, this, none)

-- ---- the steps can be made

module _ {layout : Layout} {who : Who} {view : View} {page : Page} where
  can-free-frame : (frame : Frame) (count : ℕ) (body : Option BodyValue) → HoldsAhead layout who view page (Some frame) count body → CanUnlockFrame layout who view frame (logs body)
  can-free-frame frame count body has = subst (λ (b : Option BodyValue). CanUnlockFrame layout who view frame (logs b)) (sym has.given_is) (record {
    has = record { lock = lock; listed = (0, lock, ap (λ (h : Hand). slice_get h.locks 0) has.hand_is, refl); frame_is = refl };
    named = ap (λ (p : Page). p.0 + 1) has.page_is;
    cached = λ other listed owner. ap (λ (l : PageLock). l.cache) (same_Some other (page_lock page (Some frame) (Some has.trans)) (sym listed ∙ ap (λ (h : Hand). slice_get h.pages 0) has.hand_is));
    put = has.home;
  })
    where
      lock : FrameLock
      lock = record { frame = frame; owner = page.0 + 1; handled = has.handled; poisoned = has.poisoned }

  can-free-page : (body : Option BodyValue) → FitsPage layout who view page body → CanUnlockPage layout who view page (logs body)
  can-free-page None has = record {
    has = record { lock = page_lock page (Some has.frame) None; listed = ap (λ (h : Hand). slice_get h.pages 0) has.hand_is; page_is = refl };
    named = refl;
    put_away = λ none. ap (λ (h : Hand). find (is_body_of page) h.bodies) has.hand_is;
    no_frame = subst (λ (h : Hand). EachMember (λ (l : FrameLock). l.owner ≢ page.0 + 1) h.locks) (sym has.hand_is) (λ i x e. absurd (none-some x e));
    put = tt;
  }
  can-free-page (Some given) has = subst (λ (b : BodyValue). CanUnlockPage layout who view page (Some (log_of b))) (sym (same_Some given has.body has.given_is)) (record {
    has = record { lock = page_lock page None (Some has.trans); listed = ap (λ (h : Hand). slice_get h.pages 0) has.hand_is; page_is = refl };
    named = ap (λ (p : Page). p.0 + 1) has.page_is;
    put_away = λ none. absurd (none-some (log_of has.body) (sym none));
    no_frame = subst (λ (h : Hand). EachMember (λ (l : FrameLock). l.owner ≢ page.0 + 1) h.locks) (sym has.hand_is) (λ i x e. absurd (none-some x e));
    put = has.home;
  })

body-fits : (layout : Layout) (who : Who) (view : View) (page : Page) (frame : Option Frame) (count : ℕ) (body : Option BodyValue) → HoldsAhead layout who view page frame count body → (b : BodyValue) → body ≡ Some b → b.layout ≡ layout
body-fits layout who view page frame count body has b is = ap (λ (x : BodyValue). x.layout) (same_Some b has.body (sym is ∙ has.given_is)) ∙ has.layout_is

page-fits : (layout : Layout) (who : Who) (view : View) (page : Page) (body : Option BodyValue) → FitsPage layout who view page body → (b : BodyValue) → body ≡ Some b → b.layout ≡ layout
page-fits layout who view page None has b is = absurd (none-some b is)
page-fits layout who view page (Some given) has b is = body-fits layout who view page None 1 (Some given) has b is

pub can : (layout : Layout) (view : View) (u : Unhold) (step : Step) → Fits layout view u → plan u ≡ Some step → CanMake layout u.who step (put u) view
can layout view u step fits is = which u.at fits.at is
  where
    which : (x : UnholdAt) → FitsAt layout view u.who u.page x → plan_at u.page x ≡ Some step → CanMake layout u.who step (put_at x) view
    which (at.UnlockFrame frame count body) at e = can-put fits.on_turn e at.1.1 (can-free-frame frame count body at.0) (body-fits layout u.who view u.page (Some frame) count body at.0) tt
    which (at.Release r) at e = subst (λ (w : Who). CanMake layout w step None view) at.own (releasing-laws.can layout view r step at.release e)
    which (at.UnlockPage body) at e = can-put fits.on_turn e fits.page (can-free-page body at) (page-fits layout u.who view u.page body at) tt
    which at.Over at e = absurd (none-some step e)

-- ---- what follows fits

module _ (layout : Layout) (old new : View) (who : Who) (page : Page) (found : ℕ) (got : Option BodyValue) (on : IsOnTurn new who) where
  frame-let-go : (frame : Frame) (count : ℕ) (body : Option BodyValue) → HoldsAhead layout who old page (Some frame) count body → 0 < count → frame.0 < layout.frames → Steps layout who (steps.UnlockFrame frame) (logs body) old new found got
      → FitsAt layout new who page (at.Release (releases.begin who frame count))
  frame-let-go frame count body has some inside made = record {
    hand_is = hand;
    release = record {
      on_turn = on;
      frame = inside;
      at = (
        some,
        subst (λ (h : Hand). count + locks_on frame.0 h.locks ≤ refs_on frame.0 h.refs) (sym hand) (let all : refs_on frame.0 (refs_to frame count) ≡ count = refs-are frame count in let none : locks_on frame.0 [] ≡ 0 = refl in omega (arith, all, none)),
        subst (λ (h : Hand). length h.locks < 2) (sym hand) (omega arith),
      );
    };
    own = refl;
    under_way = refl;
  }
    where
      hand : hand_of new ≡ named page frame (refs_to frame count)
      hand = hand-planned made refl has.hand_is
          ∙ ap (λ (c : Option Log). record (putting c (holding page (Some frame) count has.trans has.taken has.handled has.poisoned)) { locks = without (is_lock_of frame) (holding page (Some frame) count has.trans has.taken has.handled has.poisoned).locks }) (ap logs has.given_is)
          ∙ frame-freed page frame count has.trans has.taken (log_of has.body) has.handled has.poisoned has.page_is has.taken_is

  page-let-go : (body : Option BodyValue) → FitsPage layout who old page body → Steps layout who (steps.UnlockPage page) (logs body) old new found got → hand_of new ≡ empty
  page-let-go None has made = hand-planned made refl has.hand_is ∙ emptied-freed page has.frame
  page-let-go (Some given) has made = hand-planned made refl has.hand_is
      ∙ ap (λ (c : Option Log). record (putting c (holding page None 1 has.trans has.taken false false)) { pages = without (is_page_lock_of page) (holding page None 1 has.trans has.taken false false).pages }) (ap logs has.given_is)
      ∙ page-freed page has.trans has.taken (log_of has.body) has.page_is has.taken_is

  release-moved : (r : Release) (step : Step) → IsReleasing layout old who page r → releases.plan r ≡ Some step → (made : Steps layout r.who step None old new found got)
      → releases.Fits layout new (releases.next r found) → FitsAt layout new who page (after_release (releases.next r found))
  release-moved r step has is made fits = which (releases.next_at r.count r.at found) (releasing-laws.held-after r is made has.release (releasing page r.frame r.count r.at) has.hand_is ∙ released page r r.at found has.under_way) fits
    where
      which : (x : ReleaseAt) → hand_of new ≡ releasing page r.frame r.count x → releases.Fits layout new (record r { at = x }) → FitsAt layout new who page (after_release (record r { at = x }))
      which release_at.Put hand fits = record { hand_is = hand; release = fits; own = has.own; under_way = refl }
      which (release_at.Give word) hand fits = record { hand_is = hand; release = fits; own = has.own; under_way = refl }
      which (release_at.Unreserve word) hand fits = record { hand_is = hand; release = fits; own = has.own; under_way = refl }
      which (release_at.Adopt word) hand fits = record { hand_is = hand; release = fits; own = has.own; under_way = refl }
      which (release_at.Retire word) hand fits = record { hand_is = hand; release = fits; own = has.own; under_way = refl }
      which (release_at.Back word) hand fits = record { frame = r.frame; hand_is = hand }

-- what follows a step fits again
pub moved : (layout : Layout) (old new : View) (u : Unhold) (step : Step) (found : ℕ) (got : Option BodyValue) → Fits layout old u → plan u ≡ Some step → Steps layout u.who step (logs (put u)) old new found got → Fits layout new (next (bare u) found)
moved layout old new u step found got fits is made = record { on_turn = on; page = fits.page; at = which u.at is fits.at made }
  where
    on : IsOnTurn new u.who
    on = on-turn-after fits.on_turn made

    which : (x : UnholdAt) → plan_at u.page x ≡ Some step → FitsAt layout old u.who u.page x → Steps layout u.who step (logs (put_at x)) old new found got → FitsAt layout new u.who u.page (next_at u.who (bare_at x) found)
    which (at.UnlockFrame frame count body) e at made = frame-let-go layout old new u.who u.page found got on frame count body at.0 at.1.0 at.1.1 (steps-planned e made)
    which (at.Release r) e at made = release-moved layout old new u.who u.page found got on r step at e own (releasing-laws.moved r e own at.release)
      where
        own : Steps layout r.who step None old new found got
        own = subst (λ (w : Who). Steps layout w step None old new found got) (sym at.own) made
    which (at.UnlockPage body) e at made = page-let-go layout old new u.who u.page found got on body at (steps-planned e made)
    which at.Over e at made = absurd (none-some step e)

pub stays : (layout : Layout) (old new : View) (u : Unhold) (step : Step) (found : ℕ) (got : Option BodyValue) → Fits layout old u → plan u ≡ Some step
    → Steps layout u.who step (logs (put u)) old new found got → Unit {0} × ((after : Unhold) (result : Turn) → (after ≡ next (bare u) found) × (result ≡ Moved) → Fits layout new after × (after.who.cpu ≡ u.who.cpu))
stays layout old new u step found got fits is made = (tt, λ after result follows. (subst (Fits layout new) (sym follows.0) (moved layout old new u step found got fits is made), ap (λ (x : Unhold). x.who.cpu) follows.0))
