-- The laws of `Unlock`, and what it leaves held.
use Rattle.std.proofs.Common.{◌≡◌, ℕ, ◌+◌, ◌<◌, ◌≤◌, Bool, true, false, cond, [], ◌∷◌, ◌++◌, Option, Some, None, is_none, length, slice_get, refl, sym, ap, ◌∙◌, subst, arith}
use Rattle.std.proofs.lemmas.Bool.{both_ways}
use Rattle.std.proofs.lemmas.Option.{none-some, same_Some}
use Rattle.hwp_core_rule.specs.hwp_geom.declared.Frame.{Frame}
use Rattle.hwp_core_rule.specs.hwp_geom.declared.Layout.{Layout}
use Rattle.hwp_core_rule.specs.hwp_geom.declared.Page.{Page}
use Rattle.hwp_core_rule.specs.hwp_geom.declared.Who.{Who}
use Rattle.hwp_core_rule.specs.hwp_page.History.{BodyValue}
use Rattle.hwp_core_rule.specs.hwp_words.Frames.{is_poisoned}
use Rattle.hwp_core_rule.specs.declared.FrameLock.{FrameLock}
use Rattle.hwp_core_rule.specs.declared.InHand.{InHand}
use Rattle.hwp_core_rule.specs.declared.Log.{Log}
use Rattle.hwp_core_rule.specs.declared.Step.{Step}
use Rattle.hwp_core_rule.specs.declared.Step.TheVariants as steps
use Rattle.hwp_core_rule.specs.declared.View.{View}
use Rattle.hwp_core_rule.specs.Asks.{CanUnlockFrame}
use Rattle.hwp_core_rule.specs.Lasting.{IsMild}
use Rattle.hwp_core_rule.specs.Steps.{is_last}
use Rattle.hwp_core_rule.specs.Views.{without, is_lock_of, less_refs, refs_on, locks_on}
use Rattle.hwp_core_rule.specs.Words.{Words}
use Rattle.hwp_core_rule.proofs.Lists.{same-number}
use Rattle.hwp_core_rule.specs.declared.Turn.{Turn}
use Rattle.hwp_core_rule.specs.declared.Turn.TheVariants.{Moved}
use Rattle.hwp_core_rule.specs.Calls.{CanMake, FitsLayout, Steps, IsOnTurn, logs}
use Rattle.hwp_core_rule.specs.Hands.{Hand, hand_of, empty, putting}
use Rattle.hwp_core_rule.specs.Ranks.{IsRanked, is_waits, words_at}
use Rattle.hwp_core_rule.proofs.tasks.StepRanks.{rank-of}
use Rattle.hwp_core_rule.proofs.tasks.StepLeaves.{on-turn-after, hand-planned, steps-planned, can-put}
use Rattle.hwp_core.specs.declared.release.Release.{Release}
use Rattle.hwp_core.specs.declared.release.ReleaseAt.{ReleaseAt}
use Rattle.hwp_core.specs.declared.release.ReleaseAt.TheVariants as release_at
use Rattle.hwp_core.specs.declared.unlock.Unlock.{Unlock}
use Rattle.hwp_core.specs.declared.unlock.UnlockAt.{UnlockAt}
use Rattle.hwp_core.specs.declared.unlock.UnlockAt.TheVariants as at
use Rattle.hwp_core.specs.Holds.{one_ref}
use Rattle.hwp_core.specs.Releases as releases
use Rattle.hwp_core.specs.Unlocks.{holding, HoldsFrame, releasing, IsReleasing, plan, plan_at, put, put_at, bare, bare_at, after_release, next, next_at, empty_frame, HoldsEmptyFrame, FitsFrame, Fits, FitsAt, class, class_at, cost, cost_at, task as unlock-task}
use Rattle.hwp_core.proofs.TaskCosts.{release-falls, release-small, release-class, release-mild}
use Rattle.hwp_core.proofs.ReleaseLaws as releasing_laws

-- ---- what is held after each step

frame-freed : (frame : Frame) (page : Page) (taken : InHand) (log : Log) (handled poisoned : Bool) → log.page ≡ page → taken.log.page ≡ page
    → record (putting (Some log) (holding frame page taken handled poisoned)) { locks = without (is_lock_of frame) (holding frame page taken handled poisoned).locks } ≡ releasing frame release_at.Put
frame-freed frame page taken log handled poisoned of_log of_taken = grind arith

released : (r : Release) (x : ReleaseAt) (found : ℕ) → r.count ≡ 1 → is_none (releases.plan_at r.frame r.count x) ≡ false
    → releases.hand_next_at r.frame r.count x found (releasing r.frame x) ≡ releasing r.frame (releases.next_at r.count x found)
released r release_at.Put found one on = by (is_last r.count found) (is_poisoned found)
  where
    by : (b p : Bool) → record (releasing r.frame release_at.Put) { refs = less_refs r.frame r.count (one_ref r.frame); hands = cond b ([] ++ (record { frame = r.frame; poisoned = p }) ∷ []) [] }
        ≡ releasing r.frame (cond b (cond p (release_at.Adopt found) (release_at.Give found)) (release_at.Back found))
    by true true = grind arith
    by true false = grind arith
    by false p = grind arith
released r (release_at.Give word) found one on = grind arith
released r (release_at.Unreserve word) found one on = grind arith
released r (release_at.Adopt word) found one on = grind arith
released r (release_at.Retire word) found one on = grind arith
released r (release_at.Back word) found one on = absurd (both_ways true on refl)

counted : (frame : Frame) → 1 + locks_on frame.0 [] ≤ refs_on frame.0 (one_ref frame)
counted frame = let same = same-number frame.0 frame.0 refl in grind arith

-- ---- the steps can be made

module _ {layout : Layout} {who : Who} {view : View} {frame : Frame} {body : Option BodyValue} (has : HoldsFrame layout who view frame body) where
  can-free : CanUnlockFrame layout who view frame (logs body)
  can-free = subst (λ (b : Option BodyValue). CanUnlockFrame layout who view frame (logs b)) (sym has.given_is) (record {
    has = record { lock = lock; listed = (0, lock, ap (λ (h : Hand). slice_get h.locks 0) has.hand_is, refl); frame_is = refl };
    named = refl;
    cached = λ other listed owner. absurd (none-some other (sym (ap (λ (h : Hand). slice_get h.pages 0) has.hand_is) ∙ listed));
    put = has.home;
  })
    where
      lock : FrameLock
      lock = record { frame = frame; owner = has.body.page.0 + 1; handled = has.handled; poisoned = has.poisoned }

  body-fits : FitsLayout layout body
  body-fits b is = ap (λ (x : BodyValue). x.layout) (same_Some b has.body (sym is ∙ has.given_is)) ∙ has.layout_is

can-free-empty : {layout : Layout} {who : Who} {view : View} {frame : Frame} → HoldsEmptyFrame layout view frame → CanUnlockFrame layout who view frame None
can-free-empty {layout} {who} {view} {frame} has = record {
  has = record { lock = lock; listed = (0, lock, ap (λ (h : Hand). slice_get h.locks 0) has.hand_is, refl); frame_is = refl };
  named = refl;
  cached = λ other listed owner. absurd (none-some other (sym (ap (λ (h : Hand). slice_get h.pages 0) has.hand_is) ∙ listed));
  put = tt;
}
  where
    lock : FrameLock
    lock = record { frame = frame; owner = 0; handled = has.handled; poisoned = has.poisoned }

pub can : (layout : Layout) (view : View) (u : Unlock) (step : Step) → Fits layout view u → plan u ≡ Some step → CanMake layout u.who step (put u) view
can layout view u step fits is = which u.at fits.at is
  where
    which : (x : UnlockAt) → FitsAt layout view u.who x → plan_at x ≡ Some step → CanMake layout u.who step (put_at x) view
    which (at.UnlockFrame frame None) has e = can-put fits.on_turn e has.within (can-free-empty has) (λ b none. absurd (none-some b none)) tt
    which (at.UnlockFrame frame (Some body)) has e = can-put fits.on_turn e has.within (can-free has) (body-fits has) tt
    which (at.Release r) has e = subst (λ (w : Who). CanMake layout w step None view) has.own (releasing_laws.can layout view r step has.release e)
    which at.Over has e = absurd (none-some step e)

-- ---- what follows fits

empty-freed : (frame : Frame) (handled poisoned : Bool) → record (empty_frame frame handled poisoned) { locks = without (is_lock_of frame) (empty_frame frame handled poisoned).locks } ≡ releasing frame release_at.Put
empty-freed frame handled poisoned = grind arith

module _ (layout : Layout) (old new : View) (who : Who) (found : ℕ) (got : Option BodyValue) where
  -- once the frame is unlocked, one reference to it is left
  unlocked : (frame : Frame) → IsOnTurn new who → frame.0 < layout.frames → hand_of new ≡ releasing frame release_at.Put → FitsAt layout new who (at.Release (releases.begin who frame 1))
  unlocked frame on within hand = record {
    hand_is = hand;
    release = record { on_turn = on; frame = within; at = (omega arith, subst (λ (h : Hand). 1 + locks_on frame.0 h.locks ≤ refs_on frame.0 h.refs) (sym hand) (counted frame), subst (λ (h : Hand). length h.locks < 2) (sym hand) (omega arith)) };
    own = refl;
    count = refl;
    under_way = refl;
  }

  frame-let-go : (frame : Frame) (body : Option BodyValue) → IsOnTurn new who → FitsFrame layout old who frame body → Steps layout who (steps.UnlockFrame frame) (logs body) old new found got
      → FitsAt layout new who (at.Release (releases.begin who frame 1))
  frame-let-go frame None on has made = unlocked frame on has.within (hand-planned made refl has.hand_is ∙ empty-freed frame has.handled has.poisoned)
  frame-let-go frame (Some body) on has made = unlocked frame on has.within (hand-planned made refl has.hand_is
      ∙ ap (λ (c : Option Log). record (putting c (holding frame has.body.page has.taken has.handled has.poisoned)) { locks = without (is_lock_of frame) (holding frame has.body.page has.taken has.handled has.poisoned).locks }) (ap logs has.given_is)
      ∙ frame-freed frame has.body.page has.taken _ has.handled has.poisoned refl has.taken_is)

  release-moved : (r : Release) (step : Step) → IsReleasing layout old who r → releases.plan r ≡ Some step → (made : Steps layout r.who step None old new found got) → releases.Fits layout new (releases.next r found)
      → FitsAt layout new who (after_release (releases.next r found))
  release-moved r step has is made fits = which (releases.next_at r.count r.at found) (releasing_laws.held-after r is made has.release (releasing r.frame r.at) has.hand_is ∙ released r r.at found has.count has.under_way) fits
    where
      which : (x : ReleaseAt) → hand_of new ≡ releasing r.frame x → releases.Fits layout new (record r { at = x }) → FitsAt layout new who (after_release (record r { at = x }))
      which release_at.Put hand fits = record { hand_is = hand; release = fits; own = has.own; count = has.count; under_way = refl }
      which (release_at.Give word) hand fits = record { hand_is = hand; release = fits; own = has.own; count = has.count; under_way = refl }
      which (release_at.Unreserve word) hand fits = record { hand_is = hand; release = fits; own = has.own; count = has.count; under_way = refl }
      which (release_at.Adopt word) hand fits = record { hand_is = hand; release = fits; own = has.own; count = has.count; under_way = refl }
      which (release_at.Retire word) hand fits = record { hand_is = hand; release = fits; own = has.own; count = has.count; under_way = refl }
      which (release_at.Back word) hand fits = hand

-- what follows a step fits again
pub moved : (layout : Layout) (old new : View) (u : Unlock) (step : Step) (found : ℕ) (got : Option BodyValue) → Fits layout old u → plan u ≡ Some step → Steps layout u.who step (logs (put u)) old new found got → Fits layout new (next (bare u) found)
moved layout old new u step found got fits is made = record { on_turn = on; at = which u.at is fits.at made }
  where
    on : IsOnTurn new u.who
    on = on-turn-after fits.on_turn made

    which : (x : UnlockAt) → plan_at x ≡ Some step → FitsAt layout old u.who x → Steps layout u.who step (logs (put_at x)) old new found got → FitsAt layout new u.who (next_at u.who (bare_at x) found)
    which (at.UnlockFrame frame body) e has made = frame-let-go layout old new u.who found got frame body on has (steps-planned e made)
    which (at.Release r) e has made = release-moved layout old new u.who found got r step has e own (releasing_laws.moved r e own has.release)
      where
        own : Steps layout r.who step None old new found got
        own = subst (λ (w : Who). Steps layout w step None old new found got) (sym has.own) made
    which at.Over e has made = absurd (none-some step e)

pub stays : (layout : Layout) (old new : View) (u : Unlock) (step : Step) (found : ℕ) (got : Option BodyValue) → Fits layout old u → plan u ≡ Some step → Steps layout u.who step (logs (put u)) old new found got
    → Unit {0} × ((after : Unlock) (result : Turn) → (after ≡ next (bare u) found) × (result ≡ Moved) → Fits layout new after × (after.who.cpu ≡ u.who.cpu))
stays layout old new u step found got fits is made =
    (tt, λ after result follows. (subst (Fits layout new) (sym follows.0) (moved layout old new u step found got fits is made), ap (λ (x : Unlock). x.who.cpu) follows.0))

-- when the frame is let go, nothing is held
pub let-go : (layout : Layout) (view : View) (u : Unlock) → Fits layout view u → is_none (plan u) ≡ true → hand_of view ≡ empty
let-go layout view u fits over = which u.at fits.at over
  where
    which : (x : UnlockAt) → FitsAt layout view u.who x → is_none (plan_at x) ≡ true → hand_of view ≡ empty
    which (at.UnlockFrame frame body) has over = absurd (both_ways true (sym over) refl)
    which (at.Release r) has over = absurd (both_ways (is_none (releases.plan r)) has.under_way over)
    which at.Over has over = has

-- ---- the rank

released-cost : (r : Release) (w : Words) → cost_at (after_release r) w ≡ releases.cost r w
released-cost r w = which r.at
  where
    which : (x : ReleaseAt) → cost_at (after_release (record r { at = x })) w ≡ releases.cost_at x
    which release_at.Put = refl
    which (release_at.Give word) = refl
    which (release_at.Unreserve word) = refl
    which (release_at.Adopt word) = refl
    which (release_at.Retire word) = refl
    which (release_at.Back word) = refl

pub unlock-falls : (w now : Words) (u : Unlock) (step : Step) (found : ℕ) → plan u ≡ Some step → cost (next (bare u) found) now < cost u w
unlock-falls w now u step found is = which u.at is
  where
    which : (x : UnlockAt) → plan_at x ≡ Some step → cost_at (next_at u.who (bare_at x) found) now < cost_at x w
    which (at.UnlockFrame frame body) e = omega arith
    which (at.Release r) e =
        let less : releases.cost (releases.next r found) now < releases.cost r w = release-falls w now r step found e in
        let same : cost_at (after_release (releases.next r found)) now ≡ releases.cost (releases.next r found) now = released-cost (releases.next r found) now in
        omega arith
    which at.Over e = absurd (none-some step e)

pub unlock-small : (w : Words) (u : Unlock) → cost u w ≤ 4
unlock-small w u = which u.at
  where
    which : (x : UnlockAt) → cost_at x w ≤ 4
    which (at.UnlockFrame frame body) = omega arith
    which (at.Release r) = let most : releases.cost r w ≤ 3 = release-small w r in omega arith
    which at.Over = omega arith

pub unlock-class : (u : Unlock) → (1 ≤ class u) × (class u ≤ 4)
unlock-class u = which u.at
  where
    which : (x : UnlockAt) → (1 ≤ class_at x) × (class_at x ≤ 4)
    which (at.UnlockFrame frame body) = (omega arith, omega arith)
    which (at.Release r) = release-class r
    which at.Over = (omega arith, omega arith)

-- none of its steps poisons a frame or takes its poison back
pub mild : (s : Unlock) (step : Step) → plan s ≡ Some step → IsMild step
mild s step is = which s.at is
  where
    which : (x : UnlockAt) → plan_at x ≡ Some step → IsMild step
    which (at.UnlockFrame frame body) e = subst IsMild (same_Some (steps.UnlockFrame frame) step e) tt
    which (at.Release r) e = release-mild r step e
    which at.Over e = absurd (none-some step e)

pub unlock-ranked : IsRanked unlock-task
unlock-ranked = rank-of unlock-task (λ s. refl) unlock-class (λ layout a seat s rule fits. let few : cost s (words_at layout a) ≤ 4 = unlock-small (words_at layout a) s in omega arith)
    (λ layout seat a b s t turn made goes. subst (λ (x : Unlock). cost x (words_at layout b) < cost s (words_at layout a)) (sym made.follows.0)
    (unlock-falls (words_at layout a) (words_at layout b) s made.step made.found made.planned))
    (λ layout seat a b s t turn made is quiet. absurd (both_ways true (sym is ∙ ap is_waits made.follows.1) refl))
    (λ s. refl) mild
