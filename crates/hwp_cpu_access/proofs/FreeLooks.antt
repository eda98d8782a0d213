-- The freeing of a translation takes its page's history with all that its command made in it before.
use Rattle.std.proofs.Common.{◌≡◌, inl, inr, ℕ, suc, ◌<◌, Bool, true, false, cond, List, [], ◌∷◌, ◌++◌, Option, Some, None, is_none, length, refl, sym, ap, subst}
use Rattle.std.proofs.lemmas.Bool.{both_ways}
use Rattle.std.proofs.lemmas.Option.{none-some}
use Rattle.hwp_fault.specs.hwp_geom.declared.Frame.{Frame}
use Rattle.hwp_fault.specs.hwp_geom.declared.Layout.{Layout}
use Rattle.hwp_fault.specs.hwp_geom.declared.Page.{Page}
use Rattle.hwp_fault.specs.hwp_geom.declared.VSlot.{VSlot}
use Rattle.hwp_fault.specs.hwp_geom.declared.Who.{Who}
use Rattle.hwp_fault.specs.hwp_page.History.{BodyValue}
use Rattle.hwp_fault.specs.hwp_core_rule.declared.Made.{Made}
use Rattle.hwp_fault.specs.hwp_core_rule.declared.Step.{Step}
use Rattle.hwp_fault.specs.hwp_core_rule.declared.Step.TheVariants as steps
use Rattle.hwp_fault.specs.hwp_core_rule.declared.View.{View}
use Rattle.hwp_fault.specs.hwp_core_rule.Lists.{EachMember}
use Rattle.hwp_fault.specs.hwp_core_rule.Logs.{log_of}
use Rattle.hwp_fault.specs.hwp_core_rule.SlotMoves.{IsIn, frame_slot, is_out, moved_out, shelf_slot}
use Rattle.hwp_fault.specs.hwp_core_rule.Views.{frame_in}
use Rattle.hwp_fault.specs.hwp_core_rule.declared.Turn.{Turn}
use Rattle.hwp_fault.specs.hwp_core_rule.Calls.{Steps, logs}
use Rattle.hwp_fault.specs.hwp_core_rule.Known.{HasMadeNoneBeside, is_by}
use Rattle.hwp_fault.proofs.of_hwp_core_rule.tasks.MadeEntries.{each-filter}
use Rattle.hwp_fault.proofs.of_hwp_core_rule.tasks.StepLeaves.{brought, content_of, steps-planned, was-home}
use Rattle.hwp_fault.specs.hwp_core.declared.hold.Hold.{Hold}
use Rattle.hwp_fault.specs.hwp_core.declared.hold.HoldAt.{HoldAt}
use Rattle.hwp_fault.specs.hwp_core.declared.hold.HoldAt.TheVariants as hold_at
use Rattle.hwp_fault.specs.hwp_core.declared.pin.Pin.{Pin}
use Rattle.hwp_fault.specs.hwp_core.declared.pin.PinAt.{PinAt}
use Rattle.hwp_fault.specs.hwp_core.declared.pin.PinAt.TheVariants as pin_at
use Rattle.hwp_fault.specs.hwp_core.Holds as holds
use Rattle.hwp_fault.specs.hwp_core.Holds.{is_free}
use Rattle.hwp_fault.specs.hwp_core.Pins as pins
use Rattle.hwp_fault.specs.hwp_core.Unholds as unholds
use Rattle.hwp_fault.proofs.of_hwp_core.HoldLaws as holding
use Rattle.hwp_fault.specs.hwp_evict.declared.evict.Evict.{Evict}
use Rattle.hwp_fault.specs.hwp_evict.declared.evict.EvictAnswer.TheVariants as answers
use Rattle.hwp_fault.specs.hwp_evict.declared.evict.EvictAt.{EvictAt}
use Rattle.hwp_fault.specs.hwp_evict.declared.evict.EvictAt.TheVariants as at
use Rattle.hwp_fault.specs.hwp_evict.declared.evict.Eviction.{Eviction}
use Rattle.hwp_fault.specs.hwp_evict.declared.evict.Eviction.TheVariants as evictions
use Rattle.hwp_fault.specs.hwp_evict.Evictions.{copies}
use Rattle.hwp_fault.specs.hwp_evict.Evicts.{AfterHeld, AfterHoldAt, FitsAt, FitsFrom, FollowsAt, bare_at, plan, plan_at, put, put_at}
use Rattle.hwp_fault.specs.hwp_core.Vacates as vacates
use Rattle.hwp_fault.specs.hwp_words.Stops.{is_stopped}
use Rattle.hwp_cpu_access.specs.Looks.{HasInBody, HasInHold, HasInView, StandBefore}
use Rattle.hwp_cpu_access.proofs.HomePlaces.{stands-before}

-- what each of two lists' members is, those of the second are
each-behind : {A : Type 0} (P : A → Type 0) (front l : List A) → EachMember P (front ++ l) → EachMember P l
each-behind P [] l each = each
each-behind P (x ∷ xs) l each = each-behind P xs l (λ i y there. each (suc i) y there)

-- ---- a lock that was free brings the history

-- each entry that the view lists of the body's page is one of its history
abbrev Stand : View → BodyValue → Type 0
Stand view b = EachMember (λ (m : Made). m.page ≡ b.page → m.place < length b.log) view.made

module _ {layout : Layout} {who : Who} {old new : View} {found : ℕ} {b : BodyValue} where
  -- from the page's shelf
  shelf-stands : {page : Page} → Steps layout who (steps.LockPage page) None old new found (Some b) → is_free found ≡ true → b.page.0 < length layout.pages → Stand old b
  shelf-stands {page} made free within = stands-before layout made.told.board made.told.rule made.told.seat old made.told.me (shelf_slot layout page) (log_of b)
      (subst (IsIn made.told.board.homes (shelf_slot layout page))
      (brought layout who (steps.LockPage page) None found (Some b) (ap (λ (went : Bool). is_out (moved_out went (shelf_slot layout page))) free))
      (was-home (is_free found) (shelf_slot layout page) made.told.board.homes (content_of layout who (steps.LockPage page) None found (Some b)) free made.told.slot))
      within

  -- from its frame
  frame-stands : {frame : Frame} → Steps layout who (steps.LockFrame frame) None old new found (Some b) → is_free found ≡ true → b.page.0 < length layout.pages → Stand old b
  frame-stands {frame} made free within = stands-before layout made.told.board made.told.rule made.told.seat old made.told.me (frame_slot frame) (log_of b)
      (subst (IsIn made.told.board.homes (frame_slot frame))
      (brought layout who (steps.LockFrame frame) None found (Some b) (ap (λ (went : Bool). is_out (moved_out went (frame_slot frame))) free))
      (was-home (is_free found) (frame_slot frame) made.told.board.homes (content_of layout who (steps.LockFrame frame) None found (Some b)) free made.told.slot))
      within

-- ---- the page is being held

named-looks : (page : Page) (list : List Made) (who : Who) (body : Option BodyValue) (frame : Option Frame) → HasInBody page list body → HasInHold page list (holds.named_at who body frame)
named-looks page list who body (Some frame) has = tt
named-looks page list who None None has = tt
named-looks page list who (Some body) None has = has

pinned-looks : (page : Page) (list : List Made) (p : Pin) → HasInHold page list (holds.pinned p)
pinned-looks page list p = which p.at
  where
    which : (x : PinAt) → HasInHold page list (holds.pinned_at (record p { at = x }) x)
    which pin_at.Load = tt
    which (pin_at.Get seen) = tt
    which (pin_at.Held word) = tt
    which (pin_at.Gone word) = tt

module _ {layout : Layout} {old new : View} (base list : List Made) (h : Hold) {step : Step} {found : ℕ} {got : Option BodyValue} (fits : holds.Fits layout old h) (is : holds.plan h ≡ Some step) (made : Steps layout h.who step None old new found got) (all : HasMadeNoneBeside (base ++ list) old h.who) where
  own-stand : (b : BodyValue) → b.page ≡ h.page → Stand old b → StandBefore h.page (length b.log) list
  own-stand b own each = each-behind (λ (m : Made). m.page ≡ h.page → m.place < length b.log) base list
      (subst (EachMember (λ (m : Made). m.page ≡ h.page → m.place < length b.log)) all
      (each-filter (λ (m : Made). m.page ≡ h.page → m.place < length b.log) (is_by h.who) old.made
      (subst (λ (p : Page). EachMember (λ (m : Made). m.page ≡ p → m.place < length b.log) old.made) own each)))

  inside : (b : BodyValue) → b.page ≡ h.page → b.page.0 < length layout.pages
  inside b own = subst (λ (p : Page). p.0 < length layout.pages) (sym own) fits.page

  page-looks : Steps layout h.who (steps.LockPage h.page) None old new found got → holds.FitsAt layout new h.who h.page (cond (is_free found) (hold_at.LoadCache got) hold_at.LockPage)
      → HasInHold h.page list (cond (is_free found) (hold_at.LoadCache got) hold_at.LockPage)
  page-looks made after = which (is_free found) refl got refl
    where
      which : (free : Bool) → is_free found ≡ free → (g : Option BodyValue) → got ≡ g → HasInHold h.page list (cond free (hold_at.LoadCache g) hold_at.LockPage)
      which true free None brings = tt
      which true free (Some b) brings =
          let own : b.page ≡ h.page = ((subst (λ (f : Bool). holds.FitsAt layout new h.who h.page (cond f (hold_at.LoadCache got) hold_at.LockPage)) free after).0.body_is b brings).page_is in
          own-stand b own (shelf-stands (subst (λ (g : Option BodyValue). Steps layout h.who (steps.LockPage h.page) None old new found g) brings made) free (inside b own))
      which false free g brings = tt

  frame-looks : (frame : Frame) → Steps layout h.who (steps.LockFrame frame) None old new found got → holds.FitsAt layout new h.who h.page (cond (is_free found) (holds.locked_at frame got) (hold_at.LockFrame frame))
      → HasInHold h.page list (cond (is_free found) (holds.locked_at frame got) (hold_at.LockFrame frame))
  frame-looks frame made after = which (is_free found) refl got refl
    where
      which : (free : Bool) → is_free found ≡ free → (g : Option BodyValue) → got ≡ g → HasInHold h.page list (cond free (holds.locked_at frame g) (hold_at.LockFrame frame))
      which true free None brings = tt
      which true free (Some b) brings =
          let own : b.page ≡ h.page = (subst (λ (g : Option BodyValue). holds.FitsAt layout new h.who h.page (holds.locked_at frame g)) brings
          (subst (λ (f : Bool). holds.FitsAt layout new h.who h.page (cond f (holds.locked_at frame got) (hold_at.LockFrame frame))) free after)).0.body_is.page_is in
          own-stand b own (frame-stands (subst (λ (g : Option BodyValue). Steps layout h.who (steps.LockFrame frame) None old new found g) brings made) free (inside b own))
      which false free g brings = tt

  hold-looks : HasInHold h.page list h.at → HasInHold h.page list (holds.next h found got).at
  hold-looks has = which h.at is has (holding.both layout old new h step found got fits is made).1.at
    where
      which : (x : HoldAt) → holds.plan_at h.page x ≡ Some step → HasInHold h.page list x → holds.FitsAt layout new h.who h.page (holds.next_at h.who x found got) → HasInHold h.page list (holds.next_at h.who x found got)
      which hold_at.LockPage e has after = page-looks (steps-planned e made) after
      which (hold_at.LoadCache body) e has after = named-looks h.page list h.who body (frame_in found) has
      which (hold_at.Pin p) e has after = pinned-looks h.page list (pins.next p found)
      which (hold_at.LockFrame frame) e has after = frame-looks frame (steps-planned e made) after
      which (hold_at.Held frame body) e has after = absurd (none-some step e)

-- ---- the page is held

module _ (page : Page) (list : List Made) (who : Who) (own : Page) (slot : VSlot) where
  held-looks : (frame : Option Frame) (body : BodyValue) → StandBefore page (length body.log) list → (y : EvictAt) → AfterHeld who own (evictions.Free slot) frame body y → HasInView page list y
  held-looks None body has y follows = subst (HasInView page list) (sym follows) has
  held-looks (Some frame) body has y (inr barred) = subst (HasInView page list) (sym barred.next_is) has
  held-looks (Some frame) body has y (inl (passes, inl short)) = subst (HasInView page list) (sym short) tt
  held-looks (Some frame) body has y (inl (passes, inr entered)) = subst (HasInView page list) (sym entered.next_is) tt

  after-looks : (h : Hold) → HasInHold page list h.at → (y : EvictAt) → AfterHoldAt who own (evictions.Free slot) h h.at y → HasInView page list y
  after-looks h has y follows = which h.at has follows
    where
      which : (x : HoldAt) → HasInHold page list x → AfterHoldAt who own (evictions.Free slot) (record h { at = x }) x y → HasInView page list y
      which hold_at.LockPage has follows = subst (HasInView page list) (sym follows) has
      which (hold_at.LoadCache body) has follows = subst (HasInView page list) (sym follows) has
      which (hold_at.Pin p) has follows = subst (HasInView page list) (sym follows) has
      which (hold_at.LockFrame frame) has follows = subst (HasInView page list) (sym follows) has
      which (hold_at.Held frame body) has follows = held-looks frame body has y follows

-- ---- each step

stop-looks : (page : Page) (list : List Made) (who : Who) (own : Page) (stopped : Bool) → HasInView page list (cond stopped (at.Over answers.Stopped) (at.Hold (holds.begin who own)))
stop-looks page list who own true = tt
stop-looks page list who own false = tt

either-looks : (page : Page) (list : List Made) (b : Bool) (x y : EvictAt) → HasInView page list x → HasInView page list y → HasInView page list (cond b x y)
either-looks page list true x y first second = first
either-looks page list false x y first second = second

module _ {layout : Layout} {old new : View} (base list : List Made) (slot : VSlot) (e : Evict) (what_is : e.what ≡ evictions.Free slot) {step : Step} {found : ℕ} {got : Option BodyValue} (fits : FitsFrom (base ++ list) layout old e) (is : plan e ≡ Some step)
    (made : Steps layout e.who step (logs (put e)) old new found got) where
  -- what follows the step has seen them too
  pub looks-on : HasInView e.page list e.at → (y : EvictAt) (turn : Turn) → FollowsAt e.who e.page e.what (bare_at e.at) found got y turn → HasInView e.page list y
  looks-on has y turn follows = which e.at is fits.at has (subst (λ (w : Eviction). FollowsAt e.who e.page w (bare_at e.at) found got y turn) what_is follows) made
    where
      to : {x : EvictAt} → y ≡ x → HasInView e.page list x → HasInView e.page list y
      to same has = subst (HasInView e.page list) (sym same) has

      which : (x : EvictAt) → plan_at x ≡ Some step → FitsAt (base ++ list) layout old e.who e.page e.what x → HasInView e.page list x → FollowsAt e.who e.page (evictions.Free slot) (bare_at x) found got y turn
          → Steps layout e.who step (logs (put_at x)) old new found got → HasInView e.page list y
      which at.LoadStop p fit has follows made = to follows.0 (stop-looks e.page list e.who e.page (is_stopped found))
      which (at.Hold h) p fit has follows made = after-looks e.page list e.who e.page slot (holds.next h found got)
          (subst (λ (q : Page). HasInHold q list (holds.next h found got).at) fit.page_is
          (hold-looks base list h fit.hold p (subst (λ (w : Who). Steps layout w step None old new found got) (sym fit.own) made) (subst (HasMadeNoneBeside (base ++ list) old) (sym fit.own) fit.made_none)
          (subst (λ (q : Page). HasInHold q list h.at) (sym fit.page_is) has)))
          y follows.0
      which (at.LoadBad frame body) p fit has follows made = absurd (both_ways (copies e.what) (ap copies what_is) fit.copying)
      which (at.SetPte s frame body done) p fit has follows made = to follows.0 tt
      which (at.Clear c body done) p fit has follows made = to follows.0.next_is (either-looks e.page list (is_none follows.0.after.next) _ _ tt tt)
      which (at.Vacate v done) p fit has follows made = to follows.0 (either-looks e.page list (is_none (vacates.plan (vacates.next (vacates.bare v) found))) _ _ tt tt)
      which (at.Unhold u answer) p fit has follows made = to follows.0 (either-looks e.page list (is_none (unholds.plan (unholds.next (unholds.bare u) found))) _ _ has has)
      which (at.GiveUp g) p fit has follows made = to follows.0 tt
      which (at.Over answer) p fit has follows made = absurd (none-some step p)
