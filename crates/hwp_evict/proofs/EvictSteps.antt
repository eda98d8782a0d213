-- What follows a step of a page that is being held, read or vacated.
use Rattle.std.proofs.Common.{◌≡◌, inl, inr, ℕ, ◌+◌, ◌<◌, ◌≤◌, ◌==◌, Bool, true, false, cond, List, [], ◌∷◌, ◌++◌, Option, Some, None, is_none, length, drop, slice_get, option_map, MatchBool, refl, sym, ap, ◌∙◌, subst, arith}
use Rattle.std.proofs.lemmas.Bool.{both_ways, eqb-true, eqb-false}
use Rattle.std.proofs.lemmas.List.{drop-append-le, length-append}
use Rattle.std.proofs.lemmas.Option.{none-some, same_Some}
use Rattle.hwp_core.specs.hwp_geom.declared.Frame.{Frame}
use Rattle.hwp_core.specs.hwp_geom.declared.Layout.{Layout}
use Rattle.hwp_core.specs.hwp_geom.declared.Page.{Page}
use Rattle.hwp_core.specs.hwp_geom.declared.Who.{Who}
use Rattle.hwp_core.specs.hwp_geom.Layout.{IsSound}
use Rattle.hwp_core.specs.hwp_page.declared.PageState.{PageState}
use Rattle.hwp_core.specs.hwp_page.History.{BodyValue}
use Rattle.hwp_core.specs.hwp_core_rule.declared.Made.{Made}
use Rattle.hwp_core.specs.hwp_core_rule.declared.FrameLock.{FrameLock}
use Rattle.hwp_core.specs.hwp_core_rule.declared.InHand.{InHand}
use Rattle.hwp_core.specs.hwp_core_rule.declared.Log.{Log}
use Rattle.hwp_core.specs.hwp_core_rule.declared.SharedWord.TheVariants as places
use Rattle.hwp_core.specs.hwp_core_rule.declared.Sight.{Sight}
use Rattle.hwp_core.specs.hwp_core_rule.declared.Step.{Step}
use Rattle.hwp_core.specs.hwp_core_rule.declared.Step.TheVariants as steps
use Rattle.hwp_core.specs.hwp_core_rule.declared.View.{View}
use Rattle.hwp_core.specs.hwp_core_rule.Lists.{SomeMember}
use Rattle.hwp_core.specs.hwp_core_rule.Logs.{log_of, state_of}
use Rattle.hwp_core.specs.hwp_core_rule.Views.{frame_in, lock_found, noted, stamp_of, taken}
use Rattle.hwp_core.specs.hwp_core_rule.parts.Entries.{HasSeen, Shows}
use Rattle.hwp_core.proofs.of_hwp_core_rule.Lists.{some-last}
use Rattle.hwp_core.specs.hwp_core_rule.Calls.{IsOnTurn, Steps}
use Rattle.hwp_core.specs.hwp_core_rule.Hands.{Hand, body_in, hand_of, taking}
use Rattle.hwp_core.proofs.of_hwp_core_rule.tasks.StepLeaves.{content_of, hand-planned, steps-planned}
use Rattle.hwp_core.specs.hwp_core_rule.Known.{HasMadeNoneBeside, SawLog}
use Rattle.hwp_core.proofs.of_hwp_core_rule.tasks.MadeEntries.{deeds-same}
use Rattle.hwp_core.proofs.of_hwp_core_rule.tasks.SightKeeps.{saw-bad-of-load, saw-log-stays}
use Rattle.hwp_core.specs.declared.hold.Hold.{Hold}
use Rattle.hwp_core.specs.declared.hold.HoldAt.{HoldAt}
use Rattle.hwp_core.specs.declared.hold.HoldAt.TheVariants as hold_at
use Rattle.hwp_core.specs.declared.pin.Pin.{Pin}
use Rattle.hwp_core.specs.declared.pin.PinAt.{PinAt}
use Rattle.hwp_core.specs.declared.pin.PinAt.TheVariants as pin_at
use Rattle.hwp_core.specs.Holds as holds
use Rattle.hwp_core.specs.Holds.{HoldsPage, is_free, one_ref}
use Rattle.hwp_core.specs.Pins as pins
use Rattle.hwp_evict.specs.declared.evict.EvictAt.{EvictAt}
use Rattle.hwp_evict.specs.declared.evict.EvictAt.TheVariants as at
use Rattle.hwp_evict.specs.declared.evict.Eviction.{Eviction}
use Rattle.hwp_evict.specs.declared.evict.Eviction.TheVariants as evictions
use Rattle.hwp_evict.specs.declared.evict.Refusal.{Refusal}
use Rattle.hwp_evict.specs.declared.evict.Refusal.TheVariants as refusals
use Rattle.hwp_evict.specs.Evictions.{absence, copies, entry_of, Bars, IsOfKind, IsWhy, Passes, SawLines}
use Rattle.hwp_evict.specs.Evicts.{AfterBad, AfterHeld, AfterHold, AfterHoldAt, CanEnterHeld, Enters, FitsAt, IsReading, refused}
use Rattle.hwp_evict.proofs.EvictBegins.{refused-fits}
use Rattle.hwp_evict.proofs.EntryFits.{enters-fits}
use Rattle.hwp_core.proofs.PageStates.{is-cached, state-is}
use Rattle.hwp_evict.proofs.EvictStates.{away-why, bars-why, can-enter}

-- a body taken with its frame's lock has been in hand since no later sight
abbrev IsRecent : View → HoldAt → Type 0
IsRecent view (hold_at.Held (Some frame) body) = (b : InHand) → slice_get view.bodies 0 ≡ Some b → b.from ≤ length view.sights
IsRecent view _ = Unit {0}

taken-sights : (layout : Layout) (who : Who) (frame : Option Frame) (content : Option Log) (v : View) → (taken layout who frame content v).sights ≡ v.sights
taken-sights layout who frame None v = refl
taken-sights layout who frame (Some log) v = refl

pinned-recent : (view : View) (p : Pin) → IsRecent view (holds.pinned p)
pinned-recent view p = which p.at
  where
    which : (x : PinAt) → IsRecent view (holds.pinned (record p { at = x }))
    which pin_at.Load = tt
    which (pin_at.Get seen) = tt
    which (pin_at.Held word) = tt
    which (pin_at.Gone word) = tt

named-recent : (view : View) (who : Who) (body : Option BodyValue) (frame : Option Frame) → IsRecent view (holds.named_at who body frame)
named-recent view who body (Some frame) = tt
named-recent view who None None = tt
named-recent view who (Some body) None = tt

module _ {layout : Layout} {old new : View} (h : Hold) {step : Step} {found : ℕ} {got : Option BodyValue} (fits : holds.Fits layout old h) (is : holds.plan h ≡ Some step) (made : Steps layout h.who step None old new found got) where
  free-recent : (free : Bool) (x : HoldAt) → IsRecent new x → IsRecent new (cond free x hold_at.LockPage)
  free-recent true x is = is
  free-recent false x is = tt

  locked-recent : (frame : Frame) → hand_of old ≡ holds.named h.page frame (one_ref frame) → Steps layout h.who (steps.LockFrame frame) None old new found got → IsRecent new (cond (is_free found) (holds.locked_at frame got) (hold_at.LockFrame frame))
  locked-recent frame hand made = which (is_free found) refl got
    where
      after : hand_of new ≡ cond (is_free found) (taking layout (Some frame) (content_of layout h.who (steps.LockFrame frame) None found got) (length old.sights) (record (holds.named h.page frame (one_ref frame)) { locks = lock_found frame found ∷ [] })) (holds.named h.page frame (one_ref frame))
      after = hand-planned made refl hand

      sights : (free : Bool) (content : Option Log) → (cond free (taken layout h.who (Some frame) content (record (noted h.who old) { locks = old.locks ++ lock_found frame found ∷ [] })) (noted h.who old)).sights ≡ old.sights
      sights true content = taken-sights layout h.who (Some frame) content _
      sights false content = refl

      same : new.sights ≡ old.sights
      same = ap (λ (v : View). v.sights) made.told.next ∙ sights (is_free found) (content_of layout h.who (steps.LockFrame frame) None found got)

      bodies : is_free found ≡ true → new.bodies ≡ (taking layout (Some frame) (content_of layout h.who (steps.LockFrame frame) None found got) (length old.sights) (record (holds.named h.page frame (one_ref frame)) { locks = lock_found frame found ∷ [] })).bodies
      bodies free = ap (λ (x : Hand). x.bodies) (after ∙ ap (λ (b : Bool). cond b (taking layout (Some frame) (content_of layout h.who (steps.LockFrame frame) None found got) (length old.sights) (record (holds.named h.page frame (one_ref frame)) { locks = lock_found frame found ∷ [] })) (holds.named h.page frame (one_ref frame))) free)

      recent : (content : Option Log) (l : List InHand) → l ≡ (taking layout (Some frame) content (length old.sights) (record (holds.named h.page frame (one_ref frame)) { locks = lock_found frame found ∷ [] })).bodies → (b : InHand) → slice_get l 0 ≡ Some b → b.from ≤ length old.sights
      recent None l is b at = absurd (none-some b (sym (ap (λ m. slice_get m 0) is) ∙ at))
      recent (Some log) l is b at = subst (λ (x : InHand). x.from ≤ length old.sights) (same_Some (body_in (Some frame) log (length old.sights)) b (sym (ap (λ m. slice_get m 0) is) ∙ at)) (omega arith)

      which : (free : Bool) → is_free found ≡ free → (g : Option BodyValue) → IsRecent new (cond free (holds.locked_at frame g) (hold_at.LockFrame frame))
      which true free None = tt
      which true free (Some body) = λ b at. subst (λ (l : List Sight). b.from ≤ length l) (sym same) (recent (content_of layout h.who (steps.LockFrame frame) None found got) new.bodies (bodies free) b at)
      which false free g = tt

  pub recent-held : IsRecent new (holds.next h found got).at
  recent-held = which h.at is fits.at
    where
      which : (x : HoldAt) → holds.plan_at h.page x ≡ Some step → holds.FitsAt layout old h.who h.page x → IsRecent new (holds.next_at h.who x found got)
      which hold_at.LockPage e at = free-recent (is_free found) (hold_at.LoadCache got) tt
      which (hold_at.LoadCache body) e at = named-recent new h.who body (frame_in found)
      which (hold_at.Pin p) e at = pinned-recent new (pins.next p found)
      which (hold_at.LockFrame frame) e at = locked-recent frame at.0 (steps-planned e made)
      which (hold_at.Held frame body) e at = absurd (none-some step e)

-- no bad line is shown where a page is barred or away
away-lines : (layout : Layout) (view : View) (who : Who) (page : Page) (what : Eviction) → SawLines layout view who page (absence what)
away-lines layout view who page (evictions.Free slot) = tt
away-lines layout view who page evictions.Sync = tt
away-lines layout view who page evictions.Drop = tt
away-lines layout view who page evictions.Out = tt

bars-lines : (layout : Layout) (view : View) (who : Who) (page : Page) (what : Eviction) (s : PageState) (refusal : Refusal) → Bars what s refusal → SawLines layout view who page refusal
bars-lines layout view who page what s refusals.NotMapped bars = tt
bars-lines layout view who page what s refusals.NotResident bars = tt
bars-lines layout view who page what s refusals.Locked bars = tt
bars-lines layout view who page what s refusals.Dirty bars = tt
bars-lines layout view who page what s refusals.Mapped bars = tt
bars-lines layout view who page (evictions.Free slot) s (refusals.BadLines mask) bars = absurd bars
bars-lines layout view who page evictions.Sync s (refusals.BadLines mask) bars = absurd bars
bars-lines layout view who page evictions.Drop s (refusals.BadLines mask) bars = absurd bars
bars-lines layout view who page evictions.Out s (refusals.BadLines mask) bars = absurd bars

-- what a command that copies nothing must have seen
sees-nothing : (sights : List Sight) (who : Who) (frame : Frame) (what : Eviction) → copies what ≡ false → HasSeen sights who (Some frame) (entry_of what)
sees-nothing sights who frame (evictions.Free slot) is = tt
sees-nothing sights who frame evictions.Sync is = absurd (both_ways true is refl)
sees-nothing sights who frame evictions.Drop is = tt
sees-nothing sights who frame evictions.Out is = absurd (both_ways true is refl)

module _ {base : List Made} {layout : Layout} {view : View} {who : Who} {page : Page} (what : Eviction) (on : IsOnTurn view who) (inside : page.0 < length layout.pages) (sound : IsSound layout) (kind : IsOfKind layout page what) (none : HasMadeNoneBeside base view who) where
  -- ---- the page is held
  held-fits : (frame : Option Frame) (body : BodyValue) → HoldsPage layout view page frame body → SawLog view who (log_of body) → IsRecent view (hold_at.Held frame body) → (y : EvictAt) → AfterHeld who page what frame body y → FitsAt base layout view who page what y
  held-fits None body has saw recent y follows = subst (FitsAt base layout view who page what) (sym follows) (refused-fits what on inside None body (absence what) has saw none (away-why what has.body_is) (away-lines layout view who page what))
  held-fits (Some frame) body has saw recent y (inr barred) = subst (FitsAt base layout view who page what) (sym barred.next_is)
      (refused-fits what on inside (Some frame) body barred.refusal has saw none (bars-why what barred.refusal has.body_is barred.bars) (bars-lines layout view who page what body.state barred.refusal barred.bars))
  held-fits (Some frame) body has saw recent y (inl (passes, goes)) = which (copies what) refl goes
    where
      few : has.seen ≤ length view.sights
      few = recent (body_in (Some frame) (log_of body) has.seen) (ap (λ (h : Hand). slice_get h.bodies 0) has.hand_is)

      which : (b : Bool) → copies what ≡ b → MatchBool b (y ≡ at.LoadBad frame body) (Enters who page what frame body y) → FitsAt base layout view who page what y
      which true is goes = subst (FitsAt base layout view who page what) (sym goes) (record { copying = is; passes = passes; page_held = has; few = few; saw = saw; made_none = none })
      which false is goes = enters-fits on inside sound frame body has none what kind passes few (sees-nothing (drop has.seen view.sights) who frame what is) y goes

  pub hold-fits : (h : Hold) → h.who ≡ who → h.page ≡ page → holds.Fits layout view h → IsRecent view h.at → (y : EvictAt) → AfterHold who page what h y → FitsAt base layout view who page what y
  hold-fits h own its fits recent y follows = which h.at fits recent follows
    where
      still : (x : HoldAt) → holds.Fits layout view (record h { at = x }) → is_none (holds.plan_at h.page x) ≡ false → y ≡ at.Hold (record h { at = x }) → FitsAt base layout view who page what y
      still x fits on is = subst (FitsAt base layout view who page what) (sym is) (record { hold = fits; own = own; page_is = its; under_way = on; made_none = none })

      which : (x : HoldAt) → holds.Fits layout view (record h { at = x }) → IsRecent view x → AfterHoldAt who page what (record h { at = x }) x y → FitsAt base layout view who page what y
      which hold_at.LockPage fits recent follows = still hold_at.LockPage fits refl follows
      which (hold_at.LoadCache body) fits recent follows = still (hold_at.LoadCache body) fits refl follows
      which (hold_at.Pin p) fits recent follows = still (hold_at.Pin p) fits fits.at.under_way follows
      which (hold_at.LockFrame frame) fits recent follows = still (hold_at.LockFrame frame) fits refl follows
      which (hold_at.Held frame body) fits recent follows = held-fits frame body
          (subst (λ (p : Page). HoldsPage layout view p frame body) its fits.at.0) (subst (λ (w : Who). SawLog view w (log_of body)) own fits.at.1) recent y follows

-- where the command goes on, its entry is allowed
pub held-enters : {layout : Layout} {view : View} {page : Page} (what : Eviction) (h : Hold) → h.page ≡ page → IsOfKind layout page what → holds.Fits layout view h → CanEnterHeld what h.at
held-enters {layout} {view} {page} what h its kind fits = which h.at fits.at
  where
    which : (x : HoldAt) → holds.FitsAt layout view h.who h.page x → CanEnterHeld what x
    which hold_at.LockPage has = tt
    which (hold_at.LoadCache body) has = tt
    which (hold_at.Pin p) has = tt
    which (hold_at.LockFrame frame) has = tt
    which (hold_at.Held None body) has = tt
    which (hold_at.Held (Some frame) body) has = can-enter what (subst (λ (p : Page). HoldsPage layout view p (Some frame) body) its has.0).body_is kind

-- ---- the bad lines are read

-- the word shown is that of the frame that is locked
lines-why : (what : Eviction) (word : ℕ) (s : PageState) → copies what ≡ true → Passes what s → s.cached ≡ true → IsWhy what (refusals.BadLines (record { 0 = word })) s
lines-why (evictions.Free slot) word s is passes cached = absurd (both_ways true (sym is) refl)
lines-why evictions.Sync word s is passes cached = cached
lines-why evictions.Out word s is passes cached = (cached, passes)
lines-why evictions.Drop word s is passes cached = absurd (both_ways true (sym is) refl)

mask-seen : (sights : List Sight) (who : Who) (frame : Frame) (what : Eviction) → copies what ≡ true → SomeMember (Shows who frame (places.Bad frame) 0) sights → HasSeen sights who (Some frame) (entry_of what)
mask-seen sights who frame (evictions.Free slot) is seen = tt
mask-seen sights who frame evictions.Sync is seen = seen
mask-seen sights who frame evictions.Out is seen = seen
mask-seen sights who frame evictions.Drop is seen = tt

module _ {base : List Made} {layout : Layout} {old new : View} {who : Who} {page : Page} {what : Eviction} {frame : Frame} {body : BodyValue} {found : ℕ} {got : Option BodyValue} (on : IsOnTurn new who) (inside : page.0 < length layout.pages) (kind : IsOfKind layout page what) (has : IsReading base layout old who page what frame body) (made : Steps layout who (steps.Load (places.Bad frame)) None old new found got) where
  more : new.sights ≡ old.sights ++ (record { stamp = stamp_of who (noted who old); place = places.Bad frame; word = found }) ∷ []
  more = ap (λ (v : View). v.sights) made.told.next

  abbrev page-still : HoldsPage layout new page (Some frame) body
  page-still = record {
    seen = has.page_held.seen;
    handled = has.page_held.handled;
    poisoned = has.page_held.poisoned;
    hand_is = hand-planned made refl has.page_held.hand_is;
    within = has.page_held.within;
    body_is = has.page_held.body_is;
  }

  few-still : has.page_held.seen ≤ length new.sights
  few-still = let all : length new.sights ≡ length old.sights + 1 = ap (λ (l : List Sight). length l) more ∙ length-append old.sights _ in let few : _ = has.few in omega (arith, all, few)

  none-still : HasMadeNoneBeside base new who
  none-still = deeds-same who tt made ∙ has.made_none

  seen-zero : found ≡ 0 → SomeMember (Shows who frame (places.Bad frame) 0) (drop has.page_held.seen new.sights)
  seen-zero zero = subst (SomeMember (Shows who frame (places.Bad frame) 0)) (sym (ap (λ (l : List Sight). drop has.page_held.seen l) more ∙ drop-append-le has.page_held.seen old.sights _ has.few))
      (some-last (Shows who frame (places.Bad frame) 0) (drop has.page_held.seen old.sights) _ (record {
        own = refl;
        under = inl (ap (λ (h : Hand). option_map (λ (l : FrameLock). l.frame) (slice_get h.locks 0)) has.page_held.hand_is);
        place_is = refl;
        word_is = zero;
      }))

  pub bad-fits : (y : EvictAt) → AfterBad who page what frame body found y → FitsAt base layout new who page what y
  bad-fits y follows = which (found == 0) refl follows
    where
      which : (b : Bool) → (found == 0) ≡ b → MatchBool b (Enters who page what frame body y) (y ≡ refused who page (Some frame) body (refusals.BadLines (record { 0 = found }))) → FitsAt base layout new who page what y
      which true zero follows = enters-fits on inside made.told.rule.sound frame body page-still none-still what kind has.passes few-still
          (mask-seen (drop has.page_held.seen new.sights) who frame what has.copying (seen-zero (eqb-true found 0 zero))) y follows
      which false some follows = subst (FitsAt base layout new who page what) (sym follows) (refused-fits what on inside (Some frame) body (refusals.BadLines (record { 0 = found })) page-still (saw-log-stays made has.saw) none-still
          (lines-why what found (state_of layout (log_of body)) has.copying (subst (Passes what) (sym (state-is has.page_held.body_is)) has.passes) (is-cached has.page_held.body_is)) (eqb-false found 0 some, (frame, has.page_held.within frame refl, saw-bad-of-load made page (record { frame = frame; owner = page.0 + 1; handled = has.page_held.handled; poisoned = has.page_held.poisoned }) (ap (λ (h : Hand). slice_get h.locks 0) has.page_held.hand_is) refl refl)))
