-- What a command has made after each step of a fault.
use Rattle.std.proofs.Common.{◌≡◌, inl, inr, ℕ, Bool, true, false, cond, List, [], ◌∷◌, ◌++◌, ◌⊎◌, Option, Some, None, is_none, filter, length, refl, sym, ap, ◌∙◌, subst}
use Rattle.std.proofs.Math.Seq.{drop-append_seam}
use Rattle.std.proofs.lemmas.Bool.{both_ways}
use Rattle.std.proofs.lemmas.List.Elements.{filter-append}
use Rattle.std.proofs.lemmas.Option.{none-some, same_Some}
use Rattle.hwp_page.specs.hwp_geom.declared.Frame.{Frame}
use Rattle.hwp_page.specs.hwp_geom.declared.Layout.{Layout}
use Rattle.hwp_page.specs.hwp_geom.declared.Page.{Page}
use Rattle.hwp_page.specs.hwp_geom.declared.VSlot.{VSlot}
use Rattle.hwp_page.specs.hwp_geom.declared.Who.{Who}
use Rattle.hwp_page.specs.declared.At.{At}
use Rattle.hwp_page.specs.declared.What.{What}
use Rattle.hwp_page.specs.declared.What.TheVariants as entries
use Rattle.hwp_page.specs.Endings.{ends}
use Rattle.hwp_page.specs.History.{BodyValue}
use Rattle.hwp_core.specs.hwp_words.declared.Pte.{Pte}
use Rattle.hwp_core.specs.hwp_words.declared.Pte.TheVariants as ptes
use Rattle.hwp_core.specs.hwp_words.Translations.{pte_reading}
use Rattle.hwp_core.specs.hwp_core_rule.declared.InHand.{InHand}
use Rattle.hwp_core.specs.hwp_core_rule.declared.Made.{Made}
use Rattle.hwp_core.specs.hwp_core_rule.declared.SharedWord.TheVariants as places
use Rattle.hwp_core.specs.hwp_core_rule.declared.Stamp.{Stamp}
use Rattle.hwp_core.specs.hwp_core_rule.declared.Step.{Step}
use Rattle.hwp_core.specs.hwp_core_rule.declared.Step.TheVariants as steps
use Rattle.hwp_core.specs.hwp_core_rule.declared.View.{View}
use Rattle.hwp_core.specs.hwp_core_rule.Lists.{EachMember}
use Rattle.hwp_core.specs.hwp_core_rule.Logs.{log_of}
use Rattle.hwp_core.specs.hwp_core_rule.Views.{body_of, is_body_of, made_from, more_of}
use Rattle.hwp_core.proofs.of_hwp_core_rule.MoreEntries.{made-each}
use Rattle.hwp_core.proofs.of_hwp_core_rule.ListDrops.{find-is}
use Rattle.hwp_core.specs.hwp_core_rule.Calls.{CanMake, Steps, logs}
use Rattle.hwp_core.specs.hwp_core_rule.Hands.{body_in, hand_of}
use Rattle.hwp_core.proofs.of_hwp_core_rule.tasks.StepLeaves.{hand-planned, steps-planned}
use Rattle.hwp_core.specs.hwp_core_rule.Known.{HasMadeBeside, HasOnlyBeside, IsAt, IsOnTheWay, Precedes, deeds, is_by}
use Rattle.hwp_core.proofs.of_hwp_core_rule.tasks.MadeEntries.{Lists, ListsNone, deeds-none, deeds-one, deeds-same, each-filter, frame-lists, has-made-beside, has-made-stays, only-beside-more, only-beside-stays, page-lists}
use Rattle.hwp_evict.specs.declared.Fill.{Fill}
use Rattle.hwp_evict.specs.declared.fill.FillAt.{FillAt}
use Rattle.hwp_evict.specs.declared.fill.FillAt.TheVariants as fill_at
use Rattle.hwp_core.specs.declared.GiveUp.{GiveUp}
use Rattle.hwp_core.specs.declared.give_up.GiveUpAt.{GiveUpAt}
use Rattle.hwp_core.specs.declared.give_up.GiveUpAt.TheVariants as give_up_at
use Rattle.hwp_core.specs.declared.Hold.{Hold}
use Rattle.hwp_core.specs.declared.hold.HoldAt.{HoldAt}
use Rattle.hwp_core.specs.declared.hold.HoldAt.TheVariants as hold_at
use Rattle.hwp_core.specs.declared.Refer.{Refer}
use Rattle.hwp_core.specs.declared.refer.ReferAt.{ReferAt}
use Rattle.hwp_core.specs.declared.refer.ReferAt.TheVariants as refer_at
use Rattle.hwp_core.specs.declared.Release.{Release}
use Rattle.hwp_core.specs.declared.release.ReleaseAt.{ReleaseAt}
use Rattle.hwp_core.specs.declared.release.ReleaseAt.TheVariants as release_at
use Rattle.hwp_evict.specs.declared.Take.{Take}
use Rattle.hwp_evict.specs.declared.take.TakeAt.{TakeAt}
use Rattle.hwp_evict.specs.declared.take.TakeAt.TheVariants as take_at
use Rattle.hwp_core.specs.declared.Unhold.{Unhold}
use Rattle.hwp_core.specs.declared.unhold.UnholdAt.{UnholdAt}
use Rattle.hwp_core.specs.declared.unhold.UnholdAt.TheVariants as unhold_at
use Rattle.hwp_core.specs.declared.Unlock.{Unlock}
use Rattle.hwp_core.specs.declared.unlock.UnlockAt.{UnlockAt}
use Rattle.hwp_core.specs.declared.unlock.UnlockAt.TheVariants as unlock_at
use Rattle.hwp_evict.specs.Fills as fills
use Rattle.hwp_core.specs.GiveUps as give_ups
use Rattle.hwp_core.specs.Holds as holds
use Rattle.hwp_core.specs.Holds.{HoldsPage}
use Rattle.hwp_core.specs.Refers as refers
use Rattle.hwp_core.specs.Releases as releases
use Rattle.hwp_evict.specs.Takes as takes
use Rattle.hwp_core.specs.Unholds as unholds
use Rattle.hwp_core.specs.Unlocks as unlocks
use Rattle.hwp_core.proofs.TaskCosts.{hold-lists, release-lists}
use Rattle.hwp_fault.specs.declared.fault.FaultAnswer.{FaultAnswer}
use Rattle.hwp_fault.specs.declared.fault.FaultAnswer.TheVariants as answers
use Rattle.hwp_fault.specs.declared.fault.FaultAt.{FaultAt}
use Rattle.hwp_fault.specs.declared.fault.FaultAt.TheVariants as at
use Rattle.hwp_fault.specs.declared.map_in.MapIn.{MapIn}
use Rattle.hwp_fault.specs.declared.map_in.MapInAt.{MapInAt}
use Rattle.hwp_fault.specs.declared.map_in.MapInAt.TheVariants as map_in_at
use Rattle.hwp_fault.specs.declared.touch.Touch.{Touch}
use Rattle.hwp_fault.specs.MapIns as map_ins
use Rattle.hwp_fault.specs.MapIns.{IsBringing}
use Rattle.hwp_fault.specs.Touches.{as_snapshot, refusal, refusal_entry, refused}
use Rattle.hwp_fault.specs.Faults.{AddsOnly, FitsAt, HasListed, HasToList, IsEnding, MadeAt, after_fill_at, after_give_up, after_hold_at, after_map_in_at, after_pte, after_unhold, bare_at, is_sigbus, let_go, next_at, plan_at, put_at, refuse, with_room}
use Rattle.hwp_fault.proofs.TranslationLoads.{in-hand}
use Rattle.hwp_fault.proofs.AccessRefusals.{none-left, refusal-made}

-- ---- steps that list no entry

take-lists : (t : Take) (step : Step) → takes.plan t ≡ Some step → ListsNone step
take-lists t step is = which t.at is
  where
    which : (x : TakeAt) → takes.plan_at x ≡ Some step → ListsNone step
    which take_at.LoadAvailable e = subst ListsNone (same_Some (steps.Load places.Available) step e) tt
    which (take_at.Reserve seen) e = subst ListsNone (same_Some (steps.Reserve seen) step e) tt
    which (take_at.LoadFree number) e = subst ListsNone (same_Some (steps.Load (places.Free number)) step e) tt
    which (take_at.TakeBit frame) e = subst ListsNone (same_Some (steps.TakeBit frame) step e) tt
    which (take_at.Adopt frame) e = subst ListsNone (same_Some (steps.Adopt frame) step e) tt
    which (take_at.Retire frame) e = subst ListsNone (same_Some (steps.Retire frame) step e) tt
    which (take_at.Over frame) e = absurd (none-some step e)

refer-lists : (r : Refer) (step : Step) → refers.plan r ≡ Some step → ListsNone step
refer-lists r step is = which r.at is
  where
    which : (x : ReferAt) → refers.plan_at r.frame r.count x ≡ Some step → ListsNone step
    which refer_at.Load e = subst ListsNone (same_Some (steps.Load (places.Frame r.frame)) step e) tt
    which (refer_at.Get seen) e = subst ListsNone (same_Some (steps.GetRef r.frame seen r.count) step e) tt
    which refer_at.Over e = absurd (none-some step e)

pub fill-lists : (f : Fill) (step : Step) → fills.plan f ≡ Some step → ListsNone step
fill-lists f step is = which f.at is
  where
    which : (x : FillAt) → fills.plan_at f.page x ≡ Some step → ListsNone step
    which (fill_at.Take t) e = take-lists t step e
    which (fill_at.SetOwner frame) e = subst ListsNone (same_Some (steps.SetOwner frame f.page true) step e) tt
    which (fill_at.Refer r) e = refer-lists r step e
    which (fill_at.SetCache frame) e = subst ListsNone (same_Some (steps.SetCache f.page (Some frame)) step e) tt
    which (fill_at.Over frame) e = absurd (none-some step e)

pub map-in-lists : (m : MapIn) (step : Step) → map_ins.plan m ≡ Some step → ListsNone step
map-in-lists m step is = which m.at is
  where
    which : (x : MapInAt) → map_ins.plan_at m.slot m.frame x ≡ Some step → ListsNone step
    which (map_in_at.Refer r) e = refer-lists r step e
    which map_in_at.SetPte e = subst ListsNone (same_Some (steps.SetPte m.slot (ptes.At m.frame)) step e) tt
    which map_in_at.Over e = absurd (none-some step e)

-- ---- a body that goes home

pub can-planned : {layout : Layout} {who : Who} {step other : Step} {put : Option BodyValue} {view : View} → Some other ≡ Some step → CanMake layout who step put view → CanMake layout who other put view
can-planned {layout} {who} {step} {other} {put} {view} e can = subst (λ (s : Step). CanMake layout who s put view) (sym (same_Some other step e)) can

-- an entry that brings the page in, or the translation into use, is one on the way
on-the-way : (slot : VSlot) (line : ℕ) (what : What) → (what ≡ entries.FaultIn) ⊎ (what ≡ entries.Map slot) → IsOnTheWay slot line what
on-the-way slot line what (inl is) = subst (IsOnTheWay slot line) (sym is) tt
on-the-way slot line what (inr is) = subst (IsOnTheWay slot line) (sym is) refl

module _ (who : Who) (page : Page) (slot : VSlot) (line : ℕ) {base : List Made} {old new : View} (only : HasOnlyBeside base (Precedes page slot line) old who) where
  listed : (body : BodyValue) (b : InHand) {stamp : Stamp} → body_of body.page old ≡ Some b → Lists old new stamp b (log_of body) → AddsOnly old page slot body → HasOnlyBeside base (Precedes page slot line) new who
  listed body b {stamp} there lists adds = only-beside-more who old new (filter (is_by who) more) (ap (filter (is_by who)) lists.made_is ∙ filter-append (is_by who) old.made more)
      (each-filter (Precedes page slot line) (is_by who) more (made-each (Precedes page slot line) stamp body.page b.frame (length b.log.entries) (more_of b (log_of body)) (λ i e listed n. inl (adds.of, on-the-way slot line e.what (each i e listed)))))
      only
    where
      more : List Made
      more = made_from stamp body.page b.frame (length b.log.entries) (more_of b (log_of body))

      each : EachMember (IsBringing slot) (more_of b (log_of body))
      each = let in-hand = find-is (is_body_of body.page) old.bodies b there in adds.only in-hand.0 b in-hand.1

module _ {layout : Layout} {who : Who} (page : Page) (slot : VSlot) (line : ℕ) {base : List Made} {old new : View} {found : ℕ} {got : Option BodyValue} (only : HasOnlyBeside base (Precedes page slot line) old who) where
  only-kept : {step : Step} → ListsNone step → Steps layout who step None old new found got → HasOnlyBeside base (Precedes page slot line) new who
  only-kept lists made = only-beside-stays who old new (deeds-same who lists made) only

  frame-puts : {frame : Frame} (body : Option BodyValue) → CanMake layout who (steps.UnlockFrame frame) body old → Steps layout who (steps.UnlockFrame frame) (logs body) old new found got → ((b : BodyValue) → body ≡ Some b → AddsOnly old page slot b)
      → HasOnlyBeside base (Precedes page slot line) new who
  frame-puts None can made adds = only-beside-stays who old new (deeds-same who tt made) only
  frame-puts (Some b) can made adds = listed who page slot line only b can.asks.kind.put.body can.asks.kind.put.body_is (frame-lists can.asks.kind.put.body_is made) (adds b refl)

  page-puts : {freed : Page} (body : Option BodyValue) → CanMake layout who (steps.UnlockPage freed) body old → Steps layout who (steps.UnlockPage freed) (logs body) old new found got → ((b : BodyValue) → body ≡ Some b → AddsOnly old page slot b)
      → HasOnlyBeside base (Precedes page slot line) new who
  page-puts None can made adds = only-beside-stays who old new (deeds-same who tt made) only
  page-puts (Some b) can made adds = listed who page slot line only b can.asks.kind.put.body can.asks.kind.put.body_is (page-lists can.asks.kind.put.body_is made) (adds b refl)

  unhold-only : {step : Step} (u : Unhold) (x : UnholdAt) → unholds.plan_at u.page x ≡ Some step → CanMake layout who step (unholds.put_at x) old → Steps layout who step (logs (unholds.put_at x)) old new found got
      → ((b : BodyValue) → unholds.put_at x ≡ Some b → AddsOnly old page slot b) → HasOnlyBeside base (Precedes page slot line) new who
  unhold-only {step} u (unhold_at.UnlockFrame frame count body) e can made adds = frame-puts body (can-planned e can) (steps-planned e made) adds
  unhold-only {step} u (unhold_at.Release r) e can made adds = only-kept (release-lists r step e) made
  unhold-only {step} u (unhold_at.UnlockPage body) e can made adds = page-puts body (can-planned e can) (steps-planned e made) adds
  unhold-only {step} u unhold_at.Over e can made adds = absurd (none-some step e)

  unlock-only : {step : Step} (x : UnlockAt) → unlocks.plan_at x ≡ Some step → CanMake layout who step (unlocks.put_at x) old → Steps layout who step (logs (unlocks.put_at x)) old new found got
      → ((b : BodyValue) → unlocks.put_at x ≡ Some b → AddsOnly old page slot b) → HasOnlyBeside base (Precedes page slot line) new who
  unlock-only {step} (unlock_at.UnlockFrame frame body) e can made adds = frame-puts body (can-planned e can) (steps-planned e made) adds
  unlock-only {step} (unlock_at.Release r) e can made adds = only-kept (release-lists r step e) made
  unlock-only {step} unlock_at.Over e can made adds = absurd (none-some step e)

  give-up-only : {step : Step} (x : GiveUpAt) → give_ups.plan_at x ≡ Some step → CanMake layout who step (give_ups.put_at x) old → Steps layout who step (logs (give_ups.put_at x)) old new found got
      → ((b : BodyValue) → give_ups.put_at x ≡ Some b → AddsOnly old page slot b) → HasOnlyBeside base (Precedes page slot line) new who
  give-up-only {step} (give_up_at.Unhold u) e can made adds = unhold-only u u.at e can made adds
  give-up-only {step} (give_up_at.Unlock u) e can made adds = unlock-only u.at e can made adds
  give-up-only {step} give_up_at.GiveUp e can made adds = only-kept (subst ListsNone (same_Some steps.GiveUp step e) tt) made
  give-up-only {step} give_up_at.Over e can made adds = absurd (none-some step e)

-- a body goes home with the first step alone
pub unhold-bare : (u : Unhold) (found : ℕ) → unholds.put (unholds.next (unholds.bare u) found) ≡ None
unhold-bare u found = which u.at
  where
    after-release : (r : Release) (y : ReleaseAt) → unholds.put_at (unholds.after_release_at r y) ≡ None
    after-release r release_at.Put = refl
    after-release r (release_at.Give word) = refl
    after-release r (release_at.Unreserve word) = refl
    after-release r (release_at.Adopt word) = refl
    after-release r (release_at.Retire word) = refl
    after-release r (release_at.Back word) = refl

    which : (x : UnholdAt) → unholds.put_at (unholds.next_at u.who (unholds.bare_at x) found) ≡ None
    which (unhold_at.UnlockFrame frame count body) = refl
    which (unhold_at.Release r) = after-release (releases.next r found) (releases.next_at r.count r.at found)
    which (unhold_at.UnlockPage body) = refl
    which unhold_at.Over = refl

pub unlock-bare : (u : Unlock) (found : ℕ) → unlocks.put (unlocks.next (unlocks.bare u) found) ≡ None
unlock-bare u found = which u.at
  where
    after-release : (r : Release) (y : ReleaseAt) → unlocks.put_at (unlocks.after_release_at r y) ≡ None
    after-release r release_at.Put = refl
    after-release r (release_at.Give word) = refl
    after-release r (release_at.Unreserve word) = refl
    after-release r (release_at.Adopt word) = refl
    after-release r (release_at.Retire word) = refl
    after-release r (release_at.Back word) = refl

    which : (x : UnlockAt) → unlocks.put_at (unlocks.next_at u.who (unlocks.bare_at x) found) ≡ None
    which (unlock_at.UnlockFrame frame body) = refl
    which (unlock_at.Release r) = after-release (releases.next r found) (releases.next_at r.count r.at found)
    which unlock_at.Over = refl

pub give-up-bare : (g : GiveUp) (found : ℕ) → give_ups.put (give_ups.next (give_ups.bare g) found) ≡ None
give-up-bare g found = which g.at
  where
    after-unhold : (u : Unhold) (over : Bool) → unholds.put u ≡ None → give_ups.put_at (cond over give_up_at.GiveUp (give_up_at.Unhold u)) ≡ None
    after-unhold u true none = refl
    after-unhold u false none = none

    after-unlock : (u : Unlock) (over : Bool) → unlocks.put u ≡ None → give_ups.put_at (cond over give_up_at.GiveUp (give_up_at.Unlock u)) ≡ None
    after-unlock u true none = refl
    after-unlock u false none = none

    which : (x : GiveUpAt) → give_ups.put_at (give_ups.next_at (give_ups.bare_at x) found) ≡ None
    which (give_up_at.Unhold u) = after-unhold (unholds.next (unholds.bare u) found) (is_none (unholds.plan (unholds.next (unholds.bare u) found))) (unhold-bare u found)
    which (give_up_at.Unlock u) = after-unlock (unlocks.next (unlocks.bare u) found) (is_none (unlocks.plan (unlocks.next (unlocks.bare u) found))) (unlock-bare u found)
    which give_up_at.GiveUp = refl
    which give_up_at.Over = refl

-- ---- the entry of a refusal

-- a page that is let go gives its body
pub put-begins : (who : Who) (page : Page) (frame : Option Frame) (body : BodyValue) → unholds.put (unholds.begin who page frame 1 body) ≡ Some body
put-begins who page None body = refl
put-begins who page (Some frame) body = refl

-- once the body is home, the command has made the entry
entry-made : {base : List Made} {who : Who} {page : Page} {slot : VSlot} {touch : Touch} {old new : View} {place : ℕ} {put : Option BodyValue} (has : HasToList base old who page slot touch put place) {stamp : Stamp} → Lists old new stamp has.taken (log_of has.body) → HasMadeBeside base (Precedes page slot touch.line) new who page place (refusal slot touch)
entry-made {base} {who} {page} {slot} {touch} {old} {new} {place} has lists = has-made-beside who old new one.0 one.1
    (subst (λ (n : ℕ). IsAt page n (refusal slot touch) one.0) has.place_is (subst (λ (p : Page). IsAt p (length has.taken.log.entries) (refusal slot touch) one.0) has.page_is one.2)) has.only
  where
    one : (m : Made) × (deeds who new ≡ deeds who old ++ m ∷ []) × IsAt has.body.page (length has.taken.log.entries) (refusal slot touch) m
    one = deeds-one who lists (refusal_entry who slot touch) has.more refl

module _ {layout : Layout} {who : Who} {page : Page} {slot : VSlot} {touch : Touch} {base : List Made} {old new : View} {found : ℕ} {got : Option BodyValue} {place : ℕ} where
  frame-entry : (frame : Frame) (body : Option BodyValue) → HasToList base old who page slot touch body place → Steps layout who (steps.UnlockFrame frame) (logs body) old new found got → HasMadeBeside base (Precedes page slot touch.line) new who page place (refusal slot touch)
  frame-entry frame body has made = entry-made has (frame-lists has.taken_is (subst (λ (b : Option BodyValue). Steps layout who (steps.UnlockFrame frame) (logs b) old new found got) has.put_is made))

  page-entry : (freed : Page) (body : Option BodyValue) → HasToList base old who page slot touch body place → Steps layout who (steps.UnlockPage freed) (logs body) old new found got → HasMadeBeside base (Precedes page slot touch.line) new who page place (refusal slot touch)
  page-entry freed body has made = entry-made has (page-lists has.taken_is (subst (λ (b : Option BodyValue). Steps layout who (steps.UnlockPage freed) (logs b) old new found got) has.put_is made))

  -- and where it had made it, it has
  frame-rest : (frame : Frame) (body : Option BodyValue) → HasListed base old who page slot touch body place → Steps layout who (steps.UnlockFrame frame) (logs body) old new found got → HasMadeBeside base (Precedes page slot touch.line) new who page place (refusal slot touch)
  frame-rest frame None has made = has-made-stays who old new (deeds-same who tt made) has.made
  frame-rest frame (Some b) has made = let rest = has.rest b refl in has-made-stays who old new (deeds-none who (frame-lists rest.1 made) rest.2) has.made

  page-rest : (freed : Page) (body : Option BodyValue) → HasListed base old who page slot touch body place → Steps layout who (steps.UnlockPage freed) (logs body) old new found got → HasMadeBeside base (Precedes page slot touch.line) new who page place (refusal slot touch)
  page-rest freed None has made = has-made-stays who old new (deeds-same who tt made) has.made
  page-rest freed (Some b) has made = let rest = has.rest b refl in has-made-stays who old new (deeds-none who (page-lists rest.1 made) rest.2) has.made

  refusal-on : {step : Step} (u : Unhold) (x : UnholdAt) → unholds.plan_at u.page x ≡ Some step → HasToList base old who page slot touch (unholds.put_at x) place ⊎ HasListed base old who page slot touch (unholds.put_at x) place
      → Steps layout who step (logs (unholds.put_at x)) old new found got → HasMadeBeside base (Precedes page slot touch.line) new who page place (refusal slot touch)
  refusal-on u (unhold_at.UnlockFrame frame count body) e (inl has) made = frame-entry frame body has (steps-planned e made)
  refusal-on u (unhold_at.UnlockFrame frame count body) e (inr has) made = frame-rest frame body has (steps-planned e made)
  refusal-on u (unhold_at.Release r) e (inl has) made = absurd (none-some has.body has.put_is)
  refusal-on {step} u (unhold_at.Release r) e (inr has) made = has-made-stays who old new (deeds-same who (release-lists r step e) made) has.made
  refusal-on u (unhold_at.UnlockPage body) e (inl has) made = page-entry u.page body has (steps-planned e made)
  refusal-on u (unhold_at.UnlockPage body) e (inr has) made = page-rest u.page body has (steps-planned e made)
  refusal-on {step} u unhold_at.Over e has made = absurd (none-some step e)

-- ---- what follows each step

module _ (layout : Layout) (who : Who) (page : Page) (slot : VSlot) (touch : Touch) {base : List Made} (new : View) (only : HasOnlyBeside base (Precedes page slot touch.line) new who) where
  abbrev MadeNow : FaultAt → Type 0
  MadeNow x = MadeAt base new who page slot touch x

  hold-made : (h : Hold) (z : HoldAt) → MadeNow (after_hold_at h z)
  hold-made h hold_at.LockPage = only
  hold-made h (hold_at.LoadCache body) = only
  hold-made h (hold_at.Pin p) = only
  hold-made h (hold_at.LockFrame frame) = only
  hold-made h (hold_at.Held frame body) = only

  room-made : (frame : Option Frame) (body : BodyValue) (spare : Option ℕ) → MadeNow (with_room who page slot frame body spare)
  room-made frame body None = only
  room-made None body (Some n) = only
  room-made (Some frame) body (Some n) = only

  fill-made : (f : Fill) (z : FillAt) (spare : Option ℕ) → MadeNow (after_fill_at who page slot f z spare)
  fill-made f (fill_at.Take t) spare = only
  fill-made f (fill_at.SetOwner frame) spare = only
  fill-made f (fill_at.Refer r) spare = only
  fill-made f (fill_at.SetCache frame) spare = only
  fill-made f (fill_at.Over None) spare = only
  fill-made f (fill_at.Over (Some frame)) spare = room-made (Some frame) f.body spare

  map-made : (m : MapIn) (z : MapInAt) → MadeNow (after_map_in_at who page m z)
  map-made m (map_in_at.Refer r) = only
  map-made m map_in_at.SetPte = only
  map-made m map_in_at.Over = only

  give-up-made : (g : GiveUp) → MadeNow (after_give_up g)
  give-up-made g = by (is_none (give_ups.plan g))
    where
      by : (over : Bool) → MadeNow (cond over (at.Over None) (at.GiveUp g))
      by true = only
      by false = only

  unhold-made : (u : Unhold) (answer : FaultAnswer) → is_sigbus answer ≡ false → MadeNow (after_unhold u answer)
  unhold-made u answer other = by (is_none (unholds.plan u)) answer other
    where
      by : (over : Bool) (answer : FaultAnswer) → is_sigbus answer ≡ false → MadeNow (cond over (at.Over (Some answer)) (at.Unhold u answer))
      by true answers.Again other = only
      by false answers.Again other = only
      by true (answers.NoFrame place) other = only
      by false (answers.NoFrame place) other = only
      by over (answers.Sigbus place) other = absurd (both_ways true other refl)

  module _ (frame : Option Frame) (body : BodyValue) (has : HoldsPage layout new page frame body) where
    refuse-made : (spare : Option ℕ) → MadeNow (refuse layout who page slot touch frame body spare)
    refuse-made None = only
    refuse-made (Some n) = by (ends layout touch.process touch.thread)
      where
        by : (ended : Bool) → MadeNow (cond ended (at.Kill frame (refused who slot touch (record body { spare = n })) (record { page = page; entry = length body.log })) (let_go who page frame (refused who slot touch (record body { spare = n })) (answers.Sigbus (record { page = page; entry = length body.log }))))
        by true = only
        by false = inl (record {
          only = only;
          body = refused who slot touch (record body { spare = n });
          put_is = put-begins who page frame (refused who slot touch (record body { spare = n }));
          taken = body_in frame (log_of body) has.seen;
          taken_is = in-hand has;
          page_is = has.body_is.page_is;
          more = drop-append_seam body.log (refusal_entry who slot touch ∷ []);
          place_is = refl;
        })

    pte-made : (pte : Pte) (spare : Option ℕ) → MadeNow (after_pte layout who page slot touch frame body pte spare)
    pte-made ptes.Empty spare = by body.state.lost
      where
        by : (lost : Bool) → MadeNow (cond lost (refuse layout who page slot touch frame body spare) (with_room who page slot frame body spare))
        by true = refuse-made spare
        by false = room-made frame body spare
    pte-made (ptes.At other) spare = only
    pte-made ptes.Poison spare = refuse-made spare

-- once the entry of a refusal is made, it stays so
sigbus-made : {base : List Made} (who : Who) (page : Page) (slot : VSlot) (touch : Touch) (new : View) (u : Unhold) (place : At) → HasMadeBeside base (Precedes page slot touch.line) new who page place.entry (refusal slot touch) → unholds.put u ≡ None
    → MadeAt base new who page slot touch (after_unhold u (answers.Sigbus place))
sigbus-made {base} who page slot touch new u place made none = by (is_none (unholds.plan u))
  where
    by : (over : Bool) → MadeAt base new who page slot touch (cond over (at.Over (Some (answers.Sigbus place))) (at.Unhold u (answers.Sigbus place)))
    by true = made
    by false = inr (record { made = made; rest = λ b e. absurd (none-some b (sym none ∙ e)) })

-- a page that is held is held after a step that leaves what is held
pub page-still : {layout : Layout} {old new : View} {page : Page} {frame : Option Frame} {body : BodyValue} → hand_of new ≡ hand_of old → HoldsPage layout old page frame body → HoldsPage layout new page frame body
page-still same has = record { seen = has.seen; handled = has.handled; poisoned = has.poisoned; hand_is = same ∙ has.hand_is; within = has.within; body_is = has.body_is }

module _ (base : List Made) (layout : Layout) (who : Who) (page : Page) (slot : VSlot) (touch : Touch) (old new : View) (step : Step) (found : ℕ) (got : Option BodyValue) where
  -- after the process was ended
  kill-made : (frame : Option Frame) (body : BodyValue) (place : At) → IsEnding layout old who page slot touch frame body place → HasOnlyBeside base (Precedes page slot touch.line) old who
      → Steps layout who (steps.Kill touch.process page (as_snapshot body)) None old new found got → MadeAt base new who page slot touch (let_go who page frame body (answers.Sigbus place))
  kill-made frame body place has only made = inr (record {
    made = subst (λ (n : ℕ). HasMadeBeside base (Precedes page slot touch.line) new who page n (refusal slot touch)) (sym (ap (λ (p : At). p.entry) has.place_is)) (refusal-made who slot touch has.held has.allowed has.ending own only);
    rest = λ b e. none-left who slot touch has.held has.allowed has.ending own b (same_Some b body (sym e ∙ put-begins who page frame body) ∙ has.body_is);
  })
    where
      own : Steps layout who (steps.Kill touch.process page (as_snapshot (refused who slot touch has.before))) None old new found got
      own = subst (λ (b : BodyValue). Steps layout who (steps.Kill touch.process page (as_snapshot b)) None old new found got) has.body_is made

  pub made-next : (x : FaultAt) (spare : Option ℕ) → MadeAt base old who page slot touch x → FitsAt layout old who page slot touch x → plan_at page slot touch x ≡ Some step → CanMake layout who step (put_at x) old
      → Steps layout who step (logs (put_at x)) old new found got → MadeAt base new who page slot touch (next_at layout who page slot touch (bare_at x) found got spare)
  made-next (at.Hold h) spare was has e can made = hold-made layout who page slot touch new (only-kept page slot touch.line was (hold-lists h step e) made) (holds.next h found got) (holds.next_at h.who h.at found got)
  made-next (at.LoadPte frame body) spare was has e can made = pte-made layout who page slot touch new (only-kept page slot touch.line was (subst ListsNone (same_Some (steps.Load (places.Trans slot)) step e) tt) made) frame body
      (page-still (hand-planned made e refl) has.held) (pte_reading found) spare
  made-next (at.Kill frame body place) spare was has e can made = kill-made frame body place has was (steps-planned e made)
  made-next (at.Fill f) spare was has e can made = fill-made layout who page slot touch new (only-kept page slot touch.line was (fill-lists f step e) made) (fills.next layout f found) (fills.next_at layout f.who f.at found) spare
  made-next (at.MapIn m) spare was has e can made = map-made layout who page slot touch new (only-kept page slot touch.line was (map-in-lists m step e) made) (map_ins.next m found) (map_ins.next_at m.at found)
  made-next (at.Unhold u answers.Again) spare was has e can made =
      unhold-made layout who page slot touch new (unhold-only page slot touch.line was u u.at e can made (has.adds refl)) (unholds.next (unholds.bare u) found) answers.Again refl
  made-next (at.Unhold u (answers.NoFrame place)) spare was has e can made =
      unhold-made layout who page slot touch new (unhold-only page slot touch.line was u u.at e can made (has.adds refl)) (unholds.next (unholds.bare u) found) (answers.NoFrame place) refl
  made-next (at.Unhold u (answers.Sigbus place)) spare was has e can made =
      sigbus-made who page slot touch new (unholds.next (unholds.bare u) found) place (refusal-on u u.at e was made) (unhold-bare u found)
  made-next (at.GiveUp g) spare was has e can made = give-up-made layout who page slot touch new (give-up-only page slot touch.line was g.at e can made has.adds) (give_ups.next (give_ups.bare g) found)
  made-next (at.Over answer) spare was has e can made = absurd (none-some step e)
