-- What a step of a fault, and of an access, adds to the entries of its command, and that no loss more is owed after it.
use Rattle.std.proofs.Common.{◌≡◌, ◌⊎◌, inl, inr, ℕ, ◌&&◌, Bool, true, false, cond, List, [], ◌∷◌, Option, Some, None, is_none, filter, refl, sym, ap, ◌∙◌, subst}
use Rattle.std.proofs.Math.Seq.{drop-append_seam}
use Rattle.std.proofs.lemmas.Option.{none-some, same_Some}
use Rattle.hwp_page.specs.hwp_geom.declared.Frame.{Frame}
use Rattle.hwp_page.specs.hwp_geom.declared.Layout.{Layout}
use Rattle.hwp_page.specs.hwp_geom.declared.Page.{Page}
use Rattle.hwp_page.specs.hwp_geom.declared.Thread.{Thread}
use Rattle.hwp_page.specs.hwp_geom.declared.VSlot.{VSlot}
use Rattle.hwp_page.specs.hwp_geom.declared.Who.{Who}
use Rattle.hwp_page.specs.declared.At.{At}
use Rattle.hwp_page.specs.declared.Entry.{Entry}
use Rattle.hwp_page.specs.declared.Met.TheVariants.{Word, Sigbus}
use Rattle.hwp_page.specs.declared.What.{What}
use Rattle.hwp_page.specs.declared.What.TheVariants as entries
use Rattle.hwp_page.specs.History.{BodyValue}
use Rattle.hwp_page.specs.Losses.{is_loss}
use Rattle.hwp_core.specs.hwp_words.Frames.{is_locked}
use Rattle.hwp_core.specs.hwp_words.Names.{page_named}
use Rattle.hwp_core.specs.hwp_words.Stops.{is_stopped}
use Rattle.hwp_core.specs.hwp_core_rule.declared.InHand.{InHand}
use Rattle.hwp_core.specs.hwp_core_rule.declared.Made.{Made}
use Rattle.hwp_core.specs.hwp_core_rule.declared.SharedWord.TheVariants as places
use Rattle.hwp_core.specs.hwp_core_rule.declared.Step.{Step}
use Rattle.hwp_core.specs.hwp_core_rule.declared.Step.TheVariants as steps
use Rattle.hwp_core.specs.hwp_core_rule.declared.View.{View}
use Rattle.hwp_core.specs.hwp_core_rule.Lists.{EachMember}
use Rattle.hwp_core.specs.hwp_core_rule.Logs.{log_of}
use Rattle.hwp_core.specs.hwp_core_rule.Views.{body_of, frame_in, is_body_of, more_of, stamp_of}
use Rattle.hwp_core.proofs.of_hwp_core_rule.ListDrops.{find-is}
use Rattle.hwp_core.specs.hwp_core_rule.declared.Turn.{Turn}
use Rattle.hwp_core.specs.hwp_core_rule.Calls.{CanMake, Steps, logs}
use Rattle.hwp_core.specs.hwp_core_rule.Hands.{body_in}
use Rattle.hwp_core.proofs.of_hwp_core_rule.tasks.StepLeaves.{steps-planned}
use Rattle.hwp_core.specs.hwp_core_rule.Known.{such_deeds}
use Rattle.hwp_core.proofs.of_hwp_core_rule.tasks.MadeEntries.{Lists, ListsNone, deeds-one, deeds-same, frame-lists, kill-lists, page-lists, such-kept}
use Rattle.hwp_core.proofs.of_hwp_core_rule.tasks.StepOwes.{frame-owes, kill-owes, losses-same, page-owes}
use Rattle.hwp_core.specs.declared.give_up.GiveUpAt.{GiveUpAt}
use Rattle.hwp_core.specs.declared.give_up.GiveUpAt.TheVariants as give_up_at
use Rattle.hwp_core.specs.declared.Pin.{Pin}
use Rattle.hwp_core.specs.declared.pin.PinAt.{PinAt}
use Rattle.hwp_core.specs.declared.pin.PinAt.TheVariants as pin_at
use Rattle.hwp_core.specs.declared.Release.{Release}
use Rattle.hwp_core.specs.declared.release.ReleaseAt.{ReleaseAt}
use Rattle.hwp_core.specs.declared.release.ReleaseAt.TheVariants as release_at
use Rattle.hwp_core.specs.declared.Unhold.{Unhold}
use Rattle.hwp_core.specs.declared.unhold.UnholdAt.{UnholdAt}
use Rattle.hwp_core.specs.declared.unhold.UnholdAt.TheVariants as unhold_at
use Rattle.hwp_core.specs.declared.Unlock.{Unlock}
use Rattle.hwp_core.specs.declared.unlock.UnlockAt.{UnlockAt}
use Rattle.hwp_core.specs.declared.unlock.UnlockAt.TheVariants as unlock_at
use Rattle.hwp_core.specs.GiveUps as give_ups
use Rattle.hwp_core.specs.Pins as pins
use Rattle.hwp_core.specs.Releases as releases
use Rattle.hwp_core.specs.Unholds as unholds
use Rattle.hwp_core.specs.Unlocks as unlocks
use Rattle.hwp_core.proofs.TaskCosts.{hold-lists, pin-lists, release-lists}
use Rattle.hwp_fault.specs.declared.access.Access.{Access}
use Rattle.hwp_fault.specs.declared.access.Request.{Request}
use Rattle.hwp_fault.specs.declared.access.AccessAt.{AccessAt}
use Rattle.hwp_fault.specs.declared.access.AccessAt.TheVariants as at
use Rattle.hwp_fault.specs.declared.access.AccessAnswer.{AccessAnswer}
use Rattle.hwp_fault.specs.declared.access.AccessAnswer.TheVariants as answers
use Rattle.hwp_fault.specs.declared.fault.Fault.{Fault}
use Rattle.hwp_fault.specs.declared.fault.FaultAt.{FaultAt}
use Rattle.hwp_fault.specs.declared.fault.FaultAt.TheVariants as fault_at
use Rattle.hwp_fault.specs.declared.fault.FaultAnswer.{FaultAnswer}
use Rattle.hwp_fault.specs.declared.fault.FaultAnswer.TheVariants as fault_answers
use Rattle.hwp_fault.specs.declared.touch.AccessKind.{AccessKind}
use Rattle.hwp_fault.specs.declared.touch.AccessKind.TheVariants as kinds
use Rattle.hwp_fault.specs.declared.touch.Touch.{Touch}
use Rattle.hwp_fault.specs.Accesses as accesses
use Rattle.hwp_fault.specs.Accesses.{FitsFrom, FitsAt, FitsThen, HasLocked, HasToList, LooksOf, Next, NextAt, Prepares, after_fault_at, after_process, at_start, bare, bare_at, check_of, ended, entry_of, is_bad, leading, leads_to, met_by, place_in, plan, plan_at, put, put_at, reached, reply_by, reply_where, unlocked, what_by, what_of, word_in}
use Rattle.hwp_fault.specs.Adds.{Adds, AddsNone, Skips, has_checked, is_checked, is_home, is_listed}
use Rattle.hwp_fault.specs.Faults as faults
use Rattle.hwp_fault.specs.Faults.{AddsOnly, MadeAt}
use Rattle.hwp_fault.specs.Touches.{as_snapshot, refusal_by, refusal_entry, refused}
use Rattle.hwp_fault.proofs.AccessLaws.{can}
use Rattle.hwp_fault.proofs.FaultEntries.{each-one}
use Rattle.hwp_fault.proofs.Deeds.{can-planned, fill-lists, map-in-lists}
use Rattle.hwp_fault.proofs.FaultLaws as faulting
use Rattle.hwp_fault.proofs.TranslationLoads as loading
use Rattle.hwp_fault.proofs.AccessHome.{in-hand, one-more, still-more}

-- ---- a test that finds none

-- the test finds of the command's entries what it found before; and where it finds each loss, no loss more is owed
record Passes (test : What → Bool) (who : Who) (old new : View) : Type 0 where
  pub found : such_deeds test who new ≡ such_deeds test who old
  pub owed : ((what : What) → test what ≡ false → is_loss what ≡ false) → new.owed.losses ≡ old.owed.losses

module _ (test : What → Bool) where
  -- the entries that the body has more, as it goes home, are none that the test finds
  abbrev IsPassed : Entry → Type 0
  IsPassed e = test e.what ≡ false

  abbrev PassesAll : View → Option BodyValue → Type 0
  PassesAll view given = (body : BodyValue) → given ≡ Some body → (taken : InHand) → body_of body.page view ≡ Some taken → EachMember IsPassed (more_of taken (log_of body))

  module _ (skips : Skips test) where
    bringing-passed : (slot : VSlot) (what : What) → (what ≡ entries.FaultIn) ⊎ (what ≡ entries.Map slot) → test what ≡ false
    bringing-passed slot what (inl is) = ap test is ∙ skips.fault_in
    bringing-passed slot what (inr is) = ap test is ∙ skips.map slot

    refusal-passed : (kind : AccessKind) (slot : VSlot) (line : ℕ) (thread : Thread) → test (refusal_by kind slot line thread) ≡ false
    refusal-passed kinds.Load slot line thread = skips.load slot line (Sigbus thread)
    refusal-passed (kinds.Store word) slot line thread = skips.store slot line (Sigbus thread)

    word-passed : (kind : AccessKind) (slot : VSlot) (line mask word : ℕ) → test (what_by kind slot line (record { 0 = mask }) word) ≡ false
    word-passed kinds.Load slot line mask word = skips.load slot line (Word (record { 0 = mask }) word)
    word-passed (kinds.Store stored) slot line mask word = skips.store slot line (Word (record { 0 = mask }) stored)

    adding-passes : (view : View) (page : Page) (slot : VSlot) (given : Option BodyValue) → ((body : BodyValue) → given ≡ Some body → AddsOnly view page slot body) → PassesAll view given
    adding-passes view page slot given adds body is taken there i e at =
        let held = find-is (is_body_of body.page) view.bodies taken there in bringing-passed slot e.what ((adds body is).only held.0 taken held.1 i e at)

    refusing-passes : {base : List Made} {who : Who} {page : Page} {slot : VSlot} {touch : Touch} {place : ℕ} (view : View) (given : Option BodyValue) → faults.HasToList base view who page slot touch given place → PassesAll view given
    refusing-passes {base} {who} {page} {slot} {touch} view given has body is taken there =
        subst (EachMember IsPassed) (sym more) (each-one IsPassed (refusal_entry who slot touch) (refusal-passed touch.kind slot touch.line touch.thread))
      where
        same : has.body ≡ body
        same = same_Some has.body body (sym has.put_is ∙ is)

        own : has.taken ≡ taken
        own = same_Some has.taken taken (sym has.taken_is ∙ ap (λ (b : BodyValue). body_of b.page view) same ∙ there)

        more : more_of taken (log_of body) ≡ refusal_entry who slot touch ∷ []
        more = sym (ap (λ (t : InHand). more_of t (log_of body)) own) ∙ sym (ap (λ (b : BodyValue). more_of has.taken (log_of b)) same) ∙ has.more

  -- there are none
  still-passes : (view : View) (given : Option BodyValue) → ((body : BodyValue) → given ≡ Some body → (taken : InHand) × (body_of body.page view ≡ Some taken) × (more_of taken (log_of body) ≡ [])) → PassesAll view given
  still-passes view given still body is taken there = subst (EachMember IsPassed) (sym more) (λ i e at. absurd (none-some e at))
    where
      rest : (t : InHand) × (body_of body.page view ≡ Some t) × (more_of t (log_of body) ≡ [])
      rest = still body is

      more : more_of taken (log_of body) ≡ []
      more = sym (ap (λ (t : InHand). more_of t (log_of body)) (same_Some rest.0 taken (sym rest.1 ∙ there))) ∙ rest.2

  -- ---- steps that put a body, or none

  module _ {layout : Layout} (who : Who) {old new : View} {found : ℕ} {got : Option BodyValue} where
    none-listed : {step : Step} → ListsNone step → Steps layout who step None old new found got → Passes test who old new
    none-listed lists made = record { found = ap (filter (λ (m : Made). test m.entry.what)) (deeds-same who lists made); owed = λ finds. losses-same lists made }

    frame-passes : {frame : Frame} (body : Option BodyValue) → CanMake layout who (steps.UnlockFrame frame) body old → Steps layout who (steps.UnlockFrame frame) (logs body) old new found got → PassesAll old body → Passes test who old new
    frame-passes None can made passes = none-listed tt made
    frame-passes (Some b) can made passes = let each = passes b refl can.asks.kind.put.body can.asks.kind.put.body_is in record {
      found = such-kept who test (frame-lists can.asks.kind.put.body_is made) each;
      owed = λ finds. frame-owes can.asks.kind.put.body_is (λ i e at. finds e.what (each i e at)) made;
    }

    page-passes : {freed : Page} (body : Option BodyValue) → CanMake layout who (steps.UnlockPage freed) body old → Steps layout who (steps.UnlockPage freed) (logs body) old new found got → PassesAll old body → Passes test who old new
    page-passes None can made passes = none-listed tt made
    page-passes (Some b) can made passes = let each = passes b refl can.asks.kind.put.body can.asks.kind.put.body_is in record {
      found = such-kept who test (page-lists can.asks.kind.put.body_is made) each;
      owed = λ finds. page-owes can.asks.kind.put.body_is (λ i e at. finds e.what (each i e at)) made;
    }

    unhold-passes : {step : Step} (u : Unhold) (x : UnholdAt) → unholds.plan_at u.page x ≡ Some step → CanMake layout who step (unholds.put_at x) old → Steps layout who step (logs (unholds.put_at x)) old new found got
        → PassesAll old (unholds.put_at x) → Passes test who old new
    unhold-passes {step} u (unhold_at.UnlockFrame frame count body) e can made passes = frame-passes body (can-planned e can) (steps-planned e made) passes
    unhold-passes {step} u (unhold_at.Release r) e can made passes = none-listed (release-lists r step e) made
    unhold-passes {step} u (unhold_at.UnlockPage body) e can made passes = page-passes body (can-planned e can) (steps-planned e made) passes
    unhold-passes {step} u unhold_at.Over e can made passes = absurd (none-some step e)

    unlock-passes : {step : Step} (x : UnlockAt) → unlocks.plan_at x ≡ Some step → CanMake layout who step (unlocks.put_at x) old → Steps layout who step (logs (unlocks.put_at x)) old new found got
        → PassesAll old (unlocks.put_at x) → Passes test who old new
    unlock-passes {step} (unlock_at.UnlockFrame frame body) e can made passes = frame-passes body (can-planned e can) (steps-planned e made) passes
    unlock-passes {step} (unlock_at.Release r) e can made passes = none-listed (release-lists r step e) made
    unlock-passes {step} unlock_at.Over e can made passes = absurd (none-some step e)

    give-up-passes : {step : Step} (x : GiveUpAt) → give_ups.plan_at x ≡ Some step → CanMake layout who step (give_ups.put_at x) old → Steps layout who step (logs (give_ups.put_at x)) old new found got
        → PassesAll old (give_ups.put_at x) → Passes test who old new
    give-up-passes {step} (give_up_at.Unhold u) e can made passes = unhold-passes u u.at e can made passes
    give-up-passes {step} (give_up_at.Unlock u) e can made passes = unlock-passes u.at e can made passes
    give-up-passes {step} give_up_at.GiveUp e can made passes = none-listed (subst ListsNone (same_Some steps.GiveUp step e) tt) made
    give-up-passes {step} give_up_at.Over e can made passes = absurd (none-some step e)

-- ---- a fault

module _ {base : List Made} (layout : Layout) (old new : View) (f : Fault) (step : Step) (found : ℕ) (got : Option BodyValue) (fits : faults.FitsFrom base layout old f) where
  -- the entry that the access was answered by SIGBUS, as the process is ended
  kill-passes : (test : What → Bool) → Skips test → (frame : Option Frame) (body : BodyValue) (place : At) → faults.IsEnding layout old f.who f.page f.slot f.touch frame body place
      → Steps layout f.who (steps.Kill f.touch.process f.page (as_snapshot body)) None old new found got → Passes test f.who old new
  kill-passes test skips frame body place has made = record {
    found = such-kept f.who test (kill-lists (loading.in-hand has.held) own) each;
    owed = λ finds. kill-owes (loading.in-hand has.held) (λ i e at. finds e.what (each i e at)) own;
  }
    where
      entry : Entry
      entry = refusal_entry f.who f.slot f.touch

      own : Steps layout f.who (steps.Kill f.touch.process f.page (as_snapshot (refused f.who f.slot f.touch has.before))) None old new found got
      own = subst (λ (b : BodyValue). Steps layout f.who (steps.Kill f.touch.process f.page (as_snapshot b)) None old new found got) has.body_is made

      more : more_of (body_in frame (log_of has.before) has.held.seen) (log_of (refused f.who f.slot f.touch has.before)) ≡ refusal_entry f.who f.slot f.touch ∷ []
      more = drop-append_seam has.before.log (refusal_entry f.who f.slot f.touch ∷ [])

      each : EachMember (λ (e : Entry). test e.what ≡ false) (more_of (body_in frame (log_of has.before) has.held.seen) (log_of (refused f.who f.slot f.touch has.before)))
      each = subst (EachMember (λ (e : Entry). test e.what ≡ false)) (sym more) (each-one (λ (e : Entry). test e.what ≡ false) entry (refusal-passed test skips f.touch.kind f.slot f.touch.line f.touch.thread))

  fault-passes : faults.plan f ≡ Some step → Steps layout f.who step (logs (faults.put f)) old new found got → (test : What → Bool) → Skips test → Passes test f.who old new
  fault-passes is made test skips = which f.at is fits.made fits.at (faulting.can layout old f step fits is) made
    where
      which : (x : FaultAt) → faults.plan_at f.page f.slot f.touch x ≡ Some step → MadeAt base old f.who f.page f.slot f.touch x → faults.FitsAt layout old f.who f.page f.slot f.touch x → CanMake layout f.who step (faults.put_at x) old
          → Steps layout f.who step (logs (faults.put_at x)) old new found got → Passes test f.who old new
      which (fault_at.Hold h) e was has can made = none-listed test f.who (hold-lists h step e) made
      which (fault_at.LoadPte frame body) e was has can made = none-listed test f.who (subst ListsNone (same_Some (steps.Load (places.Trans f.slot)) step e) tt) made
      which (fault_at.Kill frame body place) e was has can made = kill-passes test skips frame body place has (steps-planned e made)
      which (fault_at.Fill g) e was has can made = none-listed test f.who (fill-lists g step e) made
      which (fault_at.MapIn m) e was has can made = none-listed test f.who (map-in-lists m step e) made
      which (fault_at.Unhold u fault_answers.Again) e was has can made = unhold-passes test f.who u u.at e can made (adding-passes test skips old f.page f.slot (unholds.put u) (has.adds refl))
      which (fault_at.Unhold u (fault_answers.NoFrame place)) e was has can made = unhold-passes test f.who u u.at e can made (adding-passes test skips old f.page f.slot (unholds.put u) (has.adds refl))
      which (fault_at.Unhold u (fault_answers.Sigbus place)) e (inl was) has can made = unhold-passes test f.who u u.at e can made (refusing-passes test skips old (unholds.put u) was)
      which (fault_at.Unhold u (fault_answers.Sigbus place)) e (inr was) has can made = unhold-passes test f.who u u.at e can made (still-passes test old (unholds.put u) was.rest)
      which (fault_at.GiveUp g) e was has can made = give-up-passes test f.who g.at e can made (adding-passes test skips old f.page f.slot (give_ups.put g) has.adds)
      which (fault_at.Over answer) e was has can made = absurd (none-some step e)

-- ---- an access: which states have its machine check

start-unchecked : (found : ℕ) → has_checked (at_start found) ≡ false
start-unchecked found = by (is_stopped found)
  where
    by : (b : Bool) → has_checked (cond b (at.Over answers.Stopped) at.LoadProcess) ≡ false
    by true = refl
    by false = refl

process-unchecked : (p : Option Page) → has_checked (after_process p) ≡ false
process-unchecked None = refl
process-unchecked (Some page) = refl

leading-unchecked : (a : Request) (f : Option Frame) → has_checked (leading a f) ≡ false
leading-unchecked a None = refl
leading-unchecked a (Some frame) = refl

pin-unchecked : (p : Pin) (x : PinAt) → has_checked (accesses.pinned_at p x) ≡ false
pin-unchecked p pin_at.Load = refl
pin-unchecked p (pin_at.Get seen) = refl
pin-unchecked p (pin_at.Held word) = refl
pin-unchecked p (pin_at.Gone word) = refl

lock-unchecked : (b : Bool) (frame : Frame) (got : Option BodyValue) → has_checked (cond b (at.LockFrame frame) (at.LoadAgain frame got)) ≡ false
lock-unchecked true frame got = refl
lock-unchecked false frame got = refl

prepared-unchecked : (a : Request) (frame : Frame) (body : BodyValue) (y : AccessAt) → Prepares a frame body y → has_checked y ≡ false
prepared-unchecked a frame body (at.LoadBad of ready) is = refl
prepared-unchecked a frame body (at.GiveUp g) is = refl
prepared-unchecked a frame body at.LoadStop is = absurd is
prepared-unchecked a frame body at.LoadProcess is = absurd is
prepared-unchecked a frame body at.LoadTranslation is = absurd is
prepared-unchecked a frame body (at.Pin p) is = absurd is
prepared-unchecked a frame body (at.LockFrame of) is = absurd is
prepared-unchecked a frame body (at.LoadAgain of other) is = absurd is
prepared-unchecked a frame body (at.Unlock u then) is = absurd is
prepared-unchecked a frame body (at.Fault f) is = absurd is
prepared-unchecked a frame body (at.Over answer) is = absurd is

looks-unchecked : (b : Bool) (a : Request) (frame : Frame) (body : Option BodyValue) (y : AccessAt) → LooksOf b a frame body y → has_checked y ≡ false
looks-unchecked true a frame None y is = absurd is
looks-unchecked true a frame (Some body) y is = prepared-unchecked a frame body y is
looks-unchecked false a frame body y is = ap has_checked is

fault-unchecked : (f : Fault) (x : Option FaultAnswer) → has_checked (after_fault_at f x) ≡ false
fault-unchecked f None = refl
fault-unchecked f (Some fault_answers.Again) = refl
fault-unchecked f (Some (fault_answers.NoFrame place)) = refl
fault-unchecked f (Some (fault_answers.Sigbus place)) = refl

word-unchecked : (kind : AccessKind) (word : ℕ) (place : At) → is_checked (reply_by kind word place) ≡ false
word-unchecked kinds.Load word place = refl
word-unchecked (kinds.Store stored) word place = refl

-- whether the answer is such
abbrev is_told : Option AccessAnswer → Bool
is_told None = false
is_told (Some answer) = is_checked answer

-- after a step of its unlocking, the body is home
unlock-tells : (u : Unlock) (found : ℕ) (then : Option AccessAnswer) → has_checked (unlocked (unlocks.next (unlocks.bare u) found) then) ≡ is_told then
unlock-tells u found then = ends (is_none (unlocks.plan next)) then ∙ home then
  where
    next : Unlock
    next = unlocks.next (unlocks.bare u) found

    released : (r : Release) (y : ReleaseAt) → is_home (unlocks.after_release_at r y) ≡ true
    released r release_at.Put = refl
    released r (release_at.Give word) = refl
    released r (release_at.Unreserve word) = refl
    released r (release_at.Adopt word) = refl
    released r (release_at.Retire word) = refl
    released r (release_at.Back word) = refl

    is-home : (x : UnlockAt) → is_home (unlocks.next_at u.who (unlocks.bare_at x) found) ≡ true
    is-home (unlock_at.UnlockFrame frame body) = refl
    is-home (unlock_at.Release r) = released (releases.next r found) (releases.next_at r.count r.at found)
    is-home unlock_at.Over = refl

    home : (then : Option AccessAnswer) → is_listed (unlocks.next_at u.who (unlocks.bare_at u.at) found) then ≡ is_told then
    home None = refl
    home (Some answer) = ap (λ (b : Bool). b && is_checked answer) (is-home u.at)

    ends : (over : Bool) (then : Option AccessAnswer) → has_checked (cond over (ended then) (at.Unlock next then)) ≡ is_listed (unlocks.next_at u.who (unlocks.bare_at u.at) found) then
    ends true None = refl
    ends true (Some answer) = sym (home (Some answer))
    ends false then = refl

-- ---- an access

module _ (a : Request) {layout : Layout} {old new : View} {found : ℕ} {got : Option BodyValue} where
  -- nothing is listed
  quiet : {step : Step} → ListsNone step → Steps layout a.who step None old new found got → AddsNone a.who old new
  quiet lists made test skips = (none-listed test a.who lists made).found

  -- the body goes home with the entry
  entry-added : (base : List Made) (frame : Frame) (body : Option BodyValue) (answer : AccessAnswer) → HasToList base layout old a frame body answer → Steps layout a.who (steps.UnlockFrame frame) (logs body) old new found got
      → Adds a old new false (is_checked answer)
  entry-added base frame None answer has made = absurd has
  entry-added base frame (Some b) answer has made = subst (Adds a old new false) (sym (ap is_checked has.answer_is)) (by (is_bad has.mask a.line) lists (one-more has.taken a has.mask))
    where
      lists : Lists old new (stamp_of a.who old) (body_in (Some frame) (log_of has.before) has.taken.seen) (log_of (reached a has.mask has.before))
      lists = frame-lists (in-hand has.taken) (subst (λ (x : BodyValue). Steps layout a.who (steps.UnlockFrame frame) (Some (log_of x)) old new found got) has.body_is made)

      by : (bad : Bool) → Lists old new (stamp_of a.who old) (body_in (Some frame) (log_of has.before) has.taken.seen) (log_of (reached a has.mask has.before))
          → more_of (body_in (Some frame) (log_of has.before) has.taken.seen) (log_of (reached a has.mask has.before)) ≡ entry_of a (met_by bad a has.mask (word_in a has.before)) ∷ []
          → Adds a old new false (is_checked (reply_where bad a frame has.before))
      by true lists more =
          let one = deeds-one a.who lists (entry_of a (check_of a has.mask)) more refl in
          inr (record { mask = has.mask; check = one.0; what_is = one.2.2; added = one.1 }, refl, refl)
      by false lists more = inl (
        λ test skips. such-kept a.who test lists (subst (EachMember (λ (e : Entry). test e.what ≡ false)) (sym more)
            (each-one (λ (e : Entry). test e.what ≡ false) (entry_of a (what_of a has.mask (word_in a has.before))) (word-passed test skips a.kind a.slot a.line has.mask (word_in a has.before)))),
        word-unchecked a.kind (word_in a has.before) (place_in a has.before),
      )

  -- the body goes home as it was taken
  none-added : (frame : Frame) (body : Option BodyValue) → HasLocked layout old frame body → Steps layout a.who (steps.UnlockFrame frame) (logs body) old new found got → AddsNone a.who old new
  none-added frame None has made = quiet tt made
  none-added frame (Some b) has made = λ test skips. such-kept a.who test (frame-lists (in-hand has) made) (subst (EachMember (λ (e : Entry). test e.what ≡ false)) (sym (still-more has a.who)) (λ i e at. absurd (none-some e at)))

  unlock-adds : (base : List Made) {step : Step} (x : UnlockAt) (then : Option AccessAnswer) → unlocks.plan_at x ≡ Some step → FitsThen base layout old a x then → Steps layout a.who step (logs (unlocks.put_at x)) old new found got
      → Adds a old new (is_listed x then) (is_told then)
  unlock-adds base {step} (unlock_at.UnlockFrame frame body) None e has made = inl (none-added frame body has.1 (steps-planned e made), refl)
  unlock-adds base {step} (unlock_at.UnlockFrame frame body) (Some answer) e has made = entry-added base frame body answer has (steps-planned e made)
  unlock-adds base {step} (unlock_at.Release r) None e has made = inl (quiet (release-lists r step e) made, refl)
  unlock-adds base {step} (unlock_at.Release r) (Some answer) e has made = inl (quiet (release-lists r step e) made, refl)
  unlock-adds base {step} unlock_at.Over then e has made = absurd (none-some step e)

pub access-adds : {base : List Made} (layout : Layout) (old new : View) (a : Access) (step : Step) (found : ℕ) (got : Option BodyValue) → FitsFrom base layout old a → plan a ≡ Some step → Steps layout a.request.who step (logs (put a)) old new found got
    → (after : Access) (turn : Turn) → Next layout (bare a) found got after turn → Adds a.request old new (has_checked a.at) (has_checked after.at)
access-adds {base} layout old new a step found got fits is made after turn next = which a.at is fits.at (can layout old a step fits is) made after.at next.at
  where
    r : Request
    r = a.request

    which : (x : AccessAt) → plan_at a.request x ≡ Some step → FitsAt base layout old a.request x → CanMake layout a.request.who step (put_at x) old → Steps layout a.request.who step (logs (put_at x)) old new found got
        → (y : AccessAt) → NextAt layout a.request (bare_at x) found got y turn → Adds a.request old new (has_checked x) (has_checked y)
    which at.LoadStop e has can made y next = inl (quiet a.request (subst ListsNone (same_Some (steps.Load places.Stop) step e) tt) made, ap has_checked next.0 ∙ start-unchecked found)
    which at.LoadProcess e has can made y next = inl (quiet a.request (subst ListsNone (same_Some (steps.Load (places.Process a.request.process)) step e) tt) made, ap has_checked next.0 ∙ process-unchecked (page_named found))
    which at.LoadTranslation e has can made y next = inl (quiet a.request (subst ListsNone (same_Some (steps.Load (places.Trans a.request.slot)) step e) tt) made, ap has_checked next.0 ∙ leading-unchecked a.request (frame_in found))
    which (at.Pin p) e has can made y next = inl (quiet a.request (pin-lists p step e) made, ap has_checked next.0 ∙ pin-unchecked (pins.next p found) (pins.next_at p.at found))
    which (at.LockFrame frame) e has can made y next = inl (quiet a.request (subst ListsNone (same_Some (steps.LockFrame frame) step e) tt) made, ap has_checked next.0 ∙ lock-unchecked (is_locked found) frame got)
    which (at.LoadAgain frame body) e has can made y next = inl (quiet a.request (subst ListsNone (same_Some (steps.Load (places.Trans a.request.slot)) step e) tt) made, looks-unchecked (leads_to frame found) a.request frame body y next.0)
    which (at.LoadBad frame body) e has can made y next = inl (quiet a.request (subst ListsNone (same_Some (steps.Load (places.Bad frame)) step e) tt) made, ap has_checked next.0)
    which (at.Unlock u then) e has can made y next = subst (Adds a.request old new (is_listed u.at then)) (sym (ap has_checked next.0 ∙ unlock-tells u found then)) (unlock-adds a.request base u.at then e has.goal made)
    which (at.Fault f) e has can made y next = inl (
      subst (λ (w : Who). AddsNone w old new) has.own (λ test skips. (fault-passes layout old new f step found got has.fault e (subst (λ (w : Who). Steps layout w step (logs (faults.put f)) old new found got) (sym has.own) made) test skips).found),
      ap has_checked next.next_is ∙ fault-unchecked next.after (faults.answer next.after),
    )
    which (at.GiveUp g) e has can made y next = inl (λ test skips. (give-up-passes test a.request.who g.at e can made (still-passes test old (give_ups.put g) has.still)).found, ap has_checked next.0)
    which (at.Over answer) e has can made y next = absurd (none-some step e)

-- ---- an access owes no loss more

skips-loss : Skips is_loss
skips-loss = record { fault_in = refl; map = λ slot. refl; load = λ slot line met. refl; store = λ slot line met. refl }

met-lossless : (a : Request) (mask word : ℕ) (bad : Bool) → is_loss (met_by bad a mask word) ≡ false
met-lossless a mask word true = refl
met-lossless a mask word false = word-passed is_loss skips-loss a.kind a.slot a.line mask word

module _ (a : Request) {layout : Layout} {old new : View} {found : ℕ} {got : Option BodyValue} where
  still-owes : (frame : Frame) (body : Option BodyValue) → HasLocked layout old frame body → Steps layout a.who (steps.UnlockFrame frame) (logs body) old new found got → new.owed.losses ≡ old.owed.losses
  still-owes frame None has made = losses-same tt made
  still-owes frame (Some b) has made = frame-owes (in-hand has) (subst (EachMember (λ (e : Entry). is_loss e.what ≡ false)) (sym (still-more has a.who)) (λ i e at. absurd (none-some e at))) made

  entry-owes : (base : List Made) (frame : Frame) (body : Option BodyValue) (answer : AccessAnswer) → HasToList base layout old a frame body answer → Steps layout a.who (steps.UnlockFrame frame) (logs body) old new found got → new.owed.losses ≡ old.owed.losses
  entry-owes base frame None answer has made = absurd has
  entry-owes base frame (Some b) answer has made = frame-owes (in-hand has.taken)
      (subst (EachMember (λ (e : Entry). is_loss e.what ≡ false)) (sym (one-more has.taken a has.mask))
      (each-one (λ (e : Entry). is_loss e.what ≡ false) (entry_of a (met_by (is_bad has.mask a.line) a has.mask (word_in a has.before))) (met-lossless a has.mask (word_in a has.before) (is_bad has.mask a.line))))
      (subst (λ (x : BodyValue). Steps layout a.who (steps.UnlockFrame frame) (Some (log_of x)) old new found got) has.body_is made)

  unlock-owes : (base : List Made) {step : Step} (x : UnlockAt) (then : Option AccessAnswer) → unlocks.plan_at x ≡ Some step → FitsThen base layout old a x then → Steps layout a.who step (logs (unlocks.put_at x)) old new found got → new.owed.losses ≡ old.owed.losses
  unlock-owes base {step} (unlock_at.UnlockFrame frame body) None e has made = still-owes frame body has.1 (steps-planned e made)
  unlock-owes base {step} (unlock_at.UnlockFrame frame body) (Some answer) e has made = entry-owes base frame body answer has (steps-planned e made)
  unlock-owes base {step} (unlock_at.Release r) then e has made = losses-same (release-lists r step e) made
  unlock-owes base {step} unlock_at.Over then e has made = absurd (none-some step e)

pub access-owes : {base : List Made} (layout : Layout) (old new : View) (a : Access) (step : Step) (found : ℕ) (got : Option BodyValue) → FitsFrom base layout old a → plan a ≡ Some step → Steps layout a.request.who step (logs (put a)) old new found got
    → new.owed.losses ≡ old.owed.losses
access-owes {base} layout old new a step found got fits is made = which a.at is fits.at (can layout old a step fits is) made
  where
    which : (x : AccessAt) → plan_at a.request x ≡ Some step → FitsAt base layout old a.request x → CanMake layout a.request.who step (put_at x) old → Steps layout a.request.who step (logs (put_at x)) old new found got → new.owed.losses ≡ old.owed.losses
    which at.LoadStop e has can made = losses-same (subst ListsNone (same_Some (steps.Load places.Stop) step e) tt) made
    which at.LoadProcess e has can made = losses-same (subst ListsNone (same_Some (steps.Load (places.Process a.request.process)) step e) tt) made
    which at.LoadTranslation e has can made = losses-same (subst ListsNone (same_Some (steps.Load (places.Trans a.request.slot)) step e) tt) made
    which (at.Pin p) e has can made = losses-same (pin-lists p step e) made
    which (at.LockFrame frame) e has can made = losses-same (subst ListsNone (same_Some (steps.LockFrame frame) step e) tt) made
    which (at.LoadAgain frame body) e has can made = losses-same (subst ListsNone (same_Some (steps.Load (places.Trans a.request.slot)) step e) tt) made
    which (at.LoadBad frame body) e has can made = losses-same (subst ListsNone (same_Some (steps.Load (places.Bad frame)) step e) tt) made
    which (at.Unlock u then) e has can made = unlock-owes a.request base u.at then e has.goal made
    which (at.Fault f) e has can made =
        (fault-passes layout old new f step found got has.fault e (subst (λ (w : Who). Steps layout w step (logs (faults.put f)) old new found got) (sym has.own) made) is_loss skips-loss).owed (λ what none. none)
    which (at.GiveUp g) e has can made = (give-up-passes is_loss a.request.who g.at e can made (still-passes is_loss old (give_ups.put g) has.still)).owed (λ what none. none)
    which (at.Over answer) e has can made = absurd (none-some step e)
