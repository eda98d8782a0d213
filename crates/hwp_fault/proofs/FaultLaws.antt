-- The laws of `Fault`, and what stands before it and after it.
use Rattle.std.proofs.Common.{◌≡◌, ◌≢◌, ◌⊎◌, inl, inr, ℕ, ◌+◌, ◌<◌, ◌≤◌, ◌==◌, Bool, true, false, not, cond, List, [], ◌∷◌, Option, Some, None, is_none, length, slice_get, IsSomeAnd, refl, sym, ap, ◌∙◌, subst, arith}
use Rattle.std.proofs.Math.Seq.{drop-append_seam}
use Rattle.std.proofs.lemmas.Bool.{both_ways, ne_eqb}
use Rattle.std.proofs.lemmas.List.{drop_all}
use Rattle.std.proofs.lemmas.Option.{none-some, same_Some}
use Rattle.std.specs.FinSet as set
use Rattle.hwp_page.specs.hwp_geom.declared.Frame.{Frame}
use Rattle.hwp_page.specs.hwp_geom.declared.Layout.{Layout}
use Rattle.hwp_page.specs.hwp_geom.declared.Page.{Page}
use Rattle.hwp_page.specs.hwp_geom.declared.ThreadDecl.{ThreadDecl}
use Rattle.hwp_page.specs.hwp_geom.declared.TransDecl.{TransDecl}
use Rattle.hwp_page.specs.hwp_geom.declared.VSlot.{VSlot}
use Rattle.hwp_page.specs.hwp_geom.declared.Who.{Who}
use Rattle.hwp_page.specs.declared.At.{At}
use Rattle.hwp_page.specs.declared.PageState.{PageState}
use Rattle.hwp_page.specs.declared.What.TheVariants as entries
use Rattle.hwp_page.specs.Endings.{ends}
use Rattle.hwp_page.specs.History.{BodyValue, IsReplay}
use Rattle.hwp_page.specs.Step.{IsOf, IsRefused, IsThreadOf, after}
use Rattle.hwp_core.specs.hwp_words.declared.Pte.{Pte}
use Rattle.hwp_core.specs.hwp_words.declared.Pte.TheVariants as ptes
use Rattle.hwp_core.specs.hwp_words.Names.{frame_name}
use Rattle.hwp_core.specs.hwp_words.Translations.{pte_reading}
use Rattle.hwp_core.specs.hwp_core_rule.declared.InHand.{InHand}
use Rattle.hwp_core.specs.hwp_core_rule.declared.Log.{Log}
use Rattle.hwp_core.specs.hwp_core_rule.declared.Made.{Made}
use Rattle.hwp_core.specs.hwp_core_rule.declared.SharedWord.TheVariants as places
use Rattle.hwp_core.specs.hwp_core_rule.declared.Step.{Step}
use Rattle.hwp_core.specs.hwp_core_rule.declared.Step.TheVariants as steps
use Rattle.hwp_core.specs.hwp_core_rule.declared.View.{View}
use Rattle.hwp_core.specs.hwp_core_rule.Asks.{CanKill}
use Rattle.hwp_core.specs.hwp_core_rule.Lists.{EachMember}
use Rattle.hwp_core.specs.hwp_core_rule.Logs.{log_of}
use Rattle.hwp_core.specs.hwp_core_rule.Views.{more_of}
use Rattle.hwp_core.specs.hwp_core_rule.declared.Turn.{Turn}
use Rattle.hwp_core.specs.hwp_core_rule.Calls.{CanMake, Steps, IsOnTurn, logs}
use Rattle.hwp_core.specs.hwp_core_rule.Hands.{Hand, hand_of, body_in, empty}
use Rattle.hwp_core.proofs.of_hwp_core_rule.tasks.StepLeaves.{on-turn-after, hand-planned, steps-planned, can-make}
use Rattle.hwp_core.specs.hwp_core_rule.Ranks.{HasFrame, HasPage}
use Rattle.hwp_core.specs.hwp_core_rule.Turns.{IsTask}
use Rattle.hwp_core.specs.hwp_core_rule.Known.{SawLog, HasOnlyBeside, Precedes}
use Rattle.hwp_core.proofs.of_hwp_core_rule.tasks.SightKeeps.{saw-stays, saw-log-stays, saw-state-stays}
use Rattle.hwp_evict.specs.declared.Fill.{Fill}
use Rattle.hwp_evict.specs.declared.fill.FillAt.{FillAt}
use Rattle.hwp_evict.specs.declared.fill.FillAt.TheVariants as fill_at
use Rattle.hwp_core.specs.declared.GiveUp.{GiveUp}
use Rattle.hwp_core.specs.declared.give_up.GiveUpAt.{GiveUpAt}
use Rattle.hwp_core.specs.declared.give_up.GiveUpAt.TheVariants as give_up_at
use Rattle.hwp_core.specs.declared.Hold.{Hold}
use Rattle.hwp_core.specs.declared.hold.HoldAt.{HoldAt}
use Rattle.hwp_core.specs.declared.hold.HoldAt.TheVariants as hold_at
use Rattle.hwp_core.specs.declared.Refer.{Refer}
use Rattle.hwp_core.specs.declared.refer.ReferAt.{ReferAt}
use Rattle.hwp_core.specs.declared.refer.ReferAt.TheVariants as refer_at
use Rattle.hwp_evict.specs.declared.Take.{Take}
use Rattle.hwp_evict.specs.declared.take.TakeAt.{TakeAt}
use Rattle.hwp_evict.specs.declared.take.TakeAt.TheVariants as take_at
use Rattle.hwp_core.specs.declared.Unhold.{Unhold}
use Rattle.hwp_evict.specs.Fills as fills
use Rattle.hwp_evict.specs.Fills.{CanBring, brought}
use Rattle.hwp_core.specs.GiveUps as give_ups
use Rattle.hwp_core.specs.Holds as holds
use Rattle.hwp_core.specs.Holds.{HoldsPage, IsBodyOf}
use Rattle.hwp_core.specs.Refers as refers
use Rattle.hwp_evict.specs.Takes as takes
use Rattle.hwp_core.specs.Unholds as unholds
use Rattle.hwp_core.specs.Unholds.{HoldsAhead}
use Rattle.hwp_core.specs.Unlocks as unlocks
use Rattle.hwp_core.proofs.BodyStates.{replay-state}
use Rattle.hwp_evict.proofs.FillLaws as filling
use Rattle.hwp_core.proofs.GiveUpLaws as giving_up
use Rattle.hwp_core.proofs.HoldLaws as holding
use Rattle.hwp_core.proofs.HoldEnds.{ahead-unholds, held-ahead, held-unholds, nothing-left}
use Rattle.hwp_core.proofs.TaskTells.{Tells, no-frame, no-page, page-tells, frame-tells, hold-tells, unhold-tells, give-up-tells}
use Rattle.hwp_core.proofs.UnholdLaws as unholding
use Rattle.hwp_fault.specs.declared.fault.Fault.{Fault}
use Rattle.hwp_fault.specs.declared.fault.FaultAt.{FaultAt}
use Rattle.hwp_fault.specs.declared.fault.FaultAt.TheVariants as at
use Rattle.hwp_fault.specs.declared.fault.FaultAnswer.{FaultAnswer}
use Rattle.hwp_fault.specs.declared.fault.FaultAnswer.TheVariants as answers
use Rattle.hwp_fault.specs.declared.map_in.MapIn.{MapIn}
use Rattle.hwp_fault.specs.declared.map_in.MapInAt.{MapInAt}
use Rattle.hwp_fault.specs.declared.map_in.MapInAt.TheVariants as map_in_at
use Rattle.hwp_fault.specs.declared.touch.Touch.{Touch}
use Rattle.hwp_fault.specs.MapIns as map_ins
use Rattle.hwp_fault.specs.MapIns.{IsBringing, HoldsWithFrame, CanMapIn, added}
use Rattle.hwp_fault.specs.Faults.{begin, plan, plan_at, put, put_at, bare, bare_at, answer, answer_at, let_go, refuse, with_room, after_hold, after_pte, is_refused, after_fill, after_map_in, after_unhold, after_give_up, next, next_at, IsRoom, Follows, Shows, ShowsAt, AddsOnly, IsEnding, IsFree, IsHeld, IsWhy, FitsOver, FitsFrom, FitsAt, MadeAt, class, class_at, task as fault-task}
use Rattle.hwp_fault.specs.Touches.{IsTouch, as_snapshot, refused}
use Rattle.hwp_fault.proofs.FaultEntries.{each-one, state-more, ahead-with-frame}
use Rattle.hwp_fault.proofs.Deeds.{give-up-bare, made-next, page-still, unhold-bare}
use Rattle.hwp_fault.proofs.TranslationLoads.{bodies, state-is, inside, pte-met, reads-frame, reads-poison}
use Rattle.hwp_fault.proofs.MapInLaws as mapping
use Rattle.hwp_fault.proofs.AccessRefusals.{can-kill, lets-go-at-once, lets-go-killed}

-- ---- the steps can be made

pub can : {base : List Made} (layout : Layout) (view : View) (f : Fault) (step : Step) → FitsFrom base layout view f → plan f ≡ Some step → CanMake layout f.who step (put f) view
can layout view f step fits is = which f.at fits.at is
  where
    which : (x : FaultAt) → FitsAt layout view f.who f.page f.slot f.touch x → plan_at f.page f.slot f.touch x ≡ Some step → CanMake layout f.who step (put_at x) view
    which (at.Hold h) has e = subst (λ (w : Who). CanMake layout w step None view) has.own (holding.can layout view h step has.hold e)
    which (at.LoadPte frame body) has e = can-make fits.on_turn e (inside f.slot has.held fits.slot) tt
    which (at.Kill frame body place) has e = can-make fits.on_turn e fits.touch.process
        (subst (λ (b : BodyValue). CanKill layout f.who view f.touch.process f.page (log_of b)) (sym has.body_is) (can-kill f.who f.slot f.touch has.held has.allowed has.ending fits.page))
    which (at.Fill g) has e = subst (λ (w : Who). CanMake layout w step None view) has.own (filling.can layout view g step has.fill e)
    which (at.MapIn m) has e = subst (λ (w : Who). CanMake layout w step None view) has.own (mapping.can layout view m step has.map_in e)
    which (at.Unhold u answer) has e = subst (λ (w : Who). CanMake layout w step (unholds.put u) view) has.own (unholding.can layout view u step has.unhold e)
    which (at.GiveUp g) has e = subst (λ (w : Who). CanMake layout w step (give_ups.put g) view) has.own (giving_up.can layout view g step has.give_up e)
    which (at.Over answer) has e = absurd (none-some step e)

-- ---- what follows fits

-- the body with room for so many entries
respared-page : {layout : Layout} {view : View} {page : Page} {frame : Option Frame} {body : BodyValue} (n : ℕ) → HoldsPage layout view page frame body → HoldsPage layout view page frame (record body { spare = n })
respared-page n has = record {
  seen = has.seen;
  handled = has.handled;
  poisoned = has.poisoned;
  hand_is = has.hand_is;
  within = has.within;
  body_is = record { page_is = has.body_is.page_is; layout_is = has.body_is.layout_is; cached = has.body_is.cached; replay = has.body_is.replay };
}

respared-frame : {layout : Layout} {view : View} {who : Who} {page : Page} {slot : VSlot} {frame : Frame} {count : ℕ} {body : BodyValue} (n : ℕ) → HoldsWithFrame layout view who page slot frame count body
    → HoldsWithFrame layout view who page slot frame count (record body { spare = n })
respared-frame n has = record {
  from = has.from;
  was = has.was;
  seen = has.seen;
  trans = has.trans;
  handled = has.handled;
  poisoned = has.poisoned;
  hand_is = has.hand_is;
  brings = has.brings;
  words = has.words;
  page_is = has.page_is;
  layout_is = has.layout_is;
  within = has.within;
}

ne-zero : (frame : Frame) → (frame_name (Some frame) == 0) ≡ false
ne-zero frame = ne_eqb (frame.0 + 1) 0 (λ e. omega (arith, e))

-- what follows a translation that was loaded fits, and a refusal is allowed
abbrev Leads : Layout → View → Who → Page → VSlot → Touch → Option Frame → BodyValue → Pte → Type 0
Leads layout new who page slot touch frame body pte = (is_refused pte body.state ≡ true → IsRefused body.layout body.page body.state touch.thread slot)
    × ((spare : Option ℕ) → IsRoom spare → FitsAt layout new who page slot touch (after_pte layout who page slot touch frame body pte spare))

-- a history has no entry more than itself
none-added : (slot : VSlot) (log : Log) → EachMember (IsBringing slot) (added log log)
none-added slot log = subst (EachMember (IsBringing slot)) (sym (drop_all (length log.entries) log.entries (omega arith))) (λ i x e. absurd (none-some x e))

adds-one : {new : View} {page : Page} {slot : VSlot} (taken : InHand) (body : BodyValue) → new.bodies ≡ taken ∷ [] → body.page ≡ page → EachMember (IsBringing slot) (more_of taken (log_of body)) → AddsOnly new page slot body
adds-one {new} {page} {slot} taken body one of more = record {
  of = of;
  only = subst (EachMember (λ (b : InHand). EachMember (IsBringing slot) (more_of b (log_of body)))) (sym one) (each-one (λ (b : InHand). EachMember (IsBringing slot) (more_of b (log_of body))) taken more);
}

held-adds : {layout : Layout} {new : View} {page : Page} {slot : VSlot} {frame : Option Frame} {body : BodyValue} → HoldsPage layout new page frame body → AddsOnly new page slot body
held-adds {layout} {new} {page} {slot} {frame} {body} has = adds-one (body_in frame (log_of body) has.seen) body (bodies has) has.body_is.page_is (none-added slot (log_of body))

module _ (touch : Touch) {layout : Layout} {new : View} {who : Who} {page : Page} {slot : VSlot} where
  given-up : (frame : Option Frame) (body : BodyValue) → unholds.Fits layout new (unholds.begin who page frame 1 body) → AddsOnly new page slot body → FitsAt layout new who page slot touch (at.GiveUp (give_ups.with_page who page frame 1 body))
  given-up None body fits adds = record { give_up = giving_up.page-given-up layout new who page None 1 body fits; own = refl; under_way = refl; adds = λ b e. subst (AddsOnly new page slot) (same_Some body b e) adds }
  given-up (Some frame) body fits adds = record { give_up = giving_up.page-given-up layout new who page (Some frame) 1 body fits; own = refl; under_way = refl; adds = λ b e. subst (AddsOnly new page slot) (same_Some body b e) adds }

  goes-on : (frame : Option Frame) (body : BodyValue) (answer : FaultAnswer) → unholds.Fits layout new (unholds.begin who page frame 1 body) → AddsOnly new page slot body → IsWhy layout new who page answer
      → FitsAt layout new who page slot touch (let_go who page frame body answer)
  goes-on None body then fits adds why = record { unhold = fits; own = refl; under_way = refl; adds = λ other b e. subst (AddsOnly new page slot) (same_Some body b e) adds; why = why }
  goes-on (Some frame) body then fits adds why = record { unhold = fits; own = refl; under_way = refl; adds = λ other b e. subst (AddsOnly new page slot) (same_Some body b e) adds; why = why }

  -- the access was refused, and the page is let go with the entry of it
  refused-goes : (frame : Option Frame) (body : BodyValue) (place : At) → place.page ≡ page → unholds.Fits layout new (unholds.begin who page frame 1 body) → FitsAt layout new who page slot touch (let_go who page frame body (answers.Sigbus place))
  refused-goes None body place of fits = record { unhold = fits; own = refl; under_way = refl; adds = λ other b e. absurd (both_ways true other refl); why = of }
  refused-goes (Some frame) body place of fits = record { unhold = fits; own = refl; under_way = refl; adds = λ other b e. absurd (both_ways true other refl); why = of }

of-body : (slot : VSlot) {layout : Layout} {page : Page} {frame : Option Frame} {body : BodyValue} → IsOf layout page slot → IsBodyOf layout page frame body → IsOf body.layout body.page slot
of-body slot {layout} {page} {frame} {body} of is = subst (λ (l : Layout). IsOf l body.page slot) (sym is.layout_is) (subst (λ (p : Page). IsOf layout p slot) (sym is.page_is) of)

refused-of : {layout : Layout} {page : Page} {frame : Option Frame} {body : BodyValue} (slot : VSlot) (touch : Touch) → IsBodyOf layout page frame body → IsRefused layout page body.state touch.thread slot → IsRefused body.layout body.page body.state touch.thread slot
refused-of {layout} {page} {frame} {body} slot touch is allowed = subst (λ (l : Layout). IsRefused l body.page body.state touch.thread slot) (sym is.layout_is)
    (subst (λ (p : Page). IsRefused layout p body.state touch.thread slot) (sym is.page_is) allowed)

cached-as : {layout : Layout} {new : View} {page : Page} {frame : Option Frame} {body : BodyValue} → HoldsPage layout new page frame body → body.state.cached ≡ not (frame_name frame == 0)
cached-as has = ap (λ (s : PageState). s.cached) (sym (state-is has)) ∙ sym has.body_is.cached

-- a page that the names of a touch are of refuses it, where the translation is barred or the content is lost
refuses : (layout : Layout) (page : Page) (s : PageState) (slot : VSlot) (touch : Touch) → IsOf layout page slot → IsTouch layout slot touch → (set.contains s.bar slot.0 ≡ true) ⊎ (s.lost ≡ true) → IsRefused layout page s touch.thread slot
refuses layout page s slot touch of names why = (of, thread-of, why)
  where
    same : names.thread.process ≡ names.decl.process
    same = names.thread_of ∙ sym names.process_is

    thread-of : IsThreadOf layout touch.thread slot
    thread-of = subst (λ (o : Option ThreadDecl). IsSomeAnd o (λ (t : ThreadDecl). IsSomeAnd (slice_get layout.trans slot.0) (λ (v : TransDecl). t.process ≡ v.process))) (sym names.thread_declared)
        (subst (λ (o : Option TransDecl). IsSomeAnd o (λ (v : TransDecl). names.thread.process ≡ v.process)) (sym names.declared) same)

module _ (slot : VSlot) (touch : Touch) {layout : Layout} {new : View} {who : Who} {page : Page} (on : IsOnTurn new who) (within : page.0 < length layout.pages) (of : IsOf layout page slot) where
  -- room was made for the entry, or it was refused
  roomed : (frame : Option Frame) (body : BodyValue) (spare : Option ℕ) → IsHeld layout new who page frame body → IsFree slot body.state → body.state.lost ≡ false → IsRoom spare
      → FitsAt layout new who page slot touch (with_room who page slot frame body spare)
  roomed frame body None has free sound room = given-up touch frame body (held-unholds layout new who page frame body on within has.held) (held-adds has.held)
  roomed None body (Some n) has free sound room = record {
    fill = filling.held-fills layout new who page (record body { spare = n }) on within (respared-page n has.held) (record { spare = room; allowed = (cached-as has.held, sound) });
    own = refl;
    of = refl;
    under_way = refl;
    saw = has.saw;
    free = free;
  }
  roomed (Some frame) body (Some n) has free sound room = record { map_in = mapping.begins on within ready; own = refl; of = refl; slot_is = refl; under_way = refl }
    where
      held : HoldsPage layout new page (Some frame) (record body { spare = n })
      held = respared-page n has.held

      ready : CanMapIn layout new who page slot frame 1 (record body { spare = n })
      ready = record {
        held = ahead-with-frame (Some frame) (log_of body) held.seen (held-ahead layout new who page (Some frame) (record body { spare = n }) held) (held.within frame refl) (bodies held) (none-added slot (log_of body));
        state_is = state-is held;
        room = record { spare = room; allowed = (cached-as held ∙ ap not (ne-zero frame), of-body slot of held.body_is, free.0, free.1) };
      }

  -- room was made for the entry of a refusal, or it was refused
  refused-on : IsTouch layout slot touch → (frame : Option Frame) (body : BodyValue) (spare : Option ℕ) → HoldsPage layout new page frame body → IsRefused layout page body.state touch.thread slot → IsRoom spare
      → FitsAt layout new who page slot touch (refuse layout who page slot touch frame body spare)
  refused-on names frame body None has allowed room = given-up touch frame body (held-unholds layout new who page frame body on within has) (held-adds has)
  refused-on names frame body (Some n) has allowed room = which (ends layout touch.process touch.thread) refl
    where
      held : HoldsPage layout new page frame (record body { spare = n })
      held = respared-page n has

      which : (ended : Bool) → ends layout touch.process touch.thread ≡ ended
          → FitsAt layout new who page slot touch (cond ended (at.Kill frame (refused who slot touch (record body { spare = n })) (record { page = page; entry = length body.log })) (let_go who page frame (refused who slot touch (record body { spare = n })) (answers.Sigbus (record { page = page; entry = length body.log }))))
      which true is = record { before = record body { spare = n }; held = held; allowed = allowed; body_is = refl; place_is = refl; ending = is }
      which false is = refused-goes touch frame (refused who slot touch (record body { spare = n })) (record { page = page; entry = length body.log }) refl (lets-go-at-once who slot touch held allowed names is on within)

  -- a word that leads nowhere brings the page in, unless its content is lost
  nowhere-on : IsTouch layout slot touch → (frame : Option Frame) (body : BodyValue) → IsHeld layout new who page frame body → IsFree slot body.state → Leads layout new who page slot touch frame body ptes.Empty
  nowhere-on names frame body has free = which body.state.lost refl
    where
      which : (lost : Bool) → body.state.lost ≡ lost
          → (lost ≡ true → IsRefused body.layout body.page body.state touch.thread slot)
          × ((spare : Option ℕ) → IsRoom spare → FitsAt layout new who page slot touch (cond lost (refuse layout who page slot touch frame body spare) (with_room who page slot frame body spare)))
      which true is = let allowed : IsRefused layout page body.state touch.thread slot = refuses layout page body.state slot touch of names (inr is) in
          (λ lost. refused-of slot touch has.held.body_is allowed, λ spare room. refused-on names frame body spare has.held allowed room)
      which false is = (λ lost. absurd (both_ways true (sym lost) refl), λ spare room. roomed frame body spare has free is room)

  -- the translation's word is loaded
  pte-loaded : IsTouch layout slot touch → {old : View} {found : ℕ} {got : Option BodyValue} (frame : Option Frame) (body : BodyValue) → IsHeld layout old who page frame body → Steps layout who (steps.Load (places.Trans slot)) None old new found got
      → Leads layout new who page slot touch frame body (pte_reading found)
  pte-loaded names {old} {found} {got} frame body has made = elim (pte-met slot has.held of made.told.board made.told.rule made.told.seat made.told.me found made.told.met) [
    | inl nowhere ↦ subst (Leads layout new who page slot touch frame body) (sym (ap pte_reading nowhere.zero)) (nowhere-on names frame body still nowhere.free)
    | inr other ↦ elim other [
      | inl barred ↦
          let allowed : IsRefused layout page body.state touch.thread slot = refuses layout page body.state slot touch of names (inl barred.barred) in
          subst (Leads layout new who page slot touch frame body) (sym (ap pte_reading barred.poison ∙ reads-poison)) (λ poison. refused-of slot touch has.held.body_is allowed, λ spare room. refused-on names frame body spare still.held allowed room)
      | inr leads ↦ subst (Leads layout new who page slot touch frame body) (sym (ap pte_reading leads.named ∙ reads-frame leads.frame leads.small))
          (λ poison. absurd (both_ways true (sym poison) refl), λ spare room. goes-on touch frame body answers.Again (held-unholds layout new who page frame body on within still.held) (held-adds still.held) tt)
    ]
  ]
    where
      still : IsHeld layout new who page frame body
      still = record { held = page-still (hand-planned made refl refl) has.held; saw = saw-log-stays made has.saw }

  -- the page is in a frame
  filled : (body : BodyValue) (frame : Frame) (seen : ℕ) (spare : Option ℕ) → HoldsAhead layout who new page (Some frame) 1 (Some (brought who body)) → frame.0 < layout.frames → new.bodies ≡ body_in None (log_of body) seen ∷ []
      → CanBring layout page body → IsFree slot body.state → IsRoom spare → FitsAt layout new who page slot touch (with_room who page slot (Some frame) (brought who body) spare)
  filled body frame seen spare ahead small one entry free room = which spare room
    where
      only : EachMember (IsBringing slot) (added (log_of body) (log_of (brought who body)))
      only = subst (EachMember (IsBringing slot)) (sym (drop-append_seam body.log ((record { who = who; what = entries.FaultIn }) ∷ []))) (each-one (IsBringing slot) (record { who = who; what = entries.FaultIn }) (inl refl))

      replay : IsReplay layout body.page body.log body.state
      replay = subst (λ (p : Page). IsReplay layout p body.log body.state) (sym entry.body_is.page_is) entry.body_is.replay

      which : (spare : Option ℕ) → IsRoom spare → FitsAt layout new who page slot touch (with_room who page slot (Some frame) (brought who body) spare)
      which None room = given-up touch (Some frame) (brought who body)
          (ahead-unholds layout new who page (Some frame) 1 (brought who body) on within ahead (omega arith) (λ f is. subst (λ (g : Frame). g.0 < layout.frames) (same_Some frame f is) small))
          (adds-one (body_in None (log_of body) seen) (brought who body) one entry.body_is.page_is only)
      which (Some n) room = record { map_in = mapping.begins on within ready; own = refl; of = refl; slot_is = refl; under_way = refl }
        where
          ready : CanMapIn layout new who page slot frame 1 (record (brought who body) { spare = n })
          ready = record {
            held = respared-frame n (ahead-with-frame None (log_of body) seen ahead small one only);
            state_is = state-more layout (log_of body) (record { who = who; what = entries.FaultIn }) ∙ ap (λ (s : PageState). after s entries.FaultIn) (replay-state replay);
            room = record { spare = room; allowed = (refl, of-body slot of entry.body_is, free.0, free.1) };
          }

-- ---- after a step of each part

abbrev is-filled : FillAt → Bool
is-filled (fill_at.Over (Some frame)) = true
is-filled _ = false

take-unfilled : (t : Take) (y : TakeAt) → is-filled (fills.after_take_at t y) ≡ false
take-unfilled t take_at.LoadAvailable = refl
take-unfilled t (take_at.Reserve seen) = refl
take-unfilled t (take_at.LoadFree number) = refl
take-unfilled t (take_at.TakeBit frame) = refl
take-unfilled t (take_at.Adopt frame) = refl
take-unfilled t (take_at.Retire frame) = refl
take-unfilled t (take_at.Over None) = refl
take-unfilled t (take_at.Over (Some frame)) = refl

refer-unfilled : (r : Refer) (y : ReferAt) → is-filled (fills.after_refer_at r y) ≡ false
refer-unfilled r refer_at.Load = refl
refer-unfilled r (refer_at.Get seen) = refl
refer-unfilled r refer_at.Over = refl

-- a command that was given up holds nothing
given-all : (layout : Layout) (new : View) (g : GiveUp) (x : GiveUpAt) → give_ups.FitsAt layout new g.who x → is_none (give_ups.plan_at x) ≡ true → hand_of new ≡ empty
given-all layout new g (give_up_at.Unhold u) has over = absurd (both_ways (is_none (unholds.plan u)) has.under_way over)
given-all layout new g (give_up_at.Unlock u) has over = absurd (both_ways (is_none (unlocks.plan u)) has.under_way over)
given-all layout new g give_up_at.GiveUp has over = absurd (both_ways true (sym over) refl)
given-all layout new g give_up_at.Over has over = has

module _ (touch : Touch) {layout : Layout} {new : View} where
  map-on : (m : MapIn) (z : MapInAt) → map_ins.Fits layout new (record m { at = z }) → FitsAt layout new m.who m.page m.slot touch (after_map_in m.who m.page (record m { at = z }))
  map-on m (map_in_at.Refer r) fits = record { map_in = fits; own = refl; of = refl; slot_is = refl; under_way = fits.at.under_way }
  map-on m map_in_at.SetPte fits = record { map_in = fits; own = refl; of = refl; slot_is = refl; under_way = refl }
  map-on m map_in_at.Over fits = goes-on touch (Some m.frame) m.body answers.Again (mapping.unholds-with-frame fits.on_turn fits.page fits.at)
      (adds-one (body_in fits.at.from fits.at.was fits.at.seen) m.body (ap (λ (h : Hand). h.bodies) fits.at.hand_is) fits.at.page_is fits.at.brings.only) tt

module _ (slot : VSlot) (touch : Touch) {layout : Layout} {new : View} where
  hold-on : (h : Hold) (z : HoldAt) → holds.Fits layout new (record h { at = z }) → FitsAt layout new h.who h.page slot touch (after_hold (record h { at = z }))
  hold-on h hold_at.LockPage fits = record { hold = fits; own = refl; of = refl; under_way = refl }
  hold-on h (hold_at.LoadCache body) fits = record { hold = fits; own = refl; of = refl; under_way = refl }
  hold-on h (hold_at.Pin p) fits = record { hold = fits; own = refl; of = refl; under_way = fits.at.under_way }
  hold-on h (hold_at.LockFrame frame) fits = record { hold = fits; own = refl; of = refl; under_way = refl }
  hold-on h (hold_at.Held frame body) fits = record { held = fits.at.0; saw = fits.at.1 }

  -- until the page is in a frame
  fill-on : (f : Fill) (z : FillAt) (spare : Option ℕ) → is-filled z ≡ false → fills.Fits layout new (record f { at = z }) → SawLog new f.who (log_of f.body) → IsFree slot f.body.state
      → FitsAt layout new f.who f.page slot touch (after_fill f.who f.page slot (record f { at = z }) spare)
  fill-on f (fill_at.Take t) spare unfilled fits saw free = record { fill = fits; own = refl; of = refl; under_way = fits.at.under_way; saw = saw; free = free }
  fill-on f (fill_at.SetOwner frame) spare unfilled fits saw free = record { fill = fits; own = refl; of = refl; under_way = refl; saw = saw; free = free }
  fill-on f (fill_at.Refer r) spare unfilled fits saw free = record { fill = fits; own = refl; of = refl; under_way = fits.at.under_way; saw = saw; free = free }
  fill-on f (fill_at.SetCache frame) spare unfilled fits saw free = record { fill = fits; own = refl; of = refl; under_way = refl; saw = saw; free = free }
  fill-on f (fill_at.Over None) spare unfilled fits saw free = goes-on touch None f.body (answers.NoFrame (record { page = f.page; entry = length f.body.log })) (held-unholds layout new f.who f.page None f.body fits.on_turn fits.page fits.at.0)
      (held-adds fits.at.0)
      (refl, fits.at.1, record { log = log_of f.body; saw = saw; page_is = fits.at.0.body_is.page_is; place_is = refl; such = sym fits.at.0.body_is.cached })
  fill-on f (fill_at.Over (Some frame)) spare unfilled fits saw free = absurd (both_ways true unfilled refl)

  unhold-on : (u : Unhold) (page : Page) (answer : FaultAnswer) → unholds.Fits layout new u → unholds.put u ≡ None → IsWhy layout new u.who page answer → FitsAt layout new u.who page slot touch (after_unhold u answer)
  unhold-on u page answer fits none why = by (is_none (unholds.plan u)) refl
    where
      by : (over : Bool) → is_none (unholds.plan u) ≡ over → FitsAt layout new u.who page slot touch (cond over (at.Over (Some answer)) (at.Unhold u answer))
      by true over = (nothing-left layout new u over fits, why)
      by false on = record { unhold = fits; own = refl; under_way = on; adds = λ other b e. absurd (none-some b (sym none ∙ e)); why = why }

  give-up-on : (g : GiveUp) (page : Page) → give_ups.Fits layout new g → give_ups.put g ≡ None → FitsAt layout new g.who page slot touch (after_give_up g)
  give-up-on g page fits none = by (is_none (give_ups.plan g)) refl
    where
      by : (over : Bool) → is_none (give_ups.plan g) ≡ over → FitsAt layout new g.who page slot touch (cond over (at.Over None) (at.GiveUp g))
      by true over = given-all layout new g g.at fits.at over
      by false on = record { give_up = fits; own = refl; under_way = on; adds = λ b e. absurd (none-some b (sym none ∙ e)) }

module _ (slot : VSlot) (touch : Touch) {layout : Layout} {old new : View} {step : Step} {found : ℕ} {got : Option BodyValue} (f : Fill) (of : IsOf layout f.page slot) (spare : Option ℕ) (room : IsRoom spare) where
  fill-moved : (x : FillAt) → fills.plan_at f.page x ≡ Some step → fills.FitsAt layout old f.who f.page f.body x → Steps layout f.who step None old new found got → SawLog new f.who (log_of f.body) → IsFree slot f.body.state
      → fills.Fits layout new (fills.next layout (record f { at = x }) found) → FitsAt layout new f.who f.page slot touch (after_fill f.who f.page slot (fills.next layout (record f { at = x }) found) spare)
  fill-moved (fill_at.Take t) e has made saw free fits = fill-on slot touch f (fills.after_take (takes.next layout t found)) spare (take-unfilled (takes.next layout t found) (takes.next_at layout t.at found)) fits saw free
  fill-moved (fill_at.SetOwner frame) e has made saw free fits = fill-on slot touch f (fill_at.Refer (refers.begin f.who frame 1)) spare refl fits saw free
  fill-moved (fill_at.Refer r) e has made saw free fits = fill-on slot touch f (fills.after_refer (refers.next r found)) spare (refer-unfilled (refers.next r found) (refers.next_at r.at found)) fits saw free
  fill-moved (fill_at.SetCache frame) e has made saw free fits = filled slot touch fits.on_turn fits.page of f.body frame has.seen spare fits.at.0 fits.at.1
      (ap (λ (h : Hand). h.bodies) (hand-planned made e has.hand_is)) has.entry free room
  fill-moved (fill_at.Over frame) e has made saw free fits = absurd (none-some step e)

-- what was seen is seen still
why-stays : (by : Who) {layout : Layout} {who : Who} {step : Step} {put : Option Log} {old new : View} {found : ℕ} {got : Option BodyValue} (page : Page) (answer : FaultAnswer) → Steps layout who step put old new found got
    → IsWhy layout old by page answer → IsWhy layout new by page answer
why-stays by page answers.Again made why = tt
why-stays by page (answers.NoFrame place) made why = (why.0, saw-stays made why.1, saw-state-stays made why.2)
why-stays by page (answers.Sigbus place) made why = why

-- a step shows what is needed, and what follows fits again
module _ {base : List Made} (layout : Layout) (old new : View) (f : Fault) (step : Step) (found : ℕ) (got : Option BodyValue) (fits : FitsFrom base layout old f) (is : plan f ≡ Some step) (made : Steps layout f.who step (logs (put f)) old new found got) where
  on : IsOnTurn new f.who
  on = on-turn-after fits.on_turn made

  -- what follows, of the command and the page
  abbrev After : FaultAt → Type 0
  After x = FitsAt layout new f.who f.page f.slot f.touch x

  abbrev Given : FaultAt → Type 0
  Given x = ShowsAt f.slot f.touch (bare_at x) found got × ((spare : Option ℕ) → IsRoom spare → After (next_at layout f.who f.page f.slot f.touch (bare_at x) found got spare))

  -- the process was ended
  killed-on : (frame : Option Frame) (body : BodyValue) (place : At) → IsEnding layout old f.who f.page f.slot f.touch frame body place → Steps layout f.who (steps.Kill f.touch.process f.page (as_snapshot body)) None old new found got
      → After (let_go f.who f.page frame body (answers.Sigbus place))
  killed-on frame body place has made = subst (λ (b : BodyValue). After (let_go f.who f.page frame b (answers.Sigbus place))) (sym has.body_is)
      (refused-goes f.touch frame (refused f.who f.slot f.touch has.before) place (ap (λ (p : At). p.page) has.place_is) (lets-go-killed f.who f.slot f.touch has.held has.allowed has.ending
      (subst (λ (b : BodyValue). Steps layout f.who (steps.Kill f.touch.process f.page (as_snapshot b)) None old new found got) has.body_is made) fits.touch on fits.page))

  steps-by : (who : Who) → who ≡ f.who → {given : Option Log} → Steps layout f.who step given old new found got → Steps layout who step given old new found got
  steps-by who own {given} made = subst (λ (w : Who). Steps layout w step given old new found got) (sym own) made

  which : (x : FaultAt) → FitsAt layout old f.who f.page f.slot f.touch x → plan_at f.page f.slot f.touch x ≡ Some step → Steps layout f.who step (logs (put_at x)) old new found got → Given x
  which (at.Hold h) has e made =
      let child = holding.both layout old new h step found got has.hold e (steps-by h.who has.own made) in (
        child.0,
        λ spare room. subst (λ (p : Page). FitsAt layout new f.who p f.slot f.touch (after_hold (holds.next h found got))) has.of
            (subst (λ (w : Who). FitsAt layout new w h.page f.slot f.touch (after_hold (holds.next h found got))) has.own (hold-on f.slot f.touch (holds.next h found got) (holds.next_at h.who h.at found got) child.1)),
      )
  which (at.LoadPte frame body) has e made = pte-loaded f.slot f.touch on fits.page fits.slot fits.touch frame body has (steps-planned e made)
  which (at.Kill frame body place) has e made = (tt, λ spare room. killed-on frame body place has (steps-planned e made))
  which (at.Fill g) has e made =
      let child = filling.both layout old new g step found got has.fill e (steps-by g.who has.own made) in
      let saw : SawLog new g.who (log_of g.body) = subst (λ (w : Who). SawLog new w (log_of g.body)) (sym has.own) (saw-log-stays made has.saw) in (
        child.0,
        λ spare room. subst (λ (p : Page). FitsAt layout new f.who p f.slot f.touch (after_fill f.who p f.slot (fills.next layout g found) spare)) has.of
            (subst (λ (w : Who). FitsAt layout new w g.page f.slot f.touch (after_fill w g.page f.slot (fills.next layout g found) spare)) has.own
            (fill-moved f.slot f.touch g (subst (λ (p : Page). IsOf layout p f.slot) (sym has.of) fits.slot) spare room g.at e has.fill.at (steps-by g.who has.own made) saw has.free child.1)),
      )
  which (at.MapIn m) has e made =
      let child = mapping.both layout old new m step found got has.map_in e (steps-by m.who has.own made) in (
        child.0,
        λ spare room. subst (λ (s : VSlot). FitsAt layout new f.who f.page s f.touch (after_map_in f.who f.page (map_ins.next m found))) has.slot_is
            (subst (λ (p : Page). FitsAt layout new f.who p m.slot f.touch (after_map_in f.who p (map_ins.next m found))) has.of
            (subst (λ (w : Who). FitsAt layout new w m.page m.slot f.touch (after_map_in w m.page (map_ins.next m found))) has.own (map-on f.touch (map_ins.next m found) (map_ins.next_at m.at found) child.1))),
      )
  which (at.Unhold u answer) has e made = (
    tt,
    λ spare room. subst (λ (w : Who). FitsAt layout new w f.page f.slot f.touch (after_unhold (unholds.next (unholds.bare u) found) answer)) has.own
        (unhold-on f.slot f.touch (unholds.next (unholds.bare u) found) f.page answer (unholding.moved layout old new u step found got has.unhold e (steps-by u.who has.own made)) (unhold-bare u found)
        (subst (λ (w : Who). IsWhy layout new w f.page answer) (sym has.own) (why-stays f.who f.page answer made has.why))),
  )
  which (at.GiveUp g) has e made = (
    tt,
    λ spare room. subst (λ (w : Who). FitsAt layout new w f.page f.slot f.touch (after_give_up (give_ups.next (give_ups.bare g) found))) has.own
        (give-up-on f.slot f.touch (give_ups.next (give_ups.bare g) found) f.page (giving_up.moved layout old new g step found got has.give_up e (steps-by g.who has.own made)) (give-up-bare g found)),
  )
  which (at.Over answer) has e made = absurd (none-some step e)

  pub both : Shows (bare f) found got × ((spare : Option ℕ) → IsRoom spare → FitsFrom base layout new (next layout (bare f) found got spare))
  both =
      let all : Given f.at = which f.at fits.at is made in (
        all.0,
        λ spare room. record {
          on_turn = on;
          page = fits.page;
          slot = fits.slot;
          touch = fits.touch;
          made = made-next base layout f.who f.page f.slot f.touch old new step found got f.at spare fits.made fits.at is (can layout old f step fits is) made;
          at = all.1 spare room;
        },
      )

pub stays : {base : List Made} (layout : Layout) (old new : View) (f : Fault) (step : Step) (found : ℕ) (got : Option BodyValue) → FitsFrom base layout old f → plan f ≡ Some step → Steps layout f.who step (logs (put f)) old new found got
    → Shows (bare f) found got × ((after : Fault) (result : Turn) → Follows layout (bare f) found got after result → FitsFrom base layout new after × (after.who.cpu ≡ f.who.cpu))
stays {base} layout old new f step found got fits is made =
    let all = both layout old new f step found got fits is made in
    (all.0, λ after result follows. (subst (FitsFrom base layout new) (sym follows.after_is) (all.1 follows.spare follows.room), ap (λ (x : Fault). x.who.cpu) follows.after_is))

-- ---- before it and after it

-- the law of the task, whatever its command had made before
pub law : IsTask fault-task
law = record {
  can = λ layout view s step fits is. can layout view s step fits.1 is;
  stays = λ layout old new s step found got fits is made. let all = stays layout old new s step found got fits.1 is made in (all.0, λ after turn follows. let kept = all.1 after turn follows in ((fits.0, kept.0), kept.1));
}

pub begins : {base : List Made} {layout : Layout} {view : View} {who : Who} {page : Page} {slot : VSlot} {touch : Touch} → IsOnTurn view who → page.0 < length layout.pages → IsOf layout page slot → IsTouch layout slot touch → hand_of view ≡ empty
    → HasOnlyBeside base (Precedes page slot touch.line) view who → FitsFrom base layout view (begin who page slot touch)
begins on inside of names none only = record {
  on_turn = on;
  page = inside;
  slot = of;
  touch = names;
  made = only;
  at = record { hold = record { on_turn = on; page = inside; at = none }; own = refl; of = refl; under_way = refl };
}

-- when it is over nothing is held, and the command saw why
pub over-fits : {base : List Made} {layout : Layout} {view : View} (f : Fault) → is_none (plan f) ≡ true → FitsFrom base layout view f → FitsOver layout view f.who f.page (answer f)
over-fits {layout} {view} f over fits = which f.at over fits.at
  where
    which : (x : FaultAt) → is_none (plan_at f.page f.slot f.touch x) ≡ true → FitsAt layout view f.who f.page f.slot f.touch x → FitsOver layout view f.who f.page (answer_at x)
    which (at.Hold h) over has = absurd (both_ways (is_none (holds.plan h)) has.under_way over)
    which (at.LoadPte frame body) over has = absurd (both_ways true (sym over) refl)
    which (at.Kill frame body place) over has = absurd (both_ways true (sym over) refl)
    which (at.Fill g) over has = absurd (both_ways (is_none (fills.plan g)) has.under_way over)
    which (at.MapIn m) over has = absurd (both_ways (is_none (map_ins.plan m)) has.under_way over)
    which (at.Unhold u answer) over has = absurd (both_ways (is_none (unholds.plan u)) has.under_way over)
    which (at.GiveUp g) over has = absurd (both_ways (is_none (give_ups.plan g)) has.under_way over)
    which (at.Over answer) over has = has

-- and what it has made
pub over-made : {base : List Made} {layout : Layout} {view : View} (f : Fault) (x : FaultAnswer) → answer f ≡ Some x → FitsFrom base layout view f → MadeAt base view f.who f.page f.slot f.touch (at.Over (Some x))
over-made {base} {layout} {view} f x is fits = which f.at is fits.made
  where
    which : (y : FaultAt) → answer_at y ≡ Some x → MadeAt base view f.who f.page f.slot f.touch y → MadeAt base view f.who f.page f.slot f.touch (at.Over (Some x))
    which (at.Over a) e made = subst (λ (o : Option FaultAnswer). MadeAt base view f.who f.page f.slot f.touch (at.Over o)) e made
    which (at.Hold h) e made = absurd (none-some x e)
    which (at.LoadPte frame body) e made = absurd (none-some x e)
    which (at.Kill frame body place) e made = absurd (none-some x e)
    which (at.Fill g) e made = absurd (none-some x e)
    which (at.MapIn m) e made = absurd (none-some x e)
    which (at.Unhold u other) e made = absurd (none-some x e)
    which (at.GiveUp g) e made = absurd (none-some x e)

-- ---- what its class tells

-- a task under way has a step
under-way : (view : View) (class : ℕ) (planned : Option Step) → Tells view class → is_none planned ≡ false → (HasFrame view → (class ≡ 1) × (planned ≢ None)) × (HasPage view → (class ≤ 2) × (planned ≢ None))
under-way view class planned tells on = ((λ some. (tells.0 some, left)), (λ some. (tells.1 some, left)))
  where
    left : planned ≢ None
    left e = both_ways (is_none planned) on (ap is_none e)

take-tells : (layout : Layout) (view : View) (page : Page) (log : Log) (seen : ℕ) (x : TakeAt) → hand_of view ≡ fills.with_take x (holds.locked layout page (Some log) seen) → is_none (takes.plan_at x) ≡ false → Tells view (fills.with_page (takes.class_at x))
take-tells layout view page log seen take_at.LoadAvailable is on = page-tells view is 2 refl refl refl (omega arith)
take-tells layout view page log seen (take_at.Reserve word) is on = page-tells view is 2 refl refl refl (omega arith)
take-tells layout view page log seen (take_at.LoadFree number) is on = frame-tells view
take-tells layout view page log seen (take_at.TakeBit frame) is on = frame-tells view
take-tells layout view page log seen (take_at.Adopt frame) is on = frame-tells view
take-tells layout view page log seen (take_at.Retire frame) is on = frame-tells view
take-tells layout view page log seen (take_at.Over frame) is on = absurd (both_ways true on refl)

fill-tells : (layout : Layout) (view : View) (f : Fill) → fills.Fits layout view f → is_none (fills.plan f) ≡ false → Tells view (fills.class f)
fill-tells layout view f fits on = which f.at fits.at on
  where
    which : (x : FillAt) → fills.FitsAt layout view f.who f.page f.body x → is_none (fills.plan_at f.page x) ≡ false → Tells view (fills.class_at x)
    which (fill_at.Take t) has on = take-tells layout view f.page (log_of f.body) has.seen t.at has.hand_is has.under_way
    which (fill_at.SetOwner frame) has on = frame-tells view
    which (fill_at.Refer r) has on = frame-tells view
    which (fill_at.SetCache frame) has on = frame-tells view
    which (fill_at.Over frame) has on = absurd (both_ways true on refl)

pub tells : {base : List Made} (layout : Layout) (view : View) (f : Fault) → FitsFrom base layout view f → (HasFrame view → (class f ≡ 1) × (plan f ≢ None)) × (HasPage view → (class f ≤ 2) × (plan f ≢ None))
tells layout view f fits = which f.at fits.at
  where
    nothing : hand_of view ≡ empty → (class : ℕ) (planned : Option Step) → (HasFrame view → (class ≡ 1) × (planned ≢ None)) × (HasPage view → (class ≤ 2) × (planned ≢ None))
    nothing is class planned = ((λ some. absurd (no-frame view is refl refl refl some)), (λ some. absurd (no-page view is refl some)))

    which : (x : FaultAt) → FitsAt layout view f.who f.page f.slot f.touch x → (HasFrame view → (class_at x ≡ 1) × (plan_at f.page f.slot f.touch x ≢ None)) × (HasPage view → (class_at x ≤ 2) × (plan_at f.page f.slot f.touch x ≢ None))
    which (at.Hold h) has = under-way view (holds.class h) (holds.plan h) (hold-tells layout view h has.hold has.under_way) has.under_way
    which (at.LoadPte None body) has = under-way view 2 (Some (steps.Load (places.Trans f.slot))) (page-tells view has.held.hand_is 2 refl refl refl (omega arith)) refl
    which (at.LoadPte (Some frame) body) has = under-way view 1 (Some (steps.Load (places.Trans f.slot))) (frame-tells view) refl
    which (at.Kill None body place) has = under-way view 2 (Some (steps.Kill f.touch.process f.page (as_snapshot body))) (page-tells view has.held.hand_is 2 refl refl refl (omega arith)) refl
    which (at.Kill (Some frame) body place) has = under-way view 1 (Some (steps.Kill f.touch.process f.page (as_snapshot body))) (frame-tells view) refl
    which (at.Fill g) has = under-way view (fills.class g) (fills.plan g) (fill-tells layout view g has.fill has.under_way) has.under_way
    which (at.MapIn m) has = under-way view 1 (map_ins.plan m) (frame-tells view) has.under_way
    which (at.Unhold u answer) has = under-way view (unholds.class u) (unholds.plan u) (unhold-tells layout view u has.unhold has.under_way) has.under_way
    which (at.GiveUp g) has = under-way view (give_ups.class g) (give_ups.plan g) (give-up-tells layout view g has.give_up has.under_way) has.under_way
    which (at.Over None) has = nothing has 4 None
    which (at.Over (Some answer)) has = nothing has.0 4 None
