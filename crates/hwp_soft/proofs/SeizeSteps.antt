-- What follows the steps of a `Soft` up to the poison of its frame.
use Rattle.std.proofs.Common.{◌≡◌, ◌⊎◌, inl, inr, ℕ, ◌+◌, ◌<◌, ◌≤◌, ◌==◌, Bool, true, false, cond, List, [], ◌∷◌, ◌++◌, Option, Some, None, MatchBool, filter, is_none, length, drop, option_map, slice_get, refl, sym, ap, ◌∙◌, subst, arith}
use Rattle.std.proofs.lemmas.Bool.{eqb-false, eqb-true}
use Rattle.std.proofs.lemmas.List.{drop-append-le, length-append}
use Rattle.std.proofs.lemmas.Option.{none-some, same_Some}
use Rattle.hwp_claim_frame.specs.hwp_geom.declared.Frame.{Frame}
use Rattle.hwp_claim_frame.specs.hwp_geom.declared.Layout.{Layout}
use Rattle.hwp_claim_frame.specs.hwp_geom.declared.Page.{Page}
use Rattle.hwp_claim_frame.specs.hwp_geom.declared.Who.{Who}
use Rattle.hwp_claim_frame.specs.hwp_page.declared.PageState.{PageState}
use Rattle.hwp_claim_frame.specs.hwp_page.History.{BodyValue}
use Rattle.hwp_claim_frame.specs.hwp_words.Stops.{is_stopped}
use Rattle.hwp_claim_frame.specs.hwp_core_rule.declared.FrameLock.{FrameLock}
use Rattle.hwp_claim_frame.specs.hwp_core_rule.declared.Made.{Made}
use Rattle.hwp_claim_frame.specs.hwp_core_rule.declared.SharedWord.TheVariants as places
use Rattle.hwp_claim_frame.specs.hwp_core_rule.declared.Sight.{Sight}
use Rattle.hwp_claim_frame.specs.hwp_core_rule.declared.Step.{Step}
use Rattle.hwp_claim_frame.specs.hwp_core_rule.declared.Step.TheVariants as steps
use Rattle.hwp_claim_frame.specs.hwp_core_rule.declared.View.{View}
use Rattle.hwp_claim_frame.specs.hwp_core_rule.Lists.{SomeMember}
use Rattle.hwp_claim_frame.specs.hwp_core_rule.Logs.{log_of}
use Rattle.hwp_claim_frame.specs.hwp_core_rule.Views.{noted, stamp_of}
use Rattle.hwp_claim_frame.specs.hwp_core_rule.parts.Entries.{Shows}
use Rattle.hwp_claim_frame.proofs.of_hwp_core_rule.Lists.{some-last}
use Rattle.hwp_claim_frame.specs.hwp_core_rule.Calls.{IsOnTurn, Steps, logs}
use Rattle.hwp_claim_frame.specs.hwp_core_rule.Hands.{Hand, empty, hand_of}
use Rattle.hwp_claim_frame.proofs.of_hwp_core_rule.tasks.StepLeaves.{hand-planned}
use Rattle.hwp_claim_frame.specs.hwp_core_rule.Known.{HasMadeNoneBeside, is_by}
use Rattle.hwp_claim_frame.proofs.of_hwp_core_rule.tasks.MadeEntries.{deeds-same, made-kept}
use Rattle.hwp_claim_frame.proofs.of_hwp_core_rule.tasks.SightKeeps.{saw-bad-of-load, saw-load}
use Rattle.hwp_claim_frame.specs.hwp_core.Holds.{HoldsPage, held}
use Rattle.hwp_claim_frame.specs.hwp_core.Unlocks as unlocks
use Rattle.hwp_claim_frame.proofs.of_hwp_core.GiveUpLaws.{page-given-up}
use Rattle.hwp_claim_frame.proofs.of_hwp_core.HoldEnds.{held-unholds}
use Rattle.hwp_claim_frame.proofs.of_hwp_core.PageStates.{is-cached, state-is}
use Rattle.hwp_claim_frame.specs.Meets.{HoldsMet}
use Rattle.hwp_claim_frame.proofs.ViewKeeps.{Account, OnlyHolds, grab-only, kept, meet-only, planned, unlock-only}
use Rattle.hwp_claim_frame.proofs.FrameUnlocks.{one-taken}
use Rattle.hwp_soft_move.specs.declared.discard.Discard.{Discard}
use Rattle.hwp_soft_move.specs.declared.discard.DiscardAt.{DiscardAt}
use Rattle.hwp_soft_move.specs.declared.discard.DiscardAt.TheVariants as discard_at
use Rattle.hwp_soft_move.specs.declared.seize.Seize.{Seize}
use Rattle.hwp_soft_move.specs.declared.seize.SeizeAt.{SeizeAt}
use Rattle.hwp_soft_move.specs.declared.seize.SeizeAt.TheVariants as seize_at
use Rattle.hwp_soft.specs.declared.soft.SoftAnswer.TheVariants as answers
use Rattle.hwp_soft.specs.declared.soft.SoftAt.{SoftAt}
use Rattle.hwp_soft.specs.declared.soft.SoftAt.TheVariants as at
use Rattle.hwp_soft_move.specs.Discards as discards
use Rattle.hwp_soft.specs.Offline.{FitsAt}
use Rattle.hwp_soft_move.specs.Seizes as seizes
use Rattle.hwp_soft_move.specs.Seizes.{IsUsers}
use Rattle.hwp_soft.specs.Softs.{AfterBad, TakesOne, after_discard, after_seize, after_stop, given_up, let_go}
use Rattle.hwp_soft_move.proofs.SeizeLaws as seizing
use Rattle.hwp_soft.proofs.SpareFrame.{page-let-go}

-- ---- the command has made nothing yet

made-from : {base : List Made} (who : Who) (old new : View) → new.made ≡ old.made → HasMadeNoneBeside base old who → HasMadeNoneBeside base new who
made-from {base} who old new same none = ap (filter (is_by who)) same ∙ none

pub seize-only : (z : Seize) (step : Step) → seizes.plan z ≡ Some step → OnlyHolds step
seize-only z step is = which z.at is
  where
    which : (x : SeizeAt) → seizes.plan_at z.frame x ≡ Some step → OnlyHolds step
    which seize_at.Look e = planned e tt
    which (seize_at.Grab g) e = grab-only g step e
    which (seize_at.Meet m) e = meet-only m step e
    which seize_at.Kernel e = absurd (none-some step e)
    which seize_at.Already e = absurd (none-some step e)
    which seize_at.Grabbed e = absurd (none-some step e)
    which seize_at.Free e = absurd (none-some step e)
    which (seize_at.Owned page body) e = absurd (none-some step e)

module _ {layout : Layout} {old new : View} {who : Who} {step : Step} {found : ℕ} {got : Option BodyValue} where
  pub seize-makes-none : {base : List Made} (z : Seize) → z.who ≡ who → seizes.Fits layout old z → seizes.plan z ≡ Some step → Steps layout who step (logs (seizes.put z)) old new found got → HasMadeNoneBeside base old who → HasMadeNoneBeside base new who
  seize-makes-none {base} z own fits e made = made-from who old new (ap (λ (a : Account). a.made) (kept (seizes.put z) (seize-only z step e) (seizing.puts-as-taken layout old z fits) made))

  pub discard-makes-none : {base : List Made} (d : Discard) → discards.Fits layout old d → discards.plan d ≡ Some step → Steps layout who step (logs (discards.put d)) old new found got → HasMadeNoneBeside base old who → HasMadeNoneBeside base new who
  discard-makes-none {base} d fits e made = made-from who old new (which d.at fits.at e made)
    where
      plain : {other : Step} → Some other ≡ Some step → OnlyHolds other → Steps layout who step None old new found got → new.made ≡ old.made
      plain is only m = ap (λ (a : Account). a.made) (kept None (planned is only) (λ b some. absurd (none-some b some)) m)

      which : (x : DiscardAt) → discards.FitsAt layout old d.who d.frame x → discards.plan_at d.frame x ≡ Some step → Steps layout who step (logs (discards.put_at x)) old new found got → new.made ≡ old.made
      which (discard_at.Poison used) has e made = made-kept (subst (λ (x : Step). Steps layout who x None old new found got) (sym (same_Some (steps.Poison d.frame false) step e)) made) tt
      which (discard_at.Count cycle) has e made = made-kept (subst (λ (x : Step). Steps layout who x None old new found got) (sym (same_Some (steps.CountPoison false) step e)) made) tt
      which (discard_at.Retire cycle) has e made = plain e tt made
      which (discard_at.Unlock u) has e made = ap (λ (a : Account). a.made) (kept (unlocks.put u) (unlock-only u step e) (λ b some. absurd (none-some b (sym has.0.given ∙ some))) made)
      which (discard_at.Over cycle) has e made = absurd (none-some step e)

-- ---- the frame is seized

module _ {layout : Layout} {new : View} {who : Who} {frame : Frame} (on : IsOnTurn new who) (within : frame.0 < layout.frames) where
  pub stop-read : {base : List Made} {old : View} {found : ℕ} {got : Option BodyValue} → Steps layout who (steps.Load places.Stop) None old new found got → hand_of new ≡ empty → HasMadeNoneBeside base new who → FitsAt base layout new who frame (after_stop who frame found)
  stop-read {base} {old} {found} made held none = by (is_stopped found) refl
    where
      by : (b : Bool) → is_stopped found ≡ b → FitsAt base layout new who frame (cond b (at.Over answers.Stopped) (at.Seize (seizes.begin who frame)))
      by true is = (held, (none, record { word = found; stopped = is; saw = saw-load made }))
      by false is = (record { seize = record { on_turn = on; frame = within; at = held }; own = refl; frame_is = refl; under_way = refl }, none)

  pub seized : {base : List Made} (z : Seize) → seizes.Fits layout new z → z.who ≡ who → z.frame ≡ frame → HasMadeNoneBeside base new who → FitsAt base layout new who frame (after_seize who frame z)
  seized {base} z fits own frame_is none = which z.at fits (subst (λ (w : Who). seizes.FitsAt layout new w frame z.at) own (subst (λ (f : Frame). seizes.FitsAt layout new z.who f z.at) frame_is fits.at))
    where
      on-way : (x : SeizeAt) → seizes.Fits layout new (record z { at = x }) → is_none (seizes.plan_at z.frame x) ≡ false → FitsAt base layout new who frame (at.Seize (record z { at = x }))
      on-way x fit going = (record { seize = fit; own = own; frame_is = frame_is; under_way = going }, none)

      which : (x : SeizeAt) → seizes.Fits layout new (record z { at = x }) → seizes.FitsAt layout new who frame x → FitsAt base layout new who frame (after_seize who frame (record z { at = x }))
      which seize_at.Look fit has = on-way seize_at.Look fit refl
      which (seize_at.Grab g) fit has = on-way (seize_at.Grab g) fit fit.at.0.under_way
      which (seize_at.Meet m) fit has = on-way (seize_at.Meet m) fit fit.at.0.under_way
      which seize_at.Kernel fit has = (has.0, (none, has.1))
      which seize_at.Already fit has = (has.0, (none, has.1, has.2))
      which seize_at.Grabbed fit has = (record { discard = record { on_turn = on; frame = within; at = has.0 }; own = refl; frame_is = refl; under_way = refl }, has.1, none)
      which seize_at.Free fit has = (record { discard = record { on_turn = on; frame = within; at = has.0 }; own = refl; frame_is = refl; under_way = refl }, has.1, none)
      which (seize_at.Owned page body) fit has = (has.0, has.1, none)

  pub discarded : {base : List Made} (d : Discard) → discards.Fits layout new d → d.who ≡ who → d.frame ≡ frame → IsUsers layout frame → HasMadeNoneBeside base new who → FitsAt base layout new who frame (after_discard d)
  discarded {base} d fits own frame_is users none = which d.at fits (subst (λ (w : Who). discards.FitsAt layout new w frame d.at) own (subst (λ (f : Frame). discards.FitsAt layout new d.who f d.at) frame_is fits.at))
    where
      on-way : (x : DiscardAt) → discards.Fits layout new (record d { at = x }) → is_none (discards.plan_at d.frame x) ≡ false → FitsAt base layout new who frame (at.Discard (record d { at = x }))
      on-way x fit going = (record { discard = fit; own = own; frame_is = frame_is; under_way = going }, users, none)

      which : (x : DiscardAt) → discards.Fits layout new (record d { at = x }) → discards.FitsAt layout new who frame x → FitsAt base layout new who frame (after_discard (record d { at = x }))
      which (discard_at.Poison used) fit has = on-way (discard_at.Poison used) fit refl
      which (discard_at.Count cycle) fit has = on-way (discard_at.Count cycle) fit refl
      which (discard_at.Retire cycle) fit has = on-way (discard_at.Retire cycle) fit refl
      which (discard_at.Unlock u) fit has = on-way (discard_at.Unlock u) fit fit.at.0.under_way
      which (discard_at.Over None) fit has = (has.0, (none, has.1, users))
      which (discard_at.Over (Some cycle)) fit has = (has.0, (none, has.1, users))

-- ---- the bad lines are read

module _ {base : List Made} {layout : Layout} {old new : View} {who : Who} {frame : Frame} {page : Page} {body : BodyValue} {found : ℕ} {got : Option BodyValue} (on : IsOnTurn new who) (within : frame.0 < layout.frames) (has : HoldsMet layout old who page frame None body) (users : IsUsers layout frame) (none : HasMadeNoneBeside base old who)
    (made : Steps layout who (steps.Load (places.Bad frame)) None old new found got) where
  more : new.sights ≡ old.sights ++ (record { stamp = stamp_of who (noted who old); place = places.Bad frame; word = found }) ∷ []
  more = ap (λ (v : View). v.sights) made.told.next

  hand : hand_of new ≡ held layout page (Some frame) (log_of body) has.holds.seen false has.holds.poisoned
  hand = hand-planned made refl has.holds.hand_is ∙ ap (λ (b : Bool). held layout page (Some frame) (log_of body) has.holds.seen b has.holds.poisoned) has.unhandled

  abbrev page-still : HoldsPage layout new page (Some frame) body
  page-still = record {
    seen = has.holds.seen;
    handled = false;
    poisoned = has.holds.poisoned;
    hand_is = hand;
    within = has.holds.within;
    body_is = has.holds.body_is;
  }

  few-still : has.holds.seen ≤ length new.sights
  few-still = let all : length new.sights ≡ length old.sights + 1 = ap (λ (l : List Sight). length l) more ∙ length-append old.sights _ in let few : _ = has.few in omega (arith, all, few)

  none-still : HasMadeNoneBeside base new who
  none-still = deeds-same who tt made ∙ none

  seen-zero : found ≡ 0 → SomeMember (Shows who frame (places.Bad frame) 0) (drop has.holds.seen new.sights)
  seen-zero zero = subst (SomeMember (Shows who frame (places.Bad frame) 0)) (sym (ap (λ (l : List Sight). drop has.holds.seen l) more ∙ drop-append-le has.holds.seen old.sights _ has.few))
      (some-last (Shows who frame (places.Bad frame) 0) (drop has.holds.seen old.sights) _ (record {
        own = refl;
        under = inl (ap (λ (h : Hand). option_map (λ (l : FrameLock). l.frame) (slice_get h.locks 0)) has.holds.hand_is);
        place_is = refl;
        word_is = zero;
      }))

  cached : body.state.cached ≡ true
  cached = ap (λ (s : PageState). s.cached) (sym (state-is has.holds.body_is)) ∙ is-cached has.holds.body_is

  takes-one : found ≡ 0 → (x : SoftAt) → TakesOne who page body x → FitsAt base layout new who frame x
  takes-one zero x is = subst (FitsAt base layout new who frame) (sym is.next_is) (record {
    good = record {
      seen = has.holds.seen;
      poisoned = has.holds.poisoned;
      hand_is = hand;
      body_is = record { page_is = has.holds.body_is.page_is; layout_is = has.holds.body_is.layout_is; cached = has.holds.body_is.cached; replay = has.holds.body_is.replay };
      can = record { room = is.some; allowed = cached };
      few = few-still;
      saw = seen-zero zero;
      inside = has.inside;
      users = users;
      made_none = none-still;
    };
    apart = λ to locked. absurd (none-some to locked);
    take = record { on_turn = on; at = (subst (λ (h : Hand). h.reserved + length h.hands + length h.refs + 1 ≤ 2) (sym hand) (omega arith), subst (λ (h : Hand). length h.locks < 2) (sym hand) (omega arith)) };
    own = refl;
    under_way = refl;
  })

  pub bad-read : (x : SoftAt) → AfterBad who frame page body found x → FitsAt base layout new who frame x
  bad-read x follows = which (found == 0) refl follows
    where
      gives-up : x ≡ given_up who frame page body → FitsAt base layout new who frame x
      gives-up is = subst (FitsAt base layout new who frame) (sym is) (record {
        give_up = page-given-up layout new who page (Some frame) 1 body (held-unholds layout new who page (Some frame) body on has.inside page-still);
        own = refl;
        as_taken = one-taken layout who new (Some frame) body has.holds.seen (ap (λ (h : Hand). h.bodies) hand);
      })

      which : (b : Bool) → (found == 0) ≡ b → MatchBool b ((x ≡ given_up who frame page body) ⊎ TakesOne who page body x) (x ≡ let_go who frame page body (answers.HasBad (record { 0 = found }))) → FitsAt base layout new who frame x
      which true zero (inl is) = gives-up is
      which true zero (inr is) = takes-one (eqb-true found 0 zero) x is
      which false some is = subst (FitsAt base layout new who frame) (sym is) (page-let-go on within (answers.HasBad (record { 0 = found })) has.inside page-still (
        none-still,
        record {
          page = page;
          some = eqb-false found 0 some;
          saw = saw-bad-of-load made page (record { frame = frame; owner = page.0 + 1; handled = has.holds.handled; poisoned = has.holds.poisoned }) (ap (λ (h : Hand). slice_get h.locks 0) has.holds.hand_is) refl refl;
        },
        users,
      ))
