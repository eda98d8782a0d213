-- What follows the steps of a `Soft` by which another frame is taken, the frame is poisoned, and the page begins to move, or the
-- other frame is given back.
use Rattle.std.proofs.Common.{◌≡◌, ◌≢◌, inl, ℕ, ◌+◌, ◌/◌, ◌<◌, ◌≤◌, ◌==◌, Bool, true, false, cond, List, [], ◌∷◌, Option, Some, None, MatchBool, filter, is_none, length, slice_get, refl, sym, ap, ◌∙◌, subst, arith}
use Rattle.std.proofs.lemmas.Bool.{both_ways}
use Rattle.std.proofs.lemmas.Option.{none-some, same_Some, slice_get_within}
use Rattle.std.specs.FinSet as set
use Rattle.hwp_claim_frame.specs.hwp_geom.declared.Frame.{Frame}
use Rattle.hwp_claim_frame.specs.hwp_geom.declared.Layout.{Layout}
use Rattle.hwp_claim_frame.specs.hwp_geom.declared.Page.{Page}
use Rattle.hwp_claim_frame.specs.hwp_geom.declared.TransDecl.{TransDecl}
use Rattle.hwp_claim_frame.specs.hwp_geom.declared.Who.{Who}
use Rattle.hwp_claim_frame.specs.hwp_page.declared.PageState.{PageState}
use Rattle.hwp_claim_frame.specs.hwp_page.History.{BodyValue}
use Rattle.hwp_claim_frame.specs.hwp_words.Frames.{cycle_of, is_poisoned}
use Rattle.hwp_claim_frame.specs.hwp_core_rule.declared.FrameLock.{FrameLock}
use Rattle.hwp_claim_frame.specs.hwp_core_rule.declared.Made.{Made}
use Rattle.hwp_claim_frame.specs.hwp_core_rule.declared.Log.{Log}
use Rattle.hwp_claim_frame.specs.hwp_core_rule.declared.MarkKind.TheVariants as mark_kinds
use Rattle.hwp_claim_frame.specs.hwp_core_rule.declared.SharedWord.TheVariants as places
use Rattle.hwp_claim_frame.specs.hwp_core_rule.declared.Ref.{Ref}
use Rattle.hwp_claim_frame.specs.hwp_core_rule.declared.Step.{Step}
use Rattle.hwp_claim_frame.specs.hwp_core_rule.declared.Step.TheVariants as steps
use Rattle.hwp_claim_frame.specs.hwp_core_rule.declared.View.{View}
use Rattle.hwp_claim_frame.specs.hwp_core_rule.Logs.{log_of, state_of, fitting, fitting_word}
use Rattle.hwp_claim_frame.specs.hwp_core_rule.Steps.{goes}
use Rattle.hwp_claim_frame.specs.hwp_core_rule.Views.{is_lock_of, locks_on, marked, noted, owing_count, refs_on, sighted, stamp_of, with_refs, without}
use Rattle.hwp_claim_frame.proofs.of_hwp_core_rule.PageWords.{fitting-at}
use Rattle.hwp_claim_frame.proofs.of_hwp_core_rule.Lists.{same-number}
use Rattle.hwp_claim_frame.proofs.of_hwp_core_rule.Refs.{refs-with}
use Rattle.hwp_claim_frame.specs.hwp_core_rule.Calls.{IsOnTurn, Steps}
use Rattle.hwp_claim_frame.specs.hwp_core_rule.Hands.{Hand, body_in, hand_of}
use Rattle.hwp_claim_frame.proofs.of_hwp_core_rule.tasks.StepLeaves.{hand-planned, steps-planned}
use Rattle.hwp_claim_frame.specs.hwp_core_rule.Known.{Saw, deeds, is_by}
use Rattle.hwp_claim_frame.proofs.of_hwp_core_rule.tasks.MadeEntries.{ListsNone, deeds-same, made-kept}
use Rattle.hwp_claim_frame.proofs.of_hwp_core_rule.tasks.SightKeeps.{saw-adopted-stays, saw-stays}
use Rattle.hwp_claim_frame.specs.hwp_core.declared.release.Release.{Release}
use Rattle.hwp_claim_frame.specs.hwp_core.declared.release.ReleaseAt.{ReleaseAt}
use Rattle.hwp_claim_frame.specs.hwp_core.declared.release.ReleaseAt.TheVariants as release_at
use Rattle.hwp_evict.specs.declared.take.Take.{Take}
use Rattle.hwp_evict.specs.declared.take.TakeAt.{TakeAt}
use Rattle.hwp_evict.specs.declared.take.TakeAt.TheVariants as take_at
use Rattle.hwp_claim_frame.specs.hwp_core.Holds.{one_ref}
use Rattle.hwp_claim_frame.specs.hwp_core.Releases as releases
use Rattle.hwp_evict.specs.Takes as takes
use Rattle.hwp_claim_frame.specs.hwp_core.Releases.{new_lock}
use Rattle.hwp_claim_frame.proofs.of_hwp_core.TaskCosts.{release-lists}
use Rattle.hwp_claim_frame.proofs.of_hwp_core.ReleaseLaws as releasing_laws
use Rattle.hwp_evict.proofs.TakeLaws as taking
use Rattle.hwp_claim_frame.proofs.of_hwp_core.TranslationWrites.{declared-of}
use Rattle.hwp_claim_frame.proofs.of_hwp_core.BodyGrows.{Grown}
use Rattle.hwp_claim_frame.proofs.of_hwp_core.PageStates.{is-cached, replay-is, replay-own, state-is}
use Rattle.hwp_claim_frame.specs.Claims.{SawPoison}
use Rattle.hwp_claim_frame.specs.Grabs.{WasFree}
use Rattle.hwp_claim_frame.proofs.ClaimLaws.{has-marked, owes-count, saw-poison}
use Rattle.hwp_soft_move.specs.declared.relocate.Relocate.{Relocate}
use Rattle.hwp_soft_move.specs.declared.relocate.Transfer.{Transfer}
use Rattle.hwp_soft_move.specs.declared.relocate.RelocateAt.TheVariants as relocate_at
use Rattle.hwp_soft.specs.declared.soft.SoftAnswer.TheVariants as answers
use Rattle.hwp_soft.specs.declared.soft.SoftAt.{SoftAt}
use Rattle.hwp_soft.specs.declared.soft.SoftAt.TheVariants as at
use Rattle.hwp_soft.specs.Offline.{FitsAt, HoldsGood, HoldsSpare, IsReleasing, IsTaking, locked_in, releasing, with_take}
use Rattle.hwp_soft_move.specs.Relocating as relocating
use Rattle.hwp_soft_move.specs.Relocations as relocations
use Rattle.hwp_soft.specs.Softs.{AfterPoison, Moves, after_release, after_take, place, with_entry}
use Rattle.hwp_soft_move.proofs.SetCounts.{few-on}
use Rattle.hwp_soft_move.proofs.RelocateSteps.{apart-from, apart-to}
use Rattle.hwp_soft_move.proofs.RemapLaws.{two_refs}
use Rattle.hwp_soft.proofs.SpareFrame.{adopt-apart, adopt-free, page-alone, either-grows, good-holds, good-on, page-let-go, release-grows, release-on, take-grows, take-on}

pub free-stays : {layout : Layout} {who by : Who} {step : Step} {put : Option Log} {old new : View} {found : ℕ} {got : Option BodyValue} {frame : Frame} {word : ℕ} → Steps layout by step put old new found got → WasFree old who frame word → WasFree new who frame word
free-stays made has = record { saw = saw-adopted-stays made has.saw; bare = has.bare; uncounted = has.uncounted }

-- ---- another frame is taken

abbrev locked-by : Frame → Page → Bool → FrameLock
locked-by frame page poisoned = record { frame = frame; owner = page.0 + 1; handled = false; poisoned = poisoned }

abbrev is-locked-in : Option Frame → Bool
is-locked-in None = false
is-locked-in (Some to) = true

take-lists : (t : Take) (step : Step) → takes.plan t ≡ Some step → ListsNone step
take-lists t step is = which t.at is
  where
    which : (x : TakeAt) → takes.plan_at x ≡ Some step → ListsNone step
    which take_at.LoadAvailable e = subst ListsNone (same_Some (steps.Load places.Available) step e) tt
    which (take_at.Reserve seen) e = subst ListsNone (same_Some (steps.Reserve seen) step e) tt
    which (take_at.LoadFree number) e = subst ListsNone (same_Some (steps.Load (places.Free number)) step e) tt
    which (take_at.TakeBit to) e = subst ListsNone (same_Some (steps.TakeBit to) step e) tt
    which (take_at.Adopt to) e = subst ListsNone (same_Some (steps.Adopt to) step e) tt
    which (take_at.Retire to) e = subst ListsNone (same_Some (steps.Retire to) step e) tt
    which (take_at.Over to) e = absurd (none-some step e)

module _ {layout : Layout} {old new : View} {who : Who} {frame : Frame} {page : Page} {body : BodyValue} {found : ℕ} {got : Option BodyValue} (on : IsOnTurn new who) (within : frame.0 < layout.frames) where
  module _ {base : List Made} {step : Step} (t : Take) (has : IsTaking base layout old who frame page body t) (e : takes.plan t ≡ Some step) (made : Steps layout who step None old new found got) where
    own : Steps layout t.who step None old new found got
    own = subst (λ (w : Who). Steps layout w step None old new found got) (sym has.own) made

    child : takes.Shows t found got × takes.Fits layout new (takes.next layout t found)
    child = taking.both layout old new t step found got has.take e own

    pub take-shows : takes.Shows t found got
    take-shows = child.0

    hand : hand_of new ≡ with_take (takes.next layout t found).at (page-alone layout frame page body has.good.seen has.good.poisoned)
    hand = taking.held-after t e own (with_take t.at (page-alone layout frame page body has.good.seen has.good.poisoned)) has.take has.good.hand_is
        ∙ take-on layout frame page body has.good.seen has.good.poisoned t.at found has.apart has.under_way

    same : deeds who new ≡ deeds who old
    same = deeds-same who (take-lists t step e) made

    -- the frame that is locked then was in hand before
    spare-of : (to : Frame) → locked_in (takes.next layout t found).at ≡ Some to → (frame.0 ≢ to.0) × ((word : ℕ) × WasFree new who to word)
    spare-of to = which t.at e has.take.at has.good.hand_is
      where
        none-of : (o : Option Frame) → is-locked-in o ≡ false → o ≡ Some to → (frame.0 ≢ to.0) × ((word : ℕ) × WasFree new who to word)
        none-of None unlocked is = absurd (none-some to is)
        none-of (Some other) unlocked is = absurd (both_ways true unlocked refl)

        number : (b : Bool) → is-locked-in (locked_in (cond b (take_at.Over None) (take_at.Reserve found))) ≡ false
        number true = refl
        number false = refl

        which : (x : TakeAt) → takes.plan_at x ≡ Some step → takes.FitsAt layout old t.who x → hand_of old ≡ with_take x (page-alone layout frame page body has.good.seen has.good.poisoned) → locked_in (takes.next_at layout x found) ≡ Some to → (frame.0 ≢ to.0) × ((word : ℕ) × WasFree new who to word)
        which take_at.LoadAvailable e fit hand is = none-of _ (number (found == 0)) is
        which (take_at.Reserve seen) e fit hand is = none-of _ (by (found == seen)) is
          where
            by : (b : Bool) → is-locked-in (locked_in (cond b (take_at.LoadFree 0) (takes.at_available found))) ≡ false
            by true = refl
            by false = number (found == 0)
        which (take_at.LoadFree n) e fit hand is = none-of _ (by (found == 0)) is
          where
            by : (b : Bool) → is-locked-in (locked_in (cond b (take_at.LoadFree (takes.after_word layout n)) (take_at.TakeBit (takes.lowest_free n found)))) ≡ false
            by true = refl
            by false = refl
        which (take_at.TakeBit other) e fit hand is = none-of _ (by (takes.has_bit other found)) is
          where
            by : (b : Bool) → is-locked-in (locked_in (cond b (take_at.Adopt other) (take_at.LoadFree (other.0 / 64)))) ≡ false
            by true = refl
            by false = refl
        which (take_at.Adopt other) e fit hand is = subst (λ (f : Frame). (frame.0 ≢ f.0) × ((word : ℕ) × WasFree new who f word)) (same_Some other to (sym (by (is_poisoned found)) ∙ is)) (
          adopt-apart other fit.0 fit.1.0 (steps-planned e made) frame (ap (λ (h : Hand). h.refs) hand),
          (found, adopt-free other fit.0 fit.1.0 (steps-planned e made) (omega (arith, ap (λ (h : Hand). length h.locks) hand))),
        )
          where
            by : (b : Bool) → locked_in (cond b (take_at.Retire other) (take_at.Over (Some other))) ≡ Some other
            by true = refl
            by false = refl
        which (take_at.Retire other) e fit hand is = absurd (none-some to is)
        which (take_at.Over other) e fit hand is = absurd (none-some step e)

    pub took : FitsAt base layout new who frame (after_take who frame page body (takes.next layout t found))
    took = which (takes.next layout t found).at child.1 hand spare-of
      where
        good : (z : TakeAt) → hand_of new ≡ with_take z (page-alone layout frame page body has.good.seen has.good.poisoned) → HoldsGood base layout new who frame page body (with_take z)
        good z hand = good-on (with_take z) has.good.poisoned has.good hand (take-grows t e own) same

        on-way : (z : TakeAt) → takes.Fits layout new (record t { at = z }) → hand_of new ≡ with_take z (page-alone layout frame page body has.good.seen has.good.poisoned) → ((to : Frame) → locked_in z ≡ Some to → (frame.0 ≢ to.0) × ((word : ℕ) × WasFree new who to word))
            → is_none (takes.plan_at z) ≡ false → FitsAt base layout new who frame (at.Take page body (record t { at = z }))
        on-way z fit hand spare going = record { good = good z hand; apart = λ to is. (spare to is).0; take = fit; own = has.own; under_way = going }

        which : (z : TakeAt) → takes.Fits layout new (record t { at = z }) → hand_of new ≡ with_take z (page-alone layout frame page body has.good.seen has.good.poisoned) → ((to : Frame) → locked_in z ≡ Some to → (frame.0 ≢ to.0) × ((word : ℕ) × WasFree new who to word))
            → FitsAt base layout new who frame (after_take who frame page body (record t { at = z }))
        which take_at.LoadAvailable fit hand spare = on-way take_at.LoadAvailable fit hand spare refl
        which (take_at.Reserve seen) fit hand spare = on-way (take_at.Reserve seen) fit hand spare refl
        which (take_at.LoadFree n) fit hand spare = on-way (take_at.LoadFree n) fit hand spare refl
        which (take_at.TakeBit to) fit hand spare = on-way (take_at.TakeBit to) fit hand spare refl
        which (take_at.Adopt to) fit hand spare = on-way (take_at.Adopt to) fit hand spare refl
        which (take_at.Retire to) fit hand spare = on-way (take_at.Retire to) fit hand spare refl
        which (take_at.Over (Some to)) fit hand spare = record { good = good (take_at.Over (Some to)) hand; within = fit.at; apart = (spare to refl).0; word = (spare to refl).1.0; free = (spare to refl).1.1 }
        which (take_at.Over None) fit hand spare =
            let still : HoldsGood base layout new who frame page body (λ h. h) = good-on (λ h. h) has.good.poisoned has.good hand (take-grows t e own) same in
            page-let-go on within answers.NoFrame has.good.inside (good-holds on within still) (still.made_none, subst (λ (w : Who). Saw new w places.Available 0) has.own fit.at, has.good.users)

  -- ---- it is given back

  module _ {base : List Made} (to : Frame) (has : HoldsSpare base layout old who frame page body to) (saw : SawPoison old who frame) (made : Steps layout who (steps.UnlockFrame to) None old new found got) where
    freed-hand : hand_of new ≡ releasing to release_at.Put (page-alone layout frame page body has.good.seen has.good.poisoned)
    freed-hand = hand-planned made refl has.good.hand_is ∙ unlocked
      where
        unlocked : record (with_take (take_at.Over (Some to)) (page-alone layout frame page body has.good.seen has.good.poisoned)) { locks = without (is_lock_of to) (with_take (take_at.Over (Some to)) (page-alone layout frame page body has.good.seen has.good.poisoned)).locks } ≡ releasing to release_at.Put (page-alone layout frame page body has.good.seen has.good.poisoned)
        unlocked = let other : (frame.0 == to.0) ≡ false = apart-from has.apart in let same : (to.0 == to.0) ≡ true = same-number to.0 to.0 refl in grind arith

    pub spare-freed : FitsAt base layout new who frame (at.ReleaseSpare page body (releases.begin who to 1))
    spare-freed = (
      record {
        good = good-on (releasing to release_at.Put) has.good.poisoned has.good freed-hand (inl (ap (λ (v : View). v.sights) made.told.next)) (deeds-same who tt made);
        apart = has.apart;
        release = record {
          on_turn = on;
          frame = has.within;
          at = (
            omega arith,
            subst (λ (h : Hand). 1 + locks_on to.0 h.locks ≤ refs_on to.0 h.refs) (sym freed-hand) (omega (arith, refs-with to 1 (one_ref frame), locks)),
            subst (λ (h : Hand). length h.locks < 2) (sym freed-hand) (omega arith),
          );
        };
        own = refl;
        count_is = refl;
        under_way = refl;
      },
      record { word = saw.word; poisoned = saw.poisoned; saw = saw-stays made saw.saw },
    )
      where
        locks : locks_on to.0 (page-alone layout frame page body has.good.seen has.good.poisoned).locks ≡ 0
        locks = let other : (frame.0 == to.0) ≡ false = apart-from has.apart in grind arith

  module _ {base : List Made} {step : Step} (r : Release) (has : IsReleasing base layout old who frame page body r) (saw : SawPoison old who frame) (e : releases.plan r ≡ Some step) (made : Steps layout who step None old new found got) where
    of-release : Steps layout r.who step None old new found got
    of-release = subst (λ (w : Who). Steps layout w step None old new found got) (sym has.own) made

    going : is_none (releases.plan_at r.frame 1 r.at) ≡ false
    going = ap (λ (n : ℕ). is_none (releases.plan_at r.frame n r.at)) (sym has.count_is) ∙ has.under_way

    released-hand : hand_of new ≡ releasing r.frame (releases.next r found).at (page-alone layout frame page body has.good.seen has.good.poisoned)
    released-hand = releasing_laws.held-after r e of-release has.release (releasing r.frame r.at (page-alone layout frame page body has.good.seen has.good.poisoned)) has.good.hand_is
        ∙ ap (λ (n : ℕ). releases.hand_next_at r.frame n r.at found (releasing r.frame r.at (page-alone layout frame page body has.good.seen has.good.poisoned))) has.count_is
        ∙ release-on layout frame page body has.good.seen has.good.poisoned r.frame r.at found has.apart going
        ∙ ap (λ (n : ℕ). releasing r.frame (releases.next_at n r.at found) (page-alone layout frame page body has.good.seen has.good.poisoned)) (sym has.count_is)

    still-saw : SawPoison new who frame
    still-saw = record { word = saw.word; poisoned = saw.poisoned; saw = saw-stays made saw.saw }

    pub spare-released : FitsAt base layout new who frame (after_release who frame page body (releases.next r found))
    spare-released = which (releases.next r found).at (releasing_laws.moved r e of-release has.release) released-hand
      where
        good : (less : Hand → Hand) → hand_of new ≡ less (page-alone layout frame page body has.good.seen has.good.poisoned) → HoldsGood base layout new who frame page body less
        good less hand = good-on less has.good.poisoned has.good hand (release-grows r e of-release) (deeds-same who (release-lists r step e) made)

        on-way : (y : ReleaseAt) → releases.Fits layout new (record r { at = y }) → hand_of new ≡ releasing r.frame y (page-alone layout frame page body has.good.seen has.good.poisoned) → is_none (releases.plan_at r.frame r.count y) ≡ false → FitsAt base layout new who frame (at.ReleaseSpare page body (record r { at = y }))
        on-way y fit hand goes = (record { good = good (releasing r.frame y) hand; apart = has.apart; release = fit; own = has.own; count_is = has.count_is; under_way = goes }, still-saw)

        which : (y : ReleaseAt) → releases.Fits layout new (record r { at = y }) → hand_of new ≡ releasing r.frame y (page-alone layout frame page body has.good.seen has.good.poisoned) → FitsAt base layout new who frame (after_release who frame page body (record r { at = y }))
        which release_at.Put fit hand = on-way release_at.Put fit hand refl
        which (release_at.Give word) fit hand = on-way (release_at.Give word) fit hand refl
        which (release_at.Unreserve word) fit hand = on-way (release_at.Unreserve word) fit hand refl
        which (release_at.Adopt word) fit hand = on-way (release_at.Adopt word) fit hand refl
        which (release_at.Retire word) fit hand = on-way (release_at.Retire word) fit hand refl
        which (release_at.Back word) fit hand =
            let still : HoldsGood base layout new who frame page body (λ h. h) = good (λ h. h) hand in
            page-let-go on within answers.Already has.good.inside (good-holds on within still) (still.made_none, still-saw, has.good.users)

  -- ---- the frame is poisoned

  module _ {base : List Made} (to : Frame) (has : HoldsSpare base layout old who frame page body to) (made : Steps layout who (steps.Poison frame false) None old new found got) where
    hand-poisoned : hand_of new ≡ with_take (take_at.Over (Some to)) (page-alone layout frame page body has.good.seen true)
    hand-poisoned = hand-planned made refl has.good.hand_is
        ∙ ap (λ (b : Bool). record (with_take (take_at.Over (Some to)) (page-alone layout frame page body has.good.seen true)) { locks = cond b (locked-by frame page true) (locked-by frame page has.good.poisoned) ∷ cond (to.0 == frame.0) (record (new_lock to) { poisoned = true }) (new_lock to) ∷ [] }) (same-number frame.0 frame.0 refl)
        ∙ ap (λ (b : Bool). record (with_take (take_at.Over (Some to)) (page-alone layout frame page body has.good.seen true)) { locks = locked-by frame page true ∷ cond b (record (new_lock to) { poisoned = true }) (new_lock to) ∷ [] }) (apart-to has.apart)

    none-made : deeds who new ≡ deeds who old
    none-made = ap (filter (is_by who)) (made-kept made tt)

    grown : Grown old.sights new.sights
    grown = subst (Grown old.sights) (sym (ap (λ (v : View). v.sights) made.told.next))
        (either-grows (goes (steps.Poison frame false) found) (record (marked who frame found (mark_kinds.Poisoned false) (noted who old)) { owed = owing_count false old.owed }) (sighted who (places.Frame frame) found (noted who old)) old
        (record { stamp = stamp_of who (noted who old); place = places.Frame frame; word = found }) refl refl)

    still : HoldsSpare base layout new who frame page body to
    still = record {
      good = good-on (with_take (take_at.Over (Some to))) true has.good hand-poisoned grown none-made;
      within = has.within;
      apart = has.apart;
      word = has.word;
      free = free-stays made has.free;
    }

    abbrev now : HoldsGood base layout new who frame page body (with_take (take_at.Over (Some to)))
    now = good-on (with_take (take_at.Over (Some to))) true has.good hand-poisoned grown none-made

    abbrev words : List ℕ
    words = fitting layout (log_of body).page (state_of layout (log_of body)) (frame.0 + 1)

    refs-both : with_refs to 1 (one_ref frame) ≡ two_refs frame 1 to 1
    refs-both = ap (λ (b : Bool). cond b (record { frame = frame; count = 1 + 1 } ∷ []) (record { frame = frame; count = 1 } ∷ with_refs to 1 [])) (apart-from has.apart)

    maps-are : body.state.maps ≡ (state_of layout (log_of body)).maps
    maps-are = ap (λ (s : PageState). s.maps) (sym (state-is has.good.body_is))

    module _ (relocate : Relocate) (begun : relocations.IsBegun who page frame to body.state.maps (place page body) (with_entry who body) relocate) where
      abbrev moving : Transfer
      moving = record { who = who; page = page; from = frame; to = to; count = begun.number + 2 }

      members-declared : (v : ℕ) → set.contains body.state.maps v ≡ true → v < length layout.trans
      members-declared v used =
          let own = declared-of (λ (d : TransDecl). d.page ≡ page) (slice_get layout.trans v) (replay-own (replay-is has.good.body_is) v (ap (λ m. set.contains m v) (sym maps-are) ∙ used)) in
          slice_get_within layout.trans v own.0 own.1

      few-maps : begun.number ≤ length layout.trans
      few-maps = let few = few-on body.state.maps (length layout.trans) members-declared begun.counted.0 0 begun.number begun.counted.1 begun.counted.2 in omega (arith, few)

      ahead : relocating.IsAhead base layout new moving body.state.maps (place page body) (Some (with_entry who body)) relocate_at.Count frame
      ahead = record {
        trans = words;
        taken = body_in (Some frame) (log_of body) has.good.seen;
        hand_is = hand-poisoned ∙ ap (λ (refs : List Ref). record (with_take (take_at.Over (Some to)) (page-alone layout frame page body has.good.seen true)) { refs = refs }) refs-both;
        carries = record {
          log = log_of body;
          seen = has.good.seen;
          body = with_entry who body;
          given_is = refl;
          taken_is = refl;
          entry = record {
            page_is = has.good.body_is.page_is;
            log_is = refl;
            layout_is = has.good.body_is.layout_is;
            cached = is-cached has.good.body_is;
            replay = replay-is has.good.body_is;
            done_is = refl;
          };
          maps_are = maps-are;
          few = now.few;
          saw = now.saw;
          made_none = now.made_none;
        };
        words = λ slot d declared own. fitting-at (log_of body).page (state_of layout (log_of body)) (frame.0 + 1) 0 layout.trans slot d declared (own ∙ sym has.good.body_is.page_is)
            ∙ ap (λ (n : ℕ). Some (fitting_word (state_of layout (log_of body)) (frame.0 + 1) n)) (let first : 0 + slot ≡ slot = omega arith in first);
      }

      relocates : is_poisoned found ≡ false → relocating.FitsFrom base layout new relocate
      relocates clear = subst (relocating.FitsFrom base layout new) (sym begun.is) (record {
        on_turn = on;
        sound = made.told.rule.sound;
        page = has.good.inside;
        from = within;
        to = has.within;
        apart = has.apart;
        place = refl;
        number = begun.number;
        counted = begun.counted;
        count_is = refl;
        room = let few = few-maps in omega (arith, few);
        at = (ahead, owes-count frame false made clear);
      })

      pub moves : is_poisoned found ≡ false → FitsAt base layout new who frame (at.Relocate relocate (answers.Moved to (place page body) (cycle_of found)))
      moves clear = record {
        relocate = relocates clear;
        own = ap (λ (r : Relocate). r.transfer.who) begun.is;
        frame_is = ap (λ (r : Relocate). r.transfer.from) begun.is;
        under_way = ap (λ (r : Relocate). is_none (relocations.plan r)) begun.is;
        cycle = cycle_of found;
        answer_is = ap (λ (r : Relocate). answers.Moved r.transfer.to r.done (cycle_of found)) (sym begun.is);
        marked = has-marked frame false made clear;
        word = has.word;
        free = subst (λ (f : Frame). WasFree new who f has.word) (sym (ap (λ (r : Relocate). r.transfer.to) begun.is)) (free-stays made has.free);
        users = has.good.users;
      }

    pub frame-poisoned : (x : SoftAt) → AfterPoison who frame page body to found x → FitsAt base layout new who frame x
    frame-poisoned x follows = which (is_poisoned found) refl follows
      where
        which : (b : Bool) → is_poisoned found ≡ b → MatchBool b (x ≡ at.UnlockSpare page body to) (Moves who frame page body to (cycle_of found) x) → FitsAt base layout new who frame x
        which true set is = subst (FitsAt base layout new who frame) (sym is) (still, saw-poison frame false made set)
        which false clear is = subst (FitsAt base layout new who frame) (sym is.next_is) (moves is.relocate is.begun clear)
