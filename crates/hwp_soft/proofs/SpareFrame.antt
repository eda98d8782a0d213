-- A page held with its frame, and another frame taken beside it, or given back.
use Rattle.std.proofs.Common.{◌≡◌, ◌≢◌, inl, inr, ℕ, ◌+◌, ◌-◌, ◌/◌, ◌<◌, ◌≤◌, ◌==◌, Bool, true, false, cond, List, [], ◌∷◌, ◌++◌, Option, Some, None, is_none, length, map, refl, sym, ap, ◌∙◌, subst, arith}
use Rattle.std.proofs.lemmas.Bool.{both_ways}
use Rattle.std.proofs.lemmas.Option.{none-some, same_Some}
use Rattle.hwp_claim_frame.specs.hwp_geom.declared.Frame.{Frame}
use Rattle.hwp_claim_frame.specs.hwp_geom.declared.Layout.{Layout}
use Rattle.hwp_claim_frame.specs.hwp_geom.declared.Page.{Page}
use Rattle.hwp_claim_frame.specs.hwp_geom.declared.Who.{Who}
use Rattle.hwp_claim_frame.specs.hwp_page.History.{BodyValue}
use Rattle.hwp_claim_frame.specs.hwp_words.Frames.{count_of, is_kernel, is_poisoned}
use Rattle.hwp_claim_frame.specs.hwp_core_rule.declared.Made.{Made}
use Rattle.hwp_claim_frame.specs.hwp_core_rule.declared.SharedWord.{SharedWord}
use Rattle.hwp_claim_frame.specs.hwp_core_rule.declared.SharedWord.TheVariants as places
use Rattle.hwp_claim_frame.specs.hwp_core_rule.declared.Ref.{Ref}
use Rattle.hwp_claim_frame.specs.hwp_core_rule.declared.Sight.{Sight}
use Rattle.hwp_claim_frame.specs.hwp_core_rule.declared.Step.{Step}
use Rattle.hwp_claim_frame.specs.hwp_core_rule.declared.Step.TheVariants as steps
use Rattle.hwp_claim_frame.specs.hwp_core_rule.declared.View.{View}
use Rattle.hwp_claim_frame.specs.hwp_core_rule.Asks.{HasInHand}
use Rattle.hwp_claim_frame.specs.hwp_core_rule.Logs.{log_of}
use Rattle.hwp_claim_frame.specs.hwp_core_rule.Steps.{goes, is_last, place_of}
use Rattle.hwp_claim_frame.specs.hwp_core_rule.Views.{adopting, less_refs, noted, refs_on, sighted, stamp_of, unpoisoned, with_refs}
use Rattle.hwp_claim_frame.specs.hwp_core_rule.Words.{words_of}
use Rattle.hwp_claim_frame.specs.hwp_core_rule.parts.Places.{IsBare, in_hand}
use Rattle.hwp_claim_frame.proofs.of_hwp_core_rule.FramesInHand.{in_hand-mine}
use Rattle.hwp_claim_frame.proofs.of_hwp_core_rule.Lists.{at_map, same-number}
use Rattle.hwp_claim_frame.proofs.of_hwp_core_rule.MetWords.{frame-word, hand-bare}
use Rattle.hwp_claim_frame.proofs.of_hwp_core_rule.MoveKeeps.{shaped}
use Rattle.hwp_claim_frame.proofs.of_hwp_core_rule.kinds.Adopt.{unreferenced}
use Rattle.hwp_claim_frame.specs.hwp_core_rule.Calls.{IsOnTurn, Steps}
use Rattle.hwp_claim_frame.specs.hwp_core_rule.Hands.{Hand, hand_of}
use Rattle.hwp_claim_frame.proofs.of_hwp_core_rule.tasks.StepLeaves.{steps-planned}
use Rattle.hwp_claim_frame.specs.hwp_core_rule.Known.{deeds}
use Rattle.hwp_claim_frame.proofs.of_hwp_core_rule.tasks.SightKeeps.{saw-adopt}
use Rattle.hwp_claim_frame.specs.hwp_core.declared.release.Release.{Release}
use Rattle.hwp_claim_frame.specs.hwp_core.declared.release.ReleaseAt.{ReleaseAt}
use Rattle.hwp_claim_frame.specs.hwp_core.declared.release.ReleaseAt.TheVariants as release_at
use Rattle.hwp_evict.specs.declared.take.Take.{Take}
use Rattle.hwp_evict.specs.declared.take.TakeAt.{TakeAt}
use Rattle.hwp_evict.specs.declared.take.TakeAt.TheVariants as take_at
use Rattle.hwp_claim_frame.specs.hwp_core.Holds.{HoldsPage, held, one_ref}
use Rattle.hwp_claim_frame.specs.hwp_core.Releases as releases
use Rattle.hwp_evict.specs.Takes as takes
use Rattle.hwp_claim_frame.specs.hwp_core.Releases.{adopted_lock}
use Rattle.hwp_claim_frame.specs.hwp_core.Unholds as unholds
use Rattle.hwp_claim_frame.proofs.of_hwp_core.HoldEnds.{held-unholds}
use Rattle.hwp_claim_frame.proofs.of_hwp_core.BodyGrows.{Grown, length-grown}
use Rattle.hwp_claim_frame.proofs.of_hwp_core.VacateLaws.{refs-are}
use Rattle.hwp_claim_frame.specs.Grabs.{WasFree}
use Rattle.hwp_claim_frame.proofs.FrameUnlocks.{one-taken}
use Rattle.hwp_soft.specs.declared.soft.SoftAnswer.{SoftAnswer}
use Rattle.hwp_soft.specs.Offline.{HoldsGood, IsCaused, IsLettingGo, locked_in, releasing, with_take}
use Rattle.hwp_soft_move.proofs.RelocateSteps.{apart-from, saw-grown}

-- what is held of the page and its frame
abbrev pub page-alone : Layout → Frame → Page → BodyValue → ℕ → Bool → Hand
page-alone layout frame page body seen poisoned = held layout page (Some frame) (log_of body) seen false poisoned

-- ---- a frame is taken

-- a frame that the processor has in hand has no reference, and the processor has one to its own frame
module _ {layout : Layout} {old new : View} {who : Who} {found : ℕ} {got : Option BodyValue} (to : Frame) (inside : to.0 < layout.frames) (has : HasInHand old to) (made : Steps layout who (steps.Adopt to) None old new found got) where
  pub adopt-apart : (frame : Frame) → old.refs ≡ one_ref frame → frame.0 ≢ to.0
  adopt-apart frame refs same =
      let none : refs_on to.0 old.refs ≡ 0 = unreferenced layout (words_of layout made.told.board.words) made.told.board.homes made.told.board.views made.told.seat old made.told.me made.told.rule.rule to inside (shaped layout made.told.board made.told.rule) has in
      let one : refs_on frame.0 old.refs ≡ 1 = ap (refs_on frame.0) refs ∙ refs-are frame 1 in
      let both : refs_on frame.0 old.refs ≡ refs_on to.0 old.refs = ap (λ (n : ℕ). refs_on n old.refs) same in
      omega (arith, none, one, both)

  bare : IsBare found
  bare = hand-bare layout made.told.board made.told.rule made.told.seat old to found made.told.me has inside made.told.met

  some : 1 ≤ in_hand to.0 (map (λ (v : View). v.hands) made.told.board.views)
  some = in_hand-mine (map (λ (v : View). v.hands) made.told.board.views) made.told.seat old.hands (at_map (λ (v : View). v.hands) made.told.board.views made.told.seat old made.told.me) has.1 to has.3 has.0 has.2

  uncounted : count_of found ≡ 0
  uncounted = by (is_kernel found) refl
    where
      by : (b : Bool) → is_kernel found ≡ b → count_of found ≡ 0
      by true is = (made.told.rule.rule.frames.places.kernels to.0 found (frame-word layout made.told.board made.told.rule to found inside made.told.met) is).uncounted
      by false is =
          let placed = made.told.rule.rule.frames.places.placed to.0 found (frame-word layout made.told.board made.told.rule to found inside made.told.met) is in
          let mine = some in
          omega (arith, placed, mine)

  pub adopt-free : length old.locks < 2 → WasFree new who to found
  adopt-free few = record { saw = saw-adopt made few; bare = bare; uncounted = uncounted }

number-kept : (none : Bool) (found : ℕ) (h : Hand) → h ≡ with_take (cond none (take_at.Over None) (take_at.Reserve found)) h
number-kept true found h = refl
number-kept false found h = refl

module _ (layout : Layout) (frame : Frame) (page : Page) (body : BodyValue) (seen : ℕ) (poisoned : Bool) where
  abbrev b : Hand
  b = page-alone layout frame page body seen poisoned

  pub take-on : (x : TakeAt) (found : ℕ) → ((to : Frame) → locked_in x ≡ Some to → frame.0 ≢ to.0) → is_none (takes.plan_at x) ≡ false → takes.hand_next_at x found (with_take x (page-alone layout frame page body seen poisoned)) ≡ with_take (takes.next_at layout x found) (page-alone layout frame page body seen poisoned)
  take-on take_at.LoadAvailable found apart on = number-kept (found == 0) found (page-alone layout frame page body seen poisoned)
  take-on (take_at.Reserve word) found apart on = by (found == word)
    where
      by : (c : Bool) → cond c (record (page-alone layout frame page body seen poisoned) { reserved = 1 }) (page-alone layout frame page body seen poisoned) ≡ with_take (cond c (take_at.LoadFree 0) (takes.at_available found)) (page-alone layout frame page body seen poisoned)
      by true = refl
      by false = number-kept (found == 0) found (page-alone layout frame page body seen poisoned)
  take-on (take_at.LoadFree number) found apart on = by (found == 0)
    where
      by : (c : Bool) → record (page-alone layout frame page body seen poisoned) { reserved = 1 } ≡ with_take (cond c (take_at.LoadFree (takes.after_word layout number)) (take_at.TakeBit (takes.lowest_free number found))) (page-alone layout frame page body seen poisoned)
      by true = refl
      by false = refl
  take-on (take_at.TakeBit to) found apart on = by (takes.has_bit to found)
    where
      by : (c : Bool) → cond c (record (page-alone layout frame page body seen poisoned) { reserved = 1 - 1; hands = [] ++ unpoisoned to ∷ [] }) (record (page-alone layout frame page body seen poisoned) { reserved = 1 })
          ≡ with_take (cond c (take_at.Adopt to) (take_at.LoadFree (to.0 / 64))) (page-alone layout frame page body seen poisoned)
      by true = refl
      by false = refl
  take-on (take_at.Adopt to) found apart on =
      ap (λ (c : Bool). record (page-alone layout frame page body seen poisoned) { hands = cond c [] (unpoisoned to ∷ []); refs = with_refs to 1 (one_ref frame); locks = (page-alone layout frame page body seen poisoned).locks ++ adopted_lock to (is_poisoned found) ∷ [] }) (same-number to.0 to.0 refl)
      ∙ by (is_poisoned found)
    where
      by : (c : Bool) → record (page-alone layout frame page body seen poisoned) { refs = with_refs to 1 (one_ref frame); locks = (page-alone layout frame page body seen poisoned).locks ++ adopted_lock to c ∷ [] } ≡ with_take (cond c (take_at.Retire to) (take_at.Over (Some to))) (page-alone layout frame page body seen poisoned)
      by true = refl
      by false = refl
  take-on (take_at.Retire to) found apart on =
      let other : (frame.0 == to.0) ≡ false = apart-from (apart to refl) in
      let same : (to.0 == to.0) ≡ true = same-number to.0 to.0 refl in
      grind arith
  take-on (take_at.Over to) found apart on = absurd (both_ways true on refl)

  -- ---- it is given back

  pub release-on : (to : Frame) (x : ReleaseAt) (found : ℕ) → frame.0 ≢ to.0 → is_none (releases.plan_at to 1 x) ≡ false → releases.hand_next_at to 1 x found (releasing to x (page-alone layout frame page body seen poisoned)) ≡ releasing to (releases.next_at 1 x found) (page-alone layout frame page body seen poisoned)
  release-on to release_at.Put found apart on =
      ap (λ (refs : List Ref). record (page-alone layout frame page body seen poisoned) { refs = refs; hands = cond (is_last 1 found) ([] ++ (record { frame = to; poisoned = is_poisoned found }) ∷ []) [] }) none
      ∙ by (is_last 1 found) (is_poisoned found)
    where
      none : less_refs to 1 (with_refs to 1 (one_ref frame)) ≡ one_ref frame
      none = let other : (frame.0 == to.0) ≡ false = apart-from apart in let same : (to.0 == to.0) ≡ true = same-number to.0 to.0 refl in grind arith

      by : (c p : Bool) → record (page-alone layout frame page body seen poisoned) { hands = cond c ([] ++ (record { frame = to; poisoned = p }) ∷ []) [] } ≡ releasing to (cond c (cond p (release_at.Adopt found) (release_at.Give found)) (release_at.Back found)) (page-alone layout frame page body seen poisoned)
      by true true = refl
      by true false = refl
      by false p = refl
  release-on to (release_at.Give word) found apart on = let same : (to.0 == to.0) ≡ true = same-number to.0 to.0 refl in grind arith
  release-on to (release_at.Unreserve word) found apart on = grind arith
  release-on to (release_at.Adopt word) found apart on = let same : (to.0 == to.0) ≡ true = same-number to.0 to.0 refl in grind arith
  release-on to (release_at.Retire word) found apart on = let other : (frame.0 == to.0) ≡ false = apart-from apart in let same : (to.0 == to.0) ≡ true = same-number to.0 to.0 refl in grind arith
  release-on to (release_at.Back word) found apart on = absurd (both_ways true on refl)

-- ---- what is known stays

module _ {layout : Layout} {old new : View} {who : Who} {frame : Frame} {page : Page} {body : BodyValue} where
  abbrev pub good-on : {base : List Made} {more : Hand → Hand} (less : Hand → Hand) (poisoned : Bool) (has : HoldsGood base layout old who frame page body more) → hand_of new ≡ less (page-alone layout frame page body has.seen poisoned) → Grown old.sights new.sights → deeds who new ≡ deeds who old → HoldsGood base layout new who frame page body less
  good-on less poisoned has hand grown same = record {
    seen = has.seen;
    poisoned = poisoned;
    hand_is = hand;
    body_is = has.body_is;
    can = has.can;
    few = length-grown grown has.few;
    saw = saw-grown has.seen who (Some frame) grown has.few has.saw;
    inside = has.inside;
    users = has.users;
    made_none = same ∙ has.made_none;
  }

module _ {layout : Layout} {view : View} {who : Who} {frame : Frame} {page : Page} {body : BodyValue} (on : IsOnTurn view who) (within : frame.0 < layout.frames) where
  -- a page that is held goes home as it was taken
  pub page-let-go : {base : List Made} (answer : SoftAnswer) → page.0 < length layout.pages → HoldsPage layout view page (Some frame) body → IsCaused base layout view who frame answer → IsLettingGo base layout view who frame (unholds.begin who page (Some frame) 1 body) answer
  page-let-go {base} answer inside has caused = record {
    unhold = held-unholds layout view who page (Some frame) body on inside has;
    own = refl;
    under_way = refl;
    as_taken = one-taken layout who view (Some frame) body has.seen (ap (λ (h : Hand). h.bodies) has.hand_is);
    caused = caused;
  }

  pub good-holds : {base : List Made} → HoldsGood base layout view who frame page body (λ h. h) → HoldsPage layout view page (Some frame) body
  good-holds {base} has = record {
    seen = has.seen;
    handled = false;
    poisoned = has.poisoned;
    hand_is = has.hand_is;
    within = λ f e. subst (λ (g : Frame). g.0 < layout.frames) (same_Some frame f e) within;
    body_is = has.body_is;
  }

-- ---- a take shows at most one word

pub either-grows : (b : Bool) (v w old : View) (s : Sight) → v.sights ≡ old.sights → w.sights ≡ old.sights ++ s ∷ [] → Grown old.sights (cond b v w).sights
either-grows true v w old s same more = inl same
either-grows false v w old s same more = inr (s, more)

abbrev shown : Who → SharedWord → View → ℕ → Sight
shown who place old found = record { stamp = stamp_of who (noted who old); place = place; word = found }

-- the sight of an adoption is under the lock that it takes
abbrev adopted : Who → Frame → View → ℕ → Sight
adopted who frame old found = record { stamp = stamp_of who (adopting frame found (noted who old)); place = places.Frame frame; word = found }

pub take-grows : {layout : Layout} {old new : View} {step : Step} {found : ℕ} {got : Option BodyValue} (t : Take) → takes.plan t ≡ Some step → Steps layout t.who step None old new found got → Grown old.sights new.sights
take-grows {layout} {old} {new} {step} {found} {got} t is made = which t.at is
  where
    which : (x : TakeAt) → takes.plan_at x ≡ Some step → Grown old.sights new.sights
    which take_at.LoadAvailable e = inr (shown t.who places.Available old found, ap (λ (v : View). v.sights) (steps-planned e made).told.next)
    which (take_at.Reserve seen) e = subst (Grown old.sights) (sym (ap (λ (v : View). v.sights) (steps-planned e made).told.next))
        (either-grows (found == seen) (record (noted t.who old) { reserved = old.reserved + 1 }) (sighted t.who places.Available found (noted t.who old)) old (shown t.who places.Available old found) refl refl)
    which (take_at.LoadFree number) e = inr (shown t.who (places.Free number) old found, ap (λ (v : View). v.sights) (steps-planned e made).told.next)
    which (take_at.TakeBit to) e = subst (Grown old.sights) (sym (ap (λ (v : View). v.sights) (steps-planned e made).told.next))
        (either-grows (goes (steps.TakeBit to) found) (record (noted t.who old) { reserved = old.reserved - 1; hands = old.hands ++ unpoisoned to ∷ [] }) (sighted t.who (place_of (steps.TakeBit to)) found (noted t.who old)) old (shown t.who (place_of (steps.TakeBit to)) old found) refl refl)
    which (take_at.Adopt to) e = inr (adopted t.who to old found, ap (λ (v : View). v.sights) (steps-planned e made).told.next)
    which (take_at.Retire to) e = inl (ap (λ (v : View). v.sights) (steps-planned e made).told.next)
    which (take_at.Over to) e = absurd (none-some step e)

pub release-grows : {layout : Layout} {old new : View} {step : Step} {found : ℕ} {got : Option BodyValue} (r : Release) → releases.plan r ≡ Some step → Steps layout r.who step None old new found got → Grown old.sights new.sights
release-grows {layout} {old} {new} {step} {found} {got} r is made = which r.at is
  where
    which : (x : ReleaseAt) → releases.plan_at r.frame r.count x ≡ Some step → Grown old.sights new.sights
    which release_at.Put e = inl (ap (λ (v : View). v.sights) (steps-planned e made).told.next)
    which (release_at.Give word) e = inl (ap (λ (v : View). v.sights) (steps-planned e made).told.next)
    which (release_at.Unreserve word) e = inl (ap (λ (v : View). v.sights) (steps-planned e made).told.next)
    which (release_at.Adopt word) e = inr (adopted r.who r.frame old found, ap (λ (v : View). v.sights) (steps-planned e made).told.next)
    which (release_at.Retire word) e = inl (ap (λ (v : View). v.sights) (steps-planned e made).told.next)
    which (release_at.Back word) e = absurd (none-some step e)
