-- The laws of `Soft`: what follows a step fits again.
use Rattle.std.proofs.Common.{◌≡◌, ℕ, Bool, true, false, cond, Option, Some, None, filter, is_none, refl, sym, ap, ◌∙◌, subst, List}
use Rattle.std.proofs.lemmas.Option.{none-some}
use Rattle.hwp_claim_frame.specs.hwp_geom.declared.Frame.{Frame}
use Rattle.hwp_claim_frame.specs.hwp_geom.declared.Layout.{Layout}
use Rattle.hwp_claim_frame.specs.hwp_geom.declared.Who.{Who}
use Rattle.hwp_claim_frame.specs.hwp_page.History.{BodyValue}
use Rattle.hwp_claim_frame.specs.hwp_core_rule.declared.Made.{Made}
use Rattle.hwp_claim_frame.specs.hwp_core_rule.declared.Step.{Step}
use Rattle.hwp_claim_frame.specs.hwp_core_rule.declared.View.{View}
use Rattle.hwp_claim_frame.specs.hwp_core_rule.declared.Turn.{Turn}
use Rattle.hwp_claim_frame.specs.hwp_core_rule.Calls.{IsOnTurn, Steps, logs}
use Rattle.hwp_claim_frame.specs.hwp_core_rule.Hands.{empty, hand_of}
use Rattle.hwp_claim_frame.proofs.of_hwp_core_rule.tasks.StepLeaves.{hand-planned, on-turn-after, steps-planned}
use Rattle.hwp_claim_frame.specs.hwp_core_rule.Known.{HasMadeNoneBeside, is_by}
use Rattle.hwp_claim_frame.specs.hwp_core_rule.Turns.{IsTask}
use Rattle.hwp_claim_frame.proofs.of_hwp_core_rule.tasks.MadeEntries.{deeds-same, has-made-stays}
use Rattle.hwp_claim_frame.proofs.of_hwp_core_rule.tasks.SightKeeps.{saw-adopted-stays, saw-bad-of-stays, saw-stays}
use Rattle.hwp_claim_frame.specs.hwp_core.declared.give_up.GiveUp.{GiveUp}
use Rattle.hwp_claim_frame.specs.hwp_core.declared.give_up.GiveUpAt.{GiveUpAt}
use Rattle.hwp_claim_frame.specs.hwp_core.declared.give_up.GiveUpAt.TheVariants as give_up_at
use Rattle.hwp_claim_frame.specs.hwp_core.declared.release.Release.{Release}
use Rattle.hwp_claim_frame.specs.hwp_core.declared.release.ReleaseAt.{ReleaseAt}
use Rattle.hwp_claim_frame.specs.hwp_core.declared.release.ReleaseAt.TheVariants as release_at
use Rattle.hwp_claim_frame.specs.hwp_core.declared.unhold.Unhold.{Unhold}
use Rattle.hwp_claim_frame.specs.hwp_core.declared.unhold.UnholdAt.{UnholdAt}
use Rattle.hwp_claim_frame.specs.hwp_core.declared.unhold.UnholdAt.TheVariants as unhold_at
use Rattle.hwp_claim_frame.specs.hwp_core.declared.unlock.Unlock.{Unlock}
use Rattle.hwp_claim_frame.specs.hwp_core.GiveUps as give_ups
use Rattle.hwp_claim_frame.specs.hwp_core.Releases as releases
use Rattle.hwp_claim_frame.specs.hwp_core.Unholds as unholds
use Rattle.hwp_claim_frame.specs.hwp_core.Unlocks as unlocks
use Rattle.hwp_claim_frame.proofs.of_hwp_core.GiveUpLaws as giving_up
use Rattle.hwp_claim_frame.proofs.of_hwp_core.HoldEnds.{nothing-left}
use Rattle.hwp_claim_frame.proofs.of_hwp_core.UnholdLaws as unholding
use Rattle.hwp_claim_frame.specs.Claims.{HasMarked, SawPoison}
use Rattle.hwp_claim_frame.specs.Grabs.{WasFree}
use Rattle.hwp_claim_frame.specs.Meets.{AsTaken}
use Rattle.hwp_claim_frame.proofs.ClaimLaws.{mark-stays}
use Rattle.hwp_claim_frame.proofs.ViewKeeps.{Account, OnlyHolds, account_of, kept, planned, release-only}
use Rattle.hwp_soft_move.specs.declared.relocate.Relocate.{Relocate}
use Rattle.hwp_soft_move.specs.declared.relocate.Transfer.{Transfer}
use Rattle.hwp_soft_move.specs.Discards as discards
use Rattle.hwp_soft_move.specs.Relocating as relocating
use Rattle.hwp_soft_move.specs.Relocations as relocations
use Rattle.hwp_soft_move.specs.Seizes as seizes
use Rattle.hwp_soft_move.proofs.DiscardLaws as discarding
use Rattle.hwp_soft_move.proofs.RelocateLaws as relocated_laws
use Rattle.hwp_soft_move.proofs.SeizeLaws as seizing
use Rattle.hwp_soft.specs.declared.soft.Soft.{Soft}
use Rattle.hwp_soft.specs.declared.soft.SoftAnswer.{SoftAnswer}
use Rattle.hwp_soft.specs.declared.soft.SoftAnswer.TheVariants as answers
use Rattle.hwp_soft.specs.declared.soft.SoftAt.{SoftAt}
use Rattle.hwp_soft.specs.declared.soft.SoftAt.TheVariants as at
use Rattle.hwp_soft.specs.Offline.{FitsAt, FitsFrom, IsCaused, IsGivingUp, IsLettingGo, IsRelocating, task as soft-task}
use Rattle.hwp_soft.specs.Softs.{Follows, FollowsAt, IsRelocated, Shows, ShowsAt, after_unhold, bare, bare_at, plan, plan_at, put, put_at}
use Rattle.hwp_soft.proofs.SoftAsks.{can}
use Rattle.hwp_soft.proofs.SoftAdds.{relocate-marks}
use Rattle.hwp_soft.proofs.SeizeSteps.{bad-read, discard-makes-none, discarded, seize-makes-none, seized, stop-read}
use Rattle.hwp_soft.proofs.SpareSteps.{frame-poisoned, free-stays, spare-freed, spare-released, take-shows, took}

-- ---- the page is let go

no-body : (view : View) → AsTaken view None
no-body view b is = absurd (none-some b is)

pub unhold-only : (u : Unhold) (step : Step) → unholds.plan u ≡ Some step → OnlyHolds step
unhold-only u step is = which u.at is
  where
    which : (x : UnholdAt) → unholds.plan_at u.page x ≡ Some step → OnlyHolds step
    which (unhold_at.UnlockFrame frame count body) e = planned e tt
    which (unhold_at.Release r) e = release-only r step e
    which (unhold_at.UnlockPage body) e = planned e tt
    which unhold_at.Over e = absurd (none-some step e)

-- a page that is let go with its frame has given its body home in the first step
module _ (found : ℕ) where
  gives-none : (u : Unhold) → unholds.put (unholds.next (unholds.bare u) found) ≡ None
  gives-none u = which u.at
    where
      by : (r : Release) (x : ReleaseAt) → unholds.put_at (unholds.after_release_at r x) ≡ None
      by r release_at.Put = refl
      by r (release_at.Give word) = refl
      by r (release_at.Unreserve word) = refl
      by r (release_at.Adopt word) = refl
      by r (release_at.Retire word) = refl
      by r (release_at.Back word) = refl

      which : (x : UnholdAt) → unholds.put_at (unholds.next_at u.who (unholds.bare_at x) found) ≡ None
      which (unhold_at.UnlockFrame frame count body) = refl
      which (unhold_at.Release r) = by (releases.next r found) (releases.next r found).at
      which (unhold_at.UnlockPage body) = refl
      which unhold_at.Over = refl

  unlock-gives-none : (u : Unlock) → unlocks.put (unlocks.next (unlocks.bare u) found) ≡ None
  unlock-gives-none u = discarding.gives-none u found u.at

  give-up-gives-none : (g : GiveUp) → give_ups.put (give_ups.next (give_ups.bare g) found) ≡ None
  give-up-gives-none g = which g.at
    where
      let-go : (u : Unhold) (b : Bool) → unholds.put u ≡ None → give_ups.put_at (cond b give_up_at.GiveUp (give_up_at.Unhold u)) ≡ None
      let-go u true none = refl
      let-go u false none = none

      unlocked : (u : Unlock) (b : Bool) → unlocks.put u ≡ None → give_ups.put_at (cond b give_up_at.GiveUp (give_up_at.Unlock u)) ≡ None
      unlocked u true none = refl
      unlocked u false none = none

      which : (x : GiveUpAt) → give_ups.put_at (give_ups.next_at (give_ups.bare_at x) found) ≡ None
      which (give_up_at.Unhold u) = let-go (unholds.next (unholds.bare u) found) (is_none (unholds.plan (unholds.next (unholds.bare u) found))) (gives-none u)
      which (give_up_at.Unlock u) = unlocked (unlocks.next (unlocks.bare u) found) (is_none (unlocks.plan (unlocks.next (unlocks.bare u) found))) (unlock-gives-none u)
      which give_up_at.GiveUp = refl
      which give_up_at.Over = refl

module _ {layout : Layout} {old new : View} {who : Who} (frame : Frame) {step : Step} {found : ℕ} {got : Option BodyValue} where
  -- what a step showed, and what the command did, stays
  caused-stays : (base : List Made) (given : Option BodyValue) → Steps layout who step (logs given) old new found got → account_of new ≡ account_of old → (answer : SoftAnswer) → IsCaused base layout old who frame answer → IsCaused base layout new who frame answer
  caused-stays base given made same = which
    where
      none : HasMadeNoneBeside base old who → HasMadeNoneBeside base new who
      none has = ap (λ (a : Account). filter (is_by who) a.made) same ∙ has

      poison : SawPoison old who frame → SawPoison new who frame
      poison has = record { word = has.word; poisoned = has.poisoned; saw = saw-stays made has.saw }

      which : (answer : SoftAnswer) → IsCaused base layout old who frame answer → IsCaused base layout new who frame answer
      which answers.Stopped has = (none has.0, record { word = has.1.word; stopped = has.1.stopped; saw = saw-stays made has.1.saw })
      which answers.Kernel has = (none has.0, record { word = has.1.word; kernel = has.1.kernel; saw = saw-stays made has.1.saw; declared = has.1.declared })
      which answers.Already has = (none has.0, poison has.1, has.2)
      which (answers.HasBad mask) has = (none has.0, record { page = has.1.page; some = has.1.some; saw = saw-bad-of-stays made has.1.page has.1.saw }, has.2)
      which answers.NoFrame has = (none has.0, saw-stays made has.1, has.2)
      which (answers.TakenFree cycle) has = (none has.0, mark-stays old new (ap (λ (a : Account). a.marks) same) has.1, has.2)
      which (answers.Moved to place cycle) has = (
        has-made-stays who old new (ap (λ (a : Account). filter (is_by who) a.made) same) has.0,
        mark-stays old new (ap (λ (a : Account). a.marks) same) has.1,
        (has.2.0, record { saw = saw-adopted-stays made has.2.1.saw; bare = has.2.1.bare; uncounted = has.2.1.uncounted }),
        has.3,
      )

module _ {layout : Layout} {old new : View} {who : Who} {frame : Frame} {step : Step} {found : ℕ} {got : Option BodyValue} where
  let-go-on : {base : List Made} (u : Unhold) (answer : SoftAnswer) → IsLettingGo base layout old who frame u answer → unholds.plan u ≡ Some step → Steps layout who step (logs (unholds.put u)) old new found got → FitsAt base layout new who frame (after_unhold (unholds.next (unholds.bare u) found) answer)
  let-go-on {base} u answer has e made = by (is_none (unholds.plan (unholds.next (unholds.bare u) found))) refl
    where
      fits : unholds.Fits layout new (unholds.next (unholds.bare u) found)
      fits = unholding.moved layout old new u step found got has.unhold e (subst (λ (w : Who). Steps layout w step (logs (unholds.put u)) old new found got) (sym has.own) made)

      caused : IsCaused base layout new who frame answer
      caused = caused-stays frame base (unholds.put u) made (kept (unholds.put u) (unhold-only u step e) has.as_taken made) answer has.caused

      by : (b : Bool) → is_none (unholds.plan (unholds.next (unholds.bare u) found)) ≡ b → FitsAt base layout new who frame (cond b (at.Over answer) (at.Unhold (unholds.next (unholds.bare u) found) answer))
      by true is = (nothing-left layout new (unholds.next (unholds.bare u) found) is fits, caused)
      by false is = record { unhold = fits; own = has.own; under_way = is; as_taken = subst (AsTaken new) (sym (gives-none found u)) (no-body new); caused = caused }

  -- ---- the page moves

  module _ {base : List Made} (r : Relocate) (answer : SoftAnswer) (has : IsRelocating base layout old who frame r answer) (e : relocations.plan r ≡ Some step) (made : Steps layout who step (logs (relocations.put r)) old new found got) where
    part : relocations.Shows (relocations.bare r) × ((after : Relocate) (turn : Turn) → relocations.Follows (relocations.bare r) found after turn → relocating.FitsFrom base layout new after × (after.transfer.who.cpu ≡ r.transfer.who.cpu))
    part = relocated_laws.stays layout old new r step found got has.relocate e (subst (λ (w : Who). Steps layout w step (logs (relocations.put r)) old new found got) (sym has.own) made)

    relocate-shows : relocations.Shows (relocations.bare r)
    relocate-shows = part.0

    relocate-on : (x : SoftAt) (turn : Turn) → IsRelocated (relocations.bare r) answer found x turn → FitsAt base layout new who frame x
    relocate-on x turn is = subst (FitsAt base layout new who frame) (sym is.next_is) (by (is_none (relocations.plan is.after)) refl)
      where
        same : is.after.transfer ≡ r.transfer
        same = ap (λ (y : Relocate). y.transfer) is.follows.0

        fits : relocating.FitsFrom base layout new is.after
        fits = (part.1 is.after is.own_turn is.follows).0

        own : is.after.transfer.who ≡ who
        own = ap (λ (t : Transfer). t.who) same ∙ has.own

        answer-is : answer ≡ answers.Moved is.after.transfer.to is.after.done has.cycle
        answer-is = has.answer_is ∙ ap (λ (y : Relocate). answers.Moved y.transfer.to y.done has.cycle) (sym is.follows.0)

        marked : HasMarked new who frame false has.cycle
        marked = mark-stays old new (relocate-marks r e made) has.marked

        free : WasFree new who is.after.transfer.to has.word
        free = subst (λ (t : Transfer). WasFree new who t.to has.word) (sym same) (free-stays made has.free)

        by : (b : Bool) → is_none (relocations.plan is.after) ≡ b → FitsAt base layout new who frame (cond b (at.Over answer) (at.Relocate is.after answer))
        by true none = let home : (hand_of new ≡ empty) × relocating.HasMoved base new is.after.transfer.who is.after.done = relocated_laws.relocated layout new is.after fits none in
            (home.0, subst (IsCaused base layout new who frame) (sym answer-is) (subst (λ (w : Who). relocating.HasMoved base new w is.after.done) own home.1, marked, (has.word, free), has.users))
        by false going = record {
          relocate = fits;
          own = own;
          frame_is = ap (λ (t : Transfer). t.from) same ∙ has.frame_is;
          under_way = going;
          cycle = has.cycle;
          answer_is = answer-is;
          marked = marked;
          word = has.word;
          free = free;
          users = has.users;
        }

-- ---- memory for the entry is refused

give-up-on : {layout : Layout} {old new : View} {who : Who} {step : Step} {found : ℕ} {got : Option BodyValue} (g : GiveUp) → IsGivingUp layout old who g → give_ups.plan g ≡ Some step → Steps layout who step (logs (give_ups.put g)) old new found got
    → IsGivingUp layout new who (give_ups.next (give_ups.bare g) found)
give-up-on {layout} {old} {new} {who} {step} {found} {got} g has e made = record {
  give_up = giving_up.moved layout old new g step found got has.give_up e (subst (λ (w : Who). Steps layout w step (logs (give_ups.put g)) old new found got) (sym has.own) made);
  own = has.own;
  as_taken = subst (AsTaken new) (sym (give-up-gives-none found g)) (no-body new);
}

-- ---- the laws

pub both : {base : List Made} (layout : Layout) (old new : View) (s : Soft) (step : Step) (found : ℕ) (got : Option BodyValue) → FitsFrom base layout old s → plan s ≡ Some step → Steps layout s.who step (logs (put s)) old new found got
    → Shows (bare s) found got × ((x : SoftAt) (turn : Turn) → FollowsAt layout s.who s.frame (bare_at s.at) found got x turn → FitsAt base layout new s.who s.frame x)
both {base} layout old new s step found got fits is made = which s.at is fits.at made
  where
    on : IsOnTurn new s.who
    on = on-turn-after fits.on_turn made

    which : (x : SoftAt) → plan_at s.frame x ≡ Some step → FitsAt base layout old s.who s.frame x → Steps layout s.who step (logs (put_at x)) old new found got
        → ShowsAt (bare_at x) found got × ((y : SoftAt) (turn : Turn) → FollowsAt layout s.who s.frame (bare_at x) found got y turn → FitsAt base layout new s.who s.frame y)
    which at.LoadStop e has made = (tt, λ y turn follows. subst (FitsAt base layout new s.who s.frame) (sym follows.0) (stop-read on fits.frame (steps-planned e made) (hand-planned made e has.0) (deeds-same s.who tt (steps-planned e made) ∙ has.1)))
    which (at.Seize z) e has made =
        let all : seizes.Shows (seizes.bare z) found got × seizes.Fits layout new (seizes.next (seizes.bare z) found got) = seizing.both layout old new z step found got has.0.seize e (subst (λ (w : Who). Steps layout w step (logs (seizes.put z)) old new found got) (sym has.0.own) made) in
        (all.0, λ y turn follows. subst (FitsAt base layout new s.who s.frame) (sym follows.0) (seized on fits.frame (seizes.next (seizes.bare z) found got) all.1 has.0.own has.0.frame_is (seize-makes-none z has.0.own has.0.seize e made has.1)))
    which (at.Discard d) e has made =
        let moved : discards.Fits layout new (discards.next (discards.bare d) found) = discarding.moved layout old new d step found got has.0.discard e (subst (λ (w : Who). Steps layout w step (logs (discards.put d)) old new found got) (sym has.0.own) made) in
        (tt, λ y turn follows. subst (FitsAt base layout new s.who s.frame) (sym follows.0) (discarded on fits.frame (discards.next (discards.bare d) found) moved has.0.own has.0.frame_is has.1 (discard-makes-none d has.0.discard e made has.2)))
    which (at.LoadBad page body) e has made = (tt, λ y turn follows. bad-read on fits.frame has.0 has.1 has.2 (steps-planned e made) y follows.0)
    which (at.Take page body t) e has made = (take-shows on fits.frame t has e made, λ y turn follows. subst (FitsAt base layout new s.who s.frame) (sym follows.0) (took on fits.frame t has e made))
    which (at.Poison page body to) e has made = (has.good.can, λ y turn follows. frame-poisoned on fits.frame to has (steps-planned e made) y follows.0)
    which (at.UnlockSpare page body to) e has made = (tt, λ y turn follows. subst (FitsAt base layout new s.who s.frame) (sym follows.0) (spare-freed on fits.frame to has.0 has.1 (steps-planned e made)))
    which (at.ReleaseSpare page body r) e has made = (tt, λ y turn follows. subst (FitsAt base layout new s.who s.frame) (sym follows.0) (spare-released on fits.frame r has.0 has.1 e made))
    which (at.Relocate r answer) e has made = (relocate-shows r answer has e made, λ y turn follows. relocate-on r answer has e made y turn follows)
    which (at.Unhold u answer) e has made = (tt, λ y turn follows. subst (FitsAt base layout new s.who s.frame) (sym follows.0) (let-go-on u answer has e made))
    which (at.GiveUp g) e has made = (tt, λ y turn follows. subst (FitsAt base layout new s.who s.frame) (sym follows.0) (give-up-on g has e made))
    which (at.Over answer) e has made = absurd (none-some step e)

pub stays : {base : List Made} (layout : Layout) (old new : View) (s : Soft) (step : Step) (found : ℕ) (got : Option BodyValue) → FitsFrom base layout old s → plan s ≡ Some step → Steps layout s.who step (logs (put s)) old new found got
    → Shows (bare s) found got × ((after : Soft) (turn : Turn) → Follows layout (bare s) found got after turn → FitsFrom base layout new after × (after.who.cpu ≡ s.who.cpu))
stays {base} layout old new s step found got fits is made = let all = both layout old new s step found got fits is made in (
  all.0,
  λ after turn follows. (
    subst (FitsFrom base layout new) (sym follows.0) (record { on_turn = on-turn-after fits.on_turn made; frame = fits.frame; at = all.1 after.at turn follows.1 }),
    ap (λ (x : Soft). x.who.cpu) follows.0,
  ),
)

-- whatever the command had made before
pub lawful : IsTask soft-task
lawful = record {
  can = λ layout view s step fits is. can layout view s step fits.1 is;
  stays = λ layout old new s step found got fits is made.
      let all = stays layout old new s step found got fits.1 is made in (all.0, λ after turn follows. let next = all.1 after turn follows in ((fits.0, next.0), next.1));
}
