-- What a step of a `Soft` adds to what the view lists: the mark of its frame, and the count of that.
use Rattle.std.proofs.Common.{◌≡◌, ◌⊎◌, inl, inr, ℕ, ◌+◌, ◌==◌, Bool, true, false, cond, List, [], ◌∷◌, Option, Some, None, MatchBool, is_none, refl, sym, ap, ◌∙◌, subst, arith}
use Rattle.std.proofs.lemmas.Option.{none-some}
use Rattle.std.specs.FinSet as set
use Rattle.std.specs.Ordering.{nat_cmp}
use Rattle.hwp_claim_frame.specs.hwp_geom.declared.Frame.{Frame}
use Rattle.hwp_claim_frame.specs.hwp_geom.declared.Layout.{Layout}
use Rattle.hwp_claim_frame.specs.hwp_geom.declared.Page.{Page}
use Rattle.hwp_claim_frame.specs.hwp_geom.declared.VSlot.{VSlot}
use Rattle.hwp_claim_frame.specs.hwp_geom.declared.Who.{Who}
use Rattle.hwp_claim_frame.specs.hwp_page.History.{BodyValue}
use Rattle.hwp_claim_frame.specs.hwp_words.Frames.{cycle_of, is_poisoned}
use Rattle.hwp_claim_frame.specs.hwp_words.Stops.{is_stopped}
use Rattle.hwp_claim_frame.specs.hwp_core_rule.declared.Made.{Made}
use Rattle.hwp_claim_frame.specs.hwp_core_rule.declared.Log.{Log}
use Rattle.hwp_claim_frame.specs.hwp_core_rule.declared.Mark.{Mark}
use Rattle.hwp_claim_frame.specs.hwp_core_rule.declared.Step.{Step}
use Rattle.hwp_claim_frame.specs.hwp_core_rule.declared.Step.TheVariants as steps
use Rattle.hwp_claim_frame.specs.hwp_core_rule.declared.View.{View}
use Rattle.hwp_claim_frame.specs.hwp_core_rule.declared.Turn.{Turn}
use Rattle.hwp_claim_frame.specs.hwp_core_rule.Calls.{Steps, logs}
use Rattle.hwp_claim_frame.proofs.of_hwp_core_rule.tasks.StepLeaves.{steps-planned}
use Rattle.hwp_claim_frame.specs.hwp_core.declared.refer.Refer.{Refer}
use Rattle.hwp_claim_frame.specs.hwp_core.declared.refer.ReferAt.{ReferAt}
use Rattle.hwp_claim_frame.specs.hwp_core.declared.refer.ReferAt.TheVariants as refer_at
use Rattle.hwp_claim_frame.specs.hwp_core.declared.release.Release.{Release}
use Rattle.hwp_evict.specs.declared.take.Take.{Take}
use Rattle.hwp_evict.specs.declared.take.TakeAt.{TakeAt}
use Rattle.hwp_evict.specs.declared.take.TakeAt.TheVariants as take_at
use Rattle.hwp_claim_frame.specs.hwp_core.declared.unhold.Unhold.{Unhold}
use Rattle.hwp_claim_frame.specs.hwp_core.declared.unlock.Unlock.{Unlock}
use Rattle.hwp_claim_frame.specs.hwp_core.Refers as refers
use Rattle.hwp_claim_frame.specs.hwp_core.Releases as releases
use Rattle.hwp_evict.specs.Takes as takes
use Rattle.hwp_claim_frame.specs.hwp_core.Unholds as unholds
use Rattle.hwp_claim_frame.specs.hwp_core.Unlocks as unlocks
use Rattle.hwp_claim_frame.specs.declared.claim.ClaimAt.{ClaimAt}
use Rattle.hwp_claim_frame.specs.declared.claim.ClaimAt.TheVariants as claim_at
use Rattle.hwp_claim_frame.specs.Done as claim_done
use Rattle.hwp_claim_frame.specs.Done.{Grows, Marking, counts_owed, marked_in, marking_of, owed_in, poisoning}
use Rattle.hwp_claim_frame.proofs.ClaimAdds.{count-adds, poison-adds}
use Rattle.hwp_claim_frame.proofs.ViewKeeps.{OnlyHolds}
use Rattle.hwp_claim_frame.proofs.Quiet as quiet
use Rattle.hwp_claim_frame.proofs.Quiet.{IsQuiet, PlansQuiet, leaves}
use Rattle.hwp_soft_move.specs.declared.discard.Discard.{Discard}
use Rattle.hwp_soft_move.specs.declared.discard.DiscardAt.{DiscardAt}
use Rattle.hwp_soft_move.specs.declared.discard.DiscardAt.TheVariants as discard_at
use Rattle.hwp_soft_move.specs.declared.relocate.Relocate.{Relocate}
use Rattle.hwp_soft_move.specs.declared.relocate.RelocateAt.{RelocateAt}
use Rattle.hwp_soft_move.specs.declared.relocate.RelocateAt.TheVariants as relocate_at
use Rattle.hwp_soft_move.specs.declared.relocate.Transfer.{Transfer}
use Rattle.hwp_soft_move.specs.declared.remap.Remap.{Remap}
use Rattle.hwp_soft_move.specs.declared.seize.Seize.{Seize}
use Rattle.hwp_soft_move.specs.declared.seize.SeizeAt.{SeizeAt}
use Rattle.hwp_soft_move.specs.declared.seize.SeizeAt.TheVariants as seize_at
use Rattle.hwp_soft_move.specs.Discards as discards
use Rattle.hwp_soft_move.specs.Relocating as relocating
use Rattle.hwp_soft_move.specs.Relocations as relocations
use Rattle.hwp_soft_move.specs.Remaps as remaps
use Rattle.hwp_soft_move.specs.Seizes as seizes
use Rattle.hwp_soft.specs.declared.soft.Soft.{Soft}
use Rattle.hwp_soft.specs.declared.soft.SoftAnswer.{SoftAnswer}
use Rattle.hwp_soft.specs.declared.soft.SoftAnswer.TheVariants as answers
use Rattle.hwp_soft.specs.declared.soft.SoftAt.{SoftAt}
use Rattle.hwp_soft.specs.declared.soft.SoftAt.TheVariants as at
use Rattle.hwp_soft.specs.Done.{Adds, marked_at, owed_at, relocate_owed}
use Rattle.hwp_soft.specs.Offline.{FitsFrom, FitsAt, IsDiscarding, IsRelocating}
use Rattle.hwp_soft.specs.Softs.{Follows, FollowsAt, Moves, TakesOne, after_discard, after_relocate, after_release, after_seize, after_take, after_unhold, bare, bare_at, given_up, let_go, plan, plan_at, put, put_at}
use Rattle.hwp_soft.proofs.SeizeSteps.{seize-only}

-- ---- what neither marks nor counts

pub only-quiet : (step : Step) → OnlyHolds step → IsQuiet step
only-quiet (steps.Load place) only = tt
only-quiet (steps.Reserve seen) only = tt
only-quiet (steps.TakeBit frame) only = tt
only-quiet (steps.GiveBit frame) only = tt
only-quiet steps.Unreserve only = tt
only-quiet (steps.Adopt frame) only = tt
only-quiet (steps.GetRef frame seen count) only = tt
only-quiet (steps.PutRef frame count) only = tt
only-quiet (steps.LockFrame frame) only = tt
only-quiet (steps.UnlockFrame frame) only = tt
only-quiet (steps.Retire frame) only = tt
only-quiet (steps.LockPage page) only = tt
only-quiet (steps.UnlockPage page) only = tt
only-quiet step only = absurd only

pub take : (x : TakeAt) → PlansQuiet (takes.plan_at x)
take take_at.LoadAvailable = tt
take (take_at.Reserve seen) = tt
take (take_at.LoadFree number) = tt
take (take_at.TakeBit frame) = tt
take (take_at.Adopt frame) = tt
take (take_at.Retire frame) = tt
take (take_at.Over frame) = tt

refer : (frame : Frame) (count : ℕ) (x : ReferAt) → PlansQuiet (refers.plan_at frame count x)
refer frame count refer_at.Load = tt
refer frame count (refer_at.Get seen) = tt
refer frame count refer_at.Over = tt

remap : (to : Frame) (next : Option VSlot) → PlansQuiet (remaps.plan_at to next)
remap to None = tt
remap to (Some slot) = tt

-- a relocation counts in its first step
abbrev pub HasCounted : RelocateAt → Type 0
HasCounted relocate_at.Count = ⊥
HasCounted x = Unit {0}

pub relocate : (t : Transfer) (x : RelocateAt) → HasCounted x → PlansQuiet (relocations.plan_at t x)
relocate t relocate_at.Count counted = absurd counted
relocate t relocate_at.SetOwner counted = tt
relocate t (relocate_at.Refer f) counted = refer f.frame f.count f.at
relocate t (relocate_at.Remap m) counted = remap m.to m.next
relocate t relocate_at.SetCache counted = tt
relocate t relocate_at.ClearOwner counted = tt
relocate t relocate_at.UnlockFrame counted = tt
relocate t (relocate_at.Release l) counted = quiet.release l.frame l.count l.at
relocate t relocate_at.PutRef counted = tt
relocate t relocate_at.Retire counted = tt
relocate t relocate_at.UnlockPage counted = tt
relocate t relocate_at.Over counted = tt

-- what is counted isn't owed again
module _ (t : Transfer) (maps : set.FinSet nat_cmp) where
  remap-owes : (m : Remap) → relocate_owed (relocations.after_remap m) ≡ 0
  remap-owes m = which m.next
    where
      which : (n : Option VSlot) → relocate_owed (relocations.after_remap (record m { next = n })) ≡ 0
      which None = refl
      which (Some slot) = refl

  refer-owes : (f : Refer) (z : ReferAt) (y : RelocateAt) → relocations.AfterReferAt t maps f z y → relocate_owed y ≡ 0
  refer-owes f refer_at.Load y is = ap relocate_owed is
  refer-owes f (refer_at.Get seen) y is = ap relocate_owed is
  refer-owes f refer_at.Over y is = ap relocate_owed is.next_is ∙ remap-owes is.remap

  release-owes : (l : Release) → relocate_owed (relocations.after_release l) ≡ 0
  release-owes l = by (is_none (releases.plan l))
    where
      by : (b : Bool) → relocate_owed (cond b relocate_at.PutRef (relocate_at.Release l)) ≡ 0
      by true = refl
      by false = refl

  owes-none : (x y : RelocateAt) (found : ℕ) (turn : Turn) → relocations.FollowsAt t maps x found y turn → relocate_owed y ≡ 0
  owes-none relocate_at.Count y found turn f = ap relocate_owed f.0
  owes-none relocate_at.SetOwner y found turn f = ap relocate_owed f.0
  owes-none (relocate_at.Refer g) y found turn f = refer-owes (refers.next g found) (refers.next g found).at y f.0
  owes-none (relocate_at.Remap m) y found turn f = ap relocate_owed f.0.next_is ∙ remap-owes f.0.after
  owes-none relocate_at.SetCache y found turn f = ap relocate_owed f.0
  owes-none relocate_at.ClearOwner y found turn f = ap relocate_owed f.0
  owes-none relocate_at.UnlockFrame y found turn f = ap relocate_owed f.0
  owes-none (relocate_at.Release l) y found turn f = ap relocate_owed f.0 ∙ release-owes (releases.next l found)
  owes-none relocate_at.PutRef y found turn f = ap relocate_owed f.0
  owes-none relocate_at.Retire y found turn f = ap relocate_owed f.0
  owes-none relocate_at.UnlockPage y found turn f = ap relocate_owed f.0
  owes-none relocate_at.Over y found turn f = ap relocate_owed f.0

-- a relocation marks nothing
pub relocate-marks : {layout : Layout} {who : Who} {step : Step} {put : Option Log} {old new : View} {found : ℕ} {got : Option BodyValue} (r : Relocate) → relocations.plan r ≡ Some step → Steps layout who step put old new found got → new.marks ≡ old.marks
relocate-marks {layout} {who} {step} {put} {old} {new} {found} {got} r e made = which r.at e
  where
    quietly : (x : RelocateAt) → HasCounted x → relocations.plan_at r.transfer x ≡ Some step → new.marks ≡ old.marks
    quietly x counted e = (leaves made (subst PlansQuiet e (relocate r.transfer x counted))).marks

    which : (x : RelocateAt) → relocations.plan_at r.transfer x ≡ Some step → new.marks ≡ old.marks
    which relocate_at.Count e = ap (λ (v : View). v.marks) (steps-planned e made).told.next
    which relocate_at.SetOwner e = quietly relocate_at.SetOwner tt e
    which (relocate_at.Refer f) e = quietly (relocate_at.Refer f) tt e
    which (relocate_at.Remap m) e = quietly (relocate_at.Remap m) tt e
    which relocate_at.SetCache e = quietly relocate_at.SetCache tt e
    which relocate_at.ClearOwner e = quietly relocate_at.ClearOwner tt e
    which relocate_at.UnlockFrame e = quietly relocate_at.UnlockFrame tt e
    which (relocate_at.Release l) e = quietly (relocate_at.Release l) tt e
    which relocate_at.PutRef e = quietly relocate_at.PutRef tt e
    which relocate_at.Retire e = quietly relocate_at.Retire tt e
    which relocate_at.UnlockPage e = quietly relocate_at.UnlockPage tt e
    which relocate_at.Over e = quietly relocate_at.Over tt e

-- ---- what the states have done

module _ (frame : Frame) where
  -- what is marked, and what is owed of it
  abbrev done-in : SoftAt → List Marking × ℕ
  done-in x = (marked_at frame x, owed_at x)

  module _ (who : Who) where
    stopped-done : (b : Bool) → done-in (cond b (at.Over answers.Stopped) (at.Seize (seizes.begin who frame))) ≡ ([], 0)
    stopped-done true = refl
    stopped-done false = refl

    seize-done : (z : Seize) → done-in (after_seize who frame z) ≡ ([], 0)
    seize-done z = which z.at
      where
        which : (x : SeizeAt) → done-in (after_seize who frame (record z { at = x })) ≡ ([], 0)
        which seize_at.Look = refl
        which (seize_at.Grab g) = refl
        which (seize_at.Meet m) = refl
        which seize_at.Kernel = refl
        which seize_at.Already = refl
        which seize_at.Grabbed = refl
        which seize_at.Free = refl
        which (seize_at.Owned page body) = refl

    module _ (page : Page) (body : BodyValue) where
      bad-done : (found : ℕ) (b : Bool) (x : SoftAt) → MatchBool b ((x ≡ given_up who frame page body) ⊎ TakesOne who page body x) (x ≡ let_go who frame page body (answers.HasBad (record { 0 = found }))) → done-in x ≡ ([], 0)
      bad-done found true x (inl is) = ap done-in is
      bad-done found true x (inr is) = ap done-in is.next_is
      bad-done found false x is = ap done-in is

      take-done : (t : Take) → done-in (after_take who frame page body t) ≡ ([], 0)
      take-done t = which t.at
        where
          which : (x : TakeAt) → done-in (after_take who frame page body (record t { at = x })) ≡ ([], 0)
          which take_at.LoadAvailable = refl
          which (take_at.Reserve seen) = refl
          which (take_at.LoadFree number) = refl
          which (take_at.TakeBit to) = refl
          which (take_at.Adopt to) = refl
          which (take_at.Retire to) = refl
          which (take_at.Over None) = refl
          which (take_at.Over (Some to)) = refl

      release-done : (r : Release) → done-in (after_release who frame page body r) ≡ ([], 0)
      release-done r = by (is_none (releases.plan r))
        where
          by : (b : Bool) → done-in (cond b (let_go who frame page body answers.Already) (at.ReleaseSpare page body r)) ≡ ([], 0)
          by true = refl
          by false = refl

  unhold-done : (u : Unhold) (answer : SoftAnswer) → done-in (after_unhold u answer) ≡ done-in (at.Over answer)
  unhold-done u answer = by (is_none (unholds.plan u))
    where
      by : (b : Bool) → done-in (cond b (at.Over answer) (at.Unhold u answer)) ≡ done-in (at.Over answer)
      by true = refl
      by false = refl

  relocate-done : (r : Relocate) (answer : SoftAnswer) → relocate_owed r.at ≡ 0 → done-in (after_relocate r answer) ≡ done-in (at.Over answer)
  relocate-done r answer paid = by (is_none (relocations.plan r))
    where
      by : (b : Bool) → done-in (cond b (at.Over answer) (at.Relocate r answer)) ≡ done-in (at.Over answer)
      by true = refl
      by false = ap (λ (n : ℕ). (marked_at frame (at.Over answer), n)) paid

  abbrev done-of : ClaimAt → List Marking × ℕ
  done-of x = (marked_in frame false x, owed_in x)

-- ---- what the steps add

-- a step as of a claim
claiming : {old new : View} (who : Who) (frame : Frame) {x y : ClaimAt} (p q : SoftAt) → done-in frame p ≡ done-of frame x → done-in frame q ≡ done-of frame y → claim_done.Adds old new who frame false x y → Adds old new who frame p q
claiming {old} {new} who frame {x} {y} p q before after adds = record {
  marked = subst (λ (d : List Marking × ℕ). Grows (λ (m : Mark). m.stamp.who) marking_of old.marks new.marks who d.0 (marked_at frame q)) (sym before)
      (subst (λ (d : List Marking × ℕ). Grows (λ (m : Mark). m.stamp.who) marking_of old.marks new.marks who (marked_in frame false x) d.0) (sym after) adds.marked);
  counted =
      let owed : counts_owed new + owed_in x ≡ counts_owed old + owed_in y = adds.counted in
      let one : owed_at p ≡ owed_in x = ap (λ (d : List Marking × ℕ). d.1) before in
      let two : owed_at q ≡ owed_in y = ap (λ (d : List Marking × ℕ). d.1) after in
      omega (arith, owed, one, two);
}

module _ {layout : Layout} {old new : View} {step : Step} {found : ℕ} {got : Option BodyValue} (who : Who) (frame : Frame) where
  -- a step that neither marks nor counts
  quietly : {planned : Option Step} {put : Option Log} (p q : SoftAt) → planned ≡ Some step → PlansQuiet planned → Steps layout who step put old new found got → done-in frame q ≡ done-in frame p → Adds old new who frame p q
  quietly p q e quiet made like = record {
    marked = inl ((leaves made (subst PlansQuiet e quiet)).marks, ap (λ (d : List Marking × ℕ). d.0) like);
    counted =
        let owes : counts_owed new ≡ counts_owed old = (leaves made (subst PlansQuiet e quiet)).owed in
        let own : owed_at q ≡ owed_at p = ap (λ (d : List Marking × ℕ). d.1) like in
        omega (arith, owes, own);
  }

  discard-adds : (d : Discard) → IsDiscarding layout old who frame d → discards.plan d ≡ Some step → Steps layout who step (logs (discards.put d)) old new found got → Adds old new who frame (at.Discard d) (after_discard (discards.next (discards.bare d) found))
  discard-adds d has e made = which d.at has.discard.at (subst (λ (f : Frame). discards.plan_at f d.at ≡ Some step) has.frame_is e) made
    where
      poisoned : (used b : Bool) → is_poisoned found ≡ b → Steps layout who (steps.Poison frame false) None old new found got
          → Adds old new who frame (at.Discard (record d { at = discard_at.Poison used })) (after_discard (record d { at = cond b (cond used (discard_at.Unlock (unlocks.begin d.who d.frame None)) (discard_at.Retire None)) (discard_at.Count (cycle_of found)) }))
      poisoned true true is made = claiming who frame {x = claim_at.Poison} {y = claim_at.Already} _ _ refl refl (poison-adds who frame false made true is)
      poisoned false true is made = claiming who frame {x = claim_at.Poison} {y = claim_at.Already} _ _ refl refl (poison-adds who frame false made true is)
      poisoned used false is made = claiming who frame {x = claim_at.Poison} {y = claim_at.Count (cycle_of found)} _ _ refl refl (poison-adds who frame false made false is)

      unlocked : (u : Unlock) → done-in frame (after_discard (record d { at = discards.after_unlock u })) ≡ ([], 0)
      unlocked u = by (is_none (unlocks.plan u))
        where
          by : (b : Bool) → done-in frame (after_discard (record d { at = cond b (discard_at.Over None) (discard_at.Unlock u) })) ≡ ([], 0)
          by true = refl
          by false = refl

      retires : (cycle : Option ℕ) → done-in frame (after_discard (record d { at = discard_at.Over cycle })) ≡ done-in frame (at.Discard (record d { at = discard_at.Retire cycle }))
      retires None = refl
      retires (Some cycle) = refl

      which : (x : DiscardAt) → discards.FitsAt layout old d.who d.frame x → discards.plan_at frame x ≡ Some step → Steps layout who step (logs (discards.put_at x)) old new found got → Adds old new who frame (at.Discard (record d { at = x })) (after_discard (record d { at = discards.next_at d.who d.frame (discards.bare_at x) found }))
      which (discard_at.Poison used) fit e made = poisoned used (is_poisoned found) refl (steps-planned e made)
      which (discard_at.Count cycle) fit e made = claiming who frame {x = claim_at.Count cycle} {y = claim_at.Look cycle} _ _ refl refl (count-adds who frame false cycle (steps-planned e made) fit.2)
      which (discard_at.Retire cycle) fit e made = quietly _ _ e tt made (retires cycle)
      which (discard_at.Unlock u) fit e made = quietly _ _ e (quiet.unlock u.at) made (unlocked (unlocks.next (unlocks.bare u) found))
      which (discard_at.Over cycle) fit e made = absurd (none-some step e)

  relocate-adds : {base : List Made} (r : Relocate) (answer : SoftAnswer) → IsRelocating base layout old who frame r answer → relocations.plan r ≡ Some step → Steps layout who step (logs (relocations.put r)) old new found got → (after : Relocate) (turn : Turn) → relocations.FollowsAt r.transfer r.maps r.at found after.at turn
      → Adds old new who frame (at.Relocate r answer) (after_relocate after answer)
  relocate-adds {base} r answer has e made after turn follows = which r.at has.relocate.at e made
    where
      after-done : done-in frame (after_relocate after answer) ≡ done-in frame (at.Over answer)
      after-done = relocate-done frame after answer (owes-none r.transfer r.maps r.at after.at found turn follows)

      moving : (x : RelocateAt) → HasCounted x → relocate_owed x ≡ 0 → relocations.plan_at r.transfer x ≡ Some step → Steps layout who step (logs (relocations.put_at r.body x)) old new found got → Adds old new who frame (at.Relocate (record r { at = x }) answer) (after_relocate after answer)
      moving x counted paid e made = quietly (at.Relocate (record r { at = x }) answer) (after_relocate after answer) e (relocate r.transfer x counted) made (after-done ∙ ap (λ (n : ℕ). (marked_at frame (at.Over answer), n)) (sym paid))

      counted-now : Steps layout who (steps.CountPoison false) None old new found got → relocating.FitsAt base layout old r.transfer r.maps r.done r.body relocate_at.Count → Adds old new who frame (at.Relocate (record r { at = relocate_at.Count }) answer) (after_relocate after answer)
      counted-now made fit = claiming who frame {x = claim_at.Count has.cycle} {y = claim_at.Look has.cycle} (at.Relocate (record r { at = relocate_at.Count }) answer) (after_relocate after answer)
          (ap (λ (d : SoftAnswer). (marked_at frame (at.Over d), 1)) has.answer_is) (after-done ∙ ap (λ (d : SoftAnswer). (marked_at frame (at.Over d), 0)) has.answer_is) (count-adds who frame false has.cycle made fit.1)

      which : (x : RelocateAt) → relocating.FitsAt base layout old r.transfer r.maps r.done r.body x → relocations.plan_at r.transfer x ≡ Some step → Steps layout who step (logs (relocations.put_at r.body x)) old new found got → Adds old new who frame (at.Relocate (record r { at = x }) answer) (after_relocate after answer)
      which relocate_at.Count fit e made = counted-now (steps-planned e made) fit
      which relocate_at.SetOwner fit e made = moving relocate_at.SetOwner tt refl e made
      which (relocate_at.Refer f) fit e made = moving (relocate_at.Refer f) tt refl e made
      which (relocate_at.Remap m) fit e made = moving (relocate_at.Remap m) tt refl e made
      which relocate_at.SetCache fit e made = moving relocate_at.SetCache tt refl e made
      which relocate_at.ClearOwner fit e made = moving relocate_at.ClearOwner tt refl e made
      which relocate_at.UnlockFrame fit e made = moving relocate_at.UnlockFrame tt refl e made
      which (relocate_at.Release l) fit e made = moving (relocate_at.Release l) tt refl e made
      which relocate_at.PutRef fit e made = moving relocate_at.PutRef tt refl e made
      which relocate_at.Retire fit e made = moving relocate_at.Retire tt refl e made
      which relocate_at.UnlockPage fit e made = moving relocate_at.UnlockPage tt refl e made
      which relocate_at.Over fit e made = absurd (none-some step e)

poison-here : {layout : Layout} {old new : View} {got : Option BodyValue} (found : ℕ) (who : Who) (frame : Frame) (page : Page) (body : BodyValue) (to : Frame) (x : SoftAt) (b : Bool) → is_poisoned found ≡ b
    → MatchBool b (x ≡ at.UnlockSpare page body to) (Moves who frame page body to (cycle_of found) x) → Steps layout who (steps.Poison frame false) None old new found got → Adds old new who frame (at.Poison page body to) x
poison-here found who frame page body to x true is follows made = claiming who frame {x = claim_at.Poison} {y = claim_at.Already} (at.Poison page body to) x refl (ap (done-in frame) follows) (poison-adds who frame false made true is)
poison-here found who frame page body to x false is follows made = claiming who frame {x = claim_at.Poison} {y = claim_at.Count (cycle_of found)} (at.Poison page body to) x refl
    (ap (done-in frame) follows.next_is ∙ ap (λ (r : Relocate). (poisoning frame false (cycle_of found) ∷ [], relocate_owed r.at)) follows.begun.is)
    (poison-adds who frame false made false is)

pub soft-adds : {base : List Made} (layout : Layout) (old new : View) (s : Soft) (step : Step) (found : ℕ) (got : Option BodyValue) → FitsFrom base layout old s → plan s ≡ Some step → Steps layout s.who step (logs (put s)) old new found got
    → (after : Soft) (turn : Turn) → Follows layout (bare s) found got after turn → Adds old new s.who s.frame s.at after.at
soft-adds {base} layout old new s step found got fits is made after turn follows = which s.at fits.at is made follows.1
  where
    which : (x : SoftAt) → FitsAt base layout old s.who s.frame x → plan_at s.frame x ≡ Some step → Steps layout s.who step (logs (put_at x)) old new found got → FollowsAt layout s.who s.frame (bare_at x) found got after.at turn → Adds old new s.who s.frame x after.at
    which at.LoadStop has e made next = quietly s.who s.frame at.LoadStop after.at e tt made (ap (done-in s.frame) next.0 ∙ stopped-done s.frame s.who (is_stopped found))
    which (at.Seize z) has e made next = quietly s.who s.frame (at.Seize z) after.at e (subst PlansQuiet (sym e) (only-quiet step (seize-only z step e))) made (ap (done-in s.frame) next.0 ∙ seize-done s.frame s.who (seizes.next (seizes.bare z) found got))
    which (at.Discard d) has e made next = subst (Adds old new s.who s.frame (at.Discard d)) (sym next.0) (discard-adds s.who s.frame d has.0 e made)
    which (at.LoadBad page body) has e made next = quietly s.who s.frame (at.LoadBad page body) after.at e tt made (bad-done s.frame s.who page body found (found == 0) after.at next.0)
    which (at.Take page body t) has e made next = quietly s.who s.frame (at.Take page body t) after.at e (take t.at) made (ap (done-in s.frame) next.0 ∙ take-done s.frame s.who page body (takes.next layout t found))
    which (at.Poison page body to) has e made next = poison-here found s.who s.frame page body to after.at (is_poisoned found) refl next.0 (steps-planned e made)
    which (at.UnlockSpare page body to) has e made next = quietly s.who s.frame (at.UnlockSpare page body to) after.at e tt made (ap (done-in s.frame) next.0)
    which (at.ReleaseSpare page body r) has e made next = quietly s.who s.frame (at.ReleaseSpare page body r) after.at e (quiet.release r.frame r.count r.at) made (ap (done-in s.frame) next.0 ∙ release-done s.frame s.who page body (releases.next r found))
    which (at.Relocate r answer) has e made next = subst (Adds old new s.who s.frame (at.Relocate r answer)) (sym next.next_is) (relocate-adds s.who s.frame r answer has e made next.after next.own_turn next.follows.1)
    which (at.Unhold u answer) has e made next = quietly s.who s.frame (at.Unhold u answer) after.at e (quiet.unhold u.page u.at) made (ap (done-in s.frame) next.0 ∙ unhold-done s.frame (unholds.next (unholds.bare u) found) answer)
    which (at.GiveUp g) has e made next = quietly s.who s.frame (at.GiveUp g) after.at e (quiet.give-up g.at) made (ap (done-in s.frame) next.0)
    which (at.Over answer) has e made next = absurd (none-some step e)
