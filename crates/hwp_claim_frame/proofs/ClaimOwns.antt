-- The failure that a `Claim` begins is claimed until it is ended; and the rank of the task.
use Rattle.std.proofs.Common.{◌≡◌, ◌≢◌, ◌⊎◌, inl, inr, ℕ, ◌+◌, ◌<◌, ◌≤◌, ◌==◌, ◌&&◌, ◌||◌, Bool, true, false, not, cond, Option, Some, None, slice_get, slice_index, refl, sym, ap, ◌∙◌, subst, arith}
use Rattle.std.proofs.lemmas.Bool.{both_ways}
use Rattle.std.proofs.lemmas.Option.{none-some, same_Some}
use Rattle.hwp_core.specs.hwp_geom.declared.Frame.{Frame}
use Rattle.hwp_core.specs.hwp_geom.declared.Layout.{Layout}
use Rattle.hwp_core.specs.hwp_geom.declared.Page.{Page}
use Rattle.hwp_core.specs.hwp_page.History.{BodyValue}
use Rattle.hwp_core.specs.hwp_words.Frames.{count_of, cycle_of, is_handled, is_kernel, is_poisoned}
use Rattle.hwp_core.specs.hwp_core_rule.declared.FrameLock.{FrameLock}
use Rattle.hwp_core.specs.hwp_core_rule.declared.SharedWord.TheVariants as places
use Rattle.hwp_core.specs.hwp_core_rule.declared.State.{State}
use Rattle.hwp_core.specs.hwp_core_rule.declared.Step.{Step}
use Rattle.hwp_core.specs.hwp_core_rule.declared.Step.TheVariants as steps
use Rattle.hwp_core.specs.hwp_core_rule.Lasting.{IsMild}
use Rattle.hwp_core.specs.hwp_core_rule.Steps.{place_of}
use Rattle.hwp_core.specs.hwp_core_rule.Words.{Words, read}
use Rattle.hwp_core.proofs.of_hwp_core_rule.Lists.{same-number}
use Rattle.hwp_core.specs.hwp_core_rule.declared.Turn.{Turn}
use Rattle.hwp_core.specs.hwp_core_rule.Boards.{view_of}
use Rattle.hwp_core.specs.hwp_core_rule.Hands.{Hand}
use Rattle.hwp_core.specs.hwp_core_rule.Ranks.{Made, IsRanked, Pending, words_at}
use Rattle.hwp_core.proofs.of_hwp_core_rule.tasks.StepRanks.{failed, pending-kept}
use Rattle.hwp_core.specs.declared.release.ReleaseAt.{ReleaseAt}
use Rattle.hwp_core.specs.declared.release.ReleaseAt.TheVariants as release_at
use Rattle.hwp_core.specs.Holds.{is_free}
use Rattle.hwp_core.specs.Releases as releases
use Rattle.hwp_core.specs.Unlocks as unlocks
use Rattle.hwp_core.proofs.UnlockLaws as unlocking
use Rattle.hwp_claim_frame.specs.declared.claim.Claim.{Claim}
use Rattle.hwp_claim_frame.specs.declared.claim.ClaimAt.{ClaimAt}
use Rattle.hwp_claim_frame.specs.declared.claim.ClaimAt.TheVariants as at
use Rattle.hwp_claim_frame.specs.declared.grab.Grab.{Grab}
use Rattle.hwp_claim_frame.specs.declared.grab.GrabAt.{GrabAt}
use Rattle.hwp_claim_frame.specs.declared.grab.GrabAt.TheVariants as grab_at
use Rattle.hwp_claim_frame.specs.declared.meet.Meet.{Meet}
use Rattle.hwp_claim_frame.specs.declared.meet.MeetAt.{MeetAt}
use Rattle.hwp_claim_frame.specs.declared.meet.MeetAt.TheVariants as meet_at
use Rattle.hwp_claim_frame.specs.Grabs as grabs
use Rattle.hwp_claim_frame.specs.Meets as meets
use Rattle.hwp_claim_frame.specs.Meets.{has_ended, is_ended, owner_in}
use Rattle.hwp_claim_frame.specs.Claims.{plan_at, bare_at, is_done, looked, after_grab, after_meet, next_at, FitsAt, class, claims, claims_at, cost, task as claim-task, claim_most}
use Rattle.hwp_claim_frame.proofs.GrabCosts as grab_costs
use Rattle.hwp_claim_frame.proofs.MeetCosts.{meet-mild}
use Rattle.hwp_claim_frame.proofs.PoisonLaws.{poison-owns}
use Rattle.hwp_claim_frame.proofs.ClaimKeeps.{Keeps, drops, drops-now, owned-by, retired}
use Rattle.hwp_claim_frame.proofs.ClaimCosts.{claim-class, claim-falls, claim-leaves, claim-small, claim-waits, seen-word}

-- ---- a word that shows that a failure isn't pending

module _ (w : Words) (frame : Frame) (cycle word : ℕ) (there : slice_index w.frames frame.0 ≡ word) (pending : Pending w frame cycle) where
  lasts : is_ended cycle word ≡ false
  lasts = ap (λ (p : Bool). not (p && (cycle_of word == cycle))) (sym (ap is_poisoned there) ∙ pending.poisoned) ∙ ap not (same-number (cycle_of word) cycle (sym (ap cycle_of there) ∙ pending.cycle_is))

  not-ended : is_ended cycle word ≡ true → ⊥
  not-ended is = both_ways (is_ended cycle word) lasts is

  not-handled : is_handled word ≡ true → ⊥
  not-handled is = both_ways (is_handled word) (sym (ap is_handled there) ∙ pending.handled) is

  not-kernel : is_kernel word ≡ true → ⊥
  not-kernel is = both_ways (is_kernel word) (sym (ap is_kernel there) ∙ pending.kernel) is

module _ {layout : Layout} {seat : ℕ} {a b : State} {s t : Claim} {turned : Turn} (made : Made claim-task layout seat a b s t turned) where
  abbrev w : Words
  w = words_at layout a

  abbrev now : Words
  now = words_at layout b

  -- the frame's word as a step on it found it, and as it left it
  frame-there : {other : Step} → Some other ≡ Some made.step → place_of other ≡ places.Frame s.frame → slice_index w.frames s.frame.0 ≡ made.found
  frame-there {other} e place = ap (λ (p : _). read p w) (sym place) ∙ seen-word made e

  -- ---- the parts

  grab-keeps : (cycle : ℕ) (g : Grab) → g.frame ≡ s.frame → (x : GrabAt) → grabs.plan_at g.frame x ≡ Some made.step
      → Keeps w now (Some (s.frame, cycle)) (claims_at s.frame (after_grab s.who s.frame cycle (record g { at = grabs.next_at g.frame x made.found })))
  grab-keeps cycle g same grab_at.LoadAvailable e = by (made.found == 0)
    where
      by : (c : Bool) → Keeps w now (Some (s.frame, cycle)) (claims_at s.frame (after_grab s.who s.frame cycle (record g { at = cond c grab_at.LookAgain (grab_at.Reserve made.found) })))
      by true = inr (inl refl)
      by false = inr (inl refl)
  grab-keeps cycle g same (grab_at.Reserve seen) e = by (made.found == seen) (made.found == 0)
    where
      by : (c d : Bool) → Keeps w now (Some (s.frame, cycle)) (claims_at s.frame (after_grab s.who s.frame cycle (record g { at = cond c grab_at.TakeBit (cond d grab_at.LookAgain (grab_at.Reserve made.found)) })))
      by true d = inr (inl refl)
      by false true = inr (inl refl)
      by false false = inr (inl refl)
  grab-keeps cycle g same grab_at.TakeBit e = by (grabs.has_bit g.frame made.found)
    where
      by : (c : Bool) → Keeps w now (Some (s.frame, cycle)) (claims_at s.frame (after_grab s.who s.frame cycle (record g { at = cond c grab_at.Adopt grab_at.Unreserve })))
      by true = inr (inl refl)
      by false = inr (inl refl)
  grab-keeps cycle g same grab_at.Unreserve e = inr (inl refl)
  grab-keeps cycle g same grab_at.Adopt e = by (is_ended cycle made.found) refl
    where
      by : (c : Bool) → is_ended cycle made.found ≡ c → Keeps w now (Some (s.frame, cycle)) (claims_at s.frame (cond c (at.Unlock cycle (unlocks.begin s.who s.frame None)) (at.Retire cycle)))
      by true is = drops w now None s.frame cycle (λ pending. not-ended w s.frame cycle made.found (frame-there e (ap (λ (f : Frame). places.Frame f) same)) pending is)
      by false is = inr (inl refl)
  grab-keeps cycle g same grab_at.LookAgain e = absurd (none-some made.step e)
  grab-keeps cycle g same (grab_at.Grabbed word) e = absurd (none-some made.step e)

  module _ (cycle : ℕ) (m : Meet) (same : m.frame ≡ s.frame) (own : m.cycle ≡ Some cycle) where
    abbrev old-claim : MeetAt → Option (Frame × ℕ)
    old-claim x = claims_at s.frame (at.Meet cycle (record m { at = x }))

    abbrev new-claim : MeetAt → Option (Frame × ℕ)
    new-claim x = claims_at s.frame (after_meet cycle (record m { at = x }))

    -- the word under the lock shows that the failure has ended
    ended-now : Some (steps.LockFrame m.frame) ≡ Some made.step → has_ended m.cycle made.found ≡ true → Pending w s.frame cycle → ⊥
    ended-now e is pending = not-ended w s.frame cycle made.found (frame-there e (ap (λ (f : Frame). places.Frame f) same)) pending (ap (λ (n : Option ℕ). has_ended n made.found) (sym own) ∙ is)

    meet-keeps : (x : MeetAt) → meets.plan_at m.frame x ≡ Some made.step → Keeps w now (old-claim x) (new-claim (meets.next_at m.who m.frame m.cycle (meets.bare_at x) made.found made.got))
    meet-keeps (meet_at.GetRef seen) e = by (made.found == seen) (owner_in seen)
      where
        by : (c : Bool) (o : Option Page) → Keeps w now (Some (s.frame, cycle)) (new-claim (cond c (meets.referenced o) (meet_at.Back false)))
        by true None = inr (inl refl)
        by true (Some page) = inr (inl refl)
        by false o = inr (inl refl)
    meet-keeps meet_at.LockFree e = by (is_free made.found) (has_ended m.cycle made.found) (meets.is_taken made.found) refl
      where
        by : (c d h : Bool) → has_ended m.cycle made.found ≡ d → Keeps w now (Some (s.frame, cycle)) (new-claim (cond c (meets.free_at made.got d h) meet_at.LockFree))
        by false d h is = inr (inl refl)
        by true true h is = drops w now None s.frame cycle (ended-now e is)
        by true false true is = inr (inl refl)
        by true false false is = inr (inl refl)
    meet-keeps (meet_at.LockPage page) e = by (is_free made.found)
      where
        by : (c : Bool) → Keeps w now (Some (s.frame, cycle)) (new-claim (cond c (meet_at.LockOwned page made.got) (meet_at.LockPage page)))
        by true = inr (inl refl)
        by false = inr (inl refl)
    meet-keeps (meet_at.LockOwned page shelf) e = by (is_free made.found) (has_ended m.cycle made.found) (meets.is_owner page made.found) made.got refl
      where
        by : (c d h : Bool) (got : Option BodyValue) → has_ended m.cycle made.found ≡ d → Keeps w now (Some (s.frame, cycle)) (new-claim (cond c (meets.owned_at page shelf got d h) (meet_at.LockOwned page shelf)))
        by false d h got is = inr (inl refl)
        by true true h got is = drops w now None s.frame cycle (ended-now e is)
        by true false false got is = inr (inl refl)
        by true false true None is = inr (inl refl)
        by true false true (Some body) is = inr (inl refl)
    meet-keeps (meet_at.Unlock body ended) e = inr (inl refl)
    meet-keeps (meet_at.UnlockFrame page shelf body ended) e = inr (inl refl)
    meet-keeps (meet_at.UnlockPage page shelf ended) e = inr (inl refl)
    meet-keeps (meet_at.Release r ended) e = by (releases.next r made.found).at ended
      where
        by : (y : ReleaseAt) (d : Bool) → Keeps w now (cond d None (Some (s.frame, cycle))) (new-claim (meets.released_at (record (releases.next r made.found) { at = y }) d y))
        by release_at.Put d = inr (inl refl)
        by (release_at.Give word) d = inr (inl refl)
        by (release_at.Unreserve word) d = inr (inl refl)
        by (release_at.Adopt word) d = inr (inl refl)
        by (release_at.Retire word) d = inr (inl refl)
        by (release_at.Back word) true = inl refl
        by (release_at.Back word) false = inr (inl refl)
    meet-keeps (meet_at.Back ended) e = absurd (none-some made.step e)
    meet-keeps meet_at.Free e = absurd (none-some made.step e)
    meet-keeps (meet_at.Owned page body) e = absurd (none-some made.step e)

  -- ---- what is looked at

  look-keeps : (cycle : ℕ) → Some (steps.Load (places.Frame s.frame)) ≡ Some made.step → Keeps w now (Some (s.frame, cycle)) (claims_at s.frame (looked s.who s.frame cycle made.found))
  look-keeps cycle e = kernel (is_kernel made.found) refl
    where
      there : slice_index w.frames s.frame.0 ≡ made.found
      there = frame-there e refl

      counted : (z : Bool) → Keeps w now (Some (s.frame, cycle)) (claims_at s.frame (cond z (at.Grab cycle (grabs.begin s.who s.frame)) (at.Meet cycle (meets.begin s.who s.frame (Some cycle) made.found))))
      counted true = inr (inl refl)
      counted false = inr (inl refl)

      done : (d h : Bool) → is_ended cycle made.found ≡ d → is_handled made.found ≡ h
          → Keeps w now (Some (s.frame, cycle)) (claims_at s.frame (cond (d || h) (at.Free cycle) (cond (count_of made.found == 0) (at.Grab cycle (grabs.begin s.who s.frame)) (at.Meet cycle (meets.begin s.who s.frame (Some cycle) made.found)))))
      done true h ended is = drops w now None s.frame cycle (λ pending. not-ended w s.frame cycle made.found there pending ended)
      done false true ended is = drops w now None s.frame cycle (λ pending. not-handled w s.frame cycle made.found there pending is)
      done false false ended is = counted (count_of made.found == 0)

      kernel : (k : Bool) → is_kernel made.found ≡ k
          → Keeps w now (Some (s.frame, cycle)) (claims_at s.frame (cond k (at.Kernel cycle) (cond (is_done cycle made.found) (at.Free cycle) (cond (count_of made.found == 0) (at.Grab cycle (grabs.begin s.who s.frame)) (at.Meet cycle (meets.begin s.who s.frame (Some cycle) made.found))))))
      kernel true is = drops w now None s.frame cycle (λ pending. not-kernel w s.frame cycle made.found there pending is)
      kernel false is = done (is_ended cycle made.found) (is_handled made.found) refl refl

  -- ---- every turn

  abbrev the-lock : FrameLock
  the-lock = record { frame = s.frame; owner = 0; handled = false; poisoned = true }

  mild-planned : {other : Step} → Some other ≡ Some made.step → IsMild other → IsMild made.step
  mild-planned {other} e mild = subst IsMild (same_Some other made.step e) mild

  claim-owns : (frame : Frame) (cycle : ℕ) → Pending now frame cycle → (claims t ≡ Some (frame, cycle)) ⊎ (Pending w frame cycle × (claims s ≢ Some (frame, cycle)))
  claim-owns frame cycle pending = subst (λ (x : Claim). (claims x ≡ Some (frame, cycle)) ⊎ (Pending w frame cycle × (claims s ≢ Some (frame, cycle)))) (sym made.follows.0) (which s.at made.fits.at made.planned)
    where
      kept : (old new : Option (Frame × ℕ)) → IsMild made.step → Keeps w now old new → (new ≡ Some (frame, cycle)) ⊎ (Pending w frame cycle × (old ≢ Some (frame, cycle)))
      kept old new mild keeps = owned-by w now old new frame cycle keeps (pending-kept made mild frame cycle pending) pending

      which : (x : ClaimAt) → FitsAt layout (view_of a seat) s.who s.frame s.hardware x → plan_at s.who s.frame s.hardware x ≡ Some made.step
          → (claims_at s.frame (next_at s.who s.frame (bare_at x) made.found made.got) ≡ Some (frame, cycle)) ⊎ (Pending w frame cycle × (claims_at s.frame x ≢ Some (frame, cycle)))
      which at.Stop has e = kept None _ (mild-planned e tt) (inl refl)
      which at.Poison has e = elim (poison-owns made s.frame s.hardware made.fits.frame e frame cycle pending) [
        | inl own ↦ inl (ap (λ (c : Bool). claims_at s.frame (cond c at.Already (at.Count (cycle_of made.found)))) own.0 ∙ own.1)
        | inr before ↦ inr (before, λ is. none-some (frame, cycle) is)
      ]
      which (at.Count own) has e = kept (Some (s.frame, own)) (Some (s.frame, own)) (mild-planned e tt) (inr (inl refl))
      which (at.Look own) has e = kept (Some (s.frame, own)) _ (mild-planned e tt) (look-keeps own e)
      which (at.Grab own g) has e = kept (Some (s.frame, own)) _ (grab_costs.mild g made.step e) (grab-keeps own g has.0.frame_is g.at e)
      which (at.Meet own m) has e = kept (claims_at s.frame (at.Meet own m)) _ (meet-mild m made.step e) (meet-keeps own m has.0.frame_is has.0.cycle_is m.at e)
      which (at.Unlock own u) has e = kept None _ (unlocking.mild u made.step e) (inl refl)
      which (at.Retire own) has e = kept (Some (s.frame, own)) None (mild-planned e tt) (drops-now w now None s.frame own (retired made s.frame made.fits.frame e the-lock refl refl (ap (λ (h : Hand). slice_get h.locks 0) has.0) own))
      which at.GaveUp has e = absurd (none-some made.step e)
      which at.Stopped has e = absurd (none-some made.step e)
      which at.Already has e = absurd (none-some made.step e)
      which (at.Free own) has e = absurd (none-some made.step e)
      which (at.Kernel own) has e = absurd (none-some made.step e)
      which (at.Owned own page body) has e = absurd (none-some made.step e)

pub claim-ranked : IsRanked claim-task
claim-ranked = record {
  classes = claim-class;
  small = λ layout a seat s rule fits. let few : cost s (words_at layout a) ≤ 0 + claim_most = claim-small 0 s.at (words_at layout a) in omega (arith, few);
  falls = λ layout seat a b s t turn made goes. elim (claim-falls made 0 (omega arith) goes) [
    | inl less ↦ inl less
    | inr fails ↦ inr (failed fails.0 (let few : cost t (words_at layout b) ≤ 0 + 12 = fails.1 in omega (arith, few)))
  ];
  waits = λ layout seat a b s t turn made is quiet. claim-waits made 0 (omega arith) is quiet;
  leaves = λ layout seat a b s t turn made aborts. inr (subst (λ (x : Claim). 1 < class x) (sym made.follows.0) (claim-leaves s made.found made.got aborts));
  owns = λ layout seat a b s t turn frame cycle made going pending. claim-owns made frame cycle pending;
}
