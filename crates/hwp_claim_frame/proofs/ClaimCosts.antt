-- Each turn of a `Claim` lowers its cost, or poisons a frame, and its failure stays its own until it is ended.
use Rattle.std.proofs.Common.{◌≡◌, ◌⊎◌, inl, inr, ℕ, ◌+◌, ◌/◌, ◌%◌, ◌<◌, ◌≤◌, ◌==◌, min, Bool, true, false, cond, Option, Some, None, is_none, slice_index, refl, sym, ap, ◌∙◌, subst, arith}
use Rattle.std.proofs.lemmas.Bool.{both_ways, eqb-false}
use Rattle.std.proofs.lemmas.Option.{none-some, same_Some}
use Rattle.hwp_core.specs.hwp_geom.declared.Frame.{Frame}
use Rattle.hwp_core.specs.hwp_geom.declared.Layout.{Layout}
use Rattle.hwp_core.specs.hwp_geom.declared.Who.{Who}
use Rattle.hwp_core.specs.hwp_page.History.{BodyValue}
use Rattle.hwp_core.specs.hwp_words.Frames.{count_of, cycle_of, is_kernel, is_poisoned}
use Rattle.hwp_core.specs.hwp_words.Stops.{is_stopped}
use Rattle.hwp_core.specs.hwp_core_rule.declared.SharedWord.TheVariants as places
use Rattle.hwp_core.specs.hwp_core_rule.declared.State.{State}
use Rattle.hwp_core.specs.hwp_core_rule.declared.Step.{Step}
use Rattle.hwp_core.specs.hwp_core_rule.declared.Step.TheVariants as steps
use Rattle.hwp_core.specs.hwp_core_rule.Moves.{Move}
use Rattle.hwp_core.specs.hwp_core_rule.Lasting.{LeavesPoison}
use Rattle.hwp_core.specs.hwp_core_rule.Steps.{place_of, word_after}
use Rattle.hwp_core.specs.hwp_core_rule.Words.{Words, read}
use Rattle.hwp_core.specs.hwp_core_rule.declared.Turn.{Turn}
use Rattle.hwp_core.specs.hwp_core_rule.declared.Turn.TheVariants.{Moved, Changed, NoMemory}
use Rattle.hwp_core.specs.hwp_core_rule.Boards.{view_of}
use Rattle.hwp_core.specs.hwp_core_rule.Calls.{logs, rec_of}
use Rattle.hwp_core.specs.hwp_core_rule.Ranks.{Made, Quiet, OtherHand, failures_left, is_waits, stale, words_at, stale_weight}
use Rattle.hwp_core.proofs.of_hwp_core_rule.tasks.Failures.{mild-leaves}
use Rattle.hwp_core.proofs.of_hwp_core_rule.tasks.StepRanks.{met, poison-fails, words-kept}
use Rattle.hwp_core.specs.declared.unlock.Unlock.{Unlock}
use Rattle.hwp_core.specs.Unlocks as unlocks
use Rattle.hwp_core.proofs.TaskCosts.{met-own}
use Rattle.hwp_core.proofs.UnlockLaws as unlocking
use Rattle.hwp_core.proofs.UnlockLaws.{unlock-class, unlock-falls, unlock-small}
use Rattle.hwp_core.proofs.of_hwp_core_rule.Lists.{same-number}
use Rattle.hwp_claim_frame.specs.declared.claim.Claim.{Claim}
use Rattle.hwp_claim_frame.specs.declared.claim.ClaimAt.{ClaimAt}
use Rattle.hwp_claim_frame.specs.declared.claim.ClaimAt.TheVariants as at
use Rattle.hwp_claim_frame.specs.declared.grab.Grab.{Grab}
use Rattle.hwp_claim_frame.specs.declared.grab.GrabAt.{GrabAt}
use Rattle.hwp_claim_frame.specs.declared.grab.GrabAt.TheVariants as grab_at
use Rattle.hwp_claim_frame.specs.declared.meet.Meet.{Meet}
use Rattle.hwp_claim_frame.specs.declared.meet.MeetAt.{MeetAt}
use Rattle.hwp_claim_frame.specs.declared.meet.MeetAt.TheVariants as meet_at
use Rattle.hwp_core.specs.declared.release.ReleaseAt.{ReleaseAt}
use Rattle.hwp_core.specs.declared.release.ReleaseAt.TheVariants as release_at
use Rattle.hwp_claim_frame.specs.Grabs as grabs
use Rattle.hwp_claim_frame.specs.Meets as meets
use Rattle.hwp_claim_frame.specs.Claims.{plan, plan_at, put_at, bare, bare_at, stopped, poisoned, is_done, looked, after_grab, after_grab_by, after_meet, after_unlock, next, next_at, stop_turn, turn_at, FitsAt, class, class_at, aborts, aborts_at, cost, cost_with, task as claim-task, claim_most}
use Rattle.hwp_claim_frame.proofs.GrabCosts as grabbing
use Rattle.hwp_claim_frame.proofs.GrabCosts.{grab-falls, grab-made, grab-leaves, grab-small, grab-waits, class-within}
use Rattle.hwp_claim_frame.proofs.MeetCosts.{meet-class, meet-falls, meet-made, meet-mild, meet-small, never-waits}

-- ---- what is left once a part is over

module _ (rest : ℕ) (w : Words) where
  grab-ends : (who : Who) (frame : Frame) (cycle : ℕ) (g : Grab) (x : GrabAt) → cost_with rest (after_grab who frame cycle (record g { at = x })) w ≤ grabs.cost_with 5 (rest + 11) g.frame x w
  grab-ends who frame cycle g grab_at.LoadAvailable = omega arith
  grab-ends who frame cycle g (grab_at.Reserve seen) = omega arith
  grab-ends who frame cycle g grab_at.TakeBit = omega arith
  grab-ends who frame cycle g grab_at.Unreserve = omega arith
  grab-ends who frame cycle g grab_at.Adopt = omega arith
  grab-ends who frame cycle g grab_at.LookAgain = omega arith
  grab-ends who frame cycle g (grab_at.Grabbed word) = by (meets.is_ended cycle word)
    where
      by : (e : Bool) → cost_with rest (cond e (at.Unlock cycle (unlocks.begin who frame None)) (at.Retire cycle)) w ≤ 5
      by true = omega arith
      by false = omega arith

  meet-ends : (cycle : ℕ) (m : Meet) (x : MeetAt) → cost_with rest (after_meet cycle (record m { at = x })) w ≤ meets.cost_with (rest + 2) (rest + 11) m.frame x w
  meet-ends cycle m (meet_at.GetRef seen) = omega arith
  meet-ends cycle m meet_at.LockFree = omega arith
  meet-ends cycle m (meet_at.LockPage page) = omega arith
  meet-ends cycle m (meet_at.LockOwned page shelf) = omega arith
  meet-ends cycle m (meet_at.Unlock body ended) = omega arith
  meet-ends cycle m (meet_at.UnlockFrame page shelf body ended) = omega arith
  meet-ends cycle m (meet_at.UnlockPage page shelf ended) = omega arith
  meet-ends cycle m (meet_at.Release r ended) = by r.at ended
    where
      by : (x : ReleaseAt) (e : Bool) → cost_with rest (after_meet cycle (record m { at = meet_at.Release (record r { at = x }) e })) w ≤ meets.cost_with (rest + 2) (rest + 11) m.frame (meet_at.Release (record r { at = x }) e) w
      by release_at.Put e = omega arith
      by (release_at.Give word) e = omega arith
      by (release_at.Unreserve word) e = omega arith
      by (release_at.Adopt word) e = omega arith
      by (release_at.Retire word) e = omega arith
      by (release_at.Back word) true = omega arith
      by (release_at.Back word) false = omega arith
  meet-ends cycle m (meet_at.Back true) = omega arith
  meet-ends cycle m (meet_at.Back false) = omega arith
  meet-ends cycle m meet_at.Free = omega arith
  meet-ends cycle m (meet_at.Owned page body) = omega arith

  unlock-ends : (cycle : ℕ) (u : Unlock) → cost_with rest (after_unlock cycle u) w ≤ unlocks.cost u w
  unlock-ends cycle u = by (is_none (unlocks.plan u))
    where
      by : (b : Bool) → cost_with rest (cond b (at.Free cycle) (at.Unlock cycle u)) w ≤ unlocks.cost u w
      by true = omega arith
      by false = omega arith

  stop-ends : (found : ℕ) → cost_with rest (stopped found) w < 1
  stop-ends found = by (found == 0) (is_stopped found)
    where
      by : (b c : Bool) → cost_with rest (cond b at.Stopped (cond c at.Stopped at.GaveUp)) w < 1
      by true c = omega arith
      by false true = omega arith
      by false false = omega arith

stop-goes : (found : ℕ) → is_waits (stop_turn found) ≡ false
stop-goes found = by (found == 0) (is_stopped found)
  where
    by : (b c : Bool) → is_waits (cond b Moved (cond c (Changed found) NoMemory)) ≡ false
    by true c = refl
    by false true = refl
    by false false = refl

module _ {layout : Layout} {seat : ℕ} {a b : State} {s t : Claim} {turned : Turn} (made : Made claim-task layout seat a b s t turned) where
  abbrev Moves : Option BodyValue → Type 0
  Moves given = Move layout seat (rec_of layout s.who made.step (logs given) made.found made.got) a b

  -- ---- the frame's word

  pub seen-word : {other : Step} → Some other ≡ Some made.step → read (place_of other) (words_at layout a) ≡ made.found
  seen-word e = met-own (words_at layout a) made.found e (met made)

  looked-word : Some (steps.Load (places.Frame s.frame)) ≡ Some made.step → slice_index (words_at layout b).frames s.frame.0 ≡ made.found
  looked-word e = ap (λ (w : Words). slice_index w.frames s.frame.0) (words-kept made (ap (λ (x : Step). word_after x made.found) (sym (same_Some (steps.Load (places.Frame s.frame)) made.step e)))) ∙ seen-word e

  module _ (rest : ℕ) (few : rest + 11 < stale_weight) where
    abbrev Falls : ClaimAt → ClaimAt → Type 0
    Falls x y = (cost_with rest y (words_at layout b) < cost_with rest x (words_at layout a)) ⊎ ((failures_left (words_at layout b) < failures_left (words_at layout a)) × (cost_with rest y (words_at layout b) ≤ rest + 12))

    poison-ends : Some (steps.Poison s.frame s.hardware) ≡ Some made.step → Falls at.Poison (poisoned made.found)
    poison-ends e = by (is_poisoned made.found) refl
      where
        by : (c : Bool) → is_poisoned made.found ≡ c → Falls at.Poison (cond c at.Already (at.Count (cycle_of made.found)))
        by true is = inl (omega arith)
        by false is = inr (poison-fails made s.frame s.hardware e (let other = eqb-false (made.found / 2 % 2) 1 is in omega (arith, other)), omega arith)

    look-ends : (cycle : ℕ) → Some (steps.Load (places.Frame s.frame)) ≡ Some made.step → Falls (at.Look cycle) (looked s.who s.frame cycle made.found)
    look-ends cycle e = inl (kernel (is_kernel made.found))
      where
        w : Words
        w = words_at layout b

        counted : (z : Bool) → (count_of made.found == 0) ≡ z → cost_with rest (cond z (at.Grab cycle (grabs.begin s.who s.frame)) (at.Meet cycle (meets.begin s.who s.frame (Some cycle) made.found))) (words_at layout b) < rest + 11
        counted true zero = let idle : stale (grabs.is_idle s.frame (words_at layout b)) ≡ 0 = ap (λ (n : ℕ). stale (count_of n == 0)) (looked-word e) ∙ ap stale zero in omega (arith, idle)
        counted false some = let fresh : stale (meets.word_in s.frame (words_at layout b) == made.found) ≡ 0 = ap stale (same-number _ made.found (looked-word e)) in omega (arith, fresh)

        done : (d : Bool) → cost_with rest (cond d (at.Free cycle) (cond (count_of made.found == 0) (at.Grab cycle (grabs.begin s.who s.frame)) (at.Meet cycle (meets.begin s.who s.frame (Some cycle) made.found)))) (words_at layout b) < rest + 11
        done true = omega arith
        done false = counted (count_of made.found == 0) refl

        kernel : (k : Bool) → cost_with rest (cond k (at.Kernel cycle) (cond (is_done cycle made.found) (at.Free cycle) (cond (count_of made.found == 0) (at.Grab cycle (grabs.begin s.who s.frame)) (at.Meet cycle (meets.begin s.who s.frame (Some cycle) made.found))))) (words_at layout b) < rest + 11
        kernel true = omega arith
        kernel false = done (is_done cycle made.found)

    falls-at : (x : ClaimAt) → FitsAt layout (view_of a seat) s.who s.frame s.hardware x → plan_at s.who s.frame s.hardware x ≡ Some made.step → Moves (put_at x) → is_waits (turn_at (bare_at x) made.found) ≡ false
        → Falls x (next_at s.who s.frame (bare_at x) made.found made.got)
    falls-at at.Stop has e move goes = inl (stop-ends rest (words_at layout b) made.found)
    falls-at at.Poison has e move goes = poison-ends e
    falls-at (at.Count cycle) has e move goes = inl (omega arith)
    falls-at (at.Look cycle) has e move goes = look-ends cycle e
    falls-at (at.Grab cycle g) has e move goes =
        let less : grabs.cost_with 5 (rest + 11) g.frame (grabs.next_at g.frame g.at made.found) (words_at layout b) < grabs.cost_with 5 (rest + 11) g.frame g.at (words_at layout a) = grab-falls (grab-made made g s.who has.0.grab has.0.own e move) 5 (rest + 11) few goes in
        let ends : cost_with rest (after_grab s.who s.frame cycle (grabs.next g made.found)) (words_at layout b) ≤ grabs.cost_with 5 (rest + 11) g.frame (grabs.next_at g.frame g.at made.found) (words_at layout b) = grab-ends rest (words_at layout b) s.who s.frame cycle g (grabs.next_at g.frame g.at made.found) in
        inl (omega (arith, less, ends))
    falls-at (at.Meet cycle m) has e move goes =
        let less : meets.cost_with (rest + 2) (rest + 11) m.frame (meets.next (meets.bare m) made.found made.got).at (words_at layout b) < meets.cost_with (rest + 2) (rest + 11) m.frame m.at (words_at layout a)
        = meet-falls (meet-made made m s.who has.0.meet has.0.own e move) (rest + 2) (rest + 11) (omega arith) goes in
        let ends : cost_with rest (after_meet cycle (meets.next (meets.bare m) made.found made.got)) (words_at layout b) ≤ meets.cost_with (rest + 2) (rest + 11) m.frame (meets.next (meets.bare m) made.found made.got).at (words_at layout b)
        = meet-ends rest (words_at layout b) cycle m (meets.next (meets.bare m) made.found made.got).at in
        inl (omega (arith, less, ends))
    falls-at (at.Unlock cycle u) has e move goes =
        let less : unlocks.cost (unlocks.next (unlocks.bare u) made.found) (words_at layout b) < unlocks.cost u (words_at layout a) = unlock-falls (words_at layout a) (words_at layout b) u made.step made.found e in
        let ends : cost_with rest (after_unlock cycle (unlocks.next (unlocks.bare u) made.found)) (words_at layout b) ≤ unlocks.cost (unlocks.next (unlocks.bare u) made.found) (words_at layout b) = unlock-ends rest (words_at layout b) cycle (unlocks.next (unlocks.bare u) made.found) in
        inl (omega (arith, less, ends))
    falls-at (at.Retire cycle) has e move goes = inl (omega arith)
    falls-at at.GaveUp has e move goes = absurd (none-some made.step e)
    falls-at at.Stopped has e move goes = absurd (none-some made.step e)
    falls-at at.Already has e move goes = absurd (none-some made.step e)
    falls-at (at.Free cycle) has e move goes = absurd (none-some made.step e)
    falls-at (at.Kernel cycle) has e move goes = absurd (none-some made.step e)
    falls-at (at.Owned cycle page body) has e move goes = absurd (none-some made.step e)

    -- a turn that doesn't wait lowers the cost, whatever follows once the page is held; or it poisons the frame, and then the cost has a bound
    pub claim-falls : is_waits turned ≡ false
        → (cost_with rest t.at (words_at layout b) < cost_with rest s.at (words_at layout a)) ⊎ ((failures_left (words_at layout b) < failures_left (words_at layout a)) × (cost_with rest t.at (words_at layout b) ≤ rest + 12))
    claim-falls goes = subst (λ (x : Claim). Falls s.at x.at) (sym made.follows.0) (falls-at s.at made.fits.at made.planned made.move (sym (ap is_waits made.follows.1) ∙ goes))

    -- ---- a turn that waits

    abbrev Waits : ClaimAt → ClaimAt → Type 0
    Waits x y = (cost_with rest y (words_at layout b) < cost_with rest x (words_at layout a)) ⊎ ((aborts_at y ≡ true) × OtherHand a seat)

    aborting : (who : Who) (frame : Frame) (cycle : ℕ) (g : Grab) (x : GrabAt) → grabs.aborts_at x ≡ true → aborts_at (after_grab who frame cycle (record g { at = x })) ≡ true
    aborting who frame cycle g grab_at.Unreserve is = refl
    aborting who frame cycle g grab_at.LoadAvailable is = absurd (both_ways true (sym is) refl)
    aborting who frame cycle g (grab_at.Reserve seen) is = absurd (both_ways true (sym is) refl)
    aborting who frame cycle g grab_at.TakeBit is = absurd (both_ways true (sym is) refl)
    aborting who frame cycle g grab_at.Adopt is = absurd (both_ways true (sym is) refl)
    aborting who frame cycle g grab_at.LookAgain is = absurd (both_ways true (sym is) refl)
    aborting who frame cycle g (grab_at.Grabbed word) is = absurd (both_ways true (sym is) refl)

    waits-at : (x : ClaimAt) → FitsAt layout (view_of a seat) s.who s.frame s.hardware x → plan_at s.who s.frame s.hardware x ≡ Some made.step → Moves (put_at x) → is_waits (turn_at (bare_at x) made.found) ≡ true → Quiet (class_at x) layout a seat
        → Waits x (next_at s.who s.frame (bare_at x) made.found made.got)
    waits-at at.Stop has e move waits quiet = absurd (both_ways true (sym waits ∙ stop-goes made.found) refl)
    waits-at at.Poison has e move waits quiet = absurd (both_ways true (sym waits) refl)
    waits-at (at.Count cycle) has e move waits quiet = absurd (both_ways true (sym waits) refl)
    waits-at (at.Look cycle) has e move waits quiet = absurd (both_ways true (sym waits) refl)
    waits-at (at.Grab cycle g) has e move waits quiet = elim (grab-waits (grab-made made g s.who has.0.grab has.0.own e move) 5 (rest + 11) few waits (λ second i other some. quiet.frames (omega (arith, second)) i other some)) [
      | inl less ↦
          let ends : cost_with rest (after_grab s.who s.frame cycle (grabs.next g made.found)) (words_at layout b) ≤ grabs.cost_with 5 (rest + 11) g.frame (grabs.next_at g.frame g.at made.found) (words_at layout b) = grab-ends rest (words_at layout b) s.who s.frame cycle g (grabs.next_at g.frame g.at made.found) in
          inl (omega (arith, less, ends))
      | inr gives ↦ inr (aborting s.who s.frame cycle g (grabs.next_at g.frame g.at made.found) gives.0, gives.1)
    ]
    waits-at (at.Meet cycle m) has e move waits quiet = absurd (never-waits (meet-made made m s.who has.0.meet has.0.own e move) waits (class_at (at.Meet cycle m)) (omega arith) quiet)
    waits-at (at.Unlock cycle u) has e move waits quiet = absurd (both_ways true (sym waits) refl)
    waits-at (at.Retire cycle) has e move waits quiet = absurd (both_ways true (sym waits) refl)
    waits-at at.GaveUp has e move waits quiet = absurd (none-some made.step e)
    waits-at at.Stopped has e move waits quiet = absurd (none-some made.step e)
    waits-at at.Already has e move waits quiet = absurd (none-some made.step e)
    waits-at (at.Free cycle) has e move waits quiet = absurd (none-some made.step e)
    waits-at (at.Kernel cycle) has e move waits quiet = absurd (none-some made.step e)
    waits-at (at.Owned cycle page body) has e move waits quiet = absurd (none-some made.step e)

    pub claim-waits : is_waits turned ≡ true → Quiet (class s) layout a seat → (cost_with rest t.at (words_at layout b) < cost_with rest s.at (words_at layout a)) ⊎ ((aborts t ≡ true) × OtherHand a seat)
    claim-waits waits quiet = subst (λ (x : Claim). Waits s.at x.at) (sym made.follows.0) (waits-at s.at made.fits.at made.planned made.move (sym (ap is_waits made.follows.1) ∙ waits) quiet)

-- ---- classes, bounds

pub claim-class : (c : Claim) → (1 ≤ class c) × (class c ≤ 4)
claim-class c = which c.at
  where
    pressed : (n : ℕ) → (1 ≤ n) × (n ≤ 4) → (1 ≤ min n 3) × (min n 3 ≤ 4)
    pressed n has = (omega (arith, has.0), omega arith)

    which : (x : ClaimAt) → (1 ≤ class_at x) × (class_at x ≤ 4)
    which at.Stop = (omega arith, omega arith)
    which at.Poison = (omega arith, omega arith)
    which (at.Count cycle) = (omega arith, omega arith)
    which (at.Look cycle) = (omega arith, omega arith)
    which (at.Grab cycle g) = pressed (grabs.class g) (class-within g)
    which (at.Meet cycle m) = pressed (meets.class m) (meet-class m)
    which (at.Unlock cycle u) = pressed (unlocks.class u) (unlock-class u)
    which (at.Retire cycle) = (omega arith, omega arith)
    which at.GaveUp = (omega arith, omega arith)
    which at.Stopped = (omega arith, omega arith)
    which at.Already = (omega arith, omega arith)
    which (at.Free cycle) = (omega arith, omega arith)
    which (at.Kernel cycle) = (omega arith, omega arith)
    which (at.Owned cycle page body) = (omega arith, omega arith)

pub claim-small : (rest : ℕ) (x : ClaimAt) (w : Words) → cost_with rest x w ≤ rest + claim_most
claim-small rest x w = which x
  where
    which : (x : ClaimAt) → cost_with rest x w ≤ rest + claim_most
    which at.Stop = omega arith
    which at.Poison = omega arith
    which (at.Count cycle) = omega arith
    which (at.Look cycle) = omega arith
    which (at.Grab cycle g) = let small : grabs.cost_with 5 (rest + 11) g.frame g.at w ≤ 5 + (rest + 11) + grabs.grab_most = grab-small 5 (rest + 11) g w in omega (arith, small)
    which (at.Meet cycle m) = let small : meets.cost_with (rest + 2) (rest + 11) m.frame m.at w ≤ rest + 11 + meets.meet_most = meet-small (rest + 2) (rest + 11) (rest + 11) (omega arith) (omega arith) m.frame m.at w in omega (arith, small)
    which (at.Unlock cycle u) = let small : unlocks.cost u w ≤ 4 = unlock-small w u in omega (arith, small)
    which (at.Retire cycle) = omega arith
    which at.GaveUp = omega arith
    which at.Stopped = omega arith
    which at.Already = omega arith
    which (at.Free cycle) = omega arith
    which (at.Kernel cycle) = omega arith
    which (at.Owned cycle page body) = omega arith

-- once the reservation is given back, the frame's word is looked at again
pub claim-leaves : (c : Claim) (found : ℕ) (got : Option BodyValue) → aborts c ≡ true → 1 < class (next (bare c) found got)
claim-leaves c found got is = which c.at is
  where
    which : (x : ClaimAt) → aborts_at x ≡ true → 1 < class_at (next_at c.who c.frame (bare_at x) found got)
    which (at.Grab cycle g) is = let three : class_at (after_grab c.who c.frame cycle (grabs.next g found)) ≡ 3 = ap (λ (x : GrabAt). class_at (after_grab_by c.who c.frame cycle (grabs.next g found) (grabs.answer_at x))) (grab-leaves g found is) in omega (arith, three)
    which at.Stop is = absurd (both_ways true (sym is) refl)
    which at.Poison is = absurd (both_ways true (sym is) refl)
    which (at.Count cycle) is = absurd (both_ways true (sym is) refl)
    which (at.Look cycle) is = absurd (both_ways true (sym is) refl)
    which (at.Meet cycle m) is = absurd (both_ways true (sym is) refl)
    which (at.Unlock cycle u) is = absurd (both_ways true (sym is) refl)
    which (at.Retire cycle) is = absurd (both_ways true (sym is) refl)
    which at.GaveUp is = absurd (both_ways true (sym is) refl)
    which at.Stopped is = absurd (both_ways true (sym is) refl)
    which at.Already is = absurd (both_ways true (sym is) refl)
    which (at.Free cycle) is = absurd (both_ways true (sym is) refl)
    which (at.Kernel cycle) is = absurd (both_ways true (sym is) refl)
    which (at.Owned cycle page body) is = absurd (both_ways true (sym is) refl)

-- none of its steps takes a frame's poison back
pub claim-lasting : (c : Claim) (step : Step) → plan c ≡ Some step → LeavesPoison step
claim-lasting c step is = which c.at is
  where
    which : (x : ClaimAt) → plan_at c.who c.frame c.hardware x ≡ Some step → LeavesPoison step
    which at.Stop e = subst LeavesPoison (same_Some (steps.Stop c.who.cpu) step e) tt
    which at.Poison e = subst LeavesPoison (same_Some (steps.Poison c.frame c.hardware) step e) tt
    which (at.Count cycle) e = subst LeavesPoison (same_Some (steps.CountPoison c.hardware) step e) tt
    which (at.Look cycle) e = subst LeavesPoison (same_Some (steps.Load (places.Frame c.frame)) step e) tt
    which (at.Grab cycle g) e = mild-leaves step (grabbing.mild g step e)
    which (at.Meet cycle m) e = mild-leaves step (meet-mild m step e)
    which (at.Unlock cycle u) e = mild-leaves step (unlocking.mild u step e)
    which (at.Retire cycle) e = subst LeavesPoison (same_Some (steps.Retire c.frame) step e) tt
    which at.GaveUp e = absurd (none-some step e)
    which at.Stopped e = absurd (none-some step e)
    which at.Already e = absurd (none-some step e)
    which (at.Free cycle) e = absurd (none-some step e)
    which (at.Kernel cycle) e = absurd (none-some step e)
    which (at.Owned cycle page body) e = absurd (none-some step e)
