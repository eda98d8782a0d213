-- Each turn of a `Seize` lowers its cost, where it doesn't wait; and where it waits, the others hold what it waits for.
use Rattle.std.proofs.Common.{◌≡◌, ◌⊎◌, inl, inr, ℕ, ◌+◌, ◌<◌, ◌≤◌, ◌==◌, Bool, true, false, cond, Option, Some, None, slice_index, refl, sym, ap, ◌∙◌, subst, arith}
use Rattle.std.proofs.lemmas.Bool.{both_ways}
use Rattle.std.proofs.lemmas.Option.{none-some, same_Some}
use Rattle.hwp_claim_frame.specs.hwp_geom.declared.Layout.{Layout}
use Rattle.hwp_claim_frame.specs.hwp_page.History.{BodyValue}
use Rattle.hwp_claim_frame.specs.hwp_words.Frames.{count_of, is_kernel, is_poisoned}
use Rattle.hwp_claim_frame.specs.hwp_core_rule.declared.SharedWord.TheVariants as places
use Rattle.hwp_claim_frame.specs.hwp_core_rule.declared.State.{State}
use Rattle.hwp_claim_frame.specs.hwp_core_rule.declared.Step.{Step}
use Rattle.hwp_claim_frame.specs.hwp_core_rule.declared.Step.TheVariants as steps
use Rattle.hwp_claim_frame.specs.hwp_core_rule.Moves.{Move}
use Rattle.hwp_claim_frame.specs.hwp_core_rule.Lasting.{IsMild}
use Rattle.hwp_claim_frame.specs.hwp_core_rule.Steps.{word_after}
use Rattle.hwp_claim_frame.specs.hwp_core_rule.Words.{Words}
use Rattle.hwp_claim_frame.proofs.of_hwp_core_rule.Lists.{same-number}
use Rattle.hwp_claim_frame.specs.hwp_core_rule.declared.Turn.{Turn}
use Rattle.hwp_claim_frame.specs.hwp_core_rule.Boards.{view_of}
use Rattle.hwp_claim_frame.specs.hwp_core_rule.Calls.{logs, rec_of}
use Rattle.hwp_claim_frame.specs.hwp_core_rule.Ranks.{IsRanked, Made, Quiet, OtherHand, is_waits, stale, words_at, stale_weight}
use Rattle.hwp_claim_frame.proofs.of_hwp_core_rule.tasks.StepRanks.{met, pending-kept, words-kept}
use Rattle.hwp_claim_frame.specs.hwp_core.declared.release.ReleaseAt.{ReleaseAt}
use Rattle.hwp_claim_frame.specs.hwp_core.declared.release.ReleaseAt.TheVariants as release_at
use Rattle.hwp_claim_frame.proofs.of_hwp_core.TaskCosts.{met-own}
use Rattle.hwp_claim_frame.specs.declared.grab.Grab.{Grab}
use Rattle.hwp_claim_frame.specs.declared.grab.GrabAt.{GrabAt}
use Rattle.hwp_claim_frame.specs.declared.grab.GrabAt.TheVariants as grab_at
use Rattle.hwp_claim_frame.specs.declared.meet.Meet.{Meet}
use Rattle.hwp_claim_frame.specs.declared.meet.MeetAt.{MeetAt}
use Rattle.hwp_claim_frame.specs.declared.meet.MeetAt.TheVariants as meet_at
use Rattle.hwp_claim_frame.specs.Claims.{has_ended_at}
use Rattle.hwp_claim_frame.specs.Grabs as grabs
use Rattle.hwp_claim_frame.specs.Meets as meets
use Rattle.hwp_claim_frame.proofs.GrabCosts.{grab-falls, grab-made, grab-leaves, grab-small, grab-waits, class-within, mild}
use Rattle.hwp_claim_frame.proofs.MeetCosts.{meet-class, meet-falls, meet-made, meet-mild, meet-small, never-waits}
use Rattle.hwp_soft_move.specs.declared.seize.Seize.{Seize}
use Rattle.hwp_soft_move.specs.declared.seize.SeizeAt.{SeizeAt}
use Rattle.hwp_soft_move.specs.declared.seize.SeizeAt.TheVariants as at
use Rattle.hwp_soft_move.specs.Seizes.{plan, plan_at, put_at, bare, bare_at, looked, after_grab, after_grab_by, after_meet, next, next_at, turn_at, FitsAt, class, class_at, aborts, aborts_at, cost, cost_with, task as seize-task, seize_most}
use Rattle.hwp_soft_move.proofs.SeizeLaws.{lasts-on}

-- ---- what is left once a part is over

module _ (rest : ℕ) (w : Words) where
  grab-ends : (g : Grab) (x : GrabAt) → cost_with rest (after_grab (record g { at = x })) w ≤ grabs.cost_with rest (rest + 9) g.frame x w
  grab-ends g grab_at.LoadAvailable = omega arith
  grab-ends g (grab_at.Reserve seen) = omega arith
  grab-ends g grab_at.TakeBit = omega arith
  grab-ends g grab_at.Unreserve = omega arith
  grab-ends g grab_at.Adopt = omega arith
  grab-ends g grab_at.LookAgain = omega arith
  grab-ends g (grab_at.Grabbed word) = omega arith

  meet-ends : (m : Meet) (x : MeetAt) → has_ended_at x ≡ false → cost_with rest (after_meet (record m { at = x })) w ≤ meets.cost_with rest (rest + 9) m.frame x w
  meet-ends m (meet_at.GetRef seen) is = omega arith
  meet-ends m meet_at.LockFree is = omega arith
  meet-ends m (meet_at.LockPage page) is = omega arith
  meet-ends m (meet_at.LockOwned page shelf) is = omega arith
  meet-ends m (meet_at.Unlock body ended) is = omega arith
  meet-ends m (meet_at.UnlockFrame page shelf body ended) is = omega arith
  meet-ends m (meet_at.UnlockPage page shelf ended) is = omega arith
  meet-ends m (meet_at.Release r ended) is = by r.at ended is
    where
      by : (x : ReleaseAt) (e : Bool) → e ≡ false → cost_with rest (after_meet (record m { at = meet_at.Release (record r { at = x }) e })) w ≤ meets.cost_with rest (rest + 9) m.frame (meet_at.Release (record r { at = x }) e) w
      by release_at.Put e is = omega arith
      by (release_at.Give word) e is = omega arith
      by (release_at.Unreserve word) e is = omega arith
      by (release_at.Adopt word) e is = omega arith
      by (release_at.Retire word) e is = omega arith
      by (release_at.Back word) true is = absurd (both_ways true is refl)
      by (release_at.Back word) false is = omega arith
  meet-ends m (meet_at.Back true) is = absurd (both_ways true is refl)
  meet-ends m (meet_at.Back false) is = omega arith
  meet-ends m meet_at.Free is = omega arith
  meet-ends m (meet_at.Owned page body) is = omega arith

module _ {layout : Layout} {seat : ℕ} {a b : State} {s t : Seize} {turned : Turn} (made : Made seize-task layout seat a b s t turned) where
  abbrev Moves : Option BodyValue → Type 0
  Moves given = Move layout seat (rec_of layout s.who made.step (logs given) made.found made.got) a b

  -- ---- the frame's word

  looked-word : Some (steps.Load (places.Frame s.frame)) ≡ Some made.step → slice_index (words_at layout b).frames s.frame.0 ≡ made.found
  looked-word e = ap (λ (w : Words). slice_index w.frames s.frame.0) (words-kept made (ap (λ (x : Step). word_after x made.found) (sym (same_Some (steps.Load (places.Frame s.frame)) made.step e)))) ∙ met-own (words_at layout a) made.found e (met made)

  module _ (rest : ℕ) (few : rest + 9 < stale_weight) where
    look-ends : Some (steps.Load (places.Frame s.frame)) ≡ Some made.step → cost_with rest (looked s.who s.frame made.found) (words_at layout b) < rest + 9
    look-ends e = by (is_kernel made.found) (is_poisoned made.found)
      where
        counted : (z : Bool) → (count_of made.found == 0) ≡ z → cost_with rest (cond z (at.Grab (grabs.begin s.who s.frame)) (at.Meet (meets.begin s.who s.frame None made.found))) (words_at layout b) < rest + 9
        counted true zero = let idle : stale (grabs.is_idle s.frame (words_at layout b)) ≡ 0 = ap (λ (n : ℕ). stale (count_of n == 0)) (looked-word e) ∙ ap stale zero in omega (arith, idle)
        counted false some = let fresh : stale (meets.word_in s.frame (words_at layout b) == made.found) ≡ 0 = ap stale (same-number _ made.found (looked-word e)) in omega (arith, fresh)

        by : (k p : Bool) → cost_with rest (cond k at.Kernel (cond p at.Already (cond (count_of made.found == 0) (at.Grab (grabs.begin s.who s.frame)) (at.Meet (meets.begin s.who s.frame None made.found))))) (words_at layout b) < rest + 9
        by true p = omega arith
        by false true = omega arith
        by false false = counted (count_of made.found == 0) refl

    falls-at : (x : SeizeAt) → FitsAt layout (view_of a seat) s.who s.frame x → plan_at s.frame x ≡ Some made.step → Moves (put_at x) → is_waits (turn_at (bare_at x) made.found) ≡ false
        → cost_with rest (next_at s.who s.frame (bare_at x) made.found made.got) (words_at layout b) < cost_with rest x (words_at layout a)
    falls-at at.Look has e move goes = look-ends e
    falls-at (at.Grab g) has e move goes =
        let less : grabs.cost_with rest (rest + 9) g.frame (grabs.next_at g.frame g.at made.found) (words_at layout b) < grabs.cost_with rest (rest + 9) g.frame g.at (words_at layout a) = grab-falls (grab-made made g s.who has.0.grab has.0.own e move) rest (rest + 9) few goes in
        let ends : cost_with rest (after_grab (grabs.next g made.found)) (words_at layout b) ≤ grabs.cost_with rest (rest + 9) g.frame (grabs.next_at g.frame g.at made.found) (words_at layout b) = grab-ends rest (words_at layout b) g (grabs.next_at g.frame g.at made.found) in
        omega (arith, less, ends)
    falls-at (at.Meet m) has e move goes =
        let less : meets.cost_with rest (rest + 9) m.frame (meets.next (meets.bare m) made.found made.got).at (words_at layout b) < meets.cost_with rest (rest + 9) m.frame m.at (words_at layout a)
        = meet-falls (meet-made made m s.who has.0.meet has.0.own e move) rest (rest + 9) (omega arith) goes in
        let ends : cost_with rest (after_meet (meets.next (meets.bare m) made.found made.got)) (words_at layout b) ≤ meets.cost_with rest (rest + 9) m.frame (meets.next (meets.bare m) made.found made.got).at (words_at layout b)
        = meet-ends rest (words_at layout b) m (meets.next (meets.bare m) made.found made.got).at (lasts-on m made.found made.got has.0.cycle_is has.0.lasts) in
        omega (arith, less, ends)
    falls-at at.Kernel has e move goes = absurd (none-some made.step e)
    falls-at at.Already has e move goes = absurd (none-some made.step e)
    falls-at at.Grabbed has e move goes = absurd (none-some made.step e)
    falls-at at.Free has e move goes = absurd (none-some made.step e)
    falls-at (at.Owned page body) has e move goes = absurd (none-some made.step e)

    -- a turn that doesn't wait lowers the cost, whatever follows once the frame is seized
    pub seize-falls : is_waits turned ≡ false → cost_with rest t.at (words_at layout b) < cost_with rest s.at (words_at layout a)
    seize-falls goes = subst (λ (x : Seize). cost_with rest x.at (words_at layout b) < cost_with rest s.at (words_at layout a)) (sym made.follows.0) (falls-at s.at made.fits.at made.planned made.move (sym (ap is_waits made.follows.1) ∙ goes))

    -- ---- a turn that waits

    abbrev Waits : SeizeAt → SeizeAt → Type 0
    Waits x y = (cost_with rest y (words_at layout b) < cost_with rest x (words_at layout a)) ⊎ ((aborts_at y ≡ true) × OtherHand a seat)

    aborting : (g : Grab) (x : GrabAt) → grabs.aborts_at x ≡ true → aborts_at (after_grab (record g { at = x })) ≡ true
    aborting g grab_at.Unreserve is = refl
    aborting g grab_at.LoadAvailable is = absurd (both_ways true (sym is) refl)
    aborting g (grab_at.Reserve seen) is = absurd (both_ways true (sym is) refl)
    aborting g grab_at.TakeBit is = absurd (both_ways true (sym is) refl)
    aborting g grab_at.Adopt is = absurd (both_ways true (sym is) refl)
    aborting g grab_at.LookAgain is = absurd (both_ways true (sym is) refl)
    aborting g (grab_at.Grabbed word) is = absurd (both_ways true (sym is) refl)

    waits-at : (x : SeizeAt) → FitsAt layout (view_of a seat) s.who s.frame x → plan_at s.frame x ≡ Some made.step → Moves (put_at x) → is_waits (turn_at (bare_at x) made.found) ≡ true → Quiet (class_at x) layout a seat
        → Waits x (next_at s.who s.frame (bare_at x) made.found made.got)
    waits-at at.Look has e move waits quiet = absurd (both_ways true (sym waits) refl)
    waits-at (at.Grab g) has e move waits quiet = elim (grab-waits (grab-made made g s.who has.0.grab has.0.own e move) rest (rest + 9) few waits quiet.frames) [
      | inl less ↦
          let ends : cost_with rest (after_grab (grabs.next g made.found)) (words_at layout b) ≤ grabs.cost_with rest (rest + 9) g.frame (grabs.next_at g.frame g.at made.found) (words_at layout b) = grab-ends rest (words_at layout b) g (grabs.next_at g.frame g.at made.found) in
          inl (omega (arith, less, ends))
      | inr gives ↦ inr (aborting g (grabs.next_at g.frame g.at made.found) gives.0, gives.1)
    ]
    waits-at (at.Meet m) has e move waits quiet = absurd (never-waits (meet-made made m s.who has.0.meet has.0.own e move) waits (class_at (at.Meet m)) (omega arith) quiet)
    waits-at at.Kernel has e move waits quiet = absurd (none-some made.step e)
    waits-at at.Already has e move waits quiet = absurd (none-some made.step e)
    waits-at at.Grabbed has e move waits quiet = absurd (none-some made.step e)
    waits-at at.Free has e move waits quiet = absurd (none-some made.step e)
    waits-at (at.Owned page body) has e move waits quiet = absurd (none-some made.step e)

    pub seize-waits : is_waits turned ≡ true → Quiet (class s) layout a seat → (cost_with rest t.at (words_at layout b) < cost_with rest s.at (words_at layout a)) ⊎ ((aborts t ≡ true) × OtherHand a seat)
    seize-waits waits quiet = subst (λ (x : Seize). Waits s.at x.at) (sym made.follows.0) (waits-at s.at made.fits.at made.planned made.move (sym (ap is_waits made.follows.1) ∙ waits) quiet)

-- ---- classes, bounds

pub seize-class : (s : Seize) → (1 ≤ class s) × (class s ≤ 4)
seize-class s = which s.at
  where
    which : (x : SeizeAt) → (1 ≤ class_at x) × (class_at x ≤ 4)
    which at.Look = (omega arith, omega arith)
    which (at.Grab g) = class-within g
    which (at.Meet m) = meet-class m
    which at.Kernel = (omega arith, omega arith)
    which at.Already = (omega arith, omega arith)
    which at.Grabbed = (omega arith, omega arith)
    which at.Free = (omega arith, omega arith)
    which (at.Owned page body) = (omega arith, omega arith)

pub seize-small : (rest : ℕ) (x : SeizeAt) (w : Words) → cost_with rest x w ≤ rest + rest + seize_most
seize-small rest x w = which x
  where
    which : (x : SeizeAt) → cost_with rest x w ≤ rest + rest + seize_most
    which at.Look = omega arith
    which (at.Grab g) = let small : grabs.cost_with rest (rest + 9) g.frame g.at w ≤ rest + (rest + 9) + grabs.grab_most = grab-small rest (rest + 9) g w in omega (arith, small)
    which (at.Meet m) = let small : meets.cost_with rest (rest + 9) m.frame m.at w ≤ rest + 9 + meets.meet_most = meet-small rest (rest + 9) (rest + 9) (omega arith) (omega arith) m.frame m.at w in omega (arith, small)
    which at.Kernel = omega arith
    which at.Already = omega arith
    which at.Grabbed = omega arith
    which at.Free = omega arith
    which (at.Owned page body) = omega arith

-- once the reservation is given back, the frame's word is looked at again
pub seize-leaves : (s : Seize) (found : ℕ) (got : Option BodyValue) → aborts s ≡ true → class (next (bare s) found got) ≡ 4
seize-leaves s found got is = which s.at is
  where
    which : (x : SeizeAt) → aborts_at x ≡ true → class_at (next_at s.who s.frame (bare_at x) found got) ≡ 4
    which (at.Grab g) is = ap (λ (x : GrabAt). class_at (after_grab_by (grabs.next g found) (grabs.answer_at x))) (grab-leaves g found is)
    which at.Look is = absurd (both_ways true (sym is) refl)
    which (at.Meet m) is = absurd (both_ways true (sym is) refl)
    which at.Kernel is = absurd (both_ways true (sym is) refl)
    which at.Already is = absurd (both_ways true (sym is) refl)
    which at.Grabbed is = absurd (both_ways true (sym is) refl)
    which at.Free is = absurd (both_ways true (sym is) refl)
    which (at.Owned page body) is = absurd (both_ways true (sym is) refl)

-- none of its steps poisons a frame or takes its poison back
pub seize-mild : (s : Seize) (step : Step) → plan s ≡ Some step → IsMild step
seize-mild s step is = which s.at is
  where
    which : (x : SeizeAt) → plan_at s.frame x ≡ Some step → IsMild step
    which at.Look e = subst IsMild (same_Some (steps.Load (places.Frame s.frame)) step e) tt
    which (at.Grab g) e = mild g step e
    which (at.Meet m) e = meet-mild m step e
    which at.Kernel e = absurd (none-some step e)
    which at.Already e = absurd (none-some step e)
    which at.Grabbed e = absurd (none-some step e)
    which at.Free e = absurd (none-some step e)
    which (at.Owned page body) e = absurd (none-some step e)

pub seize-ranked : IsRanked seize-task
seize-ranked = record {
  classes = seize-class;
  small = λ layout a seat s rule fits. let few : cost s (words_at layout a) ≤ 0 + 0 + seize_most = seize-small 0 s.at (words_at layout a) in omega (arith, few);
  falls = λ layout seat a b s t turn made goes. inl (seize-falls made 0 (omega arith) goes);
  waits = λ layout seat a b s t turn made is quiet. seize-waits made 0 (omega arith) is quiet;
  leaves = λ layout seat a b s t turn made aborts. inr (subst (λ (x : Seize). 1 < class x) (sym made.follows.0) (let four : class (next (bare s) made.found made.got) ≡ 4 = seize-leaves s made.found made.got aborts in omega (arith, four)));
  owns = λ layout seat a b s t turn frame cycle made going pending. inr (
    pending-kept made (seize-mild s made.step made.planned) frame cycle pending,
    λ claimed. none-some (frame, cycle) claimed,
  );
}
