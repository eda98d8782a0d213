-- The cost of a take falls.
use Rattle.std.proofs.Common.{◌≡◌, ℕ, ◌+◌, ◌-◌, ◌/◌, ◌<◌, ◌≤◌, ◌==◌, ◌⊎◌, inl, inr, nat_lt, Bool, true, false, not, cond, Some, None, length, slice_index, refl, sym, ap, ◌∙◌, subst, arith}
use Rattle.std.proofs.lemmas.Bool.{both_ways, eqb-true, eqb-false, ne_eqb, ltb-false}
use Rattle.std.proofs.lemmas.Option.{none-some, same_Some}
use Rattle.hwp_core.specs.hwp_geom.declared.Frame.{Frame}
use Rattle.hwp_core.specs.hwp_geom.declared.Layout.{Layout}
use Rattle.hwp_core.specs.hwp_geom.Limits.{frame_limit}
use Rattle.hwp_core.specs.hwp_words.Frames.{is_poisoned}
use Rattle.hwp_core.specs.hwp_core_rule.declared.SharedWord.TheVariants as places
use Rattle.hwp_core.specs.hwp_core_rule.declared.State.{State}
use Rattle.hwp_core.specs.hwp_core_rule.declared.Step.{Step}
use Rattle.hwp_core.specs.hwp_core_rule.declared.Step.TheVariants as steps
use Rattle.hwp_core.specs.hwp_core_rule.declared.View.{View}
use Rattle.hwp_core.specs.hwp_core_rule.Rule.{Holds}
use Rattle.hwp_core.specs.hwp_core_rule.Lasting.{IsMild}
use Rattle.hwp_core.specs.hwp_core_rule.Words.{Words, free_words, free_bit}
use Rattle.hwp_core.proofs.of_hwp_core_rule.Lists.{same-number}
use Rattle.hwp_core.specs.hwp_core_rule.declared.Turn.{Turn}
use Rattle.hwp_core.specs.hwp_core_rule.declared.Turn.TheVariants.{Moved, Changed}
use Rattle.hwp_core.specs.hwp_core_rule.Boards.{view_of}
use Rattle.hwp_core.specs.hwp_core_rule.Ranks.{CostFalls, HasFailed, IsRanked, Made, free_room, is_waits, stale, stale_weight, take_most, words_at}
use Rattle.hwp_core.proofs.of_hwp_core_rule.tasks.StepRanks.{words-after, retire-fails, failed, rank-failing}
use Rattle.hwp_core.proofs.FreeWords.{all_zero, frees-length, some-free, some-reserved, shown, lowest-shown, none-cleared, zero-on, not-zero, zero-past}
use Rattle.hwp_core.proofs.TaskCosts.{stale-most}
use Rattle.hwp_evict.specs.declared.take.Take.{Take}
use Rattle.hwp_evict.specs.declared.take.TakeAt.{TakeAt}
use Rattle.hwp_evict.specs.declared.take.TakeAt.TheVariants as take_at
use Rattle.hwp_evict.specs.Takes.{at_available, after_word, lowest_free, has_bit, plan, plan_at, next, next_at, turn, turn_at, Fits, FitsAt, class, class_at, are_empty, cost, cost_at, task as take-task}
use Rattle.hwp_evict.proofs.StepWords.{IsMet, words_then, is-met, read-met, words-stay}

-- the step retires a frame
abbrev pub Retires : Step → Type 0
Retires step = (frame : Frame) × (Some (steps.Retire frame) ≡ Some step)

-- the cost after a number of available frames that is still so
number-cost : (w : Words) (found : ℕ) (none : Bool) → w.available ≡ found → cost_at (length w.frees) (cond none (take_at.Over None) (take_at.Reserve found)) w ≤ length w.frees + 5
number-cost w found true met = omega arith
number-cost w found false met = let same : stale (w.available == found) ≡ 0 = ap stale (same-number w.available found met) in omega arith

-- a step that leaves all words
kept : (u v : Words) (t : TakeAt) (bound : ℕ) → u ≡ v → cost_at (length v.frees) t v < bound → cost_at (length u.frees) t u < bound
kept u v t bound same less = subst (λ (w : Words). cost_at (length w.frees) t w < bound) (sym same) less

module _ (layout : Layout) (a : State) (seat : ℕ) (view : View) (found : ℕ) where
  abbrev w : Words
  w = words_at layout a

  abbrev n : ℕ
  n = length w.frees

  few-words : Holds layout a → (n ≡ free_words layout) × (n ≤ free_room)
  few-words rule =
      let all : n ≡ free_words layout = frees-length layout a rule in
      let few : layout.frames ≤ frame_limit = rule.sound.frames in
      (all, omega (arith, all, few))

  available-falls : IsMet layout a seat view (steps.Load places.Available) found → cost_at (length (words_then layout a (steps.Load places.Available) found).frees) (at_available found) (words_then layout a (steps.Load places.Available) found) < n + 6
  available-falls on = kept _ w (at_available found) (n + 6) (words-stay on refl) (let few : cost_at n (at_available found) w ≤ n + 5 = number-cost w found (found == 0) (read-met on) in omega arith)

  reserve-falls : (seen : ℕ) → 0 < seen → IsMet layout a seat view (steps.Reserve seen) found
      → cost_at (length (words_then layout a (steps.Reserve seen) found).frees) (cond (found == seen) (take_at.LoadFree 0) (at_available found)) (words_then layout a (steps.Reserve seen) found) < n + 5 + stale (w.available == seen)
  reserve-falls seen some on = by (found == seen) refl
    where
      by : (b : Bool) → (found == seen) ≡ b
          → cost_at (length (words_then layout a (steps.Reserve seen) found).frees) (cond b (take_at.LoadFree 0) (at_available found)) (words_then layout a (steps.Reserve seen) found) < n + 5 + stale (w.available == seen)
      by true went =
          let word : w.available ≡ seen = read-met on ∙ eqb-true found seen went in
          let left : all_zero w.frees ≡ false = some-free layout a on.rule (omega (arith, word, some)) in
          let fresh : stale (not (all_zero w.frees)) ≡ 0 = ap (λ (b : Bool). stale (not b)) left in
          omega arith
      by false other =
          let costly : stale (w.available == seen) ≡ stale_weight = ap (λ (m : ℕ). stale (m == seen)) (read-met on) ∙ ap stale other in
          kept _ w (at_available found) (n + 5 + stale (w.available == seen)) (words-stay on (ap (λ (b : Bool). cond b (seen - 1) found) other))
          (let few : cost_at n (at_available found) w ≤ n + 5 = number-cost w found (found == 0) (read-met on) in omega arith)

  scan-falls : (number : ℕ) → number < free_words layout → 0 < view.reserved → IsMet layout a seat view (steps.Load (places.Free number)) found
      → cost_at (length (words_then layout a (steps.Load (places.Free number)) found).frees) (cond (found == 0) (take_at.LoadFree (after_word layout number)) (take_at.TakeBit (lowest_free number found)))
      (words_then layout a (steps.Load (places.Free number)) found) < n - number + 3 + stale (not (are_empty number w))
  scan-falls number inside some on = kept _ w (cond (found == 0) (take_at.LoadFree (after_word layout number)) (take_at.TakeBit (lowest_free number found))) _ (words-stay on refl) (by (found == 0) refl)
    where
      few : (n ≡ free_words layout) × (n ≤ free_room)
      few = few-words on.rule

      here : slice_index w.frees number ≡ found
      here = shown layout a on.rule number found inside on.met

      within : number < n
      within = subst (λ (m : ℕ). number < m) (sym few.0) inside

      round : (less : Bool) → nat_lt (number + 1) (free_words layout) ≡ less → are_empty number w ≡ are_empty (number + 1) w
          → cost_at n (take_at.LoadFree (cond less (number + 1) 0)) w < n - number + 3 + stale (not (are_empty number w))
      round true less past =
          let same : stale (not (are_empty number w)) ≡ stale (not (are_empty (number + 1) w)) = ap (λ (b : Bool). stale (not b)) past in
          let inside : number < n = within in
          omega (arith, same, inside)
      round false last past =
          let left : all_zero w.frees ≡ false = some-reserved layout a on.rule seat view on.me some in
          let fresh : stale (not (all_zero w.frees)) ≡ 0 = ap (λ (b : Bool). stale (not b)) left in
          let all : n ≡ free_words layout = few.0 in
          let end : free_words layout ≤ number + 1 = ltb-false (number + 1) (free_words layout) last in
          let none : are_empty (number + 1) w ≡ true = zero-past w.frees (number + 1) (omega (arith, all, end)) in
          let costly : stale (not (are_empty number w)) ≡ stale_weight = ap (λ (b : Bool). stale (not b)) (past ∙ none) in
          let small : n ≤ free_room = few.1 in
          omega (arith, fresh, costly, small)

      by : (none : Bool) → (found == 0) ≡ none → cost_at n (cond none (take_at.LoadFree (after_word layout number)) (take_at.TakeBit (lowest_free number found))) w < n - number + 3 + stale (not (are_empty number w))
      by true none = round (nat_lt (number + 1) (free_words layout)) refl (zero-on w.frees number within (here ∙ eqb-true found 0 none))
      by false other =
          let lowest = lowest-shown layout a on.rule number found inside on.met (omega (arith, eqb-false found 0 other)) on.fits in
          let bit : stale (free_bit w.frees (lowest_free number found).0 == 1) ≡ 0 = ap (λ (m : ℕ). stale (m == 1)) lowest.2 in
          let word : stale (not (are_empty ((lowest_free number found).0 / 64) w)) ≡ 0 = ap (λ (m : ℕ). stale (not (are_empty m w))) lowest.1 ∙ ap (λ (b : Bool). stale (not b)) (not-zero w.frees number within (λ e. eqb-false found 0 other (sym here ∙ e))) in
          let inside : number < n = within in
          omega (arith, bit, word, inside)

  bit-falls : (frame : Frame) → frame.0 < layout.frames → IsMet layout a seat view (steps.TakeBit frame) found
      → cost_at (length (words_then layout a (steps.TakeBit frame) found).frees) (cond (has_bit frame found) (take_at.Adopt frame) (take_at.LoadFree (frame.0 / 64))) (words_then layout a (steps.TakeBit frame) found)
      < 3 + stale (free_bit w.frees frame.0 == 1) + stale (not (are_empty (frame.0 / 64) w))
  bit-falls frame inside on = by (has_bit frame found) refl
    where
      by : (b : Bool) → has_bit frame found ≡ b
          → cost_at (length (words_then layout a (steps.TakeBit frame) found).frees) (cond b (take_at.Adopt frame) (take_at.LoadFree (frame.0 / 64))) (words_then layout a (steps.TakeBit frame) found)
          < 3 + stale (free_bit w.frees frame.0 == 1) + stale (not (are_empty (frame.0 / 64) w))
      by true went = omega arith
      by false lost =
          let none = none-cleared layout a on.rule frame found inside on.met on.fits lost in
          let costly : stale (free_bit w.frees frame.0 == 1) ≡ stale_weight = ap stale (ne_eqb (free_bit w.frees frame.0) 1 none.0) in
          let small : n ≤ free_room = (few-words on.rule).1 in
          kept _ w (take_at.LoadFree (frame.0 / 64)) (3 + stale (free_bit w.frees frame.0 == 1) + stale (not (are_empty (frame.0 / 64) w))) none.1 (omega (arith, costly, small))

  adopted-falls : (frame : Frame) (poisoned : Bool) (now : Words) → cost_at (length now.frees) (cond poisoned (take_at.Retire frame) (take_at.Over (Some frame))) now < 2
  adopted-falls frame true now = omega arith
  adopted-falls frame false now = omega arith

  -- a turn lowers the cost, but for that in which a poisoned frame is retired
  pub falls : (t : Take) (step : Step) → IsMet layout a seat view step found → Fits layout view t → plan t ≡ Some step → (cost (next layout t found) (words_then layout a step found) < cost t (words_at layout a)) ⊎ Retires step
  falls t step on fits is = which t.at fits.at is
    where
      at-step : (other : Step) → Some other ≡ Some step → (bound : ℕ) (x : TakeAt) → (IsMet layout a seat view other found → cost_at (length (words_then layout a other found).frees) x (words_then layout a other found) < bound)
          → cost_at (length (words_then layout a step found).frees) x (words_then layout a step found) < bound
      at-step other e bound x less = subst (λ (s : Step). cost_at (length (words_then layout a s found).frees) x (words_then layout a s found) < bound) (same_Some other step e)
          (less (subst (λ (s : Step). IsMet layout a seat view s found) (sym (same_Some other step e)) on))

      which : (x : TakeAt) → FitsAt layout view t.who x → plan_at x ≡ Some step → (cost_at (length (words_then layout a step found).frees) (next_at layout x found) (words_then layout a step found) < cost_at n x w) ⊎ Retires step
      which take_at.LoadAvailable fit e = inl (at-step (steps.Load places.Available) e _ _ available-falls)
      which (take_at.Reserve seen) fit e = inl (at-step (steps.Reserve seen) e _ _ (reserve-falls seen fit.0))
      which (take_at.LoadFree number) fit e = inl (at-step (steps.Load (places.Free number)) e _ _ (scan-falls number fit.0 fit.1.0))
      which (take_at.TakeBit frame) fit e = inl (at-step (steps.TakeBit frame) e _ _ (bit-falls frame fit.0))
      which (take_at.Adopt frame) fit e = inl (adopted-falls frame (is_poisoned found) (words_then layout a step found))
      which (take_at.Retire frame) fit e = inr (frame, e)
      which (take_at.Over frame) fit e = absurd (none-some step e)

-- costs are small
pub small : (layout : Layout) (a : State) (t : Take) → Holds layout a → cost t (words_at layout a) ≤ take_most
small layout a t rule = which t.at
  where
    few : length (words_at layout a).frees ≤ free_room
    few = let all : length (words_at layout a).frees ≡ free_words layout = frees-length layout a rule in let most : layout.frames ≤ frame_limit = rule.sound.frames in omega (arith, all, most)

    which : (x : TakeAt) → cost_at (length (words_at layout a).frees) x (words_at layout a) ≤ take_most
    which take_at.LoadAvailable = omega (arith, few)
    which (take_at.Reserve seen) = let most : stale ((words_at layout a).available == seen) ≤ stale_weight = stale-most ((words_at layout a).available == seen) in omega (arith, few, most)
    which (take_at.LoadFree number) = let most : stale (not (are_empty number (words_at layout a))) ≤ stale_weight = stale-most (not (are_empty number (words_at layout a))) in omega (arith, few, most)
    which (take_at.TakeBit frame) =
        let one : stale (free_bit (words_at layout a).frees frame.0 == 1) ≤ stale_weight = stale-most (free_bit (words_at layout a).frees frame.0 == 1) in
        let two : stale (not (are_empty (frame.0 / 64) (words_at layout a))) ≤ stale_weight = stale-most (not (are_empty (frame.0 / 64) (words_at layout a))) in
        omega (arith, one, two)
    which (take_at.Adopt frame) = omega arith
    which (take_at.Retire frame) = omega arith
    which (take_at.Over frame) = omega arith

class-within : (t : Take) → (1 ≤ class t) × (class t ≤ 4)
class-within t = which t.at
  where
    which : (x : TakeAt) → (1 ≤ class_at x) × (class_at x ≤ 4)
    which take_at.LoadAvailable = (omega arith, omega arith)
    which (take_at.Reserve seen) = (omega arith, omega arith)
    which (take_at.LoadFree number) = (omega arith, omega arith)
    which (take_at.TakeBit frame) = (omega arith, omega arith)
    which (take_at.Adopt frame) = (omega arith, omega arith)
    which (take_at.Retire frame) = (omega arith, omega arith)
    which (take_at.Over None) = (omega arith, omega arith)
    which (take_at.Over (Some frame)) = (omega arith, omega arith)

-- it never waits
pub goes-on : (t : Take) (found : ℕ) → is_waits (turn t found) ≡ false
goes-on t found = which t.at
  where
    by : (b : Bool) → is_waits (cond b Moved (Changed found)) ≡ false
    by true = refl
    by false = refl

    which : (x : TakeAt) → is_waits (turn_at x found) ≡ false
    which take_at.LoadAvailable = refl
    which (take_at.Reserve seen) = by (found == seen)
    which (take_at.LoadFree number) = refl
    which (take_at.TakeBit frame) = by (has_bit frame found)
    which (take_at.Adopt frame) = refl
    which (take_at.Retire frame) = refl
    which (take_at.Over frame) = refl

-- none of its steps poisons a frame or takes its poison back
pub mild : (s : Take) (step : Step) → plan s ≡ Some step → IsMild step
mild s step is = which s.at is
  where
    which : (x : TakeAt) → plan_at x ≡ Some step → IsMild step
    which take_at.LoadAvailable e = subst IsMild (same_Some (steps.Load places.Available) step e) tt
    which (take_at.Reserve seen) e = subst IsMild (same_Some (steps.Reserve seen) step e) tt
    which (take_at.LoadFree number) e = subst IsMild (same_Some (steps.Load (places.Free number)) step e) tt
    which (take_at.TakeBit frame) e = subst IsMild (same_Some (steps.TakeBit frame) step e) tt
    which (take_at.Adopt frame) e = subst IsMild (same_Some (steps.Adopt frame) step e) tt
    which (take_at.Retire frame) e = subst IsMild (same_Some (steps.Retire frame) step e) tt
    which (take_at.Over frame) e = absurd (none-some step e)

module _ {layout : Layout} {seat : ℕ} {a b : State} {s t : Take} {turned : Turn} (made : Made take-task layout seat a b s t turned) where
  lowers : (cost (next layout s made.found) (words_then layout a made.step made.found) < cost s (words_at layout a)) ⊎ Retires made.step → CostFalls take-task layout a b s t ⊎ HasFailed take-task layout a b s t
  lowers (inl less) = inl (subst (λ (x : Take). cost x (words_at layout b) < cost s (words_at layout a)) (sym made.follows.0)
      (subst (λ (w : Words). cost (next layout s made.found) w < cost s (words_at layout a)) (sym (words-after made)) less))
  lowers (inr retires) = inr (failed (retire-fails made retires.0 retires.1) (let few : cost t (words_at layout b) ≤ take_most = small layout b t made.kept in omega (arith, few)))

pub ranked : IsRanked take-task
ranked = rank-failing take-task (λ s. refl) class-within (λ layout a seat s rule fits. let few : cost s (words_at layout a) ≤ take_most = small layout a s rule in omega arith)
    (λ layout seat a b s t turned made goes. lowers made (falls layout a seat (view_of a seat) made.found s made.step (is-met made) made.fits made.planned))
    (λ layout seat a b s t turned made is quiet. absurd (both_ways true (sym is ∙ ap is_waits made.follows.1 ∙ goes-on s made.found) refl))
    (λ s. refl) mild
