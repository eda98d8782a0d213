-- The cost of more references falls.
use Rattle.std.proofs.Common.{◌≡◌, ℕ, ◌+◌, ◌*◌, ◌%◌, ◌^◌, ◌<◌, ◌≤◌, ◌==◌, Bool, true, false, cond, Some, slice_index, refl, sym, ap, ◌∙◌, subst, arith}
use Rattle.std.proofs.lemmas.Bool.{both_ways}
use Rattle.std.proofs.lemmas.Option.{none-some, same_Some}
use Rattle.hwp_core_rule.specs.hwp_geom.declared.Frame.{Frame}
use Rattle.hwp_core_rule.specs.declared.SharedWord.TheVariants as places
use Rattle.hwp_core_rule.specs.declared.Step.{Step}
use Rattle.hwp_core_rule.specs.declared.Step.TheVariants as steps
use Rattle.hwp_core_rule.specs.Lasting.{IsMild}
use Rattle.hwp_core_rule.specs.Steps.{place_of, word_after}
use Rattle.hwp_core_rule.specs.Words.{Words, read}
use Rattle.hwp_core_rule.proofs.Lists.{same-number}
use Rattle.hwp_core_rule.specs.declared.Turn.TheVariants.{Moved, Changed}
use Rattle.hwp_core_rule.specs.Ranks.{IsRanked, is_waits, stale, stale_weight, words_at}
use Rattle.hwp_core_rule.proofs.tasks.StepRanks.{met, words-kept, rank-of}
use Rattle.hwp_core.specs.declared.refer.Refer.{Refer}
use Rattle.hwp_core.specs.declared.refer.ReferAt.{ReferAt}
use Rattle.hwp_core.specs.declared.refer.ReferAt.TheVariants as refer_at
use Rattle.hwp_core.specs.Refers as refers
use Rattle.hwp_core.proofs.TaskCosts.{met-own, left-own, stale-most}

-- a word just shown isn't stale
fresh : (frame : Frame) (found : ℕ) (w now : Words) → slice_index w.frames frame.0 ≡ found → now ≡ w → refers.cost_at frame (refer_at.Get found) now ≤ 1
fresh frame found w now met same =
    let word : slice_index now.frames frame.0 ≡ found = ap (λ (x : Words). slice_index x.frames frame.0) same ∙ met in
    let none : stale (slice_index now.frames frame.0 == found) ≡ 0 = ap stale (same-number (slice_index now.frames frame.0) found word) in
    omega arith

pub refer-falls : (w now : Words) (r : Refer) (step : Step) (found : ℕ) → refers.plan r ≡ Some step → read (place_of step) w ≡ found → (word_after step found ≡ found → now ≡ w) → refers.cost (refers.next r found) now < refers.cost r w
refer-falls w now r step found is met kept = which r.at is
  where
    which : (x : ReferAt) → refers.plan_at r.frame r.count x ≡ Some step → refers.cost_at r.frame (refers.next_at x found) now < refers.cost_at r.frame x w
    which refer_at.Load e = let few : refers.cost_at r.frame (refer_at.Get found) now ≤ 1 = fresh r.frame found w now (met-own w found e met) (left-own w now found e kept refl) in omega arith
    which (refer_at.Get seen) e = by (found == seen) refl
      where
        by : (b : Bool) → (found == seen) ≡ b → refers.cost_at r.frame (cond b refer_at.Over (refer_at.Get found)) now < 1 + stale (slice_index w.frames r.frame.0 == seen)
        by true same = omega arith
        by false other =
            let there : slice_index w.frames r.frame.0 ≡ found = met-own w found e met in
            let few : refers.cost_at r.frame (refer_at.Get found) now ≤ 1 = fresh r.frame found w now there (left-own w now found e kept (ap (λ (b : Bool). cond b ((seen + r.count * 16) % 2 ^ 64) found) other)) in
            let costly : stale (slice_index w.frames r.frame.0 == seen) ≡ stale_weight = ap (λ (n : ℕ). stale (n == seen)) there ∙ ap stale other in
            omega arith
    which refer_at.Over e = absurd (none-some step e)

pub refer-small : (w : Words) (r : Refer) → refers.cost r w ≤ stale_weight + 1
refer-small w r = which r.at
  where
    which : (x : ReferAt) → refers.cost_at r.frame x w ≤ stale_weight + 1
    which refer_at.Load = omega arith
    which (refer_at.Get seen) = let most : stale (slice_index w.frames r.frame.0 == seen) ≤ stale_weight = stale-most (slice_index w.frames r.frame.0 == seen) in omega arith
    which refer_at.Over = omega arith

pub refer-goes : (r : Refer) (found : ℕ) → is_waits (refers.turn r found) ≡ false
refer-goes r found = which r.at
  where
    by : (b : Bool) → is_waits (cond b Moved (Changed found)) ≡ false
    by true = refl
    by false = refl

    which : (x : ReferAt) → is_waits (refers.turn_at x found) ≡ false
    which refer_at.Load = refl
    which (refer_at.Get seen) = by (found == seen)
    which refer_at.Over = refl

-- none of its steps poisons a frame or takes its poison back
pub refer-mild : (s : Refer) (step : Step) → refers.plan s ≡ Some step → IsMild step
refer-mild s step is = which s.at is
  where
    which : (x : ReferAt) → refers.plan_at s.frame s.count x ≡ Some step → IsMild step
    which refer_at.Load e = subst IsMild (same_Some (steps.Load (places.Frame s.frame)) step e) tt
    which (refer_at.Get seen) e = subst IsMild (same_Some (steps.GetRef s.frame seen s.count) step e) tt
    which refer_at.Over e = absurd (none-some step e)

pub refer-ranked : IsRanked refers.task
refer-ranked = rank-of refers.task (λ s. refl) (λ s. (omega arith, omega arith)) (λ layout a seat s rule fits. let few : refers.cost s (words_at layout a) ≤ stale_weight + 1 = refer-small (words_at layout a) s in omega arith)
    (λ layout seat a b s t turn made goes. subst (λ (x : Refer). refers.cost x (words_at layout b) < refers.cost s (words_at layout a)) (sym made.follows.0)
    (refer-falls (words_at layout a) (words_at layout b) s made.step made.found made.planned (met made) (words-kept made)))
    (λ layout seat a b s t turn made is quiet. absurd (both_ways true (sym is ∙ ap is_waits made.follows.1 ∙ refer-goes s made.found) refl))
    (λ s. refl) refer-mild
