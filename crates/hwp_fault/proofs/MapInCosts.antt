-- The cost of a translation's coming into use falls.
use Rattle.std.proofs.Common.{◌≡◌, ℕ, ◌+◌, ◌<◌, ◌≤◌, true, false, Some, refl, sym, ap, ◌∙◌, subst, arith}
use Rattle.std.proofs.lemmas.Bool.{both_ways}
use Rattle.std.proofs.lemmas.Option.{none-some, same_Some}
use Rattle.hwp_core.specs.hwp_words.declared.Pte.TheVariants as ptes
use Rattle.hwp_core.specs.hwp_core_rule.declared.Step.{Step}
use Rattle.hwp_core.specs.hwp_core_rule.declared.Step.TheVariants as steps
use Rattle.hwp_core.specs.hwp_core_rule.Lasting.{IsMild}
use Rattle.hwp_core.specs.hwp_core_rule.Steps.{place_of, word_after}
use Rattle.hwp_core.specs.hwp_core_rule.Words.{Words, read}
use Rattle.hwp_core.specs.hwp_core_rule.Ranks.{IsRanked, is_waits, stale_weight, words_at}
use Rattle.hwp_core.proofs.of_hwp_core_rule.tasks.StepRanks.{met, words-kept, rank-of}
use Rattle.hwp_core.specs.declared.Refer.{Refer}
use Rattle.hwp_core.specs.declared.refer.ReferAt.{ReferAt}
use Rattle.hwp_core.specs.declared.refer.ReferAt.TheVariants as refer_at
use Rattle.hwp_core.specs.Refers as refers
use Rattle.hwp_core.proofs.ReferCosts.{refer-falls, refer-goes, refer-mild, refer-small}
use Rattle.hwp_fault.specs.declared.map_in.MapIn.{MapIn}
use Rattle.hwp_fault.specs.declared.map_in.MapInAt.{MapInAt}
use Rattle.hwp_fault.specs.declared.map_in.MapInAt.TheVariants as at
use Rattle.hwp_fault.specs.MapIns.{plan, plan_at, after_refer, next, next_at, turn, turn_at, cost, cost_at, task as map-in-task}

-- the state after the second reference costs one more than it
refer-cost : (r : Refer) (w : Words) → cost_at (after_refer r) w ≡ refers.cost r w + 1
refer-cost r w = which r.at
  where
    which : (x : ReferAt) → cost_at (after_refer (record r { at = x })) w ≡ refers.cost (record r { at = x }) w + 1
    which refer_at.Load = refl
    which (refer_at.Get seen) = refl
    which refer_at.Over = refl

pub map-in-falls : (w now : Words) (m : MapIn) (step : Step) (found : ℕ) → plan m ≡ Some step → read (place_of step) w ≡ found → (word_after step found ≡ found → now ≡ w) → cost (next m found) now < cost m w
map-in-falls w now m step found is met kept = which m.at is
  where
    which : (x : MapInAt) → plan_at m.slot m.frame x ≡ Some step → cost_at (next_at x found) now < cost_at x w
    which (at.Refer r) e =
        let less : refers.cost (refers.next r found) now < refers.cost r w = refer-falls w now r step found e met kept in
        let more : cost_at (after_refer (refers.next r found)) now ≡ refers.cost (refers.next r found) now + 1 = refer-cost (refers.next r found) now in
        omega (arith, less, more)
    which at.SetPte e = omega arith
    which at.Over e = absurd (none-some step e)

pub map-in-small : (w : Words) (m : MapIn) → cost m w ≤ stale_weight + 2
map-in-small w m = which m.at
  where
    which : (x : MapInAt) → cost_at x w ≤ stale_weight + 2
    which (at.Refer r) = let few : refers.cost r w ≤ stale_weight + 1 = refer-small w r in omega (arith, few)
    which at.SetPte = omega arith
    which at.Over = omega arith

-- it never waits
pub map-in-goes : (m : MapIn) (found : ℕ) → is_waits (turn m found) ≡ false
map-in-goes m found = which m.at
  where
    which : (x : MapInAt) → is_waits (turn_at x found) ≡ false
    which (at.Refer r) = refer-goes r found
    which at.SetPte = refl
    which at.Over = refl

-- none of its steps poisons a frame or takes its poison back
pub map-in-mild : (m : MapIn) (step : Step) → plan m ≡ Some step → IsMild step
map-in-mild m step is = which m.at is
  where
    which : (x : MapInAt) → plan_at m.slot m.frame x ≡ Some step → IsMild step
    which (at.Refer r) e = refer-mild r step e
    which at.SetPte e = subst IsMild (same_Some (steps.SetPte m.slot (ptes.At m.frame)) step e) tt
    which at.Over e = absurd (none-some step e)

pub map-in-ranked : IsRanked map-in-task
map-in-ranked = rank-of map-in-task (λ s. refl) (λ s. (omega arith, omega arith)) (λ layout a seat s rule fits. let few : cost s (words_at layout a) ≤ stale_weight + 2 = map-in-small (words_at layout a) s in omega arith)
    (λ layout seat a b s t turned made goes. subst (λ (x : MapIn). cost x (words_at layout b) < cost s (words_at layout a)) (sym made.follows.0)
    (map-in-falls (words_at layout a) (words_at layout b) s made.step made.found made.planned (met made) (words-kept made)))
    (λ layout seat a b s t turned made is quiet. absurd (both_ways true (sym is ∙ ap is_waits made.follows.1 ∙ map-in-goes s made.found) refl))
    (λ s. refl) map-in-mild
