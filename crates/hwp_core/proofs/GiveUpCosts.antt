-- The cost of a command given up falls.
use Rattle.std.proofs.Common.{◌≡◌, ℕ, ◌+◌, ◌<◌, ◌≤◌, Bool, true, false, cond, Some, is_none, refl, sym, ap, ◌∙◌, subst, arith}
use Rattle.std.proofs.lemmas.Bool.{both_ways}
use Rattle.std.proofs.lemmas.Option.{none-some, same_Some}
use Rattle.hwp_core_rule.specs.declared.Step.{Step}
use Rattle.hwp_core_rule.specs.declared.Step.TheVariants as steps
use Rattle.hwp_core_rule.specs.Lasting.{IsMild}
use Rattle.hwp_core_rule.specs.Words.{Words}
use Rattle.hwp_core_rule.specs.Ranks.{IsRanked, is_waits, words_at}
use Rattle.hwp_core_rule.proofs.tasks.StepRanks.{rank-of}
use Rattle.hwp_core.specs.declared.give_up.GiveUp.{GiveUp}
use Rattle.hwp_core.specs.declared.give_up.GiveUpAt.{GiveUpAt}
use Rattle.hwp_core.specs.declared.give_up.GiveUpAt.TheVariants as give_up_at
use Rattle.hwp_core.specs.declared.unhold.Unhold.{Unhold}
use Rattle.hwp_core.specs.declared.unlock.Unlock.{Unlock}
use Rattle.hwp_core.specs.GiveUps as give_ups
use Rattle.hwp_core.specs.Unholds as unholds
use Rattle.hwp_core.specs.Unlocks as unlocks
use Rattle.hwp_core.proofs.TaskCosts.{unhold-falls, unhold-small, unhold-class, unhold-mild}
use Rattle.hwp_core.proofs.UnlockLaws.{unlock-falls, unlock-small, unlock-class}
use Rattle.hwp_core.proofs.UnlockLaws as unlocking

give-up-unhold : (u : Unhold) (w : Words) → give_ups.cost_at (give_ups.after_unhold u) w ≤ unholds.cost u w + 1
give-up-unhold u w = by (is_none (unholds.plan u))
  where
    by : (over : Bool) → give_ups.cost_at (cond over give_up_at.GiveUp (give_up_at.Unhold u)) w ≤ unholds.cost u w + 1
    by true = omega arith
    by false = omega arith

give-up-unlock : (u : Unlock) (w : Words) → give_ups.cost_at (give_ups.after_unlock u) w ≤ unlocks.cost u w + 1
give-up-unlock u w = by (is_none (unlocks.plan u))
  where
    by : (over : Bool) → give_ups.cost_at (cond over give_up_at.GiveUp (give_up_at.Unlock u)) w ≤ unlocks.cost u w + 1
    by true = omega arith
    by false = omega arith

pub give-up-falls : (w now : Words) (g : GiveUp) (step : Step) (found : ℕ) → give_ups.plan g ≡ Some step → give_ups.cost (give_ups.next (give_ups.bare g) found) now < give_ups.cost g w
give-up-falls w now g step found is = which g.at is
  where
    which : (x : GiveUpAt) → give_ups.plan_at x ≡ Some step → give_ups.cost_at (give_ups.next_at (give_ups.bare_at x) found) now < give_ups.cost_at x w
    which (give_up_at.Unhold u) e =
        let less : unholds.cost (unholds.next (unholds.bare u) found) now < unholds.cost u w = unhold-falls w now u step found e in
        let more : give_ups.cost_at (give_ups.after_unhold (unholds.next (unholds.bare u) found)) now ≤ unholds.cost (unholds.next (unholds.bare u) found) now + 1 = give-up-unhold (unholds.next (unholds.bare u) found) now in
        omega (arith, less, more)
    which (give_up_at.Unlock u) e =
        let less : unlocks.cost (unlocks.next (unlocks.bare u) found) now < unlocks.cost u w = unlock-falls w now u step found e in
        let more : give_ups.cost_at (give_ups.after_unlock (unlocks.next (unlocks.bare u) found)) now ≤ unlocks.cost (unlocks.next (unlocks.bare u) found) now + 1 = give-up-unlock (unlocks.next (unlocks.bare u) found) now in
        omega (arith, less, more)
    which give_up_at.GiveUp e = omega arith
    which give_up_at.Over e = absurd (none-some step e)

pub give-up-small : (w : Words) (g : GiveUp) → give_ups.cost g w ≤ 6
give-up-small w g = which g.at
  where
    which : (x : GiveUpAt) → give_ups.cost_at x w ≤ 6
    which (give_up_at.Unhold u) = let few : unholds.cost u w ≤ 5 = unhold-small w u in omega (arith, few)
    which (give_up_at.Unlock u) = let few : unlocks.cost u w ≤ 4 = unlock-small w u in omega (arith, few)
    which give_up_at.GiveUp = omega arith
    which give_up_at.Over = omega arith

give-up-class : (g : GiveUp) → (1 ≤ give_ups.class g) × (give_ups.class g ≤ 4)
give-up-class g = which g.at
  where
    which : (x : GiveUpAt) → (1 ≤ give_ups.class_at x) × (give_ups.class_at x ≤ 4)
    which (give_up_at.Unhold u) = unhold-class u
    which (give_up_at.Unlock u) = unlock-class u
    which give_up_at.GiveUp = (omega arith, omega arith)
    which give_up_at.Over = (omega arith, omega arith)

pub give-up-goes : (g : GiveUp) → is_waits (give_ups.turn g) ≡ false
give-up-goes g = which g.at
  where
    which : (x : GiveUpAt) → is_waits (give_ups.turn_at x) ≡ false
    which (give_up_at.Unhold u) = refl
    which (give_up_at.Unlock u) = refl
    which give_up_at.GiveUp = refl
    which give_up_at.Over = refl

-- none of its steps poisons a frame or takes its poison back
pub give-up-mild : (s : GiveUp) (step : Step) → give_ups.plan s ≡ Some step → IsMild step
give-up-mild s step is = which s.at is
  where
    which : (x : GiveUpAt) → give_ups.plan_at x ≡ Some step → IsMild step
    which (give_up_at.Unhold u) e = unhold-mild u step e
    which (give_up_at.Unlock u) e = unlocking.mild u step e
    which give_up_at.GiveUp e = subst IsMild (same_Some (steps.GiveUp) step e) tt
    which give_up_at.Over e = absurd (none-some step e)

pub give-up-ranked : IsRanked give_ups.task
give-up-ranked = rank-of give_ups.task (λ s. refl) give-up-class (λ layout a seat s rule fits. let few : give_ups.cost s (words_at layout a) ≤ 6 = give-up-small (words_at layout a) s in omega arith)
    (λ layout seat a b s t turn made goes. subst (λ (x : GiveUp). give_ups.cost x (words_at layout b) < give_ups.cost s (words_at layout a)) (sym made.follows.0)
    (give-up-falls (words_at layout a) (words_at layout b) s made.step made.found made.planned))
    (λ layout seat a b s t turn made is quiet. absurd (both_ways true (sym is ∙ ap is_waits made.follows.1 ∙ give-up-goes (give_ups.bare s)) refl))
    (λ s. refl) give-up-mild
