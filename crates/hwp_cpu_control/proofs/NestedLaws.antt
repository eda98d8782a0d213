-- The laws of `Nested`.
use Rattle.std.proofs.Common.{◌≡◌, ℕ, ◌<◌, ◌≤◌, ◌==◌, Bool, true, false, cond, Option, Some, None, refl, sym, ap, ◌∙◌, subst, arith}
use Rattle.std.proofs.lemmas.Bool.{both_ways}
use Rattle.std.proofs.lemmas.Option.{none-some, same_Some}
use Rattle.hwp_core_rule.specs.hwp_geom.declared.Layout.{Layout}
use Rattle.hwp_core_rule.specs.hwp_page.History.{BodyValue}
use Rattle.hwp_core_rule.specs.hwp_words.Stops.{is_stopped}
use Rattle.hwp_core_rule.specs.declared.SharedWord.TheVariants as places
use Rattle.hwp_core_rule.specs.declared.Step.{Step}
use Rattle.hwp_core_rule.specs.declared.Step.TheVariants as steps
use Rattle.hwp_core_rule.specs.declared.View.{View}
use Rattle.hwp_core_rule.specs.Lasting.{IsMild}
use Rattle.hwp_core_rule.specs.declared.Turn.{Turn}
use Rattle.hwp_core_rule.specs.declared.Turn.TheVariants.{Moved, Changed, NoMemory}
use Rattle.hwp_core_rule.specs.Calls.{CanMake, Steps}
use Rattle.hwp_core_rule.specs.Ranks.{IsRanked, is_waits}
use Rattle.hwp_core_rule.proofs.tasks.StepRanks.{rank-of}
use Rattle.hwp_core_rule.proofs.tasks.StepLeaves.{can-make, hand-planned, on-turn-after, steps-planned}
use Rattle.hwp_core_rule.specs.Classes.{TellsClass}
use Rattle.hwp_core_rule.proofs.tasks.MadeEntries.{deeds-same}
use Rattle.hwp_core_rule.proofs.tasks.SightKeeps.{saw-stopped, stop-listed}
use Rattle.hwp_cpu_control.specs.declared.nested.Nested.{Nested}
use Rattle.hwp_cpu_control.specs.declared.nested.NestedAt.{NestedAt}
use Rattle.hwp_cpu_control.specs.declared.nested.NestedAt.TheVariants as at
use Rattle.hwp_cpu_control.specs.declared.nested.NestedAnswer.TheVariants as answers
use Rattle.hwp_cpu_control.specs.Nesteds.{plan, plan_at, next, next_at, turn, turn_at, Fits, FitsAt, cost, cost_at, task}
use Rattle.hwp_cpu_control.proofs.EmptyHands.{no-frame, no-page, saw-stop}

pub can : (layout : Layout) (view : View) (n : Nested) (step : Step) → Fits layout view n → plan n ≡ Some step → CanMake layout n.who step None view
can layout view n step fits is = which n.at is
  where
    which : (x : NestedAt) → plan_at n.who x ≡ Some step → CanMake layout n.who step None view
    which at.LoadStop e = can-make fits.on_turn e tt tt
    which at.Stop e = can-make fits.on_turn e tt refl
    which (at.Over answer) e = absurd (none-some step e)

pub both : (layout : Layout) (old new : View) (n : Nested) (step : Step) (found : ℕ) (got : Option BodyValue) → Fits layout old n → plan n ≡ Some step → Steps layout n.who step None old new found got → Fits layout new (next n found)
both layout old new n step found got fits is made = which n.at is
  where
    which : (x : NestedAt) → plan_at n.who x ≡ Some step → Fits layout new (record n { at = next_at x found })
    which at.LoadStop e = record {
      on_turn = on-turn-after fits.on_turn made;
      hand_is = hand-planned made e fits.hand_is;
      made = deeds-same n.who tt (steps-planned e made) ∙ fits.made;
      at = by (is_stopped found) refl;
    }
      where
        by : (b : Bool) → is_stopped found ≡ b → FitsAt new n.who (cond b (at.Over (Some answers.Stopped)) at.Stop)
        by true is = saw-stop (steps-planned e made) is
        by false is = tt
    which at.Stop e = record {
      on_turn = on-turn-after fits.on_turn made;
      hand_is = hand-planned made e fits.hand_is;
      made = deeds-same n.who tt (steps-planned e made) ∙ fits.made;
      at = by (found == 0) refl (is_stopped found) refl;
    }
      where
        by : (b : Bool) → (found == 0) ≡ b → (c : Bool) → is_stopped found ≡ c → FitsAt new n.who (at.Over (cond b (Some answers.Shutdown) (cond c (Some answers.Stopped) None)))
        by true zero c is = stop-listed (steps-planned e made) zero
        by false other true is = saw-stopped (steps-planned e made) other is
        by false other false is = tt
    which (at.Over answer) e = absurd (none-some step e)

pub stays : (layout : Layout) (old new : View) (n : Nested) (step : Step) (found : ℕ) (got : Option BodyValue) → Fits layout old n → plan n ≡ Some step → Steps layout n.who step None old new found got
    → Unit {0} × ((after : Nested) (result : Turn) → (after ≡ next n found) × (result ≡ turn n found) → Fits layout new after × (after.who.cpu ≡ n.who.cpu))
stays layout old new n step found got fits is made =
    (tt, λ after result follows. (subst (Fits layout new) (sym follows.0) (both layout old new n step found got fits is made), ap (λ (x : Nested). x.who.cpu) follows.0))

pub falls : (n : Nested) (step : Step) (found : ℕ) → plan n ≡ Some step → cost (next n found) < cost n
falls n step found is = which n.at is
  where
    by : (b : Bool) → cost_at (cond b (at.Over (Some answers.Stopped)) at.Stop) < 2
    by true = omega arith
    by false = omega arith

    which : (x : NestedAt) → plan_at n.who x ≡ Some step → cost_at (next_at x found) < cost_at x
    which at.LoadStop e = by (is_stopped found)
    which at.Stop e = omega arith
    which (at.Over answer) e = absurd (none-some step e)

pub small : (n : Nested) → cost n ≤ 2
small n = which n.at
  where
    which : (x : NestedAt) → cost_at x ≤ 2
    which at.LoadStop = omega arith
    which at.Stop = omega arith
    which (at.Over answer) = omega arith

pub goes : (n : Nested) (found : ℕ) → is_waits (turn n found) ≡ false
goes n found = which n.at
  where
    by : (b c : Bool) → is_waits (cond b Moved (cond c (Changed found) NoMemory)) ≡ false
    by true c = refl
    by false true = refl
    by false false = refl

    which : (x : NestedAt) → is_waits (turn_at x found) ≡ false
    which at.LoadStop = refl
    which at.Stop = by (found == 0) (is_stopped found)
    which (at.Over answer) = refl

-- none of its steps poisons a frame or takes its poison back
pub mild : (s : Nested) (step : Step) → plan s ≡ Some step → IsMild step
mild s step is = which s.at is
  where
    which : (x : NestedAt) → plan_at s.who x ≡ Some step → IsMild step
    which at.LoadStop e = subst IsMild (same_Some (steps.Load places.Stop) step e) tt
    which at.Stop e = subst IsMild (same_Some (steps.Stop s.who.cpu) step e) tt
    which (at.Over answer) e = absurd (none-some step e)

pub ranked : IsRanked task
ranked = rank-of task (λ s. refl) (λ s. (omega arith, omega arith)) (λ layout a seat s rule fits. let few : cost s ≤ 2 = small s in omega arith)
    (λ layout seat a b s t turn made goes. subst (λ (x : Nested). cost x < cost s) (sym made.follows.0) (falls s made.step made.found made.planned))
    (λ layout seat a b s t turn made is quiet. absurd (both_ways true (sym is ∙ ap is_waits made.follows.1 ∙ goes s made.found) refl))
    (λ s. refl) mild

pub tells : TellsClass task
tells = record {
  frame = λ layout view s fits has. absurd (no-frame view fits.hand_is has);
  page = λ layout view s fits has. absurd (no-page view fits.hand_is has);
  claim = λ layout view s frame cycle fits claims. absurd (none-some _ claims);
}
