-- The laws of `ReadStop`.
use Rattle.std.proofs.Common.{◌≡◌, ℕ, ◌<◌, ◌≤◌, Bool, true, false, cond, Option, Some, None, refl, sym, ap, ◌∙◌, subst, arith}
use Rattle.std.proofs.lemmas.Bool.{both_ways}
use Rattle.std.proofs.lemmas.Option.{none-some, same_Some}
use Rattle.hwp_core_rule.specs.hwp_geom.declared.Layout.{Layout}
use Rattle.hwp_core_rule.specs.hwp_page.History.{BodyValue}
use Rattle.hwp_core_rule.specs.hwp_words.Stops.{is_stopped}
use Rattle.hwp_core_rule.specs.declared.SharedWord.TheVariants as places
use Rattle.hwp_core_rule.specs.declared.Step.{Step}
use Rattle.hwp_core_rule.specs.declared.Step.TheVariants as steps
use Rattle.hwp_core_rule.specs.declared.View.{View}
use Rattle.hwp_core_rule.specs.Lasting.{IsMild}
use Rattle.hwp_core_rule.specs.declared.Turn.{Turn}
use Rattle.hwp_core_rule.specs.declared.Turn.TheVariants.{Moved}
use Rattle.hwp_core_rule.specs.Calls.{CanMake, Steps}
use Rattle.hwp_core_rule.specs.Ranks.{IsRanked, is_waits}
use Rattle.hwp_core_rule.proofs.tasks.StepRanks.{rank-of}
use Rattle.hwp_core_rule.proofs.tasks.StepLeaves.{can-make, hand-planned, on-turn-after, steps-planned}
use Rattle.hwp_core_rule.specs.Classes.{TellsClass}
use Rattle.hwp_core_rule.proofs.tasks.MadeEntries.{deeds-same}
use Rattle.hwp_cpu_control.specs.declared.read_stop.ReadStop.{ReadStop}
use Rattle.hwp_cpu_control.specs.declared.read_stop.ReadStopAt.{ReadStopAt}
use Rattle.hwp_cpu_control.specs.declared.read_stop.ReadStopAt.TheVariants as at
use Rattle.hwp_cpu_control.specs.declared.read_stop.ReadStopAnswer.TheVariants as answers
use Rattle.hwp_cpu_control.specs.ReadStops.{plan, plan_at, next, next_at, Fits, FitsAt, cost, cost_at, task}
use Rattle.hwp_cpu_control.proofs.EmptyHands.{no-frame, no-page, saw-stop}

pub can : (layout : Layout) (view : View) (r : ReadStop) (step : Step) → Fits layout view r → plan r ≡ Some step → CanMake layout r.who step None view
can layout view r step fits is = which r.at is
  where
    which : (x : ReadStopAt) → plan_at x ≡ Some step → CanMake layout r.who step None view
    which at.LoadStop e = can-make fits.on_turn e tt tt
    which (at.Over answer) e = absurd (none-some step e)

pub both : (layout : Layout) (old new : View) (r : ReadStop) (step : Step) (found : ℕ) (got : Option BodyValue) → Fits layout old r → plan r ≡ Some step → Steps layout r.who step None old new found got → Fits layout new (next r found)
both layout old new r step found got fits is made = which r.at is
  where
    which : (x : ReadStopAt) → plan_at x ≡ Some step → Fits layout new (record r { at = next_at x found })
    which at.LoadStop e = record {
      on_turn = on-turn-after fits.on_turn made;
      hand_is = hand-planned made e fits.hand_is;
      made = deeds-same r.who tt (steps-planned e made) ∙ fits.made;
      at = by (is_stopped found) refl;
    }
      where
        by : (b : Bool) → is_stopped found ≡ b → FitsAt new r.who (at.Over (cond b answers.Stopped answers.Done))
        by true is = saw-stop (steps-planned e made) is
        by false is = tt
    which (at.Over answer) e = absurd (none-some step e)

pub stays : (layout : Layout) (old new : View) (r : ReadStop) (step : Step) (found : ℕ) (got : Option BodyValue) → Fits layout old r → plan r ≡ Some step → Steps layout r.who step None old new found got
    → Unit {0} × ((after : ReadStop) (result : Turn) → (after ≡ next r found) × (result ≡ Moved) → Fits layout new after × (after.who.cpu ≡ r.who.cpu))
stays layout old new r step found got fits is made =
    (tt, λ after result follows. (subst (Fits layout new) (sym follows.0) (both layout old new r step found got fits is made), ap (λ (x : ReadStop). x.who.cpu) follows.0))

pub falls : (r : ReadStop) (step : Step) (found : ℕ) → plan r ≡ Some step → cost (next r found) < cost r
falls r step found is = which r.at is
  where
    which : (x : ReadStopAt) → plan_at x ≡ Some step → cost_at (next_at x found) < cost_at x
    which at.LoadStop e = omega arith
    which (at.Over answer) e = absurd (none-some step e)

pub small : (r : ReadStop) → cost r ≤ 1
small r = which r.at
  where
    which : (x : ReadStopAt) → cost_at x ≤ 1
    which at.LoadStop = omega arith
    which (at.Over answer) = omega arith

-- none of its steps poisons a frame or takes its poison back
pub mild : (s : ReadStop) (step : Step) → plan s ≡ Some step → IsMild step
mild s step is = which s.at is
  where
    which : (x : ReadStopAt) → plan_at x ≡ Some step → IsMild step
    which at.LoadStop e = subst IsMild (same_Some (steps.Load places.Stop) step e) tt
    which (at.Over answer) e = absurd (none-some step e)

pub ranked : IsRanked task
ranked = rank-of task (λ s. refl) (λ s. (omega arith, omega arith)) (λ layout a seat s rule fits. let few : cost s ≤ 1 = small s in omega arith)
    (λ layout seat a b s t turn made goes. subst (λ (x : ReadStop). cost x < cost s) (sym made.follows.0) (falls s made.step made.found made.planned))
    (λ layout seat a b s t turn made is quiet. absurd (both_ways true (sym is ∙ ap is_waits made.follows.1) refl))
    (λ s. refl) mild

pub tells : TellsClass task
tells = record {
  frame = λ layout view s fits has. absurd (no-frame view fits.hand_is has);
  page = λ layout view s fits has. absurd (no-page view fits.hand_is has);
  claim = λ layout view s frame cycle fits claims. absurd (none-some _ claims);
}
