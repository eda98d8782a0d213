-- The laws of `Denied`.
use Rattle.std.proofs.Common.{◌≡◌, ℕ, ◌+◌, ◌<◌, ◌≤◌, Bool, true, false, cond, Option, Some, None, refl, sym, ap, ◌∙◌, subst, arith}
use Rattle.std.proofs.lemmas.Bool.{both_ways}
use Rattle.std.proofs.lemmas.Option.{none-some, same_Some}
use Rattle.hwp_core_rule.specs.hwp_geom.Limits.{page_limit}
use Rattle.hwp_core_rule.specs.hwp_geom.declared.Layout.{Layout}
use Rattle.hwp_core_rule.specs.hwp_geom.declared.Page.{Page}
use Rattle.hwp_core_rule.specs.hwp_page.History.{BodyValue}
use Rattle.hwp_core_rule.specs.hwp_words.Names.{page_named}
use Rattle.hwp_core_rule.specs.hwp_words.Stops.{is_stopped}
use Rattle.hwp_core_rule.specs.declared.SharedWord.TheVariants as places
use Rattle.hwp_core_rule.specs.declared.Step.{Step}
use Rattle.hwp_core_rule.specs.declared.Step.TheVariants as steps
use Rattle.hwp_core_rule.specs.declared.View.{View}
use Rattle.hwp_core_rule.specs.Lasting.{IsMild}
use Rattle.hwp_core_rule.specs.declared.Turn.{Turn}
use Rattle.hwp_core_rule.specs.declared.Turn.TheVariants.{Moved}
use Rattle.hwp_core_rule.specs.Calls.{CanMake, Steps}
use Rattle.hwp_core_rule.specs.Classes.{TellsClass}
use Rattle.hwp_core_rule.specs.Hands.{hand_of, empty}
use Rattle.hwp_core_rule.specs.Known.{Saw, deeds}
use Rattle.hwp_core_rule.specs.Ranks.{IsRanked, is_waits}
use Rattle.hwp_core_rule.proofs.tasks.StepRanks.{rank-of}
use Rattle.hwp_core_rule.proofs.tasks.StepLeaves.{can-make, hand-planned, on-turn-after, steps-planned}
use Rattle.hwp_core_rule.proofs.tasks.MadeEntries.{deeds-same}
use Rattle.hwp_core_rule.proofs.tasks.SightKeeps.{saw-load}
use Rattle.hwp_cpu_control.specs.declared.denied.Denied.{Denied}
use Rattle.hwp_cpu_control.specs.declared.denied.DeniedAt.{DeniedAt}
use Rattle.hwp_cpu_control.specs.declared.denied.DeniedAt.TheVariants as at
use Rattle.hwp_cpu_control.specs.declared.denied.DeniedAnswer.TheVariants as answers
use Rattle.hwp_cpu_control.specs.Denieds.{plan, plan_at, next, next_at, after_process, Fits, FitsAt, cost, cost_at, task}
use Rattle.hwp_cpu_control.proofs.EmptyHands.{no-frame, no-page, saw-stop}
use Rattle.hwp_cpu_control.proofs.PrctlLaws.{ended-by, page-back, no-page-back}

pub can : (layout : Layout) (view : View) (d : Denied) (step : Step) → Fits layout view d → plan d ≡ Some step → CanMake layout d.who step None view
can layout view d step fits is = which d.at is
  where
    which : (x : DeniedAt) → plan_at d.process x ≡ Some step → CanMake layout d.who step None view
    which at.LoadStop e = can-make fits.on_turn e tt tt
    which at.LoadProcess e = can-make fits.on_turn e fits.process tt
    which (at.Over answer) e = absurd (none-some step e)

pub both : (layout : Layout) (old new : View) (d : Denied) (step : Step) (found : ℕ) (got : Option BodyValue) → Fits layout old d → plan d ≡ Some step → Steps layout d.who step None old new found got → Fits layout new (next d found)
both layout old new d step found got fits is made = which d.at is
  where
    fit : (x : DeniedAt) → hand_of new ≡ empty → deeds d.who new ≡ deeds d.who old → FitsAt new d.who d.process x → Fits layout new (record d { at = x })
    fit x hand none has = record { on_turn = on-turn-after fits.on_turn made; hand_is = hand; made = none ∙ fits.made; process = fits.process; at = has }

    which : (x : DeniedAt) → plan_at d.process x ≡ Some step → Fits layout new (record d { at = next_at x found })
    which at.LoadStop e = fit _ (hand-planned made e fits.hand_is) (deeds-same d.who tt own) (by (is_stopped found) refl)
      where
        own : Steps layout d.who (steps.Load places.Stop) None old new found got
        own = steps-planned e made

        by : (b : Bool) → is_stopped found ≡ b → FitsAt new d.who d.process (cond b (at.Over answers.Stopped) at.LoadProcess)
        by true is = saw-stop own is
        by false is = tt
    which at.LoadProcess e = fit _ (hand-planned made e fits.hand_is) (deeds-same d.who tt own) (by (page_named found) refl)
      where
        own : Steps layout d.who (steps.Load (places.Process d.process)) None old new found got
        own = steps-planned e made

        few : found ≤ page_limit
        few = ended-by layout own.told.board own.told.rule d.process found fits.process own.told.met

        by : (o : Option Page) → page_named found ≡ o → FitsAt new d.who d.process (after_process o)
        by None is = subst (Saw new d.who (places.Process d.process)) (no-page-back found is) (saw-load own)
        by (Some page) is = subst (Saw new d.who (places.Process d.process)) (page-back found page few is) (saw-load own)
    which (at.Over answer) e = absurd (none-some step e)

pub stays : (layout : Layout) (old new : View) (d : Denied) (step : Step) (found : ℕ) (got : Option BodyValue) → Fits layout old d → plan d ≡ Some step → Steps layout d.who step None old new found got
    → Unit {0} × ((after : Denied) (result : Turn) → (after ≡ next d found) × (result ≡ Moved) → Fits layout new after × (after.who.cpu ≡ d.who.cpu))
stays layout old new d step found got fits is made =
    (tt, λ after result follows. (subst (Fits layout new) (sym follows.0) (both layout old new d step found got fits is made), ap (λ (x : Denied). x.who.cpu) follows.0))

-- ---- that it ends

pub falls : (d : Denied) (step : Step) (found : ℕ) → plan d ≡ Some step → cost (next d found) < cost d
falls d step found is = which d.at is
  where
    by-stop : (b : Bool) → cost_at (cond b (at.Over answers.Stopped) at.LoadProcess) < 2
    by-stop true = omega arith
    by-stop false = omega arith

    by-process : (o : Option Page) → cost_at (after_process o) < 1
    by-process None = omega arith
    by-process (Some page) = omega arith

    which : (x : DeniedAt) → plan_at d.process x ≡ Some step → cost_at (next_at x found) < cost_at x
    which at.LoadStop e = by-stop (is_stopped found)
    which at.LoadProcess e = by-process (page_named found)
    which (at.Over answer) e = absurd (none-some step e)

pub small : (d : Denied) → cost d ≤ 2
small d = which d.at
  where
    which : (x : DeniedAt) → cost_at x ≤ 2
    which at.LoadStop = omega arith
    which at.LoadProcess = omega arith
    which (at.Over answer) = omega arith

-- none of its steps poisons a frame or takes its poison back
pub mild : (d : Denied) (step : Step) → plan d ≡ Some step → IsMild step
mild d step is = which d.at is
  where
    which : (x : DeniedAt) → plan_at d.process x ≡ Some step → IsMild step
    which at.LoadStop e = subst IsMild (same_Some (steps.Load places.Stop) step e) tt
    which at.LoadProcess e = subst IsMild (same_Some (steps.Load (places.Process d.process)) step e) tt
    which (at.Over answer) e = absurd (none-some step e)

pub ranked : IsRanked task
ranked = rank-of task (λ d. refl) (λ d. (omega arith, omega arith)) (λ layout a seat d rule fits. let few : cost d ≤ 2 = small d in omega arith)
    (λ layout seat a b s t turn made goes. subst (λ (x : Denied). cost x < cost s) (sym made.follows.0) (falls s made.step made.found made.planned))
    (λ layout seat a b s t turn made is quiet. absurd (both_ways true (sym is ∙ ap is_waits made.follows.1) refl))
    (λ d. refl) mild

pub tells : TellsClass task
tells = record {
  frame = λ layout view d fits has. absurd (no-frame view fits.hand_is has);
  page = λ layout view d fits has. absurd (no-page view fits.hand_is has);
  claim = λ layout view d frame cycle fits claims. absurd (none-some _ claims);
}
