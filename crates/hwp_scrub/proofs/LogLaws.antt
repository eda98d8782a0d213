-- The laws of `Log`.
use Rattle.std.proofs.Common.{◌≡◌, ℕ, ◌<◌, ◌≤◌, true, Option, Some, None, refl, sym, ap, ◌∙◌, subst, arith}
use Rattle.std.proofs.lemmas.Bool.{both_ways}
use Rattle.std.proofs.lemmas.Option.{none-some}
use Rattle.hwp_cpu_control.specs.hwp_geom.declared.Layout.{Layout}
use Rattle.hwp_cpu_control.specs.hwp_page.History.{BodyValue}
use Rattle.hwp_cpu_control.specs.hwp_core_rule.declared.Step.{Step}
use Rattle.hwp_cpu_control.specs.hwp_core_rule.declared.View.{View}
use Rattle.hwp_cpu_control.specs.hwp_core_rule.Lasting.{IsMild}
use Rattle.hwp_cpu_control.specs.hwp_core_rule.declared.Turn.{Turn}
use Rattle.hwp_cpu_control.specs.hwp_core_rule.declared.Turn.TheVariants.{Moved}
use Rattle.hwp_cpu_control.specs.hwp_core_rule.Calls.{CanMake, Steps}
use Rattle.hwp_cpu_control.specs.hwp_core_rule.Classes.{TellsClass}
use Rattle.hwp_cpu_control.specs.hwp_core_rule.Ranks.{IsRanked, is_waits}
use Rattle.hwp_cpu_control.proofs.of_hwp_core_rule.tasks.StepRanks.{rank-of}
use Rattle.hwp_cpu_control.specs.declared.ReadStopAnswer.{ReadStopAnswer}
use Rattle.hwp_cpu_control.specs.declared.read_stop.ReadStopAt.{ReadStopAt}
use Rattle.hwp_cpu_control.specs.declared.read_stop.ReadStopAt.TheVariants as read_at
use Rattle.hwp_cpu_control.specs.ReadStops as reads
use Rattle.hwp_cpu_control.proofs.ReadStopLaws as reading
use Rattle.hwp_scrub.specs.declared.log.Log.{Log}
use Rattle.hwp_scrub.specs.Logs.{Fits, answer, cost, logged_by, next, next_by, plan, task}

pub can : (layout : Layout) (view : View) (l : Log) (step : Step) → Fits layout view l → plan l ≡ Some step → CanMake layout l.read.who step None view
can layout view l step fits is = reading.can layout view l.read step fits.read is

-- a look that comes next has no answer yet
unanswered : (x : ReadStopAt) (step : Step) → reads.plan_at x ≡ Some step → reads.answer_at x ≡ None
unanswered read_at.LoadStop step is = refl
unanswered (read_at.Over answer) step is = absurd (none-some step is)

module _ (l : Log) (step : Step) (found : ℕ) (is : plan l ≡ Some step) where
  none : answer l ≡ None
  none = unanswered l.read.at step is

  logs : next l found ≡ next_by l found None
  logs = ap (next_by l found) none

pub both : (layout : Layout) (old new : View) (l : Log) (step : Step) (found : ℕ) (got : Option BodyValue) → Fits layout old l → plan l ≡ Some step → Steps layout l.read.who step None old new found got → Fits layout new (next l found)
both layout old new l step found got fits is made = subst (Fits layout new) (sym (logs l step found is)) (record {
  read = reading.both layout old new l.read step found got fits.read is made;
  three = fits.three;
  banks_are = ap (logged_by (reads.answer (reads.next l.read found)) l.change) (fits.banks_are ∙ ap (λ (o : Option ReadStopAnswer). logged_by o l.change l.before.value) (none l step found is));
})

own : (l : Log) (found : ℕ) (o : Option ReadStopAnswer) → (next_by l found o).read.who ≡ l.read.who
own l found None = refl
own l found (Some answer) = refl

pub stays : (layout : Layout) (old new : View) (l : Log) (step : Step) (found : ℕ) (got : Option BodyValue) → Fits layout old l → plan l ≡ Some step → Steps layout l.read.who step None old new found got
    → Unit {0} × ((after : Log) (result : Turn) → (after ≡ next l found) × (result ≡ Moved) → Fits layout new after × (after.read.who.cpu ≡ l.read.who.cpu))
stays layout old new l step found got fits is made = (
  tt,
  λ after result follows. (
    subst (Fits layout new) (sym follows.0) (both layout old new l step found got fits is made),
    ap (λ (x : Log). x.read.who.cpu) follows.0 ∙ ap (λ w. w.cpu) (own l found (answer l)),
  ),
)

pub falls : (l : Log) (step : Step) (found : ℕ) → plan l ≡ Some step → cost (next l found) < cost l
falls l step found is = subst (λ (x : Log). cost x < cost l) (sym (logs l step found is)) (reading.falls l.read step found is)

-- none of its steps poisons a frame or takes its poison back
pub mild : (l : Log) (step : Step) → plan l ≡ Some step → IsMild step
mild l step is = reading.mild l.read step is

pub ranked : IsRanked task
ranked = rank-of task (λ l. refl) (λ l. (omega arith, omega arith)) (λ layout a seat l rule fits. let few : cost l ≤ 1 = reading.small l.read in omega arith)
    (λ layout seat a b l t turn made goes. subst (λ (x : Log). cost x < cost l) (sym made.follows.0) (falls l made.step made.found made.planned))
    (λ layout seat a b l t turn made is quiet. absurd (both_ways true (sym is ∙ ap is_waits made.follows.1) refl))
    (λ l. refl) mild

pub tells : TellsClass task
tells = record {
  frame = λ layout view l fits has. reading.tells.frame layout view l.read fits.read has;
  page = λ layout view l fits has. reading.tells.page layout view l.read fits.read has;
  claim = λ layout view l frame cycle fits claims. absurd (none-some _ claims);
}
