-- The laws of `Spoil`.
use Rattle.std.proofs.Common.{◌≡◌, ℕ, ◌<◌, ◌≤◌, Bool, true, false, cond, Option, Some, None, refl, sym, ap, ◌∙◌, subst, arith}
use Rattle.std.proofs.lemmas.Bool.{both_ways}
use Rattle.std.proofs.lemmas.Option.{none-some, same_Some}
use Rattle.hwp_core_rule.specs.hwp_geom.declared.Damage.{Damage}
use Rattle.hwp_core_rule.specs.hwp_geom.declared.Damage.TheVariants as damages
use Rattle.hwp_core_rule.specs.hwp_geom.declared.Frame.{Frame}
use Rattle.hwp_core_rule.specs.hwp_geom.declared.Layout.{Layout}
use Rattle.hwp_core_rule.specs.hwp_geom.declared.Who.{Who}
use Rattle.hwp_core_rule.specs.hwp_page.History.{BodyValue}
use Rattle.hwp_core_rule.specs.hwp_words.Stops.{is_stopped}
use Rattle.hwp_core_rule.specs.declared.SharedWord.TheVariants as places
use Rattle.hwp_core_rule.specs.declared.Spoiled.{Spoiled}
use Rattle.hwp_core_rule.specs.declared.Step.{Step}
use Rattle.hwp_core_rule.specs.declared.Step.TheVariants as steps
use Rattle.hwp_core_rule.specs.declared.View.{View}
use Rattle.hwp_core_rule.specs.Lists.{SomeMember}
use Rattle.hwp_core_rule.specs.Lasting.{IsMild}
use Rattle.hwp_core_rule.specs.Steps.{damage_place}
use Rattle.hwp_core_rule.specs.Views.{noted, stamp_of}
use Rattle.hwp_core_rule.specs.Words.{IsPlace}
use Rattle.hwp_core_rule.proofs.Lists.{some-last}
use Rattle.hwp_core_rule.specs.declared.Turn.{Turn}
use Rattle.hwp_core_rule.specs.declared.Turn.TheVariants.{Moved}
use Rattle.hwp_core_rule.specs.Calls.{CanMake, Steps}
use Rattle.hwp_core_rule.specs.Ranks.{IsRanked, is_waits}
use Rattle.hwp_core_rule.proofs.tasks.StepRanks.{rank-of}
use Rattle.hwp_core_rule.proofs.tasks.StepLeaves.{can-make, hand-planned, on-turn-after, steps-planned}
use Rattle.hwp_core_rule.specs.Classes.{TellsClass}
use Rattle.hwp_core_rule.proofs.tasks.MadeEntries.{deeds-same}
use Rattle.hwp_cpu_control.specs.declared.spoil.Spoil.{Spoil}
use Rattle.hwp_cpu_control.specs.declared.spoil.SpoilAt.{SpoilAt}
use Rattle.hwp_cpu_control.specs.declared.spoil.SpoilAt.TheVariants as at
use Rattle.hwp_cpu_control.specs.declared.spoil.SpoilAnswer.TheVariants as answers
use Rattle.hwp_cpu_control.specs.Spoils.{plan, plan_at, next, next_at, HasSpoiled, Fits, FitsAt, cost, cost_at, task}
use Rattle.hwp_cpu_control.proofs.EmptyHands.{no-frame, no-page, saw-stop}

-- the word of a frame's lines is one of the machine
a-place : (layout : Layout) (frame : Frame) (damage : Damage) → frame.0 < layout.frames → IsPlace layout (damage_place frame damage)
a-place layout frame damages.Bad within = within
a-place layout frame damages.Weak within = within

pub can : (layout : Layout) (view : View) (s : Spoil) (step : Step) → Fits layout view s → plan s ≡ Some step → CanMake layout s.who step None view
can layout view s step fits is = which s.at is
  where
    which : (x : SpoilAt) → plan_at s.frame s.line s.damage x ≡ Some step → CanMake layout s.who step None view
    which at.LoadStop e = can-make fits.on_turn e tt tt
    which at.Spoil e = can-make fits.on_turn e (a-place layout s.frame s.damage fits.frame) tt
    which (at.Over answer) e = absurd (none-some step e)

-- a line that was spoiled is listed
spoiled : {layout : Layout} {who : Who} {frame : Frame} {line : ℕ} {damage : Damage} {old new : View} {found : ℕ} {got : Option BodyValue} → Steps layout who (steps.Spoil frame line damage) None old new found got → HasSpoiled new who frame line damage
spoiled {layout} {who} {frame} {line} {damage} {old} {new} {found} {got} made =
    subst (SomeMember Such) (sym (ap (λ (v : View). v.spoiled) made.told.next)) (some-last Such old.spoiled (record { stamp = stamp_of who (noted who old); frame = frame; line = line; damage = damage }) (refl, refl, refl, refl))
  where
    Such : Spoiled → Type 0
    Such s = (s.stamp.who ≡ who) × (s.frame ≡ frame) × (s.line ≡ line) × (s.damage ≡ damage)

pub both : (layout : Layout) (old new : View) (s : Spoil) (step : Step) (found : ℕ) (got : Option BodyValue) → Fits layout old s → plan s ≡ Some step → Steps layout s.who step None old new found got → Fits layout new (next s found)
both layout old new s step found got fits is made = which s.at is
  where
    which : (x : SpoilAt) → plan_at s.frame s.line s.damage x ≡ Some step → Fits layout new (record s { at = next_at x found })
    which at.LoadStop e = record {
      on_turn = on-turn-after fits.on_turn made;
      hand_is = hand-planned made e fits.hand_is;
      made = deeds-same s.who tt (steps-planned e made) ∙ fits.made;
      frame = fits.frame;
      at = by (is_stopped found) refl;
    }
      where
        by : (b : Bool) → is_stopped found ≡ b → FitsAt new s.who s.frame s.line s.damage (cond b (at.Over answers.Stopped) at.Spoil)
        by true is = saw-stop (steps-planned e made) is
        by false is = tt
    which at.Spoil e = record {
      on_turn = on-turn-after fits.on_turn made;
      hand_is = hand-planned made e fits.hand_is;
      made = deeds-same s.who tt (steps-planned e made) ∙ fits.made;
      frame = fits.frame;
      at = spoiled (steps-planned e made);
    }
    which (at.Over answer) e = absurd (none-some step e)

pub stays : (layout : Layout) (old new : View) (s : Spoil) (step : Step) (found : ℕ) (got : Option BodyValue) → Fits layout old s → plan s ≡ Some step → Steps layout s.who step None old new found got
    → Unit {0} × ((after : Spoil) (result : Turn) → (after ≡ next s found) × (result ≡ Moved) → Fits layout new after × (after.who.cpu ≡ s.who.cpu))
stays layout old new s step found got fits is made =
    (tt, λ after result follows. (subst (Fits layout new) (sym follows.0) (both layout old new s step found got fits is made), ap (λ (x : Spoil). x.who.cpu) follows.0))

pub falls : (s : Spoil) (step : Step) (found : ℕ) → plan s ≡ Some step → cost (next s found) < cost s
falls s step found is = which s.at is
  where
    by : (b : Bool) → cost_at (cond b (at.Over answers.Stopped) at.Spoil) < 2
    by true = omega arith
    by false = omega arith

    which : (x : SpoilAt) → plan_at s.frame s.line s.damage x ≡ Some step → cost_at (next_at x found) < cost_at x
    which at.LoadStop e = by (is_stopped found)
    which at.Spoil e = omega arith
    which (at.Over answer) e = absurd (none-some step e)

pub small : (s : Spoil) → cost s ≤ 2
small s = which s.at
  where
    which : (x : SpoilAt) → cost_at x ≤ 2
    which at.LoadStop = omega arith
    which at.Spoil = omega arith
    which (at.Over answer) = omega arith

-- none of its steps poisons a frame or takes its poison back
pub mild : (s : Spoil) (step : Step) → plan s ≡ Some step → IsMild step
mild s step is = which s.at is
  where
    which : (x : SpoilAt) → plan_at s.frame s.line s.damage x ≡ Some step → IsMild step
    which at.LoadStop e = subst IsMild (same_Some (steps.Load places.Stop) step e) tt
    which at.Spoil e = subst IsMild (same_Some (steps.Spoil s.frame s.line s.damage) step e) tt
    which (at.Over answer) e = absurd (none-some step e)

pub ranked : IsRanked task
ranked = rank-of task (λ s. refl) (λ s. (omega arith, omega arith)) (λ layout a seat s rule fits. let few : cost s ≤ 2 = small s in omega arith)
    (λ layout seat a b s t turn made goes. subst (λ (x : Spoil). cost x < cost s) (sym made.follows.0) (falls s made.step made.found made.planned))
    (λ layout seat a b s t turn made is quiet. absurd (both_ways true (sym is ∙ ap is_waits made.follows.1) refl))
    (λ s. refl) mild

pub tells : TellsClass task
tells = record {
  frame = λ layout view s fits has. absurd (no-frame view fits.hand_is has);
  page = λ layout view s fits has. absurd (no-page view fits.hand_is has);
  claim = λ layout view s frame cycle fits claims. absurd (none-some _ claims);
}
