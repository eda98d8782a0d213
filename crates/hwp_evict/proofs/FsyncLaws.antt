-- The laws of `Fsync`.
use Rattle.std.proofs.Common.{◌≡◌, ◌≢◌, inl, inr, ℕ, ◌-◌, ◌<◌, ◌≤◌, ◌==◌, Bool, true, false, cond, [], Option, Some, None, refl, sym, ap, ◌∙◌, subst, arith}
use Rattle.std.proofs.lemmas.Bool.{both_ways, eqb-true, eqb-false}
use Rattle.std.proofs.lemmas.Option.{none-some, same_Some}
use Rattle.hwp_core.specs.hwp_geom.declared.Layout.{Layout}
use Rattle.hwp_core.specs.hwp_page.History.{BodyValue}
use Rattle.hwp_core.specs.hwp_words.Stops.{is_stopped}
use Rattle.hwp_core.specs.hwp_core_rule.declared.SharedWord.TheVariants as places
use Rattle.hwp_core.specs.hwp_core_rule.declared.Step.{Step}
use Rattle.hwp_core.specs.hwp_core_rule.declared.Step.TheVariants as steps
use Rattle.hwp_core.specs.hwp_core_rule.declared.View.{View}
use Rattle.hwp_core.specs.hwp_core_rule.Lasting.{IsMild}
use Rattle.hwp_core.specs.hwp_core_rule.Words.{Words}
use Rattle.hwp_core.specs.hwp_core_rule.declared.Turn.{Turn}
use Rattle.hwp_core.specs.hwp_core_rule.declared.Turn.TheVariants.{Moved, Answered}
use Rattle.hwp_core.specs.hwp_core_rule.Calls.{CanMake, Steps}
use Rattle.hwp_core.specs.hwp_core_rule.Hands.{hand_of, empty}
use Rattle.hwp_core.specs.hwp_core_rule.Ranks.{IsRanked, is_waits, words_at}
use Rattle.hwp_core.specs.hwp_core_rule.Classes.{TellsClass}
use Rattle.hwp_core.proofs.of_hwp_core_rule.tasks.StepRanks.{rank-of}
use Rattle.hwp_core.proofs.of_hwp_core_rule.tasks.StepLeaves.{on-turn-after, hand-planned, steps-planned, can-make}
use Rattle.hwp_core.specs.hwp_core_rule.Known.{Covers, Saw, HasMadeNone}
use Rattle.hwp_core.proofs.of_hwp_core_rule.tasks.LossCovers.{report-covers, report-reaches}
use Rattle.hwp_core.proofs.of_hwp_core_rule.tasks.StepOwes.{losses-same}
use Rattle.hwp_core.proofs.of_hwp_core_rule.tasks.SightKeeps.{saw-load, saw-report, seen-loss-stays}
use Rattle.hwp_core.proofs.of_hwp_core_rule.tasks.MadeEntries.{deeds-same}
use Rattle.hwp_evict.specs.declared.fsync.Fsync.{Fsync}
use Rattle.hwp_evict.specs.declared.fsync.FsyncAt.{FsyncAt}
use Rattle.hwp_evict.specs.declared.fsync.FsyncAt.TheVariants as at
use Rattle.hwp_evict.specs.declared.fsync.FsyncAnswer.TheVariants as answers
use Rattle.hwp_core.proofs.TaskTells.{no-frame, no-page}
use Rattle.hwp_evict.specs.Fsyncs.{plan, plan_at, next, next_at, turn, turn_at, Fits, FitsAt, cost, cost_at, task as fsync-task}

-- ---- the law of tasks

pub can : (layout : Layout) (view : View) (f : Fsync) (step : Step) → Fits layout view f → plan f ≡ Some step → CanMake layout f.who step None view
can layout view f step fits is = which f.at is
  where
    which : (x : FsyncAt) → plan_at f.file x ≡ Some step → CanMake layout f.who step None view
    which at.LoadStop e = can-make fits.on_turn e tt tt
    which at.Report e = can-make fits.on_turn e fits.file tt
    which (at.Over answer number) e = absurd (none-some step e)

module _ {layout : Layout} {old new : View} (f : Fsync) {step : Step} {found : ℕ} {got : Option BodyValue} (fits : Fits layout old f) (is : plan f ≡ Some step) (made : Steps layout f.who step None old new found got) where
  moved : Fits layout new (next f found)
  moved = record {
    on_turn = on-turn-after fits.on_turn made;
    file = fits.file;
    hand_is = hand f.at is;
    paid = paid f.at is;
    made_none = none f.at is;
    handle = elim fits.handle [ inl zero ↦ inl zero | inr seen ↦ inr (seen-loss-stays made seen) ];
    at = which f.at is;
  }
    where
      hand : (x : FsyncAt) → plan_at f.file x ≡ Some step → hand_of new ≡ empty
      hand at.LoadStop e = hand-planned made e fits.hand_is
      hand at.Report e = hand-planned made e fits.hand_is
      hand (at.Over answer number) e = absurd (none-some step e)

      none : (x : FsyncAt) → plan_at f.file x ≡ Some step → HasMadeNone new f.who
      none at.LoadStop e = deeds-same f.who tt (steps-planned e made) ∙ fits.made_none
      none at.Report e = deeds-same f.who tt (steps-planned e made) ∙ fits.made_none
      none (at.Over answer number) e = absurd (none-some step e)

      paid : (x : FsyncAt) → plan_at f.file x ≡ Some step → new.owed.losses ≡ []
      paid at.LoadStop e = losses-same tt (steps-planned e made) ∙ fits.paid
      paid at.Report e = losses-same tt (steps-planned e made) ∙ fits.paid
      paid (at.Over answer number) e = absurd (none-some step e)

      stopped : Saw new f.who places.Stop found → (b : Bool) → is_stopped found ≡ b → FitsAt layout new f.who f.file f.handle (cond b (at.Over answers.Stopped f.handle) at.Report)
      stopped saw true so = (record { word = found; saw = saw; stopped = so }, refl)
      stopped saw false so = tt

      reported : Saw new f.who (places.Loss f.file) found → Covers layout new f.who f.file found → f.handle ≤ found → (opens same : Bool) → (found == f.handle) ≡ same
          → FitsAt layout new f.who f.file f.handle (at.Over (cond opens (answers.Opened found) (cond same answers.Done (answers.Eio (found - f.handle)))) found)
      reported saw covers reaches true same is = (refl, saw, covers)
      reported saw covers reaches false true is = (eqb-true found f.handle is, saw, covers)
      reported saw covers reaches false false is = let other : found ≢ f.handle = eqb-false found f.handle is in (omega (arith, other, reaches), omega (arith, reaches), saw, covers)

      reaches : Steps layout f.who (steps.ReportLost f.file) None old new found got → f.handle ≤ found
      reaches reported = elim fits.handle [ inl zero ↦ omega (arith, zero) | inr seen ↦ report-reaches reported fits.file f.handle seen ]

      which : (x : FsyncAt) → plan_at f.file x ≡ Some step → FitsAt layout new f.who f.file f.handle (next_at f.handle f.opens x found)
      which at.LoadStop e = stopped (saw-load (steps-planned e made)) (is_stopped found) refl
      which at.Report e = let shown : Steps layout f.who (steps.ReportLost f.file) None old new found got = steps-planned e made in
          reported (saw-report shown) (report-covers shown fits.file fits.paid) (reaches shown) f.opens (found == f.handle) refl
      which (at.Over answer number) e = absurd (none-some step e)

pub stays : (layout : Layout) (old new : View) (f : Fsync) (step : Step) (found : ℕ) (got : Option BodyValue) → Fits layout old f → plan f ≡ Some step
    → Steps layout f.who step None old new found got → Unit {0} × ((after : Fsync) (result : Turn) → (after ≡ next f found) × (result ≡ turn f found) → Fits layout new after × (after.who.cpu ≡ f.who.cpu))
stays layout old new f step found got fits is made = (tt, λ after result follows. (subst (Fits layout new) (sym follows.0) (moved f fits is made), ap (λ (x : Fsync). x.who.cpu) follows.0))

-- ---- the law of the rank

-- every cost is small
pub fsync-below : (f : Fsync) (w : Words) → cost f w ≤ 5
fsync-below f w = which f.at
  where
    which : (x : FsyncAt) → cost_at x ≤ 5
    which at.LoadStop = omega arith
    which at.Report = omega arith
    which (at.Over answer number) = omega arith

falls : (f : Fsync) (step : Step) (found : ℕ) (w now : Words) → plan f ≡ Some step → cost (next f found) now < cost f w
falls f step found w now is = which f.at is
  where
    by : (b : Bool) → cost_at (cond b (at.Over answers.Stopped f.handle) at.Report) < 5
    by true = omega arith
    by false = omega arith

    which : (x : FsyncAt) → plan_at f.file x ≡ Some step → cost_at (next_at f.handle f.opens x found) < cost_at x
    which at.LoadStop e = by (is_stopped found)
    which at.Report e = omega arith
    which (at.Over answer number) e = absurd (none-some step e)

goes-on : (f : Fsync) (found : ℕ) → is_waits (turn f found) ≡ false
goes-on f found = which f.at
  where
    by : (b : Bool) → is_waits (cond b Answered Moved) ≡ false
    by true = refl
    by false = refl

    which : (x : FsyncAt) → is_waits (turn_at x found) ≡ false
    which at.LoadStop = by (is_stopped found)
    which at.Report = refl
    which (at.Over answer number) = refl

-- none of its steps poisons a frame or takes its poison back
pub fsync-mild : (s : Fsync) (step : Step) → plan s ≡ Some step → IsMild step
fsync-mild s step is = which s.at is
  where
    which : (x : FsyncAt) → plan_at s.file x ≡ Some step → IsMild step
    which at.LoadStop e = subst IsMild (same_Some (steps.Load places.Stop) step e) tt
    which at.Report e = subst IsMild (same_Some (steps.ReportLost s.file) step e) tt
    which (at.Over answer number) e = absurd (none-some step e)

pub fsync-ranked : IsRanked fsync-task
fsync-ranked = rank-of fsync-task (λ s. refl) (λ s. (omega arith, omega arith)) (λ layout a seat s rule fits. let few : cost s (words_at layout a) ≤ 5 = fsync-below s (words_at layout a) in omega (arith, few))
    (λ layout seat a b s t turn made goes. subst (λ (x : Fsync). cost x (words_at layout b) < cost s (words_at layout a)) (sym made.follows.0) (falls s made.step made.found (words_at layout a) (words_at layout b) made.planned))
    (λ layout seat a b s t turn made is quiet. absurd (both_ways true (sym is ∙ ap is_waits made.follows.1 ∙ goes-on s made.found) refl))
    (λ s. refl) fsync-mild

-- ---- the class

-- nothing is held
pub fsync-tells : TellsClass fsync-task
fsync-tells = record {
  frame = λ layout view s fits some. absurd (no-frame view fits.hand_is refl refl refl some);
  page = λ layout view s fits some. absurd (no-page view fits.hand_is refl some);
  claim = λ layout view s frame cycle fits none. absurd (none-some (frame, cycle) none);
}
