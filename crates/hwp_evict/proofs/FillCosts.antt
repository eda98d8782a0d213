-- The cost of a fill falls.
use Rattle.std.proofs.Common.{◌≡◌, ℕ, ◌+◌, ◌<◌, ◌≤◌, ◌==◌, ◌⊎◌, inl, inr, Bool, true, false, cond, Some, None, refl, sym, ap, ◌∙◌, subst, arith}
use Rattle.std.proofs.lemmas.Bool.{both_ways}
use Rattle.std.proofs.lemmas.Option.{none-some, same_Some}
use Rattle.hwp_core.specs.hwp_geom.declared.Layout.{Layout}
use Rattle.hwp_core.specs.hwp_core_rule.declared.State.{State}
use Rattle.hwp_core.specs.hwp_core_rule.declared.Step.{Step}
use Rattle.hwp_core.specs.hwp_core_rule.declared.Step.TheVariants as steps
use Rattle.hwp_core.specs.hwp_core_rule.declared.View.{View}
use Rattle.hwp_core.specs.hwp_core_rule.Rule.{Holds}
use Rattle.hwp_core.specs.hwp_core_rule.Lasting.{IsMild}
use Rattle.hwp_core.specs.hwp_core_rule.Steps.{place_of, word_after}
use Rattle.hwp_core.specs.hwp_core_rule.Words.{Words, read}
use Rattle.hwp_core.specs.hwp_core_rule.declared.Turn.{Turn}
use Rattle.hwp_core.specs.hwp_core_rule.Boards.{view_of}
use Rattle.hwp_core.specs.hwp_core_rule.Ranks.{CostFalls, HasFailed, IsRanked, Made, is_waits, stale_weight, take_most, words_at}
use Rattle.hwp_core.proofs.of_hwp_core_rule.tasks.StepRanks.{met, words-after, words-kept, retire-fails, failed, rank-failing}
use Rattle.hwp_core.specs.declared.refer.Refer.{Refer}
use Rattle.hwp_core.specs.declared.refer.ReferAt.{ReferAt}
use Rattle.hwp_core.specs.declared.refer.ReferAt.TheVariants as refer_at
use Rattle.hwp_core.specs.Refers as refers
use Rattle.hwp_core.proofs.ReferCosts.{refer-falls, refer-small, refer-goes, refer-mild}
use Rattle.hwp_evict.specs.declared.fill.Fill.{Fill}
use Rattle.hwp_evict.specs.declared.fill.FillAt.{FillAt}
use Rattle.hwp_evict.specs.declared.fill.FillAt.TheVariants as fill_at
use Rattle.hwp_evict.specs.declared.take.Take.{Take}
use Rattle.hwp_evict.specs.declared.take.TakeAt.{TakeAt}
use Rattle.hwp_evict.specs.declared.take.TakeAt.TheVariants as take_at
use Rattle.hwp_evict.specs.Fills as fills
use Rattle.hwp_evict.specs.Takes as takes
use Rattle.hwp_evict.proofs.StepWords.{IsMet, words_then, is-met}
use Rattle.hwp_evict.proofs.TakeCosts as taking

-- the state after a take costs at most four more than the take, and that after the second reference one more than it
take-cost : (t : Take) (w : Words) → fills.cost_at (fills.after_take t) w ≤ takes.cost t w + 4
take-cost t w = which t.at
  where
    which : (x : TakeAt) → fills.cost_at (fills.after_take (record t { at = x })) w ≤ takes.cost (record t { at = x }) w + 4
    which take_at.LoadAvailable = omega arith
    which (take_at.Reserve seen) = omega arith
    which (take_at.LoadFree number) = omega arith
    which (take_at.TakeBit frame) = omega arith
    which (take_at.Adopt frame) = omega arith
    which (take_at.Retire frame) = omega arith
    which (take_at.Over None) = omega arith
    which (take_at.Over (Some frame)) = omega arith

refer-cost : (r : Refer) (w : Words) → fills.cost_at (fills.after_refer r) w ≡ refers.cost r w + 1
refer-cost r w = which r.at
  where
    which : (x : ReferAt) → fills.cost_at (fills.after_refer (record r { at = x })) w ≡ refers.cost (record r { at = x }) w + 1
    which refer_at.Load = refl
    which (refer_at.Get seen) = refl
    which refer_at.Over = refl

-- a turn lowers the cost, but for that in which a poisoned frame is retired
pub fill-falls : (layout : Layout) (a : State) (seat : ℕ) (view : View) (now : Words) (f : Fill) (step : Step) (found : ℕ) → IsMet layout a seat view step found → now ≡ words_then layout a step found
    → read (place_of step) (words_at layout a) ≡ found → (word_after step found ≡ found → now ≡ words_at layout a) → fills.Fits layout view f → fills.plan f ≡ Some step
    → (fills.cost (fills.next layout f found) now < fills.cost f (words_at layout a)) ⊎ taking.Retires step
fill-falls layout a seat view now f step found on words met kept fits is = which f.at is fits.at
  where
    which : (x : FillAt) → fills.plan_at f.page x ≡ Some step → fills.FitsAt layout view f.who f.page f.body x → (fills.cost_at (fills.next_at layout f.who x found) now < fills.cost_at x (words_at layout a)) ⊎ taking.Retires step
    which (fill_at.Take t) e has = taken (taking.falls layout a seat view found t step on has.take e)
      where
        taken : (takes.cost (takes.next layout t found) (words_then layout a step found) < takes.cost t (words_at layout a)) ⊎ taking.Retires step
            → (fills.cost_at (fills.after_take (takes.next layout t found)) now < takes.cost t (words_at layout a) + 4) ⊎ taking.Retires step
        taken (inl falls) =
            let less : takes.cost (takes.next layout t found) now < takes.cost t (words_at layout a) = subst (λ (w : Words). takes.cost (takes.next layout t found) w < takes.cost t (words_at layout a)) (sym words) falls in
            let more : fills.cost_at (fills.after_take (takes.next layout t found)) now ≤ takes.cost (takes.next layout t found) now + 4 = take-cost (takes.next layout t found) now in
            inl (omega (arith, less, more))
        taken (inr retires) = inr retires
    which (fill_at.SetOwner frame) e has = inl (omega arith)
    which (fill_at.Refer r) e has =
        let less : refers.cost (refers.next r found) now < refers.cost r (words_at layout a) = refer-falls (words_at layout a) now r step found e met kept in
        let more : fills.cost_at (fills.after_refer (refers.next r found)) now ≡ refers.cost (refers.next r found) now + 1 = refer-cost (refers.next r found) now in
        inl (omega (arith, less, more))
    which (fill_at.SetCache frame) e has = inl (omega arith)
    which (fill_at.Over frame) e has = absurd (none-some step e)

fill-small : (layout : Layout) (a : State) (f : Fill) → Holds layout a → fills.cost f (words_at layout a) ≤ take_most + 4
fill-small layout a f rule = which f.at
  where
    which : (x : FillAt) → fills.cost_at x (words_at layout a) ≤ take_most + 4
    which (fill_at.Take t) = let few : takes.cost t (words_at layout a) ≤ take_most = taking.small layout a t rule in omega (arith, few)
    which (fill_at.SetOwner frame) = omega arith
    which (fill_at.Refer r) = let few : refers.cost r (words_at layout a) ≤ stale_weight + 1 = refer-small (words_at layout a) r in omega (arith, few)
    which (fill_at.SetCache frame) = omega arith
    which (fill_at.Over frame) = omega arith

fill-class : (f : Fill) → (1 ≤ fills.class f) × (fills.class f ≤ 4)
fill-class f = which f.at
  where
    by : (b : Bool) → (1 ≤ cond {A = ℕ} b 1 2) × (cond {A = ℕ} b 1 2 ≤ 4)
    by true = (omega arith, omega arith)
    by false = (omega arith, omega arith)

    which : (x : FillAt) → (1 ≤ fills.class_at x) × (fills.class_at x ≤ 4)
    which (fill_at.Take t) = by (takes.class t == 1)
    which (fill_at.SetOwner frame) = (omega arith, omega arith)
    which (fill_at.Refer r) = (omega arith, omega arith)
    which (fill_at.SetCache frame) = (omega arith, omega arith)
    which (fill_at.Over None) = (omega arith, omega arith)
    which (fill_at.Over (Some frame)) = (omega arith, omega arith)

fill-goes : (f : Fill) (found : ℕ) → is_waits (fills.turn f found) ≡ false
fill-goes f found = which f.at
  where
    which : (x : FillAt) → is_waits (fills.turn_at x found) ≡ false
    which (fill_at.Take t) = taking.goes-on t found
    which (fill_at.SetOwner frame) = refl
    which (fill_at.Refer r) = refer-goes r found
    which (fill_at.SetCache frame) = refl
    which (fill_at.Over frame) = refl

-- none of its steps poisons a frame or takes its poison back
pub fill-mild : (s : Fill) (step : Step) → fills.plan s ≡ Some step → IsMild step
fill-mild s step is = which s.at is
  where
    which : (x : FillAt) → fills.plan_at s.page x ≡ Some step → IsMild step
    which (fill_at.Take t) e = taking.mild t step e
    which (fill_at.SetOwner frame) e = subst IsMild (same_Some (steps.SetOwner frame s.page true) step e) tt
    which (fill_at.Refer r) e = refer-mild r step e
    which (fill_at.SetCache frame) e = subst IsMild (same_Some (steps.SetCache s.page (Some frame)) step e) tt
    which (fill_at.Over frame) e = absurd (none-some step e)

module _ {layout : Layout} {seat : ℕ} {a b : State} {s t : Fill} {turn : Turn} (made : Made fills.task layout seat a b s t turn) where
  fill-lowers : (fills.cost (fills.next layout s made.found) (words_at layout b) < fills.cost s (words_at layout a)) ⊎ taking.Retires made.step → CostFalls fills.task layout a b s t ⊎ HasFailed fills.task layout a b s t
  fill-lowers (inl less) = inl (subst (λ (x : Fill). fills.cost x (words_at layout b) < fills.cost s (words_at layout a)) (sym made.follows.0) less)
  fill-lowers (inr retires) = inr (failed (retire-fails made retires.0 retires.1) (let few : fills.cost t (words_at layout b) ≤ take_most + 4 = fill-small layout b t made.kept in omega (arith, few)))

pub fill-ranked : IsRanked fills.task
fill-ranked = rank-failing fills.task (λ s. refl) fill-class (λ layout a seat s rule fits. let few : fills.cost s (words_at layout a) ≤ take_most + 4 = fill-small layout a s rule in omega arith)
    (λ layout seat a b s t turn made goes. fill-lowers made (fill-falls layout a seat (view_of a seat) (words_at layout b) s made.step made.found (is-met made) (words-after made) (met made) (words-kept made) made.fits made.planned))
    (λ layout seat a b s t turn made is quiet. absurd (both_ways true (sym is ∙ ap is_waits made.follows.1 ∙ fill-goes s made.found) refl))
    (λ s. refl) fill-mild
