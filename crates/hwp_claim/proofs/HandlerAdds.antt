-- What a step of a `Handler` adds: the mark of a frame, the count of that, and the entry of a failure.
use Rattle.std.proofs.Common.{◌≡◌, inl, inr, ℕ, ◌+◌, ◌==◌, Bool, true, false, cond, List, [], ◌∷◌, ◌++◌, Option, Some, None, filter_map, refl, sym, ap, ◌∙◌, subst}
use Rattle.std.proofs.lemmas.List.{append_assoc, append-nil}
use Rattle.std.proofs.lemmas.List.Elements.{filter_map-append}
use Rattle.std.proofs.lemmas.Option.{none-some}
use Rattle.hwp_banks.specs.hwp_geom.declared.Frame.{Frame}
use Rattle.hwp_banks.specs.hwp_geom.declared.Layout.{Layout}
use Rattle.hwp_banks.specs.hwp_geom.declared.Thread.{Thread}
use Rattle.hwp_banks.specs.hwp_geom.declared.Who.{Who}
use Rattle.hwp_claim_frame.specs.hwp_page.History.{BodyValue}
use Rattle.hwp_claim_frame.specs.hwp_words.Stops.{is_stopped}
use Rattle.hwp_claim_frame.specs.hwp_core_rule.declared.Mark.{Mark}
use Rattle.hwp_claim_frame.specs.hwp_core_rule.declared.Step.{Step}
use Rattle.hwp_claim_frame.specs.hwp_core_rule.declared.Step.TheVariants as steps
use Rattle.hwp_claim_frame.specs.hwp_core_rule.declared.View.{View}
use Rattle.hwp_claim_frame.specs.hwp_core_rule.declared.Turn.{Turn}
use Rattle.hwp_claim_frame.specs.hwp_core_rule.Calls.{Steps, logs}
use Rattle.hwp_claim_frame.proofs.of_hwp_core_rule.tasks.StepLeaves.{steps-planned}
use Rattle.hwp_claim_frame.proofs.of_hwp_core_rule.tasks.MadeEntries.{deeds-same}
use Rattle.hwp_claim_act.specs.declared.Failed.{Failed}
use Rattle.hwp_claim_act.specs.Abandoned.{AddsFailure}
use Rattle.hwp_claim_frame.specs.Done.{Grows, Marking, counts_owed, marking_of}
use Rattle.hwp_claim.specs.declared.fail.Fail.{Fail}
use Rattle.hwp_claim.specs.declared.fail.FailAt.{FailAt}
use Rattle.hwp_claim.specs.declared.fail.FailAt.TheVariants as fail_at
use Rattle.hwp_claim.specs.declared.fail.FailAnswer.{FailAnswer}
use Rattle.hwp_claim.specs.declared.fail.FailAnswer.TheVariants as answers
use Rattle.hwp_claim.specs.Done as fail_done
use Rattle.hwp_claim.specs.Fails as fails
use Rattle.hwp_claim.proofs.FailAdds.{fail-adds}
use Rattle.hwp_claim.specs.CheckDone.{Adds, failed_at, failed_in, failed_now, marked_at, marked_in, marked_now, owed_at, owed_now}
use Rattle.hwp_claim.specs.Fits.{Fits, FitsAt, IsFailing}
use Rattle.hwp_claim.specs.Handlers.{Follows, FollowsAt, after_fail, after_fail_by, after_stop, bare, bare_at, ended_by, plan, plan_at, put, put_at, tell_on}
use Rattle.hwp_claim.specs.Told.{frame_of, required_by, told_by}
use Rattle.hwp_claim.specs.declared.handler.Handler.{Handler}
use Rattle.hwp_claim.specs.declared.handler.HandlerAt.{HandlerAt}
use Rattle.hwp_claim.specs.declared.handler.HandlerAt.TheVariants as at
use Rattle.hwp_claim.specs.declared.told.Held.{Held}
use Rattle.hwp_claim.specs.declared.told.EventOutcome.{EventOutcome}
use Rattle.hwp_claim.proofs.HandlerLaws.{stop-leaves}
use Rattle.hwp_claim.proofs.EventTells.{tell-done, tell-idle}

-- ---- what has been done before stays in front

pub grows-behind : {A B : Type 0} {by : A → Who} (told : A → B) {old new : List A} {who : Who} (front : List B) {before after : List B} → Grows by told old new who before after → Grows by told old new who (front ++ before) (front ++ after)
grows-behind {A} {B} told front {before} (inl same) = inl (same.0, ap (λ (l : List B). front ++ l) same.1)
grows-behind {A} {B} told front {before} (inr grown) = inr (grown.0, grown.1, grown.2, ap (λ (l : List B). front ++ l) grown.3 ∙ sym (append_assoc front before (told grown.0 ∷ [])))

failure-behind : (who : Who) (old new : View) (front : List Failed) {before after : List Failed} → AddsFailure who old new before after → AddsFailure who old new (front ++ before) (front ++ after)
failure-behind who old new front {before} (inl same) = inl (same.0, ap (λ (l : List Failed). front ++ l) same.1)
failure-behind who old new front {before} (inr grown) = inr (grown.0, grown.1, grown.2, grown.3, ap (λ (l : List Failed). front ++ l) grown.4 ∙ sym (append_assoc front before (grown.1 ∷ [])))

-- ---- a failure that ended

marked-by : (held : Held) (answer : FailAnswer) → filter_map marked_in (told_by held answer ∷ []) ≡ fail_done.marked_over (frame_of held) true answer
marked-by held answers.Stopped = refl
marked-by held answers.Already = refl
marked-by held (answers.Done found) = refl

failed-by : (thread : Option Thread) (held : Held) (answer : FailAnswer) → filter_map (failed_in thread) (told_by held answer ∷ []) ≡ fail_done.failed_over (required_by thread held.grade.severity) answer
failed-by thread held answers.Stopped = refl
failed-by thread held answers.Already = refl
failed-by thread held (answers.Done found) = refl

-- what a machine check has done whose failure goes on or ended
record IsDoneBy (h : Handler) (f : Fail) (after : Handler) : Type 0 where
  marked : marked_now after ≡ filter_map marked_in h.events.told ++ fail_done.marked_at f.frame true f.at
  failed : failed_now after ≡ filter_map (failed_in h.thread) h.events.told ++ fail_done.failed_at f.required f.at
  owed : owed_now after ≡ fail_done.owed_at f.at

module _ (layout : Layout) (h : Handler) (f : Fail) (held : Held) (left : List Held) (next_is : h.events.left ≡ held ∷ left) (frame_is : f.frame ≡ frame_of held) (required_is : f.required ≡ required_by h.thread held.grade.severity) where
  ended-done : (answer : FailAnswer) → f.at ≡ fail_at.Over answer → IsDoneBy h f (ended_by layout (record h { at = at.Fail f }) answer (held ∷ left))
  ended-done answer over =
      let told : List EventOutcome = h.events.told ++ told_by held answer ∷ [] in
      let next = tell_on layout h.alloc h.who h.thread h.stops left told in
      let idle = tell-idle layout h.alloc h.who h.thread h.stops left told in
      let same = tell-done layout h.alloc h.who h.thread h.stops left told in record {
        marked = ap (λ (l : List Marking). filter_map marked_in next.0.told ++ l) idle.marked ∙ append-nil (filter_map marked_in next.0.told) ∙ same.0 ∙ filter_map-append marked_in h.events.told (told_by held answer ∷ [])
            ∙ ap (λ (l : List Marking). filter_map marked_in h.events.told ++ l) (marked-by held answer ∙ ap (λ (g : Frame). fail_done.marked_over g true answer) (sym frame_is) ∙ ap (fail_done.marked_at f.frame true) (sym over));
        failed = ap (λ (l : List Failed). filter_map (failed_in h.thread) next.0.told ++ l) idle.failed ∙ append-nil (filter_map (failed_in h.thread) next.0.told) ∙ same.1 ∙ filter_map-append (failed_in h.thread) h.events.told (told_by held answer ∷ [])
            ∙ ap (λ (l : List Failed). filter_map (failed_in h.thread) h.events.told ++ l) (failed-by h.thread held answer ∙ ap (λ (r : Option Thread). fail_done.failed_over r answer) (sym required_is) ∙ ap (fail_done.failed_at f.required) (sym over));
        owed = idle.owed ∙ ap fail_done.owed_at (sym over);
      }

  after-fail-done : IsDoneBy h f (after_fail layout h f)
  after-fail-done = which f.at refl
    where
      which : (x : FailAt) → f.at ≡ x → IsDoneBy h f (after_fail_by layout (record h { at = at.Fail f }) (fails.answer_at x))
      which (fail_at.Over answer) over = subst (λ (l : List Held). IsDoneBy h f (ended_by layout (record h { at = at.Fail f }) answer l)) (sym next_is) (ended-done answer over)
      which (fail_at.Claim c) going = record { marked = refl; failed = refl; owed = refl }
      which (fail_at.Act cycle a) going = record { marked = refl; failed = refl; owed = refl }

-- ---- each step

stop-idle : (found : ℕ) → (marked_at (after_stop found) ≡ []) × (failed_at (after_stop found) ≡ []) × (owed_at (after_stop found) ≡ 0)
stop-idle found = which (found == 0) (is_stopped found)
  where
    which : (b c : Bool) → (marked_at (cond b (at.Over true) (cond c (at.Over true) at.GaveUp)) ≡ []) × (failed_at (cond b (at.Over true) (cond c (at.Over true) at.GaveUp)) ≡ []) × (owed_at (cond b (at.Over true) (cond c (at.Over true) at.GaveUp)) ≡ 0)
    which true c = (refl, refl, refl)
    which false true = (refl, refl, refl)
    which false false = (refl, refl, refl)

pub handler-adds : (layout : Layout) (old new : View) (h : Handler) (step : Step) (found : ℕ) (got : Option BodyValue) → Fits layout old h → plan h ≡ Some step → Steps layout h.who step (logs (put h)) old new found got
    → (after : Handler) (turn : Turn) → Follows layout (bare h) found got after turn → Adds old new h after
handler-adds layout old new h step found got fits is made after turn follows = which h.at fits.at is made follows
  where
    stop-adds : Steps layout h.who (steps.Stop h.who.cpu) None old new found got → Adds old new (record h { at = at.Stop }) (record h { at = after_stop found })
    stop-adds stop = let idle = stop-idle found in record {
      marked = inl (stop-leaves stop (λ (v : View). v.marks) refl refl, ap (λ (l : List Marking). filter_map marked_in h.events.told ++ l) idle.0);
      failed = inl (deeds-same h.who tt stop, ap (λ (l : List Failed). filter_map (failed_in h.thread) h.events.told ++ l) idle.1);
      counted = ap (λ (n : ℕ). n + 0) (stop-leaves stop counts_owed refl refl) ∙ ap (λ (n : ℕ). counts_owed old + n) (sym idle.2);
    }

    fail-step : (f : Fail) → IsFailing layout old h.who h.thread h.stops h.events f → fails.plan f ≡ Some step → Steps layout h.who step (logs (fails.put f)) old new found got → (g : Fail) → fails.Follows (fails.bare f) found got g turn
        → Adds old new (record h { at = at.Fail f }) (after_fail layout h g)
    fail-step f has e made g next = record {
      marked = subst (Grows (λ (m : Mark). m.stamp.who) marking_of old.marks new.marks h.who (filter_map marked_in h.events.told ++ fail_done.marked_at f.frame true f.at)) (sym (done.marked ∙ ap (λ (n : Frame). filter_map marked_in h.events.told ++ fail_done.marked_at n true g.at) frame-same))
          (grows-behind marking_of (filter_map marked_in h.events.told) adds.marked);
      failed = subst (AddsFailure h.who old new (filter_map (failed_in h.thread) h.events.told ++ fail_done.failed_at f.required f.at)) (sym (done.failed ∙ ap (λ (r : Option Thread). filter_map (failed_in h.thread) h.events.told ++ fail_done.failed_at r g.at) required-same))
          (failure-behind h.who old new (filter_map (failed_in h.thread) h.events.told) adds.failed);
      counted = adds.counted ∙ ap (λ (n : ℕ). counts_owed old + n) (sym done.owed);
    }
      where
        frame-same : g.frame ≡ f.frame
        frame-same = ap (λ (x : Fail). x.frame) next.0

        required-same : g.required ≡ f.required
        required-same = ap (λ (x : Fail). x.required) next.0

        done : IsDoneBy h g (after_fail layout h g)
        done = after-fail-done layout h g has.held has.rest has.next_is (frame-same ∙ has.frame_is) (required-same ∙ has.required_is)

        adds : fail_done.Adds old new h.who f.frame true f.required f.at g.at
        adds = subst (λ (b : Bool). fail_done.Adds old new h.who f.frame b f.required f.at g.at) has.hardware (subst (λ (w : Who). fail_done.Adds old new w f.frame f.hardware f.required f.at g.at) has.own
            (fail-adds layout old new f step found got has.fail e (subst (λ (w : Who). Steps layout w step (logs (fails.put f)) old new found got) (sym has.own) made) g turn next))

    which : (x : HandlerAt) → FitsAt layout old h.who h.thread h.stops h.events x → plan_at h.who x ≡ Some step → Steps layout h.who step (logs (put_at x)) old new found got → FollowsAt layout (bare h) (bare_at x) found got after turn
        → Adds old new (record h { at = x }) after
    which at.Stop has e made next = subst (Adds old new (record h { at = at.Stop })) (sym next.0) (stop-adds (steps-planned e made))
    which (at.Fail f) has e made next = subst (Adds old new (record h { at = at.Fail f })) (sym next.next_is) (fail-step f has e made next.fail next.follows)
    which at.GaveUp has e made next = absurd (none-some step e)
    which (at.Over stopped) has e made next = absurd (none-some step e)
