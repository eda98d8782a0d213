-- The laws of `Fork`.
use Rattle.std.proofs.Common.{◌≡◌, ◌≢◌, ℕ, ◌+◌, ◌-◌, ◌^◌, ◌<◌, ◌≤◌, ◌==◌, Bool, true, false, cond, nat_lt, List, [], ◌∷◌, ◌++◌, Option, Some, None, map, length, slice_get, append-nil, refl, sym, ap, ◌∙◌, subst, arith}
use Rattle.std.proofs.lemmas.Bool.{both_ways, ltb-true, ne_eqb}
use Rattle.std.proofs.lemmas.List.Elements.{filter-append}
use Rattle.std.proofs.lemmas.Option.{none-some, same_Some, slice_get_within}
use Rattle.hwp_core_rule.specs.hwp_geom.declared.Layout.{Layout}
use Rattle.hwp_core_rule.specs.hwp_geom.declared.Page.{Page}
use Rattle.hwp_core_rule.specs.hwp_geom.declared.Thread.{Thread}
use Rattle.hwp_core_rule.specs.hwp_geom.declared.Who.{Who}
use Rattle.hwp_core_rule.specs.hwp_geom.Limits.{command_limit, page_limit, thread_limit}
use Rattle.hwp_core_rule.specs.hwp_kill.declared.Policy.{Policy}
use Rattle.hwp_core_rule.specs.hwp_kill.declared.Policy.TheVariants as policy_names
use Rattle.hwp_core_rule.specs.hwp_page.History.{BodyValue}
use Rattle.hwp_core_rule.specs.hwp_words.Names.{page_named}
use Rattle.hwp_core_rule.specs.hwp_words.Policies as words
use Rattle.hwp_core_rule.specs.hwp_words.Stops.{is_stopped}
use Rattle.hwp_core_rule.specs.declared.SharedWord.TheVariants as places
use Rattle.hwp_core_rule.specs.declared.Setting.{Setting}
use Rattle.hwp_core_rule.specs.declared.Step.{Step}
use Rattle.hwp_core_rule.specs.declared.Step.TheVariants as steps
use Rattle.hwp_core_rule.specs.declared.View.{View}
use Rattle.hwp_core_rule.specs.Lasting.{IsMild}
use Rattle.hwp_core_rule.specs.Views.{noted, stamp_of}
use Rattle.hwp_core_rule.specs.parts.Policies.{last_policy, settings_of, PolicyAgrees}
use Rattle.hwp_core_rule.specs.declared.Turn.{Turn}
use Rattle.hwp_core_rule.specs.declared.Turn.TheVariants.{Moved}
use Rattle.hwp_core_rule.specs.Boards.{view_of}
use Rattle.hwp_core_rule.specs.Calls.{CanMake, Steps}
use Rattle.hwp_core_rule.specs.Hands.{hand_of, empty}
use Rattle.hwp_core_rule.specs.Ranks.{IsRanked, is_waits}
use Rattle.hwp_core_rule.specs.Classes.{TellsClass}
use Rattle.hwp_core_rule.proofs.tasks.StepRanks.{rank-of}
use Rattle.hwp_core_rule.proofs.tasks.StepLeaves.{can-make, hand-planned, on-turn-after, steps-planned}
use Rattle.hwp_core_rule.specs.Known.{Saw, deeds}
use Rattle.hwp_core_rule.proofs.tasks.MadeEntries.{deeds-same}
use Rattle.hwp_core_rule.proofs.tasks.SightKeeps.{saw-load, saw-stays}
use Rattle.hwp_cpu_control.specs.declared.fork.Fork.{Fork}
use Rattle.hwp_cpu_control.specs.declared.fork.ForkAt.{ForkAt}
use Rattle.hwp_cpu_control.specs.declared.fork.ForkAt.TheVariants as at
use Rattle.hwp_cpu_control.specs.declared.fork.ForkAnswer.TheVariants as answers
use Rattle.hwp_cpu_control.specs.declared.fork.Targets.{Targets}
use Rattle.hwp_cpu_control.specs.Prctls.{policy_now, GoesOn}
use Rattle.hwp_cpu_control.specs.Forks.{plan, plan_at, next, next_at, Shows, ShowsAt, after_process, after_targets, at_target, target_at, AreUnset, IsToCopy, IsTarget, Fits, FitsAt, cost, cost_at, task}
use Rattle.hwp_cpu_control.proofs.EmptyHands.{no-frame, no-page, saw-stop}
use Rattle.hwp_cpu_control.proofs.PrctlLaws.{ended-by, set-by, policy-back, page-back, no-page-back}

-- ---- the threads of the child

-- there are more of them than before one of them
pub more-than : (targets : Targets) (n : ℕ) (t : Thread) → target_at targets n ≡ Some t → n < targets.count
more-than targets n t is = which (nat_lt n targets.count) refl
  where
    which : (b : Bool) → nat_lt n targets.count ≡ b → n < targets.count
    which true less = ltb-true n targets.count less
    which false more = absurd (none-some t (sym (ap (λ (b : Bool). cond b (slice_get targets.threads n) None) more) ∙ is))

-- and it stands there
pub target-there : (targets : Targets) (n : ℕ) (t : Thread) → target_at targets n ≡ Some t → slice_get targets.threads n ≡ Some t
target-there targets n t is = which (nat_lt n targets.count) refl
  where
    which : (b : Bool) → nat_lt n targets.count ≡ b → slice_get targets.threads n ≡ Some t
    which true less = sym (ap (λ (b : Bool). cond b (slice_get targets.threads n) None) less) ∙ is
    which false more = absurd (none-some t (sym (ap (λ (b : Bool). cond b (slice_get targets.threads n) None) more) ∙ is))

-- ---- what comes

pub can : (layout : Layout) (view : View) (f : Fork) (step : Step) → Fits layout view f → plan f ≡ Some step → CanMake layout f.who step None view
can layout view f step fits is = which f.at fits.at is
  where
    inside : f.thread.0 < length layout.threads
    inside = slice_get_within layout.threads f.thread.0 fits.decl fits.declared

    which : (x : ForkAt) → FitsAt view f.who f.thread f.process f.targets x → plan_at f.thread f.process x ≡ Some step → CanMake layout f.who step None view
    which at.LoadStop unset e = can-make fits.on_turn e tt tt
    which at.LoadProcess unset e = can-make fits.on_turn e fits.process tt
    which at.LoadPolicy unset e = can-make fits.on_turn e inside tt
    which (at.SetPolicy policy target before) to e =
        let is : IsTarget layout f.who f.thread target = fits.targets.each before target to.0.target_is in
        let none : settings_of target view.settings ≡ [] = to.0.unset before target (omega arith) to.0.target_is in
        can-make fits.on_turn e (slice_get_within layout.threads target.0 is.decl is.declared)
        (record { decl = is.decl; declared = is.declared; own = is.own; number = sym (ap (λ (l : List Setting). length l) none); few = omega arith })
    which (at.Over answer) done e = absurd (none-some step e)

-- ---- what follows

-- a setting of another thread leaves a thread's own
set-other : (old : List Setting) (last : Setting) (t : Thread) → last.thread.0 ≢ t.0 → settings_of t (old ++ last ∷ []) ≡ settings_of t old
set-other old last t other =
    filter-append (λ (s : Setting). s.thread.0 == t.0) old (last ∷ [])
    ∙ ap (λ (b : Bool). settings_of t old ++ cond b (last ∷ []) []) (ne_eqb last.thread.0 t.0 other)
    ∙ append-nil (settings_of t old)

-- where so many threads have got the policy
module _ (f : Fork) (new : View) where
  copied : (policy : Policy) (before : ℕ) → policy ≡ policy_now f.thread new → AreUnset new f.targets before → GoesOn new f.who f.process → FitsAt new f.who f.thread f.process f.targets (at_target f.targets policy before)
  copied policy before is unset goes = which (target_at f.targets before) refl
    where
      which : (o : Option Thread) → target_at f.targets before ≡ o → FitsAt new f.who f.thread f.process f.targets (after_targets policy before o)
      which None e = (goes, is)
      which (Some target) e = (record { target_is = e; policy_is = is; unset = unset }, goes)

module _ {layout : Layout} {old new : View} (f : Fork) {found : ℕ} {got : Option BodyValue} where
  -- after one thread more
  set-one : {policy : Policy} {target : Thread} {before : ℕ} → Steps layout f.who (steps.SetPolicy target policy 0) None old new found got → Fits layout old f → IsToCopy old f.thread f.targets policy target before → GoesOn old f.who f.process
      → FitsAt new f.who f.thread f.process f.targets (at_target f.targets policy (before + 1))
  set-one {policy} {target} {before} made fits to goes = copied f new policy (before + 1) (to.policy_is ∙ same-policy) unset (saw-stays made goes)
    where
      last : Setting
      last = record { stamp = stamp_of f.who (noted f.who old); thread = target; policy = policy }

      other : (t : Thread) → target.0 ≢ t.0 → settings_of t new.settings ≡ settings_of t old.settings
      other t apart = ap (λ (v : View). settings_of t v.settings) made.told.next ∙ set-other old.settings last t apart

      same-policy : policy_now f.thread old ≡ policy_now f.thread new
      same-policy = ap (λ (l : List Setting). last_policy policy_names.Default l) (sym (other f.thread (fits.targets.each before target to.target_is).apart))

      unset : AreUnset new f.targets (before + 1)
      unset n t behind is =
          let later : target.0 < t.0 = fits.targets.rising before n target t to.target_is is (omega arith) in
          other t (λ (e : target.0 ≡ t.0). omega (arith, later, e)) ∙ to.unset n t (omega arith) is

pub both : (layout : Layout) (old new : View) (f : Fork) (step : Step) (found : ℕ) (got : Option BodyValue) → Fits layout old f → plan f ≡ Some step → Steps layout f.who step None old new found got
    → Shows f × Fits layout new (next f found)
both layout old new f step found got fits is made = which f.at fits.at is
  where
    fit : (x : ForkAt) → hand_of new ≡ empty → deeds f.who new ≡ deeds f.who old → FitsAt new f.who f.thread f.process f.targets x → Fits layout new (record f { at = x })
    fit x hand none has = record {
      on_turn = on-turn-after fits.on_turn made;
      hand_is = hand;
      made = none ∙ fits.made;
      decl = fits.decl;
      declared = fits.declared;
      own = fits.own;
      process_is = fits.process_is;
      process = fits.process;
      targets = fits.targets;
      at = has;
    }

    still : new.settings ≡ old.settings → AreUnset old f.targets 0 → AreUnset new f.targets 0
    still same unset n t from is = ap (λ (l : List Setting). settings_of t l) same ∙ unset n t from is

    which : (x : ForkAt) → FitsAt old f.who f.thread f.process f.targets x → plan_at f.thread f.process x ≡ Some step → ShowsAt x × Fits layout new (record f { at = next_at f.targets x found })
    which at.LoadStop unset e = (tt, fit _ (hand-planned made e fits.hand_is) (deeds-same f.who tt own) (by (is_stopped found) refl))
      where
        own : Steps layout f.who (steps.Load places.Stop) None old new found got
        own = steps-planned e made

        by : (b : Bool) → is_stopped found ≡ b → FitsAt new f.who f.thread f.process f.targets (cond b (at.Over answers.Stopped) at.LoadProcess)
        by true is = saw-stop own is
        by false is = still (ap (λ (v : View). v.settings) own.told.next) unset
    which at.LoadProcess unset e = (tt, fit _ (hand-planned made e fits.hand_is) (deeds-same f.who tt own) (by (page_named found) refl))
      where
        own : Steps layout f.who (steps.Load (places.Process f.process)) None old new found got
        own = steps-planned e made

        few : found ≤ page_limit
        few = ended-by layout own.told.board own.told.rule f.process found fits.process own.told.met

        by : (o : Option Page) → page_named found ≡ o → FitsAt new f.who f.thread f.process f.targets (after_process o)
        by None is = (still (ap (λ (v : View). v.settings) own.told.next) unset, subst (Saw new f.who (places.Process f.process)) (no-page-back found is) (saw-load own))
        by (Some page) is = subst (Saw new f.who (places.Process f.process)) (page-back found page few is) (saw-load own)
    which at.LoadPolicy unset e = (
      tt,
      fit _ (hand-planned made e fits.hand_is) (deeds-same f.who tt own)
          (copied f new (words.policy_of found) 0 (policy ∙ ap (λ (l : List Setting). last_policy policy_names.Default (settings_of f.thread l)) (sym same)) (still same unset.0) (saw-stays own unset.1)),
    )
      where
        own : Steps layout f.who (steps.Load (places.Policy f.thread)) None old new found got
        own = steps-planned e made

        same : new.settings ≡ old.settings
        same = ap (λ (v : View). v.settings) own.told.next

        agrees : PolicyAgrees f.thread found (map (λ (v : View). v.sights) own.told.board.views) (settings_of f.thread old.settings)
        agrees = set-by layout own.told.board own.told.rule f.thread fits.decl own.told.seat old f.who found fits.declared fits.own own.told.me fits.on_turn own.told.met

        policy : words.policy_of found ≡ policy_now f.thread old
        policy = ap words.policy_of agrees.now ∙ policy-back (length (settings_of f.thread old.settings)) (policy_now f.thread old)
    which (at.SetPolicy policy target before) to e = (omega (arith, more-than f.targets before target to.0.target_is, fits.targets.few), fit _ (hand-planned made e fits.hand_is) (deeds-same f.who tt own) (set-one f own fits to.0 to.1))
      where
        own : Steps layout f.who (steps.SetPolicy target policy 0) None old new found got
        own = steps-planned e made
    which (at.Over answer) done e = absurd (none-some step e)

pub stays : (layout : Layout) (old new : View) (f : Fork) (step : Step) (found : ℕ) (got : Option BodyValue) → Fits layout old f → plan f ≡ Some step → Steps layout f.who step None old new found got
    → Shows f × ((after : Fork) (result : Turn) → (after ≡ next f found) × (result ≡ Moved) → Fits layout new after × (after.who.cpu ≡ f.who.cpu))
stays layout old new f step found got fits is made =
    let follows = both layout old new f step found got fits is made in
    (follows.0, λ after result is. (subst (Fits layout new) (sym is.0) follows.1, ap (λ (x : Fork). x.who.cpu) is.0))

-- ---- that it ends

-- behind so many threads there are fewer turns left than this
after-few : (targets : Targets) (policy : Policy) (before most : ℕ) → targets.count - before + 1 < most → cost_at targets.count (at_target targets policy before) < most
after-few targets policy before most less = which (target_at targets before)
  where
    which : (o : Option Thread) → cost_at targets.count (after_targets policy before o) < most
    which None = omega arith
    which (Some target) = less

pub falls : (f : Fork) (step : Step) (found : ℕ) → (unset : (policy : Policy) (target : Thread) (before : ℕ) → f.at ≡ at.SetPolicy policy target before → before < f.targets.count) → plan f ≡ Some step → cost (next f found) < cost f
falls f step found unset is = which f.at refl is
  where
    count : ℕ
    count = f.targets.count

    by-stop : (b : Bool) → cost_at count (cond b (at.Over answers.Stopped) at.LoadProcess) < count + 4
    by-stop true = omega arith
    by-stop false = omega arith

    by-process : (o : Option Page) → cost_at count (after_process o) < count + 3
    by-process None = omega arith
    by-process (Some page) = omega arith

    which : (x : ForkAt) → f.at ≡ x → plan_at f.thread f.process x ≡ Some step → cost_at count (next_at f.targets x found) < cost_at count x
    which at.LoadStop at_is e = by-stop (is_stopped found)
    which at.LoadProcess at_is e = by-process (page_named found)
    which at.LoadPolicy at_is e = after-few f.targets (words.policy_of found) 0 (count + 2) (omega arith)
    which (at.SetPolicy policy target before) at_is e =
        let less : before < f.targets.count = unset policy target before at_is in
        after-few f.targets policy (before + 1) (count - before + 1) (omega (arith, less))
    which (at.Over answer) at_is e = absurd (none-some step e)

-- a thread that is set is one of the child's
pub some-left : (layout : Layout) (view : View) (f : Fork) → Fits layout view f → (policy : Policy) (target : Thread) (before : ℕ) → f.at ≡ at.SetPolicy policy target before → before < f.targets.count
some-left layout view f fits policy target before is =
    let to : FitsAt view f.who f.thread f.process f.targets (at.SetPolicy policy target before) = subst (FitsAt view f.who f.thread f.process f.targets) is fits.at in
    more-than f.targets before target to.0.target_is

pub small : (f : Fork) → cost f ≤ f.targets.count + 4
small f = which f.at
  where
    which : (x : ForkAt) → cost_at f.targets.count x ≤ f.targets.count + 4
    which at.LoadStop = omega arith
    which at.LoadProcess = omega arith
    which at.LoadPolicy = omega arith
    which (at.SetPolicy policy target before) = omega arith
    which (at.Over answer) = omega arith

-- none of its steps poisons a frame or takes its poison back
pub mild : (f : Fork) (step : Step) → plan f ≡ Some step → IsMild step
mild f step is = which f.at is
  where
    which : (x : ForkAt) → plan_at f.thread f.process x ≡ Some step → IsMild step
    which at.LoadStop e = subst IsMild (same_Some (steps.Load places.Stop) step e) tt
    which at.LoadProcess e = subst IsMild (same_Some (steps.Load (places.Process f.process)) step e) tt
    which at.LoadPolicy e = subst IsMild (same_Some (steps.Load (places.Policy f.thread)) step e) tt
    which (at.SetPolicy policy target before) e = subst IsMild (same_Some (steps.SetPolicy target policy 0) step e) tt
    which (at.Over answer) e = absurd (none-some step e)

pub ranked : IsRanked task
ranked = rank-of task (λ f. refl) (λ f. (omega arith, omega arith)) (λ layout a seat f rule fits. let most : cost f ≤ f.targets.count + 4 = small f in let few : f.targets.count ≤ thread_limit = fits.targets.few in omega arith)
    (λ layout seat a b s t turn made goes. subst (λ (x : Fork). cost x < cost s) (sym made.follows.0) (falls s made.step made.found (some-left layout (view_of a seat) s made.fits) made.planned))
    (λ layout seat a b s t turn made is quiet. absurd (both_ways true (sym is ∙ ap is_waits made.follows.1) refl))
    (λ f. refl) mild

pub tells : TellsClass task
tells = record {
  frame = λ layout view f fits has. absurd (no-frame view fits.hand_is has);
  page = λ layout view f fits has. absurd (no-page view fits.hand_is has);
  claim = λ layout view f frame cycle fits claims. absurd (none-some _ claims);
}
