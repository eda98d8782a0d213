-- The laws of `Prctl`.
use Rattle.std.proofs.Common.{◌≡◌, ◌≢◌, ℕ, ◌+◌, ◌-◌, ◌%◌, ◌/◌, ◌^◌, ◌<◌, ◌≤◌, ◌==◌, eq-eqb, Bool, true, false, cond, List, [], ◌∷◌, ◌++◌, Option, Some, None, map, length, slice_get, slice_index, refl, sym, ap, ◌∙◌, subst, arith}
use Rattle.std.proofs.lemmas.Bool.{both_ways, eqb-true, eqb-false}
use Rattle.std.proofs.lemmas.List.Elements.{filter-append}
use Rattle.std.proofs.lemmas.Option.{none-some, same_Some, slice_get_within}
use Rattle.hwp_core_rule.specs.hwp_geom.declared.Layout.{Layout}
use Rattle.hwp_core_rule.specs.hwp_geom.declared.Page.{Page}
use Rattle.hwp_core_rule.specs.hwp_geom.declared.Proc.{Proc}
use Rattle.hwp_core_rule.specs.hwp_geom.declared.Thread.{Thread}
use Rattle.hwp_core_rule.specs.hwp_geom.declared.ThreadDecl.{ThreadDecl}
use Rattle.hwp_core_rule.specs.hwp_geom.declared.Who.{Who}
use Rattle.hwp_core_rule.specs.hwp_geom.Limits.{command_limit, page_limit}
use Rattle.hwp_core_rule.specs.hwp_kill.declared.Policy.{Policy}
use Rattle.hwp_core_rule.specs.hwp_kill.declared.Policy.TheVariants as policy_names
use Rattle.hwp_core_rule.specs.hwp_kill.declared.Reply.{Reply}
use Rattle.hwp_core_rule.specs.hwp_kill.declared.Reply.TheVariants as replies
use Rattle.hwp_core_rule.specs.hwp_kill.Prctl.{reply}
use Rattle.hwp_core_rule.specs.hwp_page.History.{BodyValue}
use Rattle.hwp_core_rule.specs.hwp_words.Names.{page_named}
use Rattle.hwp_core_rule.specs.hwp_words.Policies as words
use Rattle.hwp_core_rule.specs.hwp_words.Stops.{is_stopped}
use Rattle.hwp_core_rule.specs.declared.SharedWord.TheVariants as places
use Rattle.hwp_core_rule.specs.declared.Setting.{Setting}
use Rattle.hwp_core_rule.specs.declared.State.{State}
use Rattle.hwp_core_rule.specs.declared.Step.{Step}
use Rattle.hwp_core_rule.specs.declared.Step.TheVariants as steps
use Rattle.hwp_core_rule.specs.declared.View.{View}
use Rattle.hwp_core_rule.specs.Rule.{Holds}
use Rattle.hwp_core_rule.specs.Lasting.{IsMild}
use Rattle.hwp_core_rule.specs.Steps.{policy_at}
use Rattle.hwp_core_rule.specs.Views.{noted, stamp_of}
use Rattle.hwp_core_rule.specs.Words.{index, words_of}
use Rattle.hwp_core_rule.specs.parts.Policies.{last_policy, settings_of, PolicyAgrees}
use Rattle.hwp_core_rule.proofs.Lists.{at_map}
use Rattle.hwp_core_rule.proofs.MoveKeeps.{shaped}
use Rattle.hwp_core_rule.proofs.WordsByKind.{word-there, words-read}
use Rattle.hwp_core_rule.specs.declared.Turn.{Turn}
use Rattle.hwp_core_rule.specs.declared.Turn.TheVariants.{Moved}
use Rattle.hwp_core_rule.specs.Calls.{CanMake, Steps, IsOnTurn}
use Rattle.hwp_core_rule.specs.Hands.{hand_of, empty}
use Rattle.hwp_core_rule.specs.Ranks.{IsRanked, is_waits}
use Rattle.hwp_core_rule.specs.Classes.{TellsClass}
use Rattle.hwp_core_rule.proofs.tasks.StepRanks.{rank-of}
use Rattle.hwp_core_rule.proofs.tasks.StepLeaves.{can-make, hand-planned, on-turn-after, steps-planned}
use Rattle.hwp_core_rule.specs.Known.{Saw, deeds}
use Rattle.hwp_core_rule.proofs.tasks.MadeEntries.{deeds-same}
use Rattle.hwp_core_rule.proofs.tasks.SightKeeps.{saw-load, saw-stays}
use Rattle.hwp_cpu_control.specs.declared.prctl.Prctl.{Prctl}
use Rattle.hwp_cpu_control.specs.declared.prctl.PrctlAt.{PrctlAt}
use Rattle.hwp_cpu_control.specs.declared.prctl.PrctlAt.TheVariants as at
use Rattle.hwp_cpu_control.specs.declared.prctl.PrctlAnswer.TheVariants as answers
use Rattle.hwp_cpu_control.specs.Prctls.{plan, plan_at, next, next_at, Shows, ShowsAt, after_process, after_reply, policy_now, HasSettingLeft, IsToSet, HasSet, GoesOn, Fits, FitsAt, cost, cost_at, task}
use Rattle.hwp_cpu_control.proofs.EmptyHands.{no-frame, no-page, saw-stop}

-- ---- the words that a call reads

module _ (layout : Layout) (s : State) (h : Holds layout s) where
  -- the word of a process is 0 or names a page of the layout
  pub ended-by : (process : Proc) (found : ℕ) → process.0 < layout.procs → found ≡ slice_index s.words (index layout (places.Process process)) → found ≤ page_limit
  ended-by process found inside met =
      let named : slice_index (words_of layout s.words).processes process.0 ≤ length layout.pages =
      h.rule.histories.endings.named process.0 (slice_index (words_of layout s.words).processes process.0) (word-there (words_of layout s.words).processes process.0 layout.procs (shaped layout s h).processes inside) in
      let same : found ≡ slice_index (words_of layout s.words).processes process.0 = met ∙ sym (words-read layout s.words (places.Process process) inside) in
      let few : length layout.pages ≤ page_limit = h.sound.pages in
      omega arith

  -- the word of a thread's policy says what its processor's view lists
  pub set-by : (thread : Thread) (decl : ThreadDecl) (seat : ℕ) (view : View) (who : Who) (found : ℕ) → slice_get layout.threads thread.0 ≡ Some decl → decl.cpu ≡ who.cpu → slice_get s.views seat ≡ Some view → IsOnTurn view who
      → found ≡ slice_index s.words (index layout (places.Policy thread)) → PolicyAgrees thread found (map (λ (v : View). v.sights) s.views) (settings_of thread view.settings)
  set-by thread decl seat view who found declared own me on met =
      let inside : thread.0 < length layout.threads = slice_get_within layout.threads thread.0 decl declared in
      subst (λ (n : ℕ). PolicyAgrees thread n (map (λ (v : View). v.sights) s.views) (settings_of thread view.settings)) (words-read layout s.words (places.Policy thread) inside ∙ sym met)
      (h.rule.processors.policies.agrees thread decl (slice_index (words_of layout s.words).policies thread.0) declared
      (word-there (words_of layout s.words).policies thread.0 (length layout.threads) (shaped layout s h).policies inside) seat (view.parts, view.settings)
      (at_map (λ (v : View). (v.parts, v.settings)) s.views seat view me) (on.turn.part.0, on.turn.part.1, on.turn.part.2, on.turn.part.3.0 ∙ sym own))

-- a policy word gives back its number of settings and its policy
settings-back : (n : ℕ) (p : Policy) → n ≤ command_limit → words.settings_of (policy_at n p) ≡ n
settings-back n policy_names.Late few = omega arith
settings-back n policy_names.Early few = omega arith
settings-back n policy_names.Default few = omega arith

pub policy-back : (n : ℕ) (p : Policy) → words.policy_of (policy_at n p) ≡ p
policy-back n policy_names.Late = let low : policy_at n policy_names.Late / 2 ^ 0 % 2 ^ 2 ≡ 0 = omega arith in ap words.policy_coded low
policy-back n policy_names.Early = let low : policy_at n policy_names.Early / 2 ^ 0 % 2 ^ 2 ≡ 1 = omega arith in ap words.policy_coded low
policy-back n policy_names.Default = let low : policy_at n policy_names.Default / 2 ^ 0 % 2 ^ 2 ≡ 2 = omega arith in ap words.policy_coded low

small-word : (n : ℕ) (p : Policy) → n ≤ command_limit → policy_at n p < 2 ^ 34
small-word n policy_names.Late few = omega arith
small-word n policy_names.Early few = omega arith
small-word n policy_names.Default few = omega arith

-- the page that a process word names
pub page-back : (found : ℕ) (page : Page) → found ≤ page_limit → page_named found ≡ Some page → found ≡ page.0 + 1
page-back found page few is = which (found == 0) refl
  where
    which : (b : Bool) → (found == 0) ≡ b → found ≡ page.0 + 1
    which true zero = absurd (none-some page (sym (ap (λ (n : ℕ). page_named n) (eqb-true found 0 zero)) ∙ is))
    which false some =
        let back : Some (record { 0 = (found - 1) % 2 ^ 16 }) ≡ Some page = sym (ap (λ (b : Bool). cond b None (Some (record { 0 = (found - 1) % 2 ^ 16 }))) some) ∙ is in
        let number : (found - 1) % 2 ^ 16 ≡ page.0 = ap (λ (p : Page). p.0) (same_Some (record { 0 = (found - 1) % 2 ^ 16 }) page back) in
        let above : found ≢ 0 = eqb-false found 0 some in
        omega arith

pub no-page-back : (found : ℕ) → page_named found ≡ None → found ≡ 0
no-page-back found is = which (found == 0) refl
  where
    which : (b : Bool) → (found == 0) ≡ b → found ≡ 0
    which true zero = eqb-true found 0 zero
    which false some = absurd (none-some (record { 0 = (found - 1) % 2 ^ 16 }) (sym is ∙ ap (λ (b : Bool). cond b None (Some (record { 0 = (found - 1) % 2 ^ 16 }))) some))

-- ---- what comes

pub can : (layout : Layout) (view : View) (p : Prctl) (step : Step) → Fits layout view p → plan p ≡ Some step → CanMake layout p.who step None view
can layout view p step fits is = which p.at fits.at is
  where
    inside : p.thread.0 < length layout.threads
    inside = slice_get_within layout.threads p.thread.0 fits.decl fits.declared

    which : (x : PrctlAt) → FitsAt view p.who p.thread p.process p.arguments x → plan_at p.thread p.process x ≡ Some step → CanMake layout p.who step None view
    which at.LoadStop left e = can-make fits.on_turn e tt tt
    which at.LoadProcess left e = can-make fits.on_turn e fits.process tt
    which at.LoadPolicy left e = can-make fits.on_turn e inside tt
    which (at.SetPolicy policy settings) set e = can-make fits.on_turn e inside (record { decl = fits.decl; declared = fits.declared; own = fits.own; number = set.0.number; few = subst (λ (n : ℕ). n < command_limit) (sym set.0.number) set.0.few })
    which (at.Over answer) done e = absurd (none-some step e)

-- ---- what follows

module _ {layout : Layout} {old new : View} (p : Prctl) {found : ℕ} {got : Option BodyValue} where
  -- what a policy that was read leads to
  replied : Steps layout p.who (steps.Load (places.Policy p.thread)) None old new found got → Fits layout old p → HasSettingLeft p.thread old → GoesOn old p.who p.process → (r : Reply) → reply (policy_now p.thread old) p.arguments ≡ r
      → words.settings_of found ≡ length (settings_of p.thread old.settings) → FitsAt new p.who p.thread p.process p.arguments (after_reply (words.settings_of found) r)
  replied made fits left goes (replies.Set policy) says number = (
    record {
      number = number ∙ ap (λ (l : List Setting). length (settings_of p.thread l)) (sym settings);
      few = subst (λ (l : List Setting). length (settings_of p.thread l) < command_limit) (sym settings) left;
      says = ap (λ (l : List Setting). reply (last_policy policy_names.Default (settings_of p.thread l)) p.arguments) settings ∙ says;
    },
    saw-stays made goes,
  )
    where
      settings : new.settings ≡ old.settings
      settings = ap (λ (v : View). v.settings) made.told.next
  replied made fits left goes (replies.Is policy) says number = (saw-stays made goes, ap (λ (l : List Setting). reply (last_policy policy_names.Default (settings_of p.thread l)) p.arguments) (ap (λ (v : View). v.settings) made.told.next) ∙ says)
  replied made fits left goes replies.Einval says number = (saw-stays made goes, ap (λ (l : List Setting). reply (last_policy policy_names.Default (settings_of p.thread l)) p.arguments) (ap (λ (v : View). v.settings) made.told.next) ∙ says)

  -- the settings after one more
  set-more : {policy : Policy} {settings : ℕ} → Steps layout p.who (steps.SetPolicy p.thread policy settings) None old new found got → IsToSet old p.thread p.arguments policy settings → HasSet new p.who p.thread p.arguments policy
  set-more {policy} {settings} made set = record {
    before = settings_of p.thread old.settings;
    last = last;
    all = ap (λ (v : View). settings_of p.thread v.settings) made.told.next
        ∙ filter-append (λ (s : Setting). s.thread.0 == p.thread.0) old.settings (last ∷ [])
        ∙ ap (λ (b : Bool). settings_of p.thread old.settings ++ cond b (last ∷ []) []) (eq-eqb p.thread.0 p.thread.0 refl);
    own = refl;
    policy_is = refl;
    says = set.says;
  }
    where
      last : Setting
      last = record { stamp = stamp_of p.who (noted p.who old); thread = p.thread; policy = policy }

pub both : (layout : Layout) (old new : View) (p : Prctl) (step : Step) (found : ℕ) (got : Option BodyValue) → Fits layout old p → plan p ≡ Some step → Steps layout p.who step None old new found got
    → Shows p found × Fits layout new (next p found)
both layout old new p step found got fits is made = which p.at fits.at is
  where
    fit : (x : PrctlAt) → hand_of new ≡ empty → deeds p.who new ≡ deeds p.who old → FitsAt new p.who p.thread p.process p.arguments x → Fits layout new (record p { at = x })
    fit x hand none has = record {
      on_turn = on-turn-after fits.on_turn made;
      hand_is = hand;
      made = none ∙ fits.made;
      decl = fits.decl;
      declared = fits.declared;
      own = fits.own;
      process_is = fits.process_is;
      process = fits.process;
      at = has;
    }

    which : (x : PrctlAt) → FitsAt old p.who p.thread p.process p.arguments x → plan_at p.thread p.process x ≡ Some step → ShowsAt x found × Fits layout new (record p { at = next_at p.arguments x found })
    which at.LoadStop left e = (tt, fit _ (hand-planned made e fits.hand_is) (deeds-same p.who tt own) (by (is_stopped found) refl))
      where
        own : Steps layout p.who (steps.Load places.Stop) None old new found got
        own = steps-planned e made

        by : (b : Bool) → is_stopped found ≡ b → FitsAt new p.who p.thread p.process p.arguments (cond b (at.Over answers.Stopped) at.LoadProcess)
        by true is = saw-stop own is
        by false is = subst (λ (l : List Setting). length (settings_of p.thread l) < command_limit) (sym (ap (λ (v : View). v.settings) own.told.next)) left
    which at.LoadProcess left e = (tt, fit _ (hand-planned made e fits.hand_is) (deeds-same p.who tt own) (by (page_named found) refl))
      where
        own : Steps layout p.who (steps.Load (places.Process p.process)) None old new found got
        own = steps-planned e made

        few : found ≤ page_limit
        few = ended-by layout own.told.board own.told.rule p.process found fits.process own.told.met

        by : (o : Option Page) → page_named found ≡ o → FitsAt new p.who p.thread p.process p.arguments (after_process o)
        by None is = (
          subst (λ (l : List Setting). length (settings_of p.thread l) < command_limit) (sym (ap (λ (v : View). v.settings) own.told.next)) left,
          subst (Saw new p.who (places.Process p.process)) (no-page-back found is) (saw-load own),
        )
        by (Some page) is = subst (Saw new p.who (places.Process p.process)) (page-back found page few is) (saw-load own)
    which at.LoadPolicy left e = (
      small,
      fit _ (hand-planned made e fits.hand_is) (deeds-same p.who tt own)
          (replied p own fits left.0 left.1 (reply (words.policy_of found) p.arguments) (ap (λ (x : Policy). reply x p.arguments) (sym policy)) number),
    )
      where
        own : Steps layout p.who (steps.Load (places.Policy p.thread)) None old new found got
        own = steps-planned e made

        agrees : PolicyAgrees p.thread found (map (λ (v : View). v.sights) own.told.board.views) (settings_of p.thread old.settings)
        agrees = set-by layout own.told.board own.told.rule p.thread fits.decl own.told.seat old p.who found fits.declared fits.own own.told.me fits.on_turn own.told.met

        number : words.settings_of found ≡ length (settings_of p.thread old.settings)
        number = ap words.settings_of agrees.now ∙ settings-back (length (settings_of p.thread old.settings)) (policy_now p.thread old) agrees.few

        policy : words.policy_of found ≡ policy_now p.thread old
        policy = ap words.policy_of agrees.now ∙ policy-back (length (settings_of p.thread old.settings)) (policy_now p.thread old)

        small : found < 2 ^ 34
        small = subst (λ (n : ℕ). n < 2 ^ 34) (sym agrees.now) (small-word (length (settings_of p.thread old.settings)) (policy_now p.thread old) agrees.few)
    which (at.SetPolicy policy settings) set e = (tt, fit _ (hand-planned made e fits.hand_is) (deeds-same p.who tt own) (saw-stays own set.1, set-more p own set.0))
      where
        own : Steps layout p.who (steps.SetPolicy p.thread policy settings) None old new found got
        own = steps-planned e made
    which (at.Over answer) done e = absurd (none-some step e)

pub stays : (layout : Layout) (old new : View) (p : Prctl) (step : Step) (found : ℕ) (got : Option BodyValue) → Fits layout old p → plan p ≡ Some step → Steps layout p.who step None old new found got
    → Shows p found × ((after : Prctl) (result : Turn) → (after ≡ next p found) × (result ≡ Moved) → Fits layout new after × (after.who.cpu ≡ p.who.cpu))
stays layout old new p step found got fits is made =
    let follows = both layout old new p step found got fits is made in
    (follows.0, λ after result is. (subst (Fits layout new) (sym is.0) follows.1, ap (λ (x : Prctl). x.who.cpu) is.0))

-- ---- that it ends

pub falls : (p : Prctl) (step : Step) (found : ℕ) → plan p ≡ Some step → cost (next p found) < cost p
falls p step found is = which p.at is
  where
    by-stop : (b : Bool) → cost_at (cond b (at.Over answers.Stopped) at.LoadProcess) < 4
    by-stop true = omega arith
    by-stop false = omega arith

    by-process : (o : Option Page) → cost_at (after_process o) < 3
    by-process None = omega arith
    by-process (Some page) = omega arith

    by-reply : (n : ℕ) (r : Reply) → cost_at (after_reply n r) < 2
    by-reply n (replies.Set policy) = omega arith
    by-reply n (replies.Is policy) = omega arith
    by-reply n replies.Einval = omega arith

    which : (x : PrctlAt) → plan_at p.thread p.process x ≡ Some step → cost_at (next_at p.arguments x found) < cost_at x
    which at.LoadStop e = by-stop (is_stopped found)
    which at.LoadProcess e = by-process (page_named found)
    which at.LoadPolicy e = by-reply (words.settings_of found) (reply (words.policy_of found) p.arguments)
    which (at.SetPolicy policy settings) e = omega arith
    which (at.Over answer) e = absurd (none-some step e)

pub small : (p : Prctl) → cost p ≤ 4
small p = which p.at
  where
    which : (x : PrctlAt) → cost_at x ≤ 4
    which at.LoadStop = omega arith
    which at.LoadProcess = omega arith
    which at.LoadPolicy = omega arith
    which (at.SetPolicy policy settings) = omega arith
    which (at.Over answer) = omega arith

-- none of its steps poisons a frame or takes its poison back
pub mild : (s : Prctl) (step : Step) → plan s ≡ Some step → IsMild step
mild s step is = which s.at is
  where
    which : (x : PrctlAt) → plan_at s.thread s.process x ≡ Some step → IsMild step
    which at.LoadStop e = subst IsMild (same_Some (steps.Load places.Stop) step e) tt
    which at.LoadProcess e = subst IsMild (same_Some (steps.Load (places.Process s.process)) step e) tt
    which at.LoadPolicy e = subst IsMild (same_Some (steps.Load (places.Policy s.thread)) step e) tt
    which (at.SetPolicy policy settings) e = subst IsMild (same_Some (steps.SetPolicy s.thread policy settings) step e) tt
    which (at.Over answer) e = absurd (none-some step e)

pub ranked : IsRanked task
ranked = rank-of task (λ s. refl) (λ s. (omega arith, omega arith)) (λ layout a seat s rule fits. let few : cost s ≤ 4 = small s in omega arith)
    (λ layout seat a b s t turn made goes. subst (λ (x : Prctl). cost x < cost s) (sym made.follows.0) (falls s made.step made.found made.planned))
    (λ layout seat a b s t turn made is quiet. absurd (both_ways true (sym is ∙ ap is_waits made.follows.1) refl))
    (λ s. refl) mild

pub tells : TellsClass task
tells = record {
  frame = λ layout view s fits has. absurd (no-frame view fits.hand_is has);
  page = λ layout view s fits has. absurd (no-page view fits.hand_is has);
  claim = λ layout view s frame cycle fits claims. absurd (none-some _ claims);
}
