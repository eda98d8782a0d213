-- A policy that is set keeps the frame rule.
use Rattle.std.proofs.Common.{◌≡◌, ◌≢◌, ℕ, ◌+◌, ◌<◌, ◌≤◌, ◌==◌, eq-eqb, ne_eqb, Bool, true, false, cond, List, [], ◌∷◌, ◌++◌, Some, map, set, take, length, append-nil, slice_get, slice_index, inl, inr, refl, sym, ap, ◌∙◌, subst, arith}
use Rattle.std.proofs.lemmas.List.{length-append, take-append-le}
use Rattle.std.proofs.lemmas.List.Elements.{filter-append}
use Rattle.std.proofs.lemmas.Option.{same_Some}
use Rattle.hwp_page.specs.hwp_geom.declared.Thread.{Thread}
use Rattle.hwp_page.specs.hwp_geom.declared.ThreadDecl.{ThreadDecl}
use Rattle.hwp_page.specs.hwp_geom.Limits.{command_limit}
use Rattle.hwp_page.specs.hwp_kill.declared.Policy.{Policy}
use Rattle.hwp_core_rule.specs.declared.view.Part.{Part}
use Rattle.hwp_core_rule.specs.declared.view.Setting.{Setting}
use Rattle.hwp_core_rule.specs.declared.view.Sight.{Sight}
use Rattle.hwp_core_rule.specs.declared.view.View.{View}
use Rattle.hwp_core_rule.specs.Lists.{EachMember}
use Rattle.hwp_core_rule.specs.Rule.{FrameRule}
use Rattle.hwp_core_rule.specs.Steps.{policy_at}
use Rattle.hwp_core_rule.specs.Views.{stamp_of}
use Rattle.hwp_core_rule.specs.parts.Holdings.{AreOwn, IsPast}
use Rattle.hwp_core_rule.specs.parts.Policies.{PoliciesListed, PolicyAgrees, IsSetByOwn, IsOf, settings_of, last_policy, policy_after}
use Rattle.hwp_core_rule.proofs.Keeps.{Keeps}
use Rattle.hwp_core_rule.proofs.Lists.{change, keep, at_map, at_set, map-was, each-set, each-push, each-weaken}
use Rattle.hwp_core_rule.proofs.WordsByKind.{word-there}
use Rattle.hwp_core_rule.proofs.NotLater.{one-view}
use Rattle.hwp_page.specs.hwp_kill.declared.Policy.TheVariants as policy_names
use Rattle.hwp_core_rule.specs.declared.shared_word.SharedWord.TheVariants as places
use Rattle.hwp_core_rule.specs.declared.step.Step.TheVariants as steps
use Rattle.hwp_core_rule.proofs.PartKeeps

-- the last policy is the one that was set last
last-set : (policy : Policy) (list : List Setting) (s : Setting) → last_policy policy (list ++ s ∷ []) ≡ s.policy
last-set policy [] s = refl
last-set policy (x ∷ xs) s = last-set x.policy xs s

module _ (t : Thread) (list : List Setting) (s : Setting) where
  one-setting : (b : Bool) → (s.thread.0 == t.0) ≡ b → settings_of t (s ∷ []) ≡ cond b (s ∷ []) []
  one-setting b is = ap (λ (b : Bool). cond b (s ∷ []) []) is

  set-own : s.thread.0 ≡ t.0 → settings_of t (list ++ s ∷ []) ≡ settings_of t list ++ s ∷ []
  set-own same = filter-append (λ (s : Setting). s.thread.0 == t.0) list (s ∷ []) ∙ ap (λ (more : List Setting). settings_of t list ++ more) (one-setting true (eq-eqb s.thread.0 t.0 same))

  set-other : s.thread.0 ≢ t.0 → settings_of t (list ++ s ∷ []) ≡ settings_of t list
  set-other differs = filter-append (λ (s : Setting). s.thread.0 == t.0) list (s ∷ []) ∙ ap (λ (more : List Setting). settings_of t list ++ more) (one-setting false (ne_eqb s.thread.0 t.0 differs)) ∙ append-nil (settings_of t list)

-- the word after one setting more agrees with the settings
agrees-more : (thread : Thread) (word : ℕ) (sights : List (List Sight)) (list : List Setting) (s : Setting) → length list + 1 ≤ command_limit → PolicyAgrees thread word sights list
    → PolicyAgrees thread (policy_at (length list + 1) s.policy) sights (list ++ s ∷ [])
agrees-more thread word sights list s few was = record {
  now = ap (λ (n : ℕ). policy_at n s.policy) (sym longer) ∙ ap (policy_at (length (list ++ s ∷ []))) (sym (last-set policy_names.Default list s));
  few = omega (arith, longer, few);
  shown = each-weaken (EachMember (IsSome list)) (EachMember (IsSome (list ++ s ∷ []))) sights
      (λ l each. each-weaken (IsSome list) (IsSome (list ++ s ∷ [])) l (λ x some e. more (some e)) each) was.shown;
}
  where
    IsSome : List Setting → Sight → Type 0
    IsSome list x = x.place ≡ places.Policy thread → (n : ℕ) × (n ≤ length list) × (x.word ≡ policy_after (take n list))

    longer : length (list ++ s ∷ []) ≡ length list + 1
    longer = length-append list (s ∷ [])

    more : {n : ℕ} → (k : ℕ) × (k ≤ length list) × (n ≡ policy_after (take k list)) → (k : ℕ) × (k ≤ length (list ++ s ∷ [])) × (n ≡ policy_after (take k (list ++ s ∷ [])))
    more some = (some.0, omega (arith, longer, some.1), some.2 ∙ ap policy_after (sym (take-append-le some.0 list (s ∷ []) some.1)))

pub keeps-set_policy : (thread : Thread) (policy : Policy) (settings : ℕ) → Keeps (steps.SetPolicy thread policy settings)
keeps-set_policy thread policy settings layout w homes views seat v who content given = record {
  frames = PartKeeps.same-frames views seat v u me refl h.frames;
  pages = PartKeeps.same-pages views seat v u me refl h.pages;
  histories = PartKeeps.same-histories views seat v u me refl h.histories;
  failures = PartKeeps.same-failures views seat v u me refl h.failures;
  processors = record {
    policies = keep (λ (v : View). v.sights) (λ l. PoliciesListed layout.threads (set w.policies thread.0 word) (map (λ (v : View). (v.parts, v.settings)) (set views seat u)) l) views seat v u me refl
        (change (λ (v : View). (v.parts, v.settings)) (λ l. PoliciesListed layout.threads (set w.policies thread.0 word) l sights) views seat u (record { own = own-set; agrees = agrees }));
    stops = PartKeeps.kept-stops views seat v u me refl refl refl h.processors.stops;
    processors = PartKeeps.kept-processors views seat v u me refl h.processors.processors;
    commands = PartKeeps.kept-commands views seat v u me (record { made = own.made; marks = own.marks; sights = own.sights; lengths = own.lengths; settings = each-push (λ (s : Setting). IsPast v.parts s.stamp.who) v.settings new given.past own.settings; stops = own.stops }) h.processors.commands;
  };
}
  where
    word : ℕ
    word = policy_at (settings + 1) policy

    new : Setting
    new = record { stamp = stamp_of who v; thread = thread; policy = policy }

    u : View
    u = record v { settings = v.settings ++ new ∷ [] }

    me : slice_get views seat ≡ Some v
    me = given.me

    h : FrameRule layout w homes views
    h = given.rule

    own : AreOwn v
    own = h.processors.commands.own seat v me

    sights : List (List Sight)
    sights = map (λ (v : View). v.sights) views

    lists : List (List Part × List Setting)
    lists = map (λ (v : View). (v.parts, v.settings)) views

    parts : List (List Part)
    parts = map (λ (v : View). v.parts) views

    own-set : EachMember (λ (y : List Part × List Setting). EachMember (IsSetByOwn layout.threads) y.1) (set lists seat (v.parts, u.settings))
    own-set = each-set (λ (y : List Part × List Setting). EachMember (IsSetByOwn layout.threads) y.1) lists seat (v.parts, u.settings)
        (each-push (IsSetByOwn layout.threads) v.settings new (record { decl = given.asks.decl; declared = given.asks.declared; own = given.asks.own })
        (h.processors.policies.own seat (v.parts, v.settings) (at_map (λ (v : View). (v.parts, v.settings)) views seat v me))) h.processors.policies.own

    -- the settings of the thread with the new one
    now : PolicyAgrees thread word sights (settings_of thread u.settings)
    now =
        let was : PolicyAgrees thread (slice_index w.policies thread.0) sights (settings_of thread v.settings) =
        h.processors.policies.agrees thread given.asks.decl (slice_index w.policies thread.0) given.asks.declared (word-there w.policies thread.0 (length layout.threads) given.shaped.policies given.place) seat (v.parts, v.settings)
        (at_map (λ (v : View). (v.parts, v.settings)) views seat v me) (given.past.0, given.past.1, given.past.2, given.past.3.0 ∙ sym given.asks.own) in
        let number : settings ≡ length (settings_of thread v.settings) = given.asks.number in
        let few : settings < command_limit = given.asks.few in
        subst (λ (l : List Setting). PolicyAgrees thread word sights l) (sym (set-own thread v.settings new refl))
        (subst (λ (n : ℕ). PolicyAgrees thread (policy_at (n + 1) policy) sights (settings_of thread v.settings ++ new ∷ [])) (sym number)
        (agrees-more thread (slice_index w.policies thread.0) sights (settings_of thread v.settings) new (omega arith) was))

    -- the thread's processor is part of no other view
    one_seat : (d : ThreadDecl) (i : ℕ) (y : List Part × List Setting) → slice_get layout.threads thread.0 ≡ Some d → slice_get lists i ≡ Some y → IsOf d.cpu y.0 → i ≡ seat
    one_seat d i y declared is of =
        let was : (x : View) × (slice_get views i ≡ Some x) × ((x.parts, x.settings) ≡ y) = map-was (λ (v : View). (v.parts, v.settings)) views i y is in
        let decl : d ≡ given.asks.decl = same_Some d given.asks.decl (sym declared ∙ given.asks.declared) in
        let cpus : of.1.cpu ≡ given.past.1.cpu = of.3 ∙ ap (λ (d : ThreadDecl). d.cpu) decl ∙ given.asks.own ∙ sym given.past.3.0 in
        one-view layout parts h.processors.processors i seat of.0 given.past.0 y.0 v.parts of.1 given.past.1
        (subst (λ (z : List Part × List Setting). slice_get parts i ≡ Some z.0) was.2 (at_map (λ (v : View). v.parts) views i was.0 was.1))
        (at_map (λ (v : View). v.parts) views seat v me) of.2 given.past.2 cpus

    agrees : (t : Thread) (d : ThreadDecl) (x : ℕ) → slice_get layout.threads t.0 ≡ Some d → slice_get (set w.policies thread.0 word) t.0 ≡ Some x
        → EachMember (λ (y : List Part × List Setting). IsOf d.cpu y.0 → PolicyAgrees t x sights (settings_of t y.1)) (set lists seat (v.parts, u.settings))
    agrees t d x declared there i y is of = elim (at_set w.policies thread.0 t.0 word x there) [
      | inl this ↦ elim (at_set lists seat i (v.parts, u.settings) y is) [
        | inl mine ↦ subst (λ (z : List Part × List Setting). PolicyAgrees t x sights (settings_of t z.1)) mine.1
            (subst (λ (n : ℕ). PolicyAgrees t n sights (settings_of t u.settings)) this.1
            (subst (λ (t : Thread). PolicyAgrees t word sights (settings_of t u.settings)) (λ k. record { 0 = sym this.0 k }) now))
        | inr theirs ↦ absurd (theirs.0 (one_seat d i y (subst (λ (n : ℕ). slice_get layout.threads n ≡ Some d) this.0 declared) theirs.1 of))
      ]
      | inr another ↦ elim (at_set lists seat i (v.parts, u.settings) y is) [
        | inl mine ↦ subst (λ (z : List Part × List Setting). PolicyAgrees t x sights (settings_of t z.1)) mine.1
            (subst (λ (l : List Setting). PolicyAgrees t x sights l) (sym (set-other t v.settings new (λ e. another.0 (sym e))))
            (h.processors.policies.agrees t d x declared another.1 seat (v.parts, v.settings) (at_map (λ (v : View). (v.parts, v.settings)) views seat v me)
            (subst (λ (z : List Part × List Setting). IsOf d.cpu z.0) (sym mine.1) of)))
        | inr theirs ↦ h.processors.policies.agrees t d x declared another.1 i y theirs.1 of
      ]
    ]
