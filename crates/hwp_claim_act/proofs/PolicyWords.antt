-- What a policy word says, whichever processor its thread is on.
use Rattle.std.proofs.Common.{◌≡◌, ℕ, ◌%◌, ◌/◌, ◌^◌, ◌<◌, ◌≤◌, ◌==◌, Bool, true, false, Some, map, length, get_or, slice_get, slice_index, refl, sym, ap, ◌∙◌, subst, arith}
use Rattle.std.proofs.lemmas.Bool.{eqb-true}
use Rattle.std.proofs.lemmas.List.Elements.{All-get_or}
use Rattle.std.proofs.lemmas.Option.{slice_get-get_or}
use Rattle.std.specs.Int.{from_bool}
use Rattle.std.specs.List.{sum_by}
use Rattle.hwp_core.specs.hwp_geom.declared.Cpu.{Cpu}
use Rattle.hwp_core.specs.hwp_geom.declared.Layout.{Layout}
use Rattle.hwp_core.specs.hwp_geom.declared.Thread.{Thread}
use Rattle.hwp_core.specs.hwp_geom.declared.ThreadDecl.{ThreadDecl}
use Rattle.hwp_core.specs.hwp_geom.Limits.{command_limit}
use Rattle.hwp_core.specs.hwp_kill.declared.Policy.{Policy}
use Rattle.hwp_core.specs.hwp_kill.declared.Policy.TheVariants as policy_names
use Rattle.hwp_core.specs.hwp_words.Policies as words
use Rattle.hwp_core.specs.hwp_core_rule.declared.Part.{Part}
use Rattle.hwp_core.specs.hwp_core_rule.declared.SharedWord.TheVariants as places
use Rattle.hwp_core.specs.hwp_core_rule.declared.State.{State}
use Rattle.hwp_core.specs.hwp_core_rule.declared.View.{View}
use Rattle.hwp_core.specs.hwp_core_rule.Rule.{Holds}
use Rattle.hwp_core.specs.hwp_core_rule.Steps.{policy_at}
use Rattle.hwp_core.specs.hwp_core_rule.Words.{index, words_of}
use Rattle.hwp_core.specs.hwp_core_rule.parts.Policies.{last_policy, settings_of}
use Rattle.hwp_core.proofs.of_hwp_core_rule.CountsBelow.{some-term}
use Rattle.hwp_core.proofs.of_hwp_core_rule.Lists.{at_map, map-was}
use Rattle.hwp_core.proofs.of_hwp_core_rule.MoveKeeps.{shaped}
use Rattle.hwp_core.proofs.of_hwp_core_rule.WordsByKind.{word-there, words-read}

same-cpu : (c d : Cpu) → c.0 ≡ d.0 → c ≡ d
same-cpu c d e = λ i. record { 0 = e i }

hit : (b : Bool) → 0 < from_bool b → b ≡ true
hit true some = refl
hit false some = absurd (omega arith)

-- it has the number of the thread's settings, which are few, and a policy
pub record IsPolicyWord (word : ℕ) : Type 0 where
  pub settings : ℕ
  pub policy : Policy
  pub few : settings ≤ command_limit
  pub is : word ≡ policy_at settings policy

module _ (layout : Layout) (s : State) (h : Holds layout s) (thread : Thread) (found : ℕ) (inside : thread.0 < length layout.threads) (met : found ≡ slice_index s.words (index layout (places.Policy thread))) where
  abbrev nobody : ThreadDecl
  nobody = record { process = record { 0 = 0 }; cpu = record { 0 = 0 }; handler = false }

  abbrev decl : ThreadDecl
  decl = get_or layout.threads thread.0 nobody

  declared : slice_get layout.threads thread.0 ≡ Some decl
  declared = slice_get-get_or layout.threads thread.0 nobody inside

  here : decl.cpu.0 < layout.cpus
  here = (All-get_or (λ (t : ThreadDecl). (t.process.0 < layout.procs) × (t.cpu.0 < layout.cpus)) layout.threads thread.0 nobody inside h.sound.thread_names).1

  abbrev is-here : Part → ℕ
  is-here p = from_bool (p.cpu.0 == decl.cpu.0)

  pub policy-word : IsPolicyWord found
  policy-word =
      let one = h.rule.processors.processors.one decl.cpu.0 here in
      let some = some-term (sum_by is-here) (map (λ (v : View). v.parts) s.views) (omega (arith, one)) in
      let view = map-was (λ (v : View). v.parts) s.views some.0 some.1 some.2 in
      let part = some-term is-here some.1 some.3 in
      let cpu : part.1.cpu ≡ decl.cpu = same-cpu part.1.cpu decl.cpu (eqb-true part.1.cpu.0 decl.cpu.0 (hit (part.1.cpu.0 == decl.cpu.0) part.3)) in
      let agrees = h.rule.processors.policies.agrees thread decl (slice_index (words_of layout s.words).policies thread.0) declared
      (word-there (words_of layout s.words).policies thread.0 (length layout.threads) (shaped layout s h).policies inside) some.0 (view.0.parts, view.0.settings)
      (at_map (λ (v : View). (v.parts, v.settings)) s.views some.0 view.0 view.1) (part.0, part.1, subst (λ l. slice_get l part.0 ≡ Some part.1) (sym view.2) part.2, cpu) in
      record {
        settings = length (settings_of thread view.0.settings);
        policy = last_policy policy_names.Default (settings_of thread view.0.settings);
        few = agrees.few;
        is = met ∙ sym (words-read layout s.words (places.Policy thread) inside) ∙ agrees.now;
      }

-- the word gives them back
pub settings-back : (n : ℕ) (p : Policy) → n ≤ command_limit → words.settings_of (policy_at n p) ≡ n
settings-back n policy_names.Late few = omega arith
settings-back n policy_names.Early few = omega arith
settings-back n policy_names.Default few = omega arith

pub policy-back : (n : ℕ) (p : Policy) → words.policy_of (policy_at n p) ≡ p
policy-back n policy_names.Late = let low : policy_at n policy_names.Late / 2 ^ 0 % 2 ^ 2 ≡ 0 = omega arith in ap words.policy_coded low
policy-back n policy_names.Early = let low : policy_at n policy_names.Early / 2 ^ 0 % 2 ^ 2 ≡ 1 = omega arith in ap words.policy_coded low
policy-back n policy_names.Default = let low : policy_at n policy_names.Default / 2 ^ 0 % 2 ^ 2 ≡ 2 = omega arith in ap words.policy_coded low

pub small-word : (n : ℕ) (p : Policy) → n ≤ command_limit → policy_at n p < 2 ^ 34
small-word n policy_names.Late few = omega arith
small-word n policy_names.Early few = omega arith
small-word n policy_names.Default few = omega arith

-- it is the word of what it says
pub reads-back : (word : ℕ) → IsPolicyWord word → policy_at (words.settings_of word) (words.policy_of word) ≡ word
reads-back word is =
    ap (λ (w : ℕ). policy_at (words.settings_of w) (words.policy_of w)) is.is
    ∙ ap (λ (n : ℕ). policy_at n (words.policy_of (policy_at is.settings is.policy))) (settings-back is.settings is.policy is.few)
    ∙ ap (λ (p : Policy). policy_at is.settings p) (policy-back is.settings is.policy)
    ∙ sym is.is
