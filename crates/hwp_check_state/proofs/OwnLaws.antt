-- The settings of a thread before a command.
use Rattle.std.proofs.Common.{◌≡◌, ◌↔◌, IsTrue, option_and_then, inl, ℕ, ◌-◌, ◌≤◌, List, [], None, Option, option_map, unwrap_or, arith, min, ◌==◌, Bool, true, false, not, true≢false, Some, MatchBool, length, take, slice_index, refl, sym, ap, ◌∙◌}
use Rattle.std.proofs.lemmas.Bool.{eqb-false, eqb-true}
use Rattle.std.proofs.lemmas.Option.{none-some, slice_get_past}
use Rattle.hwp_check_rules.specs.hwp_geom.declared.Cpu.{Cpu}
use Rattle.hwp_check_rules.specs.hwp_geom.declared.ThreadDecl.{ThreadDecl}
use Rattle.hwp_check_rules.specs.hwp_geom.declared.Who.{Who}
use Rattle.hwp_check_rules.specs.hwp_kill.declared.Policy.{Policy}
use Rattle.hwp_check_rules.specs.hwp_kill.declared.Policy.TheVariants.{Default}
use Rattle.hwp_check_rules.specs.hwp_kill.declared.Seen.{Seen}
use Rattle.hwp_check_rules.specs.hwp_script_words.declared.Script.{Script}
use Rattle.hwp_check_rules.specs.hwp_report_text.declared.Report.{Report}
use Rattle.hwp_check_rules.specs.hwp_law.Settings.{last_policy, settings}
use Rattle.hwp_check_rules.specs.hwp_law.Policies.{answered_before, answered_on}
use Rattle.hwp_check_rules.specs.hwp_law.SeenPolicies.{IsOwnCount, answered_around, cpu_of_thread}
use Rattle.hwp_check_rules.specs.declared.ThreadPolicies.{ThreadPolicies}
use Rattle.hwp_check_rules.specs.Pasts.{IsPast}
use Rattle.hwp_check_state.specs.declared.sights.Sight.{Sight}
use Rattle.hwp_check_state.specs.Sights.{IsRight, IsWrong}

-- the test decides, by the number of settings before the command
pub own-is : (script : Script) (report : Report) (seen : Seen) (past : ThreadPolicies) (is : IsPast script report seen.thread past) (who : Who) (n : ℕ) → n ≡ seen.n → past.cpu ≡ who.cpu → (count : ℕ) → count ≡ slice_index past.done (min who.seq (length past.done - 1))
    → MatchBool (count == n) (IsOwnCount script report who seen) (IsOwnCount script report who seen → ⊥)
own-is script report seen past is who n n-is own count is-count = which (count == n) refl
  where
    count-is : count ≡ length (settings script.layout seen.thread (answered_before script report who))
    count-is = is-count ∙ is.done who.seq ∙ ap (λ (cpu : Cpu). length (settings script.layout seen.thread (take who.seq (answered_on script report cpu)))) own

    which : (b : Bool) → count == n ≡ b → MatchBool b (IsOwnCount script report who seen) (IsOwnCount script report who seen → ⊥)
    which true same = λ of. sym n-is ∙ sym (eqb-true count n same) ∙ count-is
    which false other = λ fits. eqb-false count n other (count-is ∙ sym (fits (is.of_cpu ∙ ap Some own)) ∙ sym n-is)

pub own-cpu : (a b : Cpu) → false ≡ not (a.0 == b.0) → a ≡ b
own-cpu a b same = which (a.0 == b.0) refl same
  where
    which : (t : Bool) → a.0 == b.0 ≡ t → false ≡ not t → a ≡ b
    which true is ne = λ i. record { 0 = eqb-true a.0 b.0 is i }
    which false is ne = absurd (true≢false (sym ne))

-- ---- a thread that isn't declared

module _ (script : Script) (report : Report) (sight : Sight) (none : cpu_of_thread script sight.seen.thread ≡ None) where
  unset : settings script.layout sight.seen.thread (answered_around script report sight.seen.thread) ≡ []
  unset = ap (λ (o : Option Cpu). settings script.layout sight.seen.thread (unwrap_or (option_map (answered_on script report) o) [])) none

  default-then : (n : ℕ) → n ≡ 0 → last_policy (take n (settings script.layout sight.seen.thread (answered_around script report sight.seen.thread))) ≡ Default
  default-then n zero_is = ap (λ (k : ℕ). last_policy (take k (settings script.layout sight.seen.thread (answered_around script report sight.seen.thread)))) zero_is

  -- it has the default, and no setting
  pub undeclared-right : sight.seen.n ≡ 0 → sight.seen.policy ≡ Default → IsRight script report sight
  undeclared-right zero_is default_is = (
    record { made = omega (arith, zero_is); policy = default_is ∙ sym (default-then sight.seen.n zero_is) },
    λ own. absurd (none-some sight.who.cpu (sym none ∙ own)),
  )

  pub undeclared-wrong : (sight.seen.n ≡ 0 → sight.seen.policy ≡ Default → ⊥) → IsWrong script report sight
  undeclared-wrong other = inl (λ seen.
      let few : sight.seen.n ≤ length (settings script.layout sight.seen.thread (answered_around script report sight.seen.thread)) = seen.made in
      let many : length (settings script.layout sight.seen.thread (answered_around script report sight.seen.thread)) ≡ 0 = ap (λ (l : List Policy). length l) unset in
      let zero_is : sight.seen.n ≡ 0 = omega (arith, few, many) in
      other zero_is (seen.policy ∙ default-then sight.seen.n zero_is))

-- so the test decides
pub undeclared-is : (script : Script) (report : Report) (sight : Sight) (b : Bool) → length script.layout.threads ≤ sight.seen.thread.0 → IsTrue b ↔ (sight.seen.n ≡ 0) × (sight.seen.policy ≡ Default) → MatchBool b (IsRight script report sight) (IsWrong script report sight)
undeclared-is script report sight b past tells = which b tells
  where
    none : cpu_of_thread script sight.seen.thread ≡ None
    none = ap (option_and_then (λ (t : ThreadDecl). Some t.cpu)) (slice_get_past script.layout.threads sight.seen.thread.0 past)

    which : (c : Bool) → IsTrue c ↔ (sight.seen.n ≡ 0) × (sight.seen.policy ≡ Default) → MatchBool c (IsRight script report sight) (IsWrong script report sight)
    which true is = let both = is.0 refl in undeclared-right script report sight none both.0 both.1
    which false is = undeclared-wrong script report sight none (λ zero_is default_is. true≢false (sym (is.1 (zero_is, default_is))))
