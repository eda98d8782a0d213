-- A report that keeps the law tells failures, losses and poisoned frames as the model has them.
use Rattle.std.proofs.Common.{◌≡◌, ◌≤◌, true, List, [], Option, None, Some, length, option_map, take, unwrap_or, refl, sym, ap, ◌∙◌, subst}
use Rattle.std.specs.Prelude.{Contains}
use Rattle.hwp_law_served.specs.hwp_geom.declared.Cpu.{Cpu}
use Rattle.hwp_law_served.specs.hwp_geom.declared.Thread.{Thread}
use Rattle.hwp_law_served.specs.hwp_kill.declared.Policy.{Policy}
use Rattle.hwp_law_served.specs.hwp_kill.declared.Seen.{Seen}
use Rattle.hwp_law_served.specs.hwp_kill.declared.Signal.{Signal}
use Rattle.hwp_law_served.specs.hwp_kill.Kill.{Killed}
use Rattle.hwp_law_served.specs.hwp_page.declared.At.{At}
use Rattle.hwp_law_served.specs.hwp_page.declared.Entry.{Entry}
use Rattle.hwp_law_served.specs.hwp_page.declared.PageState.{PageState}
use Rattle.hwp_law_served.specs.hwp_page.declared.Situation.{Situation}
use Rattle.hwp_law_served.specs.hwp_page.declared.What.TheVariants.{Fail}
use Rattle.hwp_law_served.specs.hwp_page.Actions.{situation_of}
use Rattle.hwp_law_served.specs.hwp_page.Situations.{always_signals, is_signalling}
use Rattle.hwp_law_served.specs.hwp_page.Step.{IsFailure, IsSeenList}
use Rattle.hwp_law_served.specs.hwp_script_words.declared.Script.{Script}
use Rattle.hwp_law_served.specs.hwp_report_text.declared.Report.{Report}
use Rattle.hwp_law_served.specs.hwp_law.Law.{IsLawful}
use Rattle.hwp_law_served.specs.hwp_law.Places.{entry_at}
use Rattle.hwp_law_served.specs.hwp_law.Settings.{last_policy, settings}
use Rattle.hwp_law_served.specs.hwp_law.Acting.{acting_script}
use Rattle.hwp_law_served.specs.hwp_law.Policies.{answered_on}
use Rattle.hwp_law_served.specs.hwp_law.SeenPolicies.{IsPolicySeen, answered_around, cpu_of_thread, seen_in}
use Rattle.hwp_law_served.proofs.of_hwp_law.ActedLaws.{settings-acted}
use Rattle.hwp_law_served.specs.hwp_law.States.{HadState}
use Rattle.hwp_top_report.specs.Signals.{AreFailuresAsModel, IsFailureAsModel}
use Rattle.hwp_top_report.proofs.AllowedThere.{allowed-there, had-so}

module _ (script : Script) (report : Report) (lawful : IsLawful script report) where
  -- the settings of a thread are those of the script, whatever its processor acted on
  set-same : (thread : Thread) → settings script.layout thread (answered_around (acting_script script report) report thread) ≡ settings script.layout thread (answered_around script report thread)
  set-same thread = which (cpu_of_thread script thread)
    where
      which : (o : Option Cpu) → settings script.layout thread (unwrap_or (option_map (answered_on (acting_script script report) report) o) []) ≡ settings script.layout thread (unwrap_or (option_map (answered_on script report) o) [])
      which None = refl
      which (Some cpu) = (settings-acted script report (record { cpu = cpu; seq = 0 }) thread).0

  policy-so : (one : Seen) → IsPolicySeen (acting_script script report) report one → IsPolicySeen script report one
  policy-so one seen = record {
    made = subst (λ (l : List Policy). one.n ≤ length l) (set-same one.thread) seen.made;
    policy = seen.policy ∙ ap (λ (l : List Policy). last_policy (take one.n l)) (set-same one.thread);
  }

  failure : (at : At) (e : Entry) (situation : Situation) (required : Option Thread) (seen : List Seen) (signals : List Signal) → entry_at report.pages at ≡ Some e → e.what ≡ Fail situation required seen signals → IsFailureAsModel script report at situation required seen signals
  failure at e situation required seen signals is what =
      let there : HadState script.layout report.pages at (λ (s : PageState). IsFailure script.layout s situation required seen signals) = allowed-there script.layout report lawful.histories.legal at e (Fail situation required seen signals) is what in
      record {
        resident = had-so (λ (s : PageState). IsFailure script.layout s situation required seen signals) (λ (s : PageState). s.cached ≡ true) (λ s f. f.cached) there;
        situation_is = had-so (λ (s : PageState). IsFailure script.layout s situation required seen signals) (λ (s : PageState). situation ≡ situation_of s) (λ s f. f.actual) there;
        asked = had-so (λ (s : PageState). IsFailure script.layout s situation required seen signals) (λ (s : PageState). IsSeenList script.layout s.maps (is_signalling situation) required seen) (λ s f. f.policies) there;
        signalled = had-so (λ (s : PageState). IsFailure script.layout s situation required seen signals) (λ (s : PageState). Killed script.layout s.maps (is_signalling situation) (always_signals situation) required seen signals) (λ s f. f.killed) there;
        had = λ one listed. policy-so one (lawful.histories.seen at e one is (subst (λ (l : List Seen). Contains l one) (sym (ap seen_in what)) listed)).0;
      }

  -- Each failure has the situation of its page's state, and the signals of the kill table for policies that the threads had; the
  -- losses are those of the histories, and the numbers of handles agree with them; and the count is that of the frames that end
  -- poisoned.
  pub signals-as-model : AreFailuresAsModel script report
  signals-as-model = record { failures = failure; losses = lawful.losses; poisoned = lawful.frames.count }
