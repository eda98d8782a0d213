-- The policies that a failure's entry lists as seen.
use Rattle.std.specs.Prelude.{◌≡◌, ℕ, ◌<◌, ◌≤◌, List, [], Option, Some, length, slice_get, take, option_and_then, option_map, unwrap_or, Contains}
use Rattle.hwp_script_words.specs.hwp_geom.declared.Cpu.{Cpu}
use Rattle.hwp_script_words.specs.hwp_geom.declared.Thread.{Thread}
use Rattle.hwp_script_words.specs.hwp_geom.declared.ThreadDecl.{ThreadDecl}
use Rattle.hwp_script_words.specs.hwp_geom.declared.Who.{Who}
use Rattle.hwp_report_text.specs.hwp_kill.declared.Policy.{Policy}
use Rattle.hwp_report_text.specs.hwp_kill.declared.Seen.{Seen}
use Rattle.hwp_report_text.specs.hwp_page.declared.At.{At}
use Rattle.hwp_report_text.specs.hwp_page.declared.Entry.{Entry}
use Rattle.hwp_report_text.specs.hwp_page.declared.What.{What}
use Rattle.hwp_report_text.specs.hwp_page.declared.What.TheVariants as entries
use Rattle.hwp_script_words.specs.declared.Command.{Command}
use Rattle.hwp_script_words.specs.declared.Script.{Script}
use Rattle.hwp_report_text.specs.declared.Answer.{Answer}
use Rattle.hwp_report_text.specs.declared.Report.{Report}
use Rattle.hwp_law.specs.Places.{entry_at}
use Rattle.hwp_law.specs.Settings.{last_policy, settings}
use Rattle.hwp_law.specs.Policies.{answered_before, answered_on}

-- the processor that the thread is declared on
abbrev pub cpu_of_thread : Script → Thread → Option Cpu
cpu_of_thread script thread = option_and_then (λ (t : ThreadDecl). Some t.cpu) (slice_get script.layout.threads thread.0)

-- the commands of the thread's own processor, with their answers
abbrev pub answered_around : Script → Report → Thread → List (Command × Answer)
answered_around script report thread = unwrap_or (option_map (answered_on script report) (cpu_of_thread script thread)) []

-- the policy after the thread's n-th setting
abbrev pub policy_after : Script → Report → Thread → ℕ → Policy
policy_after script report thread n = last_policy (take n (settings script.layout thread (answered_around script report thread)))

-- the policy is the one after the thread's n-th setting, which there is
pub record IsPolicySeen (script : Script) (report : Report) (seen : Seen) : Type 0 where
  pub made : seen.n ≤ length (settings script.layout seen.thread (answered_around script report seen.thread))
  pub policy : seen.policy ≡ policy_after script report seen.thread seen.n

-- of a thread of the failing processor the settings seen are those before the command
abbrev pub IsOwnCount : Script → Report → Who → Seen → Type 0
IsOwnCount script report who seen = cpu_of_thread script seen.thread ≡ Some who.cpu → seen.n ≡ length (settings script.layout seen.thread (answered_before script report who))

-- what an entry lists as seen
abbrev pub seen_in : What → List Seen
seen_in (entries.Fail situation required seen signals) = seen
seen_in _ = []

-- each policy seen is one that the thread had, and of a thread of the failing processor the one that it had then
abbrev pub AreSeen : Script → Report → Type 0
AreSeen script report = (at : At) (e : Entry) (seen : Seen) → entry_at report.pages at ≡ Some e → Contains (seen_in e.what) seen → IsPolicySeen script report seen × IsOwnCount script report e.who seen

-- along the commands of one processor the number of a thread's settings, as seen, never falls
abbrev pub SeenNeverFalls : Report → Type 0
SeenNeverFalls report =
    (at later : At) (e f : Entry) (seen again : Seen) → entry_at report.pages at ≡ Some e → entry_at report.pages later ≡ Some f → Contains (seen_in e.what) seen → Contains (seen_in f.what) again
    → e.who.cpu ≡ f.who.cpu → e.who.seq < f.who.seq → seen.thread ≡ again.thread → seen.n ≤ again.n
