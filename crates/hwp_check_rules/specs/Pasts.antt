-- What is known of a thread from the lines of its processor, to judge what a report says of its policies.
use Rattle.std.specs.Prelude.{◌≡◌, ℕ, ◌+◌, ◌-◌, ◌<◌, min, Bool, true, false, cond, List, ◌∷◌, ◌++◌, Option, None, Some, length, map, slice_get, slice_index, slice_index_or, slice_set, take, option_and_then, ◌==◌}
use Rattle.std.specs.List.{zip}
use Rattle.hwp_law.specs.hwp_geom.declared.Layout.{Layout}
use Rattle.hwp_law.specs.hwp_geom.declared.Thread.{Thread}
use Rattle.hwp_law.specs.hwp_kill.Prctl.{policy_set}
use Rattle.hwp_law.specs.hwp_kill.declared.Policy.{Policy}
use Rattle.hwp_law.specs.hwp_script_words.Forks.{is_thread_of}
use Rattle.hwp_law.specs.hwp_script_words.declared.Command.{Command}
use Rattle.hwp_law.specs.hwp_script_words.declared.Command.TheVariants as commands
use Rattle.hwp_law.specs.hwp_script_words.declared.Script.{Script}
use Rattle.hwp_law.specs.hwp_report_text.declared.Answer.{Answer}
use Rattle.hwp_law.specs.hwp_report_text.declared.Answer.TheVariants as answers
use Rattle.hwp_law.specs.hwp_report_text.declared.CpuLine.{CpuLine}
use Rattle.hwp_law.specs.hwp_report_text.declared.CpuLine.TheVariants as lines
use Rattle.hwp_law.specs.hwp_report_text.declared.Report.{Report}
use Rattle.hwp_law.specs.Lines.{answer_among}
use Rattle.hwp_law.specs.Settings.{arguments, last_policy, set_behind, setting_of, settings, unset}
use Rattle.hwp_law.specs.Policies.{answered_on}
use Rattle.hwp_law.specs.SeenPolicies.{answered_around, cpu_of_thread}
use Rattle.hwp_check_rules.specs.declared.pasts.ThreadPolicies.{ThreadPolicies}
use Rattle.hwp_check_rules.specs.declared.policies.PolicyStep.{PolicyStep}
use Rattle.hwp_check_rules.specs.declared.policies.PolicyStep.TheVariants as steps

abbrev pub is_done : Option Answer → Bool
is_done (Some answers.Done) = true
is_done _ = false

-- which commands were answered `done`, a value for each command
abbrev pub AreDone : List CpuLine → List Bool → Type 0
AreDone rows flags = (k : ℕ) (d : Bool) → k < length flags → slice_index_or flags k d ≡ is_done (answer_among rows k)

-- the flags of commands with a line of their processor noted
abbrev pub noted : CpuLine → List Bool → List Bool
noted (lines.Event event) flags = flags
noted (lines.Offlined offlined) flags = flags
noted (lines.Guest guest) flags = flags
noted (lines.Answer seq answer) flags = slice_set flags seq (is_done (Some answer))

-- an answer by whether it is `done`; and commands with such answers
abbrev pub flag_answer : Bool → Answer
flag_answer true = answers.Done
flag_answer false = answers.Stopped

abbrev pub by_flags : List Command → List Bool → List (Command × Answer)
by_flags list flags = zip list (map flag_answer flags)

-- the policies that commands set for the thread, in order, of which these were done
abbrev pub settings_by : Layout → Thread → List Command → List Bool → List Policy
settings_by layout thread list flags = settings layout thread (by_flags list flags)

-- that of the command with the number, if it set one
abbrev pub set_by_pair : Layout → (ℕ → List Policy) → Thread → Command × Answer → Option Policy
set_by_pair layout set thread p = setting_of layout set thread.0 p.0 p.1

abbrev pub set_if : Layout → Thread → List Command → List Bool → ℕ → Option Policy
set_if layout thread list flags number =
    option_and_then (set_by_pair layout (set_behind layout unset (take number (by_flags list flags))) thread) (slice_get {X = Command × Answer} (by_flags list flags) number)

-- the policy before a command, where the earlier ones were done so
abbrev pub policy_by : Layout → Thread → List Command → List Bool → ℕ → Policy
policy_by layout thread list flags number = last_policy (settings layout thread (take number (by_flags list flags)))

-- what a command that was done, or wasn't, does to the policy of a thread
abbrev pub set_step : Option Policy → PolicyStep
set_step None = steps.Stays
set_step (Some policy) = steps.Set policy

abbrev pub step_of : Layout → Thread → Command → Bool → PolicyStep
step_of layout thread (commands.Prctl other args) true = cond (other.0 == thread.0) (set_step (policy_set (arguments args))) steps.Stays
step_of layout thread (commands.Fork parent process) true = cond (is_thread_of layout process.0 thread.0) (steps.From parent) steps.Stays
step_of layout thread command done = steps.Stays

-- the policy that a step sets, if it sets one; and the thread whose policy before the step is this thread's behind it
abbrev pub set_in : PolicyStep → Option Policy
set_in (steps.Set policy) = Some policy
set_in step = None

abbrev pub next_of : PolicyStep → Thread → Thread
next_of (steps.From parent) thread = parent
next_of step thread = thread

-- how many there are before each of the first n commands
pub record AreCounts (layout : Layout) (thread : Thread) (list : List Command) (flags : List Bool) (n : ℕ) (counts : List ℕ) : Type 0 where
  pub many : length counts ≡ n
  pub each : (k : ℕ) → k < n → slice_index_or counts k 0 ≡ length (settings layout thread (take k (by_flags list flags)))

-- what is known of a thread: its processor, the policies that were set for it, and how many of them there were before each command
-- of the processor
pub record IsPast (script : Script) (report : Report) (thread : Thread) (past : ThreadPolicies) : Type 0 where
  pub of_cpu : cpu_of_thread script thread ≡ Some past.cpu
  pub policies : past.policies ≡ settings script.layout thread (answered_around script report thread)
  pub some : 0 < length past.done
  pub done : (seq : ℕ) → slice_index past.done (min seq (length past.done - 1)) ≡ length (settings script.layout thread (take seq (answered_on script report past.cpu)))

-- of each thread of the script
pub record ArePasts (script : Script) (report : Report) (pasts : List ThreadPolicies) : Type 0 where
  pub many : length pasts ≡ length script.layout.threads
  pub each : (thread : Thread) (past : ThreadPolicies) → slice_get pasts thread.0 ≡ Some past → IsPast script report thread past
