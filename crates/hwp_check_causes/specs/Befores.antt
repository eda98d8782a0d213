-- The policies of threads before the commands that ask for them or set them.
use Rattle.std.specs.Prelude.{◌≡◌, ℕ, ◌<◌, Bool, List, Some, length, slice_get, slice_index_or, take}
use Rattle.std.specs.Option.{option_map_or}
use Rattle.hwp_check_evidence.specs.hwp_geom.declared.Layout.{Layout}
use Rattle.hwp_check_evidence.specs.hwp_geom.declared.Thread.{Thread}
use Rattle.hwp_check_evidence.specs.hwp_kill.declared.Policy.{Policy}
use Rattle.hwp_check_evidence.specs.hwp_kill.declared.Policy.TheVariants.{Default}
use Rattle.hwp_check_evidence.specs.hwp_script_words.declared.Command.{Command}
use Rattle.hwp_check_evidence.specs.hwp_script_words.declared.Command.TheVariants as commands
use Rattle.hwp_check_evidence.specs.hwp_script_words.declared.PrctlArgs.{PrctlArgs}
use Rattle.hwp_check_evidence.specs.hwp_report_text.declared.CpuLine.{CpuLine}
use Rattle.hwp_check_evidence.specs.hwp_law.Settings.{last_policy, settings}
use Rattle.hwp_check_evidence.specs.hwp_law.Lines.{answered}
use Rattle.hwp_check_rules.specs.Pasts.{policy_by}

-- the numbers that a thread can have
abbrev pub thread_numbers : ℕ
thread_numbers = 256

-- the policy of the thread of a command, before it, where the earlier ones were done so
abbrev pub policy_at : Layout → List Command → List Bool → ℕ → Command → Policy
policy_at layout list flags number (commands.Prctl thread args) = policy_by layout thread list flags number
policy_at layout list flags number command = Default

abbrev pub policy_of : Layout → List Command → List Bool → ℕ → Policy
policy_of layout list flags number = option_map_or (policy_at layout list flags number) (slice_get list number) Default

-- that before each of the first n commands
pub record AreBeforeBy (layout : Layout) (list : List Command) (flags : List Bool) (n : ℕ) (policies : List Policy) : Type 0 where
  pub many : length policies ≡ n
  pub each : (i : ℕ) → i < n → slice_index_or policies i Default ≡ policy_of layout list flags i

-- these are the policies of the threads before their commands
abbrev pub AreBefore : Layout → List Command → List CpuLine → List Policy → Type 0
AreBefore layout list rows policies =
    (seq : ℕ) (thread : Thread) (args : PrctlArgs) → thread.0 < thread_numbers → slice_get list seq ≡ Some (commands.Prctl thread args)
    → slice_get policies seq ≡ Some (last_policy (settings layout thread (take seq (answered list rows))))
