-- The policies that a processor's commands set. A setting of a thread is a command that was answered `done`: a call of prctl(2) by the thread
-- whose arguments set a policy, or a fork that makes the thread's process, which gives it the policy that the forking thread has then.
use Rattle.std.specs.Prelude.{ℕ, ◌==◌, cond, List, [], ◌∷◌, ◌++◌, Option, Some, None, fold}
use Rattle.std.specs.List.{cons_option}
use Rattle.hwp_script_words.specs.hwp_geom.declared.Layout.{Layout}
use Rattle.hwp_script_words.specs.hwp_geom.declared.Thread.{Thread}
use Rattle.hwp_report_text.specs.hwp_kill.declared.Policy.{Policy}
use Rattle.hwp_report_text.specs.hwp_kill.declared.Policy.TheVariants.{Default}
use Rattle.hwp_report_text.specs.hwp_kill.Prctl.{policy_set}
use Rattle.hwp_script_words.specs.Forks.{is_thread_of}
use Rattle.hwp_script_words.specs.declared.PrctlArgs.{PrctlArgs}
use Rattle.hwp_script_words.specs.declared.Command.{Command}
use Rattle.hwp_script_words.specs.declared.Command.TheVariants as commands
use Rattle.hwp_report_text.specs.declared.Answer.{Answer}
use Rattle.hwp_report_text.specs.declared.Answer.TheVariants as answers

-- the five arguments in their order
abbrev pub arguments : PrctlArgs → List ℕ
arguments args = args.operation ∷ args.arg2 ∷ args.arg3 ∷ args.arg4 ∷ args.arg5 ∷ []

-- the last of some policies, or the system default where there is none
abbrev pub last_policy : List Policy → Policy
last_policy policies = fold (λ earlier later. later) Default policies

-- the policy that a command with this answer sets for the thread with a number, if it sets one, where these were set before for each thread
abbrev pub setting_of : Layout → (ℕ → List Policy) → ℕ → Command → Answer → Option Policy
setting_of layout set thread (commands.Prctl other args) answers.Done = cond (other.0 == thread) (policy_set (arguments args)) None
setting_of layout set thread (commands.Fork parent process) answers.Done = cond (is_thread_of layout process.0 thread) (Some (last_policy (set parent.0))) None
setting_of layout set thread _ _ = None

-- the policies that were set for each thread, by its number, behind one command more with its answer
abbrev pub set_after : Layout → (ℕ → List Policy) → Command × Answer → ℕ → List Policy
set_after layout set p thread = set thread ++ cons_option (setting_of layout set thread p.0 p.1) []

-- behind some commands of a processor with their answers, where these were set before
abbrev pub set_behind : Layout → (ℕ → List Policy) → List (Command × Answer) → ℕ → List Policy
set_behind layout set list = fold (set_after layout) set list

abbrev pub unset : ℕ → List Policy
unset thread = []

-- the policies that were set for the thread, in order, by commands with these answers
abbrev pub settings : Layout → Thread → List (Command × Answer) → List Policy
settings layout thread list = set_behind layout unset list thread.0
