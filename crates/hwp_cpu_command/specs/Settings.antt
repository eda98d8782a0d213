-- The policies that a processor's commands have set for a thread.
use Rattle.std.specs.Prelude.{◌≡◌, ◌==◌, cond, List, [], ◌∷◌, ◌++◌, filter_map, map, None, Some, take}
use Rattle.hwp_cpu_control.specs.hwp_geom.declared.Thread.{Thread}
use Rattle.hwp_cpu_control.specs.hwp_kill.declared.Policy.{Policy}
use Rattle.hwp_cpu_control.specs.hwp_kill.declared.Reply.TheVariants as replies
use Rattle.hwp_cpu_control.specs.hwp_core_rule.declared.Setting.{Setting}
use Rattle.hwp_cpu_control.specs.hwp_core_rule.declared.View.{View}
use Rattle.hwp_cpu_control.specs.hwp_core_rule.parts.Policies.{settings_of}
use Rattle.hwp_cpu_control.specs.declared.PrctlAnswer.TheVariants as answers
use Rattle.hwp_cpu_control.specs.declared.ForkAnswer.TheVariants as fork_answers
use Rattle.hwp_cpu_control.specs.declared.Targets.{Targets}
use Rattle.hwp_cpu_control.specs.declared.fork.ForkAt.{ForkAt}
use Rattle.hwp_cpu_control.specs.declared.fork.ForkAt.TheVariants as fork_at
use Rattle.hwp_cpu_control.specs.declared.prctl.PrctlAt.{PrctlAt}
use Rattle.hwp_cpu_control.specs.declared.prctl.PrctlAt.TheVariants as at
use Rattle.hwp_cpu_command.specs.declared.job.Job.{Job}
use Rattle.hwp_cpu_command.specs.declared.job.Job.TheVariants as jobs

-- the policies that were set for the thread, in order, as the processor's view lists them
abbrev pub policies_in : Thread → View → List Policy
policies_in thread view = map (λ (s : Setting). s.policy) (settings_of thread view.settings)

-- the policy that a call of prctl(2) has set, if it has set one
abbrev pub set_at : PrctlAt → List Policy
set_at (at.Over (answers.Replied (replies.Set policy))) = policy ∷ []
set_at _ = []

-- the policies that a fork has set, each with its thread of the child
abbrev pub given_at : Targets → ForkAt → List (Thread × Policy)
given_at targets (fork_at.SetPolicy policy target before) = map (λ (t : Thread). (t, policy)) (take before targets.threads)
given_at targets (fork_at.Over (fork_answers.Done policy)) = map (λ (t : Thread). (t, policy)) (take targets.count targets.threads)
given_at targets _ = []

-- the policies that a command has set, each with its thread
abbrev pub policies_now : Job → List (Thread × Policy)
policies_now (jobs.Prctl p) = map (λ (policy : Policy). (p.thread, policy)) (set_at p.at)
policies_now (jobs.Fork f) = given_at f.targets f.at
policies_now _ = []

-- of policies with their threads those of one thread
abbrev pub of_thread : Thread → List (Thread × Policy) → List Policy
of_thread thread list = filter_map (λ (p : Thread × Policy). cond (p.0.0 == thread.0) (Some p.1) None) list

-- the policy that the command has set for the thread, if it has set one
abbrev pub set_now : Thread → Job → List Policy
set_now thread j = of_thread thread (policies_now j)

-- what was set for each thread is what was set before the command, and what the command has set
abbrev pub AreCounted : (Thread → List Policy) → View → Job → Type 0
AreCounted before view j = (thread : Thread) → policies_in thread view ≡ before thread ++ set_now thread j
