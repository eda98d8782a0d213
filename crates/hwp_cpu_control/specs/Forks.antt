-- A fork: the task's states, its steps and what they come to. Each thread of the child gets the policy of the thread that forks.
use Rattle.std.specs.Prelude.{◌≡◌, ◌≢◌, ℕ, ◌+◌, ◌-◌, ◌<◌, ◌≤◌, ◌==◌, Bool, false, cond, nat_lt, List, [], ◌∷◌, Option, Some, None, length, slice_get}
use Rattle.hwp_core_rule.specs.hwp_geom.declared.Layout.{Layout}
use Rattle.hwp_core_rule.specs.hwp_geom.declared.Page.{Page}
use Rattle.hwp_core_rule.specs.hwp_geom.declared.Proc.{Proc}
use Rattle.hwp_core_rule.specs.hwp_geom.declared.Thread.{Thread}
use Rattle.hwp_core_rule.specs.hwp_geom.declared.ThreadDecl.{ThreadDecl}
use Rattle.hwp_core_rule.specs.hwp_geom.declared.Who.{Who}
use Rattle.hwp_core_rule.specs.hwp_geom.Limits.{thread_limit}
use Rattle.hwp_core_rule.specs.hwp_kill.declared.Policy.{Policy}
use Rattle.hwp_core_rule.specs.hwp_words.Names.{page_named}
use Rattle.hwp_core_rule.specs.hwp_words.Policies as words
use Rattle.hwp_core_rule.specs.hwp_words.Stops.{is_stopped}
use Rattle.hwp_core_rule.specs.declared.SharedWord.TheVariants as places
use Rattle.hwp_core_rule.specs.declared.Step.{Step}
use Rattle.hwp_core_rule.specs.declared.Step.TheVariants as steps
use Rattle.hwp_core_rule.specs.declared.View.{View}
use Rattle.hwp_core_rule.specs.declared.Turn.TheVariants.{Moved}
use Rattle.hwp_core_rule.specs.parts.Policies.{settings_of}
use Rattle.hwp_core_rule.specs.Calls.{IsOnTurn}
use Rattle.hwp_core_rule.specs.Hands.{hand_of, empty}
use Rattle.hwp_core_rule.specs.Known.{HasMadeNone, Saw, SawStop}
use Rattle.hwp_core_rule.specs.Turns.{Member}
use Rattle.hwp_cpu_control.specs.declared.fork.Fork.{Fork}
use Rattle.hwp_cpu_control.specs.declared.fork.ForkAt.{ForkAt}
use Rattle.hwp_cpu_control.specs.declared.fork.ForkAt.TheVariants as at
use Rattle.hwp_cpu_control.specs.declared.fork.ForkAnswer.{ForkAnswer}
use Rattle.hwp_cpu_control.specs.declared.fork.ForkAnswer.TheVariants as answers
use Rattle.hwp_cpu_control.specs.declared.fork.Targets.{Targets}
use Rattle.hwp_cpu_control.specs.Prctls.{GoesOn, policy_now}

-- the threads of the process among these, of which the first has this number; in rising order
abbrev pub threads_of : Proc → ℕ → List ThreadDecl → List Thread
threads_of process n [] = []
threads_of process n (t ∷ ts) = cond (t.process.0 == process.0) (record { 0 = n } ∷ threads_of process (n + 1) ts) (threads_of process (n + 1) ts)

-- the thread of the child before which there are so many
abbrev pub target_at : Targets → ℕ → Option Thread
target_at targets n = cond (nat_lt n targets.count) (slice_get targets.threads n) None

abbrev pub begin : Who → Thread → Proc → Targets → Fork
begin who thread process targets = record { who = who; thread = thread; process = process; targets = targets; at = at.LoadStop }

abbrev pub plan_at : Thread → Proc → ForkAt → Option Step
plan_at thread process at.LoadStop = Some (steps.Load places.Stop)
plan_at thread process at.LoadProcess = Some (steps.Load (places.Process process))
plan_at thread process at.LoadPolicy = Some (steps.Load (places.Policy thread))
plan_at thread process (at.SetPolicy policy target before) = Some (steps.SetPolicy target policy 0)
plan_at thread process (at.Over answer) = None

abbrev pub plan : Fork → Option Step
plan f = plan_at f.thread f.process f.at

-- what follows the stop word
abbrev pub at_start : ℕ → ForkAt
at_start found = cond (is_stopped found) (at.Over answers.Stopped) at.LoadProcess

-- what follows the word of the process: 0, or the page whose history has the signal that ended it
abbrev pub after_process : Option Page → ForkAt
after_process None = at.LoadPolicy
after_process (Some page) = at.Over (answers.Gone page)

abbrev pub at_process : ℕ → ForkAt
at_process found = after_process (page_named found)

-- what comes where so many threads of the child have got the policy: the next one, if there is one
abbrev pub after_targets : Policy → ℕ → Option Thread → ForkAt
after_targets policy before None = at.Over (answers.Done policy)
after_targets policy before (Some target) = at.SetPolicy policy target before

abbrev pub at_target : Targets → Policy → ℕ → ForkAt
at_target targets policy before = after_targets policy before (target_at targets before)

-- what follows the word of the thread's policy
abbrev pub at_policy : Targets → ℕ → ForkAt
at_policy targets found = at_target targets (words.policy_of found) 0

abbrev pub next_at : Targets → ForkAt → ℕ → ForkAt
next_at targets at.LoadStop found = at_start found
next_at targets at.LoadProcess found = at_process found
next_at targets at.LoadPolicy found = at_policy targets found
next_at targets (at.SetPolicy policy target before) found = at_target targets policy (before + 1)
next_at targets (at.Over answer) found = at.Over answer

abbrev pub next : Fork → ℕ → Fork
next f found = record f { at = next_at f.targets f.at found }

-- the number of threads that have got the policy stays below the threads of a layout
abbrev pub ShowsAt : ForkAt → Type 0
ShowsAt (at.SetPolicy policy target before) = before < thread_limit
ShowsAt _ = Unit {0}

abbrev pub Shows : Fork → Type 0
Shows f = ShowsAt f.at

abbrev pub answer_at : ForkAt → Option ForkAnswer
answer_at (at.Over answer) = Some answer
answer_at _ = None

abbrev pub answer : Fork → Option ForkAnswer
answer f = answer_at f.at

-- from this one on no thread of the child has been set
abbrev pub AreUnset : View → Targets → ℕ → Type 0
AreUnset view targets from = (n : ℕ) (t : Thread) → from ≤ n → target_at targets n ≡ Some t → settings_of t view.settings ≡ []

-- the policy of the thread that forks is to be set for this thread of the child, which has none yet, and for those behind it
pub record IsToCopy (view : View) (thread : Thread) (targets : Targets) (policy : Policy) (target : Thread) (before : ℕ) : Type 0 where
  pub target_is : target_at targets before ≡ Some target
  pub policy_is : policy ≡ policy_now thread view
  pub unset : AreUnset view targets before

abbrev pub FitsOver : View → Who → Thread → Proc → ForkAnswer → Type 0
FitsOver view who thread process answers.Stopped = SawStop view who
FitsOver view who thread process (answers.Gone page) = Saw view who (places.Process process) (page.0 + 1)
FitsOver view who thread process (answers.Done policy) = GoesOn view who process × (policy ≡ policy_now thread view)

abbrev pub FitsAt : View → Who → Thread → Proc → Targets → ForkAt → Type 0
FitsAt view who thread process targets at.LoadStop = AreUnset view targets 0
FitsAt view who thread process targets at.LoadProcess = AreUnset view targets 0
FitsAt view who thread process targets at.LoadPolicy = AreUnset view targets 0 × GoesOn view who process
FitsAt view who thread process targets (at.SetPolicy policy target before) = IsToCopy view thread targets policy target before × GoesOn view who process
FitsAt view who thread process targets (at.Over answer) = FitsOver view who thread process answer

-- a thread of the child is one of the processor, and isn't the one that forks
pub record IsTarget (layout : Layout) (who : Who) (thread target : Thread) : Type 0 where
  pub decl : ThreadDecl
  pub declared : slice_get layout.threads target.0 ≡ Some decl
  pub own : decl.cpu ≡ who.cpu
  pub apart : target.0 ≢ thread.0

-- the threads of the child are such, in rising order
pub record AreTargets (layout : Layout) (who : Who) (thread : Thread) (targets : Targets) : Type 0 where
  pub few : targets.count ≤ thread_limit
  pub room : length targets.threads ≡ thread_limit
  pub each : (n : ℕ) (t : Thread) → target_at targets n ≡ Some t → IsTarget layout who thread t
  pub rising : (m n : ℕ) (t u : Thread) → target_at targets m ≡ Some t → target_at targets n ≡ Some u → m < n → t.0 < u.0

-- nothing is held, the command makes no entry, and the thread is one of its processor and of the process
pub record Fits (layout : Layout) (view : View) (f : Fork) : Type 0 where
  pub on_turn : IsOnTurn view f.who
  pub hand_is : hand_of view ≡ empty
  pub made : HasMadeNone view f.who
  pub decl : ThreadDecl
  pub declared : slice_get layout.threads f.thread.0 ≡ Some decl
  pub own : decl.cpu ≡ f.who.cpu
  pub process_is : decl.process ≡ f.process
  pub process : f.process.0 < layout.procs
  pub targets : AreTargets layout f.who f.thread f.targets
  pub at : FitsAt view f.who f.thread f.process f.targets f.at

-- the turns that are left
abbrev pub cost_at : ℕ → ForkAt → ℕ
cost_at count at.LoadStop = count + 4
cost_at count at.LoadProcess = count + 3
cost_at count at.LoadPolicy = count + 2
cost_at count (at.SetPolicy policy target before) = count - before + 1
cost_at count (at.Over answer) = 0

abbrev pub cost : Fork → ℕ
cost f = cost_at f.targets.count f.at

-- the task, as the laws of tasks read it
abbrev pub task : Member Fork
task = record {
  who = λ f. f.who;
  plan = plan;
  put = λ f. None;
  bare = λ f. f;
  shows = λ f found got. Shows f;
  next = λ layout f found got after result. (after ≡ next f found) × (result ≡ Moved);
  fits = Fits;
  class = λ f. 4;
  cost = λ f words. cost f;
  aborts = λ f. false;
  claims = λ f. None;
}
