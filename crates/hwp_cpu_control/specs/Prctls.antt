-- A call of prctl(2): the task's states, its steps and what they come to.
use Rattle.std.specs.Prelude.{◌≡◌, ℕ, ◌+◌, ◌<◌, ◌^◌, false, cond, List, [], ◌∷◌, ◌++◌, Option, Some, None, length, slice_get}
use Rattle.hwp_core_rule.specs.hwp_geom.declared.Layout.{Layout}
use Rattle.hwp_core_rule.specs.hwp_geom.declared.Page.{Page}
use Rattle.hwp_core_rule.specs.hwp_geom.declared.Proc.{Proc}
use Rattle.hwp_core_rule.specs.hwp_geom.declared.Thread.{Thread}
use Rattle.hwp_core_rule.specs.hwp_geom.declared.ThreadDecl.{ThreadDecl}
use Rattle.hwp_core_rule.specs.hwp_geom.declared.Who.{Who}
use Rattle.hwp_core_rule.specs.hwp_geom.Limits.{command_limit}
use Rattle.hwp_core_rule.specs.hwp_kill.declared.Policy.{Policy}
use Rattle.hwp_core_rule.specs.hwp_kill.declared.Policy.TheVariants as policy_names
use Rattle.hwp_core_rule.specs.hwp_kill.declared.Reply.{Reply}
use Rattle.hwp_core_rule.specs.hwp_kill.declared.Reply.TheVariants as replies
use Rattle.hwp_core_rule.specs.hwp_kill.Prctl.{reply}
use Rattle.hwp_core_rule.specs.hwp_words.Names.{page_named}
use Rattle.hwp_core_rule.specs.hwp_words.Policies as words
use Rattle.hwp_core_rule.specs.hwp_words.Stops.{is_stopped}
use Rattle.hwp_core_rule.specs.declared.SharedWord.TheVariants as places
use Rattle.hwp_core_rule.specs.declared.Setting.{Setting}
use Rattle.hwp_core_rule.specs.declared.Step.{Step}
use Rattle.hwp_core_rule.specs.declared.Step.TheVariants as steps
use Rattle.hwp_core_rule.specs.declared.View.{View}
use Rattle.hwp_core_rule.specs.declared.Turn.TheVariants.{Moved}
use Rattle.hwp_core_rule.specs.parts.Policies.{last_policy, settings_of}
use Rattle.hwp_core_rule.specs.Calls.{IsOnTurn}
use Rattle.hwp_core_rule.specs.Hands.{hand_of, empty}
use Rattle.hwp_core_rule.specs.Known.{HasMadeNone, Saw, SawStop}
use Rattle.hwp_core_rule.specs.Turns.{Member}
use Rattle.hwp_cpu_control.specs.declared.prctl.Prctl.{Prctl}
use Rattle.hwp_cpu_control.specs.declared.prctl.PrctlAt.{PrctlAt}
use Rattle.hwp_cpu_control.specs.declared.prctl.PrctlAt.TheVariants as at
use Rattle.hwp_cpu_control.specs.declared.prctl.PrctlAnswer.{PrctlAnswer}
use Rattle.hwp_cpu_control.specs.declared.prctl.PrctlAnswer.TheVariants as answers

abbrev pub begin : Who → Thread → Proc → List ℕ → Prctl
begin who thread process arguments = record { who = who; thread = thread; process = process; arguments = arguments; at = at.LoadStop }

abbrev pub plan_at : Thread → Proc → PrctlAt → Option Step
plan_at thread process at.LoadStop = Some (steps.Load places.Stop)
plan_at thread process at.LoadProcess = Some (steps.Load (places.Process process))
plan_at thread process at.LoadPolicy = Some (steps.Load (places.Policy thread))
plan_at thread process (at.SetPolicy policy settings) = Some (steps.SetPolicy thread policy settings)
plan_at thread process (at.Over answer) = None

abbrev pub plan : Prctl → Option Step
plan p = plan_at p.thread p.process p.at

-- what follows the stop word
abbrev pub at_start : ℕ → PrctlAt
at_start found = cond (is_stopped found) (at.Over answers.Stopped) at.LoadProcess

-- what follows the word of the process: 0, or the page whose history has the signal that ended it
abbrev pub after_process : Option Page → PrctlAt
after_process None = at.LoadPolicy
after_process (Some page) = at.Over (answers.Gone page)

abbrev pub at_process : ℕ → PrctlAt
at_process found = after_process (page_named found)

-- what follows a reply: a policy that is set is written, with one setting more than there were
abbrev pub after_reply : ℕ → Reply → PrctlAt
after_reply settings (replies.Set policy) = at.SetPolicy policy settings
after_reply settings other = at.Over (answers.Replied other)

abbrev pub at_policy : List ℕ → ℕ → PrctlAt
at_policy arguments found = after_reply (words.settings_of found) (reply (words.policy_of found) arguments)

abbrev pub next_at : List ℕ → PrctlAt → ℕ → PrctlAt
next_at arguments at.LoadStop found = at_start found
next_at arguments at.LoadProcess found = at_process found
next_at arguments at.LoadPolicy found = at_policy arguments found
next_at arguments (at.SetPolicy policy settings) found = at.Over (answers.Replied (replies.Set policy))
next_at arguments (at.Over answer) found = at.Over answer

abbrev pub next : Prctl → ℕ → Prctl
next p found = record p { at = next_at p.arguments p.at found }

-- the number of settings in a policy word fits 32 bits
abbrev pub ShowsAt : PrctlAt → ℕ → Type 0
ShowsAt at.LoadPolicy found = found < 2 ^ 34
ShowsAt _ found = Unit {0}

abbrev pub Shows : Prctl → ℕ → Type 0
Shows p found = ShowsAt p.at found

abbrev pub answer_at : PrctlAt → Option PrctlAnswer
answer_at (at.Over answer) = Some answer
answer_at _ = None

abbrev pub answer : Prctl → Option PrctlAnswer
answer p = answer_at p.at

-- the thread's policy, by the settings that its processor's view lists
abbrev pub policy_now : Thread → View → Policy
policy_now thread view = last_policy policy_names.Default (settings_of thread view.settings)

-- the thread can be set once more
abbrev pub HasSettingLeft : Thread → View → Type 0
HasSettingLeft thread view = length (settings_of thread view.settings) < command_limit

-- this policy is to be set, after so many settings, as prctl(2) says
pub record IsToSet (view : View) (thread : Thread) (arguments : List ℕ) (policy : Policy) (settings : ℕ) : Type 0 where
  pub number : settings ≡ length (settings_of thread view.settings)
  pub few : HasSettingLeft thread view
  pub says : reply (policy_now thread view) arguments ≡ replies.Set policy

-- the command set the policy, and the settings before it were such that prctl(2) says so
pub record HasSet (view : View) (who : Who) (thread : Thread) (arguments : List ℕ) (policy : Policy) : Type 0 where
  pub before : List Setting
  pub last : Setting
  pub all : settings_of thread view.settings ≡ before ++ last ∷ []
  pub own : last.stamp.who ≡ who
  pub policy_is : last.policy ≡ policy
  pub says : reply (last_policy policy_names.Default before) arguments ≡ replies.Set policy

-- the reply is what prctl(2) says about the thread's policy
abbrev pub WasReplied : View → Who → Thread → List ℕ → Reply → Type 0
WasReplied view who thread arguments (replies.Set policy) = HasSet view who thread arguments policy
WasReplied view who thread arguments other = reply (policy_now thread view) arguments ≡ other

-- the thread's process goes on
abbrev pub GoesOn : View → Who → Proc → Type 0
GoesOn view who process = Saw view who (places.Process process) 0

abbrev pub FitsOver : View → Who → Thread → Proc → List ℕ → PrctlAnswer → Type 0
FitsOver view who thread process arguments answers.Stopped = SawStop view who
FitsOver view who thread process arguments (answers.Gone page) = Saw view who (places.Process process) (page.0 + 1)
FitsOver view who thread process arguments (answers.Replied r) = GoesOn view who process × WasReplied view who thread arguments r

abbrev pub FitsAt : View → Who → Thread → Proc → List ℕ → PrctlAt → Type 0
FitsAt view who thread process arguments at.LoadStop = HasSettingLeft thread view
FitsAt view who thread process arguments at.LoadProcess = HasSettingLeft thread view
FitsAt view who thread process arguments at.LoadPolicy = HasSettingLeft thread view × GoesOn view who process
FitsAt view who thread process arguments (at.SetPolicy policy settings) = IsToSet view thread arguments policy settings × GoesOn view who process
FitsAt view who thread process arguments (at.Over answer) = FitsOver view who thread process arguments answer

-- nothing is held, the command makes no entry, and the thread is one of its processor and of the process
pub record Fits (layout : Layout) (view : View) (p : Prctl) : Type 0 where
  pub on_turn : IsOnTurn view p.who
  pub hand_is : hand_of view ≡ empty
  pub made : HasMadeNone view p.who
  pub decl : ThreadDecl
  pub declared : slice_get layout.threads p.thread.0 ≡ Some decl
  pub own : decl.cpu ≡ p.who.cpu
  pub process_is : decl.process ≡ p.process
  pub process : p.process.0 < layout.procs
  pub at : FitsAt view p.who p.thread p.process p.arguments p.at

-- the turns that are left
abbrev pub cost_at : PrctlAt → ℕ
cost_at at.LoadStop = 4
cost_at at.LoadProcess = 3
cost_at at.LoadPolicy = 2
cost_at (at.SetPolicy policy settings) = 1
cost_at (at.Over answer) = 0

abbrev pub cost : Prctl → ℕ
cost p = cost_at p.at

-- the task, as the laws of tasks read it
abbrev pub task : Member Prctl
task = record {
  who = λ p. p.who;
  plan = plan;
  put = λ p. None;
  bare = λ p. p;
  shows = λ p found got. Shows p found;
  next = λ layout p found got after result. (after ≡ next p found) × (result ≡ Moved);
  fits = Fits;
  class = λ p. 4;
  cost = λ p words. cost p;
  aborts = λ p. false;
  claims = λ p. None;
}
