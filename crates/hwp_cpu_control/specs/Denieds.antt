-- An access that its guest doesn't admit: the task's states, its steps and what they come to.
use Rattle.std.specs.Prelude.{◌≡◌, ℕ, ◌+◌, ◌<◌, false, cond, Option, Some, None}
use Rattle.hwp_core_rule.specs.hwp_geom.declared.Layout.{Layout}
use Rattle.hwp_core_rule.specs.hwp_geom.declared.Page.{Page}
use Rattle.hwp_core_rule.specs.hwp_geom.declared.Proc.{Proc}
use Rattle.hwp_core_rule.specs.hwp_geom.declared.Who.{Who}
use Rattle.hwp_core_rule.specs.hwp_words.Names.{page_named}
use Rattle.hwp_core_rule.specs.hwp_words.Stops.{is_stopped}
use Rattle.hwp_core_rule.specs.declared.SharedWord.TheVariants as places
use Rattle.hwp_core_rule.specs.declared.Step.{Step}
use Rattle.hwp_core_rule.specs.declared.Step.TheVariants as steps
use Rattle.hwp_core_rule.specs.declared.View.{View}
use Rattle.hwp_core_rule.specs.declared.Turn.TheVariants.{Moved}
use Rattle.hwp_core_rule.specs.Calls.{IsOnTurn}
use Rattle.hwp_core_rule.specs.Hands.{hand_of, empty}
use Rattle.hwp_core_rule.specs.Known.{HasMadeNone, Saw, SawStop}
use Rattle.hwp_core_rule.specs.Turns.{Member}
use Rattle.hwp_cpu_control.specs.declared.denied.Denial.{Denial}
use Rattle.hwp_cpu_control.specs.declared.denied.Denied.{Denied}
use Rattle.hwp_cpu_control.specs.declared.denied.DeniedAt.{DeniedAt}
use Rattle.hwp_cpu_control.specs.declared.denied.DeniedAt.TheVariants as at
use Rattle.hwp_cpu_control.specs.declared.denied.DeniedAnswer.{DeniedAnswer}
use Rattle.hwp_cpu_control.specs.declared.denied.DeniedAnswer.TheVariants as answers
use Rattle.hwp_cpu_control.specs.Prctls.{GoesOn}

abbrev pub begin : Who → Proc → Denial → Denied
begin who process why = record { who = who; process = process; why = why; at = at.LoadStop }

abbrev pub plan_at : Proc → DeniedAt → Option Step
plan_at process at.LoadStop = Some (steps.Load places.Stop)
plan_at process at.LoadProcess = Some (steps.Load (places.Process process))
plan_at process (at.Over answer) = None

abbrev pub plan : Denied → Option Step
plan d = plan_at d.process d.at

-- what follows the stop word
abbrev pub at_start : ℕ → DeniedAt
at_start found = cond (is_stopped found) (at.Over answers.Stopped) at.LoadProcess

-- what follows the word of the process: 0, or the page whose history has the signal that ended it
abbrev pub after_process : Option Page → DeniedAt
after_process None = at.Over answers.Denied
after_process (Some page) = at.Over (answers.Gone page)

abbrev pub at_process : ℕ → DeniedAt
at_process found = after_process (page_named found)

abbrev pub next_at : DeniedAt → ℕ → DeniedAt
next_at at.LoadStop found = at_start found
next_at at.LoadProcess found = at_process found
next_at (at.Over answer) found = at.Over answer

abbrev pub next : Denied → ℕ → Denied
next d found = record d { at = next_at d.at found }

abbrev pub answer_at : DeniedAt → Option DeniedAnswer
answer_at (at.Over answer) = Some answer
answer_at _ = None

abbrev pub answer : Denied → Option DeniedAnswer
answer d = answer_at d.at

-- each answer has its cause: a stop word or a word of the process that a step of the command showed
abbrev pub FitsOver : View → Who → Proc → DeniedAnswer → Type 0
FitsOver view who process answers.Stopped = SawStop view who
FitsOver view who process (answers.Gone page) = Saw view who (places.Process process) (page.0 + 1)
FitsOver view who process answers.Denied = GoesOn view who process

abbrev pub FitsAt : View → Who → Proc → DeniedAt → Type 0
FitsAt view who process (at.Over answer) = FitsOver view who process answer
FitsAt view who process _ = Unit {0}

-- nothing is held, the command makes no entry, and the process is declared
pub record Fits (layout : Layout) (view : View) (d : Denied) : Type 0 where
  pub on_turn : IsOnTurn view d.who
  pub hand_is : hand_of view ≡ empty
  pub made : HasMadeNone view d.who
  pub process : d.process.0 < layout.procs
  pub at : FitsAt view d.who d.process d.at

-- the turns that are left
abbrev pub cost_at : DeniedAt → ℕ
cost_at at.LoadStop = 2
cost_at at.LoadProcess = 1
cost_at (at.Over answer) = 0

abbrev pub cost : Denied → ℕ
cost d = cost_at d.at

-- the task, as the laws of tasks read it
abbrev pub task : Member Denied
task = record {
  who = λ d. d.who;
  plan = plan;
  put = λ d. None;
  bare = λ d. d;
  shows = λ d found got. Unit {0};
  next = λ layout d found got after result. (after ≡ next d found) × (result ≡ Moved);
  fits = Fits;
  class = λ d. 4;
  cost = λ d words. cost d;
  aborts = λ d. false;
  claims = λ d. None;
}
