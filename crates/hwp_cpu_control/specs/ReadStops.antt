-- A command that only looks whether the machine has stopped: the task's states, its step and what it comes to.
use Rattle.std.specs.Prelude.{◌≡◌, ℕ, false, cond, Option, Some, None}
use Rattle.hwp_core_rule.specs.hwp_geom.declared.Layout.{Layout}
use Rattle.hwp_core_rule.specs.hwp_geom.declared.Who.{Who}
use Rattle.hwp_core_rule.specs.hwp_words.Stops.{is_stopped}
use Rattle.hwp_core_rule.specs.declared.SharedWord.TheVariants as places
use Rattle.hwp_core_rule.specs.declared.Step.{Step}
use Rattle.hwp_core_rule.specs.declared.Step.TheVariants as steps
use Rattle.hwp_core_rule.specs.declared.View.{View}
use Rattle.hwp_core_rule.specs.declared.Turn.TheVariants.{Moved}
use Rattle.hwp_core_rule.specs.Calls.{IsOnTurn}
use Rattle.hwp_core_rule.specs.Hands.{hand_of, empty}
use Rattle.hwp_core_rule.specs.Known.{HasMadeNone, SawStop}
use Rattle.hwp_core_rule.specs.Turns.{Member}
use Rattle.hwp_cpu_control.specs.declared.read_stop.ReadStop.{ReadStop}
use Rattle.hwp_cpu_control.specs.declared.read_stop.ReadStopAt.{ReadStopAt}
use Rattle.hwp_cpu_control.specs.declared.read_stop.ReadStopAt.TheVariants as at
use Rattle.hwp_cpu_control.specs.declared.read_stop.ReadStopAnswer.{ReadStopAnswer}
use Rattle.hwp_cpu_control.specs.declared.read_stop.ReadStopAnswer.TheVariants as answers

abbrev pub begin : Who → ReadStop
begin who = record { who = who; at = at.LoadStop }

abbrev pub plan_at : ReadStopAt → Option Step
plan_at at.LoadStop = Some (steps.Load places.Stop)
plan_at (at.Over answer) = None

abbrev pub plan : ReadStop → Option Step
plan r = plan_at r.at

-- the answer to the stop word that was shown
abbrev pub answer_to : ℕ → ReadStopAnswer
answer_to found = cond (is_stopped found) answers.Stopped answers.Done

abbrev pub next_at : ReadStopAt → ℕ → ReadStopAt
next_at at.LoadStop found = at.Over (answer_to found)
next_at (at.Over answer) found = at.Over answer

abbrev pub next : ReadStop → ℕ → ReadStop
next r found = record r { at = next_at r.at found }

abbrev pub answer_at : ReadStopAt → Option ReadStopAnswer
answer_at at.LoadStop = None
answer_at (at.Over answer) = Some answer

abbrev pub answer : ReadStop → Option ReadStopAnswer
answer r = answer_at r.at

-- `stopped` is answered where a step of the command showed it
abbrev pub FitsAt : View → Who → ReadStopAt → Type 0
FitsAt view who (at.Over answers.Stopped) = SawStop view who
FitsAt view who _ = Unit {0}

-- nothing is held, and the command makes no entry
pub record Fits (layout : Layout) (view : View) (r : ReadStop) : Type 0 where
  pub on_turn : IsOnTurn view r.who
  pub hand_is : hand_of view ≡ empty
  pub made : HasMadeNone view r.who
  pub at : FitsAt view r.who r.at

-- the turns that are left
abbrev pub cost_at : ReadStopAt → ℕ
cost_at at.LoadStop = 1
cost_at (at.Over answer) = 0

abbrev pub cost : ReadStop → ℕ
cost r = cost_at r.at

-- the task, as the laws of tasks read it
abbrev pub task : Member ReadStop
task = record {
  who = λ r. r.who;
  plan = plan;
  put = λ r. None;
  bare = λ r. r;
  shows = λ r found got. Unit {0};
  next = λ layout r found got after result. (after ≡ next r found) × (result ≡ Moved);
  fits = Fits;
  class = λ r. 4;
  cost = λ r words. cost r;
  aborts = λ r. false;
  claims = λ r. None;
}
