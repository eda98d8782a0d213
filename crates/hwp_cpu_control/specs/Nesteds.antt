-- A machine check inside a machine check: the task's states, its steps and what they come to.
use Rattle.std.specs.Prelude.{◌≡◌, ℕ, ◌==◌, false, cond, Option, Some, None}
use Rattle.hwp_core_rule.specs.hwp_geom.declared.Layout.{Layout}
use Rattle.hwp_core_rule.specs.hwp_geom.declared.Who.{Who}
use Rattle.hwp_core_rule.specs.hwp_words.Stops.{is_stopped}
use Rattle.hwp_core_rule.specs.declared.SharedWord.TheVariants as places
use Rattle.hwp_core_rule.specs.declared.Step.{Step}
use Rattle.hwp_core_rule.specs.declared.Step.TheVariants as steps
use Rattle.hwp_core_rule.specs.declared.View.{View}
use Rattle.hwp_core_rule.specs.Lists.{SomeMember}
use Rattle.hwp_core_rule.specs.declared.Turn.{Turn}
use Rattle.hwp_core_rule.specs.declared.Turn.TheVariants.{Moved, Changed, NoMemory}
use Rattle.hwp_core_rule.specs.Calls.{IsOnTurn}
use Rattle.hwp_core_rule.specs.Hands.{hand_of, empty}
use Rattle.hwp_core_rule.specs.Known.{HasMadeNone, SawStop}
use Rattle.hwp_core_rule.specs.Turns.{Member}
use Rattle.hwp_cpu_control.specs.declared.nested.Nested.{Nested}
use Rattle.hwp_cpu_control.specs.declared.nested.NestedAt.{NestedAt}
use Rattle.hwp_cpu_control.specs.declared.nested.NestedAt.TheVariants as at
use Rattle.hwp_cpu_control.specs.declared.nested.NestedAnswer.{NestedAnswer}
use Rattle.hwp_cpu_control.specs.declared.nested.NestedAnswer.TheVariants as answers

abbrev pub begin : Who → Nested
begin who = record { who = who; at = at.LoadStop }

abbrev pub plan_at : Who → NestedAt → Option Step
plan_at who at.LoadStop = Some (steps.Load places.Stop)
plan_at who at.Stop = Some (steps.Stop who.cpu)
plan_at who (at.Over answer) = None

abbrev pub plan : Nested → Option Step
plan n = plan_at n.who n.at

-- what follows the stop word that was shown first
abbrev pub at_start : ℕ → NestedAt
at_start found = cond (is_stopped found) (at.Over (Some answers.Stopped)) at.Stop

-- the answer to the stop word that the command's own stop met: none where another has given up because memory ran out
abbrev pub after_stop : ℕ → Option NestedAnswer
after_stop found = cond (found == 0) (Some answers.Shutdown) (cond (is_stopped found) (Some answers.Stopped) None)

abbrev pub next_at : NestedAt → ℕ → NestedAt
next_at at.LoadStop found = at_start found
next_at at.Stop found = at.Over (after_stop found)
next_at (at.Over answer) found = at.Over answer

abbrev pub next : Nested → ℕ → Nested
next n found = record n { at = next_at n.at found }

abbrev pub turn_of_stop : ℕ → Turn
turn_of_stop found = cond (found == 0) Moved (cond (is_stopped found) (Changed found) NoMemory)

abbrev pub turn_at : NestedAt → ℕ → Turn
turn_at at.Stop found = turn_of_stop found
turn_at _ found = Moved

abbrev pub turn : Nested → ℕ → Turn
turn n found = turn_at n.at found

abbrev pub answer_at : NestedAt → Option NestedAnswer
answer_at (at.Over answer) = answer
answer_at _ = None

abbrev pub answer : Nested → Option NestedAnswer
answer n = answer_at n.at

-- the command stopped the machine
abbrev pub HasStopped : View → Who → Type 0
HasStopped view who = SomeMember (λ (w : Who). w ≡ who) view.stops

abbrev pub FitsAt : View → Who → NestedAt → Type 0
FitsAt view who (at.Over (Some answers.Shutdown)) = HasStopped view who
FitsAt view who (at.Over (Some answers.Stopped)) = SawStop view who
FitsAt view who _ = Unit {0}

-- nothing is held, and the command makes no entry
pub record Fits (layout : Layout) (view : View) (n : Nested) : Type 0 where
  pub on_turn : IsOnTurn view n.who
  pub hand_is : hand_of view ≡ empty
  pub made : HasMadeNone view n.who
  pub at : FitsAt view n.who n.at

-- the turns that are left
abbrev pub cost_at : NestedAt → ℕ
cost_at at.LoadStop = 2
cost_at at.Stop = 1
cost_at (at.Over answer) = 0

abbrev pub cost : Nested → ℕ
cost n = cost_at n.at

-- the task, as the laws of tasks read it
abbrev pub task : Member Nested
task = record {
  who = λ n. n.who;
  plan = plan;
  put = λ n. None;
  bare = λ n. n;
  shows = λ n found got. Unit {0};
  next = λ layout n found got after result. (after ≡ next n found) × (result ≡ turn n found);
  fits = Fits;
  class = λ n. 4;
  cost = λ n words. cost n;
  aborts = λ n. false;
  claims = λ n. None;
}
