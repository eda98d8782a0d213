-- A line of a frame that goes bad, or weak: the task's states, its steps and what they come to.
use Rattle.std.specs.Prelude.{◌≡◌, ℕ, ◌<◌, false, cond, Option, Some, None}
use Rattle.hwp_core_rule.specs.hwp_geom.declared.Damage.{Damage}
use Rattle.hwp_core_rule.specs.hwp_geom.declared.Frame.{Frame}
use Rattle.hwp_core_rule.specs.hwp_geom.declared.Layout.{Layout}
use Rattle.hwp_core_rule.specs.hwp_geom.declared.Who.{Who}
use Rattle.hwp_core_rule.specs.hwp_words.Stops.{is_stopped}
use Rattle.hwp_core_rule.specs.declared.SharedWord.TheVariants as places
use Rattle.hwp_core_rule.specs.declared.Spoiled.{Spoiled}
use Rattle.hwp_core_rule.specs.declared.Step.{Step}
use Rattle.hwp_core_rule.specs.declared.Step.TheVariants as steps
use Rattle.hwp_core_rule.specs.declared.View.{View}
use Rattle.hwp_core_rule.specs.declared.Turn.TheVariants.{Moved}
use Rattle.hwp_core_rule.specs.Lists.{SomeMember}
use Rattle.hwp_core_rule.specs.Calls.{IsOnTurn}
use Rattle.hwp_core_rule.specs.Hands.{hand_of, empty}
use Rattle.hwp_core_rule.specs.Known.{HasMadeNone, SawStop}
use Rattle.hwp_core_rule.specs.Turns.{Member}
use Rattle.hwp_cpu_control.specs.declared.spoil.Spoil.{Spoil}
use Rattle.hwp_cpu_control.specs.declared.spoil.SpoilAt.{SpoilAt}
use Rattle.hwp_cpu_control.specs.declared.spoil.SpoilAt.TheVariants as at
use Rattle.hwp_cpu_control.specs.declared.spoil.SpoilAnswer.{SpoilAnswer}
use Rattle.hwp_cpu_control.specs.declared.spoil.SpoilAnswer.TheVariants as answers

abbrev pub begin : Who → Frame → ℕ → Damage → Spoil
begin who frame line damage = record { who = who; frame = frame; line = line; damage = damage; at = at.LoadStop }

abbrev pub plan_at : Frame → ℕ → Damage → SpoilAt → Option Step
plan_at frame line damage at.LoadStop = Some (steps.Load places.Stop)
plan_at frame line damage at.Spoil = Some (steps.Spoil frame line damage)
plan_at frame line damage (at.Over answer) = None

abbrev pub plan : Spoil → Option Step
plan s = plan_at s.frame s.line s.damage s.at

-- what follows the stop word
abbrev pub at_start : ℕ → SpoilAt
at_start found = cond (is_stopped found) (at.Over answers.Stopped) at.Spoil

abbrev pub next_at : SpoilAt → ℕ → SpoilAt
next_at at.LoadStop found = at_start found
next_at at.Spoil found = at.Over answers.Done
next_at (at.Over answer) found = at.Over answer

abbrev pub next : Spoil → ℕ → Spoil
next s found = record s { at = next_at s.at found }

abbrev pub answer_at : SpoilAt → Option SpoilAnswer
answer_at (at.Over answer) = Some answer
answer_at _ = None

abbrev pub answer : Spoil → Option SpoilAnswer
answer s = answer_at s.at

-- the command spoiled this line of the frame
abbrev pub HasSpoiled : View → Who → Frame → ℕ → Damage → Type 0
HasSpoiled view who frame line damage = SomeMember (λ (s : Spoiled). (s.stamp.who ≡ who) × (s.frame ≡ frame) × (s.line ≡ line) × (s.damage ≡ damage)) view.spoiled

abbrev pub FitsAt : View → Who → Frame → ℕ → Damage → SpoilAt → Type 0
FitsAt view who frame line damage (at.Over answers.Done) = HasSpoiled view who frame line damage
FitsAt view who frame line damage (at.Over answers.Stopped) = SawStop view who
FitsAt view who frame line damage _ = Unit {0}

-- nothing is held, the command makes no entry, and the frame is one of the machine
pub record Fits (layout : Layout) (view : View) (s : Spoil) : Type 0 where
  pub on_turn : IsOnTurn view s.who
  pub hand_is : hand_of view ≡ empty
  pub made : HasMadeNone view s.who
  pub frame : s.frame.0 < layout.frames
  pub at : FitsAt view s.who s.frame s.line s.damage s.at

-- the turns that are left
abbrev pub cost_at : SpoilAt → ℕ
cost_at at.LoadStop = 2
cost_at at.Spoil = 1
cost_at (at.Over answer) = 0

abbrev pub cost : Spoil → ℕ
cost s = cost_at s.at

-- the task, as the laws of tasks read it
abbrev pub task : Member Spoil
task = record {
  who = λ s. s.who;
  plan = plan;
  put = λ s. None;
  bare = λ s. s;
  shows = λ s found got. Unit {0};
  next = λ layout s found got after result. (after ≡ next s found) × (result ≡ Moved);
  fits = Fits;
  class = λ s. 4;
  cost = λ s words. cost s;
  aborts = λ s. false;
  claims = λ s. None;
}
