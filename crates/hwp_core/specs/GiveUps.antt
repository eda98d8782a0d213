-- A command given up because memory ran out: the task's states, its steps and what they come to.
use Rattle.std.specs.Prelude.{◌≡◌, ℕ, ◌+◌, false, cond, Option, Some, None, is_none}
use Rattle.hwp_core_rule.specs.hwp_geom.declared.Frame.{Frame}
use Rattle.hwp_core_rule.specs.hwp_geom.declared.Layout.{Layout}
use Rattle.hwp_core_rule.specs.hwp_geom.declared.Page.{Page}
use Rattle.hwp_core_rule.specs.hwp_geom.declared.Who.{Who}
use Rattle.hwp_core_rule.specs.hwp_page.History.{BodyValue}
use Rattle.hwp_core_rule.specs.declared.Step.{Step}
use Rattle.hwp_core_rule.specs.declared.Step.TheVariants as steps
use Rattle.hwp_core_rule.specs.declared.View.{View}
use Rattle.hwp_core_rule.specs.Words.{Words}
use Rattle.hwp_core_rule.specs.declared.Turn.{Turn}
use Rattle.hwp_core_rule.specs.declared.Turn.TheVariants.{Moved, NoMemory}
use Rattle.hwp_core_rule.specs.Calls.{IsOnTurn}
use Rattle.hwp_core_rule.specs.Hands.{hand_of, empty}
use Rattle.hwp_core_rule.specs.Turns.{Member}
use Rattle.hwp_core.specs.declared.give_up.GiveUp.{GiveUp}
use Rattle.hwp_core.specs.declared.give_up.GiveUpAt.{GiveUpAt}
use Rattle.hwp_core.specs.declared.give_up.GiveUpAt.TheVariants as at
use Rattle.hwp_core.specs.declared.unhold.Unhold.{Unhold}
use Rattle.hwp_core.specs.declared.unlock.Unlock.{Unlock}
use Rattle.hwp_core.specs.Unholds as unholds
use Rattle.hwp_core.specs.Unlocks as unlocks

abbrev pub with_page : Who → Page → Option Frame → ℕ → BodyValue → GiveUp
with_page who page frame count body = record { who = who; at = at.Unhold (unholds.begin who page frame count body) }

abbrev pub with_frame : Who → Frame → BodyValue → GiveUp
with_frame who frame body = record { who = who; at = at.Unlock (unlocks.begin who frame (Some body)) }

abbrev pub plan_at : GiveUpAt → Option Step
plan_at (at.Unhold u) = unholds.plan u
plan_at (at.Unlock u) = unlocks.plan u
plan_at at.GiveUp = Some steps.GiveUp
plan_at at.Over = None

abbrev pub plan : GiveUp → Option Step
plan g = plan_at g.at

abbrev pub put_at : GiveUpAt → Option BodyValue
put_at (at.Unhold u) = unholds.put u
put_at (at.Unlock u) = unlocks.put u
put_at _ = None

abbrev pub put : GiveUp → Option BodyValue
put g = put_at g.at

abbrev pub bare_at : GiveUpAt → GiveUpAt
bare_at (at.Unhold u) = at.Unhold (unholds.bare u)
bare_at (at.Unlock u) = at.Unlock (unlocks.bare u)
bare_at at.GiveUp = at.GiveUp
bare_at at.Over = at.Over

abbrev pub bare : GiveUp → GiveUp
bare g = record g { at = bare_at g.at }

-- once all is let go, the command gives up
abbrev pub after_unhold : Unhold → GiveUpAt
after_unhold u = cond (is_none (unholds.plan u)) at.GiveUp (at.Unhold u)

abbrev pub after_unlock : Unlock → GiveUpAt
after_unlock u = cond (is_none (unlocks.plan u)) at.GiveUp (at.Unlock u)

abbrev pub next_at : GiveUpAt → ℕ → GiveUpAt
next_at (at.Unhold u) found = after_unhold (unholds.next u found)
next_at (at.Unlock u) found = after_unlock (unlocks.next u found)
next_at at.GiveUp found = at.Over
next_at at.Over found = at.Over

abbrev pub next : GiveUp → ℕ → GiveUp
next g found = record g { at = next_at g.at found }

-- the turn of the step that gives up is `NoMemory`
abbrev pub turn_at : GiveUpAt → Turn
turn_at at.GiveUp = NoMemory
turn_at _ = Moved

abbrev pub turn : GiveUp → Turn
turn g = turn_at g.at

-- the page is being let go
pub record IsLettingGo (layout : Layout) (view : View) (who : Who) (u : Unhold) : Type 0 where
  pub unhold : unholds.Fits layout view u
  pub own : u.who ≡ who
  pub under_way : is_none (unholds.plan u) ≡ false

-- the frame is being let go
pub record IsUnlocking (layout : Layout) (view : View) (who : Who) (u : Unlock) : Type 0 where
  pub unlock : unlocks.Fits layout view u
  pub own : u.who ≡ who
  pub under_way : is_none (unlocks.plan u) ≡ false

abbrev pub FitsAt : Layout → View → Who → GiveUpAt → Type 0
FitsAt layout view who (at.Unhold u) = IsLettingGo layout view who u
FitsAt layout view who (at.Unlock u) = IsUnlocking layout view who u
FitsAt layout view who at.GiveUp = hand_of view ≡ empty
FitsAt layout view who at.Over = hand_of view ≡ empty

-- the processor holds what it is to let go, and in the end nothing
pub record Fits (layout : Layout) (view : View) (g : GiveUp) : Type 0 where
  pub on_turn : IsOnTurn view g.who
  pub at : FitsAt layout view g.who g.at

abbrev pub class_at : GiveUpAt → ℕ
class_at (at.Unhold u) = unholds.class u
class_at (at.Unlock u) = unlocks.class u
class_at at.GiveUp = 4
class_at at.Over = 4

abbrev pub class : GiveUp → ℕ
class g = class_at g.at

-- the turns that are left
abbrev pub cost_at : GiveUpAt → Words → ℕ
cost_at (at.Unhold u) words = unholds.cost u words + 1
cost_at (at.Unlock u) words = unlocks.cost u words + 1
cost_at at.GiveUp words = 1
cost_at at.Over words = 0

abbrev pub cost : GiveUp → Words → ℕ
cost g words = cost_at g.at words

-- the task, as the laws of tasks read it
abbrev pub task : Member GiveUp
task = record {
  who = λ g. g.who;
  plan = plan;
  put = put;
  bare = bare;
  shows = λ g found got. Unit {0};
  next = λ layout g found got after result. (after ≡ next g found) × (result ≡ turn g);
  fits = Fits;
  class = class;
  cost = cost;
  aborts = λ g. false;
  claims = λ g. None;
}
