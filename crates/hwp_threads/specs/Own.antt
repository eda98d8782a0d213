-- The turns of one processor, as its own task makes them.
use Rattle.std.specs.Prelude.{◌≡◌, ℕ, List, [], ◌∷◌, Option, Some}
use Rattle.hwp_core_rule.specs.hwp_geom.declared.Layout.{Layout}
use Rattle.hwp_core_rule.specs.hwp_page.History.{BodyValue}
use Rattle.hwp_core_rule.specs.declared.Rec.{Rec}
use Rattle.hwp_core_rule.specs.declared.Step.{Step}
use Rattle.hwp_core_rule.specs.declared.View.{View}
use Rattle.hwp_core_rule.specs.Views.{view_after}
use Rattle.hwp_core_rule.specs.declared.Turn.{Turn}
use Rattle.hwp_core_rule.specs.Calls.{Brings, logs, rec_of}
use Rattle.hwp_core_rule.specs.Turns.{Member}

-- a processor between two of its turns: what it knows, and its task
pub record Standing (S : Type 0) : Type 0 where
  pub view : View
  pub task : S

-- a turn: from where, its step, the word and the body that it met, and the task that followed
pub record Turned (S : Type 0) : Type 0 where
  pub before : Standing S
  pub step : Step
  pub found : ℕ
  pub got : Option BodyValue
  pub after : S
  pub turn : Turn

-- the step, as a move
abbrev pub made_of : {S : Type 0} → Member S → Layout → Turned S → Rec
made_of m layout t = rec_of layout (m.who t.before.task) t.step (logs (m.put t.before.task)) t.found t.got

-- where the processor stands after it
abbrev pub after_of : {S : Type 0} → Member S → Layout → Turned S → Standing S
after_of m layout t = record { view = view_after layout (made_of m layout t) t.before.view; task = t.after }

-- the task fitted, and the turn is the one that it planned
pub record IsTurn {S : Type 0} (m : Member S) (layout : Layout) (t : Turned S) : Type 0 where
  pub fits : m.fits layout t.before.view t.before.task
  pub planned : m.plan t.before.task ≡ Some t.step
  pub brings : Brings layout t.step t.found t.got
  pub follows : m.next layout (m.bare t.before.task) t.found t.got t.after t.turn

-- the processor's turns, the newest first, lead from where it stood to where it stands
abbrev pub IsOwnRun : {S : Type 0} → Member S → Layout → Standing S → List (Turned S) → Standing S → Type 0
IsOwnRun m layout from [] to = to ≡ from
IsOwnRun m layout from (t ∷ ts) to = IsTurn m layout t × (to ≡ after_of m layout t) × IsOwnRun m layout from ts t.before
