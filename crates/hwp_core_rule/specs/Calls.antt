-- What a step asks and tells. Bodies go with locks: a step that takes a lock brings the body of its slot, and a step that
-- frees it takes the body that is to be there.
use Rattle.std.specs.Prelude.{◌≡◌, ℕ, ◌≤◌, false, cond, Option, Some, None, option_map}
use Rattle.hwp_page.specs.hwp_geom.declared.Layout.{Layout}
use Rattle.hwp_page.specs.hwp_geom.declared.Who.{Who}
use Rattle.hwp_page.specs.History.{BodyValue, IsReplay}
use Rattle.hwp_core_rule.specs.declared.log.Log.{Log}
use Rattle.hwp_core_rule.specs.declared.view.Part.{Part}
use Rattle.hwp_core_rule.specs.declared.record.Rec.{Rec}
use Rattle.hwp_core_rule.specs.declared.step.Step.{Step}
use Rattle.hwp_core_rule.specs.declared.step.Step.TheVariants as steps
use Rattle.hwp_core_rule.specs.declared.view.View.{View}
use Rattle.hwp_core_rule.specs.Asks.{Asks, BeginsBare, IsTurnOf}
use Rattle.hwp_core_rule.specs.Lists.{EachMember}
use Rattle.hwp_core_rule.specs.Logs.{log_of}
use Rattle.hwp_core_rule.specs.Moves.{Told}
use Rattle.hwp_core_rule.specs.SlotMoves.{takes}

-- the histories of bodies
abbrev pub logs : Option BodyValue → Option Log
logs body = option_map log_of body

-- the record of a step of this command that met this word: its content is that of the body that it brought, where it took a
-- lock, and else that of the body that it put
abbrev pub rec_of : Layout → Who → Step → Option Log → ℕ → Option BodyValue → Rec
rec_of layout who step put found got = record { who = who; step = step; found = found; content = cond (takes layout step found) (logs got) put }

-- no step of the processor was of a later command
abbrev pub IsLater : View → Who → ℕ → Type 0
IsLater view who seq = EachMember (λ (p : Part). p.cpu ≡ who.cpu → p.latest ≤ seq) view.parts

-- the processor may make steps of its command
pub record IsOnTurn (view : View) (who : Who) : Type 0 where
  pub turn : IsTurnOf view who
  pub begins : BeginsBare view who
  pub later : IsLater view who who.seq

-- a body is of the machine's layout
abbrev pub FitsLayout : Layout → Option BodyValue → Type 0
FitsLayout layout body = (b : BodyValue) → body ≡ Some b → b.layout ≡ layout

-- a body goes home only with a step that frees a lock
abbrev pub GoesHome : Step → Option BodyValue → Type 0
GoesHome (steps.UnlockFrame frame) put = Unit {0}
GoesHome (steps.UnlockPage page) put = Unit {0}
GoesHome step put = put ≡ None

-- the processor can make the step of its command, with this body for the slot whose lock it frees
pub record CanMake (layout : Layout) (who : Who) (step : Step) (put : Option BodyValue) (view : View) : Type 0 where
  pub later : IsLater view who who.seq
  pub asks : Asks layout who step (logs put) view
  pub layout_is : FitsLayout layout put
  pub goes_home : GoesHome step put

-- the body that the step brought: none where it took no lock; and it is the machine's, with the state of its history
pub record Brings (layout : Layout) (step : Step) (found : ℕ) (got : Option BodyValue) : Type 0 where
  pub none : takes layout step found ≡ false → got ≡ None
  pub layout_is : FitsLayout layout got
  pub kept : (b : BodyValue) → got ≡ Some b → IsReplay b.layout b.page b.log b.state

-- a step was made: it met a word and brought a body, and what its processor then knows is told
pub record Steps (layout : Layout) (who : Who) (step : Step) (put : Option Log) (old new : View) (found : ℕ) (got : Option BodyValue) : Type 0 where
  pub told : Told layout (rec_of layout who step put found got) old new
  pub brings : Brings layout step found got
