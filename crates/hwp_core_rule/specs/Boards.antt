-- What a board keeps, and what a turn of a task on it comes to.
use Rattle.std.specs.Prelude.{◌≡◌, ℕ, ◌<◌, List, ◌∷◌, Option, Some, None, slice_get, slice_index_or}
use Rattle.hwp_page.specs.hwp_geom.declared.Cpu.{Cpu}
use Rattle.hwp_page.specs.hwp_geom.declared.Kind.{Kind}
use Rattle.hwp_page.specs.hwp_geom.declared.Layout.{Layout}
use Rattle.hwp_page.specs.History.{BodyValue}
use Rattle.hwp_core_rule.specs.declared.view.Part.{Part}
use Rattle.hwp_core_rule.specs.declared.record.Rec.{Rec}
use Rattle.hwp_core_rule.specs.declared.record.State.{State}
use Rattle.hwp_core_rule.specs.declared.step.Step.{Step}
use Rattle.hwp_core_rule.specs.declared.view.View.{View}
use Rattle.hwp_core_rule.specs.Lists.{SomeMember}
use Rattle.hwp_core_rule.specs.Moves.{Move}
use Rattle.hwp_core_rule.specs.Opening.{opening_view}
use Rattle.hwp_core_rule.specs.Steps.{kind_of}
use Rattle.hwp_core_rule.specs.declared.turn.Turn.{Turn}
use Rattle.hwp_core_rule.specs.declared.turn.Turn.TheVariants as turns
use Rattle.hwp_core_rule.specs.Calls.{Brings, logs, rec_of}
use Rattle.hwp_core_rule.specs.Turns.{Member}

-- a move that was made, and the turn that it was
pub record Played : Type 0 where
  pub seat : ℕ
  pub made : Rec
  pub turn : Turn

-- what a seat knows; past the last seat nothing is held
abbrev pub view_of : State → ℕ → View
view_of s seat = slice_index_or s.views seat (opening_view seat)

-- each processor has a seat of its own, and what the seat knows is the processor's
pub record AreSeated (layout : Layout) (s : State) (seat : Cpu → ℕ) : Type 0 where
  pub there : (cpu : Cpu) → cpu.0 < layout.cpus → slice_get s.views (seat cpu) ≡ Some (view_of s (seat cpu))
  pub own : (cpu : Cpu) → cpu.0 < layout.cpus → SomeMember (λ (p : Part). p.cpu ≡ cpu) (view_of s (seat cpu)).parts
  pub apart : (c d : Cpu) → c.0 < layout.cpus → d.0 < layout.cpus → seat c ≡ seat d → c ≡ d

-- the turn was one move of the seat, which the log tells with it; its kind is told, and the task is one that follows
pub record TurnMade {S : Type 0} (m : Member S) (layout : Layout) (seat : ℕ) (step : Step) (a b : State) (was now : List Played) (before after : S) (result : Turn × Option Kind) : Type 0 where
  pub found : ℕ
  pub got : Option BodyValue
  pub move : Move layout seat (rec_of layout (m.who before) step (logs (m.put before)) found got) a b
  pub brings : Brings layout step found got
  pub logged : now ≡ record { seat = seat; made = rec_of layout (m.who before) step (logs (m.put before)) found got; turn = result.0 } ∷ was
  pub follows : m.next layout (m.bare before) found got after result.0
  pub kind : result.1 ≡ kind_of step

-- the task is over: nothing changed
pub record NoTurn {S : Type 0} (a b : State) (was now : List Played) (before after : S) (result : Turn × Option Kind) : Type 0 where
  pub board : b ≡ a
  pub log : now ≡ was
  pub task : after ≡ before
  pub finished : result ≡ (turns.Finished, None)

-- a turn makes the step that was planned, or none where none was
abbrev pub TakesTurnBy : {S : Type 0} → Member S → Layout → ℕ → Option Step → State → State → List Played → List Played → S → S → Turn × Option Kind → Type 0
TakesTurnBy m layout seat None a b was now before after result = NoTurn a b was now before after result
TakesTurnBy m layout seat (Some step) a b was now before after result = TurnMade m layout seat step a b was now before after result

abbrev pub TakesTurn : {S : Type 0} → Member S → Layout → ℕ → State → State → List Played → List Played → S → S → Turn × Option Kind → Type 0
TakesTurn m layout seat a b was now before after result = TakesTurnBy m layout seat (m.plan before) a b was now before after result
