-- What clauses see of a plain board, and what it keeps.
use Rattle.std.specs.Prelude.{◌≡◌, ℕ, ◌<◌, Bool, false, List, [], ◌∷◌, Option, map}
use Rattle.hwp_core_rule.specs.hwp_geom.declared.Kind.{Kind}
use Rattle.hwp_core_rule.specs.hwp_geom.declared.Layout.{Layout}
use Rattle.hwp_core_rule.specs.declared.Rec.{Rec}
use Rattle.hwp_core_rule.specs.declared.State.{State}
use Rattle.hwp_core_rule.specs.declared.View.{View}
use Rattle.hwp_core_rule.specs.Moves.{Move, Run}
use Rattle.hwp_core_rule.specs.Opening.{opening}
use Rattle.hwp_core_rule.specs.Rule.{Holds}
use Rattle.hwp_core_rule.specs.Steps.{kind_of}
use Rattle.hwp_core_rule.specs.declared.Turn.{Turn}
use Rattle.hwp_core_rule.specs.declared.Turn.TheVariants as turns
use Rattle.hwp_core_rule.specs.Boards.{Played, view_of}
use Rattle.hwp_plain.specs.declared.slot.Slot.{Slot}
use Rattle.hwp_plain.specs.declared.trail.Trail.{Trail}
use Rattle.hwp_plain.specs.Slots.{home_of, AreOfLayout}
use Rattle.hwp_plain.specs.Trails.{played, views_of}

-- the layout; the words, slots and views; the moves since opening, the newest first; whose turn it is, whether a step can
-- be made now, and the kind of the step that this turn made
pub record Board : Type 0 where
  pub layout : Layout
  pub state : State
  pub log : List Played
  pub seat : ℕ
  pub ready : Bool
  pub made : Option Kind

abbrev pub state_of : Layout → List ℕ → List Slot → Trail → State
state_of layout words slots trail = record { words = words; homes = map home_of slots; views = views_of layout trail }

-- the moves without their turns
abbrev pub moves_of : List Played → List (ℕ × Rec)
moves_of log = map (λ (p : Played). (p.seat, p.made)) log

-- the moves lead from the opening to the state, which keeps the frame rule
pub record IsReached (layout : Layout) (log : List Played) (state : State) : Type 0 where
  pub run : Run layout (opening layout) (moves_of log) state
  pub holds : Holds layout state

-- what the fields of a board keep: it was reached by the moves of its trail, and bodies in slots are of the layout
pub record IsBoard (layout : Layout) (words : List ℕ) (slots : List Slot) (trail : Trail) (seat : ℕ) : Type 0 where
  pub reached : IsReached layout (played trail) (state_of layout words slots trail)
  pub bodies : AreOfLayout layout slots
  pub seated : seat < layout.cpus

-- what the seat knows whose turn it is
abbrev pub own_view : Board → View
own_view b = view_of b.state b.seat

-- the log with a move more, of this turn
abbrev pub logged : ℕ → Rec → Turn → List Played → List Played
logged seat r turn log = record { seat = seat; made = r; turn = turn } ∷ log

-- the log, where the newest move was this turn
abbrev pub with_turn : Turn → List Played → List Played
with_turn turn [] = []
with_turn turn (p ∷ log) = record p { turn = turn } ∷ log

-- one step of the seat moved the board and is logged, and no other can be made in this turn
pub record Moves (a : Board) (r : Rec) (b : Board) : Type 0 where
  pub move : Move a.layout a.seat r a.state b.state
  pub next : b ≡ record a { state = b.state; log = logged a.seat r turns.Moved a.log; ready = false; made = kind_of r.step }
