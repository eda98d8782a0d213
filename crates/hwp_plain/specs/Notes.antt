-- What is noted of a turn, before it and after it.
use Rattle.std.specs.Prelude.{◌≡◌, List, [], ◌∷◌, ◌++◌, Option, Some, None}
use Rattle.hwp_core_rule.specs.hwp_geom.declared.Kind.{Kind}
use Rattle.hwp_core_rule.specs.hwp_geom.declared.Layout.{Layout}
use Rattle.hwp_core_rule.specs.hwp_geom.declared.Who.{Who}
use Rattle.hwp_core_rule.specs.declared.State.{State}
use Rattle.hwp_core_rule.specs.declared.Step.{Step}
use Rattle.hwp_core_rule.specs.Steps.{place_of}
use Rattle.hwp_core_rule.specs.Words.{IsPlace, read, words_of}
use Rattle.hwp_core_rule.specs.declared.Turn.{Turn}
use Rattle.hwp_plain.specs.declared.trace_line.TraceLine.{TraceLine}
use Rattle.hwp_plain.specs.declared.notes.Sight.{Sight}

-- the word that a step will touch, as it stands on the board
pub record SeesStep (layout : Layout) (state : State) (who : Who) (step : Step) (seen : Option Sight) : Type 0 where
  pub seen_is : seen ≡ Some (record { who = who; place = place_of step; before = read (place_of step) (words_of layout state.words) })
  pub within : IsPlace layout (place_of step)

-- what is seen before a turn: the word that its step will touch, or nothing where no step comes
abbrev pub Sees : Layout → State → Who → Option Step → Option Sight → Type 0
Sees layout state who None seen = seen ≡ None
Sees layout state who (Some step) seen = SeesStep layout state who step seen

-- the line of a turn with a step of this kind, which led to this board
abbrev pub line_now : Layout → State → Sight → Turn → Kind → TraceLine
line_now layout state seen turn kind = record {
  who = seen.who;
  kind = kind;
  place = seen.place;
  before = seen.before;
  after = read seen.place (words_of layout state.words);
  turn = turn;
}

-- and none where it had no step
abbrev pub line_seen : Layout → State → Option Sight → Turn → Option Kind → Option TraceLine
line_seen layout state None turn kind = None
line_seen layout state (Some seen) turn None = None
line_seen layout state (Some seen) turn (Some kind) = Some (line_now layout state seen turn kind)

-- the lines are those of before, and this one behind them
pub record IsOneMore (lines : Option (List TraceLine)) (line : TraceLine) (now : List TraceLine) : Type 0 where
  pub earlier : List TraceLine
  pub were : lines ≡ Some earlier
  pub now_is : now ≡ earlier ++ line ∷ []

-- the line of a turn, where there is one, stands behind the lines of before; or there are none any more
abbrev pub Notes : Option (List TraceLine) → Option TraceLine → Option (List TraceLine) → Type 0
Notes lines None now = now ≡ lines
Notes lines (Some line) None = Unit {0}
Notes lines (Some line) (Some now) = IsOneMore lines line now
