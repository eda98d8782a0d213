-- The turns of the moves, the newest first.
use Rattle.std.specs.Prelude.{ℕ, List, [], ◌∷◌}
use Rattle.hwp_core_rule.specs.declared.Rec.{Rec}
use Rattle.hwp_core_rule.specs.declared.Turn.{Turn}
use Rattle.hwp_core_rule.specs.declared.Turn.TheVariants as turns
use Rattle.hwp_core_rule.specs.Boards.{Played}
use Rattle.hwp_table.specs.declared.turns.Turns.{Turns, Opening, Made'}

abbrev pub turns_of : Turns → List Turn
turns_of Opening = []
turns_of (Made' p before turn) = turn ∷ turns_of before

-- the turns, where the newest move was this turn
abbrev pub with_newest : Turn → List Turn → List Turn
with_newest turn [] = []
with_newest turn (t ∷ ts) = turn ∷ ts

-- the moves with their turns
abbrev pub played : List (ℕ × Rec) → List Turn → List Played
played [] ts = []
played (m ∷ ms) [] = record { seat = m.0; made = m.1; turn = turns.Moved } ∷ played ms []
played (m ∷ ms) (t ∷ ts) = record { seat = m.0; made = m.1; turn = t } ∷ played ms ts
