-- What the lines of a board tell of its moves.
use Rattle.std.specs.Prelude.{◌≡◌, List, [], ◌∷◌, ◌++◌, Option, Some}
use Rattle.hwp_core_rule.specs.Steps.{kind_of, place_of, word_after}
use Rattle.hwp_core_rule.specs.Boards.{Played}
use Rattle.hwp_plain.specs.Boards.{Board}
use Rattle.hwp_plain.specs.declared.trace_line.TraceLine.{TraceLine}

-- the plain board, and its lines, if memory was there for each
pub record Traced : Type 0 where
  pub board : Board
  pub lines : Option (List TraceLine)

-- the line tells a turn: the command and the kind of its step, the word that the step met and what it made of it, and what the
-- turn came to
pub record Tells (played : Played) (line : TraceLine) : Type 0 where
  pub who : line.who ≡ played.made.who
  pub kind : kind_of played.made.step ≡ Some line.kind
  pub place : line.place ≡ place_of played.made.step
  pub before : line.before ≡ played.made.found
  pub after : line.after ≡ word_after played.made.step played.made.found
  pub turn : line.turn ≡ played.turn

-- the lines tell the turns of a log, which has the newest first: one line for each, in their order
abbrev pub AreTold : List Played → List TraceLine → Type 0
AreTold [] lines = lines ≡ []
AreTold (played ∷ log) lines = (earlier : List TraceLine) × (line : TraceLine) × (lines ≡ earlier ++ line ∷ []) × Tells played line × AreTold log earlier

-- where there are lines, they tell the turns of the log
abbrev pub IsTraced : List Played → Option (List TraceLine) → Type 0
IsTraced log lines = (told : List TraceLine) → lines ≡ Some told → AreTold log told
