-- What a board of seats keeps.
use Rattle.std.specs.Prelude.{◌≡◌, ℕ, ◌<◌, List, length, map}
use Rattle.atomic_table.specs.Seated.{TableId}
use Rattle.hwp_core_rule.specs.hwp_geom.declared.Layout.{Layout}
use Rattle.hwp_core_rule.specs.declared.State.{State}
use Rattle.hwp_core_rule.specs.declared.Turn.{Turn}
use Rattle.hwp_core_rule.specs.Boards.{Played}
use Rattle.hwp_plain.specs.Boards.{IsReached, moves_of}
use Rattle.hwp_table_words.specs.Known.{Whole}
use Rattle.hwp_table_words.specs.Seats.{IsTableOf, SeatValue, mine}
use Rattle.hwp_table.specs.Seats.{AreSeats, IsHeld, whole_at}
use Rattle.hwp_table.specs.Turns.{played}

-- the words and slots that the holder of the rights knows, and what each processor knows
abbrev pub state_of : List SeatValue → ℕ → State
state_of seats holder = record { words = (whole_at seats holder).words; homes = (whole_at seats holder).homes; views = map mine seats }

-- the moves led to them, and each move has its turn
pub record IsSeatBoard (id : TableId) (layout : Layout) (seats : List SeatValue) (holder : ℕ) (turns : List Turn) (seat : ℕ) : Type 0 where
  pub are : AreSeats id layout seats
  pub held : IsHeld layout seats holder (whole_at seats holder)
  pub reached : IsReached layout (played (whole_at seats holder).log turns) (state_of seats holder)
  pub count : length turns ≡ length (whole_at seats holder).log
  pub seated : seat < layout.cpus

-- the board is at the table that its type names
pub record IsAtTable (ways : ℕ) (id sheet : TableId) (layout : Layout) (seats : List SeatValue) (holder : ℕ) (turns : List Turn) (seat : ℕ) : Type 0 where
  pub sheet_is : sheet ≡ id
  pub table_is : IsTableOf ways layout id
  pub board : IsSeatBoard id layout seats holder turns seat

-- what the one seat knows of the whole that has all rights again
abbrev pub whole_then : State → List Played → Whole
whole_then state log = record { words = state.words; homes = state.homes; log = moves_of log }
