-- The seats of workers, as they are dealt and after moves.
use Rattle.std.specs.Prelude.{◌≡◌, ℕ, ◌+◌, ◌<◌, ◌≤◌, false, List, [], ◌∷◌, None, map}
use Rattle.atomic_table.specs.Seated.{TableId}
use Rattle.hwp_core_rule.specs.hwp_geom.declared.Layout.{Layout}
use Rattle.hwp_core_rule.specs.declared.Rec.{Rec}
use Rattle.hwp_core_rule.specs.declared.View.{View}
use Rattle.hwp_core_rule.specs.Lists.{EachMember}
use Rattle.hwp_core_rule.specs.Opening.{opening_view}
use Rattle.hwp_core_rule.specs.parts.Holdings.{HoldsNothing}
use Rattle.hwp_table_words.specs.tlb.Caching.{idle_caching}
use Rattle.hwp_table_words.specs.Known.{Known, dealt}
use Rattle.hwp_table_words.specs.Seats.{SeatValue, mine}
use Rattle.hwp_table_words.specs.Stands.{Me}
use Rattle.hwp_threads.specs.declared.worker.Worker.{Worker}

-- what the seat of one processor knows at opening: its view, and it has the right
abbrev pub seat_known : ℕ → Known
seat_known c = record { mines = (c, opening_view c) ∷ []; own = []; rights = c ∷ []; whole = None }

abbrev pub seat_at : TableId → Layout → ℕ → SeatValue
seat_at id layout c = record { table = id; layout = layout; known = seat_known c; caching = idle_caching }

-- a worker for each task, from processor c on
abbrev pub workers_at : {T : Type 0} → TableId → Layout → ℕ → List T → List (Worker SeatValue T)
workers_at id layout c [] = []
workers_at id layout c (t ∷ ts) = record { seat = seat_at id layout c; task = t; refused = false } ∷ workers_at id layout (c + 1) ts

-- no view of the seat holds anything, and the seat made no move
pub record IsUnused (v : Known) : Type 0 where
  pub own : v.own ≡ []
  pub nothing : EachMember (λ (x : ℕ × View). HoldsNothing x.1) v.mines

-- the seat has, of each processor from this one on, the view at opening and the right
pub record CanDeal (from cpus : ℕ) (v : Known) : Type 0 where
  pub each : (c : ℕ) → from ≤ c → c < cpus → dealt c v ≡ seat_known c
  pub unused : IsUnused v

-- what the seat has left
pub record IsLeft (id of : TableId) (me : Me) : Type 0 where
  pub same : of ≡ id
  pub slots : me.1 ≡ []
  pub unused : IsUnused me.0.known

-- the seat of a processor at this table, which made these moves, the newest first
pub record HasMoved (id : TableId) (layout : Layout) (c : ℕ) (recs : List Rec) (s : SeatValue) : Type 0 where
  pub table_is : s.table ≡ id
  pub layout_is : s.layout ≡ layout
  pub one : s.known.mines ≡ (c, mine s) ∷ []
  pub own : s.known.own ≡ map (λ (r : Rec). (c, r)) recs
