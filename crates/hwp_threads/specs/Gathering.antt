-- What one seat has that took in those of workers.
use Rattle.std.specs.Prelude.{◌≡◌, ℕ, false, List, [], ◌∷◌, ◌++◌, map}
use Rattle.std.specs.List.{flat_map}
use Rattle.atomic_table.specs.Seated.{TableId}
use Rattle.crossbeam_utils.specs.declared.CachePadded.{CachePadded}
use Rattle.crossbeam_utils.specs.Padded.{padded_value}
use Rattle.hwp_core_rule.specs.declared.Rec.{Rec}
use Rattle.hwp_core_rule.specs.declared.View.{View}
use Rattle.hwp_core_rule.specs.Lists.{EachMember}
use Rattle.hwp_table_words.specs.Known.{Known}
use Rattle.hwp_table_words.specs.Seats.{SeatValue, cpu, mine, slots_of}
use Rattle.hwp_table_words.specs.Stands.{Me}
use Rattle.hwp_threads.specs.declared.worker.Worker.{Worker}

-- the seat is at this table, and lists no lock
pub record IsBare (id : TableId) (s : SeatValue) : Type 0 where
  pub table_is : s.table ≡ id
  pub one : s.known.mines ≡ (cpu s, mine s) ∷ []
  pub bare : slots_of s.layout (mine s) ≡ []

abbrev pub AreBare : {T : Type 0} → TableId → List (CachePadded (Worker SeatValue T)) → Type 0
AreBare {T} id workers = EachMember (λ (w : CachePadded (Worker SeatValue T)). IsBare id (padded_value w).seat) workers

abbrev pub mine_in : {T : Type 0} → Worker SeatValue T → ℕ × View
mine_in w = (cpu w.seat, mine w.seat)

abbrev pub own_in : {T : Type 0} → Worker SeatValue T → List (ℕ × Rec)
own_in w = w.seat.known.own

-- a worker's seat was taken in: no turn of it was refused memory
pub record IsBrought {T : Type 0} (id : TableId) (old : Me) (w : Worker SeatValue T) (of : TableId) (new : Me) (task : T) : Type 0 where
  pub same : of ≡ id
  pub slots : new.1 ≡ old.1
  pub mines : new.0.known.mines ≡ old.0.known.mines ++ mine_in w ∷ []
  pub own : new.0.known.own ≡ old.0.known.own ++ own_in w
  pub task_is : task ≡ w.task
  pub going : w.refused ≡ false

-- the seats of all workers were
pub record AreGathered {T : Type 0} (id : TableId) (old : Known) (workers : List (CachePadded (Worker SeatValue T))) (of : TableId) (new : Me) (tasks : List T) : Type 0 where
  pub same : of ≡ id
  pub slots : new.1 ≡ []
  pub mines : new.0.known.mines ≡ old.mines ++ map (λ (w : CachePadded (Worker SeatValue T)). mine_in (padded_value w)) workers
  pub own : new.0.known.own ≡ old.own ++ flat_map (λ (w : CachePadded (Worker SeatValue T)). own_in (padded_value w)) workers
  pub tasks_are : tasks ≡ map (λ (w : CachePadded (Worker SeatValue T)). (padded_value w).task) workers
  pub going : EachMember (λ (w : CachePadded (Worker SeatValue T)). (padded_value w).refused ≡ false) workers
