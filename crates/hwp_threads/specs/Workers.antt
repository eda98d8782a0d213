-- What a worker's turns come to: its processor's own run.
use Rattle.std.specs.Prelude.{◌≡◌, ℕ, false, List, [], ◌∷◌, Some, None, map, slice_get}
use Rattle.crossbeam_utils.specs.declared.CachePadded.{CachePadded}
use Rattle.crossbeam_utils.specs.Padded.{padded_value}
use Rattle.hwp_core_rule.specs.hwp_geom.declared.Layout.{Layout}
use Rattle.hwp_core_rule.specs.declared.Rec.{Rec}
use Rattle.hwp_core_rule.specs.declared.View.{View}
use Rattle.hwp_core_rule.specs.Lists.{EachMember}
use Rattle.hwp_core_rule.specs.Ranks.{is_refused}
use Rattle.hwp_core_rule.specs.Turns.{Member}
use Rattle.hwp_threads.specs.Own.{IsOwnRun, Standing, Turned, made_of}
use Rattle.hwp_threads.specs.declared.worker.Worker.{Worker}

-- a seat that can make a step can make another one after it
abbrev pub StaysReady : {O : Type 0} → (O → Type 0) → (O → Rec → O → Type 0) → Type 0
StaysReady {O} ready moves = (a b : O) (r : Rec) → ready a → moves a r b → ready b

-- the seat can make a step, and the task fits what its processor knows
pub record CanRun {O S : Type 0} (machine : O → Layout) (view : O → View) (ready : O → Type 0) (fits : Layout → View → S → Type 0) (w : Worker O S) : Type 0 where
  pub ready_is : ready w.seat
  pub fits_is : fits (machine w.seat) (view w.seat) w.task

-- where the worker's processor stands
abbrev pub standing : {O S : Type 0} → (O → View) → Worker O S → Standing S
standing view w = record { view = view w.seat; task = w.task }

-- these moves, the newest first, lead from one seat to another
abbrev pub Moved : {O : Type 0} → (O → Rec → O → Type 0) → O → List Rec → O → Type 0
Moved {O} moves a [] b = b ≡ a
Moved {O} moves a (r ∷ rs) b = (mid : O) × Moved moves a rs mid × moves mid r b

-- the moves of turns
abbrev pub recs_of : {S : Type 0} → Member S → Layout → List (Turned S) → List Rec
recs_of m layout ts = map (made_of m layout) ts

-- the worker made these turns, the newest first
pub record Made {O S : Type 0} (m : Member S) (machine : O → Layout) (view : O → View) (moves : O → Rec → O → Type 0) (a : Worker O S) (ts : List (Turned S)) (b : Worker O S) : Type 0 where
  pub same : machine b.seat ≡ machine a.seat
  pub own : IsOwnRun m (machine a.seat) (standing view a) ts (standing view b)
  pub moved : Moved moves a.seat (recs_of m (machine a.seat) ts) b.seat
  pub going : b.refused ≡ false → (a.refused ≡ false) × EachMember (λ (t : Turned S). is_refused t.turn ≡ false) ts

-- the worker made one turn
pub record TookTurn {O S : Type 0} (m : Member S) (machine : O → Layout) (view : O → View) (moves : O → Rec → O → Type 0) (a b : Worker O S) : Type 0 where
  pub turn : Turned S
  pub made : Made m machine view moves a (turn ∷ []) b

-- the worker made some turns
pub record HasRun {O S : Type 0} (m : Member S) (machine : O → Layout) (view : O → View) (moves : O → Rec → O → Type 0) (a b : Worker O S) : Type 0 where
  pub turns : List (Turned S)
  pub made : Made m machine view moves a turns b

-- and its task is over
pub record RanToEnd {O S : Type 0} (m : Member S) (machine : O → Layout) (view : O → View) (moves : O → Rec → O → Type 0) (a b : Worker O S) : Type 0 where
  pub run : HasRun m machine view moves a b
  pub fits : m.fits (machine b.seat) (view b.seat) b.task
  pub over : m.plan b.task ≡ None

-- each worker of a list did, and is at its place
abbrev pub AllRan : {O S : Type 0} → Member S → (O → Layout) → (O → View) → (O → Rec → O → Type 0) → List (CachePadded (Worker O S)) → List (CachePadded (Worker O S)) → Type 0
AllRan {O} {S} m machine view moves old new = (i : ℕ) (a b : CachePadded (Worker O S)) → slice_get old i ≡ Some a → slice_get new i ≡ Some b → RanToEnd m machine view moves (padded_value a) (padded_value b)
