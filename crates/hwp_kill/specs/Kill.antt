-- The kill table: which threads a memory failure signals, and whose policies it reads for that.
use Rattle.std.specs.Prelude.{◌≡◌, ◌↔◌, ◌⊎◌, ℕ, ◌<◌, ◌≤◌, Bool, true, false, List, [], Option, Some, slice_get, IsSomeAnd, IsTrue, MatchBool, MatchOption, Any, AllPairs, Contains}
use Rattle.std.specs.Ordering.{nat_cmp}
use Rattle.std.specs.FinSet as set
use Rattle.hwp_geom.specs.declared.Layout.{Layout}
use Rattle.hwp_geom.specs.declared.Proc.{Proc}
use Rattle.hwp_geom.specs.declared.Thread.{Thread}
use Rattle.hwp_geom.specs.declared.ThreadDecl.{ThreadDecl}
use Rattle.hwp_geom.specs.declared.TransDecl.{TransDecl}
use Rattle.hwp_geom.specs.declared.VSlot.{VSlot}
use Rattle.hwp_kill.specs.declared.types.Policy.{Policy}
use Rattle.hwp_kill.specs.declared.types.Policy.TheVariants.{Late, Early, Default}
use Rattle.hwp_kill.specs.declared.types.Code.{Code}
use Rattle.hwp_kill.specs.declared.types.Code.TheVariants.{Ar, Ao}
use Rattle.hwp_kill.specs.declared.types.Seen.{Seen}
use Rattle.hwp_kill.specs.declared.types.Signal.{Signal}

-- the thread is declared as one of the process
abbrev pub IsIn : Layout → Thread → Proc → Type 0
IsIn layout thread process = IsSomeAnd (slice_get layout.threads thread.0) (λ (t : ThreadDecl). t.process ≡ process)

-- the process has the translation with this number, and it is in use
pub record Uses (layout : Layout) (maps : set.FinSet nat_cmp) (process : Proc) (slot : ℕ) : Type 0 where
  pub in_use : IsTrue (set.contains maps slot)
  pub own : IsSomeAnd (slice_get layout.trans slot) (λ (t : TransDecl). t.process ≡ process)

-- no translation of the process is in use
abbrev pub UsesNone : Layout → set.FinSet nat_cmp → Proc → Type 0
UsesNone layout maps process = (slot : ℕ) → Uses layout maps process slot → ⊥

-- the translation is the lowest of the process that is in use
pub record UsesLowest (layout : Layout) (maps : set.FinSet nat_cmp) (process : Proc) (slot : ℕ) : Type 0 where
  pub uses : Uses layout maps process slot
  pub lowest : (other : ℕ) → other < slot → Uses layout maps process other → ⊥

-- the lowest translation of the process that is in use, or none where none is
abbrev pub IsLowestUsed : Layout → set.FinSet nat_cmp → Proc → Option VSlot → Type 0
IsLowestUsed layout maps process found =
    MatchOption found (UsesNone layout maps process) (λ (slot : VSlot). UsesLowest layout maps process slot.0)

-- there is a current thread, and it is one of the process
abbrev pub IsCurrent : Layout → Option Thread → Proc → Type 0
IsCurrent layout current process = IsSomeAnd current (λ (thread : Thread). IsIn layout thread process)

-- a thread with this policy is early
abbrev pub is_early : Layout → Policy → Bool
is_early layout Late = false
is_early layout Early = true
is_early layout Default = layout.early

-- the thread is one of the process, and was seen to be early
pub record IsEarly (layout : Layout) (seen : List Seen) (process : Proc) (thread : Thread) : Type 0 where
  pub own : IsIn layout thread process
  pub early : Any (λ (s : Seen). (s.thread ≡ thread) × IsTrue (is_early layout s.policy)) seen

-- no thread of the process below this one was seen to be early
abbrev pub HasNoEarlyBelow : Layout → List Seen → Proc → Thread → Type 0
HasNoEarlyBelow layout seen process thread = (other : Thread) → other.0 < thread.0 → IsEarly layout seen process other → ⊥

-- no thread of the process was seen to be early
abbrev pub HasNoEarly : Layout → List Seen → Proc → Type 0
HasNoEarly layout seen process = (thread : Thread) → IsEarly layout seen process thread → ⊥

-- the thread is the lowest of the process that was seen to be early
pub record IsLowestEarly (layout : Layout) (seen : List Seen) (process : Proc) (thread : Thread) : Type 0 where
  pub early : IsEarly layout seen process thread
  pub lowest : HasNoEarlyBelow layout seen process thread

-- no thread of the process has this number or one above
abbrev pub HasNoThreadFrom : Layout → Proc → ℕ → Type 0
HasNoThreadFrom layout process from = (thread : Thread) → from ≤ thread.0 → IsIn layout thread process → ⊥

-- the thread is the lowest of the process from a number on
pub record IsLowestThread (layout : Layout) (process : Proc) (from : ℕ) (thread : Thread) : Type 0 where
  pub own : IsIn layout thread process
  pub not_below : from ≤ thread.0
  pub lowest : (other : Thread) → from ≤ other.0 → IsIn layout other process → thread.0 ≤ other.0

-- the thread is the lowest of a process none of whose threads was seen to be early, and such a process is told all the same
abbrev pub IsLowestToldAnyway : Layout → Bool → List Seen → Proc → Thread → Type 0
IsLowestToldAnyway layout always seen process thread = (always ≡ true) × HasNoEarly layout seen process × IsLowestThread layout process 0 thread

-- the thread of a process that is told, where none of its threads needs the page now: the lowest early one, or the lowest of all where
-- none is early and every process is told (`always`)
abbrev pub IsTold : Layout → Bool → List Seen → Proc → Thread → Type 0
IsTold layout always seen process thread = IsLowestEarly layout seen process thread ⊎ IsLowestToldAnyway layout always seen process thread

-- no thread of the process is told
abbrev pub TellsNone : Layout → Bool → List Seen → Proc → Type 0
TellsNone layout always seen process = (thread : Thread) → IsTold layout always seen process thread → ⊥

-- the thread of the process that the code goes to: ar to the current thread, ao to the thread that is told of a process that is not the
-- current thread's
abbrev pub Reaches : Layout → Bool → Option Thread → List Seen → Proc → Thread → Code → Type 0
Reaches layout always current seen process thread Ar = (current ≡ Some thread) × IsIn layout thread process
Reaches layout always current seen process thread Ao = (IsCurrent layout current process → ⊥) × IsTold layout always seen process thread

-- no code goes to a thread of the process
abbrev pub ReachesNone : Layout → Bool → Option Thread → List Seen → Proc → Type 0
ReachesNone layout always current seen process = (thread : Thread) (code : Code) → Reaches layout always current seen process thread code → ⊥

-- the table gives the signal
pub record IsDue (layout : Layout) (maps : set.FinSet nat_cmp) (always : Bool) (current : Option Thread) (seen : List Seen) (signal : Signal) : Type 0 where
  pub slot : UsesLowest layout maps signal.process signal.slot.0
  pub thread : Reaches layout always current seen signal.process signal.thread signal.code

-- the signals are those that the table gives, processes rising, one for each process at most
pub record AreDue (layout : Layout) (maps : set.FinSet nat_cmp) (always : Bool) (current : Option Thread) (seen : List Seen) (signals : List Signal) : Type 0 where
  pub each : (signal : Signal) → Contains signals signal ↔ IsDue layout maps always current seen signal
  pub rising : AllPairs (λ (a b : Signal). a.process.0 < b.process.0) signals

-- the signals of a memory failure: those of the table where it signals at all, and else none
abbrev pub Killed : Layout → set.FinSet nat_cmp → Bool → Bool → Option Thread → List Seen → List Signal → Type 0
Killed layout maps signals_at_all always current seen signals =
    MatchBool signals_at_all (AreDue layout maps always current seen signals) (signals ≡ [])

-- the table reads the thread's policy: its process uses a translation and is not the current thread's, and no thread of
-- the process below it was seen to be early
pub record IsAsked (layout : Layout) (maps : set.FinSet nat_cmp) (current : Option Thread) (seen : List Seen) (thread : Thread) (process : Proc) : Type 0 where
  pub own : IsIn layout thread process
  pub uses : (slot : ℕ) × Uses layout maps process slot
  pub other : IsCurrent layout current process → ⊥
  pub first : HasNoEarlyBelow layout seen process thread

-- the thread of one entry stands before that of the other: processes rise, and so do the threads of a process
abbrev pub StandsBefore : Layout → Seen → Seen → Type 0
StandsBefore layout a b =
    IsSomeAnd (slice_get layout.threads a.thread.0) (λ (s : ThreadDecl). IsSomeAnd (slice_get layout.threads b.thread.0) (λ (t : ThreadDecl).
    (s.process.0 < t.process.0) ⊎ ((s.process ≡ t.process) × (a.thread.0 < b.thread.0))))

-- the list names the thread
abbrev pub Names : List Seen → Thread → Type 0
Names seen thread = Any (λ (s : Seen). s.thread ≡ thread) seen

-- the list names the thread exactly where the table reads its policy
abbrev pub IsNamedIfAsked : Layout → set.FinSet nat_cmp → Option Thread → List Seen → Thread → Type 0
IsNamedIfAsked layout maps current seen thread = Names seen thread ↔ ((process : Proc) × IsAsked layout maps current seen thread process)

-- the list names, in order, the threads whose policies the table reads where the policies are those of the list
pub record PoliciesRead (layout : Layout) (maps : set.FinSet nat_cmp) (current : Option Thread) (seen : List Seen) : Type 0 where
  pub each : (thread : Thread) → IsNamedIfAsked layout maps current seen thread
  pub rising : AllPairs (StandsBefore layout) seen
