-- Which thread's policy the kill table reads next, where some are read.
use Rattle.std.specs.Prelude.{◌≡◌, ◌⊎◌, ℕ, ◌<◌, ◌≤◌, List, Option, slice_get, IsSomeAnd, All, AllPairs}
use Rattle.std.specs.Ordering.{nat_cmp}
use Rattle.std.specs.FinSet as set
use Rattle.hwp_geom.specs.declared.Layout.{Layout}
use Rattle.hwp_geom.specs.declared.Proc.{Proc}
use Rattle.hwp_geom.specs.declared.Thread.{Thread}
use Rattle.hwp_geom.specs.declared.ThreadDecl.{ThreadDecl}
use Rattle.hwp_kill.specs.declared.types.Seen.{Seen}
use Rattle.hwp_kill.specs.Kill.{IsIn, IsCurrent, Uses, IsAsked, Names, StandsBefore}

-- the thread of the entry stands before this thread of the process, in the order in which policies are read
abbrev pub StandsBelow : Layout → Proc → Thread → Seen → Type 0
StandsBelow layout process thread s =
    IsSomeAnd (slice_get layout.threads s.thread.0) (λ (d : ThreadDecl). (d.process.0 < process.0) ⊎ ((d.process ≡ process) × (s.thread.0 < thread.0)))

-- the list names threads that the table reads, in order, and of the others that it reads none stands before one of them
pub record IsReadSoFar (layout : Layout) (maps : set.FinSet nat_cmp) (current : Option Thread) (seen : List Seen) : Type 0 where
  pub named : (thread : Thread) → Names seen thread → (process : Proc) × IsAsked layout maps current seen thread process
  pub rising : AllPairs (StandsBefore layout) seen
  pub ahead : (thread : Thread) (process : Proc) → IsAsked layout maps current seen thread process → Names seen thread ⊎ All (StandsBelow layout process thread) seen

-- the thread is the first that the table reads of those that the list doesn't name
pub record IsNextToRead (layout : Layout) (maps : set.FinSet nat_cmp) (current : Option Thread) (seen : List Seen) (thread : Thread) : Type 0 where
  pub process : Proc
  pub asked : IsAsked layout maps current seen thread process
  pub unnamed : Names seen thread → ⊥
  pub first : (other : Thread) (p : Proc) → IsAsked layout maps current seen other p → Names seen other ⊎ ((process.0 < p.0) ⊎ ((process ≡ p) × (thread.0 ≤ other.0)))

-- the place in the order is this thread of this process or behind it
abbrev pub IsFrom : ℕ → ℕ → Proc → Thread → Type 0
IsFrom process thread p t = (process < p.0) ⊎ ((process ≡ p.0) × (thread ≤ t.0))

-- what is left to read is what stands there or behind, of processes that use a translation and aren't the current thread's
pub record IsStart (layout : Layout) (maps : set.FinSet nat_cmp) (current : Option Thread) (seen : List Seen) (process thread : ℕ) : Type 0 where
  pub open_from : (t : Thread) (p : Proc) → IsIn layout t p → ((slot : ℕ) × Uses layout maps p slot) → (IsCurrent layout current p → ⊥) → IsFrom process thread p t → IsAsked layout maps current seen t p × (Names seen t → ⊥)
  pub left : (t : Thread) (p : Proc) → IsAsked layout maps current seen t p → (Names seen t → ⊥) → IsFrom process thread p t

-- no thread of the process is left to read
abbrev pub HasNoneLeft : Layout → set.FinSet nat_cmp → Option Thread → List Seen → Proc → Type 0
HasNoneLeft layout maps current seen process = (thread : Thread) → IsAsked layout maps current seen thread process → (Names seen thread → ⊥) → ⊥

-- the thread is the lowest of the process that is left to read
pub record IsFirstLeft (layout : Layout) (maps : set.FinSet nat_cmp) (current : Option Thread) (seen : List Seen) (process : Proc) (thread : Thread) : Type 0 where
  pub asked : IsAsked layout maps current seen thread process
  pub unnamed : Names seen thread → ⊥
  pub lowest : (other : Thread) → IsAsked layout maps current seen other process → (Names seen other → ⊥) → thread.0 ≤ other.0
