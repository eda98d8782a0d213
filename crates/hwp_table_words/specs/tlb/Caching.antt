-- What a seat knows of the translation caches of all processors.
use Rattle.std.specs.Prelude.{ℕ, ◌+◌, ◌==◌, not, cond, max, List, [], ◌∷◌, Option, None, filter}

-- of the first so many entries none names the frame
pub record Cleared : Type 0 where
  pub frame : ℕ
  pub upto : ℕ

-- an entry named the frame when it was looked at
pub record Glimpse : Type 0 where
  pub frame : ℕ
  pub place : ℕ
  pub word : ℕ

-- a load showed that the translation leads to the frame
pub record Shown : Type 0 where
  pub slot : ℕ
  pub frame : ℕ

-- how many loads an entry answered, and how many entries were written and taken away
pub record Counts : Type 0 where
  pub hits : ℕ
  pub fills : ℕ
  pub flushes : ℕ

-- what a seat knows: of each frame listed how many entries were cleared of it, the entry looked at last, the translation
-- loaded last, and what it counted
pub record Caching : Type 0 where
  pub cleared : List Cleared
  pub glimpse : Option Glimpse
  pub shown : Option Shown
  pub counts : Counts

abbrev pub no_counts : Counts
no_counts = record { hits = 0; fills = 0; flushes = 0 }

-- a seat that knows nothing
abbrev pub idle_caching : Caching
idle_caching = record { cleared = []; glimpse = None; shown = None; counts = no_counts }

-- how many entries were cleared of the frame; 0, which says nothing, where it isn't listed
abbrev pub upto_of : ℕ → List Cleared → ℕ
upto_of f [] = 0
upto_of f (c ∷ cs) = cond (c.frame == f) c.upto (upto_of f cs)

-- so many entries are cleared of the frame, or more
abbrev pub with_upto : ℕ → ℕ → List Cleared → List Cleared
with_upto f n [] = (record { frame = f; upto = n }) ∷ []
with_upto f n (c ∷ cs) = cond (c.frame == f) ((record c { upto = max c.upto n }) ∷ cs) (c ∷ with_upto f n cs)

-- nothing is listed of the frame
abbrev pub without_frame : ℕ → List Cleared → List Cleared
without_frame f list = filter (λ (c : Cleared). not (c.frame == f)) list

-- what a seat lists of entries and translations is forgotten, and its counts stay
abbrev pub forgotten : Caching → Caching
forgotten k = record { cleared = []; glimpse = None; shown = None; counts = k.counts }

abbrev pub added : Counts → Counts → Counts
added a b = record { hits = a.hits + b.hits; fills = a.fills + b.fills; flushes = a.flushes + b.flushes }

-- a seat that takes in another keeps what it lists, and adds what the other counted
abbrev pub joined_caching : Caching → Caching → Caching
joined_caching k l = record k { counts = added k.counts l.counts }
