-- Why a read or a write failed, and what it left.
use Rattle.std.specs.Prelude.{◌≡◌, ℕ, ◌<◌, ◌≤◌, List, ◌++◌, length, Option}
use Rattle.std.specs.Io.KnownBytes.{Appends, Consumes}

-- the text begins with the bytes, and more of it follows
pub record IsStrictFront (bytes text : List ℕ) : Type 0 where
  pub rest : List ℕ
  pub whole : text ≡ bytes ++ rest
  pub more : 0 < length rest

-- a source lost some bytes from the front of what it had left: at most `limit`
abbrev pub ConsumesAtMost : ℕ → Option (List ℕ) → Option (List ℕ) → Type 0
ConsumesAtMost limit old new = (bytes : List ℕ) × Consumes old new bytes × (length bytes ≤ limit)

-- a source lost some bytes from the front of what it had left: more than `limit`
abbrev pub ConsumesMore : ℕ → Option (List ℕ) → Option (List ℕ) → Type 0
ConsumesMore limit old new = (bytes : List ℕ) × Consumes old new bytes × (limit < length bytes)

-- a sink took a front of the text, and not all of it
abbrev pub AppendsStrictFront : Option (List ℕ) → Option (List ℕ) → List ℕ → Type 0
AppendsStrictFront old new text = (bytes : List ℕ) × Appends old new bytes × IsStrictFront bytes text
