-- What a source and a sink in memory hold.
use Rattle.std.specs.Prelude.{ℕ, ◌+◌, ◌-◌, ◌^◌, min, Bool, List, Contains}

-- the calls of an object in memory: the numbers of those that fail, how many were made, and how many failed
pub record Calls : Type 0 where
  pub fail : List ℕ
  pub made : ℕ
  pub failed : ℕ

-- the number of the call after call n; the last number stays
abbrev pub next : ℕ → ℕ
next n = min (n + 1) (2 ^ 64 - 1)

-- no call was made yet
abbrev pub no_calls : List ℕ → Calls
no_calls fail = record { fail = fail; made = 0; failed = 0 }

-- the next call is one of those that fail; the first call has the number 1
abbrev pub IsNextFailing : Calls → Type 0
IsNextFailing calls = Contains calls.fail (next calls.made)

-- the calls after one more that succeeded
abbrev pub counted : Calls → Calls
counted calls = record calls { made = next calls.made }

-- the calls after one more that failed
abbrev pub counted_failed : Calls → Calls
counted_failed calls = record calls { made = next calls.made; failed = calls.failed + 1 }

-- a source in memory: the bytes that it has left, and its calls
pub record SourceState : Type 0 where
  pub left : List ℕ
  pub calls : Calls

-- a sink in memory: the bytes that it took, the most that it takes in a call, its calls, and whether it was refused memory
pub record SinkState : Type 0 where
  pub taken : List ℕ
  pub take : ℕ
  pub calls : Calls
  pub starved : Bool
