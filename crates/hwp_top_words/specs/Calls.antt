-- What the words of a command ask for.
use Rattle.std.specs.Prelude.{◌≡◌, ◌<◌, ◌^◌, ◌⊎◌, ℕ, Bool, true, false, List, [], ◌∷◌, codes, decimal}
use Rattle.hwp_top_words.specs.declared.served.Call.{Call}
use Rattle.hwp_top_words.specs.declared.served.Call.TheVariants as calls

-- the words ask for the report of a script, with translation caches or without
abbrev pub IsStep : List (List ℕ) → Bool → Type 0
IsStep words false = words ≡ codes "step" ∷ []
IsStep words true = words ≡ codes "step" ∷ codes "tlb" ∷ []

-- the words ask for a verdict on the report that stands behind a script
abbrev pub IsCheck : List (List ℕ) → Type 0
IsCheck words = words ≡ codes "check" ∷ []

-- the words ask for what reads the source
abbrev pub IsReading : List (List ℕ) → Type 0
IsReading words = IsStep words false ⊎ (IsStep words true ⊎ IsCheck words)

-- the words are `gen` or `sum` and a number, as a script has its numbers: below 2^64, and without leading zeros
abbrev pub AreWith : List (List ℕ) → List ℕ → ℕ → Type 0
AreWith words word seed = (words ≡ word ∷ decimal seed ∷ []) × (seed < 2 ^ 64)

-- the words ask for this
abbrev pub IsCall : List (List ℕ) → Call → Type 0
IsCall words calls.Step = IsStep words false
IsCall words calls.StepTlb = IsStep words true
IsCall words calls.Check = IsCheck words
IsCall words (calls.Gen seed) = AreWith words (codes "gen") seed
IsCall words (calls.Sum seed) = AreWith words (codes "sum") seed

-- the words ask for nothing that is served
abbrev pub IsNoCall : List (List ℕ) → Type 0
IsNoCall words = (call : Call) → IsCall words call → ⊥

-- ---- runs on threads

-- the words ask for a run on threads, with translation caches or without
abbrev pub IsRun : List (List ℕ) → Bool → Type 0
IsRun words false = words ≡ codes "run" ∷ []
IsRun words true = words ≡ codes "run" ∷ codes "tlb" ∷ []

-- the words ask for one or the other
abbrev pub AsksRun : List (List ℕ) → Type 0
AsksRun words = (caches : Bool) × IsRun words caches

-- the words ask for no run on threads
abbrev pub IsNoRun : List (List ℕ) → Type 0
IsNoRun words = (caches : Bool) → IsRun words caches → ⊥
