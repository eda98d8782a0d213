-- The lowest of the lowest level, as far as a loop has come.
use Rattle.std.proofs.Common.{◌≡◌, ℕ, ◌<◌, ◌≤◌, ◌⊎◌, List, get_or, Option, Some, None}

abbrev pub Best : List ℕ → ℕ → ℕ → Option ℕ → Type 0
Best ls i least None = (least ≡ 5) × ((k : ℕ) → k < i → 5 ≤ get_or ls k 5)
Best ls i least (Some p) = (p < i) × (least ≡ get_or ls p 5) × (least < 5) × ((k : ℕ) → k < i → (get_or ls p 5 < get_or ls k 5) ⊎ ((get_or ls p 5 ≡ get_or ls k 5) × (p ≤ k)))
