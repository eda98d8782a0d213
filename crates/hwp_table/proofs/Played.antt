-- Moves with their turns.
use Rattle.std.proofs.Common.{◌≡◌, ℕ, List, [], ◌∷◌, length, refl, ap, arith}
use Rattle.hwp_core_rule.specs.declared.Rec.{Rec}
use Rattle.hwp_core_rule.specs.declared.Turn.{Turn}
use Rattle.hwp_plain.specs.Boards.{moves_of, with_turn}
use Rattle.hwp_table.specs.Turns.{played, with_newest}

pub moves-played : (ms : List (ℕ × Rec)) (ts : List Turn) → moves_of (played ms ts) ≡ ms
moves-played [] ts = refl
moves-played (m ∷ ms) [] = ap (λ (l : List (ℕ × Rec)). m ∷ l) (moves-played ms [])
moves-played (m ∷ ms) (t ∷ ts) = ap (λ (l : List (ℕ × Rec)). m ∷ l) (moves-played ms ts)

pub newest-played : (turn : Turn) (ms : List (ℕ × Rec)) (ts : List Turn) → length ts ≡ length ms → played ms (with_newest turn ts) ≡ with_turn turn (played ms ts)
newest-played turn [] ts same = refl
newest-played turn (m ∷ ms) [] same = absurd (omega (arith, same))
newest-played turn (m ∷ ms) (t ∷ ts) same = refl

pub newest-count : (turn : Turn) (ts : List Turn) → length (with_newest turn ts) ≡ length ts
newest-count turn [] = refl
newest-count turn (t ∷ ts) = refl
