-- The slots that a seat carries, while it makes a step. Between its steps they are all empty.
use Rattle.std.specs.Prelude.{◌≡◌, ℕ, ◌<◌, List, [], ◌∷◌, None, map, drop, length}
use Rattle.hwp_core_rule.specs.declared.SlotMove.{SlotMove}
use Rattle.hwp_core_rule.specs.declared.SlotMove.TheVariants as moves
use Rattle.hwp_table_words.specs.Known.{times}
use Rattle.hwp_table_words.specs.Stands.{Content}

abbrev pub vacant : List ℕ → List (ℕ × Content)
vacant order = map (λ (slot : ℕ). (slot, None)) order

-- the slot that is to go home is carried, and where it is first
abbrev pub IsCarried : SlotMove → List ℕ → Type 0
IsCarried (moves.Home slot) order = 0 < times slot order
IsCarried move order = Unit {0}

abbrev pub IsFirst : SlotMove → List ℕ → Type 0
IsFirst (moves.Home slot) order = order ≡ slot ∷ drop 1 order
IsFirst move order = Unit {0}

-- there is room for a slot that goes out
abbrev pub HasRoom : SlotMove → List ℕ → Type 0
HasRoom (moves.Out slot) order = length order < 3
HasRoom move order = Unit {0}

-- the slots before a step: the one that is to go home has its content
abbrev pub laid : SlotMove → Content → List ℕ → List (ℕ × Content)
laid (moves.Home slot) put order = (slot, put) ∷ vacant (drop 1 order)
laid move put order = vacant order

-- and after it: the one that went out has its content
abbrev pub brought : SlotMove → Content → List ℕ → List (ℕ × Content)
brought moves.Stays got order = vacant order
brought (moves.Out slot) got order = (slot, got) ∷ vacant order
brought (moves.Home slot) got order = vacant (drop 1 order)

-- the content of the first slot
abbrev pub front : List (ℕ × Content) → Content
front [] = None
front (x ∷ xs) = x.1

-- the order of the slots then
abbrev pub order_after : SlotMove → List ℕ → List ℕ
order_after moves.Stays order = order
order_after (moves.Out slot) order = slot ∷ order
order_after (moves.Home slot) order = drop 1 order
