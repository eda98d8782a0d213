-- The atomic operations of the table.
use Rattle.std.specs.Prelude.{ℕ, ◌+◌, ◌-◌, ◌%◌, ◌^◌, bit_and, bit_or, bit_xor}
use Rattle.hwp_core_rule.specs.Steps.{exchanged}
use Rattle.hwp_table_words.specs.declared.operation.Operation.{Operation}
use Rattle.hwp_table_words.specs.declared.operation.Operation.TheVariants.{Load, Swap, Add, Subtract, And, Or, Xor, Exchange}

-- what it makes of the word that it finds
abbrev pub applied : Operation → ℕ → ℕ
applied Load n = n
applied (Swap new) n = new
applied (Add k) n = (n + k) % 2 ^ 64
applied (Subtract k) n = (n + (2 ^ 64 - k)) % 2 ^ 64
applied (And k) n = bit_and n k
applied (Or k) n = bit_or n k
applied (Xor k) n = bit_xor n k
applied (Exchange seen new) n = exchanged seen new n
