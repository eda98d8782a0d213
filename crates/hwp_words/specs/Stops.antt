-- The stop word: which processor stopped the machine, and whether one has given up because memory ran out.
use Rattle.std.specs.Prelude.{ℕ, Bool, not, ◌==◌, List, [], ◌∷◌}
use Rattle.std.specs.Int.{from_bool}
use Rattle.hwp_words.specs.declared.stop.StopWord.{StopWord}
use Rattle.hwp_words.specs.Fields.{Field, field, bit, packed}
use Rattle.hwp_words.specs.Names.{cpu_name, cpu_named}

abbrev pub stop_cpu_field : Field
stop_cpu_field = record { shift = 0; width = 8 }

abbrev pub no_memory_bit : Field
no_memory_bit = bit 63

abbrev pub stop_fields : List Field
stop_fields = stop_cpu_field ∷ no_memory_bit ∷ []

-- the processor that stopped the machine plus 1, or 0
abbrev pub stopper_of : ℕ → ℕ
stopper_of w = field stop_cpu_field w

-- whether a processor has stopped the machine
abbrev pub is_stopped : ℕ → Bool
is_stopped w = not (stopper_of w == 0)

-- whether a processor has given up because memory ran out
abbrev pub has_no_memory : ℕ → Bool
has_no_memory w = field no_memory_bit w == 1

abbrev pub stop_word : StopWord → ℕ
stop_word x = packed stop_fields (cpu_name x.cpu ∷ from_bool x.no_memory ∷ [])

-- what a word says as a stop word
abbrev pub stop_reading : ℕ → StopWord
stop_reading w = record { cpu = cpu_named (stopper_of w); no_memory = has_no_memory w }
