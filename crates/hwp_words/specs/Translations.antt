-- The translation word: a page-table entry.
use Rattle.std.specs.Prelude.{ℕ, ◌==◌, List, [], ◌∷◌, Option, Some, None, if◌then◌else◌}
use Rattle.hwp_kill.specs.hwp_geom.declared.numbers.Frame.{Frame}
use Rattle.hwp_words.specs.declared.translation.Pte.{Pte}
use Rattle.hwp_words.specs.declared.translation.Pte.TheVariants as ptes
use Rattle.hwp_words.specs.Fields.{Field, field, bit, packed}
use Rattle.hwp_words.specs.Names.{frame_name, frame_named}

abbrev pub pte_frame_field : Field
pte_frame_field = record { shift = 0; width = 20 }

abbrev pub pte_poison_bit : Field
pte_poison_bit = bit 63

abbrev pub pte_fields : List Field
pte_fields = pte_frame_field ∷ pte_poison_bit ∷ []

-- the values of the fields, in their order
abbrev pub pte_values : Pte → List ℕ
pte_values ptes.Empty = 0 ∷ 0 ∷ []
pte_values (ptes.At f) = frame_name (Some f) ∷ 0 ∷ []
pte_values ptes.Poison = 0 ∷ 1 ∷ []

abbrev pub pte_word : Pte → ℕ
pte_word p = packed pte_fields (pte_values p)

-- an entry that leads to a frame, or to none
abbrev pub leading : Option Frame → Pte
leading None = ptes.Empty
leading (Some f) = ptes.At f

-- what a word says as a translation word
abbrev pub pte_reading : ℕ → Pte
pte_reading w = if field pte_poison_bit w == 1 then ptes.Poison else leading (frame_named (field pte_frame_field w))
