-- The word of an entry of a translation cache: a translation and the frame that it leads to.
use Rattle.std.specs.Prelude.{ℕ, ◌+◌, ◌-◌, ◌*◌, ◌/◌, ◌%◌, ◌^◌, ◌==◌, ◌||◌, Bool, cond, Option, Some, None, if◌then◌else◌}
use Rattle.hwp_core_rule.specs.hwp_geom.declared.Frame.{Frame}
use Rattle.hwp_core_rule.specs.hwp_geom.declared.VSlot.{VSlot}
use Rattle.hwp_core_rule.specs.hwp_words.Fields.{Field, field}
use Rattle.hwp_table_words.specs.declared.entry.EntryWord.{EntryWord}

-- the entry of a translation that leads to a frame
abbrev pub entry_word : ℕ → ℕ → ℕ
entry_word v f = (v + 1) + (f + 1) * 2 ^ 20

-- the entry names the frame
abbrev pub is_of : ℕ → ℕ → Bool
is_of f w = w / 2 ^ 20 == f + 1

abbrev pub entry_slot_field : Field
entry_slot_field = record { shift = 0; width = 20 }

abbrev pub entry_frame_field : Field
entry_frame_field = record { shift = 20; width = 20 }

-- the word of an entry, and 0 for none
abbrev pub entry_word_to : Option (VSlot × Frame) → ℕ
entry_word_to None = 0
entry_word_to (Some to) = entry_word to.0.0 to.1.0

abbrev pub entry_word_of : EntryWord → ℕ
entry_word_of x = entry_word_to x.to

-- the translation and the frame of these names; both are numbers of 16 bits, and a greater number counts modulo 2 ^ 16
abbrev pub entry_named : ℕ → ℕ → Option (VSlot × Frame)
entry_named v f = if (v == 0) || (f == 0) then None else Some (record { 0 = (v - 1) % 2 ^ 16 }, record { 0 = (f - 1) % 2 ^ 16 })

-- what a word says as an entry
abbrev pub entry_reading : ℕ → EntryWord
entry_reading w = record { to = entry_named (field entry_slot_field w) (field entry_frame_field w) }

-- the frame to which the entry leads the translation, where it is an entry of the translation
abbrev pub hit_to : VSlot → Option (VSlot × Frame) → Option Frame
hit_to v None = None
hit_to v (Some to) = cond (to.0.0 == v.0) (Some to.1) None

abbrev pub hit_of : VSlot → ℕ → Option Frame
hit_of v w = hit_to v (entry_reading w).to
