-- Words that were stored, in the order of commands and of entries.
use Rattle.std.specs.Prelude.{ℕ, ◌==◌, ◌&&◌, List, [], Option, Some, None, filter_map, if◌then◌else◌}
use Rattle.hwp_check_rules.specs.hwp_geom.declared.Cpu.{Cpu}
use Rattle.hwp_check_rules.specs.hwp_geom.declared.VSlot.{VSlot}
use Rattle.hwp_check_rules.specs.hwp_page.declared.Entry.{Entry}
use Rattle.hwp_check_rules.specs.hwp_report_text.declared.Answer.{Answer}
use Rattle.hwp_check_rules.specs.hwp_report_text.declared.Answer.TheVariants as answers
use Rattle.hwp_check_rules.specs.hwp_script_words.declared.Command.{Command}
use Rattle.hwp_check_rules.specs.hwp_law.Private.{last_word, word_before, word_stored}
use Rattle.hwp_check_processes.specs.declared.words.Spot.{Spot}

abbrev pub pair_in : Spot → VSlot × ℕ
pair_in spot = (spot.slot, spot.line)

-- the last word that these commands stored through the translation on the line, or this one
abbrev pub last_stored : VSlot → ℕ → ℕ → List (Command × Answer) → ℕ
last_stored slot line first pairs = last_word first (filter_map (word_stored slot line) pairs)

-- the last word that these entries of a processor's commands before a number stored on the line, or 0
abbrev pub last_before : Cpu → ℕ → ℕ → List Entry → ℕ
last_before cpu number line entries = last_word 0 (filter_map (word_before cpu number line) entries)

-- the word, if it was stored through the translation on the line, and the answer says so
abbrev pub word_if : VSlot → ℕ → VSlot → ℕ → ℕ → Answer → Option ℕ
word_if slot line other at_line word (answers.Stored at) = if (other.0 == slot.0) && (at_line == line) then Some word else None
word_if slot line other at_line word answer = None
