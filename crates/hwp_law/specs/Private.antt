-- What parent and child read behind a fork: each what it would read if all memory had been copied at the fork. The code copies a page at the
-- first store through it.
use Rattle.std.specs.Prelude.{◌≡◌, ℕ, ◌+◌, ◌==◌, ◌&&◌, nat_lt, List, [], ◌∷◌, Option, Some, None, drop, filter_map, fold, slice_get, unwrap_or, if◌then◌else◌}
use Rattle.std.specs.Option.{option_map_or}
use Rattle.hwp_script_words.specs.hwp_geom.declared.Cpu.{Cpu}
use Rattle.hwp_script_words.specs.hwp_geom.declared.Layout.{Layout}
use Rattle.hwp_script_words.specs.hwp_geom.declared.TransDecl.{TransDecl}
use Rattle.hwp_script_words.specs.hwp_geom.declared.VSlot.{VSlot}
use Rattle.hwp_script_words.specs.hwp_geom.declared.Who.{Who}
use Rattle.hwp_report_text.specs.hwp_page.declared.At.{At}
use Rattle.hwp_report_text.specs.hwp_page.declared.Entry.{Entry}
use Rattle.hwp_report_text.specs.hwp_page.declared.Met.TheVariants.{Word}
use Rattle.hwp_report_text.specs.hwp_page.declared.What.{What}
use Rattle.hwp_report_text.specs.hwp_page.declared.What.TheVariants as entries
use Rattle.hwp_script_words.specs.declared.Command.{Command}
use Rattle.hwp_script_words.specs.declared.Command.TheVariants as commands
use Rattle.hwp_script_words.specs.declared.Script.{Script}
use Rattle.hwp_report_text.specs.declared.Answer.{Answer}
use Rattle.hwp_report_text.specs.declared.Answer.TheVariants as answers
use Rattle.hwp_report_text.specs.declared.Report.{Report}
use Rattle.hwp_law.specs.Commands.{command_at}
use Rattle.hwp_law.specs.Cows.{cow_after, own_page}
use Rattle.hwp_law.specs.Lines.{answer_of}
use Rattle.hwp_law.specs.Policies.{answered_before}

-- the number of the first of some commands, the first of which has number n, that froze the translation
abbrev pub freeze_from : Layout → VSlot → ℕ → List (Command × Answer) → Option ℕ
freeze_from layout slot n [] = None
freeze_from layout slot n (p ∷ rest) = if (cow_after layout slot p.0 p.1 own_page).frozen then Some n else freeze_from layout slot (n + 1) rest

-- the word that a command with this answer stored through the translation on the line, if it stored one
abbrev pub word_stored : VSlot → ℕ → Command × Answer → Option ℕ
word_stored slot line (commands.Store thread other at_line word, answers.Stored at) = if (other.0 == slot.0) && (at_line == line) then Some word else None
word_stored slot line p = None

-- the word that an entry stored on the line, if it stored one; also if it is to be of one of a processor's commands before a number
abbrev pub word_in : ℕ → What → Option ℕ
word_in line (entries.Store slot at_line (Word mask word)) = if at_line == line then Some word else None
word_in line what = None

abbrev pub word_before : Cpu → ℕ → ℕ → Entry → Option ℕ
word_before cpu number line e = if (e.who.cpu.0 == cpu.0) && nat_lt e.who.seq number then word_in line e.what else None

-- the last of some words, or this one
abbrev pub last_word : ℕ → List ℕ → ℕ
last_word first words = fold (λ earlier later. later) first words

-- what the translation's own page held on the line at the fork with this number: an anonymous page holds 0 at opening
abbrev pub word_at_fork : Layout → Report → Cpu → ℕ → VSlot → ℕ → ℕ
word_at_fork layout report cpu fork slot line =
    last_word 0 (option_map_or (λ (v : TransDecl). filter_map (word_before cpu fork line) (unwrap_or (slice_get report.pages v.page.0) [])) (slice_get layout.trans slot.0) [])

-- what a full copy at the fork would hold on the line behind the earlier commands of a processor: the word that one of them stored last
-- through the translation since, or what its page held then
abbrev pub private_word : Layout → Report → Cpu → ℕ → VSlot → ℕ → List (Command × Answer) → ℕ
private_word layout report cpu fork slot line earlier = last_word (word_at_fork layout report cpu fork slot line) (filter_map (word_stored slot line) (drop (fork + 1) earlier))

-- a load of the line, also a fetch or one of the kernel, through the translation
abbrev pub loaded : Command → Option (VSlot × ℕ)
loaded (commands.Load thread slot line) = Some (slot, line)
loaded (commands.Fetch thread slot line) = Some (slot, line)
loaded (commands.KLoad thread slot line) = Some (slot, line)
loaded command = None

-- each load through a frozen translation that was answered by a word was answered by that of a full copy
abbrev pub ArePrivate : Script → Report → Type 0
ArePrivate script report =
    (who : Who) (command : Command) (slot : VSlot) (line fork word : ℕ) (at : At) → command_at script who ≡ Some command → loaded command ≡ Some (slot, line)
    → freeze_from script.layout slot 0 (answered_before script report who) ≡ Some fork → answer_of report who ≡ Some (answers.Value word at)
    → word ≡ private_word script.layout report who.cpu fork slot line (answered_before script report who)
