-- The event lines of a scrub, and the words of bad and weak lines that its steps showed.
use Rattle.std.specs.Prelude.{◌≡◌, ◌↔◌, ℕ, ◌<◌, ◌≤◌, List, Some}
use Rattle.hwp_law.specs.hwp_geom.declared.Frame.{Frame}
use Rattle.hwp_law.specs.hwp_geom.declared.Layout.{Layout}
use Rattle.hwp_law.specs.hwp_geom.declared.Who.{Who}
use Rattle.hwp_law.specs.hwp_geom.Bits.{IsLowestBit}
use Rattle.hwp_law.specs.hwp_geom.Limits.{line_limit}
use Rattle.hwp_law.specs.hwp_banks.declared.Origin.{Origin}
use Rattle.hwp_law.specs.hwp_banks.declared.Origin.TheVariants as origins
use Rattle.hwp_law.specs.hwp_banks.Addresses.{line_address}
use Rattle.hwp_law.specs.hwp_banks.Events.{bank_of, own_status}
use Rattle.hwp_plain.specs.hwp_core_rule.declared.SharedWord.{SharedWord}
use Rattle.hwp_plain.specs.hwp_core_rule.declared.SharedWord.TheVariants as places
use Rattle.hwp_plain.specs.hwp_core_rule.Lists.{SomeMember}
use Rattle.hwp_plain.specs.hwp_core_rule.Boards.{Played}
use Rattle.hwp_law.specs.hwp_script_words.declared.Command.TheVariants as commands
use Rattle.hwp_law.specs.hwp_script_words.declared.Script.{Script}
use Rattle.hwp_law.specs.hwp_report_text.declared.Answer.TheVariants as answers
use Rattle.hwp_law.specs.hwp_report_text.declared.EventLine.{EventLine}
use Rattle.hwp_law.specs.hwp_report_text.declared.Report.{Report}
use Rattle.hwp_law.specs.Lines.{answer_of, events_of}
use Rattle.hwp_law.specs.Commands.{command_at}
use Rattle.hwp_law_served.specs.Turns.{Finds}

-- the line tells the scrubber's event at this line of a frame
pub record IsFoundAt (origin : Origin) (frame : Frame) (n : ℕ) (line : EventLine) : Type 0 where
  pub within : n < line_limit
  pub bank : line.bank ≡ bank_of origin
  pub status : line.status ≡ own_status origin
  pub addr : line.addr ≡ line_address frame n

-- the command has such a line
abbrev pub HasFound : Report → Who → Origin → Frame → ℕ → Type 0
HasFound report who origin frame n = SomeMember (IsFoundAt origin frame n) (events_of report who)

-- the word of a frame's bad lines, or of its weak lines
abbrev pub damage_word : Origin → Frame → SharedWord
damage_word origins.WeakLine frame = places.Weak frame
damage_word _ frame = places.Bad frame

-- the lowest line of such a word that a step of the command showed
abbrev pub LowestShown : Layout → List Played → Who → Origin → Frame → ℕ → Type 0
LowestShown layout turns who origin frame n = Finds layout turns who (damage_word origin frame) (λ (word : ℕ). IsLowestBit word 0 n)

-- each line that the scrubber tells stands at a step that showed it as the lowest
abbrev pub AreFoundShown : Script → Report → List Played → Who → Origin → Type 0
AreFoundShown script report turns who origin = (frame : Frame) (n : ℕ) → HasFound report who origin frame n → LowestShown script.layout turns who origin frame n

-- a step showed the frame's word, and the frame has its event exactly where the word isn't 0, at its lowest line
abbrev pub IsWordFound : Script → Report → List Played → Who → Origin → Frame → Type 0
IsWordFound script report turns who origin frame =
    Finds script.layout turns who (damage_word origin frame) (λ (word : ℕ). (n : ℕ) → IsLowestBit word 0 n ↔ HasFound report who origin frame n)

-- a scrub that went to its end looked at each of its frames
abbrev pub AreLookedAt : Script → Report → List Played → Who → Frame → Frame → Type 0
AreLookedAt script report turns who first last =
    (frame : Frame) → first.0 ≤ frame.0 → frame.0 ≤ last.0 → IsWordFound script report turns who origins.BadLine frame × IsWordFound script report turns who origins.WeakLine frame

-- the events of scrubs
pub record ScrubsShown (script : Script) (report : Report) (turns : List Played) : Type 0 where
  pub bad : (who : Who) (first last : Frame) → command_at script who ≡ Some (commands.Scrub first last) → AreFoundShown script report turns who origins.BadLine
  pub weak : (who : Who) (first last : Frame) → command_at script who ≡ Some (commands.Scrub first last) → AreFoundShown script report turns who origins.WeakLine
  pub whole : (who : Who) (first last : Frame) (n : ℕ) → command_at script who ≡ Some (commands.Scrub first last) → answer_of report who ≡ Some (answers.Scrubbed n) → AreLookedAt script report turns who first last
